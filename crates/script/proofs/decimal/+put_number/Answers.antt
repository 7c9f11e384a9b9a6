-- The digits in front of the last are written, and it behind them. Assumes nothing.
use Rattle.std.proofs.Common.{ℕ, rules, arith}
use Rattle.script.specs.DecimalLaws.{bits-short, decimal-longer}
use Rattle.script.proofs.Writes.{Front, none_in_front, some_in_front, last-digit}
use Rattle.script.proofs.decimal.+put_number.Goals.{Joined-n-lt10, then-n-lt10, else-n-lt10}
use Rattle.script.proofs.decimal.+put_number.Goals as goal

front : (t : ℕ) (c : goal.Joined-n-lt10 t) → Front c.args.text.now c.if-n-lt10.text c.args.at c.if-n-lt10.last c.args.n
front t c = elim c.if-n-lt10.branch [
  | then-n-lt10 w ↦ rw (w.text-is, w.last-is) (none_in_front _ _ _ w.if-n-lt10.true)
  | else-n-lt10 w ↦
      rw (w.text-is, w.last-is)
      (some_in_front w.if-n-lt10.false (bits-short c.args.n (search rules)) w.put_number-last.ensures.0 w.put_number-last.ensures.1)
]

pub put_number-last-requires : goal.put_number-last-requires
put_number-last-requires t c =
    let longer = decimal-longer c.args.n c.if-n-lt10.false (bits-short c.args.n (search rules)) in
    (omega (arith, c.if-n-lt10.false, c.decreases), omega (arith, c.requires, longer))

pub bounds-text-last : goal.bounds-text-last
bounds-text-last t c = (last-digit (front t c) c.requires).0

pub overflow_add-result : goal.overflow_add-result
overflow_add-result t c = let within = (last-digit (front t (goal.at.overflow_add-result t c).Joined-n-lt10) c.requires).0 in search rules

pub returns : goal.returns
returns t c = let l = last-digit (front t (goal.at.returns t c).Joined-n-lt10) c.requires in (l.1, l.2)
