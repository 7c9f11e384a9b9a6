-- The line of an input is the line of its first bytes: what goes on behind them is too long, and they are too. Assumes nothing.
use Rattle.std.proofs.Common.{◌≡◌, ◌∙◌, ℕ, ◌<◌, List, length, take, leb, Option, None, Some, IfSome, ap, arith, length-take}
use Rattle.std.proofs.lemmas.Bool.{leb-true, leb-false, lt-leb}
use Rattle.std.proofs.lemmas.List.{take_all}
use Rattle.octets.specs.BoolsLaws.{cases}
use Rattle.sums.specs.Line.{longest_input, sum_line}

long : (n : ℕ) (s : List ℕ) → longest_input < n → longest_input < length s → sum_line (take n s) ≡ sum_line s
unfolding sum_line
long n s h k = rw (lt-leb (length (take n s)) longest_input (simp length-take (omega arith)), lt-leb (length s) longest_input k)

pub sum_line-take : (n : ℕ) (s : List ℕ) → longest_input < n → sum_line (take n s) ≡ sum_line s
sum_line-take n s h =
    cases (leb (length s) longest_input)
    (λ e. ap sum_line (take_all n s (let short = leb-true _ _ e in omega arith)))
    (λ e. long n s h (leb-false _ _ e))

-- .. where they were read from an input
pub line_of : (known : Option (List ℕ)) (n : ℕ) (bytes read line : List ℕ) → IfSome known (λ all. bytes ≡ take n all) → longest_input < n → read ≡ bytes
    → line ≡ sum_line read → IfSome known (λ all. line ≡ sum_line all)
line_of None n bytes read line e h r f = tt
line_of (Some all) n bytes read line e h r f = f ∙ ap sum_line (r ∙ e) ∙ sum_line-take n all h
