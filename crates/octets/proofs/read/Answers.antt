-- The N bytes stand behind zeros, and the library reads all eight. Assumes nothing.
use Rattle.std.proofs.Common.{arith, ◌≡◌, ap, ◌∙◌, ◌+◌, length}
use Rattle.octets.specs.Octets.{part, num}
use Rattle.octets.specs.PartsLaws.{length_part, part_of, bytes-part}
use Rattle.octets.specs.NumbersLaws.{num-lt}
use Rattle.octets.proofs.Digits.{from-bytes, num-padded, capacity_is}
use Rattle.octets.proofs.read.Goals as goal

pub returns : goal.returns
returns g c =
    let a = c.args in
    let n = g.row.N in
    let came : c.copy_from_slice.new.self ≡ part a.s.now a.a n = c.copy_from_slice.ensures.after ∙ part_of a.s.now a.a (a.a + n) n (omega arith) in
    let long = ap length came ∙ length_part a.s.now a.a n c.requires.1 in
    let e = c.from_be_bytes.ensures ∙ from-bytes _ ∙ num-padded n _ _ c.requires.0 long ∙ ap (num n) came in
    (e, omega (arith, e, capacity_is n, num-lt n (part a.s.now a.a n) (bytes-part a.s.now a.a n (λ i. (c.type_inv.s i).fits))))
