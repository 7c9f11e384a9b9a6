-- The two writes make the address. Assumes nothing.
use Prim.Native.Nat.{ℕ, ◌≤◌}
use native.Mathlib.Omega.{arith}
use mathlib.Core.Path.{◌≡◌, refl, ap, ◌∙◌}
use mathlib.Core.List.{List, [], ◌∷◌}
use lib.ListN.{length, get_or, take, drop}
use Rattle.octets.specs.Octets.{part, put}
use Rattle.octets.specs.PartsLaws.{length_part}
use Rattle.octets.specs.WrittenLaws.{wrote, then}
use Rattle.blake3.specs.Tree.{blake3}
use Rattle.blake3.specs.Laws.{length-blake3}
use Rattle.address.specs.Address.{first_byte, address_bytes}

pub address_is : (key out m l sum : List ℕ) (x : ℕ) → sum ≡ blake3 key → x ≡ first_byte (get_or sum 0 0)
    → m ≡ put out 0 (x ∷ []) → l ≡ put m 1 (take 15 (drop 1 sum)) → 16 ≤ length out → l ≡ put out 0 (address_bytes key)
unfolding address_bytes part
address_is key out m l sum x e f p q h =
    (then (part (blake3 key) 1 15) 15
    (wrote {n = 1} (p ∙ ap (λ (y : ℕ). put out 0 (y ∷ [])) (f ∙ ap (λ (s : List ℕ). first_byte (get_or s 0 0)) e)) refl (omega arith))
    (q ∙ ap (λ (s : List ℕ). put m 1 (part s 1 15)) e)
    (length_part (blake3 key) 1 15 (omega (arith, length-blake3 key))) (omega arith)).is
