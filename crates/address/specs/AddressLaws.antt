-- "Refusals change nothing": what `address` leaves where its number is not 0. Assumes nothing.
use Rattle.std.specs.Prelude.{◌≡◌, List, ℕ, length, eqb, leb}
use Rattle.octets.specs.BoolsLaws.{cases}
use Rattle.answer.specs.Answers.{bare}
use Rattle.machine.specs.Layout.{address_width}
use Rattle.address.specs.Address.{key_bytes, address_of}

pub address-refused : (key out : List ℕ) → ((address_of key out).answer.number ≡ 0 → ⊥)
    → address_of key out ≡ record { answer = bare (address_of key out).answer.number; out = out }
unfolding address_of
address-refused key out h =
    cases (eqb (length key) key_bytes)
    (λ e. cases (leb address_width (length out)) (λ f. absurd (h (rw (e, f)))) (λ f. rw (e, f)))
    (λ e. rw e)
