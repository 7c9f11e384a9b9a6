-- `distinct` of records as a fact: no two have one key. Assumes nothing.
use Rattle.std.specs.Prelude.{◌≡◌, refl, Bool, true, not, List, [], ◌∷◌}
use Rattle.std.proofs.lemmas.Bool.{not-true}
use Rattle.octets.specs.BoolsLaws.{split, both}
use Rattle.octets.specs.Lists.{all}
use Rattle.octets.specs.ListsLaws.{all_true, true-all, all-to}
use Rattle.machine.specs.Values.{Rec, same_key}
use Rattle.machine.specs.Sound.{distinct}
use Rattle.machine.specs.Receive.{rec_key}
use Rattle.machine_steps.proofs.Find.{Differs}
use Rattle.machine_steps.proofs.Unique.{Unique}

-- the test that `distinct` asks of each later record
abbrev unlike : Rec → Rec → Bool
unlike r q = not (same_key (rec_key r) (rec_key q))

pub distinct-unique : (l : List Rec) → distinct l ≡ true → Unique same_key rec_key l
unfolding distinct
distinct-unique [] h = tt
distinct-unique (r ∷ l) h =
    let s = split (all (unlike r) l) (distinct l) h in (
      all-to (λ (q : Rec). unlike r q ≡ true) (Differs same_key rec_key (rec_key r)) l (λ q e. not-true (same_key (rec_key r) (rec_key q)) e)
          (all_true (unlike r) l s.0),
      distinct-unique l s.1,
    )

pub unique-distinct : (l : List Rec) → Unique same_key rec_key l → distinct l ≡ true
unfolding distinct
unique-distinct [] u = refl
unique-distinct (r ∷ l) u =
    both (all (unlike r) l) (distinct l)
    (true-all (unlike r) l (all-to (Differs same_key rec_key (rec_key r)) (λ (q : Rec). unlike r q ≡ true) l (λ q e. rw e) u.0))
    (unique-distinct l u.1)
