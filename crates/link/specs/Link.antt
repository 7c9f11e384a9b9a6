-- The scripted link: packets wait in one queue, first out first delivered, and each that is put out takes the next letter.
use Rattle.std.specs.Prelude.{ℕ, cond, List, [], ◌∷◌, ◌++◌, length, get_or, drop, eqb}
use Rattle.script.specs.Input.{delivered, lost, repeated}
use Rattle.link.specs.Entries.{entries_of}

-- the packets that wait, each as its entry of a run, and the letters to come
pub record Link : Type 0 where
  pub queue : List (List ℕ)
  pub letters : List ℕ

-- "D delivered, L lost, R delivered twice": what a packet with that letter adds to the queue
unfoldable pub copies : ℕ → List ℕ → List (List ℕ)
copies letter e = cond (eqb letter lost) [] (cond (eqb letter repeated) (e ∷ e ∷ []) (e ∷ []))

-- "past the end, D"
abbrev pub next_letter : List ℕ → ℕ
next_letter letters = get_or letters 0 delivered

-- what packets add to the queue, a letter each in their order: "a repeat right after its first"
unfoldable pub through : List (List ℕ) → List ℕ → List (List ℕ)
through [] letters = []
through (e ∷ es) letters = copies (next_letter letters) e ++ through es (drop 1 letters)

-- the packets of a run are put out
unfoldable pub put_out : List ℕ → Link → Link
put_out run l = record { queue = l.queue ++ through (entries_of run) l.letters; letters = drop (length (entries_of run)) l.letters }
