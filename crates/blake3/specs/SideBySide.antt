-- A round as the code makes it: the four columns side by side, then the four diagonals. RoundLaws says that these are the eight steps of `round`.
-- Assumes nothing.
use Rattle.std.specs.Prelude.{ℕ, List, [], ◌∷◌, ◌++◌}
use Rattle.blake3.specs.Words.{word}
use Rattle.blake3.specs.Rounds.{mix, four}

-- word i of each of four lists
abbrev pub across : ℕ → List ℕ → List ℕ → List ℕ → List ℕ → List ℕ
across i a b c d = word a i ∷ word b i ∷ word c i ∷ word d i ∷ []

-- the state whose columns are a, b, c and d
unfoldable pub upright : List ℕ → List ℕ → List ℕ → List ℕ → List ℕ
upright a b c d = across 0 a b c d ++ across 1 a b c d ++ across 2 a b c d ++ across 3 a b c d

-- the state whose diagonals are a, b, c and d
unfoldable pub slanted : List ℕ → List ℕ → List ℕ → List ℕ → List ℕ
slanted a b c d = across 0 a b c d ++ across 1 d a b c ++ across 2 c d a b ++ across 3 b c d a

-- G on the four columns, with the message words 0 to 7
unfoldable pub columns : List ℕ → List ℕ → List ℕ
columns s m =
    upright (mix (four s 0 4 8 12) (word m 0) (word m 1)) (mix (four s 1 5 9 13) (word m 2) (word m 3))
    (mix (four s 2 6 10 14) (word m 4) (word m 5)) (mix (four s 3 7 11 15) (word m 6) (word m 7))

-- G on the four diagonals, with the message words 8 to 15
unfoldable pub diagonals : List ℕ → List ℕ → List ℕ
diagonals s m =
    slanted (mix (four s 0 5 10 15) (word m 8) (word m 9)) (mix (four s 1 6 11 12) (word m 10) (word m 11))
    (mix (four s 2 7 8 13) (word m 12) (word m 13)) (mix (four s 3 4 9 14) (word m 14) (word m 15))
