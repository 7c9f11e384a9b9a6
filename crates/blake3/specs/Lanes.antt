-- Four lists of words in one, side by side: word k of lane j stands at 4 * k + j. Each step of the code leaves in lane j what the step for a single list gives
-- of lane j. Assumes nothing.
use Rattle.std.specs.Prelude.{◌≡◌, ℕ, zero, suc, ◌+◌, ◌*◌, ◌<◌, List, length, slice_set}
use Rattle.blake3.specs.Words.{word, table, first}
use Rattle.blake3.specs.Rounds.{round, permute, rounds}
use Rattle.blake3.specs.Compression.{finish}

-- word k of lane j
abbrev pub in_lane : List ℕ → ℕ → ℕ → ℕ
in_lane v j k = word v (4 * k + j)

-- the first n words of lane j
unfoldable pub lane : ℕ → ℕ → List ℕ → List ℕ
lane n j v = table (in_lane v j) 0 n

-- v with the first n words of w put into lane j
unfoldable pub put_lane : ℕ → ℕ → List ℕ → List ℕ → List ℕ
put_lane zero j w v = v
put_lane (suc k) j w v = slice_set (put_lane k j w v) (4 * k + j) (word w k)

-- v has four lanes of n words
abbrev pub Lanes : ℕ → List ℕ → Type 0
Lanes n v = length v ≡ 4 * n

-- .. and lane j is f j
abbrev pub Each : ℕ → List ℕ → (ℕ → List ℕ) → Type 0
Each n v f = Lanes n v × ((j : ℕ) → j < 4 → lane n j v ≡ f j)

-- a round of each lane, and the message words of the next: from v and m to v' and m'
abbrev pub Rounded : List ℕ → List ℕ → List ℕ → List ℕ → Type 0
Rounded v m v' m' = Each 16 v' (λ j. round (lane 16 j v) (lane 16 j m)) × Each 16 m' (λ j. permute (lane 16 j m))

-- all seven rounds of each lane: from v, with the message words m, to v'
abbrev pub AllRounds : List ℕ → List ℕ → List ℕ → Type 0
AllRounds v m v' = Each 16 v' (λ j. rounds 7 (lane 16 j v) (lane 16 j m))

-- the chaining values h' from the state v after the last round, where h are the input chaining values
abbrev pub Finished : List ℕ → List ℕ → List ℕ → Type 0
Finished v h h' = Each 8 h' (λ j. first 8 (finish (lane 16 j v) (lane 8 j h)))
