-- What a record that becomes whole writes, on bytes: the link to it leads on, its link and kind become those of the last whole one, and the whole
-- chain leads to it.
use Rattle.std.specs.Prelude.{ℕ, List, [], ◌∷◌, get_or}
use Rattle.octets.specs.Octets.{put}
use Rattle.machine.specs.Codes.{kind_whole}
use Rattle.machine.specs.Layout.{rec_off}
use Rattle.records.specs.HeldAt.{place_at}

-- the record whose link stands at byte `link` becomes whole; at byte `last` the whole chain ends
abbrev pub finished : ℕ → ℕ → List ℕ → List ℕ
finished link last b =
    put (put (put b link (get_or b (rec_off (place_at b link)) 0 ∷ [])) (rec_off (place_at b link)) (0 ∷ kind_whole ∷ [])) last (place_at b link ∷ [])
