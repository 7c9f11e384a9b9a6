-- A row of tests as one: `every (p ∷ q ∷ r ∷ [])` is `p && q && r`.
use Rattle.std.specs.Prelude.{Bool, true, ◌&&◌, List, [], ◌∷◌}

-- p and every test of the list
abbrev pub also : Bool → List Bool → Bool
also p [] = p
also p (q ∷ l) = also (p && q) l

-- every test of the list
abbrev pub every : List Bool → Bool
every [] = true
every (p ∷ l) = also p l
