-- `blake3::tree::chunk_values` meets its contract: each lane is carried through its chunk. Assumes nothing.
use Rattle.std.proofs.Common.{◌≡◌, ℕ, ◌+◌, ◌-◌, ◌*◌, ◌/◌, ◌<◌, List, [], ◌∷◌, length, drop, refl, ap, ◌∙◌}
use Rattle.std.proofs.Common.{arith, length-drop, rules}
use Rattle.std.proofs.lemmas.List.{take_rest}
use Rattle.blake3.specs.Words.{word}
use Rattle.blake3.specs.Compression.{chaining}
use Rattle.blake3.specs.Tree.{block_len, chunk_len, before}
use Rattle.blake3.specs.Lanes.{lane, put_lane}
use Rattle.blake3.specs.FourChunks.{end_node, value_at}
use Rattle.blake3.proofs.LaneLaws.{lane-same, lane-other, lanes_put}
use Rattle.blake3.proofs.FourLaws.{short, among}
use Rattle.blake3.proofs.tree.chunk_values.Goals as goal

-- where the chunks 2 and 3 start
abbrev second : ℕ
second = 2 * chunk_len

abbrev third : ℕ
third = 3 * chunk_len

-- where the lanes start, lane 3 at r
abbrev starts : ℕ → List ℕ
starts r = 0 ∷ chunk_len ∷ second ∷ r ∷ []

-- before the first block there is the key
begun : (key : List ℕ) (mode : ℕ) (x : List ℕ) (t : ℕ) {h : List ℕ} → h ≡ key → h ≡ before key mode x t 0
unfolding before
begun key mode x t e = e

pub returns-then-n-eq-FOUR_CHUNKS : goal.returns-then-n-eq-FOUR_CHUNKS
returns-then-n-eq-FOUR_CHUNKS c =
    let g = c.args in
    let m = g.mode.now in
    let s = g.s.now in
    let e = c.whole_chunks.ensures in
    let value : (j : ℕ) → j < 4 → lane 8 j _ ≡ _ =
    λ j h. e.1 j h m.key
    (begun m.key m.flags (drop (word (starts third) j) s) (g.t + j) (c.spread-h.ensures.1 j h)) in (
      e.0,
      among (λ j. lane 8 j c.whole_chunks.new.h ≡ value_at m.key m.flags s g.t j)
          (value 0 (omega arith)) (value 1 (omega arith)) (value 2 (omega arith)) (value 3 (omega arith)),
    )

pub returns : goal.returns
returns c =
    let g = c.args in
    let m = g.mode.now in
    let s = g.s.now in
    let t = g.t in
    let r = c.put.new.v in
    let e = c.whole_chunks-2.ensures in
    let i = (length s - third - 1) / block_len in
    let long : length c.chaining-last.result ≡ 8 = search rules in
    let put : r ≡ put_lane 8 3 c.chaining-last.result c.whole_chunks-2.new.h =
    c.put.ensures ∙ ap (λ (n : ℕ). put_lane n 3 c.chaining-last.result c.whole_chunks-2.new.h) long in
    let at : ℕ → ℕ → List ℕ = λ a j. before m.key m.flags (drop a s) (t + j) i in
    let so_far : (j : ℕ) (h : j < 4) → lane 8 j _ ≡ at (word (starts third) j) j =
    λ j h. c.blocks-2.ensures.1 j h m.key
    (begun m.key m.flags (drop (word (starts third) j) s) (t + j) (c.spread-h.ensures.1 j h)) in
    let value : (j : ℕ) → j < 3 → word (starts third) j ≡ word (starts second) j → lane 8 j r ≡ _ =
    λ j h e'. let k : j < 4 = omega arith in
    ap (lane 8 j) put ∙ lane-other 3 _ _ 8 j k (omega arith) (λ z. omega arith)
    ∙ e.1 j k m.key (so_far j k ∙ ap (λ (a : ℕ). at a j) e') in
    let n = length-drop third s in
    let node = c.last_node.ensures
    ∙ (λ z. end_node m.flags (take_rest s third z) (t + 3) i (c.lane-w.ensures z)) in
    let last : lane 8 3 r ≡ value_at m.key m.flags s t 3 =
    ap (lane 8 3) put ∙ lane-same 3 _ _ 8 (omega arith) e.0 long
    ∙ c.chaining-last.ensures ∙ ap chaining node
    ∙ short m.key m.flags (drop third s) (t + 3) (omega (arith, n)) i
    (omega (arith, n)) (omega (arith, n)) (so_far 3 (omega arith)) in (
      ap length put ∙ lanes_put 3 _ _ 8 e.0,
      among (λ j. lane 8 j r ≡ value_at m.key m.flags s t j)
          (value 0 (omega arith) refl) (value 1 (omega arith) refl) (value 2 (omega arith) refl) last,
    )
