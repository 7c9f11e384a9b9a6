-- The writes of a record that is opened, one behind the other. In each law b is the store at entry and m1, m2, .. what it is after each call.
-- Assumes nothing.
use Prim.Native.Nat.{ℕ, suc, ◌+◌, ◌-◌, ◌≤◌}
use native.Mathlib.Omega.{arith}
use mathlib.Core.Path.{◌≡◌, refl, ap, ◌∙◌}
use mathlib.Core.List.{List, [], ◌∷◌, ◌++◌}
use lib.ListN.{length, get_or, replicate, length-replicate}
use Rattle.octets.specs.Octets.{put, be}
use Rattle.octets.specs.NumbersLaws.{length-be}
use Rattle.octets.specs.WrittenLaws.{Written, wrote, then}
use Rattle.machine.specs.Limits.{largest_topic, rec_bytes, slots_of}
use Rattle.machine.specs.Values.{Label}
use Rattle.machine.specs.Layout.{free_at, held_at, id_at, source_at, destination_at, total_at, created_at, end_at, topic_at, id_width, address_width}
use Rattle.machine.specs.Layout.{number_width, rec_off}
use Rattle.records.specs.Opening.{opened, FieldsFit, front_of, rest_of}

-- w of k bytes comes next, at o
next : {b m l v : List ℕ} {a n : ℕ} (o : ℕ) (w : List ℕ) (k : ℕ) → Written b a m v n → l ≡ put m o w → o ≡ a + n → length w ≡ k → a + (n + k) ≤ length b
    → Written b a l (v ++ w) (n + k)
next {b} {m} o w k h e q s f = then w k h (e ∙ ap (λ (x : ℕ). put m x w) q) s f

pub front-is : (b m1 m2 m3 l : List ℕ) (row kind cell r q : ℕ) (h : Label) → FieldsFit h → row + rec_bytes ≤ length b → r ≡ h.reply → q ≡ slots_of h.total
    → m1 ≡ put b (row + 1) (kind ∷ r ∷ 0 ∷ 0 ∷ cell ∷ length h.topic ∷ q ∷ []) → m2 ≡ put m1 (row + id_at) h.id
    → m3 ≡ put m2 (row + source_at) h.source → l ≡ put m3 (row + destination_at) h.destination → l ≡ put b (row + 1) (front_of kind cell h)
front-is b m1 m2 m3 l row kind cell r q h z f e1 e2 w1 w2 w3 w4 =
    let start = w1 ∙ (λ i. put b (row + 1) (kind ∷ e1 i ∷ 0 ∷ 0 ∷ cell ∷ length h.topic ∷ e2 i ∷ [])) in
    (next (row + destination_at) h.destination address_width
    (next (row + source_at) h.source address_width
    (next (row + id_at) h.id id_width (wrote start refl (omega arith)) w2 (omega arith) z.id (omega arith))
    w3 (omega arith) z.source (omega arith))
    w4 (omega arith) z.destination (omega arith)).is

pub rest-is : (b m1 m2 m3 m4 l : List ℕ) (row total created end : ℕ) (topic : List ℕ) → length topic ≤ largest_topic → row + rec_bytes ≤ length b
    → m1 ≡ put b (row + total_at) (be number_width total) → m2 ≡ put m1 (row + created_at) (be number_width created)
    → m3 ≡ put m2 (row + end_at) (be number_width end)
    → m4 ≡ put m3 (row + topic_at) topic → l ≡ put m4 (row + topic_at + length topic) (replicate (suc largest_topic - length topic) 0)
    → l ≡ put b (row + total_at) (rest_of total created end topic)
rest-is b m1 m2 m3 m4 l row total created end topic z f w1 w2 w3 w4 w5 =
    (next (row + topic_at + length topic) (replicate (suc largest_topic - length topic) 0) (suc largest_topic - length topic)
    (next (row + topic_at) topic (length topic)
    (next (row + end_at) (be number_width end) number_width
    (next (row + created_at) (be number_width created) number_width (wrote w1 (length-be number_width total) (omega arith))
    w2 (omega arith) (length-be number_width created) (omega arith))
    w3 (omega arith) (length-be number_width end) (omega arith))
    w4 (omega arith) refl (omega arith))
    w5 (omega arith) (length-replicate {A = ℕ} (suc largest_topic - length topic) 0) (omega arith)).is

pub opened-is : (b m l : List ℕ) (row : ℕ) → row ≡ rec_off (get_or b free_at 0) → m ≡ put b row (get_or b held_at 0 ∷ [])
    → l ≡ put m free_at (get_or b row 0 ∷ get_or b free_at 0 ∷ []) → l ≡ opened b
opened-is b m l row e w1 w2 =
    w2 ∙ (λ i. put (w1 i) free_at (get_or b row 0 ∷ get_or b free_at 0 ∷ []))
    ∙ (λ i. put (put b (e i) (get_or b held_at 0 ∷ [])) free_at (get_or b (e i) 0 ∷ get_or b free_at 0 ∷ []))

pub ruleset written = (front-is, rest-is, opened-is)
