-- How much room the chunks of a wake take: at most 1,370 bytes for each of eight pieces, so 10,960. Assumes nothing.
use Rattle.std.specs.Prelude.{ℕ, ◌+◌, ◌*◌, ◌≤◌, ◌<◌, ◌≡◌, length}
use native.Mathlib.Omega.{arith}
use Rattle.std.proofs.Common.{sym, ap, ◌∙◌}
use mathlib.Core.List.{List, [], ◌∷◌, ◌++◌, append-nil, append_assoc}
use Rattle.std.proofs.Math.ListN.{length-append}
use Rattle.octets.specs.Lists.{All}
use Rattle.octets.specs.ListsLaws.{all-to}
use Rattle.packet.specs.Outgoing.{chunk_packet}
use Rattle.packet.specs.LengthsLaws.{length-entry, length-chunk}
use Rattle.machine.specs.Limits.{cut_by}
use Rattle.machine.specs.Codes.{role_send}
use Rattle.machine.specs.Values.{Label, Cell}
use Rattle.machine.specs.Valid.{LabelSized}
use Rattle.machine.specs.Choice.{most_sent, chosen}
use Rattle.machine.specs.Send.{chunk_out, chunks_out}
use Rattle.machine.specs.Wake.{send_wake_room}
use Rattle.machine_steps.proofs.Leaving.{leaving-most}
use Rattle.machine_steps.proofs.Waiting.{wants, chosen-all}
use Rattle.records.specs.HeldAt.{rec_in}
use Rattle.records.specs.MetLaws.{here-fine}
use Rattle.outbox.specs.Leaves.{Here}

-- what is sent of one more piece
pub chunks-more : (h : Label) (l : List Cell) (c : Cell) → chunks_out h (l ++ (c ∷ [])) ≡ chunks_out h l ++ chunk_out h c
unfolding chunks_out
chunks-more h [] c = append-nil (chunk_out h c)
chunks-more h (a ∷ l) c =
    ap (λ (x : List ℕ). chunk_out h a ++ x) (chunks-more h l c) ∙ sym (append_assoc (chunk_out h a) (chunks_out h l) (chunk_out h c))

-- a piece that a push cut
abbrev pub Cut : Cell → Type 0
Cut c = length c.bytes ≤ cut_by

-- the pieces that a leaving record sends are such
pub chosen-cut : {b : List ℕ} {link : ℕ} → Here b link → (clock : ℕ) → All Cut (chosen clock (rec_in b link).cells)
chosen-cut {b} {link} h clock =
    let r = rec_in b link in
    chosen-all Cut clock r.cells
    (all-to Cut (λ (c : Cell). wants clock c ≡ _ → Cut c) r.cells (λ c k e. k) (leaving-most r (here-fine role_send b h.bytes link h.held)))

module _ (h : Label) (z : LabelSized h) where
  chunk-room : (c : Cell) → length (chunk_out h c) ≡ 70 + length c.bytes
  chunk-room c =
      omega (
        arith,
        length-entry h.source h.destination (chunk_packet h.id c.index (cut_by * c.index) c.bytes) z.source.0 z.destination.0,
        length-chunk h.id c.bytes c.index (cut_by * c.index) z.id.0,
      )

  chunks-room : (l : List Cell) → All Cut l → length (chunks_out h l) ≤ 1370 * length l
  unfolding chunks_out
  chunks-room [] k = omega arith
  chunks-room (c ∷ l) k = omega (arith, k.0, chunk-room c, chunks-room l k.1, length-append (chunk_out h c) (chunks_out h l))

  -- the chunks of up to eight pieces fit; behind those of up to seven there is room for one more
  pub first-room : (l : List Cell) → All Cut l → length l ≤ most_sent → length (chunks_out h l) ≤ send_wake_room
  first-room l k n = omega (arith, chunks-room l k)

  pub more_room : (l : List Cell) (c : Cell) → All Cut l → Cut c → length l < most_sent → length (chunks_out h l) + 70 + length c.bytes ≤ send_wake_room
  more_room l c k q n = omega (arith, chunks-room l k)
