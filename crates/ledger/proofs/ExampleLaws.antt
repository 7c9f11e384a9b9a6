-- The machine's worked runs as the calls answer them, from fresh stores of two cells and of one; and a survey in two pieces, under the id of which
-- another starts while a late piece of the first is under way. BLAKE3 is computed for three bytes only: of the two pieces it is given that, mixed,
-- they have another sum. Assumes nothing else.
use Rattle.std.specs.Prelude.{ℕ, ◌<◌, ◌≡◌, refl, true, false, cond, List, [], ◌∷◌, ◌++◌, map, length, replicate, eqb, ltb}
use Rattle.std.proofs.Common.{arith, ap, ◌∙◌, ltb-true}
use Rattle.std.proofs.Math.Option.{some}
use Rattle.octets.specs.Octets.{part, be, num, same, Bytes}
use Rattle.octets.specs.Lists.{all, All}
use Rattle.octets.specs.ListsLaws.{all_true, all-to, ◌&◌}
use Rattle.octets.specs.CompareLaws.{same_refl}
use Rattle.octets.specs.NumbersLaws.{bytes-be}
use Rattle.blake3.specs.Words.{add, rotr}
use Rattle.blake3.specs.Rounds.{half, mix, step, round, rounds}
use Rattle.blake3.specs.Compression.{start, compress, chaining, root_block}
use Rattle.blake3.specs.Tree.{word_at, block_at, flags_at, before, last_node, chunk_node, parent_node, level, node}
use Rattle.blake3.specs.Tree.{bytes, output_blocks, output, sum_by, plain, blake3}
use Rattle.blake3.specs.Laws.{length-blake3, blake3-below}
use Rattle.packet.specs.declared.header.Kind.TheVariants.{Chunk}
use Rattle.packet.specs.Frame.{kind_of, done_flag, is_frame, is_enough}
use Rattle.packet.specs.Outgoing.{header, chunk_packet, done_packet}
use Rattle.packet.specs.LengthsLaws.{length-done}
use Rattle.machine.specs.Codes.{role_receive, role_send}
use Rattle.machine.specs.Values.{Rec, Store, same_key, equal_in_five}
use Rattle.machine.specs.Counting.{rise}
use Rattle.machine.specs.Sources.{cells_from}
use Rattle.machine.specs.Sound.{fresh, sizes}
use Rattle.machine.specs.Find.{find, swap, without}
use Rattle.machine.specs.Refusals.{refusal}
use Rattle.machine.specs.Pieces.{new_cell, put_piece, joined}
use Rattle.machine.specs.Receive.{init_at, chunk_at, done_at}
use Rattle.machine.specs.Packet.{Packet, kind, is_kind, packet_room, too_short, done_row, kind_row, recv_step, send_step}
use Rattle.machine.specs.Samples.{id, topic, init, another, chunk, address}
use Rattle.machine.specs.WorkedLaws.{done, survey_of, arriving, old, new, piece0, piece1}
use Rattle.machine_laws.specs.Fields.{bytes_of, bytes-append}
use Rattle.machine_laws.specs.Fresh.{fresh-valid}
use Rattle.ledger.specs.Run.{Call, packet, answered, fresh_stores}
use Rattle.ledger.proofs.PacketsLaws.{number, numbers, Full, packets-answer}

-- what the calls answer to frames, one after the other
abbrev heard : List ℕ → Packet
heard f = record { frame = f; from = address; to = address; rules = []; known = 1 }

abbrev answers : List (List ℕ) → List ℕ
answers fs = map (λ (c : Call × ℕ). c.1) (answered (map (λ (p : Packet). packet p (replicate packet_room 0)) (map heard fs)) (fresh_stores 2 1))

abbrev sender : Store
sender = fresh role_send 1

-- ---- frames are whole

-- what a test shows to be bytes
small : (l : List ℕ) → all (λ x. ltb x 256) l ≡ true → Bytes l
small l t = bytes_of l (all-to (λ x. ltb x 256 ≡ true) (λ x. x < 256) l (λ x h. ltb-true x 256 h) (all_true (λ x. ltb x 256) l t))

full : (l : List ℕ) → Bytes l → is_frame l ≡ true → is_enough (kind (heard l)) l ≡ true → is_kind (kind (heard l)) ≡ true → Full (heard l)
unfolding address
full l y e n k = record {
  typed = record { frame = y; from = (refl, small address refl); to = (refl, small address refl) };
  long = e;
  enough = n;
  kinded = k;
}

full-init : (n : ℕ) → Full (heard (init n))
unfolding init header id be part num kind_of
full-init n =
    full (init n)
    (bytes-append (header id 0x84) (be 8 n ++ (0 ∷ [])) (small (header id 0x84) refl) (bytes-append (be 8 n) (0 ∷ []) (bytes-be 8 n) (small (0 ∷ []) refl)))
    refl refl refl

full-another : (n : ℕ) → Full (heard (another n))
unfolding another topic header id be part num kind_of
full-another n =
    full (another n)
    (bytes-append (header id 0x84) (be 8 n ++ (1 ∷ topic)) (small (header id 0x84) refl)
    (bytes-append (be 8 n) (1 ∷ topic) (bytes-be 8 n) (small (1 ∷ topic) refl)))
    refl refl refl

full-chunk : (index offset : ℕ) (l : List ℕ) → all (λ x. ltb x 256) (chunk index offset l) ≡ true → is_frame (chunk index offset l) ≡ true
    → is_enough Chunk (chunk index offset l) ≡ true → Full (heard (chunk index offset l))
unfolding chunk chunk_packet header id be part num kind_of
full-chunk index offset l t e n = full (chunk index offset l) (small (chunk index offset l) t) e n refl

full-done : (count : ℕ) (l : List ℕ) → Full (heard (done count l))
unfolding done done_packet header id part num kind_of
full-done count l =
    let n : length (done_packet id count (blake3 l)) ≡ 52 = length-done id (blake3 l) count refl (length-blake3 l) in
    full (done_packet id count (blake3 l))
    (bytes-append (header id done_flag) (be 8 count ++ blake3 l) (small (header id done_flag) refl)
    (bytes-append (be 8 count) (blake3 l) (bytes-be 8 count) (blake3-below l)))
    (rw n refl) (rw n refl) refl

-- ---- the runs, on stores

-- a first answer that is known
told : (p : Packet) (l : List Packet) (s : Store) (n : ℕ) → number p s sender ≡ n
    → numbers (p ∷ l) s sender ≡ n ∷ numbers l (cond (eqb n 0) (recv_step (kind p) p s) s) (cond (eqb n 0) (send_step (kind p) p sender) sender)
unfolding numbers
told p l s n e = rw e

-- the survey of two pieces about a topic, and its store
abbrev pieces : List ℕ → List ℕ → List ℕ → Rec
pieces about a b = survey_of about 260 2 (new_cell 2 0 a ∷ new_cell 1 1 b ∷ [])

abbrev holding : List ℕ → List ℕ → List ℕ → Store
holding about a b = (arriving [] (pieces about a b) []).recv

abbrev whole : List ℕ
whole = piece0 ++ piece1

-- of a done, its row of refusals
done-number : (about l a b : List ℕ) → number (heard (done 2 l)) (holding about a b) sender ≡ refusal (done_row 2 (blake3 l) true (some (pieces about a b)))
unfolding done id arriving survey_of part be num same kind_of header done_packet same_key find kind_row blake3 plain sum_by output output_blocks bytes
done-number about l a b = refl

done-right : (about : List ℕ) → number (heard (done 2 whole)) (holding about piece0 piece1) sender ≡ 0
unfolding piece0 piece1 survey_of refusal sizes joined
done-right about = done-number about whole piece0 piece1 ∙ rw (same_refl (blake3 whole))

-- a survey of three bytes, and another under its id; a late piece of the older one; then the new one's
abbrev pub mixed : List (List ℕ)
mixed = init 3 ∷ chunk 0 0 old ∷ another 3 ∷ done 1 new ∷ chunk 0 0 old ∷ done 1 new ∷ chunk 0 0 new ∷ done 1 new ∷ done 1 new ∷ []

mixed-numbers : numbers (map heard mixed) (fresh role_receive 2) sender ≡ 0 ∷ 0 ∷ 0 ∷ 14 ∷ 0 ∷ 16 ∷ 0 ∷ 0 ∷ 8 ∷ []
unfolding numbers old new id topic init another chunk done address part be num same add rotr half mix step round rounds start
    compress chaining root_block word_at block_at flags_at before last_node chunk_node parent_node level node bytes output_blocks output sum_by plain
    blake3 kind_of header chunk_packet
    done_packet same_key equal_in_five rise sizes find swap without refusal put_piece joined init_at chunk_at done_at kind_row recv_step send_step
    too_short cells_from
mixed-numbers = refl

-- a survey of two pieces, its packets lost, repeated and out of order, its init late once more; and what comes when it is whole
abbrev pub lossy : List (List ℕ)
lossy =
    init 260 ∷ init 260 ∷ chunk 1 250 piece1 ∷ chunk 1 250 piece1 ∷ init 260 ∷ done 1 whole ∷ done 2 whole ∷ chunk 0 0 piece0 ∷ done 2 whole
    ∷ chunk 1 250 piece1 ∷ done 2 whole ∷ init 260 ∷ []

lossy-numbers : numbers (map heard lossy) (fresh role_receive 2) sender ≡ 0 ∷ 0 ∷ 0 ∷ 0 ∷ 0 ∷ 13 ∷ 14 ∷ 0 ∷ 0 ∷ 8 ∷ 8 ∷ 5 ∷ []
unfolding numbers id init chunk done address survey_of arriving part be num same kind_of header chunk_packet done_packet same_key equal_in_five rise find
    swap without refusal put_piece init_at chunk_at done_at kind_row recv_step send_step too_short cells_from piece0 piece1
lossy-numbers =
    ap (λ (l : List ℕ). 0 ∷ 0 ∷ 0 ∷ 0 ∷ 0 ∷ 13 ∷ 14 ∷ 0 ∷ l)
    (told (heard (done 2 whole)) (map heard (chunk 1 250 piece1 ∷ done 2 whole ∷ init 260 ∷ [])) (holding [] piece0 piece1) 0 (done-right []))

-- a survey of two pieces, and another under its id; a late second piece of the older one; then the new one's. The mixed pieces have another sum
abbrev pub old0 : List ℕ
old0 = replicate 250 1

abbrev pub old1 : List ℕ
old1 = replicate 10 2

abbrev pub Differ : Type 0
Differ = same (blake3 (piece0 ++ piece1)) (blake3 (piece0 ++ old1)) ≡ false

abbrev pub late : List (List ℕ)
late = init 260 ∷ chunk 0 0 old0 ∷ another 260 ∷ chunk 1 250 old1 ∷ chunk 0 0 piece0 ∷ done 2 whole ∷ chunk 1 250 piece1 ∷ done 2 whole ∷ []

done-mixed : Differ → number (heard (done 2 whole)) (holding topic piece0 old1) sender ≡ 16
unfolding piece0 piece1 survey_of refusal sizes joined
done-mixed differ = done-number topic whole piece0 old1 ∙ rw differ

late-numbers : Differ → numbers (map heard late) (fresh role_receive 2) sender ≡ 0 ∷ 0 ∷ 0 ∷ 0 ∷ 0 ∷ 16 ∷ 0 ∷ 0 ∷ []
unfolding numbers id topic init another chunk done address survey_of arriving part be num same kind_of header chunk_packet done_packet same_key
    equal_in_five rise find swap without refusal put_piece init_at chunk_at done_at kind_row recv_step send_step too_short cells_from piece0 piece1
late-numbers differ =
    ap (λ (l : List ℕ). 0 ∷ 0 ∷ 0 ∷ 0 ∷ 0 ∷ l)
    (told (heard (done 2 whole)) (map heard (chunk 1 250 piece1 ∷ done 2 whole ∷ [])) (holding topic piece0 old1) 16 (done-mixed differ)
    ∙ ap (λ (l : List ℕ). 16 ∷ 0 ∷ l) (told (heard (done 2 whole)) [] (holding topic piece0 piece1) 0 (done-right topic)))

-- ---- the runs, as the calls answer

worked : (fs : List (List ℕ)) → All Full (map heard fs) → answers fs ≡ numbers (map heard fs) (fresh role_receive 2) sender
worked fs f =
    packets-answer (replicate packet_room 0) (omega arith) (map heard fs) f (fresh role_receive 2) sender
    (fresh-valid role_receive 2 refl (omega arith) (omega arith)) (fresh-valid role_send 1 refl (omega arith) (omega arith))

-- no piece (14), then the older piece (16), then the new one (0); the done repeated finds no record (8)
pub mixed-answers : answers mixed ≡ 0 ∷ 0 ∷ 0 ∷ 14 ∷ 0 ∷ 16 ∷ 0 ∷ 0 ∷ 8 ∷ []
unfolding old new chunk chunk_packet header id be part num
mixed-answers =
    let o = full-chunk 0 0 old refl refl refl in
    let n = full-chunk 0 0 new refl refl refl in
    let d = full-done 1 new in
    worked mixed (full-init 3 & o & full-another 3 & d & o & d & n & d & d & tt) ∙ mixed-numbers

-- the late init changes nothing (0); a wrong count (13), a gap (14), then whole (0); what comes later finds no record (8), and its init is of a whole id (5)
pub lossy-answers : answers lossy ≡ 0 ∷ 0 ∷ 0 ∷ 0 ∷ 0 ∷ 13 ∷ 14 ∷ 0 ∷ 0 ∷ 8 ∷ 8 ∷ 5 ∷ []
unfolding piece0 piece1 chunk chunk_packet header id be part num
lossy-answers =
    let i = full-init 260 in
    let c = full-chunk 1 250 piece1 refl refl refl in
    let d = full-done 2 whole in
    worked lossy (i & i & c & c & i & full-done 1 whole & d & full-chunk 0 0 piece0 refl refl refl & d & c & d & i & tt) ∙ lossy-numbers

-- another sum (16) until the right piece has come (0)
pub late-answers : Differ → answers late ≡ 0 ∷ 0 ∷ 0 ∷ 0 ∷ 0 ∷ 16 ∷ 0 ∷ 0 ∷ []
unfolding piece0 piece1 chunk chunk_packet header id be part num
late-answers differ =
    let d = full-done 2 whole in
    worked late
    (full-init 260 & full-chunk 0 0 old0 refl refl refl & full-another 260 & full-chunk 1 250 old1 refl refl refl & full-chunk 0 0 piece0 refl refl refl & d
    & full-chunk 1 250 piece1 refl refl refl & d & tt)
    ∙ late-numbers differ
