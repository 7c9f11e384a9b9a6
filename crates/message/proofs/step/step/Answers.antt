-- One arm for each kind: its fields are read, and the step of its store is called. Assumes nothing.
use Rattle.std.proofs.Common.{ℕ, ◌≤◌, ◌≡◌, List, ◌++◌, length, refl, ap, subst, ◌∙◌, arith, rules}
use Rattle.octets.specs.Octets.{capacity}
use Rattle.octets.specs.PartsLaws.{length_part, length-part-le}
use Rattle.packet.specs.declared.label.Label as carried
use Rattle.packet.specs.declared.header.Kind.{Kind}
use Rattle.packet.specs.declared.header.Kind.TheVariants.{Init, Chunk, Done, Read, Aborted, AckInit, AckChunk, AckDone}
use Rattle.packet.specs.Frame.{has, reply_flag, needed, init_topic, chunk_size}
use Rattle.packet.specs.FieldsLaws.{header-needed}
use Rattle.machine.specs.Layout.{decode}
use Rattle.machine.specs.Receive.{found, init_step}
use Rattle.machine.specs.Refusals.{refusal}
use Rattle.machine.specs.Packet.{Packet, kind_row, recv_step, send_step, arrival, rules_row, place_row}
use Rattle.records.specs.Opening.{new_label}
use Rattle.records.specs.Step.{Stepped, stepped}
use Rattle.message.proofs.Steps.{Stores, receives, sends}
use Rattle.message.proofs.step.step.Goals as goal
use Rattle.message.proofs.step.step.Goals.{After-id-id}

-- the packet, and the stores as it finds them
abbrev P : After-id-id → Packet
P c = let a = c.args in arrival a.frame.bytes.now a.route.from a.route.to a.rules.now a.known

stores : (c : After-id-id) → Stores c.args.recv.now c.args.send.now
stores c =
    let p = c.requires in
    record { recv-bytes = λ i. (c.type_inv.recv i).fits; send-bytes = λ i. (c.type_inv.send i).fits; recv = p.0; send = p.1 }

id-sized : (c : After-id-id) → length c.id-id.result.now ≡ 8
id-sized c =
    let f = c.args.frame.bytes.now in
    ap length c.id-id.ensures ∙ length_part f 0 8 (omega (arith, c.requires.2, header-needed c.args.kind f))

pub labelled-label-requires : goal.labelled-label-requires
labelled-label-requires c = (id-sized (goal.at.labelled-label-requires c).After-id-id, search rules, search rules)

pub init-requires : goal.init-requires
unfolding capacity
init-requires c =
    let n = c.labelled-label.ensures.1 in (
      c.requires.0,
      record {
        id = n.id;
        source = n.source;
        destination = n.destination;
        total = search rules;
        topic = (omega (arith, c.topic-topic.ensures.1), λ i. (c.type_inv.topic i).fits);
      },
    )

pub chunk-requires : goal.chunk-requires
chunk-requires c =
    let f = c.args.frame.bytes.now in
    (c.requires.0, omega (arith, ap length c.piece-piece.ensures, length-part-le f 36 (chunk_size f)))

-- the row of an init with what was read, and its step
abbrev announced : (rules : List ℕ) → List ℕ → carried.Label → List ℕ → Stepped
announced rules b l topic =
    let s = decode b in
    let row = rules_row l.reply l.source topic rules ++ place_row l.id l.total s (found l.id s.held) in
    stepped (refusal row) (init_step (new_label l topic) s) b

pub returns-in-Init : goal.returns-in-Init
unfolding kind_row recv_step send_step
returns-in-Init c =
    let s = (goal.at.returns-in-Init c).After-id-id in
    let a = c.args in
    receives (P s) (stores s) Init c.in-Init.is refl
    (c.init.ensures
    ∙ (λ j. announced a.rules.now a.recv.now (c.labelled-label.ensures.0 j) (c.topic-topic.ensures.0 j))
    ∙ (λ j. announced a.rules.now a.recv.now (record {
      id = c.id-id.ensures j;
      source = a.route.from;
      destination = a.route.to;
      reply = (c.is_reply-reply.ensures ∙ ap (λ (f : ℕ). has f reply_flag) c.flags.ensures) j;
      total = c.length.ensures j;
    }) (init_topic a.frame.bytes.now)))

pub returns-in-Chunk : goal.returns-in-Chunk
unfolding kind_row recv_step send_step
returns-in-Chunk c =
    let s = (goal.at.returns-in-Chunk c).After-id-id in
    let f : List ℕ = c.args.frame.bytes.now in
    let came : needed Chunk f ≤ length f = subst (λ (k : Kind). needed k f ≤ length f) c.in-Chunk.is c.requires.2 in
    let size = ap length c.piece-piece.ensures ∙ length_part f 36 (chunk_size f) (omega arith) in
    receives (P s) (stores s) Chunk c.in-Chunk.is refl
    (rw (← c.id-id.ensures, ← c.index-index.ensures, ← c.offset-offset.ensures, ← c.piece-piece.ensures, ← size) c.chunk.ensures)

pub returns-in-Done : goal.returns-in-Done
unfolding kind_row recv_step send_step
returns-in-Done c =
    let s = (goal.at.returns-in-Done c).After-id-id in
    receives (P s) (stores s) Done c.in-Done.is refl (rw (← c.id-id.ensures, ← c.count-count.ensures, ← c.sum-sum.ensures) c.done.ensures)

pub returns-in-Read : goal.returns-in-Read
unfolding kind_row recv_step send_step
returns-in-Read c =
    let s = (goal.at.returns-in-Read c).After-id-id in
    sends (P s) (stores s) Read c.in-Read.is refl (rw (← c.id-id.ensures) c.advance.ensures)

pub returns-in-Aborted : goal.returns-in-Aborted
unfolding kind_row recv_step send_step
returns-in-Aborted c =
    let s = (goal.at.returns-in-Aborted c).After-id-id in
    receives (P s) (stores s) Aborted c.in-Aborted.is refl (rw (← c.id-id.ensures) c.abort.ensures)

pub returns-in-AckInit : goal.returns-in-AckInit
unfolding kind_row recv_step send_step
returns-in-AckInit c =
    let s = (goal.at.returns-in-AckInit c).After-id-id in
    sends (P s) (stores s) AckInit c.in-AckInit.is refl (rw (← c.id-id.ensures) c.advance-in-AckInit.ensures)

pub returns-in-AckChunk : goal.returns-in-AckChunk
unfolding kind_row recv_step send_step
returns-in-AckChunk c =
    let s = (goal.at.returns-in-AckChunk c).After-id-id in
    sends (P s) (stores s) AckChunk c.in-AckChunk.is refl (rw (← c.id-id.ensures, ← c.index.ensures) c.ack_chunk.ensures)

pub returns-in-AckDone : goal.returns-in-AckDone
unfolding kind_row recv_step send_step
returns-in-AckDone c =
    let s = (goal.at.returns-in-AckDone c).After-id-id in
    sends (P s) (stores s) AckDone c.in-AckDone.is refl (rw (← c.id-id.ensures) c.advance-in-AckDone.ensures)

pub returns-in-Nothing : goal.returns-in-Nothing
unfolding kind_row refusal
returns-in-Nothing c = rw c.in-Nothing.is
