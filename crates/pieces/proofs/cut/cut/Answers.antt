use native.Mathlib.Omega.{arith}
use Rattle.std.proofs.Common.{ℕ, List, ◌≤◌, ◌≡◌, true, length, rules}
use Rattle.octets.specs.Octets.{Bytes}
use Rattle.machine.specs.Limits.{longest, slots_of}
use Rattle.machine.specs.Codes.{role_send}
use Rattle.machine.specs.Layout.{decode}
use Rattle.machine.specs.Sound.{sound}
use Rattle.pieces.proofs.Cuts.{Cuttable, cut-head, cut-start, cut-end, cut-cell, cut_on}
use Rattle.pieces.proofs.cut.cut.Goals as goal

-- what the function is given
given : (b d : List ℕ) → Bytes b → Bytes d → (sound role_send b ≡ true) × (length d ≤ longest) × (slots_of (length d) ≤ length (decode b).free_cells)
    → Cuttable b d
given b d y z h = record { stored = y; given = z; sound = h.0; fits = h.1; room = h.2 }

pub bounds-store-3 : goal.bounds-store-3
bounds-store-3 c = cut-head (given c.args.store.now c.args.bytes.now (search rules) (search rules) c.requires)

pub loop-index-init : goal.loop-index-init
loop-index-init c = cut-start (given c.args.store.now c.args.bytes.now (search rules) (search rules) c.requires)

pub lay-free-requires : goal.lay-free-requires
lay-free-requires c =
    cut-cell (given c.args.store.now c.args.bytes.now (search rules) (search rules) c.requires) c.loop-index.invariant
    (omega (arith, c.loop-index-test.true, c.slots-index-end.ensures)) c.from-in-loop-index.ensures

pub loop-index-preserved : goal.loop-index-preserved
loop-index-preserved c =
    cut_on (given c.args.store.now c.args.bytes.now (search rules) (search rules) c.requires) c.loop-index.invariant
    (omega (arith, c.loop-index-test.true, c.slots-index-end.ensures)) c.from-in-loop-index.ensures c.lay-free.ensures.0
    (rw c.from.ensures at c.lay-free.ensures.1)
    (omega arith)

pub copy_in-requires : goal.copy_in-requires
copy_in-requires c =
    let h = cut-head (given c.args.store.now c.args.bytes.now (search rules) (search rules) c.requires) in
    omega (arith, c.loop-index.invariant.long)

pub returns : goal.returns
returns c =
    cut-end (given c.args.store.now c.args.bytes.now (search rules) (search rules) c.requires) c.loop-index.invariant
    (omega (arith, c.loop-index-test.false, c.slots-index-end.ensures)) c.copy_in.ensures
