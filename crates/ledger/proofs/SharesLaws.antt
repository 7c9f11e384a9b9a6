-- What one source leaves to the others, over every list of calls from two fresh stores. Assumes nothing.
use Rattle.std.specs.Prelude.{ℕ, ◌-◌, ◌≤◌, ◌≡◌, List}
use Rattle.std.proofs.Common.{arith}
use Rattle.octets.specs.Lists.{All}
use Rattle.machine.specs.Limits.{most_cells, most_of_source}
use Rattle.machine.specs.Codes.{role_receive}
use Rattle.machine.specs.Values.{Store}
use Rattle.machine.specs.Layout.{decode}
use Rattle.machine_steps.proofs.Shares.{beside, valid-leaves}
use Rattle.ledger.specs.Run.{Call, left, answered, fresh_stores, Typed}
use Rattle.ledger.specs.Ledger.{opening, ledger}
use Rattle.ledger.proofs.HoldsLaws.{fresh-runs}

module _ (c d : ℕ) (h : 1 ≤ c) (g : c ≤ most_cells) (e : 1 ≤ d) (f : d ≤ most_cells) (t : List Call) (y : All Typed t) where
  -- the receive store that the calls left
  abbrev pub received : Store
  received = decode (left t (fresh_stores c d)).recv

  -- as long as it is one to receive: of C cells, whoever sends, a source leaves C − 30
  module _ (r : (ledger (answered t (fresh_stores c d)) opening).recv_role ≡ role_receive) (a : List ℕ) where
    pub calls-leave : received.setup.cells - most_of_source ≤ beside a received
    calls-leave = valid-leaves a received (rw r at (fresh-runs c d h g e f t y).recv.valid)

    -- of 45 it leaves 15
    pub calls-leave-15 : received.setup.cells ≡ most_cells → 15 ≤ beside a received
    calls-leave-15 q = omega (arith, q, calls-leave)
