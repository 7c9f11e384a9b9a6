-- Row 27 at its place in the order of a packet: behind 25 and 1, before 20, 2 and all that is the kind's. Assumes nothing.
use Rattle.std.specs.Prelude.{ℕ, ◌≡◌, true, false, List}
use Rattle.std.proofs.Math.Path.{refl}
use Rattle.packet.specs.declared.header.Kind.TheVariants.{Nothing}
use Rattle.packet.specs.Frame.{is_frame, is_enough}
use Rattle.machine.specs.Codes.{role_receive, role_send, bad_frame, short_frame, no_work}
use Rattle.machine.specs.Sound.{sound}
use Rattle.machine.specs.Refusals.{refusal}
use Rattle.machine.specs.Packet.{Packet, kind, packet_row}

module _ (p : Packet) (recv send out : List ℕ) (r : sound role_receive recv ≡ true) (s : sound role_send send ≡ true) where
  -- a length that no frame has is told first, whatever the packet needs
  pub no-frame : is_frame p.frame ≡ false → refusal (packet_row p recv send out) ≡ bad_frame
  unfolding packet_row refusal
  no-frame e = rw (r, s, e) refl

  module _ (f : is_frame p.frame ≡ true) where
    -- then that bytes are missing, whatever the kind and however short the run buffer
    pub short-frame : is_enough (kind p) p.frame ≡ false → refusal (packet_row p recv send out) ≡ short_frame
    unfolding packet_row refusal
    short-frame e = rw (r, s, f, e) refl

    -- and only then that no kind fits
    pub no_kind : is_enough (kind p) p.frame ≡ true → kind p ≡ Nothing → refusal (packet_row p recv send out) ≡ no_work
    unfolding packet_row refusal
    no_kind e k = rw (r, s, f, e, k) refl
