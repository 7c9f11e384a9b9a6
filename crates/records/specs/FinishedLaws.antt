-- A record that becomes whole, from bytes to stores. Assumes nothing.
use Rattle.std.specs.Prelude.{ℕ, suc, ◌<◌, ◌≡◌, refl, true, List, [], ◌∷◌, length}
use Rattle.std.proofs.Common.{arith, sym, ap, ◌∙◌}
use Rattle.std.proofs.Math.Option.{Option}
use Rattle.octets.specs.Octets.{put, Bytes}
use Rattle.machine.specs.Limits.{rec_count}
use Rattle.machine.specs.Codes.{role_receive, kind_whole}
use Rattle.machine.specs.Values.{Rec, Store}
use Rattle.machine.specs.Layout.{whole_at, rec_off, rec_of, encode, decode}
use Rattle.machine.specs.Sound.{is_complete}
use Rattle.machine.specs.Receive.{done_at, done_step}
use Rattle.machine_writes.specs.Encodes
use Rattle.machine_writes.specs.Done.{link_last, done_bytes}
use Rattle.records.specs.Seek.{seek}
use Rattle.records.specs.SoughtLaws.{seek-link}
use Rattle.records.specs.InChainsLaws.{whole-none}
use Rattle.records.specs.HeldAt.{place_at, rec_in, key_in, HeldAt}
use Rattle.records.specs.MetLaws.{valid, rep, held-here, here-not-whole, here-links}
use Rattle.records.specs.AroundLaws.{here-around, around-next, around-link}
use Rattle.records.specs.Finishing.{finished}

module _ (b : List ℕ) (y : Bytes b) (at : ℕ) (h : HeldAt role_receive b at) where
  abbrev p : ℕ
  p = place_at b at

  abbrev r : Rec
  r = rec_in b at

  abbrev s : Store
  s = decode b

  abbrev l : List Rec
  l = (here-around role_receive b y at h).before

  abbrev m : List Rec
  m = (here-around role_receive b y at h).behind

  -- a search for the record's own key ends where the whole chain ends
  last-is : seek (key_in b at) b whole_at ≡ link_last s.whole
  last-is =
      (whole-none role_receive s (valid role_receive b y h.sound) b (rep role_receive b y h.sound) (key_in b at) (here-not-whole role_receive b y at h)).is

  pub last-inside : seek (key_in b at) b whole_at < length b
  last-inside =
      let z = here-links role_receive b y at h in
      omega (arith, z.long, (seek-link (key_in b at) b (suc rec_count) whole_at z z.whole).inside)

  done-bytes : finished at (seek (key_in b at) b whole_at) b ≡ done_bytes s b l r m
  unfolding rec_of
  done-bytes = λ i.
      put (put (put b (around-link role_receive b y at h i) (around-next role_receive b y at h i ∷ [])) (rec_off p) (0 ∷ kind_whole ∷ [])) (last-is i) (p ∷ [])

  pub finished-encode : (last : ℕ) → last ≡ seek (key_in b at) b whole_at → is_complete r ≡ true → finished at last b ≡ encode (done_step (key_in b at) s)
  finished-encode last e c =
      ap (λ (o : ℕ). finished at o b) e ∙ done-bytes
      ∙ Encodes.done-encode role_receive b y h.sound (key_in b at) r (held-here role_receive b y at h) refl c
      ∙ ap (λ (o : Option Rec). encode (done_at o s)) (sym (held-here role_receive b y at h))

pub ruleset finishes = (last-inside, finished-encode)
