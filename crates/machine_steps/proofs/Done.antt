-- Done: a complete record that becomes whole leaves a receive store valid. Assumes nothing.
use Rattle.std.proofs.Common.{arith, ap, ◌∙◌, append_assoc}
use Rattle.std.specs.Prelude.{◌≡◌, refl, true, List, [], ◌∷◌, ◌++◌}
use Rattle.std.proofs.Math.Option.{some}
use Rattle.octets.specs.ListsLaws.{all_join}
use Rattle.machine.specs.Codes.{role_receive, kind_arriving, kind_whole}
use Rattle.machine.specs.Values.{Rec, Store, Key, same_key}
use Rattle.machine.specs.Sources.{cells_from}
use Rattle.machine.specs.Sound.{is_complete}
use Rattle.machine.specs.Valid.{RecSized, Valid}
use Rattle.machine.specs.Find.{without}
use Rattle.machine.specs.Receive.{rec_key, found, dropped, done_at}
use Rattle.machine_laws.specs.Counting.{total-append}
use Rattle.machine_laws.specs.Fine.{Fine, fine-fits}
use Rattle.machine_laws.specs.Keys.{key-eq, key-refl}
use Rattle.machine_steps.proofs.Find.{all_without, total-without, without-append}
use Rattle.machine_steps.proofs.Unique.{Unique, absent-without, unique-without, unique-last}
use Rattle.machine_steps.proofs.Keys.{distinct-unique}
use Rattle.machine_steps.proofs.Counts.{own_place, in_cells, held-from}
use Rattle.machine_steps.proofs.Keeps.{Fits, keeps-valid}
use Rattle.machine_steps.proofs.Held.{held-own, held-fine, held-sized}

-- a complete record that arrives is fine as a whole one
complete-fine : (r : Rec) → is_complete r ≡ true → Fine role_receive kind_arriving r → Fine role_receive kind_whole r
complete-fine r c f = record {
  reply = f.reply;
  total = f.total;
  sending = f.sending;
  cells = f.cells;
  rises = f.rises;
  low = f.low;
  high = f.high;
  done = c;
  cut = refl;
}

pub done-valid : (k : Key) (r : Rec) (s : Store) → found k s.held ≡ some r → is_complete r ≡ true → Valid role_receive s
    → Valid role_receive (done_at (some r) s)
unfolding done_at
done-valid k r s e c v =
    let h : found (rec_key r) s.held ≡ some r = held-own k r s e in
    let f : Fits role_receive kind_whole r = fine-fits role_receive kind_whole r (complete-fine r c (held-fine role_receive k r s e v)) in
    let l : List Rec = without same_key rec_key (rec_key r) (s.held ++ s.whole) in
    let u : l ++ (r ∷ []) ≡ dropped (rec_key r) s.held ++ (s.whole ++ (r ∷ [])) =
    ap (λ (x : List Rec). x ++ (r ∷ [])) (without-append same_key rec_key (rec_key r) r s.held s.whole h)
    ∙ append_assoc (dropped (rec_key r) s.held) s.whole (r ∷ []) in
    let d : Unique same_key rec_key (s.held ++ s.whole) = distinct-unique (s.held ++ s.whole) v.ids in
    keeps-valid role_receive s (done_at (some r) s)
    (record {
      setup = refl;
      held = all_without same_key rec_key (Fits role_receive kind_arriving) (rec_key r) s.held v.held;
      whole = all_join (Fits role_receive kind_whole) s.whole (r ∷ []) v.whole (f, tt);
      kinds = refl;
      recs = λ n. omega (arith, total-without same_key rec_key (own_place n) (rec_key r) r s.held h, total-append (own_place n) s.whole (r ∷ []));
      cells = λ n. omega (arith, total-without same_key rec_key (in_cells n) (rec_key r) r s.held h, total-append (in_cells n) s.whole (r ∷ []));
      ids = rw (← u)
          (unique-last same_key rec_key key-eq key-refl r l (absent-without same_key rec_key key-eq key-refl (rec_key r) (s.held ++ s.whole) d)
          (unique-without same_key rec_key key-eq key-refl (rec_key r) (s.held ++ s.whole) d));
      sized = rw (← u)
          (all_join RecSized l (r ∷ []) (all_without same_key rec_key RecSized (rec_key r) (s.held ++ s.whole) v.sized)
          (held-sized role_receive k r s e v, tt));
      sources = λ o a.
          let whole = total-append (cells_from a) s.whole (r ∷ []) in
          omega (arith, total-without same_key rec_key (cells_from a) (rec_key r) r s.held h, whole, held-from a s, v.sources o a);
    })
    v
