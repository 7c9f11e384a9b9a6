-- What `seek` finds in the bytes of a valid store: the link behind the records that have another key. Assumes nothing.
use Prim.Native.Nat.{ℕ, zero, suc, ◌-◌, ◌≤◌, ◌<◌}
use Rattle.std.proofs.Common.{arith, sym, ◌∙◌, subst, length-append, eq-eqb, ne_eqb}
use Rattle.std.specs.Prelude.{◌≡◌, refl, true, false, length, get_or, eqb}
use Rattle.std.proofs.Math.Path.{ap}
use mathlib.Core.List.{List, [], ◌∷◌, ◌++◌, map, append-nil}
use Rattle.std.proofs.Math.Option.{none, some, none-ne-some}
use Rattle.std.proofs.lemmas.Bool.{eqb-false}
use Rattle.octets.specs.Octets.{part}
use Rattle.octets.specs.BoolsLaws.{cases}
use Rattle.octets.specs.Lists.{All}
use Rattle.octets.specs.ListsLaws.{all_left, all_right}
use Rattle.octets.specs.PartsLaws.{part-part}
use Rattle.machine.specs.Limits.{head_bytes, rec_count, rec_bytes}
use Rattle.machine.specs.Values.{Rec, Key, same_key}
use Rattle.machine.specs.Find.{find}
use Rattle.machine.specs.Receive.{rec_key, found}
use Rattle.machine.specs.Layout.{id_at, id_width, rec_off, rec_place, rec_row, rec_of, rec_at}
use Rattle.machine.specs.Valid.{RecSized}
use Rattle.machine_laws.specs.Rows.{Held, held-left, held-right}
use Rattle.machine_laws.specs.Chains.{lead, rows_to}
use Rattle.machine_laws.specs.RecRow.{rec-back}
use Rattle.machine_laws.specs.Keys.{key-eq, key-refl}
use Rattle.machine_writes.specs.Link.{link_at, link-read, rows_append}
use Rattle.machine_writes.specs.Split.{Split}
use Rattle.machine_writes.specs.Unheld.{rec_tail, rec-parts}
use Rattle.machine_steps.proofs.Find.{find-key}
use Rattle.machine_writes.specs.Links.{RecLink, Links}
use Rattle.records.specs.Seek.{id_in, seek_from, seek}

-- ---- one link

module _ (k : Key) (b : List ℕ) (n at : ℕ) where
  pub seek-end : get_or b at 0 ≡ 0 → seek_from k b (suc n) at ≡ at
  unfolding seek_from
  seek-end e = rw (eq-eqb (get_or b at 0) 0 e)

  pub seek-here : (get_or b at 0 ≡ 0 → ⊥) → same_key k (id_in b (get_or b at 0)) ≡ true → seek_from k b (suc n) at ≡ at
  unfolding seek_from
  seek-here e f = rw (ne_eqb (get_or b at 0) 0 e, f)

  pub seek-next : (get_or b at 0 ≡ 0 → ⊥) → same_key k (id_in b (get_or b at 0)) ≡ false → seek_from k b (suc n) at ≡ seek_from k b n (rec_off (get_or b at 0))
  unfolding seek_from
  seek-next e f = rw (ne_eqb (get_or b at 0) 0 e, f)

-- where links are in range, one stands where the search ends
pub seek-link : (k : Key) (b : List ℕ) (n at : ℕ) → Links b → RecLink b at → RecLink b (seek_from k b n at)
unfolding seek_from
seek-link k b zero at h l = l
seek-link k b (suc n) at h l =
    cases (eqb (get_or b at 0) 0) (λ e. rw e l)
    (λ e. cases (same_key k (id_in b (get_or b at 0))) (λ f. rw (e, f) l)
    (λ f. rw (e, f) (seek-link k b n (rec_off (get_or b at 0)) h (h.recs (get_or b at 0) (omega (arith, eqb-false (get_or b at 0) 0 e)) l.small))))

-- ---- a chain

-- a record's id, in its row
pub row-id : (b : List ℕ) (kind p next : ℕ) (r : Rec) → RecSized r → rec_at b p ≡ rec_row kind next r → id_in b p ≡ rec_key r
unfolding rec_of
row-id b kind p next r z e =
    sym (part-part b (rec_off p) rec_bytes id_at id_width (omega arith)) ∙ ap (λ (l : List ℕ). part l id_at id_width) e
    ∙ ap (λ (x : Rec). x.label.id) (rec-back kind next r z)

-- a chain of records of a kind
module _ (b : List ℕ) (kind : ℕ) where
  abbrev Fine : Rec → Type 0
  Fine r = (0 < r.place) × RecSized r

  -- where the link to what follows the records l stands, if the link to l stands at `at`
  abbrev pub link_past : ℕ → List Rec → ℕ
  link_past at l = link_at rec_place (rec_row kind) head_bytes rec_bytes at l

  -- the link at `at` leads to the records l, and they lead to the place x
  pub record Leads (at x : ℕ) (l : List Rec) : Type 0 where
    pub from : get_or b at 0 ≡ lead x (map rec_place l)
    pub rows : Held (rec_at b) (rows_to rec_place (rec_row kind) x l)
    pub fine : All Fine l

  leads-to : (at x : ℕ) (l : List Rec) → Leads at x l → get_or b (link_past at l) 0 ≡ x
  leads-to at x l h = link-read rec_place (rec_row kind) head_bytes rec_bytes (rec_tail kind) (rec-parts kind) b at x l (omega arith) h.from h.rows

  step : (at x : ℕ) (r : Rec) (l : List Rec) → Leads at x (r ∷ l) → Leads (rec_off r.place) x l
  unfolding link_at
  step at x r l h = record {
    from = leads-to at (lead x (map rec_place l)) (r ∷ []) (record { from = h.from; rows = (h.rows.0, tt); fine = (h.fine.0, tt) });
    rows = h.rows.1;
    fine = h.fine.1;
  }

  front : (at x : ℕ) (l m : List Rec) → Leads at x (l ++ m) → Leads at (lead x (map rec_place m)) l
  front at x l m h =
      let e = rows_append rec_place (rec_row kind) x l m in
      record {
        from = h.from ∙ leads l;
        rows = held-left (rec_at b) (rows_to rec_place (rec_row kind) (lead x (map rec_place m)) l)
            (rows_to rec_place (rec_row kind) x m) (subst (Held (rec_at b)) e h.rows);
        fine = all_left Fine l m h.fine;
      }
    where
      leads : (l : List Rec) → lead x (map rec_place (l ++ m)) ≡ lead (lead x (map rec_place m)) (map rec_place l)
      leads [] = refl
      leads (r ∷ l) = refl

  back : (at x : ℕ) (l m : List Rec) → Leads at x (l ++ m) → Leads (link_past at l) x m
  back at x l m h = record {
    from = leads-to at (lead x (map rec_place m)) l (front at x l m h);
    rows = held-right (rec_at b) (rows_to rec_place (rec_row kind) (lead x (map rec_place m)) l) (rows_to rec_place (rec_row kind) x m)
        (subst (Held (rec_at b)) (rows_append rec_place (rec_row kind) x l m) h.rows);
    fine = all_right Fine l m h.fine;
  }

  first-id : (at x : ℕ) (r : Rec) (l : List Rec) → Leads at x (r ∷ l) → id_in b (get_or b at 0) ≡ rec_key r
  first-id at x r l h = ap (id_in b) h.from ∙ row-id b kind r.place (lead x (map rec_place l)) r h.fine.0.1 h.rows.0

  module _ (k : Key) where
    -- records that have another key are passed
    seek-past : (n at x : ℕ) (l : List Rec) → Leads at x l → found k l ≡ none → length l ≤ n → seek_from k b n at ≡ seek_from k b (n - length l) (link_past at l)
    unfolding link_at find
    seek-past n at x [] h e s = ap (λ (m : ℕ). seek_from k b m at) (omega arith)
    seek-past zero at x (r ∷ l) h e s = absurd (omega arith)
    seek-past (suc n) at x (r ∷ l) h e s =
        cases (same_key k (rec_key r))
        (λ f. absurd (none-ne-some r (sym (rw f at e))))
        (λ f. seek-next k b n at (λ z. omega (arith, h.from, h.fine.0.0)) (ap (same_key k) (first-id at x r l h) ∙ f)
        ∙ ap (λ (p : ℕ). seek_from k b n (rec_off p)) h.from
        ∙ seek-past n (rec_off r.place) x l (step at x r l h) (rw f at e) (omega arith)
        ∙ ap (λ (m : ℕ). seek_from k b m (link_past (rec_off r.place) l)) (omega arith))

    -- `seek` ends at the byte behind the records l, where the link x stands
    pub record Sought (at x : ℕ) (l : List Rec) : Type 0 where
      pub is : seek k b at ≡ link_past at l
      pub leads : get_or b (seek k b at) 0 ≡ x

    sought : (at x : ℕ) (l m : List Rec) → Leads at 0 (l ++ m) → lead 0 (map rec_place m) ≡ x → seek k b at ≡ link_past at l → Sought at x l
    sought at x l m h f e = record { is = e; leads = ap (λ (o : ℕ). get_or b o 0) e ∙ leads-to at (lead 0 (map rec_place m)) l (front at 0 l m h) ∙ f }

    -- the record that has the key, in a chain that the link at `at` leads to
    pub found-sought : (at : ℕ) (r : Rec) (l : List Rec) → Leads at 0 l → length l ≤ rec_count → found k l ≡ some r
        → (q : Split same_key rec_key k r l) → Sought at r.place q.before
    found-sought at r l h s e q =
        let c = subst (Leads at 0) q.is h in
        let z = back at 0 q.before (r ∷ q.behind) c in
        let few : length q.before ≤ rec_count = omega (arith, ap length q.is, length-append q.before (r ∷ q.behind)) in
        let rest : suc rec_count - length q.before ≡ suc (rec_count - length q.before) = omega arith in
        sought at r.place q.before (r ∷ q.behind) c refl
        (seek-past (suc rec_count) at r.place q.before (front at 0 q.before (r ∷ q.behind) c) q.none_before (omega arith)
        ∙ ap (λ (n : ℕ). seek_from k b n (link_past at q.before)) rest
        ∙ seek-here k b (rec_count - length q.before) (link_past at q.before) (λ y. omega (arith, z.from, z.fine.0.0))
        (ap (same_key k) (first-id (link_past at q.before) 0 r q.behind z ∙ sym (find-key same_key rec_key key-eq key-refl k r l e)) ∙ key-refl k))

    -- no record has the key
    pub none-sought : (at : ℕ) (l : List Rec) → Leads at 0 l → length l ≤ rec_count → found k l ≡ none → Sought at 0 l
    none-sought at l h s e =
        let c = subst (Leads at 0) (sym (append-nil l)) h in
        let rest : suc rec_count - length l ≡ suc (rec_count - length l) = omega arith in
        sought at 0 l [] c refl
        (seek-past (suc rec_count) at 0 l h e (omega arith)
        ∙ ap (λ (n : ℕ). seek_from k b n (link_past at l)) rest
        ∙ seek-end k b (rec_count - length l) (link_past at l) (leads-to at 0 l h))
