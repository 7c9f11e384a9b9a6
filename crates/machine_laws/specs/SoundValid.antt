-- Sound bytes are the encoding of the valid store that they read as. Assumes nothing.
use Rattle.std.specs.Prelude.{ℕ, suc, ◌+◌, ◌-◌, ◌≤◌, ◌≡◌, true, ◌||◌, not, length, eqb}
use Rattle.std.proofs.Common.{arith, ap, ◌∙◌, subst}
use Rattle.std.proofs.Math.Path.{sym}
use mathlib.Core.List.{List, [], ◌∷◌, ◌++◌, map}
use Rattle.std.proofs.Math.ListN.{get_or}
use borrow.Author.Tests.{eqb-true}
use Rattle.octets.specs.Octets.{part, Bytes}
use Rattle.octets.specs.Bools.{one}
use Rattle.octets.specs.Lists.{all}
use Rattle.octets.specs.ListsLaws.{all_true, all_join}
use Rattle.octets.specs.PartsLaws.{part-add}
use Rattle.machine.specs.Limits.{head_bytes, rec_count, rec_bytes, cell_bytes, most_cells, most_of_source, store_bytes}
use Rattle.machine.specs.Codes.{role_receive, held_kind, kind_whole, is_role}
use Rattle.machine.specs.Values.{Rec, Store}
use Rattle.machine.specs.Rows.{Row, zero_from}
use Rattle.machine.specs.Chains.{first, chain_rows}
use Rattle.machine.specs.Counting.{occurs, inside}
use Rattle.machine.specs.Sources.{fair}
use Rattle.machine.specs.Valid.{Once, RecSized, Valid}
use Rattle.machine.specs.Layout.{free_at, held_at, whole_at, free_cells_at, form_at, form, count_at, role_at, rest_at, rec_place, head_row, head_fields, rec_row}
use Rattle.machine.specs.Layout.{pieces_rows, encode, rec_at, cell_at, rec_chain, cell_chain, read_rec, decode}
use Rattle.machine.specs.Sound.{rec_fits, no_rec, distinct, rec_places, piece_places, cell_places, rec_shape, cell_shape, free_shape, head_tests, shape_tests}
use Rattle.machine.specs.Sound.{sound_tests, sound}
use Rattle.machine_laws.specs.Tests.{every_true, all-parts}
use Rattle.machine_laws.specs.Fields.{gets, gets-is, zeros-part}
use Rattle.machine_laws.specs.Counting.{inside_is, once_is, occurs-append}
use Rattle.machine_laws.specs.Sources.{sources-is}
use Rattle.machine_laws.specs.Rows.{Held, held-join}
use Rattle.machine_laws.specs.StoreRows.{pieces-append, rows_append, held-recs, held-cells}
use Rattle.machine_laws.specs.Rep.{Rep, rep-encode}
use Rattle.machine_laws.specs.Reads.{Room, FreeRead, free-read, rec-long, cell-long, RecsRead, recs-places, recs-read}

module _ (role : ℕ) (b : List ℕ) (y : Bytes b) (t : sound role b ≡ true) where
  abbrev s : Store
  s = decode b

  abbrev free : List ℕ
  free = rec_chain b (get_or b free_at 0)

  abbrev held : List Rec
  held = map (read_rec b) (rec_chain b (get_or b held_at 0))

  abbrev whole : List Rec
  whole = map (read_rec b) (rec_chain b (get_or b whole_at 0))

  abbrev free_cells : List ℕ
  free_cells = cell_chain b (get_or b free_cells_at 0)

  abbrev count : ℕ
  count = get_or b count_at 0

  -- the tests of `sound`, as facts of the bytes
  record Tests : Type 0 where
    some : 1 ≤ count
    room : Room b count
    roles : is_role role ≡ true
    in_role : get_or b role_at 0 ≡ role
    formed : get_or b form_at 0 ≡ form
    rest : zero_from head_bytes rest_at b ≡ true
    held_fit : all (rec_fits role (held_kind role)) held ≡ true
    whole_fit : all (rec_fits role kind_whole) whole ≡ true
    kinds : (eqb role role_receive || no_rec whole) ≡ true
    recs : Once rec_count (free ++ (map rec_place held ++ map rec_place whole))
    cells : Once count (free_cells ++ piece_places (held ++ whole))
    ids : distinct (held ++ whole) ≡ true
    held_shape : all (λ p. rec_shape (held_kind role) (rec_at b p)) (map rec_place held) ≡ true
    whole_shape : all (λ p. rec_shape kind_whole (rec_at b p)) (map rec_place whole) ≡ true
    piece_shape : all (λ p. cell_shape (cell_at b p)) (piece_places (held ++ whole)) ≡ true
    rec_shape₀ : all (λ p. free_shape rec_bytes (rec_at b p)) free ≡ true
    cell_shape₀ : all (λ p. free_shape cell_bytes (cell_at b p)) free_cells ≡ true
    sources : (not (eqb role role_receive) || fair most_of_source (held ++ whole)) ≡ true

  tests : Tests
  unfolding sound decode
  tests =
      let a = every_true (sound_tests role b s) t in
      let f = every_true (head_tests role b s) a.0 in
      let h = every_true (shape_tests role b s) a.1.1.1.1.1.1.1.0 in
      let n = inside_is most_cells count f.0 in
      record {
        some = n.0;
        room = record { most = n.1; long = eqb-true (length b) (store_bytes count) f.1.0; bytes = y };
        roles = f.1.1.0;
        in_role = eqb-true (get_or b role_at 0) role f.1.1.1.0;
        formed = eqb-true (get_or b form_at 0) form f.1.1.1.1.0;
        rest = f.1.1.1.1.1.0;
        held_fit = a.1.0;
        whole_fit = a.1.1.0;
        kinds = a.1.1.1.0;
        recs = once_is rec_count (rec_places s) a.1.1.1.1.0;
        cells = once_is count (cell_places s) a.1.1.1.1.1.0;
        ids = a.1.1.1.1.1.1.0;
        held_shape = h.0;
        whole_shape = h.1.0;
        piece_shape = h.1.1.0;
        rec_shape₀ = h.1.1.1.0;
        cell_shape₀ = h.1.1.1.1.0;
        sources = a.1.1.1.1.1.1.1.1.0;
      }

  -- places, chain by chain
  recs-once : (k : ℕ) → occurs k free + (occurs k (rec_chain b (get_or b held_at 0)) + occurs k (rec_chain b (get_or b whole_at 0))) ≡ one (inside rec_count k)
  recs-once k =
      omega (
        arith,
        tests.recs k,
        occurs-append k free (map rec_place held ++ map rec_place whole),
        occurs-append k (map rec_place held) (map rec_place whole),
        ap (occurs k) (recs-places b count tests.room (rec_chain b (get_or b held_at 0))),
        ap (occurs k) (recs-places b count tests.room (rec_chain b (get_or b whole_at 0))),
      )

  cells-once : (k : ℕ) → occurs k free_cells + (occurs k (piece_places held) + occurs k (piece_places whole)) ≡ one (inside count k)
  cells-once k =
      omega (arith, tests.cells k, occurs-append k free_cells (piece_places (held ++ whole)), ap (occurs k) (pieces-append held whole), occurs-append k (piece_places held) (piece_places whole))

  -- the four chains
  shapes : (all (λ p. cell_shape (cell_at b p)) (piece_places held) ≡ true) × (all (λ p. cell_shape (cell_at b p)) (piece_places whole) ≡ true)
  shapes =
      all-parts (λ p. cell_shape (cell_at b p)) (piece_places held) (piece_places whole)
      (sym (ap (all (λ p. cell_shape (cell_at b p))) (pieces-append held whole)) ∙ tests.piece_shape)

  free_is : FreeRead rec_bytes (rec_at b) (get_or b free_at 0) free
  free_is =
      free-read rec_bytes rec_count (suc rec_count) (rec_at b) (get_or b free_at 0) (omega arith) (omega arith) (rec-long b count tests.room)
      (λ k. omega (arith, recs-once k)) tests.rec_shape₀

  held_is : RecsRead b count tests.room (held_kind role) (get_or b held_at 0)
  held_is = recs-read b count tests.room (held_kind role) (get_or b held_at 0) (λ k. omega (arith, recs-once k)) (λ k. omega (arith, cells-once k)) tests.held_shape shapes.0

  whole_is : RecsRead b count tests.room kind_whole (get_or b whole_at 0)
  whole_is = recs-read b count tests.room kind_whole (get_or b whole_at 0) (λ k. omega (arith, recs-once k)) (λ k. omega (arith, cells-once k)) tests.whole_shape shapes.1

  free_cells_is : FreeRead cell_bytes (cell_at b) (get_or b free_cells_at 0) free_cells
  free_cells_is =
      free-read cell_bytes count (suc most_cells) (cell_at b) (get_or b free_cells_at 0) (omega arith) (omega (arith, tests.room.most)) (cell-long b count tests.room)
      (λ k. omega (arith, cells-once k)) tests.cell_shape₀

  valid : Valid role (decode b)
  unfolding decode
  valid = record {
    some = tests.some;
    most = tests.room.most;
    roles = tests.roles;
    in_role = tests.in_role;
    held = all_true (rec_fits role (held_kind role)) held tests.held_fit;
    whole = all_true (rec_fits role kind_whole) whole tests.whole_fit;
    kinds = tests.kinds;
    ids = tests.ids;
    recs = tests.recs;
    cells = tests.cells;
    sized = all_join RecSized held whole held_is.sized whole_is.sized;
    sources = sources-is most_of_source role (held ++ whole) tests.sources;
  }

  head-is : part b 0 head_bytes ≡ head_row (decode b)
  unfolding decode
  head-is =
      let start = recs-places b count tests.room in
      let g : gets b 0 rest_at ≡ head_fields (decode b) =
      λ i. sym free_is.from i ∷ sym (ap first (start (rec_chain b (get_or b held_at 0))) ∙ held_is.from) i
      ∷ sym (ap first (start (rec_chain b (get_or b whole_at 0))) ∙ whole_is.from) i ∷ sym free_cells_is.from i
      ∷ tests.formed i ∷ count ∷ get_or b role_at 0 ∷ [] in
      part-add b 0 rest_at (head_bytes - rest_at)
      ∙ (λ i. (gets-is b 0 rest_at (omega (arith, tests.room.long)) ∙ g) i
      ++ zeros-part b rest_at (head_bytes - rest_at) (omega (arith, tests.room.long)) tests.rest i)

  rep : Rep (decode b) b
  unfolding decode
  rep = record {
    size = tests.room.long;
    head = head-is;
    recs =
        held-recs (decode b) (rec_at b) free_is.rows
        (subst (λ (x : ℕ). Held (rec_at b) (chain_rows rec_place (rec_row (held_kind x)) held)) (sym tests.in_role) held_is.rows) whole_is.rows;
    cells =
        held-cells (decode b) (cell_at b) free_cells_is.rows
        (subst (λ (x : List Row). Held (cell_at b) x) (sym (rows_append held whole)) (held-join (cell_at b) (pieces_rows held) (pieces_rows whole) held_is.pieces whole_is.pieces));
  }

-- sound bytes read as a valid store, and are its encoding
pub sound-valid : (role : ℕ) (b : List ℕ) → Bytes b → sound role b ≡ true → Valid role (decode b) × (encode (decode b) ≡ b)
sound-valid role b y t =
    let v = valid role b y t in
    (v, sym (rep-encode role (decode b) v b (rep role b y t)))
