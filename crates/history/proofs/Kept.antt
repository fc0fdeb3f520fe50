-- What a history keeps: the row in the buffer is laid out of the sheet's cells.
use Rattle.error.specs.Result.{Result}
use Rattle.std.specs.Prelude.{Err, Ok, Some}
use Prim.Native.Nat.{ℕ, ◌+◌, ◌≤◌, ◌<◌}
use mathlib.Core.Bool.{Bool, true, false, cond}
use mathlib.Core.List.{List, [], ◌∷◌, map}
use mathlib.Core.Option.{none, some}
use mathlib.Core.Path.{◌≡◌, refl, sym, ap, ◌∙◌, subst}
use native.Mathlib.Omega.{arith}
use borrow.Author.Tests.{le-ltb, ltb-false}
use lib.Dec.{leb, ltb}
use lib.ListN.{length, get_or, take, drop, set, replicate, length-map}
use lib.Seq.{sets, length-sets, length-take-le, take-append_seam}
use Rattle.row_format.proofs.Sorts.{limit_fits, limit_le}
use Rattle.laws.specs.InnerForall.{Forall₂}
use Rattle.laws.proofs.Maps.{at_map}
use Rattle.laws.proofs.Stores.{sets-start}
use Rattle.error.specs.declared.Refusal.TheVariants.{NoSuchColumn, NoRoom}
use Rattle.error.specs.Answer.{Outcome, unchanged, placed, placed_both}
use Rattle.row_format.specs.declared.Shape.{Shape}
use Rattle.row_format.specs.declared.Shape.TheVariants.{Varlen}
use Rattle.row_format.specs.Places.{varlens, minimum, offset_width, row_limit}
use Rattle.row_format.specs.Table.{Cell, payloads}
use Rattle.row_format.specs.Row.{packed_marks, header, varlen_cells, row_with, slots_of, built_row}
use Rattle.row_format.specs.Header.{is_long, sort_in}
use Rattle.row_format.specs.Edit.{edited_row}
use Rattle.row_format.specs.Zeroed.{zeroed_row}
use Rattle.row_format.proofs.Row.{length-header, length-row, slots_fit}
use Rattle.row_format.proofs.SetRow.{cells_fit, kept_fit, set-row}
use Rattle.row_format.proofs.Zeroed.{Agree, zeroed-built, agree_written, agree_kept}
use Rattle.row_format.proofs.Fresh.{length-fresh}
use Rattle.row_format.proofs.Header.{sort-inside, row-sort}
use Rattle.row_format.proofs.Places.{varlens-le}
use Rattle.row_format.proofs.Sizes.{nulled_le}
use Rattle.row_format.specs.InnerRow.{FitsCell, FitsSlot}
use Rattle.row_format.specs.InnerEdit.{slots_kept}
use Rattle.datatype.specs.declared.DataType.{DataType}
use Rattle.datatype.specs.declared.DataType.TheVariants as T
use Rattle.datatype.specs.Types.{shape_of}
use Rattle.datatype.specs.Schema.{schema_of}
use Rattle.datatype.specs.Check.{type_at}
use Rattle.value.specs.Ranges.{text_of}
use Rattle.value_list.specs.Lists.{values_of, list_of}
use Rattle.value_list.proofs.Lists.{list-checked}
use Rattle.row_sound.specs.Sound.{soundness}
use Rattle.row_sound.proofs.Rows.{row_told_lem, cells-row}
use Rattle.row_build.specs.Build.{cells_points, build_call, fresh_row, fresh_call}
use Rattle.row_build.proofs.Schemas.{schema-minimum, schema-few}
use Rattle.row_column.specs.Frame.{on_frame}
use Rattle.row_edit.specs.Edit.{opened, edited, row_stored, given}
use Rattle.row_edit.specs.Edit as Edit
use Rattle.history.specs.History.{Call, set_value, set_null, State, called, handed_back, next, run, answers}
use Rattle.history.specs.History.{Entry, one_value, noted, sheet_by, texts, last_values, entry_cell, sheet_cells}
use Rattle.history.specs.Demand.{OfBytes, AllOfBytes}
use Rattle.history.proofs.Entries.{SuitsEntry, blank_suits, set-suits, blank_cells, set-cells, entry_fits, cells_suit, cells-written, texts-le, length-values, values-sized, values_narrow, cells-read}
use Rattle.history.proofs.Calls.{Ends, refusal, written, column_ends, tested_ends, placed_ends, given-taken}

module _ (sort : Bool) (ts : List DataType) where
  abbrev pub ss : List Shape
  ss = map shape_of ts

  abbrev pub laid : List Entry → List (List ℕ) → List ℕ
  laid es slots = row_with (offset_width sort) (header (packed_marks sort) ss) ss (sheet_cells ts es) slots

  -- the buffer, the length and the sheet
  pub record Kept (buf : List ℕ) (n : ℕ) (es : List Entry) : Type 0 where
    pub suit : Forall₂ SuitsEntry ts es
    pub slots : List (List ℕ)
    pub fit : Forall₂ FitsSlot ss slots
    pub agree : Agree ss (sheet_cells ts es) slots
    pub row : take n buf ≡ laid es slots
    pub room : n ≤ length buf
    pub short : n ≤ row_limit sort

  -- ---- of what was kept

  module _ {buf : List ℕ} {n : ℕ} {es : List Entry} (k : Kept buf n es) where
    pub fits : Forall₂ FitsCell ss (sheet_cells ts es)
    fits = cells_suit k.suit

    pub kept-length : length (take n buf) ≡ n
    kept-length = length-take-le n buf k.room

    laid_length : length (laid es k.slots) ≡ n
    laid_length = sym (ap length k.row) ∙ kept-length

    pub kept-long : n ≡ minimum (offset_width sort) true ss + length (payloads (varlen_cells ss (sheet_cells ts es)))
    kept-long = sym laid_length ∙ length-row (offset_width sort) (header (packed_marks sort) ss) (length-header (packed_marks sort) ss) fits k.fit

    pub built-length : length (built_row (offset_width sort) (packed_marks sort) ss (sheet_cells ts es)) ≡ n
    built-length = length-row (offset_width sort) (header (packed_marks sort) ss) (length-header (packed_marks sort) ss) fits (slots_fit fits) ∙ sym kept-long

    pub kept-zeroed : zeroed_row (offset_width sort) ss (take n buf) ≡ built_row (offset_width sort) (packed_marks sort) ss (sheet_cells ts es)
    kept-zeroed = rw k.row (zeroed-built (offset_width sort) (packed_marks sort) fits k.fit k.agree)

    -- ---- a column set to an entry

    module _ (i : ℕ) (h : i < length ts) (e : Entry) (q : SuitsEntry (type_at ts i) e) where
      abbrev cell : Cell
      cell = entry_cell (type_at ts i) e

      cell_fits : FitsCell (get_or ss i Varlen) cell
      cell_fits = rw (at_map shape_of i ts (T.Varchar false 0)) (entry_fits (type_at ts i) e q)

      set_laid : edited_row (offset_width sort) true ss i cell (take n buf) ≡ laid (set es i e) (slots_kept ss i cell k.slots)
      set_laid =
          let l = laid_length in
          let s = k.short in
          rw (k.row, set-cells i e k.suit)
          (set-row (offset_width sort) (header (packed_marks sort) ss) (length-header (packed_marks sort) ss) fits k.fit i (rw (length-map ts shape_of) h) cell cell_fits (omega (arith, limit_fits sort)))

      -- in the place of the old row
      pub set-kept : (r : List ℕ) → r ≡ edited_row (offset_width sort) true ss i cell (take n buf) → length r ≤ row_limit sort → length r ≤ length buf → Kept (sets buf 0 r) (length r) (set es i e)
      set-kept r is small room =
          record {
            suit = set-suits i e k.suit h q;
            slots = slots_kept ss i cell k.slots;
            fit = kept_fit i cell k.fit cell_fits;
            agree = rw (set-cells i e k.suit) (agree_kept i cell fits k.fit k.agree);
            row = rw (sets-start buf r room, take-append_seam r (drop (length r) buf)) (is ∙ set_laid);
            room = rw length-sets room;
            short = small;
          }

      set_long : length (edited_row (offset_width sort) true ss i cell (take n buf)) ≡ minimum (offset_width sort) true ss + length (payloads (varlen_cells ss (set (sheet_cells ts es) i cell)))
      set_long =
          ap length set_laid ∙ rw (set-cells i e k.suit)
          (length-row (offset_width sort) (header (packed_marks sort) ss) (length-header (packed_marks sort) ss) (cells_fit i cell fits cell_fits) (kept_fit i cell k.fit cell_fits))

    -- a null makes it no longer
    pub null-le : (i : ℕ) → i < length ts → length (edited_row (offset_width sort) true ss i none (take n buf)) ≤ n
    null-le i h = let l = nulled_le i fits in omega (arith, set_long i h none tt, kept-long)

-- ---- the calls

module _ (sort : Bool) (schema : List ℕ) (ts : List DataType) (columns : schema_of sort schema ≡ Ok ts) where
  abbrev pub Keeps : State → List Entry → Type 0
  Keeps s es = Kept sort ts s.buf s.row-length es

  module _ {s : State} {es : List Entry} (k : Keeps s es) where
    abbrev buf : List ℕ
    buf = s.buf

    abbrev n : ℕ
    n = s.row-length

    -- the row is sound and packed, so nothing but 9 comes before a call's own conditions
    pub kept-sound : soundness sort ts (take n buf) ≡ Some true
    kept-sound =
        let short = k.short in
        let long = kept-length sort ts k in
        rw k.row (row_told_lem sort ts _ (cells-row sort (cells-written k.suit) k.fit k.agree (schema-few sort schema columns) (rw (← k.row) (omega arith))))

    -- of its sort, which its mark tells
    pub kept-sort : sort_in buf n ≡ sort
    kept-sort =
        let few : varlens (map shape_of ts) < 16384 = omega (arith, varlens-le (map shape_of ts), length-map ts shape_of, schema-few sort schema columns) in
        sort-inside buf n k.room ∙ ap is_long k.row ∙ row-sort sort (map shape_of ts) (sheet_cells ts es) k.slots few

    pub open_kept : (i : ℕ) (f : List DataType → Bool → Outcome) → opened sort schema buf n i f ≡ cond (leb (length ts) i) (unchanged buf NoSuchColumn) (f ts true)
    open_kept i f = rw (columns, le-ltb (length buf) n k.room, kept-sound) (by_column (leb (length ts) i))
      where
        by_column : (t : Bool) → on_frame (cond t (Err NoSuchColumn) (Ok true)) (unchanged buf) (f ts) ≡ cond t (unchanged buf NoSuchColumn) (f ts true)
        by_column true = refl
        by_column false = refl

    -- an entry put down for column i, with the row that a call wrote
    abbrev Puts : ℕ → Entry → List ℕ → Type 0
    Puts i e r = Kept sort ts (sets buf 0 r) (length r) (set es i e)

    set_ends : (i : ℕ) (list area : List ℕ) → OfBytes (set_value i list area)
        → Ends buf (Puts i (some (one_value (values_of list), text_of area (one_value (values_of list))))) (called schema (set_value i list area) s)
    set_ends i list area bytes =
        rw (kept-sort, open_kept i (λ us p. Edit.written sort us p buf n i (given sort (type_at us i) i list area)))
        (column_ends (length ts) i _
        λ h. tested_ends (given sort (type_at ts i) i list area) _
        λ b g. placed_ends sort (edited (offset_width sort) ts true buf n i (some b))
        λ small room. let t = given-taken sort (type_at ts i) i list area b bytes g in
        let v = one_value (values_of list) in
        set-kept sort ts k i h (some (v, text_of area v))
        (record { match = t.chosen.match; area = area; accept = t.chosen.accept; text = refl; sized = t.sized })
        (edited (offset_width sort) ts true buf n i (some b)) (rw t.chosen.form) small room)

    null_ends : (i : ℕ) → Ends buf (Puts i none) (called schema (set_null i) s)
    null_ends i =
        let room = k.room in
        let short = k.short in
        let r = edited (offset_width sort) ts true buf n i none in
        rw (kept-sort, open_kept i (λ us p. row_stored buf (edited (offset_width sort) us p buf n i none)))
        (column_ends (length ts) i _ λ h. let le = null-le sort ts k i h in written r refl (set-kept sort ts k i h none tt r refl (omega arith) (omega arith)))

    -- a refused call changes nothing, and an accepted one puts its entry down
    of_ends : (c : Call) (P : List ℕ → Type 0) (o : Outcome) → ((r : List ℕ) → P r → Keeps (next (row_stored buf r) s) (noted (Ok (length r)) c es)) → Ends buf P o → Keeps (next o s) (noted o.0 c es)
    of_ends c P o f (refusal e q) = subst (λ x. Keeps (next x s) (noted x.0 c es)) (sym q) k
    of_ends c P o f (written r q p) = subst (λ x. Keeps (next x s) (noted x.0 c es)) (sym q) (f r p)

    pub keeps : (c : Call) → OfBytes c → Keeps (next (called schema c s) s) (noted (called schema c s).0 c es)
    keeps (set_value i list area) bytes = of_ends (set_value i list area) _ _ (λ r p. p) (set_ends i list area bytes)
    keeps (set_null i) bytes = of_ends (set_null i) _ _ (λ r p. p) (null_ends i)

  pub keeps_all : (cs : List Call) → AllOfBytes cs → {s : State} {es : List Entry} → Keeps s es
      → Keeps (run schema cs s) (sheet_by cs (answers schema cs s) es)
  keeps_all [] b k = k
  keeps_all (c ∷ cs) b k = keeps_all cs b.1 (keeps k c b.0)

  -- ---- the fresh row

  abbrev blank : List Entry
  blank = replicate (length ts) none

  abbrev IsDone : Result ℕ → Type 0
  IsDone (Ok m) = Unit {0}
  IsDone (Err e) = ⊥

  fresh_kept : (out : List ℕ) → length (fresh_row sort ts) ≤ length out → Kept sort ts (sets out 0 (fresh_row sort ts)) (length (fresh_row sort ts)) blank
  fresh_kept out room =
      let least = schema-minimum sort schema columns in
      let r = fresh_row sort ts in
      let f = fits_blank in
      let n : length r ≡ minimum (offset_width sort) true (map shape_of ts) = ap (λ (m : ℕ). length (built_row (offset_width sort) (packed_marks sort) (map shape_of ts) (replicate m none))) (sym (length-map ts shape_of)) ∙ length-fresh (offset_width sort) (packed_marks sort) (map shape_of ts) in
      record {
        suit = blank_suits ts;
        slots = slots_of (map shape_of ts) (sheet_cells ts blank);
        fit = slots_fit f;
        agree = agree_written f;
        row = rw (sets-start out r room, take-append_seam r (drop (length r) out), blank_cells ts);
        room = rw length-sets room;
        short = omega arith;
      }
    where
      fits_blank : Forall₂ FitsCell (map shape_of ts) (sheet_cells ts blank)
      fits_blank = cells_suit (blank_suits ts)

  pub keeps_start : (out : List ℕ) (s : State) → fresh_call sort schema out ≡ (Ok s.row-length, s.buf) → Keeps s blank
  keeps_start out s e = of_test (ltb (length out) (length (fresh_row sort ts))) refl (sym on_columns ∙ e)
    where
      on_columns : fresh_call sort schema out ≡ placed out (fresh_row sort ts)
      on_columns = rw columns

      of_test : (t : Bool) → ltb (length out) (length (fresh_row sort ts)) ≡ t → cond t (unchanged out NoRoom) (row_stored out (fresh_row sort ts)) ≡ (Ok s.row-length, s.buf) → Keeps s blank
      of_test true h q = absurd (subst (λ (o : Outcome). IsDone o.0) (sym q) tt)
      of_test false h q =
          subst (λ (o : Outcome). Kept sort ts o.1 (handed_back o.0 0) blank) q (fresh_kept out (ltb-false (length out) (length (fresh_row sort ts)) h))

  -- ---- the builder, on the last accepted values: their texts are no longer than the row

  pub texts-short : {s : State} {es : List Entry} → Keeps s es → length (texts es) ≤ row_limit sort
  texts-short k = let short = k.short in omega (arith, texts-le k.suit, kept-long sort ts k)

  pub keeps_built : {s : State} {es : List Entry} → Keeps s es → (o counts : List ℕ) → build_call sort schema (list_of sort (last_values 0 es)) (texts es) o counts
      ≡ placed_both o counts (built_row (offset_width sort) (packed_marks sort) (map shape_of ts) (sheet_cells ts es)) (cells_points ts (sheet_cells ts es))
  keeps_built {s} {es} k o counts =
      let short = k.short in
      let fit = texts-short k in
      let sized = values-sized k.suit 0 (omega (arith, limit_le sort)) in
      let narrow = values_narrow sort k.suit 0 (omega arith) in
      let small : length (built_row (offset_width sort) (packed_marks sort) (map shape_of ts) (sheet_cells ts es)) ≤ row_limit sort = rw (built-length sort ts k) short in
      rw (columns, list-checked sort sort (length ts) (length (texts es)) (last_values 0 es) sized narrow (length-values k.suit 0) fit, cells-read k.suit, le-ltb (row_limit sort) (length (built_row (offset_width sort) (packed_marks sort) (map shape_of ts) (sheet_cells ts es))) small)
