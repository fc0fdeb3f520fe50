-- The numbers that the code has at hand are those of the definitions: the stores leave the edited row.
use Prim.Native.Nat.{ℕ, ◌+◌, ◌≤◌, ◌<◌}
use mathlib.Core.Path.{◌≡◌, refl, sym, ap, subst, ◌∙◌}
use mathlib.Core.Bool.{Bool, true, false, cond}
use mathlib.Core.List.{List, map}
use native.Mathlib.Omega.{arith}
use lib.ListN.{length, get_or, take}
use Rattle.laws.proofs.Maps.{take-map, at_map}
use Rattle.row_format.specs.declared.Shape.{Shape}
use Rattle.row_format.specs.declared.Shape.TheVariants.{Fixed, Varlen}
use Rattle.row_format.specs.Places.{varlens, rank_of, slot_start, start_at, table_start, fixed_start, offset_width}
use Rattle.row_format.specs.Table.{Cell, range_end}
use Rattle.row_format.specs.Edit.{offset_table, span, range_start, range_edit, varlen_edit, slot_edit, bit_edit, column_edit, edited_row}
use Rattle.row_format.proofs.Edit.{edited_shape}
use Rattle.row_layout.specs.declared.RowLayout.{RowLayout}
use Rattle.row_layout.specs.Layout.{layout_of, size_in}
use Rattle.row_layout.proofs.Columns.{layout-slot}
use Rattle.datatype.specs.declared.DataType.{DataType}
use Rattle.datatype.specs.declared.DataType.TheVariants.{Varchar}
use Rattle.datatype.specs.Types.{size_of, alignment_of, is_varlen, shape_of}
use Rattle.datatype.specs.Check.{type_at, layout_for, types_in}
use Rattle.datatype.specs.InnerCheck.{Accepted, layout_before}
use Rattle.row_column.specs.declared.Column.{Column}
use Rattle.row_column.specs.InnerWalk.{Framed, walked_place, Found}
use Rattle.row_column.proofs.Reach.{columns-before, reach}
use Rattle.row_patch.specs.InnerStores.{column_set, row_set, change, RangeReady, Editable}

-- a and e are the range of a Varchar of the layout l, in the row r
abbrev pub RangeOf : RowLayout → RowLayout → ℕ → ℕ → List ℕ → Type 0
RangeOf l b a e r =
    (a ≡ range_start (offset_width l.is_long) (table_start l.num_columns) l.num_varlen_cols b.num_varlen_cols r)
    × (e ≡ range_end (offset_width l.is_long) (table_start l.num_columns) l.num_varlen_cols b.num_varlen_cols r)

module _ (k : Bool) (ts : List DataType) (p : Bool) (i : ℕ) (c : Cell) (r : List ℕ) (a e : ℕ) where
  abbrev ss : List Shape
  ss = map shape_of ts

  abbrev ty : DataType
  ty = type_at ts i

  abbrev before : RowLayout
  before = layout_before ts i

  same-before : before ≡ layout_of false (take i ss)
  same-before = ap (layout_of false) (sym (take-map shape_of i ts))

  same_shape : get_or ss i Varlen ≡ shape_of ty
  same_shape = at_map shape_of i ts (Varchar false 0)

  -- by whether the column is a Varchar
  by_type : (v : Bool) → shape_of ty ≡ cond v Varlen (Fixed (size_of ty) (alignment_of ty)) → (v ≡ true → RangeOf (layout_for k ts) before a e r)
      → cond v (range_edit (offset_table (offset_width k) (table_start (length ss)) (varlens ss)) before.num_varlen_cols c (span a e) r) (slot_edit (walked_place (layout_for k ts) p before ty) (size_of ty) c r) ≡ column_edit (offset_width k) p ss i (cond v Varlen (Fixed (size_of ty) (alignment_of ty))) c r
  unfolding varlen_edit
  by_type true s q =
      let same : before.num_varlen_cols ≡ rank_of ss i = ap (λ (b : RowLayout). b.num_varlen_cols) same-before in
      rw ((q refl).0, (q refl).1) (ap (λ (j : ℕ). range_edit (offset_table (offset_width k) (table_start (length ss)) (varlens ss)) j c (span (range_start (offset_width k) (table_start (length ss)) (varlens ss) j r) (range_end (offset_width k) (table_start (length ss)) (varlens ss) j r)) r) same)
  by_type false s q =
      let at : start_at p (alignment_of ty) (size_in before p) ≡ slot_start p ss i
      = ap (λ (b : RowLayout). start_at p (alignment_of ty) (size_in b p)) same-before ∙ layout-slot false ss i p (size_of ty) (alignment_of ty) (same_shape ∙ s) in
      ap (λ (n : ℕ). slot_edit (fixed_start (offset_width k) (length ss) (varlens ss) + n) (size_of ty) c r) at

  set-edited : i < length ts → (is_varlen ty ≡ true → RangeOf (layout_for k ts) before a e r) → row_set (layout_for k ts) p before ty (span a e) c r ≡ edited_row (offset_width k) p ss i c r
  set-edited h q =
      ap (λ (j : ℕ). bit_edit j c (column_set (layout_for k ts) p before ty (span a e) c r)) (columns-before ts i (omega arith))
      ∙ ap (bit_edit i c) (by_type (is_varlen ty) refl q)
      ∙ sym (edited_shape (offset_width k) p ss i c r (shape_of ty) same_shape)

  -- the layout of a schema, and a column of it as the walk finds it
  Leaves : RowLayout → RowLayout → DataType → Type 0
  Leaves l b t = (is_varlen t ≡ true → RangeOf l b a e r) → row_set l p b t (span a e) c r ≡ edited_row (offset_width k) p ss i c r

  pub row-edited : {l b : RowLayout} {t : DataType} → l ≡ layout_for k ts → b ≡ before → t ≡ ty → i < length ts → (is_varlen t ≡ true → RangeOf l b a e r) → row_set l p b t (span a e) c r ≡ edited_row (offset_width k) p ss i c r
  unfolding Leaves
  row-edited {l} {b} {t} x y z h =
      subst (λ (m : RowLayout). Leaves m b t) (sym x) (subst (λ (m : RowLayout). Leaves (layout_for k ts) m t) (sym y) (subst (Leaves (layout_for k ts) before) (sym z) (set-edited h)))

-- ---- as the calls have it: a schema that was accepted, and the column that was found in it

module _ {s : List ℕ} {l : RowLayout} {i : ℕ} {k : Column} (f : Found s i k) (h : i < length (types_in s)) where
  pub editable : {p : Bool} {n a e z : ℕ} {buf : List ℕ} → Framed s l p (take n buf) → n ≤ length buf
      → (is_varlen k.ty ≡ true → RangeReady l.is_long (table_start l.num_columns) l.num_varlen_cols k.before.num_varlen_cols (change n a e z) buf) → Editable l p k.before k.ty (change n a e z) buf
  editable r inside range = record { reach = reach r k.before k.ty i h f.layout f.type_is f.bounded f.digits; inside = inside; range = range }

  pub found_edited : (p : Bool) (c : Cell) (r : List ℕ) (a e : ℕ) → Accepted s l → (is_varlen k.ty ≡ true → RangeOf l k.before a e r)
      → row_set l p k.before k.ty (span a e) c r ≡ edited_row (offset_width l.is_long) p (map shape_of (types_in s)) i c r
  found_edited p c r a e x = row-edited l.is_long (types_in s) p i c r a e (sym x.layout) f.layout f.type_is h
