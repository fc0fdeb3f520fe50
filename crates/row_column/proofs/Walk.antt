-- The walk comes to what the definitions say of the columns by their numbers: the header, and each column.
use Prim.Native.Nat.{ℕ, ◌+◌, ◌<◌}
use mathlib.Core.Path.{◌≡◌, refl, sym, ap, ap₂, ◌∙◌}
use mathlib.Core.Bool.{Bool, true, false, cond}
use mathlib.Core.List.{List, map}
use native.Mathlib.Omega.{arith}
use lib.Dec.{eqb}
use lib.ListN.{length, get_or, take, drop, length-map}
use lib.Seq.{length-take-le}
use Rattle.laws.specs.Bits.{bit_at}
use Rattle.laws.proofs.Maps.{take-map, at_map}
use Rattle.row_format.specs.declared.Shape.TheVariants.{Fixed, Varlen}
use Rattle.row_format.specs.Places.{varlens, rank_of, bitmap_start, table_start, slot_place, minimum, offset_width}
use Rattle.row_layout.specs.declared.RowLayout.{RowLayout}
use Rattle.row_layout.specs.declared.VarlenRange.{VarlenRange}
use Rattle.row_layout.specs.Layout.{layout_of}
use Rattle.row_layout.specs.Range.{varlen_range}
use Rattle.row_layout.proofs.Columns.{layout-slot, layout-minimum}
use Rattle.row_layout.specs.InnerLayout.{minimum_of}
use Rattle.datatype.specs.declared.DataType.{DataType}
use Rattle.datatype.specs.declared.DataType.TheVariants.{Varchar}
use Rattle.datatype.specs.Types.{size_of, alignment_of, is_varlen, shape_of}
use Rattle.datatype.specs.Check.{type_at, layout_for}
use Rattle.datatype.specs.InnerCheck.{layout_before}
use Rattle.row_format.specs.Header.{is_packed}
use Rattle.row_column.specs.Frame.{frame_with, frame_of}
use Rattle.row_column.specs.Column.{read_bytes, varlen_value, column_with, column_value}
use Rattle.row_column.specs.InnerWalk.{walked_frame, walked_place, walked_column}

-- a test with the same outcome in both
pub same_cond : {A : Type 0} (t : Bool) {x x' y y' : A} → (t ≡ true → x ≡ x') → (t ≡ false → y ≡ y')
    → cond t x y ≡ cond t x' y'
same_cond true f g = f refl
same_cond false f g = g refl

-- ---- the header

pub minimum_walked : (k : Bool) (ts : List DataType) (p : Bool) → minimum (offset_width k) p (map shape_of ts)
    ≡ minimum_of (layout_for k ts) p
minimum_walked k ts p = sym (layout-minimum k (map shape_of ts) p)

least_same : (k : Bool) (n v : ℕ) (f g : Bool → ℕ) (r : List ℕ) → f (is_packed r) ≡ g (is_packed r)
    → frame_with k n v f r ≡ frame_with k n v g r
least_same k n v f g r e = rw e

frame_same : (k : Bool) (ts : List DataType) (r : List ℕ) → frame_of k ts r ≡ walked_frame (layout_for k ts) r
frame_same k ts r =
    let v : ℕ = varlens (map shape_of ts) in
    least_same k (length ts) v (λ p. minimum (offset_width k) p (map shape_of ts)) (minimum_of (layout_for k ts)) r
    (minimum_walked k ts (is_packed r))
    ∙ ap (λ (n : ℕ). frame_with k n v (minimum_of (layout_for k ts)) r) (sym (length-map ts shape_of))

-- where the layout of the columns is known as l
pub frame_walked : (ts : List DataType) (r : List ℕ) {l : RowLayout} → layout_for l.is_long ts ≡ l
    → frame_of l.is_long ts r ≡ walked_frame l r
frame_walked ts r {l} e = frame_same l.is_long ts r ∙ ap (λ (m : RowLayout). walked_frame m r) e

-- ---- a column

column-same : (t : DataType) (i : ℕ) (r : List ℕ) (q q' : VarlenRange) (at at' : ℕ) → (is_varlen t ≡ true → q ≡ q')
    → (is_varlen t ≡ false → at ≡ at') → column_with t i r q at ≡ column_with t i r q' at'
column-same t i r q q' at at' f g =
    same_cond (eqb (bit_at i (drop bitmap_start r)) 1) (λ e. refl)
    (λ e. same_cond (is_varlen t) (λ v. ap (varlen_value t i r) (f v))
    (λ v. ap (λ (n : ℕ). read_bytes t i r n (n + size_of t)) (g v)))

pub shape_at : (ts : List DataType) (i : ℕ) → get_or (map shape_of ts) i Varlen ≡ shape_of (type_at ts i)
shape_at ts i = at_map shape_of i ts (Varchar false 0)

pub shape_fixed : (ts : List DataType) (i : ℕ) → is_varlen (type_at ts i) ≡ false
    → get_or (map shape_of ts) i Varlen ≡ Fixed (size_of (type_at ts i)) (alignment_of (type_at ts i))
shape_fixed ts i v = shape_at ts i ∙ rw v

pub shapes_before : (ts : List DataType) (i : ℕ) → layout_before ts i ≡ layout_of false (take i (map shape_of ts))
shapes_before ts i = ap (layout_of false) (sym (take-map shape_of i ts))

pub place_walked : (k p : Bool) (ts : List DataType) (i : ℕ) → is_varlen (type_at ts i) ≡ false
    → slot_place (offset_width k) p (map shape_of ts) i ≡ walked_place (layout_for k ts) p (layout_before ts i) (type_at ts i)
place_walked k p ts i v =
    rw (
      shapes_before ts i,
      layout-slot false (map shape_of ts) i p (size_of (type_at ts i)) (alignment_of (type_at ts i))
          (shape_fixed ts i v),
    )

pub column_walked : (k p : Bool) (ts : List DataType) (i : ℕ) (r : List ℕ) → i < length ts
    → column_value (offset_width k) p ts i r ≡ walked_column (layout_for k ts) p (layout_before ts i) (type_at ts i) r
column_walked k p ts i r h =
    let t : DataType = type_at ts i in
    let v : ℕ = varlens (map shape_of ts) in
    let q : VarlenRange = varlen_range (offset_width k) (table_start (length ts)) v (rank_of (map shape_of ts) i) r in
    let at : ℕ = slot_place (offset_width k) p (map shape_of ts) i in
    let l : RowLayout = layout_for k ts in
    let b : RowLayout = layout_before ts i in
    let q' : VarlenRange = varlen_range (offset_width k) (table_start l.num_columns) v b.num_varlen_cols r in
    let n : i ≡ b.num_columns = sym (length-map (take i ts) shape_of ∙ length-take-le i ts (omega arith)) in
    let rank : rank_of (map shape_of ts) i ≡ b.num_varlen_cols = ap varlens (take-map shape_of i ts) in
    column-same t i r q q' at (walked_place l p b t)
    (λ f. ap₂ (λ (m j : ℕ). varlen_range (offset_width k) (table_start m) v j r) (sym (length-map ts shape_of)) rank)
    (λ f. place_walked k p ts i f)
    ∙ ap (λ (m : ℕ). column_with t m r q' (walked_place l p b t)) n
