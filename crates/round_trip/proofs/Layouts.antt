-- Varchars of both kinds share one layout: what both hold is stored in the same row.
use Rattle.std.specs.Prelude.{Ok}
use Prim.Native.Nat.{ℕ, ◌+◌}
use mathlib.Core.Path.{◌≡◌, refl, sym, ap, ◌∙◌, subst}
use mathlib.Core.Bool.{Bool, false≢true}
use mathlib.Core.List.{List, [], ◌∷◌, map}
use mathlib.Core.Option.{some}
use lib.ListN.{get_or}
use Rattle.row_format.specs.Places.{offset_width}
use Rattle.row_format.specs.declared.Shape.{Shape}
use Rattle.row_format.specs.declared.Shape.TheVariants.{Fixed, Varlen}
use Rattle.row_format.specs.InnerAligned.{Aligned}
use Rattle.row_format.proofs.Places.{all_at}
use Rattle.row_format.proofs.Padded.{fixed-starts}
use Rattle.row_format.specs.Table.{Cell}
use Rattle.row_format.specs.Row.{built_row, packed_marks}
use Rattle.datatype.specs.declared.DataType.{DataType}
use Rattle.datatype.specs.declared.DataType.TheVariants.{Varchar}
use Rattle.datatype.specs.Types.{size_of, alignment_of, shape_of}
use Rattle.datatype.specs.Check.{type_at}
use Rattle.datatype.proofs.Again.{all_aligned}
use Rattle.row_column.proofs.Walk.{shape_fixed}
use Rattle.value.specs.declared.DataValue.{DataValue}
use Rattle.value.specs.Ranges.{text_of}
use Rattle.stored_form.specs.Write.{stored_form}
use Rattle.stored_form.proofs.Matched.{Matched, varchar, matched}
use Rattle.record_slot.specs.Stored.{cell_in}
use Rattle.record_slot.proofs.Tests.{CellIs, null, stored, cell_is}
use Rattle.row_build.specs.Cells.{cells_from}
use Rattle.row_build.specs.Built.{Built}
use Rattle.row_build.specs.InnerSteps.{values_given, cells_given}
use Rattle.row_build.proofs.Cells.{first_cell}
use Rattle.round_trip.proofs.ReadBack.{taken}
use Rattle.round_trip.specs.Layouts.{Alike, same, varchars, AllAlike, none as no-columns, more, OneLayout, ColumnStarts}

shape_same : {t u : DataType} → Alike t u → shape_of t ≡ shape_of u
shape_same (same t) = refl
shape_same (varchars p q m n) = refl

shapes_same : {ts us : List DataType} → AllAlike ts us → map shape_of ts ≡ map shape_of us
shapes_same no-columns = refl
shapes_same (more {t} {u} {ts} {us} a rest) = ap (λ (s : Shape). s ∷ map shape_of ts) (shape_same a) ∙ ap (λ (ss : List Shape). shape_of u ∷ ss) (shapes_same rest)

-- ---- the cells

form-varchar : (p q : Bool) (m n : ℕ) (v : DataValue) (x : List ℕ) → Matched (Varchar p m) v → stored_form (Varchar p m) v x ≡ stored_form (Varchar q n) v x
form-varchar p q m n v x (varchar o l r) = refl

form-same : {t u : DataType} → Alike t u → (v : DataValue) (x : List ℕ) → Matched t v → stored_form t v x ≡ stored_form u v x
form-same (same t) v x k = refl
form-same (varchars p q m n) v x k = form-varchar p q m n v x k

module _ (area : List ℕ) where
  cell_same : {t u : DataType} → Alike t u → (v : DataValue) {c d : Cell} → CellIs t v area c → CellIs u v area d → c ≡ d
  cell_same a v (null e) (null f) = refl
  cell_same a v (null e) (stored f m s) = absurd (false≢true (sym f ∙ e))
  cell_same a v (stored e m s) (null f) = absurd (false≢true (sym e ∙ f))
  cell_same {t} a v (stored e m s) (stored f k l) = ap some (form-same a v (text_of area v) (matched t v m))

  cells_same : (i : ℕ) {ts us : List DataType} → AllAlike ts us → (vs : List DataValue) {cs ds : List Cell}
      → cells_from i ts vs area ≡ Ok cs → cells_from i us vs area ≡ Ok ds → cs ≡ ds
  cells_same i no-columns vs e f = ap cells_given (sym e ∙ f)
  cells_same i (more a rest) [] e f = ap cells_given (sym e ∙ f)
  cells_same i (more {t} {u} {ts} {us} a rest) (v ∷ vs) e f =
      let x = first_cell (cell_in i t v area) (cells_from (i + 1) ts vs area) e in
      let y = first_cell (cell_in i u v area) (cells_from (i + 1) us vs area) f in
      let c = cell_same a v (cell_is i t v area x.cell_good) (cell_is i u v area y.cell_good) in
      let d = cells_same (i + 1) rest vs x.others-good y.others-good in
      x.all ∙ ap (λ (z : Cell). z ∷ x.others) c ∙ ap (λ (zs : List Cell). y.cell ∷ zs) d ∙ sym y.all

-- ---- the rows

-- of whatever schemas and sorts, the values are those of the list
pub same-values : {sort sort' : Bool} {schema list area out : List ℕ} {n : ℕ} {after : List ℕ} (b : Built sort schema list area out n after)
    {schema' out' : List ℕ} {n' : ℕ} {after' : List ℕ} (b' : Built sort' schema' list area out' n' after') → b.given ≡ b'.given
same-values b b' = ap values_given (sym (taken b).all ∙ (taken b').all)

module _ {sort : Bool} {schema list area out : List ℕ} {n : ℕ} {after : List ℕ} (b : Built sort schema list area out n after)
    {schema' out' : List ℕ} {n' : ℕ} {after' : List ℕ} (b' : Built sort schema' list area out' n' after') where
  pub one-layout : OneLayout b b'
  one-layout a =
      let cells = cells_same area 0 a b.given b.cells-good (ap (λ (vs : List DataValue). cells_from 0 b'.columns vs area) (same-values b b') ∙ b'.cells-good) in
      b.row ∙ ap (λ (ss : List Shape). built_row (offset_width sort) (packed_marks sort) ss b.cells) (shapes_same a) ∙ ap (built_row (offset_width sort) (packed_marks sort) (map shape_of b'.columns)) cells ∙ sym b'.row

-- ---- where a fixed column starts

pub column-starts : (ts : List DataType) (i : ℕ) → ColumnStarts ts i
column-starts ts i h v =
    let t : DataType = type_at ts i in
    let shape : get_or (map shape_of ts) i Varlen ≡ Fixed (size_of t) (alignment_of t) = shape_fixed ts i v in
    fixed-starts (map shape_of ts) i (size_of t) (alignment_of t) shape (subst Aligned shape (all_at i (all_aligned ts)))
