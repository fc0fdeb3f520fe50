-- One column, by the kind of its record: what its bytes are, and what was written.
use Rattle.error.specs.Result.{Result}
use Rattle.std.specs.Prelude.{Err, None, Ok, Option, Some}
use Prim.Native.Nat.{ℕ, ◌+◌, ◌-◌, ◌≤◌}
use mathlib.Core.Path.{◌≡◌, refl, sym, ap, ◌∙◌, subst}
use mathlib.Core.Bool.{Bool, false}
use mathlib.Core.List.{List}
use native.Mathlib.Omega.{arith}
use lib.Dec.{eqb}
use lib.ListN.{length, get_or, take, drop}
use Rattle.laws.specs.Bits.{bit_at}
use Rattle.row_format.specs.Places.{offset_width, bitmap_start, fixed_start, start_at}
use Rattle.row_layout.specs.declared.RowLayout.{RowLayout}
use Rattle.row_layout.specs.Layout.{size_in}
use Rattle.datatype.specs.declared.DataType.{DataType}
use Rattle.datatype.specs.declared.DataType.TheVariants.{Char, Character}
use Rattle.datatype.specs.Schema.{column_kind, column_record_at}
use Rattle.datatype.specs.InnerSteps.{plain_size, plain_type, type_in}
use Rattle.datatype.proofs.Plain.{Plain, plain_facts, plain_record}
use Rattle.stored_form.specs.Read.{read_slot}
use Rattle.value.specs.declared.DataValue.{DataValue}
use Rattle.slot_record.specs.InnerRecord.{recorded}
use Rattle.slot_record.proofs.Numbers.{part_length}
use Rattle.row_column.specs.Column.{slot_value}
use Rattle.row_column.specs.InnerWalk.{walked_column, Reachable, InRow}
use Rattle.column_decode.specs.InnerColumn.{stepped}

-- a slot's record is the column's, where n is its value's count
abbrev pub CountOf : (DataValue → ℕ) → ℕ → Option DataValue → Type 0
CountOf f n (Some v) = n ≡ f v
CountOf f n None = Unit {0}

pub slot-stepped : (k : Bool) (buf : List ℕ) (end i n : ℕ) (f : DataValue → ℕ) (x : Option DataValue) → CountOf f n x
    → recorded k buf end i n x ≡ stepped k buf end f (slot_value i x)
slot-stepped k buf end i n f (Some v) e = rw e
slot-stepped k buf end i n f None e = refl

-- a text in a row is one in a longer row
pub wider : (c : Result DataValue) (n m : ℕ) → n ≤ m → InRow n c → InRow m c
wider (Ok v) n m h i = omega (arith, i)
wider (Err e) n m h i = tt

-- the type of a record that was read
pub type_read : {x y : Result (DataType × ℕ)} {t u : DataType} {next : ℕ} → x ≡ y → x ≡ Ok (t, next) → type_in y ≡ u → t ≡ u
type_read e f g = ap type_in (sym f ∙ e) ∙ g

pub as_char : {l : RowLayout} {p : Bool} {b : RowLayout} {n : ℕ} {r : List ℕ} → Reachable l p b (Character n) r → Reachable l p b (Char n) r
as_char q = record { whole = q.whole; before = q.before; digits = q.digits; column = q.column; table = q.table; rank = q.rank; slot = q.slot }

-- a kind without a body, whose column takes z bytes from `start` on
module _ (s : List ℕ) (at : ℕ) (l : RowLayout) (p : Bool) (b : RowLayout) (r : List ℕ) {t : DataType} {z start : ℕ} (typed : type_in (column_record_at s at) ≡ t) (some : z ≡ 0 → ⊥) (size : z ≡ plain_size (column_kind (get_or s at 0)))
    (place : start ≡ fixed_start (offset_width l.is_long) l.num_columns l.num_varlen_cols + start_at p z (size_in b p)) where
  pub is_some : plain_size (column_kind (get_or s at 0)) ≡ 0 → ⊥
  is_some e = some (size ∙ e)

  facts : Plain (column_kind (get_or s at 0))
  facts = plain_facts (get_or s at 0) is_some

  here : t ≡ plain_type (column_kind (get_or s at 0))
  here = sym typed ∙ ap type_in (plain_record s at is_some)

  pub plain-inside : Reachable l p b t r → start + z ≤ length r
  plain-inside q =
      let q' = subst (λ (u : DataType). Reachable l p b u r) here q in
      let h = rw (facts.aligned, facts.sized, ← size) at (q'.slot facts.fixed) in
      rw place h

  pub plain-length : Reachable l p b t r → length (take (start + z - start) (drop start r)) ≡ plain_size (column_kind (get_or s at 0))
  plain-length q = part_length r start (start + z) (omega arith) (plain-inside q) ∙ omega (arith, size)

  pub plain-column : eqb (bit_at b.num_columns (drop bitmap_start r)) 1 ≡ false
      → slot_value b.num_columns (read_slot (plain_type (column_kind (get_or s at 0))) start (take (start + z - start) (drop start r))) ≡ walked_column l p b t r
  plain-column clear = rw (here, clear, facts.fixed, facts.aligned, facts.sized, ← size, ← place)
