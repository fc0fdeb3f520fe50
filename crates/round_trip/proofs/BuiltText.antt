-- The text of a built row's column is the stored form.
use Rattle.error.specs.Result.{Result}
use Rattle.std.specs.Prelude.{Err, Ok}
use Prim.Native.Nat.{ℕ, ◌<◌}
use mathlib.Core.Path.{◌≡◌, refl, ap, ◌∙◌}
use mathlib.Core.Bool.{true, false≢true, Bool}
use mathlib.Core.List.{List}
use lib.ListN.{length}
use Rattle.row_format.specs.Places.{offset_width}
use Rattle.row_format.specs.Table.{Cell}
use Rattle.datatype.specs.Check.{type_at}
use Rattle.value.specs.declared.DataValue.{DataValue}
use Rattle.value.specs.declared.DataValue.TheVariants as D
use Rattle.value.specs.Kinds.{holds_text}
use Rattle.value.specs.Ranges.{text_of, range_of}
use Rattle.stored_form.proofs.Points.{has-text}
use Rattle.row_column.specs.Frame.{on_frame}
use Rattle.row_column.specs.Column.{column_value}
use Rattle.row_text.specs.Text.{text_read, text_in_row, text_call, text_part}
use Rattle.record_slot.specs.Stored.{is_null}
use Rattle.row_build.specs.Built.{Built}
use Rattle.record_slot.proofs.Tests.{CellIs, null, stored}
use Rattle.row_build.proofs.Cells.{cell_at_lem}
use Rattle.round_trip.specs.ReadBack.{row, given_value, given_back, given_form, ReadsBack}
use Rattle.round_trip.specs.Text.{TextBack, BuiltTextBack}
use Rattle.round_trip.proofs.Sorts.{built-sort}
use Rattle.round_trip.proofs.ReadBack.{taken, read-built}
use Rattle.round_trip.proofs.Text.{text_in-row}

-- a value of kind 0 is null
pub null_is : (v : DataValue) → is_null v ≡ true → v ≡ D.Null
null_is D.Null e = refl
null_is (D.SmallInt z) e = absurd (false≢true e)
null_is (D.Int z) e = absurd (false≢true e)
null_is (D.BigInt z) e = absurd (false≢true e)
null_is (D.Real z) e = absurd (false≢true e)
null_is (D.DoublePrecision z) e = absurd (false≢true e)
null_is (D.Numeric z) e = absurd (false≢true e)
null_is (D.Bool z) e = absurd (false≢true e)
null_is (D.Char z) e = absurd (false≢true e)
null_is (D.Varchar z) e = absurd (false≢true e)
null_is (D.Date z) e = absurd (false≢true e)
null_is (D.Time z) e = absurd (false≢true e)
null_is (D.Bit z) e = absurd (false≢true e)
null_is (D.Timestamp z) e = absurd (false≢true e)

module _ {sort : Bool} {schema list area out : List ℕ} {n : ℕ} {after : List ℕ}
    (b : Built sort schema list area out n after) (q : ReadsBack b)
    (i : ℕ) (h : i < length b.columns) (t : holds_text (type_at b.columns i) ≡ true) where
  abbrev v : DataValue
  v = given_value b i

  answer-is : text_call schema (row b) i ≡ Ok (range_of (given_back b i))
  answer-is =
      text_in-row schema (row b) i b.columns (rw (built-sort b) b.schema-good) h t
      ∙ ap (λ (k : Bool). text_in_row k b.columns (row b) i) (built-sort b)
      ∙ ap (λ (f : Result Bool). on_frame f Err (λ p. text_read (column_value (offset_width sort) p b.columns i (row b)))) q.frame
      ∙ ap text_read (q.column i h)

  of_cell : (c : Cell) → CellIs (type_at b.columns i) v area c → text_of (row b) (given_back b i) ≡ given_form b i
  of_cell c (null z) = rw (null_is v z)
  of_cell c (stored z m a) = q.text i h (has-text (type_at b.columns i) v m t)

  text-back : TextBack b i
  text-back =
      record {
        answer = answer-is;
        text = ap (text_part (row b)) answer-is
            ∙ of_cell _ (cell_at_lem area b.columns b.given b.cells-good (taken b).count i h);
      }

pub built-text : {sort : Bool} {schema list area out : List ℕ} {n : ℕ} {after : List ℕ}
    (b : Built sort schema list area out n after) → BuiltTextBack b
built-text b bytes i h t = text-back b (read-built b bytes) i h t
