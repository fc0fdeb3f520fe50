-- A value that was read has its text in its column's bytes.
use Rattle.std.specs.Prelude.{None, Option, Some, ℤ}
use Rattle.value.specs.declared.DataValue.{DataValue}
use Prim.Native.Nat.{ℕ, ◌+◌, ◌≤◌}
use mathlib.Core.List.{List}
use native.Mathlib.Omega.{arith}
use lib.Dec.{eqb}
use lib.ListN.{length}
use mir.Syntax.{w32, w64}
use mir.Val.{to_z}
use Rattle.std.specs.Prelude.{Bool, Option, None, Some}
use Rattle.laws.specs.Bytes.{from_le}
use Rattle.laws.proofs.Truths.{by_cond}
use Rattle.text.specs.Rfc3629.{is_text}
use Rattle.text_limit.specs.Limit.{fits_text}
use Rattle.temporal.specs.Ranges.{is_date, is_timestamp}
use Rattle.temporal.specs.Time.{time_of}
use Rattle.numeric.specs.Packed.{decode_bcd}
use Rattle.datatype.specs.declared.DataType.{DataType}
use Rattle.datatype.specs.declared.DataType.TheVariants as T
use Rattle.value.specs.declared.DataValue.TheVariants as D
use Rattle.value.specs.declared.TextRange.{TextRange}
use Rattle.value.specs.Ranges.{no_text, range_of}
use Rattle.stored_form.specs.Read.{twos_complement, decoded, timed, whole, read_slot}

-- what holds of the range of a value that was read
abbrev pub OfRange : (TextRange → Type 0) → Option DataValue → Type 0
OfRange P (Some v) = P (range_of v)
OfRange P None = Unit {0}

-- it has none, or the whole of the column's bytes
module _ (P : TextRange → Type 0) (none : P no_text) where
  of_number : (s : ℕ) (bs : List ℕ) (d : Option (Bool × ℕ)) → OfRange P (decoded s bs d)
  of_number s bs (Some r) = none
  of_number s bs None = by_cond (OfRange P) (eqb (length bs) 17) (Some (D.Numeric (twos_complement bs))) None (λ e. none) (λ e. tt)

  of_time : (d : Option ℤ) → OfRange P (timed d)
  of_time (Some z) = none
  of_time None = tt

  module _ (start : ℕ) (bs : List ℕ) (h : P (whole start bs)) where
    pub slot-range : (t : DataType) → OfRange P (read_slot t start bs)
    slot-range T.SmallInt = none
    slot-range T.Int = none
    slot-range T.BigInt = none
    slot-range T.Real = none
    slot-range T.DoublePrecision = none
    slot-range (T.Numeric p s) = of_number s bs (decode_bcd p bs)
    slot-range (T.Decimal p s) = of_number s bs (decode_bcd p bs)
    slot-range T.Bool = none
    slot-range (T.Char m) = by_cond (OfRange P) (is_text bs) (Some (D.Char (whole start bs))) None (λ e. h) (λ e. tt)
    slot-range (T.Character m) = by_cond (OfRange P) (is_text bs) (Some (D.Char (whole start bs))) None (λ e. h) (λ e. tt)
    slot-range (T.Varchar p m) = by_cond (OfRange P) (fits_text p m bs) (Some (D.Varchar (whole start bs))) None (λ e. h) (λ e. tt)
    slot-range T.Date = by_cond (OfRange P) (is_date (to_z w32 (from_le bs))) (Some (D.Date (to_z w32 (from_le bs)))) None (λ e. none) (λ e. tt)
    slot-range T.Time = of_time (time_of (to_z w64 (from_le bs)))
    slot-range (T.Bit m) = h
    slot-range T.Timestamp = by_cond (OfRange P) (is_timestamp (to_z w64 (from_le bs))) (Some (D.Timestamp (to_z w64 (from_le bs)))) None (λ e. none) (λ e. tt)

pub slot-within : (n start : ℕ) (bs : List ℕ) → start + length bs ≤ n → (t : DataType) → OfRange (λ r. r.start + r.length ≤ n) (read_slot t start bs)
slot-within n start bs h t = slot-range (λ r. r.start + r.length ≤ n) (omega arith) start bs h t
