-- What bytes read as is the same wherever they stand, but for the start of a text's range.
use Rattle.std.specs.Prelude.{None, Option, Some, ℤ}
use Prim.Native.Nat.{ℕ}
use mathlib.Core.Path.{◌≡◌, refl}
use mathlib.Core.Bool.{Bool, true, false, cond}
use mathlib.Core.List.{List}
use lib.Dec.{eqb}
use lib.ListN.{length}
use mir.Syntax.{w32, w64}
use mir.Val.{to_z}
use Rattle.std.specs.Prelude.{Option, None, Some}
use Rattle.laws.specs.Bytes.{from_le}
use Rattle.text.specs.Rfc3629.{is_text}
use Rattle.text_limit.specs.Limit.{fits_text}
use Rattle.temporal.specs.Ranges.{is_date, is_timestamp}
use Rattle.temporal.specs.Time.{time_of}
use Rattle.numeric.specs.Packed.{decode_bcd}
use Rattle.datatype.specs.declared.DataType.{DataType}
use Rattle.datatype.specs.declared.DataType.TheVariants as T
use Rattle.value.specs.declared.DataValue.{DataValue}
use Rattle.value.specs.declared.DataValue.TheVariants as D
use Rattle.value.specs.Ranges.{no_text, range_of}
use Rattle.stored_form.specs.Read.{twos_complement, decoded, timed, whole, read_slot}

module _ (a b : ℕ) (bs : List ℕ) where
  -- two values that differ at most in where their text stands: at a and at b
  pub data Twins : DataValue → DataValue → Type 0 where
    alike : {v : DataValue} → range_of v ≡ no_text → Twins v v
    char : Twins (D.Char (whole a bs)) (D.Char (whole b bs))
    varchar : Twins (D.Varchar (whole a bs)) (D.Varchar (whole b bs))
    bit : Twins (D.Bit (whole a bs)) (D.Bit (whole b bs))

  abbrev pub Both : Option DataValue → Option DataValue → Type 0
  Both (Some v) (Some w) = Twins v w
  Both (Some v) None = ⊥
  Both None (Some w) = ⊥
  Both None None = Unit {0}

  by_both : (t : Bool) (x y x' y' : Option DataValue) → Both x x' → Both y y' → Both (cond t x y) (cond t x' y')
  by_both true x y x' y' p q = p
  by_both false x y x' y' p q = q

  both_number : (s : ℕ) (d : Option (Bool × ℕ)) → Both (decoded s bs d) (decoded s bs d)
  both_number s (Some r) = alike refl
  both_number s None = by_both (eqb (length bs) 17) (Some (D.Numeric (twos_complement bs))) None (Some (D.Numeric (twos_complement bs))) None (alike refl) tt

  both_time : (d : Option ℤ) → Both (timed d) (timed d)
  both_time (Some z) = alike refl
  both_time None = tt

  both_if : (t : Bool) (v w : DataValue) → Twins v w → Both (cond t (Some v) None) (cond t (Some w) None)
  both_if t v w h = by_both t (Some v) None (Some w) None h tt

  pub both : (t : DataType) → Both (read_slot t a bs) (read_slot t b bs)
  both T.SmallInt = alike refl
  both T.Int = alike refl
  both T.BigInt = alike refl
  both T.Real = alike refl
  both T.DoublePrecision = alike refl
  both (T.Numeric p s) = both_number s (decode_bcd p bs)
  both (T.Decimal p s) = both_number s (decode_bcd p bs)
  both T.Bool = alike refl
  both (T.Char n) = both_if (is_text bs) (D.Char (whole a bs)) (D.Char (whole b bs)) char
  both (T.Character n) = both_if (is_text bs) (D.Char (whole a bs)) (D.Char (whole b bs)) char
  both (T.Varchar p n) = both_if (fits_text p n bs) (D.Varchar (whole a bs)) (D.Varchar (whole b bs)) varchar
  both T.Date = both_if (is_date (to_z w32 (from_le bs))) (D.Date (to_z w32 (from_le bs))) (D.Date (to_z w32 (from_le bs))) (alike refl)
  both T.Time = both_time (time_of (to_z w64 (from_le bs)))
  both (T.Bit n) = bit
  both T.Timestamp = both_if (is_timestamp (to_z w64 (from_le bs))) (D.Timestamp (to_z w64 (from_le bs))) (D.Timestamp (to_z w64 (from_le bs))) (alike refl)
