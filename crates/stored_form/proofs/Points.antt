-- The values of a type are texts exactly if the type holds text, so that only these have a count.
use Rattle.std.specs.Prelude.{None, Option, Some, ℤ}
use Prim.Native.Nat.{ℕ}
use mathlib.Core.Path.{◌≡◌, refl, ap, ◌∙◌}
use mathlib.Core.Bool.{Bool, true, false, cond, ◌||◌, false≢true}
use mathlib.Core.List.{List}
use borrow.Author.Tests.{eqb-true}
use lib.Dec.{eqb}
use lib.ListN.{length}
use mir.Syntax.{w32, w64}
use mir.Val.{to_z}
use Rattle.std.specs.Prelude.{Option, None, Some}
use Rattle.laws.specs.Bytes.{from_le}
use Rattle.text.specs.Rfc3629.{is_text}
use Rattle.text_limit.specs.Limit.{fits_text}
use Rattle.temporal.specs.Ranges.{is_date, is_timestamp}
use Rattle.temporal.specs.Time.{time_of}
use Rattle.numeric.specs.Packed.{decode_bcd}
use Rattle.datatype.specs.declared.DataType.{DataType}
use Rattle.datatype.specs.declared.DataType.TheVariants as T
use Rattle.value.specs.declared.DataValue.{DataValue}
use Rattle.value.specs.declared.DataValue.TheVariants as D
use Rattle.value.specs.Kinds.{kind_of, value_kind, matches, is_text_kind, holds_text, is_text_value}
use Rattle.stored_form.specs.Read.{value_if, decoded, timed, read_slot}
use Rattle.stored_form.specs.ReadBack.{read_back, has_text}
use Rattle.stored_form.specs.Points.{points_in}

-- whether what was read is a text
abbrev pub Texts : Bool → Option DataValue → Type 0
Texts b (Some v) = is_text_value v ≡ b
Texts b None = Unit {0}

if_texts : (b t : Bool) (v : DataValue) → is_text_value v ≡ b → Texts b (value_if t v)
if_texts b true v e = e
if_texts b false v e = tt

digits-texts : (s : ℕ) (bs : List ℕ) (d : Option (Bool × ℕ)) → Texts false (decoded s bs d)
digits-texts s bs (Some r) = refl
digits-texts s bs None = if_texts false (eqb (length bs) 17) _ refl

time-texts : (t : Option ℤ) → Texts false (timed t)
time-texts (Some z) = refl
time-texts None = tt

pub slot-texts : (t : DataType) (start : ℕ) (bs : List ℕ) → Texts (holds_text t) (read_slot t start bs)
slot-texts T.SmallInt start bs = refl
slot-texts T.Int start bs = refl
slot-texts T.BigInt start bs = refl
slot-texts T.Real start bs = refl
slot-texts T.DoublePrecision start bs = refl
slot-texts (T.Numeric p s) start bs = digits-texts s bs (decode_bcd p bs)
slot-texts (T.Decimal p s) start bs = digits-texts s bs (decode_bcd p bs)
slot-texts T.Bool start bs = refl
slot-texts (T.Char n) start bs = if_texts true (is_text bs) _ refl
slot-texts (T.Character n) start bs = if_texts true (is_text bs) _ refl
slot-texts (T.Varchar p n) start bs = if_texts true (fits_text p n bs) _ refl
slot-texts T.Date start bs = if_texts false (is_date (to_z w32 (from_le bs))) _ refl
slot-texts T.Time start bs = time-texts (time_of (to_z w64 (from_le bs)))
slot-texts (T.Bit n) start bs = refl
slot-texts T.Timestamp start bs = if_texts false (is_timestamp (to_z w64 (from_le bs))) _ refl

-- no text, no count
pub no-points : (row : List ℕ) (v : DataValue) → is_text_value v ≡ false → points_in row v ≡ 0
no-points row v e = rw e

-- ---- a value that was stored and read back

back-kind : (t : DataType) (start : ℕ) (v : DataValue) (x : List ℕ) → kind_of (read_back t start v x) ≡ kind_of v
back-kind t start D.Null x = refl
back-kind t start (D.SmallInt z) x = refl
back-kind t start (D.Int z) x = refl
back-kind t start (D.BigInt z) x = refl
back-kind t start (D.Real b) x = refl
back-kind t start (D.DoublePrecision b) x = refl
back-kind t start (D.Numeric n) x = refl
back-kind t start (D.Bool b) x = refl
back-kind t start (D.Char r) x = refl
back-kind t start (D.Varchar r) x = refl
back-kind t start (D.Date z) x = refl
back-kind t start (D.Time z) x = refl
back-kind t start (D.Bit r) x = refl
back-kind t start (D.Timestamp z) x = refl

module _ (t : DataType) (v : DataValue) (m : matches t v ≡ true) where
  same_kind : kind_of v ≡ value_kind t
  same_kind = eqb-true (kind_of v) (value_kind t) m

  pub back-texts : (start : ℕ) (x : List ℕ) → is_text_value (read_back t start v x) ≡ holds_text t
  back-texts start x = ap is_text_kind (back-kind t start v x ∙ same_kind)

  -- a value of a type that holds text has one
  pub has-text : holds_text t ≡ true → has_text v ≡ true
  has-text h = rw same_kind (by_kind (eqb (value_kind t) 8) (eqb (value_kind t) 9) (eqb (value_kind t) 12) h)
    where
      by_kind : (x y z : Bool) → cond x true y ≡ true → (x || (y || z)) ≡ true
      by_kind true y z e = refl
      by_kind false true z e = refl
      by_kind false false z e = absurd (false≢true e)
