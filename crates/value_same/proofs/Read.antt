-- A value read from a slot stands in its row, as `same_content` requires, and fits a record.
use Rattle.std.specs.Prelude.{None, Option, Some}
use Prim.Native.Nat.{ℕ, zero, suc, ◌+◌, ◌/◌, ◌^◌, ◌≤◌, ◌<◌}
use mathlib.Core.Path.{◌≡◌, refl, subst}
use mathlib.Core.Bool.{Bool, true, false, cond}
use mathlib.Core.List.{List}
use native.Mathlib.Omega.{arith}
use lib.Dec.{eqb, leb}
use lib.IntN.{ℤ, pos}
use lib.Signed.{lt_z, quot_z, rem_z}
use lib.ListN.{length, get_or, take, drop}
use lib.Seq.{take_all}
use mir.Syntax.{Width, w8, w16, w32, w64}
use mir.Val.{bits, Fits, SFits, to_z}
use mir.ValLaws.{to_z-Fits}
use borrow.Author.Tests.{le-leb, leb-false, eq-eqb, eqb-true, eqb-false}
use Rattle.std.specs.Prelude.{Option, None, Some}
use Rattle.laws.specs.Bytes.{from_le}
use Rattle.laws.proofs.Bytes.{AllBytes, from-part}
use Rattle.laws.proofs.Truths.{by_cond}
use Rattle.text.specs.Rfc3629.{is_text}
use Rattle.text_limit.specs.Limit.{fits_text}
use Rattle.temporal.specs.Ranges.{is_date, is_timestamp}
use Rattle.temporal.specs.Time.{mod_z, time_of}
use Rattle.temporal.proofs.Counts.{count-signed}
use Rattle.bit_utils.specs.Bits.{bytes_for}
use Rattle.numeric.specs.Packed.{decode_bcd}
use Rattle.numeric.proofs.Bounds.{by_number}
use Rattle.datatype.specs.declared.DataType.{DataType}
use Rattle.datatype.specs.declared.DataType.TheVariants as T
use Rattle.datatype.specs.Types.{size_of, is_varlen, precision_of, scale_of, length_of}
use Rattle.value.specs.declared.NumericValue.{NumericValue}
use Rattle.value.specs.declared.DataValue.{DataValue}
use Rattle.value.specs.declared.DataValue.TheVariants as D
use Rattle.value.specs.Kinds.{kind_of}
use Rattle.value.specs.Ranges.{no_text, range_of}
use Rattle.value_list.specs.Records.{NarrowRange, SizedNumeric, Sized}
use Rattle.stored_form.specs.Number.{numeric_of}
use Rattle.stored_form.specs.Read.{value_if, twos_complement, decoded, timed, whole, read_slot}
use Rattle.stored_form.proofs.Numbers.{number_fits}
use Rattle.value_same.specs.InnerFields.{stands_in}

-- ---- what holds of every value that a slot of type t can give

abbrev Holds : (DataValue → Type 0) → Option DataValue → Type 0
Holds P (Some v) = P v
Holds P None = Unit {0}

module _ (P : DataValue → Type 0) where
  if_holds : (b : Bool) (v : DataValue) → P v → Holds P (value_if b v)
  if_holds true v e = e
  if_holds false v e = tt

  numeric_holds : (s : ℕ) (bs : List ℕ) (d : Option (Bool × ℕ)) → ((m : NumericValue) → P (D.Numeric m))
      → Holds P (decoded s bs d)
  numeric_holds s bs (Some r) e = e (numeric_of r.0 r.1 s)
  numeric_holds s bs None e =
      if_holds (eqb (length bs) 17) (D.Numeric (twos_complement bs)) (e (twos_complement bs))

  time-holds : (d : Option ℤ) → ((z : ℤ) → P (D.Time z)) → Holds P (timed d)
  time-holds (Some z) e = e z
  time-holds None e = tt

  read-holds : (s : Option DataValue) (v : DataValue) → Holds P s → s ≡ Some v → P v
  read-holds s v h e = subst (Holds P) e h

-- ---- the row

-- its range lies in the row; a Char's has n bytes, a Bit's those that n bits fill
pub record Placed (t : DataType) (row : List ℕ) (v : DataValue) : Type 0 where
  pub inside : (range_of v).start + (range_of v).length ≤ length row
  pub chars : kind_of v ≡ 8 → (range_of v).length ≡ length_of t
  pub bits : kind_of v ≡ 12 → (range_of v).length ≡ bytes_for (length_of t)

module _ (start : ℕ) (bs row : List ℕ) (h : start + length bs ≤ length row) where
  none : {t : DataType} (v : DataValue) → range_of v ≡ no_text → eqb (kind_of v) 8 ≡ false → eqb (kind_of v) 12 ≡ false
      → Placed t row v
  none v e p q =
      record {
        inside = rw e (omega arith);
        chars = λ k. absurd (eqb-false (kind_of v) 8 p k);
        bits = λ k. absurd (eqb-false (kind_of v) 12 q k);
      }

  char : {t : DataType} → length bs ≡ length_of t → Placed t row (D.Char (whole start bs))
  char l = record { inside = h; chars = λ _. l; bits = λ k. absurd (omega arith) }

  slot_placed : (t : DataType) → (is_varlen t ≡ false → length bs ≡ size_of t)
      → Holds (Placed t row) (read_slot t start bs)
  slot_placed T.SmallInt l = none (D.SmallInt (to_z w16 (from_le bs))) refl refl refl
  slot_placed T.Int l = none (D.Int (to_z w32 (from_le bs))) refl refl refl
  slot_placed T.BigInt l = none (D.BigInt (to_z w64 (from_le bs))) refl refl refl
  slot_placed T.Real l = none (D.Real (from_le bs)) refl refl refl
  slot_placed T.DoublePrecision l = none (D.DoublePrecision (from_le bs)) refl refl refl
  slot_placed (T.Numeric p s) l =
      numeric_holds (Placed (T.Numeric p s) row) s bs (decode_bcd p bs) (λ m. none (D.Numeric m) refl refl refl)
  slot_placed (T.Decimal p s) l =
      numeric_holds (Placed (T.Decimal p s) row) s bs (decode_bcd p bs) (λ m. none (D.Numeric m) refl refl refl)
  slot_placed T.Bool l = none (D.Bool (cond (eqb (get_or bs 0 0) 0) 0 1)) refl refl refl
  slot_placed (T.Char n) l = if_holds (Placed (T.Char n) row) (is_text bs) (D.Char (whole start bs)) (char (l refl))
  slot_placed (T.Character n) l =
      if_holds (Placed (T.Character n) row) (is_text bs) (D.Char (whole start bs)) (char (l refl))
  slot_placed (T.Varchar p n) l =
      if_holds (Placed (T.Varchar p n) row) (fits_text p n bs) (D.Varchar (whole start bs))
      (record { inside = h; chars = λ k. absurd (omega arith); bits = λ k. absurd (omega arith) })
  slot_placed T.Date l =
      if_holds (Placed T.Date row) (is_date (to_z w32 (from_le bs))) (D.Date (to_z w32 (from_le bs)))
      (none (D.Date (to_z w32 (from_le bs))) refl refl refl)
  slot_placed T.Time l =
      time-holds (Placed T.Time row) (time_of (to_z w64 (from_le bs))) (λ z. none (D.Time z) refl refl refl)
  slot_placed (T.Bit n) l = record { inside = h; chars = λ k. absurd (omega arith); bits = λ _. l refl }
  slot_placed T.Timestamp l =
      if_holds (Placed T.Timestamp row) (is_timestamp (to_z w64 (from_le bs))) (D.Timestamp (to_z w64 (from_le bs)))
      (none (D.Timestamp (to_z w64 (from_le bs))) refl refl refl)

  -- bs are the bytes of a column of type t, at `start` of the row
  module _ (t : DataType) (v : DataValue)
      (l : is_varlen t ≡ false → length bs ≡ size_of t) (e : read_slot t start bs ≡ Some v) where
    pub read-placed : Placed t row v
    read-placed = read-holds (Placed t row) (read_slot t start bs) v (slot_placed t l) e

    pub read_stands : stands_in (length_of t) v row ≡ true
    read_stands =
        rw (le-leb ((range_of v).start + (range_of v).length) (length row) read-placed.inside)
        (by_cond (λ b. b ≡ true) (eqb (kind_of v) 12) (eqb (range_of v).length (bytes_for (length_of t))) true
        (λ k. eq-eqb (range_of v).length (bytes_for (length_of t)) (read-placed.bits (eqb-true (kind_of v) 12 k)))
        (λ _. refl))

-- ---- its numbers and its range fit a record

number_sized : (negative : Bool) (m s : ℕ) → m / 2 ^ 64 < 2 ^ 63 → s < 256 → SizedNumeric (numeric_of negative m s)
number_sized negative m s h k =
    record { high = number_fits negative m s h; low = record { fits = low negative m }; scale = scaled negative m }
  where
    low : (negative : Bool) (m : ℕ) → (numeric_of negative m s).low < 2 ^ 64
    low false m = omega arith
    low true zero = omega arith
    low true (suc m) = omega arith

    scaled : (negative : Bool) (m : ℕ) → Fits w8 (numeric_of negative m s).scale
    scaled false m = record { fits = k }
    scaled true zero = record { fits = k }
    scaled true (suc m) = record { fits = k }

time-sized : (z : ℤ) → SFits w64 z → Holds Sized (timed (time_of z))
time-sized z f =
    let r = rem_z z (pos 1000000) in
    let s = mod_z (quot_z z (pos 1000000)) (2 ^ 32) in
    by_cond (λ d. Holds Sized (timed d)) (lt_z r (pos 0)) None _ (λ _. tt)
    (λ h. by_cond (λ d. Holds Sized (timed d)) (leb 86400 s) None _ (λ _. tt)
    (λ k. count-signed z f r refl h s refl (leb-false 86400 s k)))

module _ (start : ℕ) (bs : List ℕ) (a : AllBytes bs) where
  unsigned : (w : Width) (n : ℕ) → 2 ^ bits w ≡ 256 ^ n → length bs ≡ n → Fits w (from_le bs)
  unsigned w n s l =
      let h = rw (take_all (length bs) bs (omega arith)) at (from-part (length bs) 0 bs a) in
      record { fits = rw (s, ← l) h }

  signed : (w : Width) (n : ℕ) → 2 ^ bits w ≡ 256 ^ n → length bs ≡ n → SFits w (to_z w (from_le bs))
  signed w n s l = to_z-Fits w (from_le bs) (unsigned w n s l)

  narrow : start + length bs ≤ 1048576 → NarrowRange 4 (whole start bs)
  narrow h = record { start = omega arith; size = omega arith }

  -- a part of at most eight bytes
  part-fits : (at : ℕ) → Fits w64 (from_le (take 8 (drop at bs)))
  part-fits at = record { fits = from-part 8 at bs a }

  twos_sized : SizedNumeric (twos_complement bs)
  twos_sized =
      record { high = to_z-Fits w64 (from_le (take 8 (drop 8 bs))) (part-fits 8); low = part-fits 0; scale = a 16 }

  numeric_sized : (p s : ℕ) → p ≤ 38 → s < 256 → Holds Sized (decoded s bs (decode_bcd p bs))
  numeric_sized p s h k =
      by_number (λ d. Holds Sized (decoded s bs d)) p bs h
      (if_holds Sized (eqb (length bs) 17) (D.Numeric (twos_complement bs)) twos_sized)
      (λ negative x l. number_sized negative x s l k)

  slot-sized : (t : DataType) → (is_varlen t ≡ false → length bs ≡ size_of t) → start + length bs ≤ 1048576
      → precision_of t ≤ 38 → scale_of t < 256 → Holds Sized (read_slot t start bs)
  slot-sized T.SmallInt l n p s = signed w16 2 refl (l refl)
  slot-sized T.Int l n p s = signed w32 4 refl (l refl)
  slot-sized T.BigInt l n p s = signed w64 8 refl (l refl)
  slot-sized T.Real l n p s = unsigned w32 4 refl (l refl)
  slot-sized T.DoublePrecision l n p s = unsigned w64 8 refl (l refl)
  slot-sized (T.Numeric q r) l n p s = numeric_sized q r p s
  slot-sized (T.Decimal q r) l n p s = numeric_sized q r p s
  slot-sized T.Bool l n p s =
      by_cond (Fits w8) (eqb (get_or bs 0 0) 0) 0 1 (λ _. record { fits = omega arith })
      (λ _. record { fits = omega arith })
  slot-sized (T.Char m) l n p s = if_holds Sized (is_text bs) (D.Char (whole start bs)) (narrow n)
  slot-sized (T.Character m) l n p s = if_holds Sized (is_text bs) (D.Char (whole start bs)) (narrow n)
  slot-sized (T.Varchar q m) l n p s = if_holds Sized (fits_text q m bs) (D.Varchar (whole start bs)) (narrow n)
  slot-sized T.Date l n p s =
      if_holds Sized (is_date (to_z w32 (from_le bs))) (D.Date (to_z w32 (from_le bs))) (signed w32 4 refl (l refl))
  slot-sized T.Time l n p s = time-sized (to_z w64 (from_le bs)) (signed w64 8 refl (l refl))
  slot-sized (T.Bit m) l n p s = narrow n
  slot-sized T.Timestamp l n p s =
      if_holds Sized (is_timestamp (to_z w64 (from_le bs))) (D.Timestamp (to_z w64 (from_le bs)))
      (signed w64 8 refl (l refl))

  -- bs are the bytes of a column of type t, at `start` of a row that is not too long, of either sort
  pub read-sized : (t : DataType) (v : DataValue) → (is_varlen t ≡ false → length bs ≡ size_of t)
      → start + length bs ≤ 1048576 → precision_of t ≤ 38 → scale_of t < 256 → read_slot t start bs ≡ Some v → Sized v
  read-sized t v l n p s e = read-holds Sized (read_slot t start bs) v (slot-sized t l n p s) e
