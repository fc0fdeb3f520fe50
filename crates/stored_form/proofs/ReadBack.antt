-- A stored value is read back, and its text is what was stored; of a Bit the n bits are those that were given.
use Rattle.std.specs.Prelude.{Some}
use Prim.Native.Nat.{ℕ, ◌-◌, ◌^◌}
use mathlib.Core.Path.{◌≡◌, refl, sym, ap, ◌∙◌}
use mathlib.Core.Bool.{Bool, true, false, cond, false≢true}
use mathlib.Core.List.{List, ◌++◌}
use native.Mathlib.Omega.{arith}
use borrow.Author.Tests.{eqb-true, ltb-true}
use lib.Dec.{eqb, ltb}
use lib.IntN.{ℤ}
use lib.ListN.{length, replicate}
use mir.Syntax.{w16, w32, w64}
use Rattle.laws.proofs.Parts.{part_at}
use Rattle.laws.proofs.Truths.{both}
use Rattle.text.specs.Rfc3629.{is_text}
use Rattle.text.proofs.Append.{text-append, blanks}
use Rattle.text_limit.specs.Limit.{fits_text}
use Rattle.text_limit.proofs.Limits.{fits-valid}
use Rattle.temporal.specs.Ranges.{is_date, is_timestamp}
use Rattle.temporal.specs.Time.{time_of}
use Rattle.temporal.proofs.Counts.{time-read}
use Rattle.bit_utils.specs.Bits.{bytes_for, unpack_bits}
use Rattle.bit_utils.proofs.Packing.{length-packed}
use Rattle.bit_utils.proofs.Unpacking.{bits_back}
use Rattle.numeric.specs.Packed.{encode_bcd, decode_bcd}
use Rattle.numeric.proofs.RoundTrip.{decode_encode}
use Rattle.datatype.specs.declared.DataType.{DataType}
use Rattle.datatype.specs.declared.DataType.TheVariants as T
use Rattle.value.specs.declared.NumericValue.{NumericValue}
use Rattle.value.specs.declared.TextRange.{TextRange}
use Rattle.value.specs.declared.DataValue.{DataValue}
use Rattle.value.specs.declared.DataValue.TheVariants as D
use Rattle.value.specs.Kinds.{matches}
use Rattle.value.specs.Ranges.{range_of, text_of, part}
use Rattle.value_list.specs.Records.{SizedNumeric, Sized}
use Rattle.stored_form.specs.Number.{is_negative, magnitude}
use Rattle.stored_form.specs.Write.{suits, stored_form}
use Rattle.stored_form.specs.Read.{value_if, decoded, timed, whole, read_slot}
use Rattle.stored_form.specs.ReadBack.{read_back, has_text}
use Rattle.stored_form.proofs.Matched.{Matched, smallint, int, bigint, real, double, numeric, decimal, bool, char, character, varchar, date, time, bit, timestamp, matched}
use Rattle.stored_form.proofs.Lengths.{length_char}
use Rattle.stored_form.proofs.Numbers.{unsigned_back, signed_back, bool_back, number_back}

-- the digits of a number that fits
numeric_back : (p s : ℕ) (n : NumericValue) (bs : List ℕ) → cond (eqb n.scale s) (ltb (magnitude n.high n.low) (10 ^ p)) false ≡ true → SizedNumeric n
    → decoded s bs (decode_bcd p (encode_bcd p (is_negative n.high) (magnitude n.high n.low))) ≡ Some (D.Numeric n)
numeric_back p s n bs e f =
    let m : ℕ = magnitude n.high n.low in
    let fits = both (eqb n.scale s) (ltb m (10 ^ p)) e in
    ap (decoded s bs) (decode_encode p (is_negative n.high) m (ltb-true m (10 ^ p) fits.1))
    ∙ ap (λ (k : NumericValue). Some (D.Numeric k)) (number_back n s f.low.fits (eqb-true n.scale s fits.0))

-- a value under a test that holds of it
tested : (test : ℤ → Bool) (make : ℤ → DataValue) (y z : ℤ) → y ≡ z → test z ≡ true → value_if (test y) (make y) ≡ Some (make z)
tested test make y z e h = rw (e, h)

-- a text with its blanks is text, and fills the slot
char_back : (n start : ℕ) (x : List ℕ) → fits_text false n x ≡ true
    → (let bs = x ++ replicate (n - length x) 0x20 in value_if (is_text bs) (D.Char (whole start bs))) ≡ Some (D.Char (record { start = start; length = n }))
char_back n start x e =
    let valid : is_text (x ++ replicate (n - length x) 0x20) ≡ true = text-append x (replicate (n - length x) 0x20) (fits-valid false n x e) (blanks (n - length x)) in
    rw (valid, length_char n x e)

of_matched : (t : DataType) (v : DataValue) (x : List ℕ) (start : ℕ) → Matched t v → suits t v x ≡ true → Sized v → read_slot t start (stored_form t v x) ≡ Some (read_back t start v x)
of_matched t v x start (smallint z) e f = ap (λ (y : ℤ). Some (D.SmallInt y)) (signed_back w16 2 refl z f)
of_matched t v x start (int z) e f = ap (λ (y : ℤ). Some (D.Int y)) (signed_back w32 4 refl z f)
of_matched t v x start (bigint z) e f = ap (λ (y : ℤ). Some (D.BigInt y)) (signed_back w64 8 refl z f)
of_matched t v x start (real b) e f = ap (λ (y : ℕ). Some (D.Real y)) (unsigned_back w32 4 refl b f)
of_matched t v x start (double b) e f = ap (λ (y : ℕ). Some (D.DoublePrecision y)) (unsigned_back w64 8 refl b f)
of_matched t v x start (numeric p s n) e f = numeric_back p s n (stored_form t v x) e f
of_matched t v x start (decimal p s n) e f = numeric_back p s n (stored_form t v x) e f
of_matched t v x start (bool b) e f = ap (λ (y : ℕ). Some (D.Bool y)) (bool_back b e)
of_matched t v x start (char n r) e f = char_back n start x e
of_matched t v x start (character n r) e f = char_back n start x e
of_matched t v x start (varchar p n r) e f = rw e
of_matched t v x start (date z) e f = tested is_date D.Date _ z (signed_back w32 4 refl z f) e
of_matched t v x start (time z) e f = ap (λ (y : ℤ). timed (time_of y)) (signed_back w64 8 refl z f) ∙ ap timed (time-read z e)
of_matched t v x start (bit n r) e f = ap (λ (k : ℕ). Some (D.Bit (record { start = start; length = k }))) (length-packed (bytes_for n) _)
of_matched t v x start (timestamp z) e f = tested is_timestamp D.Timestamp _ z (signed_back w64 8 refl z f) e

pub read-stored : (t : DataType) (v : DataValue) (x : List ℕ) (start : ℕ) → matches t v ≡ true → suits t v x ≡ true → Sized v → read_slot t start (stored_form t v x) ≡ Some (read_back t start v x)
read-stored t v x start m e f = of_matched t v x start (matched t v m) e f

-- ---- the text of what was read is the slot

range_matched : (t : DataType) (v : DataValue) (x : List ℕ) (start : ℕ) → Matched t v → suits t v x ≡ true → has_text v ≡ true → range_of (read_back t start v x) ≡ whole start (stored_form t v x)
range_matched t v x start (smallint z) e f = absurd (false≢true f)
range_matched t v x start (int z) e f = absurd (false≢true f)
range_matched t v x start (bigint z) e f = absurd (false≢true f)
range_matched t v x start (real b) e f = absurd (false≢true f)
range_matched t v x start (double b) e f = absurd (false≢true f)
range_matched t v x start (numeric p s n) e f = absurd (false≢true f)
range_matched t v x start (decimal p s n) e f = absurd (false≢true f)
range_matched t v x start (bool b) e f = absurd (false≢true f)
range_matched t v x start (char n r) e f = ap (λ (k : ℕ). record { start = start; length = k }) (sym (length_char n x e))
range_matched t v x start (character n r) e f = ap (λ (k : ℕ). record { start = start; length = k }) (sym (length_char n x e))
range_matched t v x start (varchar p n r) e f = refl
range_matched t v x start (date z) e f = absurd (false≢true f)
range_matched t v x start (time z) e f = absurd (false≢true f)
range_matched t v x start (bit n r) e f = ap (λ (k : ℕ). record { start = start; length = k }) (sym (length-packed (bytes_for n) _))
range_matched t v x start (timestamp z) e f = absurd (false≢true f)

-- in any row with the slot at `start`
pub text-stored : (t : DataType) (v : DataValue) (x us vs : List ℕ) (start : ℕ) → matches t v ≡ true → suits t v x ≡ true → has_text v ≡ true → length us ≡ start
    → text_of (us ++ (stored_form t v x ++ vs)) (read_back t start v x) ≡ stored_form t v x
text-stored t v x us vs start m e h l =
    ap (part (us ++ (stored_form t v x ++ vs))) (range_matched t v x start (matched t v m) e h) ∙ part_at us (stored_form t v x) vs start l

-- ---- the bits of a Bit

module _ (n : ℕ) (r : TextRange) (x : List ℕ) (e : suits (T.Bit n) (D.Bit r) x ≡ true) where
  pub bits_form : unpack_bits n (stored_form (T.Bit n) (D.Bit r) x) ≡ unpack_bits n x
  bits_form = let l = eqb-true (length x) (bytes_for n) e in bits_back n x (omega arith)

  pub bits_stored_lem : (us vs : List ℕ) (start : ℕ) → length us ≡ start
      → unpack_bits n (text_of (us ++ (stored_form (T.Bit n) (D.Bit r) x ++ vs)) (read_back (T.Bit n) start (D.Bit r) x))
      ≡ unpack_bits n x
  bits_stored_lem us vs start l =
      ap (unpack_bits n) (text-stored (T.Bit n) (D.Bit r) x us vs start refl e refl l) ∙ bits_form
