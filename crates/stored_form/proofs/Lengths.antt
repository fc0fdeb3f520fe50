-- How long stored forms are: as long as the slot, a Varchar's as its text.
use Prim.Native.Nat.{ℕ, ◌+◌, ◌-◌, ◌^◌, ◌≤◌, ◌<◌}
use mathlib.Core.Path.{◌≡◌, refl}
use mathlib.Core.Bool.{true, false, cond}
use mathlib.Core.List.{List, ◌++◌}
use native.Mathlib.Omega.{arith}
use borrow.Author.Tests.{leb-true, ltb-true}
use lib.Dec.{eqb, ltb}
use lib.ListN.{length, replicate, length-append, length-replicate}
use Rattle.laws.proofs.Truths.{both}
use Rattle.text_limit.specs.Limit.{fits_text}
use Rattle.text_limit.proofs.Limits.{fits-size}
use Rattle.bit_utils.specs.Bits.{bytes_for}
use Rattle.bit_utils.proofs.Packing.{length-packed}
use Rattle.numeric.proofs.Packing.{length_encode}
use Rattle.datatype.specs.declared.DataType.{DataType}
use Rattle.datatype.specs.Types.{size_of, is_varlen, precision_of, scale_of}
use Rattle.value.specs.declared.DataValue.{DataValue}
use Rattle.value.specs.Kinds.{matches}
use Rattle.value.specs.Ranges.{range_of, in_area, text_of}
use Rattle.stored_form.specs.Number.{is_negative, magnitude}
use Rattle.stored_form.specs.Write.{fits_digits, suits, accepted, stored_form}
use Rattle.stored_form.proofs.Matched.{Matched, smallint, int, bigint, real, double, numeric, decimal, bool, char, character, varchar, date, time, bit, timestamp, matched}

-- a number whose digits fit
pub fits_below : (t : DataType) (s m : ℕ) → fits_digits t s m ≡ true → m < 10 ^ precision_of t
fits_below t s m e = ltb-true m (10 ^ precision_of t) (both (eqb s (scale_of t)) (ltb m (10 ^ precision_of t)) e).1

-- a text that fits n bytes
pub length_char : (n : ℕ) (x : List ℕ) → fits_text false n x ≡ true → length (x ++ replicate (n - length x) 0x20) ≡ n
length_char n x e = let l = fits-size false n x e in simp (length-append, length-replicate) (omega arith)

-- a value that the type holds, with its text in the area
module _ (t : DataType) (v : DataValue) (area : List ℕ) (e : accepted t v area ≡ true) where
  pub accepted-inside : (range_of v).start + (range_of v).length ≤ length area
  accepted-inside = leb-true ((range_of v).start + (range_of v).length) (length area) (both (in_area (length area) (range_of v)) (suits t v (text_of area v)) e).0

  pub accepted-suits : suits t v (text_of area v) ≡ true
  accepted-suits = (both (in_area (length area) (range_of v)) (suits t v (text_of area v)) e).1

-- every stored form
of_matched : (t : DataType) (v : DataValue) (x : List ℕ) → Matched t v → suits t v x ≡ true → length (stored_form t v x) ≡ cond (is_varlen t) (length x) (size_of t)
of_matched t v x (smallint z) e = refl
of_matched t v x (int z) e = refl
of_matched t v x (bigint z) e = refl
of_matched t v x (real b) e = refl
of_matched t v x (double b) e = refl
of_matched t v x (numeric p s n) e = length_encode p (is_negative n.high) (magnitude n.high n.low)
of_matched t v x (decimal p s n) e = length_encode p (is_negative n.high) (magnitude n.high n.low)
of_matched t v x (bool b) e = refl
of_matched t v x (char n r) e = length_char n x e
of_matched t v x (character n r) e = length_char n x e
of_matched t v x (varchar p n r) e = refl
of_matched t v x (date z) e = refl
of_matched t v x (time z) e = refl
of_matched t v x (bit n r) e = length-packed (bytes_for n) _
of_matched t v x (timestamp z) e = refl

pub length-stored : (t : DataType) (v : DataValue) (x : List ℕ) → matches t v ≡ true → suits t v x ≡ true → length (stored_form t v x) ≡ cond (is_varlen t) (length x) (size_of t)
length-stored t v x m e = of_matched t v x (matched t v m) e
