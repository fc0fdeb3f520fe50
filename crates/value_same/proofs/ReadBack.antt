-- A value that was stored reads back as the same content. A Char must fill its column: a shorter one gets blanks.
use Prim.Native.Nat.{ℕ, ◌-◌}
use mathlib.Core.Path.{◌≡◌, refl, ◌∙◌}
use mathlib.Core.Bool.{true}
use mathlib.Core.List.{List, ◌++◌, append-nil}
use native.Mathlib.Omega.{arith}
use borrow.Author.Tests.{eqb-true}
use lib.Ieee.{binary32, binary64}
use lib.ListN.{length}
use Rattle.laws.specs.Bytes.{from_le}
use Rattle.laws.proofs.Same.{same_self as bytes-self}
use Rattle.float.proofs.Equivalence.{same_self as float-self}
use Rattle.bit_utils.proofs.Unpacking.{bits_back}
use Rattle.bit_utils.specs.Bits.{bytes_for, unpack_bits}
use Rattle.datatype.specs.declared.DataType.{DataType}
use Rattle.datatype.specs.Types.{length_of}
use Rattle.value.specs.declared.DataValue.{DataValue}
use Rattle.value.specs.declared.DataValue.TheVariants as D
use Rattle.value.specs.Kinds.{kind_of, matches}
use Rattle.value.specs.Ranges.{text_of}
use Rattle.value_list.specs.Records.{body_of}
use Rattle.stored_form.specs.Write.{suits, stored_form}
use Rattle.stored_form.specs.ReadBack.{read_back, has_text}
use Rattle.stored_form.proofs.ReadBack.{text-stored}
use Rattle.value_same.specs.Same.{same_content}
use Rattle.value_same.proofs.Rows.{text-length}
use Rattle.value_same.proofs.Read.{Placed}

module _ (t : DataType) (start : ℕ) (x y : List ℕ) where
  -- y is the text of what was read, if it has one
  pub same-read-back : (v : DataValue) → suits t v x ≡ true → (kind_of v ≡ 8 → length x ≡ length_of t)
      → (has_text v ≡ true → y ≡ stored_form t v x) → same_content (length_of t) v x (read_back t start v x) y ≡ true
  same-read-back D.Null s c e = refl
  same-read-back (D.SmallInt z) s c e = bytes-self (body_of (D.SmallInt z))
  same-read-back (D.Int z) s c e = bytes-self (body_of (D.Int z))
  same-read-back (D.BigInt z) s c e = bytes-self (body_of (D.BigInt z))
  same-read-back (D.Real b) s c e = float-self binary32 (from_le (body_of (D.Real b)))
  same-read-back (D.DoublePrecision b) s c e = float-self binary64 (from_le (body_of (D.DoublePrecision b)))
  same-read-back (D.Numeric m) s c e = bytes-self (body_of (D.Numeric m))
  same-read-back (D.Bool b) s c e = bytes-self (body_of (D.Bool b))
  same-read-back (D.Char r) s c e =
      let none : length_of t - length x ≡ 0 = let l = c refl in omega arith in
      rw (e refl, none, append-nil x) (bytes-self x)
  same-read-back (D.Varchar r) s c e = rw (e refl) (bytes-self x)
  same-read-back (D.Date z) s c e = bytes-self (body_of (D.Date z))
  same-read-back (D.Time z) s c e = bytes-self (body_of (D.Time z))
  same-read-back (D.Bit r) s c e =
      let filled = eqb-true (length x) (bytes_for (length_of t)) s in
      let back = bits_back (length_of t) x (omega arith) in
      rw (e refl, back) (bytes-self (unpack_bits (length_of t) x))
  same-read-back (D.Timestamp z) s c e = bytes-self (body_of (D.Timestamp z))

-- in any row that has the stored form at `start`
module _ (t : DataType) (v : DataValue) (x us vs : List ℕ) (start : ℕ)
    (m : matches t v ≡ true) (s : suits t v x ≡ true) where
  pub same_in_row : (kind_of v ≡ 8 → length x ≡ length_of t) → length us ≡ start
      → (let row = us ++ (stored_form t v x ++ vs) in
      same_content (length_of t) v x (read_back t start v x) (text_of row (read_back t start v x)) ≡ true)
  same_in_row c l =
      same-read-back t start x (text_of (us ++ (stored_form t v x ++ vs)) (read_back t start v x)) v s c
      (λ h. text-stored t v x us vs start m s h l)

-- a Char that was read from a row fills its column
pub placed_chars : {t : DataType} {row : List ℕ} {v : DataValue} → Placed t row v → kind_of v ≡ 8
    → length (text_of row v) ≡ length_of t
placed_chars {row = row} {v = v} p k = text-length v row p.inside ∙ p.chars k
