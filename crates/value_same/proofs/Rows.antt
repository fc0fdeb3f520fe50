-- What the code's comparison uses: a kind that is no float and no Bit, and values in the rows they stand in.
use Prim.Native.Nat.{ℕ, ◌+◌, ◌≤◌}
use mathlib.Core.Path.{◌≡◌, sym, ap, ◌∙◌}
use mathlib.Core.Bool.{Bool, true, false, cond}
use mathlib.Core.List.{List}
use native.Mathlib.Omega.{arith}
use lib.Dec.{eqb}
use lib.ListN.{length, drop, length-drop}
use lib.Seq.{length-take-le}
use borrow.Author.Tests.{eq-eqb, ne_eqb, eqb-true, leb-true}
use Rattle.laws.specs.Bytes.{same_bytes}
use Rattle.laws.proofs.Truths.{both}
use Rattle.bit_utils.specs.Bits.{bytes_for}
use Rattle.value.specs.declared.DataValue.{DataValue}
use Rattle.value.specs.Kinds.{kind_of}
use Rattle.value.specs.Ranges.{range_of, in_area, text_of}
use Rattle.value_same.specs.InnerFields.{content_of, same_number, same_by_fields, fills_bits, stands_in}

-- a kind that is no float and no Bit
module _ (n : ℕ) (v : DataValue) (x : List ℕ) (w : DataValue) (y : List ℕ)
    (e : kind_of v ≡ kind_of w) (p : kind_of v ≡ 4 → ⊥) (q : kind_of v ≡ 5 → ⊥) (s : kind_of v ≡ 12 → ⊥) where
  others : cond (same_bytes x y) (same_number (content_of v) (content_of w)) false ≡ same_by_fields n v x w y
  others = rw (eq-eqb (kind_of v) (kind_of w) e, ne_eqb (kind_of v) 4 p, ne_eqb (kind_of v) 5 q, ne_eqb (kind_of v) 12 s)

  pub same-others : same_bytes x y ≡ true → same_number (content_of v) (content_of w) ≡ same_by_fields n v x w y
  same-others h = ap (λ (b : Bool). cond b (same_number (content_of v) (content_of w)) false) (sym h) ∙ others

  pub texts-differ : same_bytes x y ≡ false → false ≡ same_by_fields n v x w y
  texts-differ h = ap (λ (b : Bool). cond b (same_number (content_of v) (content_of w)) false) (sym h) ∙ others

-- a range that lies in the row has its bytes there
pub text-length : (v : DataValue) (row : List ℕ) → (range_of v).start + (range_of v).length ≤ length row
    → length (text_of row v) ≡ (range_of v).length
text-length v row h = length-take-le (range_of v).length (drop (range_of v).start row) (rw length-drop (omega arith))

module _ (n : ℕ) (v : DataValue) (row : List ℕ) (e : stands_in n v row ≡ true) where
  pub stands_inside : (range_of v).start + (range_of v).length ≤ length row
  stands_inside =
      leb-true ((range_of v).start + (range_of v).length) (length row)
      (both (in_area (length row) (range_of v)) (fills_bits n v) e).0

  -- "exactly the bytes that n bits fill"
  pub stands_bits : kind_of v ≡ 12 → length (text_of row v) ≡ bytes_for n
  stands_bits k =
      let f : cond (eqb (kind_of v) 12) (eqb (range_of v).length (bytes_for n)) true ≡ true
      = (both (in_area (length row) (range_of v)) (fills_bits n v) e).1 in
      text-length v row stands_inside
      ∙ eqb-true (range_of v).length (bytes_for n) (rw (eq-eqb (kind_of v) 12 k) at f)
