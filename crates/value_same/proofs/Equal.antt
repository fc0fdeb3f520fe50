-- Equal stored forms read back as the same content, wherever they stand.
use Rattle.std.specs.Prelude.{Some}
use Prim.Native.Nat.{ℕ}
use mathlib.Core.Path.{◌≡◌, sym, ap, ◌∙◌}
use mathlib.Core.Bool.{true}
use mathlib.Core.List.{List}
use lib.ListN.{length, take, drop}
use Rattle.laws.proofs.Same.{same_self as bytes-self}
use Rattle.bit_utils.specs.Bits.{unpack_bits}
use Rattle.datatype.specs.declared.DataType.{DataType}
use Rattle.datatype.specs.Types.{length_of}
use Rattle.value.specs.declared.DataValue.{DataValue}
use Rattle.value.specs.Ranges.{part, text_of}
use Rattle.stored_form.specs.Read.{read_slot}
use Rattle.stored_form.proofs.Anywhere.{Twins, alike, char, varchar, bit, both}
use Rattle.value_same.specs.Same.{same_content}
use Rattle.value_same.proofs.Equivalence.{same_self}

-- bytes that stand at a in r and at b in s
module _ (a b : ℕ) (bs r s : List ℕ)
    (at_a : take (length bs) (drop a r) ≡ bs) (at_b : take (length bs) (drop b s) ≡ bs) where
  twins_same : (n : ℕ) {v w : DataValue} → Twins a b bs v w → same_content n v (text_of r v) w (text_of s w) ≡ true
  twins_same n {v} (alike e) =
      ap (same_content n v (text_of r v) v) (ap (part s) e ∙ ap (part r) (sym e)) ∙ same_self n v (text_of r v)
  twins_same n char = rw (at_a, at_b) (bytes-self bs)
  twins_same n varchar = rw (at_a, at_b) (bytes-self bs)
  twins_same n bit = rw (at_a, at_b) (bytes-self (unpack_bits n bs))

  pub equal_forms_same : (t : DataType) {v w : DataValue} → read_slot t a bs ≡ Some v → read_slot t b bs ≡ Some w
      → same_content (length_of t) v (text_of r v) w (text_of s w) ≡ true
  equal_forms_same t e f = twins_same (length_of t) (rw (e, f) at (both a b bs t))
