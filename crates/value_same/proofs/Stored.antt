-- What the same content means for stored forms: they are equal, but for two NaNs and two zeros.
use Prim.Native.Nat.{ℕ}
use mathlib.Core.Path.{◌≡◌, refl, sym, ap, ◌∙◌, subst}
use mathlib.Core.Bool.{true}
use mathlib.Core.List.{List, [], ◌++◌}
use lib.Dec.{eqb}
use lib.Ieee.{Format, binary32, binary64}
use mir.Syntax.{w16, w32, w64}
use mir.Val.{of_z}
use Rattle.laws.specs.Bytes.{to_le, from_le}
use Rattle.laws.proofs.Same.{same-eq}
use Rattle.laws.proofs.Truths.{both}
use Rattle.float.specs.Same.{same_value}
use Rattle.float.proofs.ByBits.{value_alike}
use Rattle.bit_utils.specs.Bits.{pack_bits, unpack_bits}
use Rattle.error.proofs.Results.{ok_first}
use Rattle.datatype.specs.declared.DataType.{DataType}
use Rattle.datatype.specs.Types.{length_of}
use Rattle.value.specs.declared.DataValue.{DataValue}
use Rattle.value.specs.declared.DataValue.TheVariants as D
use Rattle.value.specs.Kinds.{kind_of}
use Rattle.value_list.specs.Records.{body_of, record_of, record_at, Sized}
use Rattle.value_list.proofs.Records.{record_read, sized_narrow}
use Rattle.stored_form.specs.Write.{stored_form}
use Rattle.stored_form.proofs.Matched.{Kinded, kinded}
use Rattle.value_same.specs.Same.{same_of_kind, same_content}
use Rattle.value_same.specs.Stored.{kind_for, SameStored, equal_forms, alike_floats}
use Rattle.value_same.proofs.Equivalence.{same_kinds, pattern}

-- values whose records are equal: the record is read back
record_same : (v w : DataValue) → Sized v → Sized w → record_of true v ≡ record_of true w → v ≡ w
record_same v w f g e =
    ok_first
    (sym (record_read [] [] 0 refl true v f (sized_narrow v f)) ∙ ap (λ (s : List ℕ). record_at (s ++ []) 0) e
    ∙ record_read [] [] 0 refl true w g (sized_narrow w g))

module _ (t : DataType) (x y : List ℕ) where
  floats : (f : Format) (v w : DataValue) → kind_of v ≡ kind_for f → kind_of w ≡ kind_for f
      → stored_form t v x ≡ body_of v → stored_form t w y ≡ body_of w
      → same_value f (from_le (body_of v)) (from_le (body_of w)) ≡ true → SameStored t v x w y
  floats f v w p q e g h =
      alike_floats f p q
      (rw (e, g) (value_alike f (from_le (body_of v)) (from_le (body_of w)) (pattern f v p) (pattern f w q) h))

  of_kind : {k : ℕ} {v w : DataValue} → Kinded v k → Kinded w k → (k ≡ 6 → Sized v) → (k ≡ 6 → Sized w)
      → same_of_kind k (length_of t) v x w y ≡ true → SameStored t v x w y
  of_kind Kinded.null Kinded.null f g h = equal_forms refl
  of_kind (Kinded.smallint a) (Kinded.smallint b) f g h =
      equal_forms (same-eq (to_le 2 (of_z w16 a)) (to_le 2 (of_z w16 b)) h)
  of_kind (Kinded.int a) (Kinded.int b) f g h = equal_forms (same-eq (to_le 4 (of_z w32 a)) (to_le 4 (of_z w32 b)) h)
  of_kind (Kinded.bigint a) (Kinded.bigint b) f g h = equal_forms (same-eq (to_le 8 (of_z w64 a)) (to_le 8 (of_z w64 b)) h)
  of_kind (Kinded.real a) (Kinded.real b) f g h = floats binary32 (D.Real a) (D.Real b) refl refl refl refl h
  of_kind (Kinded.double a) (Kinded.double b) f g h =
      floats binary64 (D.DoublePrecision a) (D.DoublePrecision b) refl refl refl refl h
  of_kind (Kinded.numeric m) (Kinded.numeric o) f g h =
      let e = same-eq (body_of (D.Numeric m)) (body_of (D.Numeric o)) h in
      let n = record_same (D.Numeric m) (D.Numeric o) (f refl) (g refl) (rw e) in
      equal_forms (ap (λ (v : DataValue). stored_form t v x) n)
  of_kind (Kinded.bool a) (Kinded.bool b) f g h = equal_forms (same-eq (body_of (D.Bool a)) (body_of (D.Bool b)) h)
  of_kind (Kinded.char p) (Kinded.char q) f g h = equal_forms (ap (stored_form t (D.Char p)) (same-eq x y h))
  of_kind (Kinded.varchar p) (Kinded.varchar q) f g h = equal_forms (same-eq x y h)
  of_kind (Kinded.date a) (Kinded.date b) f g h = equal_forms (same-eq (to_le 4 (of_z w32 a)) (to_le 4 (of_z w32 b)) h)
  of_kind (Kinded.time a) (Kinded.time b) f g h = equal_forms (same-eq (to_le 8 (of_z w64 a)) (to_le 8 (of_z w64 b)) h)
  of_kind (Kinded.bit p) (Kinded.bit q) f g h =
      equal_forms (ap (pack_bits (length_of t)) (same-eq (unpack_bits (length_of t) x) (unpack_bits (length_of t) y) h))
  of_kind (Kinded.timestamp a) (Kinded.timestamp b) f g h =
      equal_forms (same-eq (to_le 8 (of_z w64 a)) (to_le 8 (of_z w64 b)) h)

  -- the bytes of a Numeric's record must hold it, those of others need not
  pub same-stored : (v w : DataValue) → (kind_of v ≡ 6 → Sized v) → (kind_of w ≡ 6 → Sized w)
      → same_content (length_of t) v x w y ≡ true → SameStored t v x w y
  same-stored v w f g h =
      let e = same_kinds (length_of t) v x w y h in
      of_kind (kinded v) (subst (Kinded w) (sym e) (kinded w)) f (λ k. g (sym e ∙ k))
      (both (eqb (kind_of v) (kind_of w)) (same_of_kind (kind_of v) (length_of t) v x w y) h).1
