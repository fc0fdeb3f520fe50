-- The comparison by the code's numbers is that of the definition.
use Prim.Native.Nat.{ℕ, zero, suc, ◌/◌, ◌^◌}
use mathlib.Core.Path.{◌≡◌, refl, sym, ap, ◌∙◌, subst}
use mathlib.Core.Bool.{Bool, true, false, cond, ◌&&◌}
use mathlib.Core.List.{List, [], ◌∷◌, ◌++◌}
use native.Mathlib.Nat.{add-zero}
use native.Mathlib.Omega.{arith}
use lib.Dec.{eqb}
use lib.IntN.{ℤ}
use lib.ListN.{length}
use borrow.Author.Tests.{eq-eqb, ne_eqb, eqb-true}
use mir.Syntax.{Width, w16, w32, w64}
use mir.Val.{bits, Fits, SFits, to_z, of_z}
use mir.ValLaws.{of_z_fits}
use Rattle.laws.specs.Bytes.{to_le, from_le, same_bytes}
use Rattle.laws.proofs.Bytes.{Below, length-to_le, to_from}
use Rattle.laws.proofs.Same.{same_self as bytes-self, same-eq, same-append}
use Rattle.laws.proofs.Truths.{and-true, same, same_or}
use Rattle.signed.proofs.Casts.{handed}
use Rattle.value.specs.declared.DataValue.{DataValue}
use Rattle.value.specs.Kinds.{kind_of}
use Rattle.value.specs.Ranges.{text_of}
use Rattle.stored_form.proofs.Matched.{Kinded, kinded}
use Rattle.stored_form.proofs.Numbers.{unsigned_back}
use Rattle.value_same.specs.Same.{same_of_kind, same_content}
use Rattle.value_same.specs.InnerFields.{same_fields, same_by_fields}

to_below : (w x : ℕ) → Below 256 (to_le w x)
to_below zero x = tt
to_below (suc w) x = (omega arith, to_below w (x / 256))

-- numbers of w bytes are the same if their bytes are
module _ (w a b : ℕ) where
  back : (x : ℕ) → to_le w (from_le (to_le w x)) ≡ to_le w x
  back x = rw (length-to_le w x) at (to_from (to_le w x) (to_below w x))

  word_same : eqb (from_le (to_le w a)) (from_le (to_le w b)) ≡ same_bytes (to_le w a) (to_le w b)
  word_same =
      same
      (λ h. let e = eqb-true (from_le (to_le w a)) (from_le (to_le w b)) h in
      ap (same_bytes (to_le w a)) (sym (back b) ∙ ap (to_le w) (sym e) ∙ back a) ∙ bytes-self (to_le w a))
      (λ h. eq-eqb (from_le (to_le w a)) (from_le (to_le w b)) (ap from_le (same-eq (to_le w a) (to_le w b) h)))

cond_self : (b : Bool) → cond b true false ≡ b
cond_self true = refl
cond_self false = refl

-- a byte
byte_same : (a b : ℕ) → cond (eqb (from_le (a ∷ [])) (from_le (b ∷ []))) true false ≡ same_bytes (a ∷ []) (b ∷ [])
byte_same a b = rw (add-zero a, add-zero b) (cond_self (eqb a b) ∙ sym (and-true (eqb a b)))

-- a Numeric: two numbers of w bytes and a byte
all_three : (a b c : Bool) → cond a (cond b c false) false ≡ (a && (b && (c && true)))
all_three true true c = sym (and-true c)
all_three true false c = refl
all_three false b c = refl

module _ (w l l' u u' s s' : ℕ) where
  numeric_same : cond (eqb (from_le (to_le w l)) (from_le (to_le w l')))
      (cond (eqb (from_le (to_le w u)) (from_le (to_le w u'))) (eqb s s') false) false
      ≡ same_bytes (to_le w l ++ (to_le w u ++ (s ∷ []))) (to_le w l' ++ (to_le w u' ++ (s' ∷ [])))
  numeric_same =
      let lengths : (a b : ℕ) → length (to_le w a) ≡ length (to_le w b)
      = λ a b. length-to_le w a ∙ sym (length-to_le w b) in
      rw (
        word_same w l l',
        word_same w u u',
        same-append (to_le w l) (to_le w l') (to_le w u ++ (s ∷ [])) (to_le w u' ++ (s' ∷ [])) (lengths l l'),
        same-append (to_le w u) (to_le w u') (s ∷ []) (s' ∷ []) (lengths u u'),
      )
      (all_three (same_bytes (to_le w l) (to_le w l')) (same_bytes (to_le w u) (to_le w u')) (eqb s s'))

-- values of one kind, with the bytes of their ranges in two rows
module _ (n : ℕ) (r s : List ℕ) where
  of_kind : {k : ℕ} {v w : DataValue} → Kinded v k → Kinded w k
      → same_fields k n v (text_of r v) w (text_of s w) ≡ same_of_kind k n v (text_of r v) w (text_of s w)
  of_kind Kinded.null Kinded.null = refl
  of_kind (Kinded.smallint y) (Kinded.smallint z) = cond_self _ ∙ word_same 2 (of_z w16 y) (of_z w16 z)
  of_kind (Kinded.int y) (Kinded.int z) = cond_self _ ∙ word_same 4 (of_z w32 y) (of_z w32 z)
  of_kind (Kinded.bigint y) (Kinded.bigint z) = cond_self _ ∙ word_same 8 (of_z w64 y) (of_z w64 z)
  of_kind (Kinded.real a) (Kinded.real b) = refl
  of_kind (Kinded.double a) (Kinded.double b) = refl
  of_kind (Kinded.numeric m) (Kinded.numeric o) =
      numeric_same 8 m.low o.low (of_z w64 m.high) (of_z w64 o.high) m.scale o.scale
  of_kind (Kinded.bool a) (Kinded.bool b) = byte_same a b
  of_kind (Kinded.char p) (Kinded.char q) = cond_self _
  of_kind (Kinded.varchar p) (Kinded.varchar q) = cond_self _
  of_kind (Kinded.date y) (Kinded.date z) = cond_self _ ∙ word_same 4 (of_z w32 y) (of_z w32 z)
  of_kind (Kinded.time y) (Kinded.time z) = cond_self _ ∙ word_same 8 (of_z w64 y) (of_z w64 z)
  of_kind (Kinded.bit p) (Kinded.bit q) = refl
  of_kind (Kinded.timestamp y) (Kinded.timestamp z) = cond_self _ ∙ word_same 8 (of_z w64 y) (of_z w64 z)

  pub by_fields : (v w : DataValue)
      → same_by_fields n v (text_of r v) w (text_of s w) ≡ same_content n v (text_of r v) w (text_of s w)
  by_fields v w =
      same_or (kind_of v) (kind_of w)
      (λ e. rw (eq-eqb (kind_of v) (kind_of w) e) (of_kind (kinded v) (subst (Kinded w) (sym e) (kinded w))))
      (λ h. rw (ne_eqb (kind_of v) (kind_of w) h))

-- ---- a number as the code has it is that of its bytes

module _ (w : Width) (n : ℕ) (s : 2 ^ bits w ≡ 256 ^ n) where
  pub unsigned_word : (x : ℕ) → Fits w x → x ≡ from_le (to_le n x)
  unsigned_word x f = sym (unsigned_back w n s x f)

  pub signed_word : (z : ℤ) → SFits w z → {r : ℕ} → r ≡ of_z w (to_z w (of_z w z)) → r ≡ from_le (to_le n (of_z w z))
  signed_word z f e = handed w (of_z w) z f e ∙ unsigned_word (of_z w z) (of_z_fits w z f)
