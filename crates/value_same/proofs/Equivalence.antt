-- To have the same content is an equivalence, on all values.
use Prim.Native.Nat.{ℕ, zero, suc, ◌*◌, ◌/◌, ◌^◌, ◌<◌}
use mathlib.Core.Path.{◌≡◌, refl, sym, ap, ◌∙◌, subst}
use mathlib.Core.Bool.{Bool, true, false, cond}
use mathlib.Core.List.{List}
use native.Mathlib.Nat.{pow-succ'}
use native.Mathlib.Omega.{arith}
use lib.Dec.{eqb}
use lib.Ieee.{Format, binary32, binary64, top}
use borrow.Author.Tests.{eq-eqb, ne_eqb, eqb-true}
use Rattle.laws.specs.Bytes.{to_le, from_le, same_bytes}
use Rattle.laws.proofs.Same.{same_self as bytes-self, same-eq}
use Rattle.laws.proofs.Truths.{both, same, same_or}
use Rattle.float.specs.Same.{same_value}
use Rattle.float.proofs.Equivalence.{same_self as float-self, same_sym as float-sym, same_trans as float-trans}
use Rattle.bit_utils.specs.Bits.{unpack_bits}
use Rattle.value.specs.declared.DataValue.{DataValue}
use Rattle.value.specs.Kinds.{kind_of}
use Rattle.value_list.specs.Records.{body_of}
use Rattle.stored_form.proofs.Matched.{Kinded, kinded}
use Rattle.value_same.specs.Same.{same_of_kind, same_content}
use Rattle.value_same.specs.Stored.{kind_for}

-- ---- a float's body holds a pattern of its format

to_less : (w x : ℕ) → from_le (to_le w x) < 256 ^ w
to_less zero x = omega arith
to_less (suc w) x = rw (pow-succ' 256 w) (omega (arith, to_less w (x / 256)))

of_format : (f : Format) {v : DataValue} → Kinded v (kind_for f) → from_le (body_of v) < 2 * top f
of_format binary32 (Kinded.real b) = omega (arith, to_less 4 b)
of_format binary64 (Kinded.double b) = omega (arith, to_less 8 b)

pub pattern : (f : Format) (v : DataValue) → kind_of v ≡ kind_for f → from_le (body_of v) < 2 * top f
pattern f v e = of_format f (subst (Kinded v) e (kinded v))

-- ---- lists

bytes_sym : (xs ys : List ℕ) → same_bytes xs ys ≡ same_bytes ys xs
bytes_sym xs ys = same (λ h. rw (same-eq xs ys h) (bytes-self ys)) (λ h. rw (same-eq ys xs h) (bytes-self xs))

bytes_trans : (xs ys zs : List ℕ) → same_bytes xs ys ≡ true → same_bytes ys zs ≡ true → same_bytes xs zs ≡ true
bytes_trans xs ys zs h k = rw (same-eq xs ys h) k

-- ---- reflexive

module _ (n : ℕ) (v : DataValue) (x : List ℕ) where
  kind_self : (k : ℕ) → same_of_kind k n v x v x ≡ true
  kind_self k =
      yes (eqb k 4) (float-self binary32 (from_le (body_of v)))
      (yes (eqb k 5) (float-self binary64 (from_le (body_of v)))
      (yes (eqb k 8) (bytes-self x)
      (yes (eqb k 9) (bytes-self x)
      (yes (eqb k 12) (bytes-self (unpack_bits n x)) (bytes-self (body_of v))))))
    where
      yes : (t : Bool) {a b : Bool} → a ≡ true → b ≡ true → cond t a b ≡ true
      yes true p q = p
      yes false p q = q

  pub same_self : same_content n v x v x ≡ true
  same_self = rw (eq-eqb (kind_of v) (kind_of v) refl) (kind_self (kind_of v))

-- ---- symmetric

branches : (t : Bool) {a b a' b' : Bool} → (t ≡ true → a ≡ a') → (t ≡ false → b ≡ b') → cond t a b ≡ cond t a' b'
branches true f g = f refl
branches false f g = g refl

module _ (n : ℕ) (v : DataValue) (x : List ℕ) (w : DataValue) (y : List ℕ) where
  pub same_kinds : same_content n v x w y ≡ true → kind_of v ≡ kind_of w
  same_kinds h =
      eqb-true (kind_of v) (kind_of w) (both (eqb (kind_of v) (kind_of w)) (same_of_kind (kind_of v) n v x w y) h).0

  kind_sym : kind_of v ≡ kind_of w → same_of_kind (kind_of v) n v x w y ≡ same_of_kind (kind_of v) n w y v x
  kind_sym e =
      branches (eqb (kind_of v) 4) (λ t. floats binary32 (eqb-true (kind_of v) 4 t))
      (λ _. branches (eqb (kind_of v) 5) (λ t. floats binary64 (eqb-true (kind_of v) 5 t))
      (λ _. branches (eqb (kind_of v) 8) (λ _. bytes_sym x y)
      (λ _. branches (eqb (kind_of v) 9) (λ _. bytes_sym x y)
      (λ _. branches (eqb (kind_of v) 12) (λ _. bytes_sym (unpack_bits n x) (unpack_bits n y))
      (λ _. bytes_sym (body_of v) (body_of w))))))
    where
      floats : (f : Format) → kind_of v ≡ kind_for f
          → same_value f (from_le (body_of v)) (from_le (body_of w)) ≡ same_value f (from_le (body_of w)) (from_le (body_of v))
      floats f k = float-sym f (from_le (body_of v)) (from_le (body_of w)) (pattern f v k) (pattern f w (sym e ∙ k))

  pub same_sym : same_content n v x w y ≡ same_content n w y v x
  same_sym =
      same_or (kind_of v) (kind_of w)
      (λ e. rw (eq-eqb (kind_of v) (kind_of w) e, eq-eqb (kind_of w) (kind_of v) (sym e))
      (kind_sym e ∙ ap (λ (k : ℕ). same_of_kind k n w y v x) e))
      (λ h. rw (ne_eqb (kind_of v) (kind_of w) h, ne_eqb (kind_of w) (kind_of v) (λ e. h (sym e))))

-- ---- transitive

chained : (t : Bool) {a b a' b' a'' b'' : Bool} → (t ≡ true → a ≡ true → a' ≡ true → a'' ≡ true)
    → (t ≡ false → b ≡ true → b' ≡ true → b'' ≡ true) → cond t a b ≡ true → cond t a' b' ≡ true → cond t a'' b'' ≡ true
chained true f g h k = f refl h k
chained false f g h k = g refl h k

module _ (n : ℕ) (u : DataValue) (x : List ℕ) (v : DataValue) (y : List ℕ) (w : DataValue) (z : List ℕ) where
  kind_trans : kind_of u ≡ kind_of v → kind_of u ≡ kind_of w → same_of_kind (kind_of u) n u x v y ≡ true
      → same_of_kind (kind_of u) n v y w z ≡ true → same_of_kind (kind_of u) n u x w z ≡ true
  kind_trans p q =
      chained (eqb (kind_of u) 4) (λ t. floats binary32 (eqb-true (kind_of u) 4 t))
      (λ _. chained (eqb (kind_of u) 5) (λ t. floats binary64 (eqb-true (kind_of u) 5 t))
      (λ _. chained (eqb (kind_of u) 8) (λ _. bytes_trans x y z)
      (λ _. chained (eqb (kind_of u) 9) (λ _. bytes_trans x y z)
      (λ _. chained (eqb (kind_of u) 12) (λ _. bytes_trans (unpack_bits n x) (unpack_bits n y) (unpack_bits n z))
      (λ _. bytes_trans (body_of u) (body_of v) (body_of w))))))
    where
      floats : (f : Format) → kind_of u ≡ kind_for f → same_value f (from_le (body_of u)) (from_le (body_of v)) ≡ true
          → same_value f (from_le (body_of v)) (from_le (body_of w)) ≡ true
          → same_value f (from_le (body_of u)) (from_le (body_of w)) ≡ true
      floats f k =
          float-trans f (from_le (body_of u)) (from_le (body_of v)) (pattern f u k) (pattern f v (sym p ∙ k))
          (from_le (body_of w)) (pattern f w (sym q ∙ k))

  pub same_trans : same_content n u x v y ≡ true → same_content n v y w z ≡ true → same_content n u x w z ≡ true
  same_trans h k =
      let p = same_kinds n u x v y h in
      let q = p ∙ same_kinds n v y w z k in
      let first = (both (eqb (kind_of u) (kind_of v)) (same_of_kind (kind_of u) n u x v y) h).1 in
      let second = (both (eqb (kind_of v) (kind_of w)) (same_of_kind (kind_of v) n v y w z) k).1 in
      rw (eq-eqb (kind_of u) (kind_of w) q) (kind_trans p q first (ap (λ (k : ℕ). same_of_kind k n v y w z) p ∙ second))
