-- Records that are followed by a body: what the code knows where it returns.
use Rattle.error.specs.Result.{Result}
use Rattle.std.specs.Prelude.{Err, Ok}
use Prim.Native.Nat.{ℕ, ◌+◌, ◌<◌, ◌≤◌}
use mathlib.Core.Path.{◌≡◌, refl}
use mathlib.Core.Bool.{Bool, true, false, cond, ◌&&◌}
use mathlib.Core.List.{List}
use native.Mathlib.Omega.{arith}
use lib.Dec.{eqb, leb, ltb}
use lib.ListN.{length, get_or, take, drop}
use borrow.Author.Tests.{lt-ltb, le-ltb, leb-true, eqb-true}
use Rattle.error.specs.declared.Refusal.TheVariants.{BadRecord, BadSchema}
use Rattle.laws.specs.Bytes.{from_le}
use Rattle.laws.proofs.Truths.{and_left, and_right, by_cond}
use Rattle.datatype.specs.Types.{precision_of, counts_points}
use Rattle.datatype.specs.declared.DataType.{DataType}
use Rattle.datatype.proofs.KindTable.{Bodied, no, word, pair}
use Rattle.datatype.specs.Schema.{Kind, unknown, plain, sized, digits, column_kind, good_digits, column_record_of, column_record_at, unless_cut}

module _ (s : List ℕ) (at : ℕ) where
  -- a body that is cut off, whatever the kind
  pub cut : {q : Kind} → Bodied q → length s < at + 3 → Err (BadRecord at) ≡ column_record_of q s at
  cut no h = refl
  cut word h = rw (lt-ltb (length s) (at + 3) h)
  cut pair h = rw (lt-ltb (length s) (at + 3) h)

  -- a body that is there
  pub there : (r q : Result (DataType × ℕ)) → at + 3 ≤ length s → r ≡ q → r ≡ unless_cut s at q
  there r q h e = rw (le-ltb (length s) (at + 3) h) e

-- ---- what holds of the type that a record says

-- P holds of the types of a kind
data Says (P : DataType → Type 0) : Kind → Type 0 where
  none : Says P unknown
  plainly : {t : DataType} → P t → Says P (plain t)
  sizedly : {t : ℕ → DataType} → ((n : ℕ) → P (t n)) → Says P (sized t)
  given : {t : ℕ → ℕ → DataType} → ((p s : ℕ) → good_digits p s ≡ true → P (t p s)) → Says P (digits t)

chosen : (P : DataType → Type 0) (t : Bool) (x y : Kind) → Says P x → Says P y → Says P (cond t x y)
chosen P true x y p q = p
chosen P false x y p q = q

module _ (P : DataType → Type 0) where
  abbrev InRecord : Result (DataType × ℕ) → Type 0
  InRecord (Ok (t, next)) = P t
  InRecord (Err r) = Unit {0}

  said : {q : Kind} → Says P q → (s : List ℕ) (at : ℕ) → InRecord (column_record_of q s at)
  said none s at = tt
  said (plainly e) s at = e
  said (sizedly {t} e) s at =
      by_cond InRecord (ltb (length s) (at + 3)) (Err (BadRecord at)) _ (λ f. tt) (λ f. e (from_le (take 2 (drop (at + 1) s))))
  said (given {t} e) s at =
      let p : ℕ = get_or s (at + 1) 0 in
      let z : ℕ = get_or s (at + 2) 0 in
      by_cond InRecord (ltb (length s) (at + 3)) (Err (BadRecord at)) _ (λ f. tt)
      (λ f. by_cond InRecord (good_digits p z) (Ok ((t p z), (at + 3))) (Err (BadSchema at)) (λ g. e p z g) (λ g. tt))

-- at most 38 digits
abbrev FewDigits : DataType → Type 0
FewDigits t = precision_of t ≤ 38

no_digits : 0 ≤ 38
no_digits = omega arith

no_digits_of : (n : ℕ) → 0 ≤ 38
no_digits_of n = omega arith

few_of : (p s : ℕ) → good_digits p s ≡ true → p ≤ 38
few_of p s g = leb-true p 38 (and_right (leb 1 p) (leb p 38) (and_left (leb 1 p && leb p 38) (leb s p) g))

digits_of : (k : ℕ) → Says FewDigits (column_kind k)
digits_of k = search (chosen, none, plainly, sizedly, given, no_digits, no_digits_of, few_of) depth 19

pub few-digits : (s : List ℕ) (at : ℕ) {t : DataType} {next : ℕ} → column_record_at s at ≡ Ok (t, next) → precision_of t ≤ 38
few-digits s at e = rw e at (said FewDigits (digits_of (get_or s at 0)) s at)

-- n counts code points for kind 16 alone
abbrev Counts : Bool → DataType → Type 0
Counts b t = b ≡ counts_points t

no_points_of : (n : ℕ) → ◌≡◌ {A = Bool} false false
no_points_of n = refl

no_points_in : (p s : ℕ) → good_digits p s ≡ true → ◌≡◌ {A = Bool} false false
no_points_in p s g = refl

counts-bytes : (k : ℕ) → eqb k 16 ≡ false → Says (Counts false) (column_kind k)
counts-bytes k e = rw e (search (chosen, none, plainly, sizedly, given, no_points_of, no_points_in) depth 19)

counts_of : (k : ℕ) → Says (Counts (eqb k 16)) (column_kind k)
counts_of k = by_kind (eqb k 16) refl
  where
    by_kind : (b : Bool) → eqb k 16 ≡ b → Says (Counts b) (column_kind k)
    by_kind true e = rw (eqb-true k 16 e) (sizedly (λ n. refl))
    by_kind false e = counts-bytes k e

pub points-told : (s : List ℕ) (at : ℕ) {t : DataType} {next : ℕ} → column_record_at s at ≡ Ok (t, next) → eqb (get_or s at 0) 16 ≡ counts_points t
points-told s at e = rw e at (said (Counts (eqb (get_or s at 0) 16)) (counts_of (get_or s at 0)) s at)
