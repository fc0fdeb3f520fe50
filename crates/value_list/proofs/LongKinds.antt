-- A kind of record beside the kind of its values: 17, 18 and 19 stand for 8, 9 and 12, any other for itself.
use Prim.Native.Nat.{ℕ, ◌*◌, ◌≤◌}
use mathlib.Core.Path.{◌≡◌, refl, sym, ap}
use mathlib.Core.Bool.{Bool, true, false, ◌&&◌, false≢true}
use native.Mathlib.Omega.{arith}
use borrow.Author.Tests.{ne_eqb, eqb-true, lt-leb, leb-true}
use lib.Dec.{leb}
use Rattle.laws.proofs.Truths.{same_or, cases, and_left, and_right}
use Rattle.row_format.specs.Places.{offset_width}
use Rattle.value.specs.Kinds.{is_range_kind, plain_kind, is_long_kind, is_value_kind}
use Rattle.value_list.specs.Records.{body_length}
use Rattle.value_list.specs.InnerSizes.{body_in}

-- what is so or not
pub either : {P : Type 0} (t : Bool) → (t ≡ true → P) → (t ≡ false → P) → P
either true f g = f refl
either false f g = g refl

-- the kinds of 01 that have ranges
range_kinds : {P : Type 0} (k : ℕ) → is_range_kind k ≡ true → (k ≡ 8 → P) → (k ≡ 9 → P) → (k ≡ 12 → P) → P
range_kinds k h f g i =
    same_or k 8 f
    (λ a. same_or k 9 g
    (λ b. i (eqb-true k 12 (rw (ne_eqb k 8 a, ne_eqb k 9 b) at h))))

-- a kind that no other stands for, or one of the three
pub kind_cases : {P : Type 0} (k : ℕ) → (k ≡ 17 → P) → (k ≡ 18 → P) → (k ≡ 19 → P) → (plain_kind k ≡ k → P) → P
kind_cases k f g h i =
    same_or k 17 f
    (λ a. same_or k 18 g
    (λ b. same_or k 19 h
    (λ c. i (rw (ne_eqb k 17 a, ne_eqb k 18 b, ne_eqb k 19 c)))))

-- a kind whose values have ranges: its body is two numbers of its width
pub range_body_lem : (k : ℕ) → is_range_kind (plain_kind k) ≡ true → body_length k ≡ 2 * offset_width (is_long_kind k)
range_body_lem k h =
    kind_cases k (λ e. rw e) (λ e. rw e) (λ e. rw e)
    (λ e. range_kinds k (rw e at h) (λ d. rw d) (λ d. rw d) (λ d. rw d))

-- any other stands for itself
pub plain_other : (k : ℕ) → is_range_kind (plain_kind k) ≡ false → plain_kind k ≡ k
plain_other k h =
    kind_cases k (λ e. absurd (false≢true (sym (rw e at h)))) (λ e. absurd (false≢true (sym (rw e at h))))
    (λ e. absurd (false≢true (sym (rw e at h)))) (λ e. e)

-- a known kind stands for one of 01's
pub plain_known : (k : ℕ) → is_value_kind k ≡ true → plain_kind k ≤ 13
plain_known k h =
    same_or k 17 (λ e. rw e (omega arith))
    (λ a. same_or k 18 (λ e. rw e (omega arith))
    (λ b. same_or k 19 (λ e. rw e (omega arith))
    (λ c. rw (ne_eqb k 17 a, ne_eqb k 18 b, ne_eqb k 19 c)
    (cases 13 k
    (λ l.
    let g : (leb 17 k && leb k 19) ≡ true = rw (lt-leb k 13 l) at h in
    let from = leb-true 17 k (and_left (leb 17 k) (leb k 19) g) in
    let upto = leb-true k 19 (and_right (leb 17 k) (leb k 19) g) in
    absurd (omega (arith, a, b, c)))
    (λ l. l)))))

-- so a body has the bytes of its kind
pub body_in_lem : (k : ℕ) → body_in (is_long_kind k) (plain_kind k) ≡ body_length k
body_in_lem k =
    either (is_range_kind (plain_kind k)) (λ h. rw h (sym (range_body_lem k h)))
    (λ h. rw h (ap body_length (plain_other k h)))
