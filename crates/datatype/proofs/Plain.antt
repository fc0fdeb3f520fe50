-- Records by their kind, where no type is built: kinds that no body follows, and those that n follows in two bytes.
use Rattle.error.specs.Result.{Result}
use Rattle.std.specs.Prelude.{Err, Ok}
use Prim.Native.Nat.{ℕ, ◌+◌, ◌/◌, ◌≤◌, ◌<◌}
use mathlib.Core.Path.{◌≡◌, refl, ap, ◌∙◌}
use mathlib.Core.Bool.{Bool, true, false, cond}
use mathlib.Core.List.{List}
use native.Mathlib.Omega.{arith}
use borrow.Author.Tests.{ltb-false}
use lib.Dec.{ltb}
use lib.ListN.{length, get_or, take, drop}
use Rattle.error.specs.declared.Refusal.{Refusal}
use Rattle.error.specs.declared.Refusal.TheVariants.{BadRecord, BadSchema}
use Rattle.laws.specs.Bytes.{from_le}
use Rattle.row_format.specs.declared.Shape.{Shape}
use Rattle.row_format.specs.declared.Shape.TheVariants.{Fixed}
use Rattle.row_layout.specs.declared.RowLayout.{RowLayout}
use Rattle.row_layout.specs.InnerLayout.{with_column}
use Rattle.datatype.specs.declared.DataType.{DataType}
use Rattle.datatype.specs.declared.DataType.TheVariants as T
use Rattle.datatype.specs.Types.{size_of, alignment_of, is_varlen, shape_of}
use Rattle.datatype.specs.Schema.{Kind, unknown, plain, sized, digits, column_kind, good_digits, unless_cut, column_record_of, column_record_at}
use Rattle.datatype.specs.InnerSteps.{plain_size, plain_type, body_shape, type_in, passed}
use Rattle.datatype.proofs.KindTable.{Body, six, seven, nine, ten, eleven, fourteen, sixteen, nothing, body_of}

-- a plain kind is told by its size
pub is_plain : (q : Kind) → (plain_size q ≡ 0 → ⊥) → q ≡ plain (plain_type q)
is_plain unknown h = absurd (h refl)
is_plain (plain t) h = refl
is_plain (sized t) h = absurd (h refl)
is_plain (digits t) h = absurd (h refl)

-- ---- its column takes as many bytes as its alignment

data Square : Kind → Type 0 where
  square : {t : DataType} → is_varlen t ≡ false → alignment_of t ≡ size_of t → Square (plain t)
  none : Square unknown
  sized-kind : {t : ℕ → DataType} → Square (sized t)
  digits-kind : {t : ℕ → ℕ → DataType} → Square (digits t)

chosen : (t : Bool) (x y : Kind) → Square x → Square y → Square (cond t x y)
chosen true x y p q = p
chosen false x y p q = q

squares : (k : ℕ) → Square (column_kind k)
squares k = search (chosen, square, none, sized-kind, digits-kind) depth 19

pub record Plain (q : Kind) : Type 0 where
  pub fixed : is_varlen (plain_type q) ≡ false
  pub aligned : alignment_of (plain_type q) ≡ plain_size q
  pub sized : size_of (plain_type q) ≡ plain_size q

facts : {q : Kind} → Square q → (plain_size q ≡ 0 → ⊥) → Plain q
facts (square e f) h = record { fixed = e; aligned = f; sized = refl }
facts none h = absurd (h refl)
facts sized-kind h = absurd (h refl)
facts digits-kind h = absurd (h refl)

pub plain_facts : (k : ℕ) → (plain_size (column_kind k) ≡ 0 → ⊥) → Plain (column_kind k)
plain_facts k h = facts (squares k) h

-- ---- the record at a place

-- one that is not cut off, where none is refused
uncut : (s : List ℕ) (at : ℕ) (r : Result (DataType × ℕ)) → ((e : Refusal) → unless_cut s at r ≡ Err e → ⊥) → (at + 3 ≤ length s) × (unless_cut s at r ≡ r)
uncut s at r good = of (ltb (length s) (at + 3)) refl
  where
    of : (x : Bool) → ltb (length s) (at + 3) ≡ x → (at + 3 ≤ length s) × (unless_cut s at r ≡ r)
    of true e = absurd (good (BadRecord at) (rw e))
    of false e = (ltb-false (length s) (at + 3) e, rw e)

module _ (s : List ℕ) (at : ℕ) where
  abbrev kind : Kind
  kind = column_kind (get_or s at 0)

  pub plain_record : (plain_size kind ≡ 0 → ⊥) → column_record_at s at ≡ Ok ((plain_type kind), (at + 1))
  plain_record h = ap (λ (q : Kind). column_record_of q s at) (is_plain kind h)

  -- a column of z bytes that was added to a layout
  pub plain_added : (b : RowLayout) {z : ℕ} {l : RowLayout} → z ≡ plain_size kind → (z ≡ 0 → ⊥) → l ≡ with_column b (Fixed z z) → l ≡ with_column b (shape_of (plain_type kind))
  plain_added b {z} e n f =
      let h : plain_size kind ≡ 0 → ⊥ = λ g. n (e ∙ g) in
      let p = plain_facts (get_or s at 0) h in
      f ∙ rw (e, p.fixed, p.aligned, p.sized)

  -- n, where no record is refused
  pub sized_record : ((e : Refusal) → column_record_at s at ≡ Err e → ⊥) → (t : ℕ → DataType) → kind ≡ sized t → (at + 3 ≤ length s) × (type_in (column_record_at s at) ≡ t (from_le (take 2 (drop (at + 1) s))))
  sized_record good t k =
      let here = ap (λ (q : Kind). column_record_of q s at) k in
      let u = uncut s at (Ok ((t (from_le (take 2 (drop (at + 1) s)))), (at + 3))) (λ e f. good e (here ∙ f)) in
      (u.0, ap type_in (here ∙ u.1))

-- ---- a body, by the number of its kind

module _ (k : ℕ) (body : plain_size (column_kind k) ≡ 0) (known : column_kind k ≡ unknown → ⊥) (a n : ℕ) where
  pub short-kind : k ≤ 7 → Fixed ((a + 2) / 2) 1 ≡ body_shape (column_kind k) a n
  short-kind h = of (column_kind k) (body_of k body) known
    where
      of : (q : Kind) → Body k q → (q ≡ unknown → ⊥) → Fixed ((a + 2) / 2) 1 ≡ body_shape q a n
      of q (six e) f = refl
      of q (seven e) f = refl
      of q (nine e) f = absurd (omega (arith, h, e))
      of q (ten e) f = absurd (omega (arith, h, e))
      of q (eleven e) f = absurd (omega (arith, h, e))
      of q (fourteen e) f = absurd (omega (arith, h, e))
      of q (sixteen e) f = absurd (omega (arith, h, e))
      of q nothing f = absurd (f refl)

  pub long-kind : 7 < k → (k ≡ 11 → ⊥) → (k ≡ 14 → ⊥) → (k ≡ 16 → ⊥) → Fixed n 1 ≡ body_shape (column_kind k) a n
  long-kind h x y z = of (column_kind k) (body_of k body) known
    where
      of : (q : Kind) → Body k q → (q ≡ unknown → ⊥) → Fixed n 1 ≡ body_shape q a n
      of q (six e) f = absurd (omega (arith, h, e))
      of q (seven e) f = absurd (omega (arith, h, e))
      of q (nine e) f = refl
      of q (ten e) f = refl
      of q (eleven e) f = absurd (x e)
      of q (fourteen e) f = absurd (y e)
      of q (sixteen e) f = absurd (z e)
      of q nothing f = absurd (f refl)

-- ---- a body, where no record is refused

unspoilt : (x : Bool) (c : Result (DataType × ℕ)) (e : Refusal) → (cond x c (Err e) ≡ Err e → ⊥) → cond x c (Err e) ≡ c
unspoilt true c e good = refl
unspoilt false c e good = absurd (good refl)

module _ (s : List ℕ) (at : ℕ) (b : RowLayout) where
  abbrev Passed : Kind → Type 0
  Passed q = (at + 3 ≤ length s) × (passed at b (column_record_of q s at) ≡ record { at = at + 3; before = with_column b (body_shape q (get_or s (at + 1) 0) (from_le (take 2 (drop (at + 1) s)))) })

  pass_digits : (t : ℕ → ℕ → DataType) → ((p z : ℕ) → shape_of (t p z) ≡ shape_of (t p 0)) → ((e : Refusal) → column_record_of (digits t) s at ≡ Err e → ⊥) → Passed (digits t)
  pass_digits t same good =
      let p : ℕ = get_or s (at + 1) 0 in
      let z : ℕ = get_or s (at + 2) 0 in
      let c : (Result (DataType × ℕ)) = Ok ((t p z), (at + 3)) in
      let u = uncut s at (cond (good_digits p z) c (Err (BadSchema at))) good in
      let v = unspoilt (good_digits p z) c (BadSchema at) (λ e. good (BadSchema at) (u.1 ∙ e)) in
      (u.0, ap (passed at b) (u.1 ∙ v) ∙ ap (λ (y : Shape). record { at = at + 3; before = with_column b y }) (same p z))

  pass_sized : (t : ℕ → DataType) → ((e : Refusal) → column_record_of (sized t) s at ≡ Err e → ⊥) → Passed (sized t)
  pass_sized t good = let u = uncut s at (Ok ((t (from_le (take 2 (drop (at + 1) s)))), (at + 3))) good in (u.0, ap (passed at b) u.1)

  pass_body : {k : ℕ} (q : Kind) → Body k q → ((e : Refusal) → column_record_of q s at ≡ Err e → ⊥) → Passed q
  pass_body q (six e) good = pass_digits T.Numeric (λ p z. refl) good
  pass_body q (seven e) good = pass_digits T.Decimal (λ p z. refl) good
  pass_body q (nine e) good = pass_sized T.Char good
  pass_body q (ten e) good = pass_sized T.Character good
  pass_body q (eleven e) good = pass_sized (T.Varchar false) good
  pass_body q (fourteen e) good = pass_sized T.Bit good
  pass_body q (sixteen e) good = pass_sized (T.Varchar true) good
  pass_body q nothing good = absurd (good (BadRecord at) refl)

  module _ (good : (e : Refusal) → column_record_at s at ≡ Err e → ⊥) (none : plain_size (column_kind (get_or s at 0)) ≡ 0) where
    pub known_body : column_kind (get_or s at 0) ≡ unknown → ⊥
    known_body u = good (BadRecord at) (ap (λ (q : Kind). column_record_of q s at) u)

    body : Passed (column_kind (get_or s at 0))
    body = pass_body (column_kind (get_or s at 0)) (body_of (get_or s at 0) none) good

    pub pass_here : at + 3 ≤ length s
    pass_here = body.0

    pub body_passed : passed at b (column_record_at s at)
        ≡ record {
          at = at + 3;
          before = with_column b (body_shape (column_kind (get_or s at 0)) (get_or s (at + 1) 0) (from_le (take 2 (drop (at + 1) s))));
        }
    body_passed = body.1
