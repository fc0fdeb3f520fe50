-- The table of kinds by its numbers: those that a body follows one by one, and that the others are the plain ones.
use Prim.Native.Nat.{ℕ}
use mathlib.Core.Path.{◌≡◌, refl}
use mathlib.Core.Bool.{Bool, true, false, cond, ◌||◌, false≢true}
use native.Mathlib.Omega.{arith}
use borrow.Author.Tests.{ne_eqb, eqb-true, eqb-false}
use lib.Dec.{eqb}
use Rattle.laws.proofs.Truths.{or_none}
use Rattle.datatype.specs.declared.DataType.{DataType}
use Rattle.datatype.specs.declared.DataType.TheVariants as T
use Rattle.datatype.specs.Types.{size_of}
use Rattle.datatype.specs.Schema.{Kind, unknown, plain, sized, digits, column_kind}
use Rattle.datatype.specs.InnerSteps.{plain_size, is_varchar_kind}

-- a kind that is followed by a body, or none
pub data Bodied : Kind → Type 0 where
  no : Bodied unknown
  word : {t : ℕ → DataType} → Bodied (sized t)
  pair : {t : ℕ → ℕ → DataType} → Bodied (digits t)

-- the same by its number
pub data Body (k : ℕ) : Kind → Type 0 where
  six : k ≡ 6 → Body k (digits T.Numeric)
  seven : k ≡ 7 → Body k (digits T.Decimal)
  nine : k ≡ 9 → Body k (sized T.Char)
  ten : k ≡ 10 → Body k (sized T.Character)
  eleven : k ≡ 11 → Body k (sized (T.Varchar false))
  fourteen : k ≡ 14 → Body k (sized T.Bit)
  sixteen : k ≡ 16 → Body k (sized (T.Varchar true))
  nothing : Body k unknown

module _ (k : ℕ) where
  -- a line of the table without a body, and one with it
  past : (t : Bool) (u : DataType) (q : Kind) → (size_of u ≡ 0 → ⊥) → (plain_size q ≡ 0 → Body k q)
      → plain_size (cond t (plain u) q) ≡ 0 → Body k (cond t (plain u) q)
  past true u q h f e = absurd (h e)
  past false u q h f e = f e

  told : (t : Bool) (x q : Kind) → (t ≡ true → Body k x) → (plain_size q ≡ 0 → Body k q)
      → plain_size (cond t x q) ≡ 0 → Body k (cond t x q)
  told true x q p f e = p refl
  told false x q p f e = f e

  pub body_of : plain_size (column_kind k) ≡ 0 → Body k (column_kind k)
  body_of =
      past (eqb k 1) T.SmallInt _ (λ e. omega (arith, e))
      (past (eqb k 2) T.Int _ (λ e. omega (arith, e))
      (past (eqb k 3) T.BigInt _ (λ e. omega (arith, e))
      (past (eqb k 4) T.Real _ (λ e. omega (arith, e))
      (past (eqb k 5) T.DoublePrecision _ (λ e. omega (arith, e))
      (told (eqb k 6) (digits T.Numeric) _ (λ e. six (eqb-true k 6 e))
      (told (eqb k 7) (digits T.Decimal) _ (λ e. seven (eqb-true k 7 e))
      (past (eqb k 8) T.Bool _ (λ e. omega (arith, e))
      (told (eqb k 9) (sized T.Char) _ (λ e. nine (eqb-true k 9 e))
      (told (eqb k 10) (sized T.Character) _ (λ e. ten (eqb-true k 10 e))
      (told (eqb k 11) (sized (T.Varchar false)) _ (λ e. eleven (eqb-true k 11 e))
      (past (eqb k 12) T.Date _ (λ e. omega (arith, e))
      (past (eqb k 13) T.Time _ (λ e. omega (arith, e))
      (told (eqb k 14) (sized T.Bit) _ (λ e. fourteen (eqb-true k 14 e))
      (past (eqb k 15) T.Timestamp _ (λ e. omega (arith, e))
      (told (eqb k 16) (sized (T.Varchar true)) unknown (λ e. sixteen (eqb-true k 16 e)) (λ e. nothing))))))))))))))))

  bodied_in : {q : Kind} → Body k q → Bodied q
  bodied_in (six e) = pair
  bodied_in (seven e) = pair
  bodied_in (nine e) = word
  bodied_in (ten e) = word
  bodied_in (eleven e) = word
  bodied_in (fourteen e) = word
  bodied_in (sixteen e) = word
  bodied_in nothing = no

  pub bodied : plain_size (column_kind k) ≡ 0 → Bodied (column_kind k)
  bodied e = bodied_in (body_of e)

  -- none of their numbers
  pub no_kind : plain_size (column_kind k) ≡ 0 → (k ≡ 6 → ⊥) → (k ≡ 7 → ⊥) → (k ≡ 9 → ⊥) → (k ≡ 10 → ⊥) → (k ≡ 11 → ⊥)
      → (k ≡ 14 → ⊥) → (k ≡ 16 → ⊥) → column_kind k ≡ unknown
  no_kind z a b c d f g h = of (body_of z)
    where
      of : {q : Kind} → Body k q → q ≡ unknown
      of (six e) = absurd (a e)
      of (seven e) = absurd (b e)
      of (nine e) = absurd (c e)
      of (ten e) = absurd (d e)
      of (eleven e) = absurd (f e)
      of (fourteen e) = absurd (g e)
      of (sixteen e) = absurd (h e)
      of nothing = refl

  -- none of the plain kinds' numbers
  either : (t : Bool) (x y : Kind) → Bodied x → Bodied y → Bodied (cond t x y)
  either true x y p q = p
  either false x y p q = q

  passed_by : (x y : Kind) → Bodied y → Bodied (cond false x y)
  passed_by x y p = p

  body_size : {q : Kind} → Bodied q → plain_size q ≡ 0
  body_size no = refl
  body_size word = refl
  body_size pair = refl

  module _ (a : k ≡ 1 → ⊥) (b : k ≡ 2 → ⊥) (c : k ≡ 3 → ⊥) (d : k ≡ 4 → ⊥) (e : k ≡ 5 → ⊥) (f : k ≡ 8 → ⊥)
      (g : k ≡ 12 → ⊥) (h : k ≡ 13 → ⊥) where
    bodied_left : (k ≡ 15 → ⊥) → Bodied (column_kind k)
    bodied_left i =
        rw (
          ne_eqb k 1 a,
          ne_eqb k 2 b,
          ne_eqb k 3 c,
          ne_eqb k 4 d,
          ne_eqb k 5 e,
          ne_eqb k 8 f,
          ne_eqb k 12 g,
          ne_eqb k 13 h,
          ne_eqb k 15 i,
        )
        (search (passed_by, either, no, word, pair) depth 9)

    pub not_plain : (k ≡ 15 → ⊥) → plain_size (column_kind k) ≡ 0
    not_plain i = body_size (bodied_left i)

    pub last_plain : (plain_size (column_kind k) ≡ 0 → ⊥) → column_kind k ≡ plain T.Timestamp
    last_plain some = by_number (eqb k 15) refl
      where
        by_number : (t : Bool) → eqb k 15 ≡ t → column_kind k ≡ plain T.Timestamp
        by_number true u = rw (eqb-true k 15 u)
        by_number false u = absurd (some (not_plain (eqb-false k 15 u)))

  -- 11 and 16 are Varchars, whose n is in code points for 16; no other kind is
  pub varchar-kind : is_varchar_kind k ≡ true → column_kind k ≡ sized (T.Varchar (eqb k 16))
  varchar-kind e = of (eqb k 11) (eqb k 16) refl refl e
    where
      of : (t u : Bool) → eqb k 11 ≡ t → eqb k 16 ≡ u → (t || u) ≡ true → column_kind k ≡ sized (T.Varchar u)
      of true true f g h = absurd (omega (arith, eqb-true k 11 f, eqb-true k 16 g))
      of true false f g h = rw (eqb-true k 11 f)
      of false true f g h = rw (eqb-true k 16 g)
      of false false f g h = absurd (false≢true h)

  pub no_varchar : is_varchar_kind k ≡ false → (k ≡ 11 → ⊥) × (k ≡ 16 → ⊥)
  no_varchar e = let n = or_none (eqb k 11) (eqb k 16) e in (eqb-false k 11 n.0, eqb-false k 16 n.1)
