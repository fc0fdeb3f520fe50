-- What is known of a column by the kind of its record.
use Rattle.error.specs.Result.{Result}
use Rattle.std.specs.Prelude.{Err, Ok}
use Prim.Native.Nat.{ℕ, ◌+◌, ◌≤◌, ◌<◌}
use mathlib.Core.Path.{◌≡◌, refl, sym, ap, ◌∙◌, subst}
use mathlib.Core.Bool.{Bool, true, false, cond}
use mathlib.Core.List.{List}
use native.Mathlib.Omega.{arith}
use borrow.Author.Tests.{ltb-false, ne_eqb}
use lib.Dec.{eqb, ltb}
use lib.ListN.{length, get_or, take, drop}
use Rattle.error.specs.declared.Refusal.{Refusal}
use Rattle.error.specs.declared.Refusal.TheVariants.{BadRecord, BadSchema}
use Rattle.laws.specs.Bytes.{from_le}
use Rattle.row_layout.specs.declared.RowLayout.{RowLayout}
use Rattle.datatype.specs.declared.DataType.{DataType}
use Rattle.datatype.specs.declared.DataType.TheVariants as T
use Rattle.datatype.specs.Types.{size_of, alignment_of, is_varlen}
use Rattle.datatype.specs.Schema.{Kind, unknown, plain, sized, digits, column_kind, good_digits, column_record_of, column_record_at}
use Rattle.datatype.specs.InnerSteps.{plain_size, plain_type, is_varchar_kind, type_in}
use Rattle.datatype.proofs.KindTable.{Bodied, no, word, pair, bodied, varchar-kind, no_varchar}
use Rattle.datatype.proofs.Again.{Ahead, ahead-column}
use Rattle.stored_form.specs.Read.{read_slot}
use Rattle.row_sound.specs.InnerSlots.{Recorded}
use Rattle.row_sound.specs.Laid.{is_value}

-- ---- kinds that no body follows

data Told : Kind → Type 0 where
  told : {t : DataType} → is_varlen t ≡ false → alignment_of t ≡ size_of t → Told (plain t)
  body_told : {q : Kind} → Bodied q → Told q

either : (t : Bool) (x y : Kind) → Told x → Told y → Told (cond t x y)
either true x y p q = p
either false x y p q = q

told_of : (k : ℕ) → Told (column_kind k)
told_of k = search (either, told, body_told, no, word, pair) depth 18

pub record Plainly (q : Kind) : Type 0 where
  pub fixed : is_varlen (plain_type q) ≡ false
  pub aligned : alignment_of (plain_type q) ≡ plain_size q
  pub size : size_of (plain_type q) ≡ plain_size q

plainly_in : {q : Kind} → Told q → 0 < plain_size q → Plainly q
plainly_in (told v a) h = record { fixed = v; aligned = a; size = refl }
plainly_in (body_told no) h = absurd (omega arith)
plainly_in (body_told word) h = absurd (omega arith)
plainly_in (body_told pair) h = absurd (omega arith)

pub plainly : (k : ℕ) → 0 < plain_size (column_kind k) → Plainly (column_kind k)
plainly k h = plainly_in (told_of k) h

-- ---- any bytes are a value, but of Date, Time and Timestamp

data AnyBytes : Kind → Type 0 where
  any : {t : DataType} → ((a : ℕ) (bs : List ℕ) → true ≡ is_value (read_slot t a bs)) → AnyBytes (plain t)
  body_any : {q : Kind} → Bodied q → AnyBytes q

either_any : (t : Bool) (x y : Kind) → AnyBytes x → AnyBytes y → AnyBytes (cond t x y)
either_any true x y p q = p
either_any false x y p q = q

any_of : (k : ℕ) → (k ≡ 12 → ⊥) → (k ≡ 13 → ⊥) → (k ≡ 15 → ⊥) → AnyBytes (column_kind k)
any_of k d t s =
    rw (ne_eqb k 12 d, ne_eqb k 13 t, ne_eqb k 15 s)
    (either_any (eqb k 1) (plain T.SmallInt) _ (any (λ a bs. refl))
    (either_any (eqb k 2) (plain T.Int) _ (any (λ a bs. refl))
    (either_any (eqb k 3) (plain T.BigInt) _ (any (λ a bs. refl))
    (either_any (eqb k 4) (plain T.Real) _ (any (λ a bs. refl))
    (either_any (eqb k 5) (plain T.DoublePrecision) _ (any (λ a bs. refl))
    (either_any (eqb k 6) _ _ (body_any pair)
    (either_any (eqb k 7) _ _ (body_any pair)
    (either_any (eqb k 8) (plain T.Bool) _ (any (λ a bs. refl))
    (either_any (eqb k 9) _ _ (body_any word)
    (either_any (eqb k 10) _ _ (body_any word)
    (either_any (eqb k 11) _ _ (body_any word)
    (either_any (eqb k 14) _ _ (body_any word)
    (either_any (eqb k 16) _ _ (body_any word) (body_any no))))))))))))))

any_in : {q : Kind} → AnyBytes q → 0 < plain_size q → (a : ℕ) (bs : List ℕ) → true ≡ is_value (read_slot (plain_type q) a bs)
any_in (any f) h = f
any_in (body_any no) h = absurd (omega arith)
any_in (body_any word) h = absurd (omega arith)
any_in (body_any pair) h = absurd (omega arith)

pub any-bytes : (k : ℕ) → 0 < plain_size (column_kind k) → (k ≡ 12 → ⊥) → (k ≡ 13 → ⊥) → (k ≡ 15 → ⊥) → (a : ℕ) (bs : List ℕ) → true ≡ is_value (read_slot (plain_type (column_kind k)) a bs)
any-bytes k h d t s = any_in (any_of k d t s) h

-- ---- kinds that a body follows: the type is what the body says

-- a record is of some kind: for none, any type but a Varchar will do
abbrev pub body_type : List ℕ → ℕ → Kind → DataType
body_type s at unknown = T.Char (from_le (take 2 (drop (at + 1) s)))
body_type s at (plain t) = t
body_type s at (sized t) = t (from_le (take 2 (drop (at + 1) s)))
body_type s at (digits t) = t (get_or s (at + 1) 0) (get_or s (at + 2) 0)

module _ (s : List ℕ) (at k : ℕ) where
  abbrev Fixedly : Kind → Type 0
  Fixedly q = is_varlen (body_type s at q) ≡ false

  fixed-line : (t : Bool) (x y : Kind) → Fixedly x → Fixedly y → Fixedly (cond t x y)
  fixed-line true x y p q = p
  fixed-line false x y p q = q

  pub body_fixed : is_varchar_kind k ≡ false → is_varlen (body_type s at (column_kind k)) ≡ false
  body_fixed h =
      let no = no_varchar k h in
      rw (ne_eqb k 11 no.0, ne_eqb k 16 no.1)
      (fixed-line (eqb k 1) (plain T.SmallInt) _ refl
      (fixed-line (eqb k 2) (plain T.Int) _ refl
      (fixed-line (eqb k 3) (plain T.BigInt) _ refl
      (fixed-line (eqb k 4) (plain T.Real) _ refl
      (fixed-line (eqb k 5) (plain T.DoublePrecision) _ refl
      (fixed-line (eqb k 6) (digits T.Numeric) _ refl
      (fixed-line (eqb k 7) (digits T.Decimal) _ refl
      (fixed-line (eqb k 8) (plain T.Bool) _ refl
      (fixed-line (eqb k 9) (sized T.Char) _ refl
      (fixed-line (eqb k 10) (sized T.Character) _ refl
      (fixed-line (eqb k 12) (plain T.Date) _ refl
      (fixed-line (eqb k 13) (plain T.Time) _ refl
      (fixed-line (eqb k 14) (sized T.Bit) _ refl
      (fixed-line (eqb k 15) (plain T.Timestamp) unknown refl refl))))))))))))))

abbrev IsColumn : Result (DataType × ℕ) → Type 0
IsColumn (Ok (t, next)) = Unit {0}
IsColumn (Err r) = ⊥

record Body (s : List ℕ) (at : ℕ) (q : Kind) : Type 0 where
  there : at + 3 ≤ length s
  says : column_record_of q s at ≡ Ok ((body_type s at q), (at + 3))

module _ (s : List ℕ) (at : ℕ) where
  word_body : (t : ℕ → DataType) (b : Bool) → ltb (length s) (at + 3) ≡ b → IsColumn (cond b (Err (BadRecord at)) (Ok ((t (from_le (take 2 (drop (at + 1) s)))), (at + 3)))) → Body s at (sized t)
  word_body t true e h = absurd h
  word_body t false e h = record { there = ltb-false (length s) (at + 3) e; says = rw e }

  pair_body : (t : ℕ → ℕ → DataType) (b c : Bool) → ltb (length s) (at + 3) ≡ b → good_digits (get_or s (at + 1) 0) (get_or s (at + 2) 0) ≡ c → IsColumn (cond b (Err (BadRecord at)) (cond c (Ok ((t (get_or s (at + 1) 0) (get_or s (at + 2) 0)), (at + 3))) (Err (BadSchema at)))) → Body s at (digits t)
  pair_body t true c e f h = absurd h
  pair_body t false true e f h = record { there = ltb-false (length s) (at + 3) e; says = rw (e, f) }
  pair_body t false false e f h = absurd h

  body_of : {q : Kind} → Bodied q → IsColumn (column_record_of q s at) → Body s at q
  body_of no h = absurd h
  body_of (word {t}) h = word_body t (ltb (length s) (at + 3)) refl h
  body_of (pair {t}) h = pair_body t (ltb (length s) (at + 3)) (good_digits (get_or s (at + 1) 0) (get_or s (at + 2) 0)) refl refl h

pub record Bodily (s : List ℕ) (at k : ℕ) : Type 0 where
  pub long : at + 3 ≤ length s
  pub is : column_record_at s at ≡ Ok ((body_type s at (column_kind k)), (at + 3))

-- the record at a place, whose kind is k
pub bodily : {s : List ℕ} {at k : ℕ} → k ≡ get_or s at 0 → plain_size (column_kind k) ≡ 0 → Recorded s at → Bodily s at k
bodily {s} {at} {k} e z c =
    let f : column_record_of (column_kind k) s at ≡ column_record_at s at = ap (λ (j : ℕ). column_record_of (column_kind j) s at) e in
    let b = body_of s at (bodied k z) (subst IsColumn (sym (f ∙ c.is)) tt) in
    record { long = b.there; is = sym f ∙ b.says }

pub body_typed : {s : List ℕ} {at k : ℕ} → Bodily s at k → type_in (column_record_at s at) ≡ body_type s at (column_kind k)
body_typed b = ap type_in b.is

pub typed_as : {s : List ℕ} {at k : ℕ} → Bodily s at k → {j : ℕ} → k ≡ j → type_in (column_record_at s at) ≡ body_type s at (column_kind j)
typed_as {s} {at} b e = body_typed b ∙ ap (λ (i : ℕ). body_type s at (column_kind i)) e

-- a Varchar's
pub varchar-typed : {s : List ℕ} {at k : ℕ} → Bodily s at k → is_varchar_kind k ≡ true → type_in (column_record_at s at) ≡ T.Varchar (eqb k 16) (from_le (take 2 (drop (at + 1) s)))
varchar-typed {s} {at} {k} b e = body_typed b ∙ ap (body_type s at) (varchar-kind k e)

pub recorded-good : {s : List ℕ} {at : ℕ} → Recorded s at → {e : Refusal} → column_record_at s at ≡ Err e → ⊥
recorded-good c e = subst IsColumn (sym c.is ∙ e) tt

-- a record that the walk has come to
pub recorded : {s : List ℕ} {b : RowLayout} {at : ℕ} → Ahead s b at → at < length s → Recorded s at
recorded w h =
    let n = ahead-column w h in
    record { inside = h; next = n.next; is = n.is ∙ ap (λ (t : DataType). Ok (t, n.next)) (sym (ap type_in n.is)) }
