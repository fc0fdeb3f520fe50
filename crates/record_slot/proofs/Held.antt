-- A column's value by the bytes of both records: what the kinds and the body tell of it.
use Rattle.error.specs.Result.{Result}
use Rattle.std.specs.Prelude.{Err, Ok}
use Rattle.value.specs.declared.DataValue.{DataValue}
use Prim.Native.Nat.{ℕ, ◌+◌, ◌*◌, ◌-◌, ◌/◌, ◌%◌, ◌≤◌, ◌<◌}
use mathlib.Core.Path.{◌≡◌, refl, sym, ap, ◌∙◌}
use mathlib.Core.Bool.{Bool, true, false, cond, ◌&&◌}
use mathlib.Core.List.{List}
use native.Mathlib.Omega.{arith}
use borrow.Author.Tests.{eqb-true, eqb-false, ne_eqb, le-leb, lt-leb, leb-true, ltb-false, lt-ltb, le-ltb}
use lib.Dec.{eqb, leb, ltb}
use lib.ListN.{length, get_or, take, drop}
use Rattle.error.specs.declared.Refusal.TheVariants.{BadRecord, BadSchema, BadValueList}
use Rattle.laws.proofs.Bytes.{from-add, from_one}
use Rattle.laws.proofs.Truths.{cases, by_cond, and_left, and_right}
use Rattle.text_limit.specs.Limit.{fits_text}
use Rattle.bit_utils.specs.Bits.{bytes_for}
use Rattle.datatype.specs.declared.DataType.{DataType}
use Rattle.datatype.specs.declared.DataType.TheVariants as T
use Rattle.datatype.specs.Schema.{Kind, unknown, plain, sized, digits, column_kind, good_digits, column_record_of, column_record_at}
use Rattle.datatype.specs.InnerSteps.{plain_size, type_in}
use Rattle.datatype.proofs.KindTable.{Bodied, no, word, pair, bodied}
use Rattle.datatype.proofs.Plain.{plain_record}
use Rattle.value.specs.declared.TextRange.{TextRange}
use Rattle.value.specs.Kinds.{value_kind, plain_kind, is_long_kind, is_value_kind}
use Rattle.value.specs.InnerKinds.{held_kind}
use Rattle.value_list.specs.Records.{body_length, number_at, record_at as valueRecordAt}
use Rattle.value_list.specs.InnerSizes.{body_in, size_at}
use Rattle.value_list.proofs.Records.{Given, given}
use Rattle.value_list.proofs.Sizes.{body_value, Whole, size_none, size-some}
use Rattle.value_list.proofs.LongKinds.{kind_cases, body_in_lem}
use Rattle.record_slot.specs.InnerSteps.{length_at, HasType, Readable, ReadAt, value_in, after_column, given_at, declared_at, text_suits, bits_suit}
use Rattle.record_slot.proofs.Tests.{length_part}

-- ---- a kind of record beside the kind of its values

pub short-plain : (k : ℕ) → k < 17 → plain_kind k ≡ k
short-plain k h = rw (ne_eqb k 17 (λ e. omega arith), ne_eqb k 18 (λ e. omega arith), ne_eqb k 19 (λ e. omega arith))

pub null-plain : (k : ℕ) → plain_kind k ≡ 0 → k ≡ 0
null-plain k z =
    kind_cases k (λ e. let y = rw e at z in absurd (omega (arith, y))) (λ e. let y = rw e at z in absurd (omega (arith, y)))
    (λ e. let y = rw e at z in absurd (omega (arith, y))) (λ e. sym e ∙ z)

-- ---- the records at two places

module _ (s : List ℕ) (at : ℕ) where
  abbrev Long : Result (DataType × ℕ) → Type 0
  Long (Ok (t, next)) = next ≡ at + 3
  Long (Err e) = Unit {0}

  long_of : {q : Kind} → Bodied q → Long (column_record_of q s at)
  long_of no = tt
  long_of word = by_cond Long (ltb (length s) (at + 3)) (Err (BadRecord at)) _ (λ f. tt) (λ f. refl)
  long_of (pair {t}) =
      by_cond Long (ltb (length s) (at + 3)) (Err (BadRecord at)) _ (λ f. tt)
      (λ f. by_cond Long (good_digits (get_or s (at + 1) 0) (get_or s (at + 2) 0)) (Ok ((t (get_or s (at + 1) 0) (get_or s (at + 2) 0)), (at + 3))) (Err (BadSchema at)) (λ g. refl) (λ g. tt))

  abbrev place_in : Result (DataType × ℕ) → ℕ
  place_in (Ok (t, next)) = next
  place_in (Err e) = 0

  after_is : {t : DataType} {next : ℕ} → column_record_at s at ≡ Ok (t, next) → after_column s at ≡ next
  after_is {t} {next} e = by_size (eqb (plain_size (column_kind (get_or s at 0))) 0) refl
    where
      by_size : (b : Bool) → eqb (plain_size (column_kind (get_or s at 0))) 0 ≡ b → cond b (at + 3) (at + 1) ≡ next
      by_size true f = sym (rw e at (long_of (bodied (get_or s at 0) (eqb-true _ 0 f))))
      by_size false f = ap place_in (sym (plain_record s at (eqb-false _ 0 f)) ∙ e)

-- a value's record by its length
module _ (list : List ℕ) (from : ℕ) {z : ℕ} (e : z ≡ length_at list from) where
  there : (z ≡ 0 → ⊥) → from < length list
  there n = cases from (length list) (λ h. h) (λ h. absurd (n (e ∙ rw (le-ltb from (length list) h))))

  size_is : from < length list → z ≡ size_at list from
  size_is h = e ∙ rw (lt-ltb from (length list) h)

  pub some-length : (z ≡ 0 → ⊥) → (from < length list) × (Whole list from × (z ≡ size_at list from))
  some-length n = (there n, (size-some list from (there n) (λ f. n (size_is (there n) ∙ f)), size_is (there n)))

  pub no_length : z ≡ 0 → from < length list → valueRecordAt list from ≡ Err (BadValueList from)
  no_length n h = size_none list from h (sym (size_is h) ∙ n)

module _ {s : List ℕ} {at : ℕ} {list : List ℕ} {from : ℕ} (r : Readable s at list from) where
  pub has_type : HasType s at
  has_type = record { column = r.column; type_there = λ e. r.type_there e }

  type_read : (q : Result (DataType × ℕ)) → column_record_at s at ≡ q → column_record_at s at ≡ Ok ((type_in (column_record_at s at)), (after_column s at))
  type_read (Ok (t, next)) e = rw (after_is s at e, e)
  type_read (Err u) e = absurd (r.type_there e)

  value_read : (q : Result (DataValue × ℕ)) → valueRecordAt list from ≡ q → valueRecordAt list from ≡ Ok ((value_in (valueRecordAt list from)), (from + 1 + body_length (get_or list from 0)))
  value_read (Ok (v, next)) e = e ∙ ap ((λ z. Ok (v, z))) (given list from e).place ∙ ap (λ (q : Result (DataValue × ℕ)). Ok ((value_in q), (from + 1 + body_length (get_or list from 0)))) (sym e)
  value_read (Err u) e = absurd (r.value_there e)

  pub read_at : ReadAt s at list from (given_at s at list from)
  read_at = record { type_is = type_read (column_record_at s at) refl; value-is = value_read (valueRecordAt list from) refl }

  body_given : Given list from (value_in (valueRecordAt list from)) (from + 1 + body_length (get_or list from 0))
  body_given = given list from read_at.value-is

  -- the value is that of its body, which lies in the list
  pub value_body : value_in (valueRecordAt list from) ≡ body_value (get_or list from 0) list (from + 1)
  value_body = body_given.value

  pub body_within : from + 1 + body_in (is_long_kind (get_or list from 0)) (plain_kind (get_or list from 0)) ≤ length list
  body_within = rw (body_in_lem (get_or list from 0)) body_given.within

  pub kind_known : is_value_kind (get_or list from 0) ≡ true
  kind_known = body_given.known

-- ---- a column's kind tells the kind of its values, and the two bytes after it what it was declared with

abbrev pub Declared : DataType → ℕ → Type 0
Declared T.SmallInt n = Unit {0}
Declared T.Int n = Unit {0}
Declared T.BigInt n = Unit {0}
Declared T.Real n = Unit {0}
Declared T.DoublePrecision n = Unit {0}
Declared (T.Numeric p s) n = (n % 256 ≡ p) × (n / 256 ≡ s)
Declared (T.Decimal p s) n = (n % 256 ≡ p) × (n / 256 ≡ s)
Declared T.Bool n = Unit {0}
Declared (T.Char m) n = m ≡ n
Declared (T.Character m) n = m ≡ n
Declared (T.Varchar p m) n = m ≡ n
Declared T.Date n = Unit {0}
Declared T.Time n = Unit {0}
Declared (T.Bit m) n = m ≡ n
Declared T.Timestamp n = Unit {0}

abbrev Telling : Kind → Type 0
Telling unknown = Unit {0}
Telling (plain t) = (n : ℕ) → Declared t n
Telling (sized t) = (n : ℕ) → (value_kind (t 0) ≡ value_kind (t n)) × Declared (t n) n
Telling (digits t) = (p s n : ℕ) → n % 256 ≡ p → n / 256 ≡ s → (value_kind (t 0 0) ≡ value_kind (t p s)) × Declared (t p s) n

either : (b : Bool) (x y : Kind) → Telling x → Telling y → Telling (cond b x y)
either true x y p q = p
either false x y p q = q

telling : (k : ℕ) → Telling (column_kind k)
telling k =
    either (eqb k 1) _ _ (λ n. tt)
    (either (eqb k 2) _ _ (λ n. tt)
    (either (eqb k 3) _ _ (λ n. tt)
    (either (eqb k 4) _ _ (λ n. tt)
    (either (eqb k 5) _ _ (λ n. tt)
    (either (eqb k 6) _ _ (λ p s n a b. (refl, (a, b)))
    (either (eqb k 7) _ _ (λ p s n a b. (refl, (a, b)))
    (either (eqb k 8) _ _ (λ n. tt)
    (either (eqb k 9) _ _ (λ n. (refl, refl))
    (either (eqb k 10) _ _ (λ n. (refl, refl))
    (either (eqb k 11) _ _ (λ n. (refl, refl))
    (either (eqb k 12) _ _ (λ n. tt)
    (either (eqb k 13) _ _ (λ n. tt)
    (either (eqb k 14) _ _ (λ n. (refl, refl))
    (either (eqb k 15) _ _ (λ n. tt)
    (either (eqb k 16) _ _ (λ n. (refl, refl)) tt)))))))))))))))

abbrev Told : ℕ → ℕ → Result (DataType × ℕ) → Type 0
Told h n (Ok (t, next)) = (h ≡ value_kind t) × Declared t n
Told h n (Err e) = Unit {0}

two_bytes : (s : List ℕ) (at : ℕ) → at + 2 ≤ length s → number_at 2 s at ≡ get_or s at 0 + 256 * get_or s (at + 1) 0
two_bytes s at h = from-add 1 1 at s (omega arith) ∙ rw (from_one at s (omega arith), from_one (at + 1) s (omega arith))

told_of : (q : Kind) → Telling q → (s : List ℕ) (at : ℕ) → Told (held_kind q) (declared_at s at) (column_record_of q s at)
told_of unknown f s at = tt
told_of (plain t) f s at = (refl, f (declared_at s at))
told_of (sized t) f s at = by_room (ltb (length s) (at + 3))
  where
    by_room : (b : Bool) → Told (value_kind (t 0)) (cond b 0 (number_at 2 s (at + 1))) (cond b (Err (BadRecord at)) (Ok ((t (number_at 2 s (at + 1))), (at + 3))))
    by_room true = tt
    by_room false = f (number_at 2 s (at + 1))
told_of (digits t) f s at = by_room (ltb (length s) (at + 3)) refl
  where
    p : ℕ
    p = get_or s (at + 1) 0

    z : ℕ
    z = get_or s (at + 2) 0

    by_room : (b : Bool) → ltb (length s) (at + 3) ≡ b
        → Told (value_kind (t 0 0)) (cond b 0 (number_at 2 s (at + 1))) (cond b (Err (BadRecord at)) (cond (good_digits p z) (Ok ((t p z), (at + 3))) (Err (BadSchema at))))
    by_room true e = tt
    by_room false e =
        by_cond (Told (value_kind (t 0 0)) (number_at 2 s (at + 1))) (good_digits p z) (Ok ((t p z), (at + 3))) (Err (BadSchema at))
        (λ g.
        let m : at + 1 + 1 ≡ at + 2 = omega arith in
        let n : number_at 2 s (at + 1) ≡ p + 256 * z = rw m at (two_bytes s (at + 1) (omega (arith, ltb-false (length s) (at + 3) e))) in
        let l : p ≤ 38 = leb-true p 38 (and_right (leb 1 p) (leb p 38) (and_left (leb 1 p && leb p 38) (leb z p) g)) in
        f p z (number_at 2 s (at + 1)) (rw n (omega arith)) (rw n (omega arith)))
        (λ g. tt)

pub told : (s : List ℕ) (at : ℕ) {t : DataType} {next : ℕ} → column_record_at s at ≡ Ok (t, next) → (held_kind (column_kind (get_or s at 0)) ≡ value_kind t) × Declared t (declared_at s at)
told s at e = rw e at (told_of (column_kind (get_or s at 0)) (telling (get_or s at 0)) s at)

-- ---- the text or the bits of a range

module _ (n a b : ℕ) (area : List ℕ) where
  abbrev range : TextRange
  range = record { start = a; length = b }

  pub text_outside : (p : Bool) → length area < a + b → false ≡ text_suits p n range area
  text_outside p h = rw (lt-leb (a + b) (length area) h)

  pub bits_outside : length area < a + b → false ≡ bits_suit n range area
  bits_outside h = rw (lt-leb (a + b) (length area) h)

  module _ (h : a + b ≤ length area) where
    length-range : length (take b (drop a area)) ≡ b
    length-range = length_part area range h

    pub text-told : (p : Bool) {t : Bool} → t ≡ fits_text p n (take (a + b - a) (drop a area)) → t ≡ text_suits p n range area
    text-told p e = let m : a + b - a ≡ b = omega arith in rw (le-leb (a + b) (length area) h) (rw m at e)

    pub bits_told : {m : ℕ} {t : Bool} → m ≡ bytes_for n → t ≡ eqb b m → t ≡ bits_suit n range area
    bits_told e f = rw (le-leb (a + b) (length area) h, length-range) (rw e at f)
