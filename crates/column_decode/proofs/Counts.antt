-- Which columns have a count: those of three kinds. What is read of the others is no text.
use Rattle.error.specs.Result.{Result}
use Rattle.std.specs.Prelude.{Err, None, Ok, Option, Some}
use Prim.Native.Nat.{ℕ, ◌+◌, ◌-◌, ◌≤◌}
use mathlib.Core.Path.{◌≡◌, refl, sym, ap, subst}
use mathlib.Core.Bool.{Bool, true, false, cond}
use mathlib.Core.List.{List}
use borrow.Author.Tests.{eqb-true}
use lib.Dec.{eqb, ltb}
use lib.ListN.{length, get_or, take, drop}
use Rattle.error.specs.declared.Refusal.{Refusal}
use Rattle.error.specs.declared.Refusal.TheVariants.{BadRecord, BadSchema}
use Rattle.laws.specs.Bits.{bit_at}
use Rattle.laws.specs.Bytes.{from_le}
use Rattle.row_format.specs.Places.{offset_width, bitmap_start, table_start}
use Rattle.text.specs.Rfc3629.{is_text}
use Rattle.text_limit.specs.Limit.{fits_text}
use Rattle.text.specs.Check.{points}
use Rattle.row_layout.specs.declared.RowLayout.{RowLayout}
use Rattle.row_layout.specs.declared.VarlenRange.{VarlenRange}
use Rattle.row_layout.specs.declared.VarlenRange.TheVariants as Range
use Rattle.row_layout.specs.Range.{varlen_range}
use Rattle.datatype.specs.declared.DataType.{DataType}
use Rattle.datatype.specs.declared.DataType.TheVariants as T
use Rattle.datatype.specs.Types.{is_varlen, size_of}
use Rattle.datatype.specs.Schema.{Kind, unknown, plain, sized, digits, column_kind, good_digits, column_record_of, column_record_at}
use Rattle.datatype.specs.InnerSteps.{plain_size, plain_type, type_in}
use Rattle.value.specs.declared.DataValue.{DataValue}
use Rattle.value.specs.declared.DataValue.TheVariants.{Null}
use Rattle.value.specs.Kinds.{holds_text, is_text_value}
use Rattle.stored_form.specs.Read.{read_slot, value_if}
use Rattle.stored_form.specs.Points.{points_in}
use Rattle.stored_form.proofs.Points.{Texts, slot-texts, no-points}
use Rattle.slot_record.proofs.Numbers.{part_length}
use Rattle.row_column.specs.Column.{slot_value, varlen_value, column_with}
use Rattle.row_column.specs.InnerWalk.{walked_place, walked_column}
use Rattle.column_decode.specs.InnerColumn.{stepped, no_points}
use Rattle.column_decode.proofs.Present.{CountOf}

-- ---- kinds

module _ (k : ℕ) where
  -- none of the kinds of text
  abbrev Other : Type 0
  Other = (k ≡ 9 → ⊥) × ((k ≡ 10 → ⊥) × ((k ≡ 11 → ⊥) × (k ≡ 16 → ⊥)))

  data Counted : Kind → Type 0 where
    no_kind : Counted unknown
    plain-kind : {t : DataType} → holds_text t ≡ false → Counted (plain t)
    pair_kind : {t : ℕ → ℕ → DataType} → ((p s : ℕ) → holds_text (t p s) ≡ false) → Counted (digits t)
    word-kind : {t : ℕ → DataType} → ((n : ℕ) → holds_text (t n) ≡ false) → Counted (sized t)
    text-kind : {t : ℕ → DataType} → (Other → ⊥) → Counted (sized t)

  chosen : (t : Bool) (x y : Kind) → (t ≡ true → Counted x) → Counted y → Counted (cond t x y)
  chosen true x y f q = f refl
  chosen false x y f q = q

  counted : Counted (column_kind k)
  counted =
      chosen (eqb k 1) _ _ (λ e. plain-kind refl)
      (chosen (eqb k 2) _ _ (λ e. plain-kind refl)
      (chosen (eqb k 3) _ _ (λ e. plain-kind refl)
      (chosen (eqb k 4) _ _ (λ e. plain-kind refl)
      (chosen (eqb k 5) _ _ (λ e. plain-kind refl)
      (chosen (eqb k 6) _ _ (λ e. pair_kind (λ p s. refl))
      (chosen (eqb k 7) _ _ (λ e. pair_kind (λ p s. refl))
      (chosen (eqb k 8) _ _ (λ e. plain-kind refl)
      (chosen (eqb k 9) _ _ (λ e. text-kind (λ o. o.0 (eqb-true k 9 e)))
      (chosen (eqb k 10) _ _ (λ e. text-kind (λ o. o.1.0 (eqb-true k 10 e)))
      (chosen (eqb k 11) _ _ (λ e. text-kind (λ o. o.1.1.0 (eqb-true k 11 e)))
      (chosen (eqb k 12) _ _ (λ e. plain-kind refl)
      (chosen (eqb k 13) _ _ (λ e. plain-kind refl)
      (chosen (eqb k 14) _ _ (λ e. word-kind (λ n. refl))
      (chosen (eqb k 15) _ _ (λ e. plain-kind refl)
      (chosen (eqb k 16) _ _ (λ e. text-kind (λ o. o.1.1.1 (eqb-true k 16 e))) no_kind)))))))))))))))

  plain_in : {q : Kind} → Counted q → (plain_size q ≡ 0 → ⊥) → holds_text (plain_type q) ≡ false
  plain_in no_kind h = absurd (h refl)
  plain_in (plain-kind e) h = e
  plain_in (pair_kind e) h = absurd (h refl)
  plain_in (word-kind e) h = absurd (h refl)
  plain_in (text-kind e) h = absurd (h refl)

  plain_no_text : (plain_size (column_kind k) ≡ 0 → ⊥) → holds_text (plain_type (column_kind k)) ≡ false
  plain_no_text h = plain_in counted h

-- a record of a column that holds no text
data NoTextRecord : Result (DataType × ℕ) → Type 0 where
  column : {t : DataType} {next : ℕ} → holds_text t ≡ false → NoTextRecord (Ok (t, next))
  bad : {e : Refusal} → NoTextRecord (Err e)

record_if : (b : Bool) (x y : Result (DataType × ℕ)) → NoTextRecord x → NoTextRecord y → NoTextRecord (cond b x y)
record_if true x y p q = p
record_if false x y p q = q

record_in : (s : List ℕ) (at k : ℕ) {q : Kind} → Counted k q → Other k → NoTextRecord (column_record_of q s at)
record_in s at k no_kind o = bad
record_in s at k (plain-kind e) o = column e
record_in s at k (pair_kind {t} e) o =
    let p = get_or s (at + 1) 0 in
    let z = get_or s (at + 2) 0 in
    let x = Ok ((t p z), (at + 3)) in
    let y = Err (BadSchema at) in
    record_if (ltb (length s) (at + 3)) (Err (BadRecord at)) (cond (good_digits p z) x y) bad
    (record_if (good_digits p z) x y (column {t = t p z} (e p z)) bad)
record_in s at k (word-kind {t} e) o =
    let n = from_le (take 2 (drop (at + 1) s)) in
    record_if (ltb (length s) (at + 3)) (Err (BadRecord at)) (Ok ((t n), (at + 3))) bad
    (column {t = t n} (e n))
record_in s at k (text-kind e) o = absurd (e o)

good_record : {x : Result (DataType × ℕ)} → NoTextRecord x → ((e : Refusal) → x ≡ Err e → ⊥) → holds_text (type_in x) ≡ false
good_record (column h) good = h
good_record (bad {e}) good = absurd (good e refl)

pub other_no_text : (s : List ℕ) (at : ℕ) → Other (get_or s at 0) → ((e : Refusal) → column_record_at s at ≡ Err e → ⊥)
    → holds_text (type_in (column_record_at s at)) ≡ false
other_no_text s at o good =
    good_record (record_in s at (get_or s at 0) (counted (get_or s at 0)) o) good

-- ---- columns that hold no text

data NoText : Result DataValue → Type 0 where
  value : {v : DataValue} → is_text_value v ≡ false → NoText (Ok v)
  refused : {e : Refusal} → NoText (Err e)

none_if : (b : Bool) (x y : Result DataValue) → NoText x → NoText y → NoText (cond b x y)
none_if true x y p q = p
none_if false x y p q = q

slot-none : (i : ℕ) (x : Option DataValue) → Texts false x → NoText (slot_value i x)
slot-none i (Some v) h = value h
slot-none i None h = refused

module _ (t : DataType) (h : holds_text t ≡ false) where
  slot_no_text : (start : ℕ) (bs : List ℕ) → Texts false (read_slot t start bs)
  slot_no_text start bs = subst (λ (b : Bool). Texts b (read_slot t start bs)) h (slot-texts t start bs)

  range_none : (i : ℕ) (r : List ℕ) (q : VarlenRange) → NoText (varlen_value t i r q)
  range_none i r Range.Null = value refl
  range_none i r (Range.Bytes a e) = let bs = take (e - a) (drop a r) in slot-none i (read_slot t a bs) (slot_no_text a bs)
  range_none i r Range.Outside = refused

  column-none : (i : ℕ) (r : List ℕ) (q : VarlenRange) (at : ℕ) → NoText (column_with t i r q at)
  column-none i r q at =
      let bs = take (at + size_of t - at) (drop at r) in
      none_if (eqb (bit_at i (drop bitmap_start r)) 1) _ _ (value {v = Null} refl)
      (none_if (is_varlen t) _ _ (range_none i r q) (slot-none i (read_slot t at bs) (slot_no_text at bs)))

uncounted : (k : Bool) (buf : List ℕ) (end : ℕ) (r : List ℕ) {c : Result DataValue} → NoText c
    → stepped k buf end no_points c ≡ stepped k buf end (points_in r) c
uncounted k buf end r (value {v} h) = rw (no-points r v h)
uncounted k buf end r refused = refl

pub column_uncounted : (k : Bool) (buf : List ℕ) (end : ℕ) (l : RowLayout) (p : Bool) (b : RowLayout) (t : DataType) (r : List ℕ)
    → holds_text t ≡ false → stepped k buf end no_points (walked_column l p b t r) ≡ stepped k buf end (points_in r) (walked_column l p b t r)
column_uncounted k buf end l p b t r h = uncounted k buf end r
    (column-none t h b.num_columns r (varlen_range (offset_width l.is_long) (table_start l.num_columns) l.num_varlen_cols b.num_varlen_cols r)
    (walked_place l p b t))

-- ---- the count of a slot

count_none : (r : List ℕ) (x : Option DataValue) → Texts false x → CountOf (points_in r) 0 x
count_none r (Some v) h = sym (no-points r v h)
count_none r None h = tt

pub count-plain : (r : List ℕ) (k start : ℕ) (bs : List ℕ) → (plain_size (column_kind k) ≡ 0 → ⊥)
    → CountOf (points_in r) 0 (read_slot (plain_type (column_kind k)) start bs)
count-plain r k start bs h =
    count_none r (read_slot (plain_type (column_kind k)) start bs) (slot_no_text (plain_type (column_kind k)) (plain_no_text k h) start bs)

count_if : (f : DataValue → ℕ) (n : ℕ) (t : Bool) (v : DataValue) → n ≡ f v → CountOf f n (value_if t v)
count_if f n true v e = e
count_if f n false v e = tt

-- the bytes from a up to e of a row
module _ (r : List ℕ) (a e : ℕ) (h : a ≤ e) (l : e ≤ length r) where
  abbrev bytes : List ℕ
  bytes = take (e - a) (drop a r)

  same_points : points bytes ≡ points (take (length bytes) (drop a r))
  same_points = ap (λ (n : ℕ). points (take n (drop a r))) (sym (part_length r a e h l))

  pub count_char : (n : ℕ) → CountOf (points_in r) (points bytes) (read_slot (T.Char n) a bytes)
  count_char n = count_if (points_in r) (points bytes) (is_text bytes) _ same_points

  pub count-varchar : (p : Bool) (n : ℕ) → CountOf (points_in r) (points bytes) (read_slot (T.Varchar p n) a bytes)
  count-varchar p n = count_if (points_in r) (points bytes) (fits_text p n bytes) _ same_points
