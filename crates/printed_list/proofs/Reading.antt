-- What is known of an occupation that was read, and of a refusal of a list.
use Rattle.std.specs.Prelude.{Err, None, Ok, Some}
use Prim.Native.Nat.{ℕ, zero, suc, ◌+◌, ◌-◌, ◌%◌, ◌≤◌}
use mathlib.Core.Path.{◌≡◌, refl, ap}
use mathlib.Core.Bool.{Bool, true, false, cond, false≢true}
use mathlib.Core.List.{List, [], ◌∷◌, map}
use native.Mathlib.Omega.{arith}
use lib.Dec.{eqb, ltb}
use borrow.Author.Tests.{ltb-true, lt-ltb}
use lib.IntN.{ℤ}
use lib.ListN.{length, get_or, take, drop}
use mir.Syntax.{w64}
use mir.Val.{to_z}
use Rattle.laws.specs.Bytes.{from_le}
use Rattle.laws.specs.Bits.{bit_at}
use Rattle.laws.proofs.Truths.{by_cond, cases}
use Rattle.error.specs.declared.Refusal.{Refusal}
use Rattle.error.specs.declared.Refusal.TheVariants.{RowTooShort, RowTooLong, WrongColumnCount, WrongVarlenCount, Unprintable}
use Rattle.error.specs.Result.{Result, before}
use Rattle.text_limit.specs.Limit.{fits_text}
use Rattle.text_limit.proofs.Limits.{fits-size, fits-valid}
use Rattle.temporal.specs.Ranges.{is_timestamp}
use Rattle.row_format.specs.Places.{bitmap_start, offset_width, row_limit, varlens, rank_of, table_start, slot_place, minimum}
use Rattle.row_format.specs.Row.{least_mark}
use Rattle.row_layout.specs.declared.VarlenRange.{VarlenRange}
use Rattle.row_layout.specs.declared.VarlenRange.TheVariants as Range
use Rattle.datatype.specs.declared.DataType.TheVariants.{Varchar, Timestamp}
use Rattle.row_layout.specs.Range.{varlen_range}
use Rattle.datatype.specs.Types.{size_of, shape_of}
use Rattle.value.specs.declared.DataValue.{DataValue}
use Rattle.value.specs.declared.DataValue.TheVariants as D
use Rattle.stored_form.specs.Read.{value_if, whole}
use Rattle.calendar.proofs.Since.{since_lt}
use Rattle.row_format.specs.Header.{column_count, varlen_field, is_packed, is_long}
use Rattle.row_column.specs.Frame.{frame_with, on_frame}
use Rattle.row_column.specs.Column.{slot_value, read_bytes, varlen_value, column_with}
use Rattle.row_decode.specs.Read.{on_column, read_from}
use Rattle.occupation.specs.Occupation.{Occupation, columns, text_in, moment_in, occupation_of, has_unprintable, printable, occupation_as}
use Rattle.occupation.specs.InnerFields.{is_good}
use Rattle.occupation_list.specs.Print.{row_count_limit, occupations_in, occupations_of}
use Rattle.printed_list.specs.Sorted.{Every}
use Rattle.printed_list.specs.Refusals.{OfList, short, range, value, text}
use Rattle.printed_list.specs.Refusals as R
use Rattle.printed_list.specs.Printable.{NullOrText, NullOrInYears, InLimits, Printable, ReadPrintable}
use Rattle.printed_list.proofs.Ordering.{every_map}
use Rattle.printed_list.proofs.Results.{Gives, good, bad, of_good, on_result_lem, good-map, before-good}
use Rattle.printed_list.proofs.Rows.{rows_of_lem}

-- ---- one column

data Reads (P : DataValue → Type 0) : Result DataValue → Type 0 where
  val : {v : DataValue} → P v → Reads P (Ok v)
  none : {e : Refusal} → OfList e → Reads P (Err e)

abbrev Text : List ℕ → ℕ → DataValue → Type 0
Text r n v = NullOrText n (text_in r v)

take_again : (k : ℕ) (l : List ℕ) → take (length (take k l)) l ≡ take k l
take_again zero l = refl
take_again (suc k) [] = refl
take_again (suc k) (x ∷ l) = ap (λ (t : List ℕ). x ∷ t) (take_again k l)

module _ (i : ℕ) (h : i ≤ 3) (r : List ℕ) where
  text-slot : (n a : ℕ) (bs : List ℕ) → take (length bs) (drop a r) ≡ bs
      → Reads (Text r n) (slot_value i (value_if (fits_text false n bs) (D.Varchar (whole a bs))))
  text-slot n a bs same =
      by_cond (λ s. Reads (Text r n) (slot_value i s)) (fits_text false n bs) (Some (D.Varchar (whole a bs))) None
      (λ t. val (rw same (fits-size false n bs t, fits-valid false n bs t)))
      (λ t. none (value i h))

  text-range : (n : ℕ) (q : VarlenRange) → Reads (Text r n) (varlen_value (Varchar false n) i r q)
  text-range n Range.Null = val tt
  text-range n (Range.Bytes a e) = text-slot n a (take (e - a) (drop a r)) (take_again (e - a) (drop a r))
  text-range n Range.Outside = none (range i h)

  text-column : (n : ℕ) (q : VarlenRange) (at : ℕ) → Reads (Text r n) (column_with (Varchar false n) i r q at)
  text-column n q at =
      by_cond (Reads (Text r n)) (eqb (bit_at i (drop bitmap_start r)) 1) (Ok D.Null) (varlen_value (Varchar false n) i r q)
      (λ e. val tt) (λ e. text-range n q)

module _ (i : ℕ) (h : i ≤ 3) (r : List ℕ) where
  moment_slot : (z : ℤ) → Reads (λ v. NullOrInYears (moment_in v)) (slot_value i (value_if (is_timestamp z) (D.Timestamp z)))
  moment_slot z =
      by_cond (λ s. Reads (λ v. NullOrInYears (moment_in v)) (slot_value i s)) (is_timestamp z) (Some (D.Timestamp z)) None
      (λ t. val (since_lt z t)) (λ t. none (value i h))

  moment_column_lem : (q : VarlenRange) (at : ℕ) → Reads (λ v. NullOrInYears (moment_in v)) (column_with Timestamp i r q at)
  moment_column_lem q at =
      let e = at + size_of Timestamp in
      by_cond (Reads (λ v. NullOrInYears (moment_in v))) (eqb (bit_at i (drop bitmap_start r)) 1) (Ok D.Null) (read_bytes Timestamp i r at e)
      (λ b. val tt) (λ b. moment_slot (to_z w64 (from_le (take (e - at) (drop at r)))))

-- ---- all columns, and 17

on_column_lem : {P : DataValue → Type 0} {Q S : List DataValue → Type 0} {c : Result DataValue} {rest : Result (List DataValue)} → Reads P c
    → Gives Q OfList rest → ((v : DataValue) (vs : List DataValue) → P v → Q vs → S (v ∷ vs)) → Gives S OfList (on_column c rest)
on_column_lem (val {v = v} p) g f = before-good v g (λ vs q. f v vs p q)
on_column_lem (none e) g f = bad e

abbrev MomentAt : ℕ → List DataValue → Type 0
MomentAt k vs = NullOrInYears (moment_in (get_or vs k D.Null))

module _ (k p : Bool) (r : List ℕ) where
  -- the range of column i, and its place
  abbrev range_at : ℕ → VarlenRange
  range_at i = varlen_range (offset_width k) (table_start (length columns)) (varlens (map shape_of columns)) (rank_of (map shape_of columns) i) r

  abbrev place_at : ℕ → ℕ
  place_at i = slot_place (offset_width k) p (map shape_of columns) i

  read-sized : Gives (λ vs. InLimits (occupation_of r vs)) OfList (read_from (offset_width k) p columns (λ i. true) r 0 (length columns))
  read-sized =
      on_column_lem {S = λ vs. InLimits (occupation_of r vs)} (text-column 0 (omega arith) r 16 (range_at 0) (place_at 0))
      (on_column_lem {S = λ vs. Text r 64 (get_or vs 0 D.Null) × MomentAt 1 vs × MomentAt 2 vs}
      (text-column 1 (omega arith) r 64 (range_at 1) (place_at 1))
      (on_column_lem {S = λ vs. MomentAt 0 vs × MomentAt 1 vs} (moment_column_lem 2 (omega arith) r (range_at 2) (place_at 2))
      (on_column_lem {Q = λ vs. Unit {0}} {S = MomentAt 0} (moment_column_lem 3 (omega arith) r (range_at 3) (place_at 3))
      (good {x = []} tt) (λ v vs a b. a))
      (λ v vs a b. (a, b)))
      (λ v vs a b. (a, b.0, b.1)))
      (λ v vs a b. record { platform_in = a; unit_in = b.0; arrival_in = b.1; departure_in = b.2 })

printed : (o : Occupation) → InLimits o → Gives Printable OfList (printable o)
printed o s =
    by_cond (Gives Printable OfList) (has_unprintable o.platform) (Err (Unprintable 0))
    (cond (has_unprintable o.unit) (Err (Unprintable 1)) (Ok o)) (λ t. bad (text 0 (omega arith)))
    (λ a.
    by_cond (Gives Printable OfList) (has_unprintable o.unit) (Err (Unprintable 1)) (Ok o)
    (λ t. bad (text 1 (omega arith))) (λ b. good (record { sized = s; platform_clean = a; unit_clean = b })))

-- ---- the header: never too long

module _ {B : Type 0} (S : B → Type 0) (k : Bool → Result B) (f : (p : Bool) → Gives S OfList (k p)) where
  abbrev Goes : Result Bool → Type 0
  Goes q = Gives S OfList (on_frame q Err k)

  on_frame_lem : (s : Bool) (n v : ℕ) (least : Bool → ℕ) (r : List ℕ) → length r ≤ row_limit s → Goes (frame_with s n v least r)
  on_frame_lem s n v least r h =
      let sized = cond (ltb (length r) (least (is_packed r))) (Err RowTooShort) (Ok (is_packed r)) in
      let varchars = cond (eqb (varlen_field r % least_mark s) v) sized (Err WrongVarlenCount) in
      let counted = cond (eqb (column_count r) n) varchars (Err WrongColumnCount) in
      by_cond Goes (ltb (row_limit s) (length r)) (Err RowTooLong) (cond (ltb (length r) 4) (Err RowTooShort) counted)
      (λ t. let l = ltb-true (row_limit s) (length r) t in absurd (omega arith))
      (λ t. by_cond Goes (ltb (length r) 4) (Err RowTooShort) counted (λ t. bad short)
      (λ t. by_cond Goes (eqb (column_count r) n) varchars (Err WrongColumnCount)
      (λ t. by_cond Goes (eqb (varlen_field r % least_mark s) v) sized (Err WrongVarlenCount)
      (λ t. by_cond Goes (ltb (length r) (least (is_packed r))) (Err RowTooShort) (Ok (is_packed r))
      (λ t. bad short) (λ t. f (is_packed r)))
      (λ t. bad R.varchars))
      (λ t. bad R.columns)))

pub occupation_in_lem : (k : Bool) (r : List ℕ) → length r ≤ row_limit k → Gives Printable OfList (occupation_as k r)
occupation_in_lem k r h =
    on_frame_lem Printable _
    (λ p. on_result_lem (λ vs. printable (occupation_of r vs)) (read-sized k p r) (λ vs s. printed (occupation_of r vs) s))
    k (length columns) (varlens (map shape_of columns)) (λ p. minimum (offset_width k) p (map shape_of columns)) r h

pub good-printable : ReadPrintable
good-printable r o e =
    let k : Bool = is_long r in
    cases (row_limit k) (length r) (λ l. absurd (false≢true (ap is_good (rw (lt-ltb (row_limit k) (length r) l) at e))))
    (λ l. of_good (occupation_in_lem k r l) e)

-- ---- row by row

pub record Good (n : ℕ) (os : List Occupation) : Type 0 where
  pub count : length os ≤ n
  pub all : Every Printable os

-- a row of either sort may have as many bytes as a short one
in_limit : (k : Bool) {n : ℕ} → n ≤ row_limit false → n ≤ row_limit k
in_limit false h = h
in_limit true h = omega arith

rows-read : (rs : List (List ℕ)) → Every (λ r. length r ≤ row_limit false) rs → Gives (Good (length rs)) OfList (occupations_in rs)
rows-read [] e = good {x = []} (record { count = omega arith; all = tt })
rows-read (r ∷ rs) e =
    on_result_lem (λ o. before o (occupations_in rs)) (occupation_in_lem (is_long r) r (in_limit (is_long r) e.0))
    (λ o p. before-good o (rows-read rs e.1) (λ os g. record { count = omega (arith, g.count); all = (p, g.all) }))

pub list_read_lem : (list : List ℕ) → Gives (Good row_count_limit) OfList (occupations_of list)
list_read_lem list =
    on_result_lem occupations_in (rows_of_lem row_count_limit list)
    (λ rs k.
    let l = k.limit in
    good-map (rows-read rs (every_map (λ r. length r ≤ length list) (λ r. length r ≤ row_limit false) rs (λ r h. omega arith) k.rows.short))
    (λ os g. record { count = omega (arith, g.count, k.rows.count); all = g.all }))
