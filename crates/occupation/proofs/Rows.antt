-- A row read column after column is read as the definition reads it, and is read so again.
use Rattle.std.specs.Prelude.{Option as Found, None, Err, Ok}
use Rattle.std.specs.Result.{result_unwrap_or}
use Rattle.value.specs.declared.DataValue.{DataValue}
use Prim.Native.Nat.{ℕ, ◌-◌, ◌≤◌}
use mathlib.Core.Path.{◌≡◌, refl, sym, ap, ◌∙◌, subst}
use mathlib.Core.Bool.{Bool, true, false, cond, false≢true}
use mathlib.Core.List.{List, [], map}
use mathlib.Core.Option.{Option}
use native.Mathlib.Omega.{arith}
use lib.ListN.{length, take, drop}
use Rattle.laws.proofs.Truths.{cases}
use Rattle.error.specs.declared.Refusal.{Refusal}
use Rattle.error.specs.declared.Refusal.TheVariants.{Unprintable}
use Rattle.error.specs.Result.{Result, on_result}
use Rattle.row_format.specs.Header.{is_long}
use Rattle.row_format.specs.Places.{offset_width, varlens, minimum}
use Rattle.row_layout.specs.declared.VarlenRange.{VarlenRange}
use Rattle.row_layout.specs.declared.VarlenRange.TheVariants.{Null, Bytes, Outside}
use Rattle.row_layout.specs.InnerRange.{Inside}
use Rattle.datatype.specs.Types.{shape_of}
use Rattle.text.specs.Rfc3629.{is_text}
use Rattle.row_column.specs.Frame.{frame_of, on_frame}
use Rattle.row_column.specs.Column.{column_value}
use Rattle.row_column.proofs.Framing.{fine, same_good}
use Rattle.row_decode.specs.Read.{on_column, read_from}
use Rattle.occupation.specs.declared.Fields.{Fields}
use Rattle.occupation.specs.Occupation.{Occupation, columns, occupation_of, has_unprintable, printable, occupation_as, occupation_in}
use Rattle.occupation.specs.InnerFields.{spanned, moment_from, fields_shown, MomentIn, TextIn, FieldsIn, is_good}
use Rattle.occupation.specs.InnerRead.{arrival_place, departure_place, least_length, text_range_in, text_of_read, moment_of_read, text_column, moment_column, with_platform, with_unit, with_arrival, with_departure, moment_shown, ReadMoment, span_of}
use Rattle.occupation.proofs.Reading.{text-null, text_outside, text-long, text-good, text_bad, text_in_lem}

-- ---- the columns one after the other

by_columns : (r : List ℕ) (a b c d : Result DataValue) →
    on_result (text_of_read r a) Err (λ platform. on_result (text_of_read r b) Err (λ unit.
    on_result (moment_of_read c) Err (λ arrival. on_result (moment_of_read d) Err (λ departure.
    printable (record { platform = platform; unit = unit; arrival = arrival; departure = departure })))))
    ≡ on_result (on_column a (on_column b (on_column c (on_column d (Ok []))))) Err (λ vs. printable (occupation_of r vs))
by_columns r (Err e) b c d = refl
by_columns r (Ok u) (Err e) c d = refl
by_columns r (Ok u) (Ok v) (Err e) d = refl
by_columns r (Ok u) (Ok v) (Ok x) (Err e) = refl
by_columns r (Ok u) (Ok v) (Ok x) (Ok y) = refl

-- a padded row has its slots where a packed one has them
in_frame : (k : Bool) (r : List ℕ) (p : Bool) → with_platform k r
    ≡ on_result (read_from (offset_width k) p columns (λ i. true) r 0 (length columns)) Err (λ vs. printable (occupation_of r vs))
in_frame false r true = by_columns r (column_value (offset_width false) true columns 0 r) (column_value (offset_width false) true columns 1 r) (column_value (offset_width false) true columns 2 r) (column_value (offset_width false) true columns 3 r)
in_frame true r true = by_columns r (column_value (offset_width true) true columns 0 r) (column_value (offset_width true) true columns 1 r) (column_value (offset_width true) true columns 2 r) (column_value (offset_width true) true columns 3 r)
in_frame false r false = by_columns r (column_value (offset_width false) false columns 0 r) (column_value (offset_width false) false columns 1 r) (column_value (offset_width false) false columns 2 r) (column_value (offset_width false) false columns 3 r)
in_frame true r false = by_columns r (column_value (offset_width true) false columns 0 r) (column_value (offset_width true) false columns 1 r) (column_value (offset_width true) false columns 2 r) (column_value (offset_width true) false columns 3 r)

pub by_frame : (k : Bool) (r : List ℕ) → on_frame (frame_of k columns r) Err (λ p. with_platform k r) ≡ occupation_as k r
by_frame k r = same_good (frame_of k columns r) Err (λ p e. in_frame k r p)

least : (k p : Bool) → minimum (offset_width k) p (map shape_of columns) ≡ least_length k
least false true = refl
least false false = refl
least true true = refl
least true false = refl

pub long-enough : (k : Bool) (r : List ℕ) {p : Bool} → frame_of k columns r ≡ Ok p → least_length k ≤ length r
long-enough k r {p} e =
    let f = fine k (length columns) (varlens (map shape_of columns)) (λ q. minimum (offset_width k) q (map shape_of columns)) r e in
    omega (arith, f.long, least k p)

-- ---- a row that can be printed

good-frame : (k : Bool) (r : List ℕ) (f : Result Bool) → f ≡ frame_of k columns r → is_good (on_frame f Err (λ p. with_platform k r)) ≡ true → (least_length k ≤ length r) × (with_platform k r ≡ occupation_as k r)
good-frame k r (Ok p) e h = (long-enough k r (sym e), ap (λ (x : Result Bool). on_frame x Err (λ p. with_platform k r)) e ∙ by_frame k r)
good-frame k r (Err q) e h = absurd (false≢true h)

pub good-row : (k : Bool) (r : List ℕ) → is_good (occupation_as k r) ≡ true → (least_length k ≤ length r) × (with_platform k r ≡ occupation_as k r)
good-row k r h = good-frame k r (frame_of k columns r) refl (ap is_good (by_frame k r) ∙ h)

-- by the sort that was asked of the row
pub good-sort : (r : List ℕ) {k : Bool} → k ≡ is_long r → is_good (occupation_in r) ≡ true → is_good (occupation_as k r) ≡ true
good-sort r e h = subst (λ (q : Bool). is_good (occupation_as q r) ≡ true) (sym e) h

pub good_length : (r : List ℕ) {k : Bool} → k ≡ is_long r → is_good (occupation_in r) ≡ true → least_length k ≤ length r
good_length r {k} e h = (good-row k r (good-sort r e h)).0

-- the first of two steps was not refused
first_good : {A : Type 0} (x : Result A) (k : A → Result Occupation) → is_good (on_result x Err k) ≡ true → (a : A) × ((x ≡ Ok a) × (is_good (k a) ≡ true))
first_good (Ok a) k h = (a, (refl, h))
first_good (Err e) k h = absurd (false≢true h)

taken : {A : Type 0} {x : Result A} {a : A} {y : Result Occupation} (k : A → Result Occupation) → x ≡ Ok a → k a ≡ y → on_result x Err k ≡ y
taken k e f = ap (λ v. on_result v Err k) e ∙ f

not_refused : (o : Occupation) (s t : Bool) (e f : Refusal) → is_good (cond s (Err e) (cond t (Err f) (Ok o))) ≡ true → cond s (Err e) (cond t (Err f) (Ok o)) ≡ Ok o
not_refused o true t e f h = absurd (false≢true h)
not_refused o false true e f h = absurd (false≢true h)
not_refused o false false e f h = refl

printed : (o : Occupation) → is_good (printable o) ≡ true → printable o ≡ Ok o
printed o h = not_refused o (has_unprintable o.platform) (has_unprintable o.unit) (Unprintable 0) (Unprintable 1) h

-- ---- its fields again

module _ (k : Bool) (n i : ℕ) (r : List ℕ) (w : Inside r (text_range_in k r i)) where
  not_both : {A : Type 0} {e : Refusal} {t : Option (List ℕ)} → Err e ≡ text_column k n i r → text_column k n i r ≡ Ok t → A
  not_both p q = absurd (false≢true (ap is_good (p ∙ q)))

  pub text_again : {t : Option (List ℕ)} → text_column k n i r ≡ Ok t → (t ≡ spanned r (span_of (text_range_in k r i))) × TextIn (length r) n (span_of (text_range_in k r i))
  text_again {t} h = go (text_range_in k r i) refl
    where
      same : {x y : Option (List ℕ)} → ◌≡◌ {A = Result (Option (List ℕ))} (Ok x) (Ok y) → y ≡ x
      same e = sym cc

      go : (q : VarlenRange) → q ≡ text_range_in k r i → (t ≡ spanned r (span_of q)) × TextIn (length r) n (span_of q)
      go Null e = (same (text-null k n i r e ∙ h), (tt, tt))
      go Outside e = not_both (text_outside k n i r e) h
      go (Bytes a z) e =
          let v : Inside r (Bytes a z) = subst (Inside r) (sym e) w in
          cases n (z - a) (λ l. not_both (text-long k n i r e v l) h)
          (λ l. valid (is_text (take (z - a) (drop a r))) (λ x. (same (text-good k n i r e v l x ∙ h), text_in_lem k n i r e v l)) (λ x. not_both (text_bad k n i r e v l x) h))
        where
          valid : {P : Type 0} (b : Bool) → (b ≡ true → P) → (b ≡ false → P) → P
          valid true f g = f refl
          valid false f g = g refl

abbrev pub moment_of_result : Result (Found ℕ) → Found ℕ
moment_of_result m = result_unwrap_or m None

pub moment_again : (m : Result (Found ℕ)) {t : Option ℕ} → moment_shown m ≡ Ok t → ReadMoment m → (t ≡ moment_from (moment_of_result m)) × MomentIn (moment_of_result m)
moment_again (Ok n) h w = (sym cc, w)
moment_again (Err e) h w = absurd (false≢true (ap is_good h))

module _ (k : Bool) (r : List ℕ) (w : Inside r (text_range_in k r 0)) (w' : Inside r (text_range_in k r 1)) (a d : Result (Found ℕ)) (ea : moment_shown a ≡ moment_column 2 (arrival_place k) r) (ed : moment_shown d ≡ moment_column 3 (departure_place k) r) (wa : ReadMoment a) (wd : ReadMoment d)
    (h : is_good (occupation_as k r) ≡ true) where
  abbrev fields : Fields
  fields =
      record {
        platform = span_of (text_range_in k r 0);
        unit = span_of (text_range_in k r 1);
        arrival = moment_of_result a;
        departure = moment_of_result d;
      }

  pub read_again : (Ok (fields_shown r fields) ≡ occupation_as k r) × FieldsIn (length r) fields
  read_again =
      let g = good-row k r h in
      let first = first_good (text_column k 16 0 r) (with_unit k r) (ap is_good g.1 ∙ h) in
      let second = first_good (text_column k 64 1 r) (with_arrival k r first.0) first.1.1 in
      let third = first_good (moment_column 2 (arrival_place k) r) (with_departure k r first.0 second.0) second.1.1 in
      let fourth = first_good (moment_column 3 (departure_place k) r) (λ x. printable (record { platform = first.0; unit = second.0; arrival = third.0; departure = x })) third.1.1 in
      let p = text_again k 16 0 r w first.1.0 in
      let u = text_again k 64 1 r w' second.1.0 in
      let x = moment_again a (ea ∙ third.1.0) wa in
      let y = moment_again d (ed ∙ fourth.1.0) wd in
      let o : Occupation = record { platform = first.0; unit = second.0; arrival = third.0; departure = fourth.0 } in
      let whole : with_platform k r ≡ Ok o
      = taken (with_unit k r) first.1.0 (taken (with_arrival k r first.0) second.1.0 (taken (with_departure k r first.0 second.0) third.1.0 (taken _ fourth.1.0 (printed o fourth.1.1)))) in
      (rw (← p.0, ← u.0, ← x.0, ← y.0) (sym whole ∙ g.1), record { platform_in = p.1; unit_in = u.1; arrival_in = x.1; departure_in = y.1 })
