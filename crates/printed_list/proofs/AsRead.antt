-- A row is refused as a read of all of its columns.
use Rattle.std.specs.Prelude.{Err, Ok}
use Prim.Native.Nat.{ℕ}
use mathlib.Core.Path.{◌≡◌, refl, sym, ap}
use mathlib.Core.Logic.{◌↔◌}
use mathlib.Core.Bool.{Bool, true, false, cond, false≢true, ◌||◌}
use mathlib.Core.List.{List, map}
use lib.Dec.{ltb}
use lib.ListN.{length}
use lib.Seq.{sets}
use Rattle.error.specs.declared.Refusal.{Refusal}
use Rattle.error.specs.declared.Refusal.TheVariants.{NoRoom, Unprintable}
use Rattle.error.specs.Refusal.{number_of}
use Rattle.error.specs.Result.{Result, on_result}
use Rattle.error.specs.Answer.{Counted, unchanged_both}
use Rattle.row_format.specs.Places.{offset_width}
use Rattle.row_format.specs.Header.{is_long}
use Rattle.datatype.specs.Schema.{schema_of}
use Rattle.value_list.specs.Lists.{Values, list_of}
use Rattle.stored_form.specs.Points.{points_in}
use Rattle.row_column.specs.Frame.{frame_of, on_frame}
use Rattle.row_decode.specs.Read.{read_from, hand_out, read_call}
use Rattle.occupation.specs.Occupation.{Occupation, columns, occupation_of, has_unprintable, printable}
use Rattle.occupation.specs.InnerFields.{is_good}
use Rattle.printed_list.specs.AsRead.{occupation_schema, all_columns, RefusedAsRead}

columns_are : (k : Bool) → schema_of k occupation_schema ≡ Ok columns
unfolding schema_of
columns_are false = refl
columns_are true = refl

-- ---- refusals told apart

same-refusal : {A : Type 0} {e q : Refusal} → ◌≡◌ {A = Result A} (Err e) (Err q) → e ≡ q
same-refusal h = cc

same_answer : {e q : Refusal} {x y : List ℕ × List ℕ} → ◌≡◌ {A = Counted} (Err e, x) (Err q, y) → e ≡ q
same_answer {e} {q} h = let a : ◌≡◌ {A = Result ℕ} (Err e) (Err q) = ap (λ (c : Counted). c.0) h in cc

not_printable : (s t : Bool) (o : Occupation) {e : Refusal} → cond s (Err (Unprintable 0)) (cond t (Err (Unprintable 1)) (Ok o)) ≡ Err e → number_of e ≡ 17
not_printable true t o h = ap number_of (sym (same-refusal h))
not_printable false true o h = ap number_of (sym (same-refusal h))
not_printable false false o h = absurd (false≢true (ap is_good (sym h)))

no_room : (t : Bool) (n : ℕ) (x y : List ℕ × List ℕ) {e : Refusal} {z : List ℕ × List ℕ} → ◌≡◌ {A = Counted} (cond t (Err NoRoom, x) (Ok n, y)) (Err e, z) → number_of e ≡ 14
no_room true n x y h = ap number_of (sym (same_answer h))
no_room false n x y h = absurd (false≢true (ap (λ (c : Counted). is_refused c.0) h))
  where
    is_refused : Result ℕ → Bool
    is_refused (Ok m) = false
    is_refused (Err m) = true

-- ---- the values that a read gives, and its header

module _ (k : Bool) (r out counts : List ℕ) (e : Refusal) where
  abbrev Same : Result Occupation → Counted → Type 0
  Same o c = (o ≡ Err e) ↔ (c ≡ unchanged_both out counts e)

  module _ (n : number_of e ≡ 14 → ⊥) (m : number_of e ≡ 17 → ⊥) where
    refused_alike : (q : Refusal) → Same (Err q) (unchanged_both out counts q)
    refused_alike q = (λ h. ap (unchanged_both out counts) (same-refusal h), λ h. ap Err (same_answer h))

    by_values : (v : Values) → Same (on_result v Err (λ vs. printable (occupation_of r vs))) (hand_out k out counts r v)
    by_values (Err q) = refused_alike q
    by_values (Ok vs) = (
      λ h. absurd (m (not_printable (has_unprintable (occupation_of r vs).platform) (has_unprintable (occupation_of r vs).unit) (occupation_of r vs) h)),
      λ h. absurd (n (no_room (ltb (length out) (length (list_of k vs)) || ltb (length counts) (length (map (points_in r) vs))) (length (list_of k vs)) (out, counts) (sets out 0 (list_of k vs), sets counts 0 (map (points_in r) vs)) h)),
    )

    by_frame : (f : Result Bool) → Same (on_frame f Err (λ p. on_result (read_from (offset_width k) p columns (λ i. true) r 0 (length columns)) Err (λ vs. printable (occupation_of r vs))))
        (on_frame f (unchanged_both out counts) (λ p. hand_out k out counts r (read_from (offset_width k) p columns (λ i. true) r 0 (length columns))))
    by_frame (Ok p) = by_values (read_from (offset_width k) p columns (λ i. true) r 0 (length columns))
    by_frame (Err q) = refused_alike q

-- all four columns are wanted, so the read is that of the definition
read_is : (r out counts : List ℕ) → read_call occupation_schema r all_columns out counts
    ≡ on_frame (frame_of (is_long r) columns r) (unchanged_both out counts) (λ p. hand_out (is_long r) out counts r (read_from (offset_width (is_long r)) p columns (λ i. true) r 0 (length columns)))
read_is r out counts = rw (columns_are (is_long r))

pub refused_as_read : RefusedAsRead
refused_as_read r out counts e n m = rw (read_is r out counts) (by_frame (is_long r) r out counts e n m (frame_of (is_long r) columns r))
