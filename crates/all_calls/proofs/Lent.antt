-- What every call leaves of the memory that it is lent: all of it after a refusal, and what is past its result.
use Rattle.error.specs.Result.{Result}
use Rattle.std.specs.Prelude.{Err, Ok}
use Rattle.value.specs.declared.DataValue.{DataValue}
use Prim.Native.Nat.{ℕ, zero, suc, ◌+◌}
use mathlib.Core.Path.{◌≡◌, refl, sym, ap, ap₂, ◌∙◌, subst}
use mathlib.Core.Bool.{Bool, ◌||◌}
use mathlib.Core.List.{List, [], ◌∷◌, map}
use native.Mathlib.Omega.{arith}
use mathlib.Core.Option.{none, some}
use lib.Dec.{ltb}
use lib.ListN.{length, set, drop, length-map}
use lib.Seq.{sets, length-sets, drop-set-lt}
use Rattle.laws.proofs.Truths.{by_cond}
use Rattle.error.specs.declared.Refusal.{Refusal}
use Rattle.error.specs.declared.Refusal.TheVariants.{RowLimit, NoRoom}
use Rattle.error.specs.Answer.{Outcome, unchanged, placed, Counted, unchanged_both, placed_both}
use Rattle.row_format.specs.Places.{offset_width, row_limit}
use Rattle.row_format.specs.Header.{is_long, sort_in}
use Rattle.row_format.specs.Row.{packed_marks, built_row}
use Rattle.datatype.specs.declared.DataType.{DataType}
use Rattle.datatype.specs.Types.{shape_of}
use Rattle.datatype.specs.Schema.{schema_of}
use Rattle.datatype.specs.Check.{type_at, types_in}
use Rattle.value_list.specs.Lists.{Values, checked, list_of}
use Rattle.stored_form.specs.Points.{points_in}
use Rattle.row_column.specs.Frame.{frame_of}
use Rattle.row_decode.specs.Read.{is_wanted, wanted_value, on_column, read_from, hand_out, read_call}
use Rattle.row_column.specs.Column.{column_value}
use Rattle.row_build.specs.Cells.{cells_from}
use Rattle.row_build.specs.Build.{cells_points, build_call, fresh_row, fresh_call}
use Rattle.row_build.proofs.Built.{built}
use Rattle.row_handle.specs.declared.HandleLayout.{HandleLayout}
use Rattle.row_handle.specs.declared.RowHandle.{RowHandle}
use Rattle.row_handle.specs.Handle.{handle_after}
use Rattle.row_edit.specs.Edit.{opening, opened, edited, given, set_call, set_null_call}
use Rattle.occupation_list.specs.Print.{occupations_of, lines_of, print_call}
use Rattle.all_calls.specs.Lent.{Call, left_by, lent_to, counts_due, bytes_alone, with_counts, with_handle, RefusalChangesNothing, PastResultKept}
use Rattle.all_calls.specs.Lent as Lent
use Rattle.all_calls.proofs.Steps.{by_result, by_frame, types_in_lem}

-- ---- stores at the front

past_stores : {A : Type 0} (l : List A) (i : ℕ) (xs : List A) (n : ℕ) → i + length xs ≡ n → drop n (sets l i xs) ≡ drop n l
past_stores l i [] n e = refl
past_stores l i (x ∷ xs) n e = past_stores (set l i x) (suc i) xs n (omega arith) ∙ drop-set-lt n l i x (omega arith)

-- ---- an outcome: what is kept of the output, and of the list of counts, of which `due` numbers are written

record Kept (out counts : List ℕ) (due : ℕ) (o : Counted) : Type 0 where
  unchanged_by : (e : Refusal) → o.0 ≡ Err e → o.1 ≡ (out, counts)
  long : length o.1.0 ≡ length out
  past : (n : ℕ) → o.0 ≡ Ok n → drop n o.1.0 ≡ drop n out
  many : length o.1.1 ≡ length counts
  counts_past : (n : ℕ) → o.0 ≡ Ok n → drop due o.1.1 ≡ drop due counts

abbrev IsDone : Result ℕ → Type 0
IsDone (Ok n) = Unit {0}
IsDone (Err e) = ⊥

abbrev size_in : Result ℕ → ℕ
size_in (Ok n) = n
size_in (Err e) = 0

module _ (out counts : List ℕ) (due : ℕ) where
  kept-refused : (e : Refusal) → Kept out counts due (unchanged_both out counts e)
  kept-refused e =
      record {
        unchanged_by = λ x h. refl;
        long = refl;
        past = λ n h. absurd (subst IsDone (sym h) tt);
        many = refl;
        counts_past = λ n h. absurd (subst IsDone (sym h) tt);
      }

  kept-stored : (x ns : List ℕ) → length ns ≡ due → Kept out counts due (Ok (length x), (sets out 0 x, sets counts 0 ns))
  kept-stored x ns e =
      record {
        unchanged_by = λ f h. absurd (subst IsDone h tt);
        long = length-sets out 0 x;
        past = λ n h. let m : length x ≡ n = ap size_in h in past_stores out 0 x n (omega arith);
        many = length-sets counts 0 ns;
        counts_past = λ n h. past_stores counts 0 ns due (omega arith);
      }

  kept-done : (x ns : List ℕ) {n : ℕ} {after numbers : List ℕ} → length ns ≡ due → n ≡ length x → after ≡ sets out 0 x
      → numbers ≡ sets counts 0 ns → Kept out counts due (Ok n, (after, numbers))
  kept-done x ns e f g h = rw (f, g, h) (kept-stored x ns e)

  kept-placed : (x ns : List ℕ) → length ns ≡ due → Kept out counts due (placed_both out counts x ns)
  kept-placed x ns e =
      by_cond (Kept out counts due) (ltb (length out) (length x) || ltb (length counts) (length ns))
      (unchanged_both out counts NoRoom) (Ok (length x), (sets out 0 x, sets counts 0 ns))
      (λ t. kept-refused NoRoom) (λ t. kept-stored x ns e)

-- ---- calls with an output alone

module _ (out : List ℕ) where
  abbrev KeptAlone : Outcome → Type 0
  KeptAlone o = Kept out [] 0 (o.0, (o.1, []))

  alone-refused : (e : Refusal) → KeptAlone (unchanged out e)
  alone-refused e = kept-refused out [] 0 e

  alone-stored : (x : List ℕ) → KeptAlone (Ok (length x), sets out 0 x)
  alone-stored x = kept-stored out [] 0 x [] refl

  alone-placed : (x : List ℕ) → KeptAlone (placed out x)
  alone-placed x =
      by_cond KeptAlone (ltb (length out) (length x)) (unchanged out NoRoom) (Ok (length x), sets out 0 x)
      (λ t. alone-refused NoRoom) (λ t. alone-stored x)

fresh_kept : (sort : Bool) (schema out : List ℕ) → KeptAlone out (fresh_call sort schema out)
fresh_kept sort schema out = by_result (KeptAlone out) (schema_of sort schema) (alone-refused out) (λ ts e. alone-placed out (fresh_row sort ts))

print-kept : (list out : List ℕ) → KeptAlone out (print_call list out)
print-kept list out = by_result (KeptAlone out) (occupations_of list) (alone-refused out) (λ os e. alone-placed out (lines_of os))

opened-kept : (k : Bool) (schema buf : List ℕ) (n i : ℕ) {f : List DataType → Bool → Outcome}
    → ((ts : List DataType) (p : Bool) → KeptAlone buf (f ts p)) → KeptAlone buf (opened k schema buf n i f)
opened-kept k schema buf n i h =
    by_result (KeptAlone buf) (schema_of k schema) (alone-refused buf)
    (λ ts e. by_frame (KeptAlone buf) (opening k ts buf n i) (alone-refused buf) (λ p g. h ts p))

set-kept : (schema buf : List ℕ) (n i : ℕ) (list area : List ℕ) → KeptAlone buf (set_call schema buf n i list area)
set-kept schema buf n i list area =
    opened-kept (sort_in buf n) schema buf n i
    (λ ts p. by_result (KeptAlone buf) (given (sort_in buf n) (type_at ts i) i list area) (alone-refused buf)
    (λ b e. let r : List ℕ = edited (offset_width (sort_in buf n)) ts p buf n i (some b) in
    by_cond (KeptAlone buf) (ltb (row_limit (sort_in buf n)) (length r)) (unchanged buf RowLimit) (placed buf r)
    (λ t. alone-refused buf RowLimit) (λ t. alone-placed buf r)))

set-null-kept : (schema buf : List ℕ) (n i : ℕ) → KeptAlone buf (set_null_call schema buf n i)
set-null-kept schema buf n i = opened-kept (sort_in buf n) schema buf n i (λ ts p. alone-stored buf (edited (offset_width (sort_in buf n)) ts p buf n i none))

-- ---- calls with a list of counts

-- a build that is refused leaves both; one that is done is told by `built`
module _ (sort : Bool) (schema list area out counts : List ℕ) where
  abbrev call : Counted
  call = build_call sort schema list area out counts

  abbrev LeavesBoth : Counted → Type 0
  LeavesBoth o = (e : Refusal) (after : List ℕ × List ℕ) → o ≡ (Err e, after) → after ≡ (out, counts)

  leaves-refused : (e : Refusal) → LeavesBoth (unchanged_both out counts e)
  leaves-refused e x after h = sym (ap (λ (o : Counted). o.1) h)

  leaves-placed : (x ns : List ℕ) → LeavesBoth (placed_both out counts x ns)
  leaves-placed x ns =
      by_cond LeavesBoth (ltb (length out) (length x) || ltb (length counts) (length ns))
      (unchanged_both out counts NoRoom) (Ok (length x), (sets out 0 x, sets counts 0 ns))
      (λ t. leaves-refused NoRoom) (λ t e after h. absurd (subst (λ (o : Counted). IsDone o.0) h tt))

  leaves-both : LeavesBoth call
  leaves-both =
      by_result LeavesBoth (schema_of sort schema) leaves-refused (λ ts e.
      by_result LeavesBoth (checked sort (length ts) (length area) list) leaves-refused (λ vs f.
      by_result LeavesBoth (cells_from 0 ts vs area) leaves-refused (λ cs g.
      let r : List ℕ = built_row (offset_width sort) (packed_marks sort) (map shape_of ts) cs in
      by_cond LeavesBoth (ltb (row_limit sort) (length r)) (unchanged_both out counts RowLimit)
      (placed_both out counts r (cells_points ts cs))
      (λ t. leaves-refused RowLimit) (λ t. leaves-placed r (cells_points ts cs)))))

  build-kept : Kept out counts (length (types_in schema)) call
  build-kept = of_outcome_lem call refl
    where
      of_outcome_lem : (o : Counted) → call ≡ o → Kept out counts (length (types_in schema)) o
      of_outcome_lem (Err e, after) h =
          subst (λ (x : List ℕ × List ℕ). Kept out counts (length (types_in schema)) (Err e, x)) (sym (leaves-both e after h))
          (kept-refused out counts (length (types_in schema)) e)
      of_outcome_lem (Ok n, (after, numbers)) h =
          let d = built sort schema list area out counts n after numbers h in
          let b = d.built in
          let r : List ℕ = built_row (offset_width sort) (packed_marks sort) (map shape_of b.columns) b.cells in
          let ns : List ℕ = cells_points b.columns b.cells in
          let due : length ns ≡ length (types_in schema) = d.counted.many ∙ sym (ap length (types_in_lem sort schema b.schema-good)) in
          kept-done out counts (length (types_in schema)) r ns due b.size b.stored d.counted.put

-- a read gives a value for each column
abbrev Counts : ℕ → Values → Type 0
Counts n (Ok vs) = length vs ≡ n
Counts n (Err e) = Unit {0}

on_counts : (n : ℕ) (c : Result DataValue) (q : Values) → Counts n q → Counts (suc n) (on_column c q)
on_counts n (Ok v) (Ok vs) h = ap suc h
on_counts n (Ok v) (Err e) h = tt
on_counts n (Err e) q h = tt

reads-count : (w : ℕ) (p : Bool) (ts : List DataType) (wanted : ℕ → Bool) (r : List ℕ) (n i : ℕ)
    → Counts n (read_from w p ts wanted r i n)
reads-count w p ts wanted r zero i = refl
reads-count w p ts wanted r (suc n) i =
    on_counts n (wanted_value (wanted i) (column_value w p ts i r)) _ (reads-count w p ts wanted r n (suc i))

handed-kept : (k : Bool) (r out counts : List ℕ) (due : ℕ) (u : Values) → Counts due u
    → Kept out counts due (hand_out k out counts r u)
handed-kept k r out counts due (Ok vs) h =
    kept-placed out counts due (list_of k vs) (map (points_in r) vs) (length-map vs (points_in r) ∙ h)
handed-kept k r out counts due (Err e) h = kept-refused out counts due e

read_kept : (schema r wanted out counts : List ℕ)
    → Kept out counts (length (types_in schema)) (read_call schema r wanted out counts)
read_kept schema r wanted out counts =
    let k : Bool = is_long r in
    let due : ℕ = length (types_in schema) in
    by_result (Kept out counts due) (schema_of k schema) (kept-refused out counts due)
    (λ ts e. by_frame (Kept out counts due) (frame_of k ts r) (kept-refused out counts due)
    (λ p f. handed-kept k r out counts due (read_from (offset_width k) p ts (is_wanted wanted) r 0 (length ts))
    (rw (types_in_lem k schema e) (reads-count (offset_width k) p ts (is_wanted wanted) r (length ts) 0))))

-- ---- every call

-- a handle is as it was after a refusal
handle-same : (l : HandleLayout) (h : RowHandle) (a : Result ℕ) (e : Refusal) → a ≡ Err e → handle_after l h a ≡ h
handle-same l h (Err x) e q = refl
handle-same l h (Ok n) e q = absurd (subst IsDone q tt)

pub refusal_changes_nothing : (c : Call) → RefusalChangesNothing c
refusal_changes_nothing (Lent.fresh sort schema out) e h =
    ap (λ (x : List ℕ × List ℕ). bytes_alone x.0) ((fresh_kept sort schema out).unchanged_by e h)
refusal_changes_nothing (Lent.build sort schema list area out counts) e h =
    ap (λ (x : List ℕ × List ℕ). with_counts x.0 x.1) ((build-kept sort schema list area out counts).unchanged_by e h)
refusal_changes_nothing (Lent.read schema row wanted out counts) e h =
    ap (λ (x : List ℕ × List ℕ). with_counts x.0 x.1) ((read_kept schema row wanted out counts).unchanged_by e h)
refusal_changes_nothing (Lent.set schema buf n i list area) e h =
    ap (λ (x : List ℕ × List ℕ). bytes_alone x.0) ((set-kept schema buf n i list area).unchanged_by e h)
refusal_changes_nothing (Lent.set-null schema buf n i) e h =
    ap (λ (x : List ℕ × List ℕ). bytes_alone x.0) ((set-null-kept schema buf n i).unchanged_by e h)
refusal_changes_nothing (Lent.handle-set schema buf h i list area) e q =
    ap₂ with_handle (ap (λ (x : List ℕ × List ℕ). x.0) ((set-kept schema buf h.length i list area).unchanged_by e q))
    (handle-same _ h _ e q)
refusal_changes_nothing (Lent.handle-set-null schema buf h i) e q =
    ap₂ with_handle (ap (λ (x : List ℕ × List ℕ). x.0) ((set-null-kept schema buf h.length i).unchanged_by e q))
    (handle-same _ h _ e q)
refusal_changes_nothing (Lent.print list out) e h =
    ap (λ (x : List ℕ × List ℕ). bytes_alone x.0) ((print-kept list out).unchanged_by e h)

past-kept : (c : Call) {o : Counted} → Kept (lent_to c).bytes (lent_to c).counts (counts_due c) o → (left_by c).0 ≡ o.0
    → (left_by c).1.bytes ≡ o.1.0 → (left_by c).1.counts ≡ o.1.1 → PastResultKept c
past-kept c k a b d n h =
    record {
      same_length = ap length b ∙ k.long;
      bytes_past = ap (drop n) b ∙ k.past n (sym a ∙ h);
      same_count = ap length d ∙ k.many;
      counts_past = ap (drop (counts_due c)) d ∙ k.counts_past n (sym a ∙ h);
    }

pub past-result-kept : (c : Call) → PastResultKept c
past-result-kept (Lent.fresh sort schema out) = past-kept (Lent.fresh sort schema out) (fresh_kept sort schema out) refl refl refl
past-result-kept (Lent.build sort schema list area out counts) =
    past-kept (Lent.build sort schema list area out counts) (build-kept sort schema list area out counts) refl refl refl
past-result-kept (Lent.read schema row wanted out counts) =
    past-kept (Lent.read schema row wanted out counts) (read_kept schema row wanted out counts) refl refl refl
past-result-kept (Lent.set schema buf n i list area) =
    past-kept (Lent.set schema buf n i list area) (set-kept schema buf n i list area) refl refl refl
past-result-kept (Lent.set-null schema buf n i) =
    past-kept (Lent.set-null schema buf n i) (set-null-kept schema buf n i) refl refl refl
past-result-kept (Lent.handle-set schema buf h i list area) =
    past-kept (Lent.handle-set schema buf h i list area) (set-kept schema buf h.length i list area) refl refl refl
past-result-kept (Lent.handle-set-null schema buf h i) =
    past-kept (Lent.handle-set-null schema buf h i) (set-null-kept schema buf h.length i) refl refl refl
past-result-kept (Lent.print list out) = past-kept (Lent.print list out) (print-kept list out) refl refl refl
