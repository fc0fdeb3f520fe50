-- FORMAT 6. 01, "What each call hands back", of every exported call that is lent memory to write: "A refusal changes no
-- lent byte. An output's bytes past the result are as before." The other calls get shared slices alone.
use Rattle.error.specs.Result.{Result}
use Rattle.std.specs.Prelude.{ℕ, Bool, List, [], ◌≡◌, length, drop, Err, Ok}
use Rattle.std.proofs.Math.Option.{Option, none, some}
use Rattle.error.specs.declared.Refusal.{Refusal}
use Rattle.error.specs.Answer.{Outcome, Counted}
use Rattle.datatype.specs.Check.{types_in}
use Rattle.row_decode.specs.Read.{read_call}
use Rattle.row_build.specs.Build.{fresh_call, build_call}
use Rattle.row_edit.specs.Edit.{set_call, set_null_call}
use Rattle.row_handle.specs.declared.RowHandle.{RowHandle}
use Rattle.row_handle.specs.Handle.{Handled, handle_set, handle_set_null}
use Rattle.occupation_list.specs.Print.{print_call}

-- the calls, each with all that it gets
pub data Call : Type 0 where
  fresh : (sort : Bool) (schema out : List ℕ) → Call
  build : (sort : Bool) (schema list area out counts : List ℕ) → Call
  read : (schema row wanted out counts : List ℕ) → Call
  set : (schema buf : List ℕ) (n i : ℕ) (list area : List ℕ) → Call
  set-null : (schema buf : List ℕ) (n i : ℕ) → Call
  handle-set : (schema buf : List ℕ) (h : RowHandle) (i : ℕ) (list area : List ℕ) → Call
  handle-set-null : (schema buf : List ℕ) (h : RowHandle) (i : ℕ) → Call
  print : (list out : List ℕ) → Call

-- what it is lent to write: the bytes of an output or a buffer, the numbers of a list of counts, a handle
pub record Lent : Type 0 where
  pub bytes : List ℕ
  pub counts : List ℕ
  pub handle : Option RowHandle

abbrev pub bytes_alone : List ℕ → Lent
bytes_alone b = record { bytes = b; counts = []; handle = none }

abbrev pub with_counts : List ℕ → List ℕ → Lent
with_counts b ns = record { bytes = b; counts = ns; handle = none }

abbrev pub with_handle : List ℕ → RowHandle → Lent
with_handle b h = record { bytes = b; counts = []; handle = some h }

abbrev pub lent_to : Call → Lent
lent_to (fresh sort schema out) = bytes_alone out
lent_to (build sort schema list area out counts) = with_counts out counts
lent_to (read schema row wanted out counts) = with_counts out counts
lent_to (set schema buf n i list area) = bytes_alone buf
lent_to (set-null schema buf n i) = bytes_alone buf
lent_to (handle-set schema buf h i list area) = with_handle buf h
lent_to (handle-set-null schema buf h i) = with_handle buf h
lent_to (print list out) = bytes_alone out

-- what it answers, and what it leaves there
abbrev pub Left : Type 0
Left = Result ℕ × Lent

abbrev pub of_outcome : Outcome → Left
of_outcome o = (o.0, bytes_alone o.1)

abbrev pub of_counted : Counted → Left
of_counted o = (o.0, with_counts o.1.0 o.1.1)

abbrev pub of_handled : Handled → Left
of_handled o = (o.0, with_handle o.1.0 o.1.1)

abbrev pub left_by : Call → Left
left_by (fresh sort schema out) = of_outcome (fresh_call sort schema out)
left_by (build sort schema list area out counts) = of_counted (build_call sort schema list area out counts)
left_by (read schema row wanted out counts) = of_counted (read_call schema row wanted out counts)
left_by (set schema buf n i list area) = of_outcome (set_call schema buf n i list area)
left_by (set-null schema buf n i) = of_outcome (set_null_call schema buf n i)
left_by (handle-set schema buf h i list area) = of_handled (handle_set schema buf h i list area)
left_by (handle-set-null schema buf h i) = of_handled (handle_set_null schema buf h i)
left_by (print list out) = of_outcome (print_call list out)

-- the numbers that are due in its list of counts: one for each column
abbrev pub counts_due : Call → ℕ
counts_due (fresh sort schema out) = 0
counts_due (build sort schema list area out counts) = length (types_in schema)
counts_due (read schema row wanted out counts) = length (types_in schema)
counts_due (set schema buf n i list area) = 0
counts_due (set-null schema buf n i) = 0
counts_due (handle-set schema buf h i list area) = 0
counts_due (handle-set-null schema buf h i) = 0
counts_due (print list out) = 0

-- "A refusal changes no lent byte."
abbrev pub RefusalChangesNothing : (c : Call) → Type 0
RefusalChangesNothing c = (e : Refusal) → (left_by c).0 ≡ Err e → (left_by c).1 ≡ lent_to c

-- "An output's bytes past the result are as before", and the numbers past those that are due
pub record PastKept (c : Call) (n : ℕ) : Type 0 where
  pub same_length : length (left_by c).1.bytes ≡ length (lent_to c).bytes
  pub bytes_past : drop n (left_by c).1.bytes ≡ drop n (lent_to c).bytes
  pub same_count : length (left_by c).1.counts ≡ length (lent_to c).counts
  pub counts_past : drop (counts_due c) (left_by c).1.counts ≡ drop (counts_due c) (lent_to c).counts

abbrev pub PastResultKept : (c : Call) → Type 0
PastResultKept c = (n : ℕ) → (left_by c).0 ≡ Ok n → PastKept c n
