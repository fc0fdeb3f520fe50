-- Whether a column reads, and the walk over the columns that asks it of each.
use Rattle.error.specs.Result.{Result}
use Rattle.std.specs.Prelude.{Err, Ok}
use Prim.Native.Nat.{ℕ, ◌+◌, ◌-◌, ◌≤◌, ◌<◌}
use mathlib.Core.Path.{◌≡◌, refl, sym, ap, ◌∙◌}
use mathlib.Core.Bool.{Bool, true, false, cond, false≢true}
use mathlib.Core.List.{List, []}
use native.Mathlib.Omega.{arith}
use borrow.Author.Tests.{ltb-false}
use lib.Dec.{eqb, ltb}
use lib.ListN.{length, take, drop, drop_of_length-le}
use Rattle.laws.specs.Bytes.{entry_at}
use Rattle.laws.proofs.Truths.{by_cond}
use Rattle.text_limit.specs.Limit.{fits_text}
use Rattle.row_format.specs.Table.{range_end}
use Rattle.row_layout.specs.declared.RowLayout.{RowLayout}
use Rattle.row_layout.specs.declared.VarlenRange.{VarlenRange}
use Rattle.row_layout.specs.declared.VarlenRange.TheVariants as Range
use Rattle.row_layout.specs.Range.{varlen_range}
use Rattle.row_layout.specs.InnerLayout.{Bounded, with_column}
use Rattle.row_layout.specs.InnerRange.{Inside}
use Rattle.datatype.specs.declared.DataType.{DataType}
use Rattle.datatype.specs.declared.DataType.TheVariants.{Varchar}
use Rattle.datatype.specs.declared.Step.{Step}
use Rattle.datatype.specs.Types.{is_varlen, shape_of}
use Rattle.datatype.specs.Schema.{column_record_at}
use Rattle.datatype.specs.InnerSteps.{type_in, passed}
use Rattle.datatype.specs.Check.{types_in}
use Rattle.datatype.proofs.Again.{Ahead, ahead-end, ahead-split, ahead-column, ahead_step, step_is}
use Rattle.value.specs.declared.DataValue.{DataValue}
use Rattle.value_list.specs.Lists.{Values}
use Rattle.stored_form.specs.Read.{value_if}
use Rattle.row_column.specs.Column.{slot_value, varlen_value}
use Rattle.row_column.specs.InnerWalk.{walked_column}
use Rattle.row_sound.specs.Sound.{reads}
use Rattle.row_sound.specs.InnerWalk.{walked_sound}
use Rattle.row_decode.specs.Read.{on_column}
use Rattle.row_decode.specs.InnerWalk.{walked_read}
use Rattle.row_reads.specs.InnerReads.{range_reads, refusal_in, read_all, WalkAt}

-- ---- a column

fixed_cases : (x v z : Bool) → v ≡ false → cond x (cond v z true) false ≡ x
fixed_cases true v z e = rw e
fixed_cases false v z e = refl

-- a fixed column is sound if it reads
pub sound-reads : (l : RowLayout) (p : Bool) (b : RowLayout) (t : DataType) (r : List ℕ) → is_varlen t ≡ false
    → walked_sound l p b t r ≡ reads (walked_column l p b t r)
unfolding walked_sound
sound-reads l p b t r v = fixed_cases (reads (walked_column l p b t r)) (is_varlen t) _ v

-- the range of a Varchar is a part of the row
pub range_inside : (w table v k : ℕ) (r : List ℕ) → Inside r (varlen_range w table v k r)
range_inside w table v k r =
    let a : ℕ = entry_at w table k r in
    let e : ℕ = range_end w table v k r in
    by_cond (Inside r) (eqb a 0) Range.Null _ (λ z. tt)
    (λ z. by_cond (Inside r) (ltb e a) Range.Outside _ (λ x. tt)
    (λ x. by_cond (Inside r) (ltb (length r) e) Range.Outside (Range.Bytes a e) (λ y. tt)
    (λ y. (ltb-false e a x, ltb-false (length r) e y))))

text_cases : (t : Bool) (i : ℕ) (v : DataValue) → t ≡ reads (slot_value i (value_if t v))
text_cases true i v = refl
text_cases false i v = refl

pub range-reads : (p : Bool) (n i : ℕ) (r : List ℕ) (q : VarlenRange)
    → range_reads p n r q ≡ reads (varlen_value (Varchar p n) i r q)
range-reads p n i r Range.Null = refl
range-reads p n i r Range.Outside = refl
range-reads p n i r (Range.Bytes a e) = text_cases (fits_text p n (take (e - a) (drop a r))) i _

-- ---- the columns: what is left of them decides

passes : (answer : Bool) (c : Result DataValue) (ws : Values) → reads c ≡ true
    → read_all answer (on_column c ws) ≡ read_all answer ws
passes answer (Ok v) (Ok vs) h = refl
passes answer (Ok v) (Err e) h = refl
passes answer (Err e) ws h = absurd (false≢true h)

stops : (answer : Bool) (c : Result DataValue) (ws : Values) → reads c ≡ false → refusal_in c ≡ read_all answer (on_column c ws)
stops answer (Ok v) ws h = absurd (false≢true (sym h))
stops answer (Err e) ws h = refl

pub record Reading (s : List ℕ) (l : RowLayout) (p : Bool) (r : List ℕ) (start : RowLayout) (answer : Bool)
    (b : RowLayout) (at : ℕ) : Type 0 where
  pub walk : Ahead s b at
  pub rest : read_all answer (walked_read l p (λ i. true) r b (drop b.num_columns (types_in s)))
      ≡ read_all answer (walked_read l p (λ i. true) r start (drop start.num_columns (types_in s)))

pub walk_ahead : {s : List ℕ} {b : RowLayout} {at : ℕ} → WalkAt s b at → Ahead s b at
walk_ahead w = record { bounded = w.bounded; within = w.within; so_far = w.so_far; ahead = w.ahead }

pub ahead_walk : {s : List ℕ} {b : RowLayout} {at : ℕ} → Ahead s b at → WalkAt s b at
ahead_walk w = record { bounded = w.bounded; within = w.within; so_far = w.so_far; ahead = w.ahead }

module _ {s : List ℕ} {l : RowLayout} {p : Bool} {r : List ℕ} {answer : Bool} where
  pub read-start : {b : RowLayout} {at : ℕ} → WalkAt s b at → Reading s l p r b answer b at
  read-start w = record { walk = walk_ahead w; rest = refl }

  module _ {start b : RowLayout} {at : ℕ} (k : Reading s l p r start answer b at) where
    abbrev whole : Result Bool
    whole = read_all answer (walked_read l p (λ i. true) r start (drop start.num_columns (types_in s)))

    pub read-end : length s ≤ at → Ok answer ≡ whole
    read-end h =
        let n : b.num_columns ≡ length (types_in s) = ahead-end k.walk h in
        let none : drop b.num_columns (types_in s) ≡ [] =
        drop_of_length-le (types_in s) {i = b.num_columns} (omega (arith, n)) in
        rw none at k.rest

    module _ (h : at < length s) where
      abbrev t : DataType
      t = type_in (column_record_at s at)

      abbrev column : Result DataValue
      column = walked_column l p b t r

      abbrev later : Values
      later = walked_read l p (λ i. true) r (with_column b (shape_of t)) (drop (b.num_columns + 1) (types_in s))

      split : read_all answer (on_column column later) ≡ whole
      split =
          let n = ahead-column k.walk h in
          rw (ap type_in n.is) (rw (ahead-split k.walk h n.is) at k.rest)

      pub read_bad : reads column ≡ false → refusal_in column ≡ whole
      read_bad q = stops answer column later q ∙ split

      pub read_more : reads column ≡ true → {q : Step} → q ≡ passed at b (column_record_at s at) → Bounded q.before
          → Reading s l p r start answer q.before q.at
      read_more y {q} e small =
          let n = ahead-column k.walk h in
          record {
            walk = ahead_step k.walk h e small;
            rest = rw (step_is k.walk h e, ← ap type_in n.is) (sym (passes answer column later y) ∙ split);
          }
