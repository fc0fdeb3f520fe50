-- The walk over both rows gives what reading both and comparing their values gives.
use Rattle.std.specs.Prelude.{Err, Ok}
use Prim.Native.Nat.{ℕ}
use mathlib.Core.Path.{◌≡◌, refl, sym, ap, ap₂, ◌∙◌, subst}
use mathlib.Core.Bool.{Bool, true, false, cond}
use mathlib.Core.List.{List, ◌∷◌, map}
use native.Mathlib.Omega.{arith}
use lib.Dec.{ltb}
use lib.ListN.{length}
use Rattle.error.specs.declared.Refusal.{Refusal}
use Rattle.error.specs.declared.Refusal.TheVariants.{BadSchema}
use Rattle.error.specs.Result.{on_result, Result}
use Rattle.row_format.specs.Places.{offset_width, row_limit, minimum}
use Rattle.row_format.specs.Header.{is_long}
use Rattle.row_layout.specs.declared.RowLayout.{RowLayout}
use Rattle.row_layout.specs.InnerLayout.{Bounded, of_sort}
use Rattle.datatype.specs.declared.DataType.{DataType}
use Rattle.datatype.specs.Types.{length_of, shape_of}
use Rattle.datatype.specs.Schema.{Parsed, limited, schema_of}
use Rattle.datatype.specs.Check.{layout_for, types_in}
use Rattle.datatype.specs.InnerCheck.{Accepted, checked_schema, finished}
use Rattle.datatype.proofs.Accept.{accepted, on_good, on_refused}
use Rattle.value.specs.declared.DataValue.{DataValue}
use Rattle.value.specs.Ranges.{text_of}
use Rattle.value_list.specs.Lists.{Values}
use Rattle.value_same.specs.Same.{same_content}
use Rattle.row_column.specs.Frame.{on_frame}
use Rattle.row_column.specs.InnerWalk.{walked_frame}
use Rattle.row_column.proofs.Walk.{frame_walked}
use Rattle.row_column.proofs.Framing.{same_good}
use Rattle.row_decode.specs.Read.{on_column, read_from}
use Rattle.row_decode.proofs.Walk.{read_walked}
use Rattle.row_sound.specs.Sound.{reads}
use Rattle.row_reads.specs.InnerReads.{read_all}
use Rattle.row_same.specs.Rows.{all_columns, same_values, on_values, values_read, same_call}
use Rattle.row_same.specs.InnerWalk.{compared, walked_row, on_limit, limited_row, both_read, AllRead}

-- ---- the headers, where the layout of the columns ts is known as l

all_walked : (ts : List DataType) {l : RowLayout} → layout_for l.is_long ts ≡ l → (r : List ℕ)
    → walked_row ts l r ≡ all_columns l.is_long ts r
all_walked ts {l} e r =
    same_good (walked_frame l r) Err (λ p g. read_walked l.is_long p ts (λ i. true) r e)
    ∙ ap (λ (f : Result Bool). on_frame f Err (λ p. read_from (offset_width l.is_long) p ts (λ i. true) r 0 (length ts)))
    (sym (frame_walked ts r e))

-- ---- a schema that was accepted for rows of one sort: for every other only the limit is left

pub accepted-sort : {s : List ℕ} {l : RowLayout} (k : Bool) → Accepted s l → Accepted s (of_sort k l)
accepted-sort k h =
    let b = h.bounded in
    record {
      schema = h.schema;
      layout = ap (of_sort k) h.layout;
      bounded = record { few = b.few; ranked = b.ranked; tight = b.tight; wide = b.wide };
    }

on_limit_lem : (t : Bool) (e : Refusal) (l : RowLayout) (ts : List DataType) (f : List DataType → Values)
    → on_limit (cond t (Err e) (Ok l)) (f ts) ≡ on_result (cond t (Err e) (Ok ts)) Err f
on_limit_lem true e l ts f = refl
on_limit_lem false e l ts f = refl

limited-read : {s : List ℕ} {l : RowLayout} → Accepted s l → (f : List DataType → Values)
    → on_limit (finished (length s) l) (f (types_in s)) ≡ on_result (schema_of l.is_long s) Err f
unfolding schema_of
limited-read {s} {l} h f =
    let k : Bool = l.is_long in
    let ts : List DataType = types_in s in
    ap (λ (x : RowLayout). on_limit (finished (length s) x) (f ts)) (sym h.layout)
    ∙ on_limit_lem (ltb (row_limit k) (minimum (offset_width k) false (map shape_of ts))) (BadSchema (length s))
    (layout_for k ts) ts f
    ∙ ap (λ (p : Parsed). on_result (limited k (length s) p) Err f) (sym h.schema)

-- both rows, each with the layout of its own sort
pub both_walked : (s a b : List ℕ) {l : RowLayout} → checked_schema (is_long a) (schema_of (is_long a) s) ≡ Ok l
    → Bounded l
    → both_read (types_in s) a (walked_row (types_in s) (of_sort (is_long a) l) a) b (limited_row s (of_sort (is_long b) l) b)
    ≡ same_call s a b
both_walked s a b {l} good small =
    ap₂ (λ (x y : Values). both_read (types_in s) a x b y) (walked a ∙ on_good (is_long a) s good Err (columns a))
    (ap (on_limit (finished (length s) (of_sort (is_long b) l))) (walked b) ∙ limited-read (known (is_long b)) (columns b))
  where
    known : (k : Bool) → Accepted s (of_sort k l)
    known k = accepted-sort k (accepted (is_long a) s good small)

    columns : List ℕ → List DataType → Values
    columns r ts = all_columns (is_long r) ts r

    walked : (r : List ℕ) → walked_row (types_in s) (of_sort (is_long r) l) r ≡ columns r (types_in s)
    walked r = all_walked (types_in s) (known (is_long r)).layout r

pub schema-refused : (s a b : List ℕ) {e : Refusal} → checked_schema (is_long a) (schema_of (is_long a) s) ≡ Err e
    → Err e ≡ same_call s a b
schema-refused s a b f =
    ap (λ (x : Values). both_read (types_in s) a x b (values_read s b))
    (on_refused (is_long a) (schema_of (is_long a) s) Err _ f)

-- ---- a row that is refused as a whole

pub first_refused : (first : Values) {e : Refusal} → read_all true first ≡ Err e → first ≡ Err e
first_refused (Ok vs) h = absurd (let z : ◌≡◌ {A = ℕ} 0 1 = cc in omega arith)
first_refused (Err r) h = cc

pub second_refused : (ts : List DataType) (a b : List ℕ) (first : Values) (e : Refusal) → AllRead first
    → Err e ≡ both_read ts a first b (Err e)
second_refused ts a b (Ok vs) e h = refl
second_refused ts a b (Err r) e h = absurd h

pub all_read : (first : Values) {t : Bool} → read_all true first ≡ Ok t → AllRead first
all_read (Ok vs) h = tt
all_read (Err r) h = absurd (let z : ◌≡◌ {A = ℕ} 0 1 = cc in omega arith)

-- ---- a column in front of both rows' values: it is c and d, the columns after it ws and us

pub reads_first : (c : Result DataValue) (ws : Values) {vs : List DataValue} → on_column c ws ≡ Ok vs → reads c ≡ true
reads_first (Ok v) ws h = refl
reads_first (Err e) ws h = absurd (subst AllRead (sym h) tt)

module _ (t : DataType) (ts : List DataType) (a b : List ℕ) where
  -- what is said once the first row gave vs
  abbrev judged : List DataType → List DataValue → Values → Result Bool
  judged ss vs us = on_values us (λ ws. Ok (same_values ss a vs b ws))

  pub record Later (ws us : Values) (vs : List DataValue) (d : Result DataValue) : Type 0 where
    pub values : List DataValue
    pub firsts : ws ≡ Ok values
    pub rest : judged ts values us ≡ judged (t ∷ ts) vs (on_column d us)

  abbrev content : DataValue → DataValue → Bool
  content v w = same_content (length_of t) v (text_of a v) w (text_of b w)

  same_later : (v : DataValue) (vs : List DataValue) (w : DataValue) (us : Values) → content v w ≡ true
      → judged ts vs us ≡ judged (t ∷ ts) (v ∷ vs) (on_column (Ok w) us)
  same_later v vs w (Ok ws) e = rw e
  same_later v vs w (Err r) e = refl

  other_later : (v : DataValue) (vs : List DataValue) (w : DataValue) (us : Values) → content v w ≡ false
      → read_all false us ≡ judged (t ∷ ts) (v ∷ vs) (on_column (Ok w) us)
  other_later v vs w (Ok ws) e = rw e
  other_later v vs w (Err r) e = refl

  module _ (us : Values) {vs : List DataValue} where
    pub column-refused : (c d : Result DataValue) (ws : Values) → on_column c ws ≡ Ok vs → {e : Refusal}
        → compared t a c b d ≡ Err e → Err e ≡ judged (t ∷ ts) vs (on_column d us)
    column-refused (Err r) d ws h k = absurd (subst AllRead (sym h) tt)
    column-refused (Ok v) (Err r) ws h k = sym k
    column-refused (Ok v) (Ok w) ws h k = absurd (let z : ◌≡◌ {A = ℕ} 0 1 = cc in omega arith)

    pub column_other : (c d : Result DataValue) (ws : Values) → on_column c ws ≡ Ok vs → compared t a c b d ≡ Ok false
        → read_all false us ≡ judged (t ∷ ts) vs (on_column d us)
    column_other (Err r) d ws h k = absurd (subst AllRead (sym h) tt)
    column_other (Ok v) (Err r) ws h k = absurd (let z : ◌≡◌ {A = ℕ} 0 1 = cc in omega arith)
    column_other (Ok v) (Ok w) (Err r) h k = absurd (subst AllRead (sym h) tt)
    column_other (Ok v) (Ok w) (Ok xs) h k =
        let e : v ∷ xs ≡ vs = cc in
        let f : content v w ≡ false = cc in
        rw (← e) (other_later v xs w us f)

    pub column-same : (c d : Result DataValue) (ws : Values) → on_column c ws ≡ Ok vs → compared t a c b d ≡ Ok true
        → Later ws us vs d
    column-same (Err r) d ws h k = absurd (subst AllRead (sym h) tt)
    column-same (Ok v) (Err r) ws h k = absurd (let z : ◌≡◌ {A = ℕ} 0 1 = cc in omega arith)
    column-same (Ok v) (Ok w) (Err r) h k = absurd (subst AllRead (sym h) tt)
    column-same (Ok v) (Ok w) (Ok xs) h k =
        let e : v ∷ xs ≡ vs = cc in
        let f : content v w ≡ true = cc in
        record { values = xs; firsts = refl; rest = rw (← e) (same_later v xs w us f) }
