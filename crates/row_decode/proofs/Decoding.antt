-- The walk that decodes a row: what was written, and what the columns that are left add to it.
use Rattle.std.specs.Prelude.{Err, Ok}
use Prim.Native.Nat.{ℕ, ◌+◌, ◌*◌, ◌≤◌, ◌<◌}
use mathlib.Core.Path.{◌≡◌, refl, sym, ap, ◌∙◌, subst}
use mathlib.Core.Bool.{Bool}
use mathlib.Core.List.{List, [], ◌∷◌, ◌++◌, map, append-nil, append_assoc, map-append}
use native.Mathlib.Nat.{zero-add}
use native.Mathlib.Omega.{arith}
use lib.ListN.{length, drop, set, length-append, length-map, drop_of_length-le}
use lib.Seq.{sets, length-sets}
use Rattle.error.specs.declared.Refusal.{Refusal}
use Rattle.error.specs.Result.{before, Result}
use Rattle.laws.proofs.Stores.{sets-append}
use Rattle.row_layout.specs.declared.RowLayout.{RowLayout}
use Rattle.row_layout.specs.InnerLayout.{Bounded, no_columns, with_column}
use Rattle.datatype.specs.declared.DataType.{DataType}
use Rattle.datatype.specs.declared.Step.{Step}
use Rattle.datatype.specs.Types.{shape_of}
use Rattle.datatype.specs.Schema.{column_record_at}
use Rattle.datatype.specs.Check.{type_at, types_in}
use Rattle.datatype.specs.InnerSteps.{passed}
use Rattle.datatype.proofs.Again.{columns-all, Ahead, ahead-start, ahead-end, ahead-few, ahead-good, ahead-inside, ahead_type, ahead-split, ahead_more, ahead-column, ahead-typed, step_is}
use Rattle.value.specs.declared.DataValue.{DataValue}
use Rattle.value_list.specs.Records.{record_of}
use Rattle.value_list.specs.Lists.{Values, list_of}
use Rattle.value_list.proofs.Records.{record_short}
use Rattle.row_column.specs.InnerWalk.{walked_column}
use Rattle.row_column.proofs.Reach.{reach-typed}
use Rattle.row_decode.specs.Read.{wanted_value}
use Rattle.row_decode.specs.InnerWalk.{walked_read}
use Rattle.row_decode.specs.InnerMarks.{is_marked, Decodable, Filled}
use Rattle.stored_form.specs.Points.{points_in}
use Rattle.column_decode.specs.InnerColumn.{stepped, DecodeAt}

-- ---- values in front of others

abbrev prepend : List DataValue → Values → Values
prepend vs (Ok ws) = Ok (vs ++ ws)
prepend vs (Err e) = Err e

prepend_next : (vs : List DataValue) (v : DataValue) (ws : Values) → prepend (vs ++ (v ∷ [])) ws ≡ prepend vs (before v ws)
prepend_next vs v (Ok ws) = ap Ok (append_assoc vs (v ∷ []) ws)
prepend_next vs v (Err e) = refl

list-append : (k : Bool) (vs ws : List DataValue) → list_of k (vs ++ ws) ≡ list_of k vs ++ list_of k ws
list-append k [] ws = refl
list-append k (v ∷ vs) ws = rw (list-append k vs ws, append_assoc)

list-one : (k : Bool) (vs : List DataValue) (v : DataValue) → list_of k (vs ++ (v ∷ [])) ≡ list_of k vs ++ record_of k v
list-one k vs v = list-append k vs (v ∷ []) ∙ rw (append-nil (record_of k v))

-- ---- the walk

pub record Decoding (s : List ℕ) (l : RowLayout) (p : Bool) (r marks buf₀ points₀ buf points : List ℕ) (b : RowLayout) (at end : ℕ) : Type 0 where
  pub walk : Ahead s b at
  pub done : List DataValue
  pub rest : prepend done (walked_read l p (is_marked marks) r b (drop b.num_columns (types_in s))) ≡ walked_read l p (is_marked marks) r no_columns (types_in s)
  pub written : buf ≡ sets buf₀ 0 (list_of l.is_long done)
  pub so_far : end ≡ length (list_of l.is_long done)
  pub few : end ≤ 18 * b.num_columns
  pub many : length done ≡ b.num_columns
  pub counted : points ≡ sets points₀ 0 (map (points_in r) done)

front : (vs : Values) → prepend [] vs ≡ vs
front (Ok vs) = refl
front (Err e) = refl

module _ {s : List ℕ} {l : RowLayout} {p : Bool} {r marks buf points : List ℕ} where
  pub decode_start : Decodable s l p r marks buf points → Decoding s l p r marks buf points buf points no_columns 0 0
  decode_start d =
      record {
        walk = ahead-start d.framed.accepted.schema;
        done = [];
        rest = front (walked_read l p (is_marked marks) r no_columns (types_in s));
        written = refl;
        so_far = refl;
        few = omega arith;
        many = refl;
        counted = refl;
      }

-- what an answer of Done says
abbrev wrote : Result (ℕ × ℕ) → ℕ
wrote (Ok (n, m)) = n
wrote (Err e) = 0

abbrev count : Result (ℕ × ℕ) → ℕ
count (Ok (n, m)) = m
count (Err e) = 0

abbrev refusal : Result (ℕ × ℕ) → Result ℕ
refusal (Ok (n, m)) = Ok n
refusal (Err e) = Err e

abbrev IsDone : Result (ℕ × ℕ) → Type 0
IsDone (Ok (n, m)) = Unit {0}
IsDone (Err e) = ⊥

module _ {s : List ℕ} {l : RowLayout} {p : Bool} {r marks buf₀ points₀ buf points : List ℕ} {b : RowLayout} {at end : ℕ}
    (d : Decodable s l p r marks buf₀ points₀) (k : Decoding s l p r marks buf₀ points₀ buf points b at end) where
  pub decode_size : length buf ≡ length buf₀
  decode_size = rw (k.written, length-sets)

  pub decode_numbers : length points ≡ length points₀
  decode_numbers = rw (k.counted, length-sets)

  -- no record is left
  pub decode_end : length s ≤ at → Filled l.is_long r l.num_columns (walked_read l p (is_marked marks) r no_columns (types_in s)) buf₀ points₀ (Ok end) buf points
  decode_end h =
      let n : b.num_columns ≡ length (types_in s) = ahead-end k.walk h in
      let none : drop b.num_columns (types_in s) ≡ [] = drop_of_length-le (types_in s) {i = b.num_columns} (omega (arith, n)) in
      let all : Ok k.done ≡ walked_read l p (is_marked marks) r no_columns (types_in s) = rw (none, append-nil) at k.rest in
      subst (λ (vs : Values). Filled l.is_long r l.num_columns vs buf₀ points₀ (Ok end) buf points) all
      (record {
        done = ap Ok k.so_far;
        written = k.written;
        room = rw (← k.so_far) (omega (arith, k.few, n, columns-all d.framed.accepted, d.room));
        counted = k.counted;
        many = k.many ∙ n ∙ sym (columns-all d.framed.accepted);
        numbers = d.numbers;
      })

  module _ (h : at < length s) {t : DataType} {next : ℕ} (e : column_record_at s at ≡ Ok (t, next)) where
    pub decode_room : end + 18 ≤ length buf
    decode_room = rw decode_size (omega (arith, k.few, ahead-inside k.walk h e, columns-all d.framed.accepted, d.room))

    decode_count : b.num_columns < length points
    decode_count = rw decode_numbers (omega (arith, ahead-inside k.walk h e, columns-all d.framed.accepted, d.numbers))

    split : drop b.num_columns (types_in s) ≡ t ∷ drop (b.num_columns + 1) (types_in s)
    split = ahead-split k.walk h e

    module _ (res : Result (ℕ × ℕ)) (buf' : List ℕ) (x : Result DataValue) (is : wanted_value (is_marked marks b.num_columns) (walked_column l p b t r) ≡ x) (o : (res, buf') ≡ stepped l.is_long buf end (points_in r) x) where
      pub decode_more : {n m : ℕ} → res ≡ Ok (n, m) → Bounded (with_column b (shape_of t)) → Decoding s l p r marks buf₀ points₀ buf' (set points b.num_columns m) (with_column b (shape_of t)) next n
      decode_more {n} {m} f small = more x is o f
        where
          more : (y : Result DataValue) → wanted_value (is_marked marks b.num_columns) (walked_column l p b t r) ≡ y → (res, buf') ≡ stepped l.is_long buf end (points_in r) y → res ≡ Ok (n, m)
              → Decoding s l p r marks buf₀ points₀ buf' (set points b.num_columns m) (with_column b (shape_of t)) next n
          more (Err q) i j g = absurd (subst IsDone (sym g ∙ ap (λ (z : Result (ℕ × ℕ) × List ℕ). z.0) j) tt)
          more (Ok v) i j g =
              let o : n ≡ end + length (record_of l.is_long v) = ap wrote (sym g ∙ ap (λ (z : Result (ℕ × ℕ) × List ℕ). z.0) j) in
              let u : m ≡ points_in r v = ap count (sym g ∙ ap (λ (z : Result (ℕ × ℕ) × List ℕ). z.0) j) in
              let c : buf' ≡ sets buf end (record_of l.is_long v) = ap (λ (z : Result (ℕ × ℕ) × List ℕ). z.1) j in
              record {
                walk = ahead_more k.walk h e small;
                done = k.done ++ (v ∷ []);
                rest = prepend_next k.done v (walked_read l p (is_marked marks) r (with_column b (shape_of t)) (drop (b.num_columns + 1) (types_in s))) ∙ rw (split, i) at k.rest;
                written = c ∙ rw (k.written, k.so_far, list-one, sets-append, zero-add);
                so_far = rw (o, k.so_far, list-one, length-append);
                few = rw o (omega (arith, k.few, record_short l.is_long v));
                many = rw length-append (omega (arith, k.many));
                counted = rw (u, k.counted, map-append, sets-append, length-map, k.many, zero-add);
              }

      pub decode_bad : {q : Refusal} → res ≡ Err q → Filled l.is_long r l.num_columns (walked_read l p (is_marked marks) r no_columns (types_in s)) buf₀ points₀ (Err q) buf' points
      decode_bad {q} f = bad x is o f
        where
          bad : (y : Result DataValue) → wanted_value (is_marked marks b.num_columns) (walked_column l p b t r) ≡ y → (res, buf') ≡ stepped l.is_long buf end (points_in r) y → res ≡ Err q
              → Filled l.is_long r l.num_columns (walked_read l p (is_marked marks) r no_columns (types_in s)) buf₀ points₀ (Err q) buf' points
          bad (Ok v) i j g = absurd (subst IsDone (sym (ap (λ (z : Result (ℕ × ℕ) × List ℕ). z.0) j) ∙ g) tt)
          bad (Err u) i j g =
              let all : Err u ≡ walked_read l p (is_marked marks) r no_columns (types_in s) = rw (split, i) at k.rest in
              subst (λ (vs : Values). Filled l.is_long r l.num_columns vs buf₀ points₀ (Err q) buf' points) all (ap refusal (sym g ∙ ap (λ (z : Result (ℕ × ℕ) × List ℕ). z.0) j))

-- ---- a step of the walk: the column whose record stands at `at`

module _ {s : List ℕ} {l : RowLayout} {p : Bool} {r marks buf₀ points₀ buf points : List ℕ} {b : RowLayout} {at end : ℕ}
    (d : Decodable s l p r marks buf₀ points₀) (k : Decoding s l p r marks buf₀ points₀ buf points b at end) (h : at < length s) where
  pub decode_at : DecodeAt s at l p b r buf end
  decode_at =
      record {
        here = h;
        few = ahead-few k.walk h;
        good = λ e f. ahead-good k.walk h f;
        typed = ahead-typed k.walk h;
        reach = reach-typed d.framed k.walk h;
        short = d.framed.short;
        room = decode_room d k h (ahead-column k.walk h).is;
      }

  pub count-inside : b.num_columns < length points
  count-inside = decode_count d k h (ahead-column k.walk h).is

  abbrev here : Result DataValue
  here = wanted_value (is_marked marks b.num_columns) (walked_column l p b (type_at (types_in s) b.num_columns) r)

  same : wanted_value (is_marked marks b.num_columns) (walked_column l p b (ahead-column k.walk h).ty r) ≡ here
  same = ap (λ (t : DataType). wanted_value (is_marked marks b.num_columns) (walked_column l p b t r)) (ahead_type k.walk h (ahead-column k.walk h).is)

  module _ (res : Result (ℕ × ℕ)) (buf' : List ℕ) (o : (res, buf') ≡ stepped l.is_long buf end (points_in r) here) where
    pub decode_next : {n m : ℕ} {q : Step} → res ≡ Ok (n, m) → q ≡ passed at b (column_record_at s at) → Bounded q.before → Decoding s l p r marks buf₀ points₀ buf' (set points b.num_columns m) q.before q.at n
    decode_next {n} {m} {q} f e small =
        let is = step_is k.walk h e in
        subst (λ (x : Step). Decoding s l p r marks buf₀ points₀ buf' (set points b.num_columns m) x.before x.at n) (sym is)
        (decode_more d k h (ahead-column k.walk h).is res buf' here same o f (subst (λ (x : Step). Bounded x.before) is small))

    pub decode_refused : {e : Refusal} → res ≡ Err e → Filled l.is_long r l.num_columns (walked_read l p (is_marked marks) r no_columns (types_in s)) buf₀ points₀ (Err e) buf' points
    decode_refused f = decode_bad d k h (ahead-column k.walk h).is res buf' here same o f
