-- A list that was written is read back, and the values of a list fit records.
use Rattle.std.specs.Prelude.{Err, Ok}
use Prim.Native.Nat.{ℕ, zero, suc, ◌+◌, ◌≤◌, ◌<◌}
use mathlib.Core.Path.{◌≡◌, refl, sym, ap, ◌∙◌}
use mathlib.Core.Bool.{Bool, true, false, cond}
use mathlib.Core.List.{List, [], ◌∷◌, ◌++◌, append_assoc}
use native.Mathlib.Omega.{arith}
use borrow.Author.Tests.{lt-ltb, le-ltb, eq-eqb, eqb-true, ltb-false}
use lib.Dec.{eqb, ltb}
use lib.ListN.{length, length-append}
use Rattle.row_format.specs.Places.{row_limit}
use Rattle.error.specs.declared.Refusal.{Refusal}
use Rattle.error.specs.declared.Refusal.TheVariants.{BadValueList}
use Rattle.error.specs.Result.{before, Result}
use Rattle.laws.proofs.Bytes.{AllBytes}
use Rattle.laws.proofs.Truths.{cases}
use Rattle.value.specs.declared.DataValue.{DataValue}
use Rattle.value_list.specs.Records.{record_of, record_at}
use Rattle.value_list.specs.Lists.{Values, on_record, records, values_of, judged, checked, list_of}
use Rattle.value_list.specs.Forms.{ListOf, empty, prepend}
use Rattle.value_list.proofs.Records.{record_least, record_read, value-sized, range_narrow, narrow_range}
use Rattle.value_list.specs.InnerLists.{AllSized, AllNarrow}

-- ---- written, then read

list_least : {vs : List DataValue} {list : List ℕ} → ListOf vs list → length vs ≤ length list
list_least empty = omega arith
list_least (prepend k v {vs} {list} f g l) =
    let ih = list_least l in rw (length-append (record_of k v) list) (omega (arith, record_least k v))

records-read : {vs : List DataValue} {list : List ℕ} → ListOf vs list → (n : ℕ) → length vs ≤ n → (us : List ℕ) (at : ℕ) → length us ≡ at → records n (us ++ list) at ≡ Ok vs
records-read empty zero h us at e = refl
records-read empty (suc n) h us at e = rw (le-ltb at (length (us ++ [])) (rw length-append (omega arith)))
records-read (prepend k v f g l) zero h us at e = absurd (omega arith)
records-read (prepend k v {vs} {list} f g l) (suc n) h us at e =
    let s = us ++ (record_of k v ++ list) in
    let past = at + length (record_of k v) in
    let more : at < length s = rw (length-append us (record_of k v ++ list), length-append (record_of k v) list) (omega (arith, record_least k v)) in
    let there : length (us ++ record_of k v) ≡ past = length-append us (record_of k v) ∙ ap (λ (m : ℕ). m + length (record_of k v)) e in
    let rest : records n s past ≡ Ok vs =
    ap (λ (x : List ℕ). records n x past) (sym (append_assoc us (record_of k v) list)) ∙ records-read l n (omega arith) (us ++ record_of k v) past there in
    rw (lt-ltb at (length s) more) (ap (λ r. on_record r (records n s)) (record_read us list at e k v f (range_narrow k v g)) ∙ ap (before v) rest)

-- a list of values gives these back, in whatever form their ranges are
pub list_read_lem : {vs : List DataValue} {list : List ℕ} → ListOf vs list → values_of list ≡ Ok vs
unfolding values_of
list_read_lem {vs} {list} l = records-read l (length list) (list_least l) [] 0 refl

-- one that was written for rows of a sort has all of them in one form
written : (k : Bool) (vs : List DataValue) → AllSized vs → AllNarrow k vs → ListOf vs (list_of k vs)
written k [] f g = empty
written k (v ∷ vs) f g = prepend k v f.0 (narrow_range k v g.0) (written k vs f.1 g.1)

pub values-read : (k : Bool) (vs : List DataValue) → AllSized vs → AllNarrow k vs → values_of (list_of k vs) ≡ Ok vs
values-read k vs f g = list_read_lem (written k vs f g)

-- so a list of n values, written for rows of one sort or the other, is taken beside any text area that is not too long
pub list-checked : (k t : Bool) (n area : ℕ) (vs : List DataValue) → AllSized vs → AllNarrow t vs → length vs ≡ n → area ≤ row_limit k → checked k n area (list_of t vs) ≡ Ok vs
list-checked k t n area vs f g e h = ap (judged k n area (length (list_of t vs))) (values-read t vs f g) ∙ rw (eq-eqb (length vs) n e, le-ltb (row_limit k) area h)

-- ---- what a list that is taken says

refused_none : {r : Refusal} {vs : List DataValue} → ◌≡◌ {A = Result (List DataValue)} (Err r) (Ok vs) → ⊥
refused_none p = let z : ◌≡◌ {A = ℕ} 0 1 = cc in omega arith

empty-none : {v : DataValue} {vs : List DataValue} → ◌≡◌ {A = Result (List DataValue)} (Ok []) (Ok (v ∷ vs)) → ⊥
empty-none p = let z : ◌≡◌ {A = ℕ} 0 1 = cc in omega arith

-- the first record of those from a place on
pub record First (n : ℕ) (s : List ℕ) (at : ℕ) (v : DataValue) (vs : List DataValue) : Type 0 where
  pub next : ℕ
  pub within : at < length s
  pub first : record_at s at ≡ Ok (v, next)
  pub rest : records n s next ≡ Ok vs

pub records_first : (n : ℕ) (s : List ℕ) (at : ℕ) {v : DataValue} {vs : List DataValue} → records (suc n) s at ≡ Ok (v ∷ vs) → First n s at v vs
records_first n s at {v} {vs} e =
    cases at (length s) (λ h. of_record (record_at s at) refl h (rw (lt-ltb at (length s) h) at e))
    (λ h. absurd (empty-none (rw (le-ltb at (length s) h) at e)))
  where
    of_rest : (u : DataValue) (next : ℕ) (q : Values) → records n s next ≡ q → record_at s at ≡ Ok (u, next) → at < length s → before u q ≡ Ok (v ∷ vs) → First n s at v vs
    of_rest u next (Ok us) f g h p =
        let head : u ≡ v = cc in
        let tail : us ≡ vs = cc in
        record { next = next; within = h; first = rw head at g; rest = f ∙ ap Ok tail }
    of_rest u next (Err r) f g h p = absurd (refused_none p)

    of_record : (q : Result (DataValue × ℕ)) → record_at s at ≡ q → at < length s → on_record q (records n s) ≡ Ok (v ∷ vs) → First n s at v vs
    of_record (Ok (u, next)) g h p = of_rest u next (records n s next) refl g h p
    of_record (Err r) g h p = absurd (refused_none p)

records-sized : (n : ℕ) (s : List ℕ) (at : ℕ) (vs : List DataValue) → AllBytes s → records n s at ≡ Ok vs → AllSized vs
records-sized n s at [] a e = tt
records-sized zero s at (v ∷ vs) a e = absurd (empty-none e)
records-sized (suc n) s at (v ∷ vs) a e = let f = records_first n s at e in (value-sized s at a f.first, records-sized n s f.next vs a f.rest)

pub values-sized : (s : List ℕ) {vs : List DataValue} → AllBytes s → values_of s ≡ Ok vs → AllSized vs
unfolding values_of
values-sized s {vs} a e = records-sized (length s) s 0 vs a e

-- a list that is taken has n values, and its text area is not too long
pub record Taken (k : Bool) (n area : ℕ) (s : List ℕ) (vs : List DataValue) : Type 0 where
  pub all : values_of s ≡ Ok vs
  pub count : length vs ≡ n
  pub short : area ≤ row_limit k

pub checked-taken : (k : Bool) (n area : ℕ) (s : List ℕ) {vs : List DataValue} → checked k n area s ≡ Ok vs → Taken k n area s vs
checked-taken k n area s {vs} e = of_values (values_of s) refl e
  where
    judge : (us : List DataValue) → values_of s ≡ Ok us → (t u : Bool) → eqb (length us) n ≡ t → ltb (row_limit k) area ≡ u
        → cond t (cond u (Err (BadValueList 0)) (Ok us)) (Err (BadValueList (length s))) ≡ Ok vs → Taken k n area s vs
    judge us f true false c l p =
        let same : us ≡ vs = cc in
        record { all = f ∙ ap Ok same; count = rw same at (eqb-true (length us) n c); short = ltb-false (row_limit k) area l }
    judge us f true true c l p = absurd (refused_none p)
    judge us f false u c l p = absurd (refused_none p)

    of_values : (q : Values) → values_of s ≡ q → judged k n area (length s) q ≡ Ok vs → Taken k n area s vs
    of_values (Ok us) f p = judge us f (eqb (length us) n) (ltb (row_limit k) area) refl refl p
    of_values (Err r) f p = absurd (refused_none p)
