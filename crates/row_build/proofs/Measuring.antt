-- The first pass: what was counted, and what the columns that are left add to it.
use Rattle.std.specs.Prelude.{Err, Ok}
use Prim.Native.Nat.{ℕ, ◌+◌, ◌*◌, ◌-◌, ◌≤◌, ◌<◌}
use mathlib.Core.Path.{◌≡◌, refl, sym, ap, ◌∙◌, subst}
use mathlib.Core.Bool.{Bool, true, false, cond}
use mathlib.Core.List.{List, [], ◌∷◌, map}
use native.Mathlib.Nat.{add-zero, add_assoc}
use native.Mathlib.Omega.{arith}
use lib.ListN.{length, get_or, drop, length-append, drop_of_length-le}
use Rattle.error.specs.declared.Refusal.{Refusal}
use Rattle.error.specs.Result.{Result, before}
use Rattle.row_format.specs.declared.Shape.{Shape}
use Rattle.row_format.specs.declared.Shape.TheVariants.{Fixed, Varlen}
use Rattle.row_format.specs.Places.{row_limit}
use Rattle.row_format.specs.Table.{Cell, bytes, payloads}
use Rattle.row_format.specs.Row.{varlen_cells}
use Rattle.row_format.proofs.Sorts.{table-le}
use Rattle.row_layout.specs.declared.RowLayout.{RowLayout}
use Rattle.row_layout.specs.InnerLayout.{minimum_of}
use Rattle.datatype.specs.declared.DataType.{DataType}
use Rattle.datatype.specs.Types.{size_of, alignment_of, is_varlen, shape_of}
use Rattle.datatype.specs.Check.{types_in}
use Rattle.datatype.proofs.Again.{columns-all}
use Rattle.datatype.proofs.Walk.{not_refused}
use Rattle.datatype.specs.InnerCheck.{Accepted}
use Rattle.value.specs.declared.DataValue.{DataValue}
use Rattle.value_list.specs.Records.{body_length}
use Rattle.value_list.specs.Lists.{values_of}
use Rattle.value_list.proofs.Records.{given}
use Rattle.record_slot.specs.Stored.{cell_in}
use Rattle.row_build.specs.Cells.{on_cell, cells_from}
use Rattle.record_slot.specs.InnerSteps.{length_at, Readable, after_column, payload_in, Given, ReadAt, payload_added, payload_answer, Short}
use Rattle.row_build.specs.InnerSteps.{values_given, values_in, Buildable, measured, Lengthed}
use Rattle.record_slot.proofs.Held.{some-length, no_length, read_at}
use Rattle.row_build.proofs.Prefix.{Prefix, prefix_start, prefix_next, prefix_more, prefix_end}
use Rattle.row_build.proofs.Walk.{Columns, column_there, columns-next, IsValue, readable, Together, together-start, types_split, values-split, together-next}

-- ---- a column more

payload_first : (t : DataType) (b : Bool) (ss : List Shape) (c : Cell) (cs : List Cell)
    → length (payloads (varlen_cells (cond b Varlen (Fixed (size_of t) (alignment_of t)) ∷ ss) (c ∷ cs))) ≡ cond b (length (bytes c)) 0 + length (payloads (varlen_cells ss cs))
payload_first t true ss c cs = length-append (bytes c) (payloads (varlen_cells ss cs))
payload_first t false ss c cs = omega arith

measured-more : (m : ℕ) (t : DataType) (ts : List DataType) (c : Cell) (q : Result (List Cell)) → measured m (t ∷ ts) (before c q) ≡ measured (m + payload_added t c) ts q
measured-more m t ts c (Ok cs) = ap Ok (ap (λ (n : ℕ). m + n) (payload_first t (is_varlen t) (map shape_of ts) c cs) ∙ sym (add_assoc m (payload_added t c) (length (payloads (varlen_cells (map shape_of ts) cs)))))
measured-more m t ts c (Err e) = refl

-- what an answer says
abbrev pub counted : Result ℕ → ℕ
counted (Ok n) = n
counted (Err e) = 0

abbrev pub IsDone : Result ℕ → Type 0
IsDone (Ok n) = Unit {0}
IsDone (Err e) = ⊥

module _ (m : ℕ) (t : DataType) (ts : List DataType) (rest : Result (List Cell)) where
  counted-more : {n : ℕ} (q : Result Cell) → payload_answer t q ≡ Ok n → measured m (t ∷ ts) (on_cell q rest) ≡ measured (m + n) ts rest
  counted-more (Ok c) e = measured-more m t ts c rest ∙ ap (λ (k : ℕ). measured (m + k) ts rest) (ap counted e)
  counted-more (Err u) e = absurd (subst IsDone (sym e) tt)

  counted_bad : {u : Refusal} (q : Result Cell) → payload_answer t q ≡ Err u → measured m (t ∷ ts) (on_cell q rest) ≡ Err u
  counted_bad (Ok c) e = absurd (subst IsDone e tt)
  counted_bad (Err u) e = e

-- ---- the walk

pub record Measuring (s : List ℕ) (l : RowLayout) (list area : List ℕ) (size i at from : ℕ) : Type 0 where
  pub walk : Together s list i at from
  pub rest : measured size (drop i (types_in s)) (cells_from i (drop i (types_in s)) (drop i (values_in list)) area) ≡ measured (minimum_of l true) (types_in s) (cells_from 0 (types_in s) (values_in list) area)
  pub bound : size ≤ minimum_of l true + 1048576 * i

module _ {s : List ℕ} {l : RowLayout} {list area : List ℕ} (b : Buildable s l list area) where
  pub measure_start : Measuring s l list area (minimum_of l true) 0 0 0
  measure_start = record { walk = together-start b; rest = refl; bound = omega arith }

  -- a column that is left
  pub left : {i : ℕ} → i < l.num_columns → i < length (types_in s)
  left h = omega (arith, columns-all b.accepted)

  module _ {size i at from : ℕ} (k : Measuring s l list area size i at from) where
    pub measure_end : l.num_columns ≤ i → Ok size ≡ measured (minimum_of l true) (types_in s) (cells_from 0 (types_in s) (values_in list) area)
    measure_end h =
        let none : drop i (types_in s) ≡ [] = drop_of_length-le (types_in s) {i = i} (omega (arith, columns-all b.accepted)) in
        rw (none, add-zero) at k.rest

    module _ (h : i < length (types_in s)) {g : Given} (r : ReadAt s at list from g) (res : Result ℕ) (e : res ≡ payload_answer g.ty (cell_in i g.ty g.value area)) where
      abbrev others : Result (List Cell)
      others = cells_from (i + 1) (drop (i + 1) (types_in s)) (drop (i + 1) (values_in list)) area

      next : measured size (g.ty ∷ drop (i + 1) (types_in s)) (on_cell (cell_in i g.ty g.value area) others) ≡ measured (minimum_of l true) (types_in s) (cells_from 0 (types_in s) (values_in list) area)
      next = rw (types_split b k.walk h r, values-split b k.walk h r) at k.rest

      pub measure_bad : {u : Refusal} → res ≡ Err u → Err u ≡ measured (minimum_of l true) (types_in s) (cells_from 0 (types_in s) (values_in list) area)
      measure_bad f = sym (counted_bad size g.ty (drop (i + 1) (types_in s)) others (cell_in i g.ty g.value area) (sym e ∙ f)) ∙ next

      pub measure_more : {n : ℕ} → res ≡ Ok n → Short res → Measuring s l list area (size + n) (i + 1) g.next_type g.next-value
      measure_more {n} f short =
          let few : n ≤ 1048576 = rw f at short in
          record {
            walk = together-next b k.walk h r;
            rest = sym (counted-more size g.ty (drop (i + 1) (types_in s)) others (cell_in i g.ty g.value area) (sym e ∙ f)) ∙ next;
            bound = omega (arith, k.bound);
          }

-- ---- the walk while it is not known whether the list is good

values_are : (list : List ℕ) {vs : List DataValue} → values_of list ≡ Ok vs → values_in list ≡ vs
unfolding values_in
values_are list g = ap values_given g

pub record Walking (s : List ℕ) (l : RowLayout) (list area : List ℕ) (size i at from : ℕ) : Type 0 where
  pub told : Buildable s l list area → Measuring s l list area size i at from
  pub side : Columns s i at
  pub prefix : Prefix list i from
  pub bound : size ≤ minimum_of l true + 1048576 * i
  pub short : length area ≤ row_limit l.is_long

module _ {s : List ℕ} {l : RowLayout} (a : Accepted s l) {list area : List ℕ} where
  pub walk_start : length area ≤ row_limit l.is_long → Walking s l list area (minimum_of l true) 0 0 0
  walk_start h =
      record {
        told = λ b. measure_start b;
        side = record { within = omega arith; columns = a.schema };
        prefix = prefix_start list;
        bound = omega arith;
        short = h;
      }

  module _ {size i at from : ℕ} (k : Walking s l list area size i at from) where
    module _ (c : i < l.num_columns) {z : ℕ} (e : z ≡ length_at list from) where
      h : i < length (types_in s)
      h = omega (arith, c, columns-all a)

      -- a good list has a record here
      pub walk_none : z ≡ 0 → Buildable s l list area → ⊥
      walk_none n b = let r = readable b (k.told b).walk h in r.value_there (no_length list from e n r.value)

      module _ (n : z ≡ 0 → ⊥) where
        pub walk_readable : Readable s at list from
        walk_readable =
            let w = some-length list from e n in
            record {
              column = column_there k.side h;
              type_there = λ f. not_refused s at (256 - i) k.side.columns (column_there k.side h) f;
              value = w.0;
              value_there = λ f. subst IsValue (sym w.1.0.value ∙ f) tt;
            }

        module _ (res : Result ℕ) (f : res ≡ payload_in i s at list from area) where
          pub walk_bad : {u : Refusal} → res ≡ Err u → Buildable s l list area → Err u ≡ measured (minimum_of l true) (types_in s) (cells_from 0 (types_in s) (values_in list) area)
          walk_bad g b = measure_bad b (k.told b) h (read_at walk_readable) res f g

          module _ {m : ℕ} (g : res ≡ Ok m) (short : Short res) where
            few : m ≤ 1048576
            few = rw g at short

            -- far from the machine's limit
            pub walk_room : size + m ≤ 400000000
            walk_room =
                let b = a.bounded in
                let table = table-le l.is_long l.num_varlen_cols (omega (arith, b.few, b.ranked)) in
                omega (arith, few, k.bound, h, columns-all a, b.few, b.tight, table)

            pub walk_more : Walking s l list area (size + m) (i + 1) (after_column s at) (from + z)
            walk_more =
                let w = (some-length list from e n).1 in
                let next : from + z ≡ from + 1 + body_length (get_or list from 0) = rw w.1 (given list from w.0.value).place in
                record {
                  told = λ b. rw next (measure_more b (k.told b) h (read_at walk_readable) res f g short);
                  side = columns-next k.side h (read_at walk_readable).type_is;
                  prefix = rw w.1 (prefix_next k.prefix walk_readable.value w.0.value (omega (arith, w.0.some)) w.0.within);
                  bound = omega (arith, few, k.bound);
                  short = k.short;
                }

    module _ (c : l.num_columns ≤ i) where
      -- a good list has no record more
      pub walk_left : (from ≡ length list → ⊥) → Buildable s l list area → ⊥
      walk_left n b =
          let m = prefix_more k.prefix (omega (arith, n, k.prefix.inside)) b.taken in
          omega (arith, m, c, b.count, columns-all a)

      pub walk_end : from ≡ length list → Lengthed s l list area (Ok size)
      walk_end e =
          let t = prefix_end k.prefix e in
          let same : values_in list ≡ k.prefix.done = values_are list t in
          record {
            good = λ b. measure_end b (k.told b) c;
            done = λ f. record {
              accepted = a;
              taken = t ∙ ap Ok (sym same);
              count = rw same (k.prefix.count ∙ omega (arith, c, k.side.within, columns-all a));
              short = k.short;
            };
          }

  pub no_length-told : {r : Refusal} → (Buildable s l list area → ⊥) → Lengthed s l list area (Err r)
  no_length-told n = record { good = λ b. absurd (n b); done = λ f. absurd (subst IsDone (sym f) tt) }

  pub bad_told : {r : Refusal} → (Buildable s l list area → Err r ≡ measured (minimum_of l true) (types_in s) (cells_from 0 (types_in s) (values_in list) area)) → Lengthed s l list area (Err r)
  bad_told n = record { good = n; done = λ f. absurd (subst IsDone (sym f) tt) }
