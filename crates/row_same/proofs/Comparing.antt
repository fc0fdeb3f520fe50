-- The walk that compares two rows: the columns that are left decide, while all were the same so far.
use Rattle.error.specs.Result.{Result}
use Rattle.std.specs.Prelude.{Err, Ok}
use Prim.Native.Nat.{ℕ, ◌+◌, ◌≤◌, ◌<◌}
use mathlib.Core.Path.{◌≡◌, refl, sym, ap, ◌∙◌}
use mathlib.Core.Bool.{Bool, true, false}
use mathlib.Core.List.{List, [], ◌∷◌}
use native.Mathlib.Omega.{arith}
use lib.ListN.{length, drop, drop_of_length-le}
use Rattle.error.specs.declared.Refusal.{Refusal}
use Rattle.row_layout.specs.declared.RowLayout.{RowLayout}
use Rattle.row_layout.specs.InnerLayout.{Bounded, no_columns, with_column}
use Rattle.datatype.specs.declared.DataType.{DataType}
use Rattle.datatype.specs.declared.Step.{Step}
use Rattle.datatype.specs.Types.{shape_of}
use Rattle.datatype.specs.Schema.{column_record_at}
use Rattle.datatype.specs.InnerSteps.{type_in, passed}
use Rattle.datatype.specs.Check.{types_in}
use Rattle.datatype.proofs.Again.{Ahead, ahead-start, ahead-end, ahead-split, ahead-column, ahead_step, step_is}
use Rattle.value.specs.declared.DataValue.{DataValue}
use Rattle.value_list.specs.Lists.{Values}
use Rattle.row_column.specs.InnerWalk.{Framed, walked_column, Reachable}
use Rattle.row_column.proofs.Reach.{reach-next}
use Rattle.row_decode.specs.Read.{on_column}
use Rattle.row_decode.specs.InnerWalk.{walked_read}
use Rattle.row_reads.specs.InnerReads.{read_all}
use Rattle.row_same.specs.Rows.{same_values, on_values}
use Rattle.row_same.specs.InnerWalk.{compared, walked_all, both_read, AllRead}
use Rattle.row_same.specs.InnerStored.{stored_alike, Beside}
use Rattle.row_same.proofs.Alike.{beside, stored-alike}
use Rattle.row_same.proofs.Compared.{reads_first, column-refused, column_other, column-same}

module _ (s : List ℕ) where
  -- the columns of a row r with layout l that come after those of layout x, and the whole answer
  abbrev pub left : RowLayout → Bool → List ℕ → RowLayout → Values
  left l p r x = walked_read l p (λ i. true) r x (drop x.num_columns (types_in s))

  abbrev pub whole : RowLayout → Bool → List ℕ → RowLayout → Bool → List ℕ → Result Bool
  whole l p a m q b = both_read (types_in s) a (walked_all (types_in s) l a p) b (walked_all (types_in s) m b q)

pub record Comparing (s : List ℕ) (l : RowLayout) (p : Bool) (a : List ℕ) (m : RowLayout) (q : Bool) (b : List ℕ)
    (x : RowLayout) (at : ℕ) : Type 0 where
  pub walk : Ahead s x at
  pub values : List DataValue
  pub firsts : left s l p a x ≡ Ok values
  pub rest : on_values (left s m q b x) (λ us. Ok (same_values (drop x.num_columns (types_in s)) a values b us))
      ≡ whole s l p a m q b

module _ {s : List ℕ} {l : RowLayout} {p : Bool} {a : List ℕ} {m : RowLayout} {q : Bool} {b : List ℕ} where
  pub compare_start : Framed s l p a → AllRead (walked_all (types_in s) l a p) → Comparing s l p a m q b no_columns 0
  compare_start d h = of (walked_all (types_in s) l a p) refl h
    where
      of : (ws : Values) → walked_all (types_in s) l a p ≡ ws → AllRead ws → Comparing s l p a m q b no_columns 0
      of (Ok vs) e h =
          record {
            walk = ahead-start d.accepted.schema;
            values = vs;
            firsts = e;
            rest = sym (ap (λ (ws : Values). both_read (types_in s) a ws b (walked_all (types_in s) m b q)) e);
          }
      of (Err r) e h = absurd h

  module _ {x : RowLayout} {at : ℕ} (k : Comparing s l p a m q b x at) where
    pub compare_end : length s ≤ at → Ok true ≡ whole s l p a m q b
    compare_end h =
        let n : x.num_columns ≡ length (types_in s) = ahead-end k.walk h in
        let none : drop x.num_columns (types_in s) ≡ [] =
        drop_of_length-le (types_in s) {i = x.num_columns} (omega (arith, n)) in
        rw none at k.rest

    module _ (h : at < length s) where
      -- the column that the walk has come to, and those after it
      abbrev t : DataType
      t = type_in (column_record_at s at)

      abbrev next : RowLayout
      next = with_column x (shape_of t)

      abbrev types : List DataType
      types = drop (x.num_columns + 1) (types_in s)

      abbrev later : RowLayout → Bool → List ℕ → Values
      later n o r = walked_read n o (λ i. true) r next types

      abbrev first : Result DataValue
      first = walked_column l p x t a

      abbrev second : Result DataValue
      second = walked_column m q x t b

      split : drop x.num_columns (types_in s) ≡ t ∷ types
      split = let n = ahead-column k.walk h in rw (ap type_in n.is) (ahead-split k.walk h n.is)

      firsts : on_column first (later l p a) ≡ Ok k.values
      firsts = rw split at k.firsts

      rest : on_values (on_column second (later m q b)) (λ us. Ok (same_values (t ∷ types) a k.values b us))
          ≡ whole s l p a m q b
      rest = rw split at k.rest

      pub compare_bad : {e : Refusal} → compared t a first b second ≡ Err e → Err e ≡ whole s l p a m q b
      compare_bad c = column-refused t types a b (later m q b) first second (later l p a) firsts c ∙ rest

      module _ {y : Step} (e : y ≡ passed at x (column_record_at s at)) where
        after_is : y.before ≡ next
        after_is =
            let n = ahead-column k.walk h in
            rw (ap type_in n.is) (ap (λ (z : Step). z.before) (step_is k.walk h e))

        left_is : (n : RowLayout) (o : Bool) (r : List ℕ) → left s n o r y.before ≡ later n o r
        left_is n o r = rw after_is

        pub compare_other : compared t a first b second ≡ Ok false
            → read_all false (left s m q b y.before) ≡ whole s l p a m q b
        compare_other c =
            ap (read_all false) (left_is m q b)
            ∙ column_other t types a b (later m q b) first second (later l p a) firsts c ∙ rest

        pub compare_more : Bounded y.before → compared t a first b second ≡ Ok true
            → Comparing s l p a m q b y.before y.at
        compare_more small c =
            let n = column-same t types a b (later m q b) first second (later l p a) firsts c in
            record {
              walk = ahead_step k.walk h e small;
              values = n.values;
              firsts = left_is l p a ∙ n.firsts;
              rest = rw after_is (n.rest ∙ rest);
            }

        module _ (f : Framed s l p a) (g : Framed s m q b) where
          reach : {n : RowLayout} {o : Bool} {r : List ℕ} → Framed s n o r → Reachable n o x t r
          reach d = let n = ahead-column k.walk h in rw (ap type_in n.is) (reach-next d k.walk h n.is)

          pub compare_beside : Beside x y.before l p a × Beside x y.before m q b
          compare_beside = (beside x t (reach f) after_is, beside x t (reach g) after_is)

          pub compare_stored : stored_alike x y.before l p a m q b ≡ true → compared t a first b second ≡ Ok true
          compare_stored c =
              stored-alike x t (reach f) (reach g) (rw after_is at c)
              (reads_first first (later l p a) firsts)
