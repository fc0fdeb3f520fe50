-- The walk over the columns: the columns that are left decide.
use Rattle.std.specs.Prelude.{Ok}
use Prim.Native.Nat.{ℕ, ◌≤◌, ◌<◌}
use mathlib.Core.Path.{◌≡◌, refl, sym, ap, subst}
use mathlib.Core.Bool.{Bool, true, false}
use mathlib.Core.List.{List, []}
use native.Mathlib.Omega.{arith}
use lib.ListN.{length, drop, drop_of_length-le}
use Rattle.row_layout.specs.declared.RowLayout.{RowLayout}
use Rattle.row_layout.specs.InnerLayout.{Bounded, no_columns, with_column}
use Rattle.datatype.specs.declared.DataType.{DataType}
use Rattle.datatype.specs.declared.Step.{Step}
use Rattle.datatype.specs.Types.{shape_of}
use Rattle.datatype.specs.Schema.{column_record_at}
use Rattle.datatype.specs.Check.{types_in}
use Rattle.datatype.specs.InnerSteps.{type_in, passed}
use Rattle.datatype.proofs.Again.{Ahead, ahead-start, ahead-end, ahead-split, ahead_more, ahead-column, step_is}
use Rattle.row_column.specs.InnerWalk.{Framed}
use Rattle.row_sound.specs.InnerWalk.{walked_sound, walked_columns}

pub record Checking (s : List ℕ) (l : RowLayout) (p : Bool) (r : List ℕ) (b : RowLayout) (at : ℕ) : Type 0 where
  pub walk : Ahead s b at
  pub rest : walked_columns l p r b (drop b.num_columns (types_in s)) ≡ walked_columns l p r no_columns (types_in s)

pub check_start : {s : List ℕ} {l : RowLayout} {p : Bool} {r : List ℕ} → Framed s l p r → Checking s l p r no_columns 0
check_start f = record { walk = ahead-start f.accepted.schema; rest = refl }

module _ {s : List ℕ} {l : RowLayout} {p : Bool} {r : List ℕ} {b : RowLayout} {at : ℕ} (k : Checking s l p r b at) where
  -- no record is left
  pub check_end : length s ≤ at → true ≡ walked_columns l p r no_columns (types_in s)
  check_end h =
      let n : b.num_columns ≡ length (types_in s) = ahead-end k.walk h in
      let none : drop b.num_columns (types_in s) ≡ [] = drop_of_length-le (types_in s) {i = b.num_columns} (omega (arith, n)) in
      rw none at k.rest

  module _ (h : at < length s) {t : DataType} {next : ℕ} (e : column_record_at s at ≡ Ok (t, next)) where
    pub check_more : walked_sound l p b t r ≡ true → Bounded (with_column b (shape_of t)) → Checking s l p r (with_column b (shape_of t)) next
    check_more q small = record { walk = ahead_more k.walk h e small; rest = rw (ahead-split k.walk h e, q) at k.rest }

    pub check_bad : walked_sound l p b t r ≡ false → false ≡ walked_columns l p r no_columns (types_in s)
    check_bad q = rw (ahead-split k.walk h e, q) at k.rest

  -- the step to the next column, by the type that its record says
  pub check_next : (h : at < length s) → walked_sound l p b (type_in (column_record_at s at)) r ≡ true → {q : Step} → q ≡ passed at b (column_record_at s at) → Bounded q.before → Checking s l p r q.before q.at
  check_next h sound e small =
      let n = ahead-column k.walk h in
      let is = step_is k.walk h e in
      subst (λ (x : Step). Checking s l p r x.before x.at) (sym is)
      (check_more h n.is (subst (λ (t : DataType). walked_sound l p b t r ≡ true) (ap type_in n.is) sound) (subst (λ (x : Step). Bounded x.before) is small))
