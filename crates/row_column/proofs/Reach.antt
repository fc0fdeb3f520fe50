-- A row with a good header has all that the reading of a column looks at.
use Rattle.std.specs.Prelude.{Ok}
use Prim.Native.Nat.{ℕ, ◌+◌, ◌≤◌, ◌<◌}
use mathlib.Core.Path.{◌≡◌, refl, sym, ap, ◌∙◌, subst}
use mathlib.Core.Bool.{Bool, true, false}
use mathlib.Core.List.{List}
use native.Mathlib.Omega.{arith}
use lib.ListN.{length, take, length-map}
use lib.Seq.{length-take-le}
use Rattle.row_format.specs.declared.Shape.{Shape}
use Rattle.row_format.specs.Places.{end_after}
use Rattle.row_layout.specs.declared.RowLayout.{RowLayout}
use Rattle.row_layout.specs.Layout.{size_in}
use Rattle.row_layout.specs.InnerLayout.{Bounded, with_column}
use Rattle.datatype.specs.declared.DataType.{DataType}
use Rattle.datatype.specs.Types.{shape_of, precision_of}
use Rattle.datatype.specs.Schema.{column_record_at}
use Rattle.datatype.specs.InnerSteps.{type_in}
use Rattle.datatype.specs.Check.{type_at, types_in}
use Rattle.datatype.proofs.Records.{few-digits}
use Rattle.datatype.proofs.Again.{before-next, Grown, grown, size_grown, Ahead, ahead-inside, ahead_type, ahead-column, ahead-typed}
use Rattle.datatype.specs.InnerCheck.{layout_before}
use Rattle.row_column.specs.declared.Column.{Column}
use Rattle.row_column.specs.InnerWalk.{Framed, Found, Reachable}

size_with : (b : RowLayout) (s : Shape) (p : Bool) → size_in (with_column b s) p ≡ end_after p s (size_in b p)
size_with b s true = refl
size_with b s false = refl

pub columns-before : (ts : List DataType) (i : ℕ) → i ≤ length ts → (layout_before ts i).num_columns ≡ i
columns-before ts i h = length-map (take i ts) shape_of ∙ length-take-le i ts h

module _ {s : List ℕ} {l : RowLayout} {p : Bool} {r : List ℕ} (f : Framed s l p r) where
  -- column i
  pub reach : (b : RowLayout) (t : DataType) (i : ℕ) → i < length (types_in s) → b ≡ layout_before (types_in s) i → t ≡ type_at (types_in s) i → Bounded b → precision_of t ≤ 38 → Reachable l p b t r
  reach b t i h e d small few =
      let next : layout_before (types_in s) (i + 1) ≡ with_column b (shape_of t) =
      before-next (types_in s) i h ∙ ap (λ (k : RowLayout). with_column k (shape_of (type_at (types_in s) i))) (sym e) ∙ ap (λ (u : DataType). with_column b (shape_of u)) (sym d) in
      let g : Grown (with_column b (shape_of t)) l =
      subst (λ (k : RowLayout). Grown k l) next (subst (Grown (layout_before (types_in s) (i + 1))) f.accepted.layout (grown l.is_long (types_in s) (i + 1) (omega (arith, h)))) in
      record {
        whole = f.accepted.bounded;
        before = small;
        digits = few;
        column = omega (arith, g.columns);
        table = omega (arith, f.long);
        rank = λ v. omega (arith, rw v at g.varlens);
        slot = λ v. omega (arith, f.long, rw (v, size_with) at (size_grown g p));
      }

  -- the column whose record the walk has come to
  pub reach-next : {b : RowLayout} {at : ℕ} (w : Ahead s b at) (h : at < length s) {t : DataType} {next : ℕ} (e : column_record_at s at ≡ Ok (t, next)) → Reachable l p b t r
  reach-next {b} {at} w h {t} e = reach b t b.num_columns (ahead-inside w h e) w.so_far (ahead_type w h e) w.bounded (few-digits s at e)

  pub reach-typed : {b : RowLayout} {at : ℕ} (w : Ahead s b at) (h : at < length s) → Reachable l p b (type_at (types_in s) b.num_columns) r
  reach-typed {b} w h = subst (λ (t : DataType). Reachable l p b t r) (ahead_type w h (ahead-column w h).is) (reach-next w h (ahead-column w h).is)

pub found : {s : List ℕ} {b : RowLayout} {at i : ℕ} (w : Ahead s b at) (h : at < length s) → b.num_columns ≡ i → {c : Column} → c.before ≡ b → c.ty ≡ type_in (column_record_at s at) → Found s i c
found {s} {b} {at} w h f eb et =
    let n = ahead-column w h in
    record {
      layout = eb ∙ w.so_far ∙ ap (layout_before (types_in s)) f;
      type_is = et ∙ ahead-typed w h ∙ ap (type_at (types_in s)) f;
      bounded = subst Bounded (sym eb) w.bounded;
      digits = rw (et, n.is) (few-digits s at n.is);
    }
