-- From the buffer to the output, and from the marks to the wanted columns.
use Rattle.error.specs.Result.{Result}
use Rattle.std.specs.Prelude.{Err, Ok}
use Prim.Native.Nat.{ℕ, ◌+◌, ◌≤◌, ◌<◌}
use mathlib.Core.Path.{◌≡◌, refl, sym, ap, ◌∙◌}
use mathlib.Core.Bool.{Bool}
use mathlib.Core.List.{List, [], ◌∷◌, ◌++◌, map}
use native.Mathlib.Omega.{arith}
use lib.ListN.{length, take, drop, replicate, length-map}
use lib.Seq.{sets, length-sets, length-take-le}
use Rattle.laws.proofs.Bytes.{part-stored}
use Rattle.laws.proofs.Stores.{sets-start}
use Rattle.row_layout.specs.declared.RowLayout.{RowLayout}
use Rattle.row_layout.specs.InnerLayout.{no_columns, with_column}
use Rattle.datatype.specs.declared.DataType.{DataType}
use Rattle.datatype.specs.Types.{shape_of}
use Rattle.datatype.specs.Check.{types_in}
use Rattle.value_list.specs.Lists.{Values, list_of}
use Rattle.stored_form.specs.Points.{points_in}
use Rattle.row_column.specs.InnerWalk.{walked_column}
use Rattle.datatype.proofs.Again.{columns-all}
use Rattle.datatype.specs.InnerCheck.{Accepted}
use Rattle.row_decode.specs.Read.{is_wanted, wanted_value, on_column, hand_out}
use Rattle.row_decode.specs.InnerWalk.{walked_read}
use Rattle.row_decode.specs.InnerMarks.{marked, is_marked, Filled, Held, copied_out}
use Rattle.row_decode.proofs.Marking.{marks_tell}

-- the first n numbers of a list over those of another
pub front_copied : (l vs : List ℕ) (n : ℕ) → n ≤ length l → n ≤ length vs → take n vs ++ drop n l ≡ sets l 0 (take n vs)
front_copied l vs n h g =
    let e : length (take n vs) ≡ n = length-take-le n vs g in
    sym (rw e at (sets-start l (take n vs) (rw e h)))

module _ (k : Bool) (r : List ℕ) (columns : ℕ) (buf points buf' points' : List ℕ) (res : Result ℕ) where
  pub filled_held : (vs : Values) → Filled k r columns vs buf points res buf' points' → Held res columns buf' points'
  filled_held (Ok vs) f = rw (f.done, f.written, f.counted, length-sets buf, length-sets points) (f.room, f.numbers)
  filled_held (Err e) f = rw f tt

  pub filled_out : (vs : Values) → Filled k r columns vs buf points res buf' points' → (out counts : List ℕ)
      → copied_out res columns buf' points' out counts ≡ hand_out k out counts r vs
  filled_out (Ok vs) f out counts =
      let n : length (map (points_in r) vs) ≡ columns = length-map vs (points_in r) ∙ f.many in
      let e : take (length (list_of k vs)) (sets buf 0 (list_of k vs)) ≡ list_of k vs = part-stored buf 0 (list_of k vs) (omega (arith, f.room)) in
      let g : take (length (map (points_in r) vs)) (sets points 0 (map (points_in r) vs)) ≡ map (points_in r) vs =
      part-stored points 0 (map (points_in r) vs) (omega (arith, n, f.numbers)) in
      rw (f.done, f.written, f.counted, e, ← n, g)
  filled_out (Err e) f out counts = rw f

-- only the flags of the columns matter
same_flags : (l : RowLayout) (p : Bool) (r : List ℕ) (f g : ℕ → Bool) (m : ℕ) → ((i : ℕ) → i < m → f i ≡ g i)
    → (b : RowLayout) (ts : List DataType) → b.num_columns + length ts ≤ m → walked_read l p f r b ts ≡ walked_read l p g r b ts
same_flags l p r f g m e b [] h = refl
same_flags l p r f g m e b (t ∷ ts) h =
    rw (e b.num_columns (omega arith)) (ap (on_column (wanted_value (g b.num_columns) (walked_column l p b t r))) (same_flags l p r f g m e (with_column b (shape_of t)) ts (omega arith)))

few-columns : {s : List ℕ} {l : RowLayout} → Accepted s l → no_columns.num_columns + length (types_in s) ≤ 256
few-columns a = omega (arith, columns-all a, a.bounded.few)

-- the marks of the wanted columns in a list of 256
pub wanted-out : {s : List ℕ} {l : RowLayout} → Accepted s l → (p : Bool) (r out counts marks w : List ℕ)
    → marks ≡ marked (replicate 256 0) w
    → hand_out l.is_long out counts r (walked_read l p (is_marked marks) r no_columns (types_in s))
    ≡ hand_out l.is_long out counts r (walked_read l p (is_wanted w) r no_columns (types_in s))
wanted-out {s} {l} a p r out counts marks w e =
    ap (hand_out l.is_long out counts r)
    (same_flags l p r (is_marked marks) (is_wanted w) 256 (λ i h. rw e (marks_tell 256 w i h)) no_columns (types_in s) (few-columns a))
