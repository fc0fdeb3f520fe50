-- From the row's length to the row in the output.
use Rattle.std.specs.Prelude.{Err, Ok}
use Prim.Native.Nat.{ℕ, ◌+◌, ◌≤◌, ◌<◌}
use mathlib.Core.Path.{◌≡◌, refl, sym, ap, ◌∙◌, subst}
use mathlib.Core.Bool.{true}
use mathlib.Core.List.{List, ◌++◌, map}
use native.Mathlib.Nat.{zero-add}
use native.Mathlib.Omega.{arith}
use borrow.Author.Tests.{lt-ltb, le-ltb}
use lib.ListN.{length, take, drop, take-append-drop}
use lib.Seq.{sets, length-sets, length-take-le}
use Rattle.error.specs.declared.Refusal.{Refusal}
use Rattle.error.specs.declared.Refusal.TheVariants.{RowLimit, NoRoom}
use Rattle.error.specs.Answer.{Counted, unchanged_both}
use Rattle.error.specs.Result.{Result, on_result}
use Rattle.laws.proofs.Bytes.{sets_over}
use Rattle.laws.proofs.Stores.{sets-append}
use Rattle.row_format.specs.Places.{offset_width, row_limit}
use Rattle.row_format.specs.Table.{Cell}
use Rattle.row_format.specs.Row.{packed_marks, header, built_row}
use Rattle.row_format.proofs.Row.{length-header, length-row, slots_fit}
use Rattle.row_layout.specs.declared.RowLayout.{RowLayout}
use Rattle.row_layout.specs.InnerLayout.{minimum_of}
use Rattle.datatype.specs.declared.DataType.{DataType}
use Rattle.datatype.specs.Types.{shape_of}
use Rattle.datatype.specs.Check.{types_in}
use Rattle.datatype.proofs.Again.{columns-all}
use Rattle.row_build.specs.Cells.{cells_from}
use Rattle.row_build.specs.Build.{row_placed_both, cells_points, build_values}
use Rattle.row_build.specs.InnerSteps.{null_row, values_in, Buildable, measured, cells_given, cells_in, row_given, counts_given, Fillable}
use Rattle.row_build.proofs.Nulls.{length-null-row, accepted-nulls}
use Rattle.row_build.proofs.Cells.{cells_fit}
use Rattle.row_build.proofs.Counting.{many-points}
use Rattle.row_build.proofs.Measuring.{counted, IsDone}

-- ---- stored over what is no longer

sets_longer : (l xs ys : List ℕ) → length xs ≤ length l → length xs ≤ length ys → sets (sets l 0 xs) 0 ys ≡ sets l 0 ys
sets_longer l xs ys h k =
    let n : length (take (length xs) ys) ≡ length xs = length-take-le (length xs) ys k in
    let e : ys ≡ take (length xs) ys ++ drop (length xs) ys = sym (take-append-drop (length xs) ys) in
    ap (sets (sets l 0 xs) 0) e ∙ sets-append (sets l 0 xs) 0 (take (length xs) ys) (drop (length xs) ys)
    ∙ ap (λ (z : List ℕ). sets z (0 + length (take (length xs) ys)) (drop (length xs) ys)) (sets_over l 0 xs (rw zero-add h) (take (length xs) ys) (sym n))
    ∙ sym (sets-append l 0 (take (length xs) ys) (drop (length xs) ys)) ∙ ap (sets l 0) (sym e)

sets_again : (l xs : List ℕ) → length xs ≤ length l → sets l 0 xs ≡ sets (sets l 0 xs) 0 xs
sets_again l xs h = sym (sets_over l 0 xs (rw zero-add h) xs refl)

-- ---- cells that were measured

all-good : (m : ℕ) (ts : List DataType) (q : Result (List Cell)) {n : ℕ} → Ok n ≡ measured m ts q → q ≡ Ok (cells_given q)
all-good m ts (Ok cs) e = refl
all-good m ts (Err u) e = absurd (subst IsDone e tt)

-- the first refusal is the call's
pub build-refused : (ts : List DataType) (q : Result (List Cell)) (out counts : List ℕ) (m : ℕ) {e : Refusal} (k : List Cell → Counted) → Err e ≡ measured m ts q → unchanged_both out counts e ≡ on_result q (unchanged_both out counts) k
build-refused ts (Ok cs) out counts m k f = absurd (subst IsDone (sym f) tt)
build-refused ts (Err u) out counts m k f = ap (λ (a : Result ℕ). (a, (out, counts))) f

module _ {s : List ℕ} {l : RowLayout} {list area : List ℕ} (b : Buildable s l list area) {n : ℕ} (d : Ok n ≡ measured (minimum_of l true) (types_in s) (cells_from 0 (types_in s) (values_in list) area)) where
  cells-good : cells_from 0 (types_in s) (values_in list) area ≡ Ok (cells_in s list area)
  cells-good = all-good (minimum_of l true) (types_in s) (cells_from 0 (types_in s) (values_in list) area) d

  length-is : length (row_given l.is_long s list area) ≡ n
  length-is =
      let f = cells_fit area 0 (types_in s) (values_in list) cells-good b.count in
      let e = length-row (offset_width l.is_long) (header (packed_marks l.is_long) (map shape_of (types_in s))) (length-header (packed_marks l.is_long) (map shape_of (types_in s))) f (slots_fit f) in
      let m = ap (λ (k : RowLayout). minimum_of k true) b.accepted.layout in
      let z = ap counted (rw cells-good at d) in
      omega (arith, e, m, z)

  pub least : minimum_of l true ≤ n
  least = let z = ap counted (rw cells-good at d) in omega (arith, z)

  many : length (counts_given s list area) ≡ l.num_columns
  many = many-points (types_in s) (values_in list) area cells-good b.count ∙ sym (columns-all b.accepted)

  module _ (out counts : List ℕ) where
    abbrev call : Counted
    call = build_values l.is_long (types_in s) (values_in list) area out counts

    whole : row_placed_both l.is_long out counts (row_given l.is_long s list area) (counts_given s list area) ≡ call
    whole = sym (ap (λ (q : Result (List Cell)). on_result q (unchanged_both out counts) (λ cs. row_placed_both l.is_long out counts (built_row (offset_width l.is_long) (packed_marks l.is_long) (map shape_of (types_in s)) cs) (cells_points (types_in s) cs))) cells-good)

    pub too_long : row_limit l.is_long < n → unchanged_both out counts RowLimit ≡ call
    too_long h = rw (length-is, lt-ltb (row_limit l.is_long) n h) at whole

    module _ (h : n ≤ row_limit l.is_long) where
      pub no_room : length out < n → unchanged_both out counts NoRoom ≡ call
      no_room k = rw (length-is, le-ltb (row_limit l.is_long) n h, lt-ltb (length out) n k) at whole

      module _ (k : n ≤ length out) where
        pub few-counts : length counts < l.num_columns → unchanged_both out counts NoRoom ≡ call
        few-counts m = rw (length-is, many, le-ltb (row_limit l.is_long) n h, le-ltb (length out) n k, lt-ltb (length counts) l.num_columns m) at whole

        module _ {first : List ℕ} (e : first ≡ sets out 0 (null_row l)) where
          least_row : length (null_row l) ≤ length out
          least_row = rw length-null-row (omega (arith, least))

          pub fillable : Fillable s l list area first
          fillable =
              record {
                given = b;
                all = cells-good;
                nulls = e ∙ sets_again out (null_row l) least_row ∙ ap (λ (z : List ℕ). sets z 0 (null_row l)) (sym e) ∙ ap (sets first 0) (accepted-nulls b.accepted);
                room = rw (length-is, e, length-sets) k;
                short = rw length-is h;
              }

          pub row-placed : l.num_columns ≤ length counts → {last numbers : List ℕ} → last ≡ sets first 0 (row_given l.is_long s list area) → numbers ≡ sets counts 0 (counts_given s list area)
              → (Ok n, (last, numbers)) ≡ call
          row-placed m {last} f g =
              let same = f ∙ ap (λ (z : List ℕ). sets z 0 (row_given l.is_long s list area)) e ∙ sets_longer out (null_row l) (row_given l.is_long s list area) least_row (rw (length-null-row, length-is) least) in
              ap (λ (z : List ℕ). (Ok n, (last, z))) g ∙ ap (λ (z : List ℕ). (Ok n, (z, sets counts 0 (counts_given s list area)))) same
              ∙ rw (length-is, many, le-ltb (row_limit l.is_long) n h, le-ltb (length out) n k, le-ltb (length counts) l.num_columns m) at whole
