-- Demand 3: what every history leaves, and when two leave the same.
use Prim.Native.Nat.{ℕ, ◌<◌, ◌^◌}
use mathlib.Core.Bool.{Bool}
use mathlib.Core.List.{List, map}
use mathlib.Core.Path.{◌≡◌, sym, ap, ◌∙◌}
use mathlib.Core.Option.{none}
use lib.ListN.{length, replicate}
use Rattle.error.specs.Answer.{placed_both}
use Rattle.row_format.specs.Places.{offset_width}
use Rattle.row_format.specs.Row.{packed_marks, built_row}
use Rattle.history.specs.History.{sort_of}
use Rattle.row_format.proofs.Sorts.{fits_limit}
use Rattle.row_format.proofs.Cells.{built_inj}
use Rattle.datatype.specs.declared.DataType.{DataType}
use Rattle.datatype.specs.Types.{shape_of}
use Rattle.row_build.specs.Build.{cells_points}
use Rattle.history.specs.Demand.{History, left, zeroed, sheet, cells, Leaves, Told}
use Rattle.history.proofs.Kept.{Kept, Keeps, kept-sort, fits, kept-length, kept-long, built-length, kept-zeroed, keeps_start, keeps_all, keeps_built}

module _ {sort : Bool} {schema : List ℕ} {ts : List DataType} (h : History sort schema ts) where
  abbrev started : Keeps sort schema ts h.columns h.start (replicate (length ts) none)
  started = keeps_start sort schema ts h.columns h.out h.start h.fresh

  -- its first row is of its sort
  pub fresh-sort : sort_of h.start ≡ sort
  fresh-sort = kept-sort sort schema ts h.columns started

  pub kept : Kept sort ts (left h).buf (left h).row-length (sheet h)
  kept = keeps_all sort schema ts h.columns h.calls h.bytes started

  pub zeroed-cells : zeroed h ≡ built_row (offset_width sort) (packed_marks sort) (map shape_of ts) (cells h)
  zeroed-cells = kept-zeroed sort ts kept

pub history : {sort : Bool} {schema : List ℕ} {ts : List DataType} (h : History sort schema ts) → Leaves h
history {sort} {schema} {ts} h =
    let k = kept h in
    record {
      built = λ o counts. keeps_built sort schema ts h.columns k o counts ∙ ap (λ (r : List ℕ). placed_both o counts r (cells_points ts (cells h))) (sym (zeroed-cells h));
      handed = sym (kept-length sort ts k);
      long = kept-length sort ts k ∙ kept-long sort ts k;
      same_length = ap length (zeroed-cells h) ∙ built-length sort ts k ∙ sym (kept-length sort ts k);
    }

pub histories : {sort : Bool} {schema : List ℕ} {ts : List DataType} (g h : History sort schema ts) → Told g h
histories {sort} {schema} {ts} g h =
    let k = kept g in
    let n : length (built_row (offset_width sort) (packed_marks sort) (map shape_of ts) (cells g)) < 256 ^ offset_width sort = rw (built-length sort ts k) (fits_limit sort k.short) in
    rw (zeroed-cells g, zeroed-cells h)
    (λ q. built_inj (offset_width sort) (packed_marks sort) (fits sort ts k) (fits sort ts (kept h)) n q, λ q. ap (built_row (offset_width sort) (packed_marks sort) (map shape_of ts)) q)
