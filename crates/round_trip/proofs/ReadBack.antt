-- Where a build answers Ok, a read of its row answers with the values it was given, for the columns that are wanted.
use Rattle.std.specs.Prelude.{Ok}
use Prim.Native.Nat.{ℕ, ◌^◌, ◌≤◌, ◌<◌}
use mathlib.Core.Path.{◌≡◌, ap, ◌∙◌}
use mathlib.Core.Bool.{Bool, true}
use mathlib.Core.List.{List, map}
use native.Mathlib.Omega.{arith}
use lib.ListN.{length}
use Rattle.row_format.proofs.Sorts.{fits_limit}
use Rattle.row_format.specs.Places.{offset_width, row_limit}
use Rattle.error.specs.Answer.{unchanged_both, placed_both}
use Rattle.error.specs.Result.{on_result, Result}
use Rattle.row_format.specs.Row.{built_row, packed_marks}
use Rattle.datatype.specs.Types.{shape_of}
use Rattle.datatype.specs.Schema.{Parsed, schema_of}
use Rattle.value.specs.Ranges.{text_of}
use Rattle.value_list.specs.Lists.{list_of}
use Rattle.stored_form.specs.ReadBack.{has_text}
use Rattle.value_list.proofs.Lists.{Taken, checked-taken, values-sized}
use Rattle.value_list.specs.InnerLists.{AllSized}
use Rattle.row_column.specs.Frame.{frame_of, on_frame}
use Rattle.row_decode.specs.Read.{is_wanted, read_from, hand_out, read_row, read_call}
use Rattle.row_build.specs.Built.{Built}
use Rattle.row_build.proofs.Counting.{many-cells, many-points}
use Rattle.row_build.proofs.Schemas.{schema-few}
use Rattle.round_trip.specs.Layouts.{BuiltWritten}
use Rattle.round_trip.specs.ReadBack.{values_back, wanted_points, row, given_value, given_back, given_form, counts_put, ReadsBack, BuiltReadsBack}
use Rattle.round_trip.proofs.Sorts.{built-sort}
use Rattle.round_trip.proofs.Counts.{counts-back, all_wanted}
use Rattle.round_trip.proofs.ReadBuilt.{frame-built, built-written, column-built, text-built, columns-built}

module _ {sort : Bool} {schema list area out : List ℕ} {n : ℕ} {after : List ℕ}
    (b : Built sort schema list area out n after) where
  abbrev pub cells_row : List ℕ
  cells_row = built_row (offset_width sort) (packed_marks sort) (map shape_of b.columns) b.cells

  pub taken : Taken sort (length b.columns) (length area) list b.given
  taken = checked-taken sort (length b.columns) (length area) list b.list-good

  pub few : length b.columns ≤ 256
  few = schema-few sort schema b.schema-good

  pub short : length cells_row ≤ (row_limit sort)
  short = rw (← b.size) b.short

  -- the row's header is good
  pub frame_back : frame_of sort b.columns (row b) ≡ Ok true
  frame_back = rw b.row (frame-built sort b.columns b.given area b.cells-good taken.count few short)

  -- its parts stand where the layout says
  pub written-built : BuiltWritten b
  written-built = rw b.row (built-written sort b.columns b.given area b.cells-good taken.count few short)

  module _ (sized : AllSized b.given) where
    fits : length cells_row < 256 ^ (offset_width sort)
    fits = fits_limit sort short

    -- the columns that are wanted
    pub columns-back : (wanted : ℕ → Bool) → read_from (offset_width sort) true b.columns wanted (row b) 0 (length b.columns)
        ≡ Ok (values_back (offset_width sort) b.columns wanted area (row b) 0 b.given)
    columns-back wanted = rw b.row
        (columns-built sort b.columns b.given area b.cells-good taken.count few fits sized wanted)

    text-back : (i : ℕ) → i < length b.columns → has_text (given_value b i) ≡ true → text_of (row b) (given_back b i) ≡ given_form b i
    text-back i h g = rw b.row
        (text-built sort b.columns b.given area b.cells-good taken.count few i h fits sized g)

    cells-many : length b.cells ≡ length b.columns
    cells-many = many-cells b.columns b.given area b.cells-good taken.count

    read_back_lem : (ws o counts : List ℕ)
        → read_call schema (row b) ws o counts ≡ placed_both o counts
        (list_of sort (values_back (offset_width sort) b.columns (is_wanted ws) area (row b) 0 b.given)) (wanted_points (is_wanted ws) 0 (counts_put b))
    read_back_lem ws o counts =
        ap (λ (k : Bool). on_result (schema_of k schema) (unchanged_both o counts) (λ ts. read_row k ts (row b) ws o counts)) (built-sort b)
        ∙ ap (λ (p : Parsed). on_result p (unchanged_both o counts) (λ ts. read_row sort ts (row b) ws o counts)) b.schema-good
        ∙ ap (λ (q : Result Bool). on_frame q (unchanged_both o counts)
        (λ p. hand_out sort o counts (row b) (read_from (offset_width sort) p b.columns (is_wanted ws) (row b) 0 (length b.columns)))) frame_back
        ∙ ap (hand_out sort o counts (row b)) (columns-back (is_wanted ws))
        ∙ ap (placed_both o counts (list_of sort (values_back (offset_width sort) b.columns (is_wanted ws) area (row b) 0 b.given)))
        (counts-back b taken.count cells-many text-back (is_wanted ws))

    -- the same of values that fit records, wherever they come from
    pub sized-back : ReadsBack b
    sized-back =
        record {
          frame = frame_back;
          column = λ i h. rw b.row
              (column-built sort b.columns b.given area b.cells-good taken.count few i h fits sized);
          text = text-back;
          read = read_back_lem;
          all-counts = λ ws h. all_wanted (is_wanted ws) 0 (counts_put b) (λ j l. h j (omega (arith, l, many-points b.columns b.given area b.cells-good taken.count)));
        }

  pub read-built : BuiltReadsBack b
  read-built bytes = sized-back (values-sized list bytes taken.all)
