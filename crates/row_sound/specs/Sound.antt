-- FORMAT 8.1. 01: "A row is sound when all columns read without refusal, each Varchar has offset 0 exactly if it is
-- null, and the first non-zero offset is the minimum length (with none, the row has that length)." A row that is not
-- sound is not edited (15). Null is the bitmap's bit alone. "Bitmap bits past the last column are not looked at."
use Rattle.error.specs.Result.{Result}
use Rattle.value.specs.declared.DataValue.{DataValue}
use Rattle.std.specs.Prelude.{ℕ, zero, suc, Bool, true, false, cond, not, List, map, ◌≡◌, eqb, length, drop, Err, None, Ok, Option, Some}
use Rattle.laws.specs.Bits.{bit_at}
use Rattle.laws.specs.Bytes.{from_table, entry_at}
use Rattle.row_format.specs.Places.{varlens, rank_of, bitmap_start, table_start, minimum, offset_width}
use Rattle.row_format.specs.Table.{first_offset}
use Rattle.datatype.specs.declared.DataType.{DataType}
use Rattle.datatype.specs.Types.{is_varlen, shape_of}
use Rattle.datatype.specs.Check.{type_at}
use Rattle.row_column.specs.Frame.{frame_of, on_frame}
use Rattle.row_column.specs.Column.{column_value}

-- ---- a column

-- "all columns read without refusal"
abbrev pub reads : Result DataValue → Bool
reads (Ok v) = true
reads (Err e) = false

-- "each Varchar has offset 0 exactly if it is null": an offset, and whether the bit is set
abbrev pub zero_if_null : ℕ → Bool → Bool
zero_if_null o null = cond null (eqb o 0) (not (eqb o 0))

-- a column of type t that reads as c, its offset o if it is a Varchar, and whether its bit is set
abbrev pub sound_with : DataType → Result DataValue → ℕ → Bool → Bool
sound_with t c o null = cond (reads c) (cond (is_varlen t) (zero_if_null o null) true) false

-- column i of a row r of columns ts, packed or padded, with offsets of w bytes
unfoldable pub sound_column : ℕ → Bool → List DataType → ℕ → List ℕ → Bool
sound_column w p ts i r =
    sound_with (type_at ts i) (column_value w p ts i r)
    (entry_at w (table_start (length ts)) (rank_of (map shape_of ts) i) r) (eqb (bit_at i (drop bitmap_start r)) 1)

-- column i and the n columns from it on
abbrev pub sound_from : ℕ → Bool → List DataType → List ℕ → ℕ → ℕ → Bool
sound_from w p ts r i zero = true
sound_from w p ts r i (suc n) = cond (sound_column w p ts i r) (sound_from w p ts r (suc i) n) false

-- ---- a row

-- "the first non-zero offset", else the row's length, in a row with a table of v offsets of w bytes at byte `table`
abbrev pub first_payload : ℕ → ℕ → ℕ → List ℕ → ℕ
first_payload w table v r = first_offset (from_table w v (drop table r)) (length r)

-- behind its header
abbrev pub is_sound_in : ℕ → Bool → List DataType → List ℕ → Bool
is_sound_in w p ts r =
    cond (sound_from w p ts r 0 (length ts))
    (eqb (first_payload w (table_start (length ts)) (varlens (map shape_of ts)) r) (minimum w p (map shape_of ts)))
    false

-- what a call that edits is told: sound, and the row's own flag
abbrev pub sound_in : ℕ → Bool → List DataType → List ℕ → Option Bool
sound_in w p ts r = cond (is_sound_in w p ts r) (Some p) None

-- of a sort
abbrev pub soundness : Bool → List DataType → List ℕ → Option Bool
soundness k ts r = on_frame (frame_of k ts r) (λ e. None) (λ p. sound_in (offset_width k) p ts r)

-- a sound row of sort k, packed or padded as p says
pub record SoundRow (k : Bool) (ts : List DataType) (p : Bool) (r : List ℕ) : Type 0 where
  pub frame : frame_of k ts r ≡ Ok p
  pub sound : is_sound_in (offset_width k) p ts r ≡ true
