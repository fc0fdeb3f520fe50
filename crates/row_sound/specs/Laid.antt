-- A row that is laid out of parts: a header, a bitmap, the bytes of the fixed columns, and the cells of the
-- Varchars. What a column of it holds, reads as, and whether it is sound. FORMAT 3.1, 3.3.
use Rattle.error.specs.Result.{Result}
use Rattle.value.specs.declared.DataValue.{DataValue}
use Rattle.std.specs.Prelude.{ℕ, ◌+◌, ◌^◌, ◌<◌, Bool, true, false, cond, List, ◌++◌, map, ◌≡◌, eqb, length, get_or, take, drop, None, Ok, Option, Some}
use Rattle.std.proofs.Math.Option.{none, some}
use Rattle.laws.specs.Bits.{bit_at}
use Rattle.row_format.specs.Places.{varlens, fixed_size, rank_of, slot_start, bitmap_size, slot_place, minimum}
use Rattle.row_format.specs.Table.{Cell, bytes, payloads, lay}
use Rattle.datatype.specs.declared.DataType.{DataType}
use Rattle.datatype.specs.Types.{size_of, is_varlen, shape_of}
use Rattle.datatype.specs.Check.{type_at}
use Rattle.value.specs.declared.DataValue.TheVariants.{Null}
use Rattle.stored_form.specs.Read.{read_slot}
use Rattle.row_column.specs.Column.{slot_value}
use Rattle.row_sound.specs.Reread.{Content, content}

-- ---- the parts

-- of the sizes that the columns ask, in a row whose length fits an offset of w bytes
pub record Parts (w : ℕ) (p : Bool) (ts : List DataType) (head bits region : List ℕ) (ps : List Cell) : Type 0 where
  pub four : length head ≡ 4
  pub bitmap : length bits ≡ bitmap_size (length (map shape_of ts))
  pub fixed : length region ≡ fixed_size p (map shape_of ts)
  pub cells : length ps ≡ varlens (map shape_of ts)
  pub fits : length (lay w (head ++ bits) region ps) < 256 ^ w

-- what column i holds: a Varchar's cell, a fixed column's slot
abbrev pub held_part : Bool → List DataType → List ℕ → List Cell → ℕ → Cell
held_part p ts region ps i =
    cond (is_varlen (type_at ts i)) (get_or ps (rank_of (map shape_of ts) i) none)
    (some (take (size_of (type_at ts i)) (drop (slot_start p (map shape_of ts) i) region)))

-- where that stands in the row
abbrev pub held_place : ℕ → Bool → List DataType → List Cell → ℕ → ℕ
held_place w p ts ps i =
    cond (is_varlen (type_at ts i))
    (minimum w p (map shape_of ts) + length (payloads (take (rank_of (map shape_of ts) i) ps)))
    (slot_place w p (map shape_of ts) i)

-- ---- a column that holds a cell; `marked` says whether its bit is set

-- what column i, of type t, reads as, where the cell's bytes stand at `at`
abbrev pub held_value : DataType → ℕ → Bool → ℕ → Cell → Result DataValue
held_value t i marked at none = Ok Null
held_value t i marked at (some b) = cond marked (Ok Null) (slot_value i (read_slot t at b))

-- wherever they stand
abbrev pub held_content : DataType → ℕ → Bool → Cell → Content
held_content t i marked c = content (bytes c) (held_value t i marked 0 c)

-- whether a slot holds a value
abbrev pub is_value : Option DataValue → Bool
is_value (Some v) = true
is_value None = false

-- whether it is sound: a Varchar by its cell, a fixed column by its slot
abbrev pub is_form : DataType → List ℕ → Bool
is_form t bs = is_value (read_slot t 0 bs)

abbrev pub sound_cell : DataType → Bool → Cell → Bool
sound_cell t marked none = marked
sound_cell t marked (some b) = cond marked false (is_form t b)

abbrev pub sound_slot : DataType → Bool → List ℕ → Bool
sound_slot t marked slot = cond marked true (is_form t slot)

abbrev pub sound_part : Bool → List DataType → List ℕ → List ℕ → List Cell → ℕ → Bool
sound_part p ts bits region ps i =
    cond (is_varlen (type_at ts i))
    (sound_cell (type_at ts i) (eqb (bit_at i bits) 1) (held_part p ts region ps i))
    (sound_slot (type_at ts i) (eqb (bit_at i bits) 1) (bytes (held_part p ts region ps i)))
