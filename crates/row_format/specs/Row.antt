-- FORMAT 3.1, 3.8. 01, "Layout": a packed row of given cells.
use Rattle.std.specs.Prelude.{ℕ, zero, suc, ◌+◌, ◌*◌, Bool, true, false, List, [], ◌∷◌, ◌++◌, length, take, drop, replicate}
use Rattle.std.proofs.Math.Option.{none, some}
use Rattle.laws.specs.Bytes.{to_le, concat}
use Rattle.row_format.specs.declared.Shape.{Shape}
use Rattle.row_format.specs.declared.Shape.TheVariants.{Fixed, Varlen}
use Rattle.row_format.specs.Places.{varlens, bitmap_size}
use Rattle.row_format.specs.Table.{Cell, lay}

-- "Column count (2 bytes); Varchar count with 0x8000 for packed (2)": marks is what is added to the second. 02, request
-- 5: "A long row sets 0x4000 in the second header word"
abbrev pub packed_flag : ℕ
packed_flag = 0x8000

abbrev pub long_flag : ℕ
long_flag = 0x4000

-- the marks of a packed row, by its sort, and the least mark that a row of a sort may have: the count stands below it
abbrev pub packed_marks : Bool → ℕ
packed_marks false = packed_flag
packed_marks true = packed_flag + long_flag

abbrev pub least_mark : Bool → ℕ
least_mark false = packed_flag
least_mark true = long_flag

unfoldable pub header : ℕ → List Shape → List ℕ
header marks ss = to_le 2 (length ss) ++ to_le 2 (varlens ss + marks)

-- "null bitmap, one bit a column, low bit first, set for null": k bytes of it
abbrev pub null_bit : Cell → ℕ
null_bit none = 1
null_bit (some b) = 0

abbrev pub bits_value : List Cell → ℕ
bits_value [] = 0
bits_value (c ∷ cs) = null_bit c + 2 * bits_value cs

abbrev pub bitmap : ℕ → List Cell → List ℕ
bitmap zero cs = []
bitmap (suc k) cs = bits_value (take 8 cs) ∷ bitmap k (drop 8 cs)

-- the cells of the Varchars, in their order
abbrev pub varlen_cells : List Shape → List Cell → List Cell
varlen_cells [] cs = []
varlen_cells (s ∷ ss) [] = []
varlen_cells (Fixed z a ∷ ss) (c ∷ cs) = varlen_cells ss cs
varlen_cells (Varlen ∷ ss) (c ∷ cs) = c ∷ varlen_cells ss cs

-- the packed row with header h, the null bits and payloads of cs, and these slots, one a column, empty for a Varchar
unfoldable pub row_with : ℕ → List ℕ → List Shape → List Cell → List (List ℕ) → List ℕ
row_with w h ss cs slots = lay w (h ++ bitmap (bitmap_size (length ss)) cs) (concat slots) (varlen_cells ss cs)

-- the slot that is written for a cell: zeros for a null
abbrev pub slot_of : Shape → Cell → List ℕ
slot_of (Fixed z a) none = replicate z 0
slot_of (Fixed z a) (some b) = b
slot_of Varlen c = []

abbrev pub slots_of : List Shape → List Cell → List (List ℕ)
slots_of [] cs = []
slots_of (s ∷ ss) [] = []
slots_of (s ∷ ss) (c ∷ cs) = slot_of s c ∷ slots_of ss cs

-- the packed row that is built of cells
abbrev pub built_row : ℕ → ℕ → List Shape → List Cell → List ℕ
built_row w marks ss cs = row_with w (header marks ss) ss cs (slots_of ss cs)

-- what suits a shape: a slot has its length, and so has the stored form of a fixed column
abbrev pub slot_size : Shape → ℕ
slot_size (Fixed z a) = z
slot_size Varlen = 0
