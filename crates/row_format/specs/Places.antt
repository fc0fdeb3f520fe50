-- FORMAT 3.1, 3.2, 3.3, 3.6. 01, "Layout": where the parts of a row stand.
use Rattle.std.specs.Prelude.{ℕ, ◌+◌, ◌*◌, ◌-◌, ◌/◌, Bool, true, false, List, [], ◌∷◌, length, get_or, take}
use Rattle.row_format.specs.declared.Shape.{Shape}
use Rattle.row_format.specs.declared.Shape.TheVariants.{Fixed, Varlen}

-- a number carried through the columns, in schema order
abbrev pub through : (Shape → ℕ → ℕ) → ℕ → List Shape → ℕ
through f x [] = x
through f x (s ∷ ss) = through f (f s x) ss

-- the Varchars up to a column and past it
abbrev pub rank_after : Shape → ℕ → ℕ
rank_after (Fixed z a) k = k
rank_after Varlen k = k + 1

-- at, rounded up to a multiple of a
abbrev pub round_up : ℕ → ℕ → ℕ
round_up a at = (at + (a - 1)) / a * a

-- "Packed places fixed columns end to end. Padded [..] rounds each start up to its alignment, counted from the first
-- fixed byte": where a column of alignment a starts, packed or not, if the one before it ended at `at`
abbrev pub start_at : Bool → ℕ → ℕ → ℕ
start_at true a at = at
start_at false a at = round_up a at

-- the end of the fixed columns up to a column and past it
abbrev pub end_after : Bool → Shape → ℕ → ℕ
end_after p (Fixed z a) at = start_at p a at + z
end_after p Varlen at = at

-- how many Varchars a schema has, and how many bytes its fixed columns take, "with no padding at the end"
abbrev pub varlens : List Shape → ℕ
varlens ss = through rank_after 0 ss

abbrev pub fixed_size : Bool → List Shape → ℕ
fixed_size p ss = through (end_after p) 0 ss

-- a Varchar's place among the Varchars, and where the slot of a fixed column starts, counted from the first fixed byte
abbrev pub rank_of : List Shape → ℕ → ℕ
rank_of ss i = varlens (take i ss)

abbrev pub slot_after : Bool → Shape → ℕ → ℕ
slot_after p (Fixed z a) at = start_at p a at
slot_after p Varlen at = at

abbrev pub slot_start : Bool → List Shape → ℕ → ℕ
slot_start p ss i = slot_after p (get_or ss i Varlen) (fixed_size p (take i ss))

-- 02, request 5: "A long row [..] has four bytes for each offset", "rows of up to 1,048,576 bytes": the bytes of an
-- offset, and the most bytes that a row has. The sort of a row decides both, false for short and true for long.
abbrev pub offset_width : Bool → ℕ
offset_width false = 2
offset_width true = 4

abbrev pub row_limit : Bool → ℕ
row_limit false = 65535
row_limit true = 1048576

-- "Column count (2 bytes); Varchar count [..] (2); null bitmap, one bit a column [..]; offset table [..]; fixed
-- columns; payloads": where the bitmap, the table and the fixed columns start, for n columns of which v are Varchars,
-- with offsets of w bytes
abbrev pub bitmap_start : ℕ
bitmap_start = 4

abbrev pub bitmap_size : ℕ → ℕ
bitmap_size n = (n + 7) / 8

abbrev pub table_start : ℕ → ℕ
table_start n = bitmap_start + bitmap_size n

abbrev pub fixed_start : ℕ → ℕ → ℕ → ℕ
fixed_start w n v = table_start n + v * w

-- the byte of a row at which the slot of a fixed column starts
abbrev pub slot_place : ℕ → Bool → List Shape → ℕ → ℕ
slot_place w p ss i = fixed_start w (length ss) (varlens ss) + slot_start p ss i

-- 01's minimum: "the number of bytes before the payloads"
abbrev pub minimum : ℕ → Bool → List Shape → ℕ
minimum w p ss = fixed_start w (length ss) (varlens ss) + fixed_size p ss
