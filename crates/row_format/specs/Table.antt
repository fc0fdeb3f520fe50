-- FORMAT 3.1, 3.2, 3.4, 3.5. 01, "Layout": the cells of Varchars, their offsets and payloads, and the range of a
-- Varchar.
use Rattle.std.specs.Prelude.{ℕ, zero, suc, ◌+◌, ◌*◌, List, [], ◌∷◌, ◌++◌, length, drop}
use Rattle.std.proofs.Math.Option.{Option, none, some}
use Rattle.laws.specs.Bytes.{to_table, from_table}

-- what a row holds of a column: null, or the stored form
abbrev pub Cell : Type 0
Cell = Option (List ℕ)

abbrev pub bytes : Cell → List ℕ
bytes none = []
bytes (some b) = b

-- the payloads, end to end
abbrev pub payloads : List Cell → List ℕ
payloads [] = []
payloads (c ∷ cs) = bytes c ++ payloads cs

-- "Null Varchars have offset 0; an empty one has its own offset": the offsets of payloads of which the first stands
-- at `at`
abbrev pub offset : Cell → ℕ → ℕ
offset none at = 0
offset (some b) at = at

abbrev pub offsets : ℕ → List Cell → List ℕ
offsets at [] = []
offsets at (c ∷ cs) = offset c at ∷ offsets (at + length (bytes c)) cs

-- A row whose header and bitmap are `front` and whose fixed columns are `region`: front, table, region, payloads. Any
-- front and any region, so that what is said of it holds of packed and padded rows, whatever their spare bits and the
-- slots of null columns hold.
abbrev pub base : ℕ → List ℕ → List ℕ → List Cell → ℕ
base w front region cs = length front + length cs * w + length region

unfoldable pub lay : ℕ → List ℕ → List ℕ → List Cell → List ℕ
lay w front region cs = front ++ (to_table w (offsets (base w front region cs) cs) ++ (region ++ payloads cs))

-- "A range ends at the next non-zero offset of a higher rank, else at the row's end": the first of xs that is not 0,
-- else e
abbrev pub or_else : ℕ → ℕ → ℕ
or_else zero e = e
or_else (suc x) e = suc x

abbrev pub first_offset : List ℕ → ℕ → ℕ
first_offset [] e = e
first_offset (x ∷ xs) e = or_else x (first_offset xs e)

-- the end of the range of rank k, in a row r with a table of v offsets at byte t
unfoldable pub range_end : ℕ → ℕ → ℕ → ℕ → List ℕ → ℕ
range_end w t v k r = first_offset (drop (suc k) (from_table w v (drop t r))) (length r)
