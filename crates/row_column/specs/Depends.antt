-- Which bytes of a row a column's reading depends on: two rows that agree on these give the same `column_value`,
-- whatever else they hold. FORMAT 7.2.
use Rattle.std.specs.Prelude.{ℕ, ◌+◌, ◌*◌, ◌-◌, ◌/◌, ◌≤◌, ◌<◌, Bool, true, false, List, map, ◌≡◌, length, take, drop}
use Rattle.laws.specs.Bits.{bit_at}
use Rattle.laws.specs.Bytes.{entry_at}
use Rattle.row_format.specs.Places.{varlens, rank_of, bitmap_start, table_start, slot_place}
use Rattle.row_layout.specs.declared.VarlenRange.TheVariants.{Bytes}
use Rattle.row_layout.specs.Range.{varlen_range}
use Rattle.datatype.specs.declared.DataType.{DataType}
use Rattle.datatype.specs.Types.{size_of, is_varlen, shape_of}
use Rattle.datatype.specs.Check.{type_at}

-- the offsets between those of the ranks k and j, of w bytes each, in a table at byte `table`, are all 0
abbrev pub Zeros : ℕ → ℕ → ℕ → ℕ → List ℕ → Type 0
Zeros w table k j r = (i : ℕ) → k < i → i < j → entry_at w table i r ≡ 0

-- column i's bit of the bitmap
abbrev pub bit_of_column : ℕ → List ℕ → ℕ
bit_of_column i r = bit_at i (drop bitmap_start r)

-- ---- two rows that agree on them

-- A Varchar of rank k, of v, whose offset is not 0: "A range ends at the next non-zero offset of a higher rank, else
-- at the row's end". So the row's length, the higher offsets up to the first that is not 0, and the range if it is a
-- part of the row.
pub record SameRange (w table v k : ℕ) (r r' : List ℕ) : Type 0 where
  pub size : length r ≡ length r'
  pub higher : (j : ℕ) → k < j → j < v → Zeros w table k j r → entry_at w table j r ≡ entry_at w table j r'
  pub range : (a e : ℕ) → varlen_range w table v k r ≡ Bytes a e → take (e - a) (drop a r) ≡ take (e - a) (drop a r')

-- any Varchar: its own offset
pub record SameVarchar (w table v k : ℕ) (r r' : List ℕ) : Type 0 where
  pub own : entry_at w table k r ≡ entry_at w table k r'
  pub some : (entry_at w table k r ≡ 0 → ⊥) → SameRange w table v k r r'

-- any column: its bit, and where that is clear its slot, or what a Varchar depends on
pub record SameFor (w : ℕ) (p : Bool) (ts : List DataType) (i : ℕ) (r r' : List ℕ) : Type 0 where
  pub bit : bit_of_column i r ≡ bit_of_column i r'
  pub slot : (bit_of_column i r ≡ 1 → ⊥) → is_varlen (type_at ts i) ≡ false →
      take (size_of (type_at ts i)) (drop (slot_place w p (map shape_of ts) i) r)
      ≡ take (size_of (type_at ts i)) (drop (slot_place w p (map shape_of ts) i) r')
  pub varchar : (bit_of_column i r ≡ 1 → ⊥) → is_varlen (type_at ts i) ≡ true →
      SameVarchar w (table_start (length ts)) (varlens (map shape_of ts)) (rank_of (map shape_of ts) i) r r'

-- ---- the same by places: byte j of r is looked at

-- byte j is one of offset m
abbrev pub InOffset : ℕ → ℕ → ℕ → ℕ → Type 0
InOffset w table m j = (table + m * w ≤ j) × (j < table + m * w + w)

pub data LookedAtVarchar (w table v k : ℕ) (r : List ℕ) : ℕ → Type 0 where
  own : (j : ℕ) → InOffset w table k j → LookedAtVarchar w table v k r j
  higher : (j m : ℕ) → (entry_at w table k r ≡ 0 → ⊥) → k < m → m < v → Zeros w table k m r → InOffset w table m j
      → LookedAtVarchar w table v k r j
  range : (j a e : ℕ) → varlen_range w table v k r ≡ Bytes a e → a ≤ j → j < e → LookedAtVarchar w table v k r j

pub data LookedAt (w : ℕ) (p : Bool) (ts : List DataType) (i : ℕ) (r : List ℕ) : ℕ → Type 0 where
  bit : LookedAt w p ts i r (bitmap_start + i / 8)
  slot : (j : ℕ) → (bit_of_column i r ≡ 1 → ⊥) → is_varlen (type_at ts i) ≡ false
      → slot_place w p (map shape_of ts) i ≤ j
      → j < slot_place w p (map shape_of ts) i + size_of (type_at ts i) → LookedAt w p ts i r j
  varchar : (j : ℕ) → (bit_of_column i r ≡ 1 → ⊥) → is_varlen (type_at ts i) ≡ true
      → LookedAtVarchar w (table_start (length ts)) (varlens (map shape_of ts)) (rank_of (map shape_of ts) i) r j
      → LookedAt w p ts i r j
