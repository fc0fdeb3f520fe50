-- Demand 3: a row "with the slots of null fixed columns set to zero". Which columns are null, the row's own bits say.
-- Packed rows. FORMAT 9.3.
use Rattle.std.specs.Prelude.{ℕ, zero, suc, ◌+◌, ◌≤◌, ◌<◌, true, List, [], ◌∷◌, ◌++◌, ◌≡◌, length, get_or, take, drop, replicate}
use Rattle.laws.specs.Bits.{bit_at}
use Rattle.row_format.specs.declared.Shape.{Shape}
use Rattle.row_format.specs.declared.Shape.TheVariants.{Varlen}
use Rattle.row_format.specs.Places.{varlens, bitmap_start, fixed_start, slot_start}
use Rattle.row_format.specs.Row.{slot_size}

-- a slot of z bytes, by its column's bit
abbrev pub zeroed_slot : ℕ → ℕ → List ℕ → List ℕ
zeroed_slot zero z slot = slot
zeroed_slot (suc bit) z slot = replicate z 0

-- the bytes r of a row from the slot of column i on, where ss are column i and those after it; a Varchar's slot has no
-- bytes
abbrev pub zeroed_from : List ℕ → ℕ → List Shape → List ℕ → List ℕ
zeroed_from bits i [] r = r
zeroed_from bits i (s ∷ ss) r =
    zeroed_slot (bit_at i bits) (slot_size s) (take (slot_size s) r)
    ++ zeroed_from bits (suc i) ss (drop (slot_size s) r)

unfoldable pub zeroed_row : ℕ → List Shape → List ℕ → List ℕ
zeroed_row w ss r =
    take (fixed_start w (length ss) (varlens ss)) r
    ++ zeroed_from (drop bitmap_start r) 0 ss (drop (fixed_start w (length ss) (varlens ss)) r)

-- ---- the same by places

-- byte j of a row lies in the slot of a fixed column that the row's bit says is null; a Varchar's slot has no bytes
pub record InNullSlot (w : ℕ) (ss : List Shape) (r : List ℕ) (j : ℕ) : Type 0 where
  pub column : ℕ
  pub inside : column < length ss
  pub null : bit_at column (drop bitmap_start r) ≡ 1
  pub from : fixed_start w (length ss) (varlens ss) + slot_start true ss column ≤ j
  pub before : j
      < fixed_start w (length ss) (varlens ss) + slot_start true ss column + slot_size (get_or ss column Varlen)

-- z is r with the bytes of those slots zero, and every other byte as it was
pub record ZeroedSlots (w : ℕ) (ss : List Shape) (r z : List ℕ) : Type 0 where
  pub long : length z ≡ length r
  pub zeros : (j : ℕ) → InNullSlot w ss r j → get_or z j 0 ≡ 0
  pub others : (j : ℕ) → (InNullSlot w ss r j → ⊥) → get_or z j 0 ≡ get_or r j 0
