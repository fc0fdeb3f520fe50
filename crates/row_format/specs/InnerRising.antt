-- Offsets that rise, as those of a sound row do, and the cells that they cut a row into.
use Rattle.std.specs.Prelude.{ℕ, zero, suc, ◌-◌, ◌≤◌, ◌<◌, List, [], ◌∷◌, ◌≡◌, length, take, drop}
use Rattle.std.proofs.Math.Option.{none, some}
use Rattle.laws.specs.Bytes.{entry_at}
use Rattle.row_format.specs.Table.{Cell, first_offset, range_end}
use Rattle.row_format.specs.Edit.{range_start}

-- each offset that is not 0 is at most the next one, the last at most e
abbrev pub Rising : ℕ → List ℕ → Type 0
Rising e [] = Unit {0}
Rising e (zero ∷ os) = Rising e os
Rising e (suc o ∷ os) = (suc o ≤ first_offset os e) × Rising e os

-- the cell whose offset is o and whose range ends at e
abbrev pub held_at : ℕ → ℕ → List ℕ → Cell
held_at zero e r = none
held_at (suc o) e r = some (take (e - suc o) (drop (suc o) r))

abbrev pub held_cells : List ℕ → List ℕ → List Cell
held_cells [] r = []
held_cells (o ∷ os) r = held_at o (first_offset os (length r)) r ∷ held_cells os r

-- the range of rank k, in a row r with a table of v offsets at byte t whose payloads start at least: it lies between
-- the payloads of lower and of higher rank
pub record Between (w t v k least : ℕ) (r : List ℕ) : Type 0 where
  pub past : least ≤ range_start w t v k r
  pub rises : range_start w t v k r ≤ range_end w t v k r
  pub within : range_end w t v k r ≤ length r
  pub higher : (j : ℕ) → k < j → j < v → (entry_at w t j r ≡ 0 → ⊥) → range_end w t v k r ≤ entry_at w t j r
  pub lower : (j : ℕ) → j < k → (entry_at w t j r ≡ 0 → ⊥) → entry_at w t j r ≤ range_start w t v k r
