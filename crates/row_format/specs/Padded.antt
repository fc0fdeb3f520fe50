-- FORMAT 3.3. 01, "Layout": "Padded, flag clear, rounds each start up to its alignment, counted from the first fixed
-- byte". What that says of the number, whatever way it is worked out.
use Rattle.std.specs.Prelude.{ℕ, ◌+◌, ◌%◌, ◌≤◌, ◌<◌, true, false, List, ◌≡◌, get_or, take}
use Rattle.row_format.specs.declared.Shape.{Shape}
use Rattle.row_format.specs.declared.Shape.TheVariants.{Fixed, Varlen}
use Rattle.row_format.specs.Places.{fixed_size, slot_start}

-- to is the least multiple of a that is at least `at`
pub record RoundedUp (a at to : ℕ) : Type 0 where
  pub multiple : to % a ≡ 0
  pub reaches : at ≤ to
  pub least : to < at + a

-- A fixed column starts where the fixed columns before it end: at that very byte in a packed row, and rounded up to its
-- alignment in a padded one.
pub record StartsAt (ss : List Shape) (i a : ℕ) : Type 0 where
  pub packed : slot_start true ss i ≡ fixed_size true (take i ss)
  pub padded : RoundedUp a (fixed_size false (take i ss)) (slot_start false ss i)

abbrev pub FixedStarts : (ss : List Shape) (i z a : ℕ) → Type 0
FixedStarts ss i z a = get_or ss i Varlen ≡ Fixed z a → 0 < a → StartsAt ss i a
