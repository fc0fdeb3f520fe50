-- For the proofs: what suits a shape.
use Rattle.std.specs.Prelude.{ℕ, List, ◌≡◌, length}
use Rattle.std.proofs.Math.Option.{none, some}
use Rattle.row_format.specs.declared.Shape.{Shape}
use Rattle.row_format.specs.declared.Shape.TheVariants.{Fixed, Varlen}
use Rattle.row_format.specs.Table.{Cell}
use Rattle.row_format.specs.Row.{slot_size}

abbrev pub FitsSlot : Shape → List ℕ → Type 0
FitsSlot s b = length b ≡ slot_size s

abbrev pub FitsCell : Shape → Cell → Type 0
FitsCell (Fixed z a) none = Unit {0}
FitsCell (Fixed z a) (some b) = length b ≡ z
FitsCell Varlen c = Unit {0}
