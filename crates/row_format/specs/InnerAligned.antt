-- What the laws on places ask of shapes (`slot-inside`, `slots_apart`, `packed_least`): each alignment is 1 or more.
use Rattle.std.specs.Prelude.{◌<◌, List, [], ◌∷◌}
use Rattle.row_format.specs.declared.Shape.{Shape}
use Rattle.row_format.specs.declared.Shape.TheVariants.{Fixed, Varlen}

abbrev pub Aligned : Shape → Type 0
Aligned (Fixed z a) = 0 < a
Aligned Varlen = Unit {0}

pub data All : List Shape → Type 0 where
  none : All []
  more : {s : Shape} {ss : List Shape} → Aligned s → All ss → All (s ∷ ss)
