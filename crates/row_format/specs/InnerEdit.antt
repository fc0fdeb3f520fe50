-- For the proofs: the slots of a row after an edit.
use Rattle.std.specs.Prelude.{ℕ, List, [], get_or, set}
use Rattle.std.proofs.Math.Option.{none, some}
use Rattle.row_format.specs.declared.Shape.{Shape}
use Rattle.row_format.specs.declared.Shape.TheVariants.{Fixed, Varlen}
use Rattle.row_format.specs.Table.{Cell}

-- the slots of the row afterwards, where `slots` were those before
abbrev pub slot_kept : Shape → Cell → List ℕ → List ℕ
slot_kept (Fixed z a) none old = old
slot_kept (Fixed z a) (some b) old = b
slot_kept Varlen c old = old

abbrev pub slots_kept : List Shape → ℕ → Cell → List (List ℕ) → List (List ℕ)
slots_kept ss i c slots = set slots i (slot_kept (get_or ss i Varlen) c (get_or slots i []))
