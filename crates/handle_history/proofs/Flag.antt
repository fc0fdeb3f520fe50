-- The flag of the row at the front of a buffer.
use Prim.Native.Nat.{ℕ}
use mathlib.Core.Bool.{Bool}
use mathlib.Core.List.{List}
use mathlib.Core.Path.{◌≡◌, sym, ap, ◌∙◌}
use native.Mathlib.Omega.{arith}
use lib.ListN.{take, drop, take-append-drop}
use Rattle.row_format.specs.Places.{offset_width}
use Rattle.row_format.specs.Header.{is_packed}
use Rattle.row_format.proofs.Header.{flag_front}
use Rattle.datatype.specs.declared.DataType.{DataType}
use Rattle.row_sound.specs.Sound.{SoundRow}
use Rattle.row_sound.proofs.Columns.{sound-long}
use Rattle.row_sound.proofs.Rows.{row-flag}

pub flag-row : {sort : Bool} {ts : List DataType} {p : Bool} (buf : List ℕ) (n : ℕ) → SoundRow sort ts p (take n buf) → is_packed buf ≡ p
flag-row {sort} {ts} {p} buf n s =
    let long = sound-long (offset_width sort) p ts (take n buf) s.sound in
    ap is_packed (sym (take-append-drop n buf)) ∙ flag_front (take n buf) (drop n buf) (omega arith) ∙ row-flag s
