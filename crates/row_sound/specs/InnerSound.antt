-- For the proofs: whether a row is sound, without its flag.
use Rattle.std.specs.Prelude.{ℕ, Bool, false, List}
use Rattle.row_format.specs.Places.{offset_width}
use Rattle.datatype.specs.declared.DataType.{DataType}
use Rattle.row_column.specs.Frame.{frame_of, on_frame}
use Rattle.row_sound.specs.Sound.{is_sound_in}

-- 15: "row to be edited is not sound"; whatever refuses its header refuses the row
abbrev pub is_sound : Bool → List DataType → List ℕ → Bool
is_sound k ts r = on_frame (frame_of k ts r) (λ e. false) (λ p. is_sound_in (offset_width k) p ts r)
