-- For the proofs: the walk over a schema's records, as the code goes it.
use Rattle.error.specs.Result.{Result}
use Rattle.std.specs.Prelude.{ℕ, ◌<◌, Bool, false, ◌||◌, List, ◌≡◌, eqb, length, Err, Ok}
use Rattle.error.specs.declared.Refusal.{Refusal}
use Rattle.row_format.specs.declared.Shape.{Shape}
use Rattle.row_format.specs.declared.Shape.TheVariants.{Varlen}
use Rattle.row_layout.specs.declared.RowLayout.{RowLayout}
use Rattle.row_layout.specs.InnerLayout.{with_column}
use Rattle.datatype.specs.declared.DataType.{DataType}
use Rattle.datatype.specs.declared.DataType.TheVariants.{Varchar}
use Rattle.datatype.specs.declared.Step.{Step}
use Rattle.datatype.specs.Types.{size_of, shape_of}
use Rattle.datatype.specs.Schema.{Kind, unknown, plain, sized, digits, column_record_at}

-- a kind that no body follows: its type, and the bytes of its column; 0 for other kinds
abbrev pub plain_size : Kind → ℕ
plain_size unknown = 0
plain_size (plain t) = size_of t
plain_size (sized t) = 0
plain_size (digits t) = 0

abbrev pub plain_type : Kind → DataType
plain_type unknown = Varchar false 0
plain_type (plain t) = t
plain_type (sized t) = Varchar false 0
plain_type (digits t) = Varchar false 0

-- 11 and 16
abbrev pub is_varchar_kind : ℕ → Bool
is_varchar_kind k = eqb k 11 || eqb k 16

-- what the layout sees of a kind that is followed by a body, whose first byte is a and both n
abbrev pub body_shape : Kind → ℕ → ℕ → Shape
body_shape unknown a n = Varlen
body_shape (plain t) a n = Varlen
body_shape (sized t) a n = shape_of (t n)
body_shape (digits t) a n = shape_of (t a 0)

-- a record that is not refused
pub record Passable (s : List ℕ) (at : ℕ) : Type 0 where
  pub here : at < length s
  pub good : (e : Refusal) → column_record_at s at ≡ Err e → ⊥

-- what comes after a record at a place, where the columns before have layout b
abbrev pub passed : ℕ → RowLayout → Result (DataType × ℕ) → Step
passed at b (Ok (t, next)) = record { at = next; before = with_column b (shape_of t) }
passed at b (Err r) = record { at = at; before = b }

-- the type that a record says
abbrev pub type_in : Result (DataType × ℕ) → DataType
type_in (Ok (t, next)) = t
type_in (Err r) = Varchar false 0
