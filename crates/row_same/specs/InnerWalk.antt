-- For the proofs: the comparison of two rows, as the code goes it.
use Rattle.error.specs.Result.{Result}
use Rattle.std.specs.Prelude.{ℕ, Bool, true, List, ◌≡◌, length, Err, Ok}
use Rattle.row_layout.specs.declared.RowLayout.{RowLayout}
use Rattle.row_layout.specs.InnerLayout.{no_columns}
use Rattle.datatype.specs.declared.DataType.{DataType}
use Rattle.datatype.specs.Types.{length_of}
use Rattle.datatype.specs.Check.{types_in}
use Rattle.datatype.specs.InnerCheck.{finished}
use Rattle.value.specs.declared.DataValue.{DataValue}
use Rattle.value.specs.Ranges.{text_of}
use Rattle.value_list.specs.Lists.{Values}
use Rattle.value_same.specs.Same.{same_content}
use Rattle.value_same.specs.InnerFields.{stands_in}
use Rattle.row_column.specs.Frame.{on_frame}
use Rattle.row_column.specs.InnerWalk.{walked_frame, walked_column}
use Rattle.row_decode.specs.InnerWalk.{walked_read}
use Rattle.row_same.specs.Rows.{same_values, on_values}

-- the value v of a column of row a, and what the column of row b reads as
abbrev pub compared_with : DataType → DataValue → List ℕ → Result DataValue → List ℕ → Result Bool
compared_with t v a (Err e) b = Err e
compared_with t v a (Ok w) b = Ok (same_content (length_of t) v (text_of a v) w (text_of b w))

-- what both read as
abbrev pub compared : DataType → List ℕ → Result DataValue → List ℕ → Result DataValue → Result Bool
compared t a (Err e) b d = Err e
compared t a (Ok v) b d = compared_with t v a d b

-- the column of type t that comes after those of layout x, in a row a with layout l and a row b with layout m, packed
-- by p and q
abbrev pub compared_at : DataType → RowLayout → RowLayout → Bool → List ℕ → RowLayout → Bool → List ℕ → Result Bool
compared_at t x l p a m q b = compared t a (walked_column l p x t a) b (walked_column m q x t b)

-- all columns of a row with layout l
abbrev pub walked_all : List DataType → RowLayout → List ℕ → Bool → Values
walked_all ts l r p = walked_read l p (λ i. true) r no_columns ts

-- its header first
abbrev pub walked_row : List DataType → RowLayout → List ℕ → Values
walked_row ts l r = on_frame (walked_frame l r) Err (walked_all ts l r)

-- and before it the test that comes after the last record of the schema, whose records are good
abbrev pub on_limit : Result RowLayout → Values → Values
on_limit (Ok l) vs = vs
on_limit (Err e) vs = Err e

abbrev pub limited_row : List ℕ → RowLayout → List ℕ → Values
limited_row s l r = on_limit (finished (length s) l) (walked_row (types_in s) l r)

-- what all columns of both rows read as
abbrev pub both_read : List DataType → List ℕ → Values → List ℕ → Values → Result Bool
both_read ts a first b second = on_values first (λ vs. on_values second (λ us. Ok (same_values ts a vs b us)))

abbrev pub AllRead : Values → Type 0
AllRead (Ok vs) = Unit {0}
AllRead (Err e) = ⊥

-- a value that was read has its text in the row
abbrev pub Stands : DataType → List ℕ → Result DataValue → Type 0
Stands t r (Ok v) = stands_in (length_of t) v r ≡ true
Stands t r (Err e) = Unit {0}
