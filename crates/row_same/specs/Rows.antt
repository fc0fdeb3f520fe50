-- FORMAT 7.4. 01, "Same content (added) compares two rows of one schema by what a read of all columns gives".
use Rattle.std.specs.Prelude.{ℕ, Bool, true, false, cond, List, [], ◌∷◌, length, Err, Ok}
use Rattle.row_format.specs.Places.{offset_width}
use Rattle.row_format.specs.Header.{is_long}
use Rattle.error.specs.Result.{on_result, Result}
use Rattle.datatype.specs.declared.DataType.{DataType}
use Rattle.datatype.specs.Types.{length_of}
use Rattle.datatype.specs.Schema.{schema_of}
use Rattle.datatype.specs.Check.{types_in}
use Rattle.value.specs.declared.DataValue.{DataValue}
use Rattle.value.specs.Ranges.{text_of}
use Rattle.value_list.specs.Lists.{Values}
use Rattle.value_same.specs.Same.{same_content}
use Rattle.row_column.specs.Frame.{frame_of, on_frame}
use Rattle.row_decode.specs.Read.{read_from}

-- "a read of all columns", of a row r that is taken as of sort k
abbrev pub all_columns : Bool → List DataType → List ℕ → Values
all_columns k ts r =
    on_frame (frame_of k ts r) Err (λ p. read_from (offset_width k) p ts (λ i. true) r 0 (length ts))

-- 02, request 5: "On a read or edit the row's own mark tells the sort"
abbrev pub values_read : List ℕ → List ℕ → Values
values_read schema r = on_result (schema_of (is_long r) schema) Err (λ ts. all_columns (is_long r) ts r)

-- the values vs of row a and us of row b, column by column; a row with no value for a column has not the same content
abbrev pub same_values : List DataType → List ℕ → List DataValue → List ℕ → List DataValue → Bool
same_values [] a vs b us = true
same_values (t ∷ ts) a [] b us = false
same_values (t ∷ ts) a (v ∷ vs) b [] = false
same_values (t ∷ ts) a (v ∷ vs) b (u ∷ us) =
    cond (same_content (length_of t) v (text_of a v) u (text_of b u)) (same_values ts a vs b us) false

-- "It refuses as a read of all columns of the first row, then of the second."
abbrev pub on_values : Values → (List DataValue → Result Bool) → Result Bool
on_values (Ok vs) f = f vs
on_values (Err e) f = Err e

abbrev pub same_call : List ℕ → List ℕ → List ℕ → Result Bool
same_call schema a b =
    on_values (values_read schema a)
    (λ vs. on_values (values_read schema b) (λ us. Ok (same_values (types_in schema) a vs b us)))
