-- 01, "Null flag (`is_column_null_in_row`, no schema)": what it answers for rows that were built. FORMAT 7.5.
use Rattle.std.specs.Prelude.{ℕ, ◌≤◌, ◌<◌, List, ◌≡◌, length, Bool, Err, Ok}
use Rattle.error.specs.declared.Refusal.TheVariants.{NoSuchColumn}
use Rattle.null_bitmap.specs.Bitmap.{null_flag}
use Rattle.record_slot.specs.Stored.{is_null}
use Rattle.row_build.specs.Built.{Built}
use Rattle.round_trip.specs.ReadBack.{row, given_value}

-- a build that answered Ok: whether null was given for a column; "9 against the header's count" past the last one
pub record NullsBack {sort : Bool} {schema list area out : List ℕ} {n : ℕ} {after : List ℕ}
    (b : Built sort schema list area out n after) : Type 0 where
  pub flag : (i : ℕ) → i < length b.columns → null_flag (row b) i ≡ Ok (is_null (given_value b i))
  pub past : (i : ℕ) → length b.columns ≤ i → null_flag (row b) i ≡ Err NoSuchColumn
