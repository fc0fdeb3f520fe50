-- FORMAT 4.5, 7.1. 01: "A read answers with such a list whose text area is the row itself." So each range that it names
-- lies in the row.
use Rattle.std.specs.Prelude.{ℕ, ◌+◌, ◌≤◌, ◌<◌, List, ◌≡◌, length, get_or, take, Ok}
use Rattle.std.specs.Int.{w8}
use Rattle.std.proofs.Common.{Fits}
use Rattle.row_format.specs.Header.{is_long}
use Rattle.value.specs.declared.DataValue.{DataValue}
use Rattle.value.specs.declared.DataValue.TheVariants.{Null}
use Rattle.value.specs.Ranges.{range_of}
use Rattle.value_list.specs.Lists.{list_of}
use Rattle.row_decode.specs.Read.{read_call}

-- the first n bytes of the output are the list of values whose ranges, of those that have one, lie in r
pub record ValuesInside (r : List ℕ) (n : ℕ) (after : List ℕ) : Type 0 where
  pub values : List DataValue
  pub list : take n after ≡ list_of (is_long r) values
  pub inside : (i : ℕ) → i < length values
      → (range_of (get_or values i Null)).start + (range_of (get_or values i Null)).length ≤ length r

-- every read that answers Ok, of a row of bytes
abbrev pub ReadInside : (schema r wanted out counts : List ℕ) → Type 0
ReadInside schema r wanted out counts =
    ((j : ℕ) → Fits w8 (get_or r j 0)) → (n : ℕ) (after numbers : List ℕ)
    → read_call schema r wanted out counts ≡ (Ok n, (after, numbers)) → ValuesInside r n after
