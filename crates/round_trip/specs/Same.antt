-- FORMAT 7.4. 01, "Same content (added) compares two rows of one schema by what a read of all columns gives": on rows
-- that read, each by its own mark, and on a row that is built of what was read.
use Rattle.std.specs.Prelude.{ℕ, ◌<◌, true, Bool, List, ◌≡◌, length, get_or, take, Ok}
use Rattle.std.specs.Int.{w8}
use Rattle.std.proofs.Common.{Fits}
use Rattle.row_format.specs.Header.{is_long}
use Rattle.datatype.specs.declared.DataType.{DataType}
use Rattle.datatype.specs.Schema.{schema_of}
use Rattle.row_decode.specs.Read.{is_wanted, read_call}
use Rattle.row_same.specs.Rows.{same_call}
use Rattle.row_build.specs.Build.{build_call}

-- "a read of all columns" that answered Ok
pub record FullRead (schema r : List ℕ) : Type 0 where
  pub wanted : List ℕ
  pub all : (ts : List DataType) → schema_of (is_long r) schema ≡ Ok ts
      → (i : ℕ) → i < length ts → is_wanted wanted i ≡ true
  pub out : List ℕ
  pub counts : List ℕ
  pub size : ℕ
  pub after : List ℕ
  pub numbers : List ℕ
  pub done : read_call schema r wanted out counts ≡ (Ok size, (after, numbers))

-- the value list that it answered with
abbrev pub list_read : {schema r : List ℕ} → FullRead schema r → List ℕ
list_read q = take q.size q.after

module _ {schema r : List ℕ} (q : FullRead schema r) where
  -- such a row has the same content as itself
  abbrev pub SameAsItself : Type 0
  SameAsItself = same_call schema r r ≡ Ok true

  -- and as what is built of the values that were read, with the row as text area. The row is bytes. 02, request 5:
  -- "The caller chooses short or long when a row is made": it need not be the sort of the row that was read
  abbrev pub SameAsBuilt : Type 0
  SameAsBuilt =
      ((k : ℕ) → Fits w8 (get_or r k 0)) → (sort : Bool) (out counts : List ℕ) (n : ℕ) (after numbers : List ℕ)
      → build_call sort schema (list_read q) r out counts ≡ (Ok n, (after, numbers))
      → same_call schema r (take n after) ≡ Ok true

-- two such rows, either way round
abbrev pub SameEitherWay : {schema a b : List ℕ} → FullRead schema a → FullRead schema b → Type 0
SameEitherWay {schema} {a} {b} p q = same_call schema a b ≡ same_call schema b a
