-- FORMAT 7.4. 01, "Same content": "compares two rows of one schema by what a read of all columns gives, null or a
-- value"; "It refuses as a read of all columns of the first row, then of the second."
use Rattle.std.specs.Prelude.{ℕ, ◌<◌, Bool, true, List, map, ◌↔◌, ◌≡◌, length, get_or, Err, Ok}
use Rattle.error.specs.declared.Refusal.{Refusal}
use Rattle.error.specs.Answer.{unchanged_both, placed_both}
use Rattle.row_format.specs.Header.{is_long}
use Rattle.datatype.specs.declared.DataType.{DataType}
use Rattle.datatype.specs.Types.{length_of}
use Rattle.datatype.specs.Schema.{schema_of}
use Rattle.datatype.specs.Check.{type_at}
use Rattle.value.specs.declared.DataValue.{DataValue}
use Rattle.value.specs.declared.DataValue.TheVariants.{Null}
use Rattle.value.specs.Ranges.{text_of}
use Rattle.value_list.specs.Lists.{list_of}
use Rattle.value_same.specs.Same.{same_content}
use Rattle.stored_form.specs.Points.{points_in}
use Rattle.row_decode.specs.Read.{is_wanted, read_call}
use Rattle.row_same.specs.Rows.{same_call}

-- the list of wanted columns has all that the schema has for rows of r's sort
abbrev pub WantsAll : List ℕ → List ℕ → List ℕ → Type 0
WantsAll schema r wanted =
    (ts : List DataType) → schema_of (is_long r) schema ≡ Ok ts → (i : ℕ) → i < length ts → is_wanted wanted i ≡ true

-- "a read of all columns" refuses with e, whatever room it has: so not for want of room, 14
abbrev pub ReadRefuses : List ℕ → List ℕ → Refusal → Type 0
ReadRefuses schema r e =
    (wanted out counts : List ℕ) → WantsAll schema r wanted
    → read_call schema r wanted out counts ≡ unchanged_both out counts e

-- it gives the values vs of columns ts
pub record ReadGives (schema r : List ℕ) (ts : List DataType) (vs : List DataValue) : Type 0 where
  pub columns : schema_of (is_long r) schema ≡ Ok ts
  pub many : length vs ≡ length ts
  pub read : (wanted out counts : List ℕ) → WantsAll schema r wanted
      → read_call schema r wanted out counts ≡ placed_both out counts (list_of (is_long r) vs) (map (points_in r) vs)

module _ (schema a b : List ℕ) where
  -- "the first row, then [..] the second"
  pub data RefusedAs (e : Refusal) : Type 0 where
    first : ReadRefuses schema a e → RefusedAs e
    second : {ts : List DataType} {vs : List DataValue} → ReadGives schema a ts vs → ReadRefuses schema b e
        → RefusedAs e

  -- both are read, and x says whether every column has the same content in both
  pub record ComparedBy (x : Bool) : Type 0 where
    pub columns : List DataType
    pub first-values : List DataValue
    pub second-values : List DataValue
    pub first_read : ReadGives schema a columns first-values
    pub second-read : ReadGives schema b columns second-values
    pub same : (x ≡ true)
        ↔ ((i : ℕ) → i < length columns → same_content (length_of (type_at columns i))
        (get_or first-values i Null) (text_of a (get_or first-values i Null))
        (get_or second-values i Null) (text_of b (get_or second-values i Null)) ≡ true)

  pub record SameAsRead : Type 0 where
    pub refuses : (e : Refusal) → (same_call schema a b ≡ Err e) ↔ RefusedAs e
    pub tells : (x : Bool) → same_call schema a b ≡ Ok x → ComparedBy x
