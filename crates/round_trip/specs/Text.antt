-- FORMAT 7.3. 01, "A further call (added) answers with a column's text": the text call beside a read of that column,
-- and on rows that were built.
use Rattle.std.specs.Prelude.{ℕ, ◌<◌, true, Bool, List, [], ◌∷◌, ◌↔◌, ◌≡◌, length, get_or, set, replicate, Err, Ok}
use Rattle.std.specs.Int.{w8}
use Rattle.std.proofs.Common.{Fits}
use Rattle.error.specs.declared.Refusal.{Refusal}
use Rattle.error.specs.declared.Refusal.TheVariants.{NoSuchColumn, WrongKind}
use Rattle.error.specs.Answer.{Counted, unchanged_both, placed_both}
use Rattle.row_format.specs.Header.{is_long}
use Rattle.datatype.specs.Check.{type_at}
use Rattle.value.specs.declared.TextRange.{TextRange}
use Rattle.value.specs.declared.DataValue.{DataValue}
use Rattle.value.specs.declared.DataValue.TheVariants.{Null}
use Rattle.value.specs.Kinds.{holds_text}
use Rattle.value.specs.Ranges.{range_of}
use Rattle.value_list.specs.Lists.{list_of}
use Rattle.stored_form.specs.Points.{points_in}
use Rattle.row_decode.specs.Read.{read_call}
use Rattle.row_text.specs.Text.{text_call, text_part}
use Rattle.row_build.specs.Built.{Built}
use Rattle.round_trip.specs.ReadBack.{row, given_back, given_form}

-- ---- "It refuses as a read of that column"

module _ (schema r : List ℕ) (i : ℕ) where
  -- a read of column i alone
  abbrev pub read_column : List ℕ → List ℕ → Counted
  read_column out counts = read_call schema r (i ∷ []) out counts

  -- Such a read answers with `value` for that column, "null for an unwanted column", and with its count, "0 for all
  -- other columns"; the value has the range x. "A null [..] gives the empty part".
  pub record Names (x : TextRange) : Type 0 where
    pub columns : ℕ
    pub inside : i < columns
    pub value : DataValue
    pub range : range_of value ≡ x
    pub read : (out counts : List ℕ) → read_column out counts
        ≡ placed_both out counts (list_of (is_long r) (set (replicate columns Null) i value))
        (set (replicate columns 0) i (points_in r value))
    pub null-empty : value ≡ Null → text_part r (Ok x) ≡ []

  -- both refuse alike, whatever room the read has; else the part is the range that the read's record names
  pub record AsRead : Type 0 where
    pub refuses : (e : Refusal)
        → (text_call schema r i ≡ Err e)
        ↔ ((out counts : List ℕ) → read_column out counts ≡ unchanged_both out counts e)
    pub names : (x : TextRange) → text_call schema r i ≡ Ok x → Names x

  -- "9 and 11 (not Char, Character or Varchar) come after 2": where the text call answers neither of them
  abbrev pub TextAsRead : Type 0
  TextAsRead =
      (text_call schema r i ≡ Err NoSuchColumn → ⊥)
      → (text_call schema r i ≡ Err (WrongKind i) → ⊥)
      → AsRead

-- ---- a build that answered Ok

module _ {sort : Bool} {schema list area out : List ℕ} {n : ℕ} {after : List ℕ}
    (b : Built sort schema list area out n after) where
  -- a column that holds text: no refusal, and the part is the stored form of what was given, which is empty for a null
  pub record TextBack (i : ℕ) : Type 0 where
    pub answer : text_call schema (row b) i ≡ Ok (range_of (given_back b i))
    pub text : text_part (row b) (text_call schema (row b) i) ≡ given_form b i

  -- where the value list is a list of bytes
  abbrev pub BuiltTextBack : Type 0
  BuiltTextBack =
      ((k : ℕ) → Fits w8 (get_or list k 0))
      → (i : ℕ) → i < length b.columns → holds_text (type_at b.columns i) ≡ true → TextBack i
