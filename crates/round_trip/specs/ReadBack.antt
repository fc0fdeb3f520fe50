-- What a read of a built row gives: the values it was built of, with their texts as parts of the row, and the counts
-- that building put. FORMAT 7.1.
use Rattle.std.specs.Prelude.{ℕ, suc, ◌<◌, Bool, true, cond, List, [], ◌∷◌, map, ◌≡◌, length, get_or, take, Ok}
use Rattle.std.specs.Int.{w8}
use Rattle.std.proofs.Common.{Fits}
use Rattle.error.specs.Answer.{placed_both}
use Rattle.laws.specs.Bytes.{entry_at}
use Rattle.row_format.specs.Places.{rank_of, table_start, slot_place, offset_width}
use Rattle.datatype.specs.declared.DataType.{DataType}
use Rattle.datatype.specs.Types.{is_varlen, shape_of}
use Rattle.datatype.specs.Check.{type_at}
use Rattle.value.specs.declared.DataValue.{DataValue}
use Rattle.value.specs.declared.DataValue.TheVariants.{Null}
use Rattle.value.specs.Ranges.{text_of}
use Rattle.value_list.specs.Lists.{list_of}
use Rattle.stored_form.specs.Write.{stored_form}
use Rattle.stored_form.specs.ReadBack.{read_back, has_text}
use Rattle.row_column.specs.Frame.{frame_of}
use Rattle.row_column.specs.Column.{column_value}
use Rattle.row_decode.specs.Read.{is_wanted, read_call}
use Rattle.record_slot.specs.Stored.{is_null}
use Rattle.row_build.specs.Build.{cells_points}
use Rattle.row_build.specs.Built.{Built}

-- where the stored form of column i stands in a packed row r of columns ts, with offsets of w bytes: at a Varchar's
-- offset, or in its slot
abbrev pub start_in : ℕ → List DataType → ℕ → List ℕ → ℕ
start_in w ts i r =
    cond (is_varlen (type_at ts i)) (entry_at w (table_start (length ts)) (rank_of (map shape_of ts) i) r)
    (slot_place w true (map shape_of ts) i)

-- What column i gives back of a value v whose text is x: null for a null, else the value. Its text is the stored
-- form, so that a Char has its blanks and a Bit no spare bits.
abbrev pub value_back : ℕ → List DataType → ℕ → DataValue → List ℕ → List ℕ → DataValue
value_back w ts i v x r = cond (is_null v) Null (read_back (type_at ts i) (start_in w ts i r) v x)

-- of values vs for the columns from i on, with their texts in an area: "null for an unwanted column"
abbrev pub values_back : ℕ → List DataType → (ℕ → Bool) → List ℕ → List ℕ → ℕ → List DataValue → List DataValue
values_back w ts wanted area r i [] = []
values_back w ts wanted area r i (v ∷ vs) =
    cond (wanted i) (value_back w ts i v (text_of area v) r) Null ∷ values_back w ts wanted area r (suc i) vs

-- of counts ns for the columns from i on: "0 for all other columns"
abbrev pub wanted_points : (ℕ → Bool) → ℕ → List ℕ → List ℕ
wanted_points wanted i [] = []
wanted_points wanted i (n ∷ ns) = cond (wanted i) n 0 ∷ wanted_points wanted (suc i) ns

-- ---- a build that answered Ok

module _ {sort : Bool} {schema list area out : List ℕ} {n : ℕ} {after : List ℕ}
    (b : Built sort schema list area out n after) where
  -- its row; what was given for column i, and its text
  abbrev pub row : List ℕ
  row = take n after

  abbrev pub given_value : ℕ → DataValue
  given_value i = get_or b.given i Null

  abbrev pub given_text : ℕ → List ℕ
  given_text i = text_of area (given_value i)

  -- what column i gives back, and its stored form
  abbrev pub given_back : ℕ → DataValue
  given_back i = value_back (offset_width sort) b.columns i (given_value i) (given_text i) row

  abbrev pub given_form : ℕ → List ℕ
  given_form i = stored_form (type_at b.columns i) (given_value i) (given_text i)

  -- the counts that it put
  abbrev pub counts_put : List ℕ
  counts_put = cells_points b.columns b.cells

  pub record ReadsBack : Type 0 where
    -- no refusal by the header, which says packed
    pub frame : frame_of sort b.columns row ≡ Ok true
    -- each column gives back what was given for it
    pub column : (i : ℕ) → i < length b.columns
        → column_value (offset_width sort) true b.columns i row ≡ Ok (given_back i)
    -- and its text, if it has one, is the stored form
    pub text : (i : ℕ) → i < length b.columns → has_text (given_value i) ≡ true
        → text_of row (given_back i) ≡ given_form i
    -- the whole call, for any output, any list of counts and any list of wanted columns: "unknown column numbers
    -- ignored; null for an unwanted column"
    pub read : (ws o counts : List ℕ) → read_call schema row ws o counts
        ≡ placed_both o counts
        (list_of sort (values_back (offset_width sort) b.columns (is_wanted ws) area row 0 b.given))
        (wanted_points (is_wanted ws) 0 counts_put)
    -- which are all of them where all columns are wanted
    pub all-counts : (ws : List ℕ) → ((i : ℕ) → i < length b.columns → is_wanted ws i ≡ true)
        → wanted_points (is_wanted ws) 0 counts_put ≡ counts_put

  -- where the value list is a list of bytes
  abbrev pub BuiltReadsBack : Type 0
  BuiltReadsBack = ((k : ℕ) → Fits w8 (get_or list k 0)) → ReadsBack
