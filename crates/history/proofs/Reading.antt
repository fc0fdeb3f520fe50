-- A read of all columns of a sound row.
use Rattle.std.specs.Prelude.{Err, Ok}
use Prim.Native.Nat.{ℕ, zero, suc, ◌+◌, ◌<◌}
use mathlib.Core.Path.{◌≡◌, refl, sym, ap, ap₂, ◌∙◌}
use mathlib.Core.Bool.{Bool, true, false≢true}
use mathlib.Core.List.{List, [], ◌∷◌}
use native.Mathlib.Nat.{add-zero, zero-add}
use native.Mathlib.Omega.{arith}
use lib.ListN.{length, get_or, length-map}
use Rattle.laws.proofs.Maps.{at_map}
use Rattle.laws.proofs.Truths.{both}
use Rattle.error.specs.Answer.{unchanged_both}
use Rattle.error.specs.Result.{on_result, Result}
use Rattle.row_format.specs.Places.{offset_width}
use Rattle.row_format.specs.Header.{is_long}
use Rattle.datatype.specs.declared.DataType.{DataType}
use Rattle.datatype.specs.Schema.{Parsed, schema_of}
use Rattle.value.specs.declared.DataValue.{DataValue}
use Rattle.value.specs.declared.DataValue.TheVariants as D
use Rattle.value_list.specs.Lists.{Values}
use Rattle.row_column.specs.Frame.{on_frame}
use Rattle.row_column.specs.Column.{column_value}
use Rattle.row_decode.specs.Read.{is_wanted, wanted_value, on_column, read_from, hand_out, read_row}
use Rattle.row_sound.specs.Sound.{reads, sound_column, SoundRow}
use Rattle.row_sound.specs.Reread.{content, column_content, null_content}
use Rattle.row_sound.proofs.Columns.{sound_at}
use Rattle.history.specs.Reread.{ReadsAll, contents}

abbrev value_in : Result DataValue → DataValue
value_in (Ok v) = v
value_in (Err e) = D.Null

value_read : (c : Result DataValue) → reads c ≡ true → c ≡ Ok (value_in c)
value_read (Ok v) e = refl
value_read (Err x) e = absurd (false≢true e)

-- f i, f (i + 1), .., n of them
abbrev listed : (ℕ → DataValue) → ℕ → ℕ → List DataValue
listed f i zero = []
listed f i (suc n) = f i ∷ listed f (suc i) n

length-listed : (f : ℕ → DataValue) (i n : ℕ) → length (listed f i n) ≡ n
length-listed f i zero = refl
length-listed f i (suc n) = ap suc (length-listed f (suc i) n)

at_listed : (f : ℕ → DataValue) (i n j : ℕ) (d : DataValue) → j < n → get_or (listed f i n) j d ≡ f (i + j)
at_listed f i zero j d h = absurd (omega arith)
at_listed f i (suc n) zero d h = ap f (sym (add-zero i))
at_listed f i (suc n) (suc j) d h = let e : suc i + j ≡ i + suc j = omega arith in at_listed f (suc i) n j d (omega arith) ∙ ap f e

module _ {sort : Bool} {ts : List DataType} {p : Bool} {r : List ℕ} (s : SoundRow sort ts p r) where
  abbrev column : ℕ → Result DataValue
  column j = column_value (offset_width sort) p ts j r

  abbrev value : ℕ → DataValue
  value j = value_in (column j)

  abbrev pub row_values : List DataValue
  row_values = listed value 0 (length ts)

  column-is : (j : ℕ) → j < length ts → column j ≡ Ok (value j)
  unfolding sound_column
  column-is j h = value_read (column j) (both (reads (column j)) _ (sound_at (offset_width sort) p ts r s.sound j h)).0

  -- ---- the call

  module _ (wanted : ℕ → Bool) (all : (i : ℕ) → i < length ts → wanted i ≡ true) where
    read-from : (n i : ℕ) → i + n ≡ length ts → read_from (offset_width sort) p ts wanted r i n ≡ Ok (listed value i n)
    read-from zero i e = refl
    read-from (suc n) i e =
        let h : i < length ts = omega arith in
        ap₂ (λ (x : Bool) (y : Values). on_column (wanted_value x (column i)) y) (all i h)
        (read-from n (suc i) (omega arith))
        ∙ ap (λ (c : Result DataValue). on_column c (Ok (listed value (suc i) n))) (column-is i h)

  pub reads_all : {schema : List ℕ} → is_long r ≡ sort → schema_of sort schema ≡ Ok ts → ReadsAll schema (length ts) r row_values
  reads_all {schema} m e =
      record {
        count = length-listed value 0 (length ts);
        read = λ ws o counts all. rw m
            (ap (λ (x : Parsed). on_result x (unchanged_both o counts) (λ cs. read_row sort cs r ws o counts)) e
            ∙ ap (λ (x : Result Bool). on_frame x (unchanged_both o counts)
            (λ q. hand_out sort o counts r (read_from (offset_width sort) q ts (is_wanted ws) r 0 (length ts)))) s.frame
            ∙ ap (hand_out sort o counts r) (read-from (is_wanted ws) all (length ts) 0 (zero-add (length ts))));
      }

  -- ---- what is read, by columns

  pub length-contents : length (contents r row_values) ≡ length ts
  length-contents = length-map row_values (λ (v : DataValue). content r (Ok v)) ∙ length-listed value 0 (length ts)

  pub content_at : (j : ℕ) → j < length ts → get_or (contents r row_values) j null_content ≡ column_content (offset_width sort) p ts j r
  content_at j h =
      at_map (λ (v : DataValue). content r (Ok v)) j row_values D.Null
      ∙ ap (λ (v : DataValue). content r (Ok v)) (at_listed value 0 (length ts) j D.Null h ∙ ap value (zero-add j))
      ∙ ap (content r) (sym (column-is j h))
