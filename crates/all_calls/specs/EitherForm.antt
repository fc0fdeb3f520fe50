-- FORMAT 4.4, 4.6. 02, request 5: "Value kinds 17, 18 and 19 are Char, Varchar and Bit with start and length of four
-- bytes each [..]; they match as 8, 9 and 12 do, for either sort."
use Rattle.std.specs.Prelude.{ℕ, Bool, List, ◌≡◌, length, Ok}
use Rattle.error.specs.declared.Refusal.TheVariants.{BadValueList}
use Rattle.error.specs.Answer.{unchanged_both}
use Rattle.datatype.specs.declared.DataType.{DataType}
use Rattle.datatype.specs.Schema.{schema_of}
use Rattle.value.specs.declared.DataValue.{DataValue}
use Rattle.value_list.specs.Forms.{ListOf}
use Rattle.row_build.specs.Build.{build_call}
use Rattle.row_edit.specs.Edit.{set_call}

-- Two lists of the same values are answered alike by a build and by a set, with every byte and number that these leave,
-- where the number of values is the one that is due; of another number either gives 10 at its own length.
pub record EitherForm {vs : List DataValue} {list list' : List ℕ} (l : ListOf vs list) (l' : ListOf vs list')
    : Type 0 where
  pub build : (sort : Bool) (schema area out counts : List ℕ)
      → ((ts : List DataType) → schema_of sort schema ≡ Ok ts → length vs ≡ length ts)
      → build_call sort schema list area out counts ≡ build_call sort schema list' area out counts
  pub miscounted : (sort : Bool) (schema area out counts : List ℕ) (ts : List DataType) → schema_of sort schema ≡ Ok ts
      → (length vs ≡ length ts → ⊥)
      → build_call sort schema list area out counts ≡ unchanged_both out counts (BadValueList (length list))
  pub set : (schema buf : List ℕ) (n i : ℕ) (area : List ℕ) → length vs ≡ 1
      → set_call schema buf n i list area ≡ set_call schema buf n i list' area
