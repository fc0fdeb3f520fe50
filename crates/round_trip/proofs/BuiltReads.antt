-- A built row as a row that reads: each of its columns gives back what was given for it.
use Rattle.error.specs.Result.{Result}
use Rattle.std.specs.Prelude.{Err}
use Prim.Native.Nat.{ℕ, zero, suc, ◌+◌, ◌<◌}
use mathlib.Core.Path.{◌≡◌, refl, sym, ap, ◌∙◌}
use mathlib.Core.Bool.{Bool, true}
use mathlib.Core.List.{List, [], ◌∷◌}
use native.Mathlib.Nat.{add-zero}
use native.Mathlib.Omega.{arith}
use lib.ListN.{length, get_or}
use Rattle.row_format.specs.Places.{offset_width}
use Rattle.datatype.specs.declared.DataType.{DataType}
use Rattle.value.specs.declared.DataValue.{DataValue}
use Rattle.value.specs.declared.DataValue.TheVariants.{Null}
use Rattle.value.specs.Ranges.{text_of}
use Rattle.value_list.specs.InnerLists.{AllSized}
use Rattle.row_column.specs.Frame.{on_frame}
use Rattle.row_decode.specs.Read.{read_from}
use Rattle.row_same.proofs.Read.{ReadsAs}
use Rattle.row_build.specs.Built.{Built}
use Rattle.round_trip.specs.ReadBack.{value_back, values_back, row, given_back}
use Rattle.round_trip.proofs.Sorts.{built-sort}
use Rattle.round_trip.proofs.ReadBack.{taken, frame_back, columns-back}

-- ---- all values of a list, one by one

abbrev wanted : ℕ → Bool
wanted j = true

module _ (w : ℕ) (ts : List DataType) (area r : List ℕ) where
  many-back : (i : ℕ) (vs : List DataValue) → length (values_back w ts wanted area r i vs) ≡ length vs
  many-back i [] = refl
  many-back i (v ∷ vs) = ap suc (many-back (suc i) vs)

  back_at : (i : ℕ) (vs : List DataValue) (k : ℕ) → k < length vs
      → get_or (values_back w ts wanted area r i vs) k Null
      ≡ value_back w ts (i + k) (get_or vs k Null) (text_of area (get_or vs k Null)) r
  back_at i [] k h = absurd (omega arith)
  back_at i (v ∷ vs) zero h = ap (λ (j : ℕ). value_back w ts j v (text_of area v) r) (sym (add-zero i))
  back_at i (v ∷ vs) (suc k) h =
      let next : suc i + k ≡ i + suc k = omega arith in
      back_at (suc i) vs k (omega arith)
      ∙ ap (λ (j : ℕ). value_back w ts j (get_or vs k Null) (text_of area (get_or vs k Null)) r) next

-- ---- a build that answered Ok

module _ {sort : Bool} {schema list area out : List ℕ} {n : ℕ} {after : List ℕ}
    (b : Built sort schema list area out n after) where
  abbrev pub all_back : List DataValue
  all_back = values_back (offset_width sort) b.columns wanted area (row b) 0 b.given

  pub all-many : length all_back ≡ length b.columns
  all-many = many-back (offset_width sort) b.columns area (row b) 0 b.given ∙ (taken b).count

  pub all_at : (i : ℕ) → i < length b.columns → get_or all_back i Null ≡ given_back b i
  all_at i h =
      let first : 0 + i ≡ i = omega arith in
      back_at (offset_width sort) b.columns area (row b) 0 b.given i (rw (taken b).count h)
      ∙ ap (λ (j : ℕ). value_back (offset_width sort) b.columns j (get_or b.given i Null) (text_of area (get_or b.given i Null)) (row b)) first

  pub built-reads : AllSized b.given → ReadsAs schema (row b) b.columns all_back
  built-reads sized =
      record {
        sort = sort;
        marked = built-sort b;
        schema-good = b.schema-good;
        all_read =
            ap (λ (f : Result Bool). on_frame f Err (λ p. read_from (offset_width sort) p b.columns wanted (row b) 0 (length b.columns)))
            (frame_back b)
            ∙ columns-back b sized wanted;
      }
