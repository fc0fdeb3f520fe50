-- A read of a built row puts the counts that building put.
use Prim.Native.Nat.{ℕ, suc, ◌+◌, ◌<◌}
use mathlib.Core.Path.{◌≡◌, refl, sym, ap, ap₂, ◌∙◌}
use mathlib.Core.Bool.{Bool, true, false, cond}
use mathlib.Core.List.{List, [], ◌∷◌, map}
use mathlib.Core.Option.{none, some}
use native.Mathlib.Nat.{add-zero}
use native.Mathlib.Omega.{arith}
use lib.ListN.{length, get_or}
use Rattle.row_format.specs.Places.{offset_width}
use Rattle.row_format.specs.Table.{Cell}
use Rattle.text.specs.Check.{points}
use Rattle.datatype.specs.declared.DataType.{DataType}
use Rattle.datatype.specs.Check.{type_at}
use Rattle.value.specs.declared.DataValue.{DataValue}
use Rattle.value.specs.declared.DataValue.TheVariants.{Null}
use Rattle.value.specs.Kinds.{holds_text, is_text_value}
use Rattle.value.specs.Ranges.{text_of}
use Rattle.stored_form.specs.ReadBack.{has_text}
use Rattle.stored_form.specs.Points.{points_in, stored_points}
use Rattle.stored_form.proofs.Points.{back-texts, has-text}
use Rattle.record_slot.proofs.Tests.{CellIs, null, stored}
use Rattle.row_build.specs.Build.{cells_points}
use Rattle.row_build.specs.Built.{Built}
use Rattle.row_build.proofs.Cells.{cell_at_lem}
use Rattle.round_trip.specs.ReadBack.{start_in, value_back, values_back, wanted_points, row, given_value, given_text, given_back, given_form}

-- ---- the counts of all columns, by those of each

module _ (w : ℕ) (ts : List DataType) (wanted : ℕ → Bool) (area r : List ℕ) where
  abbrev back : ℕ → DataValue → DataValue
  back i v = value_back w ts i v (text_of area v) r

  -- a null for an unwanted column, and no count
  chosen : (d : Bool) (v : DataValue) (n : ℕ) → points_in r v ≡ n → points_in r (cond d v Null) ≡ cond d n 0
  chosen true v n e = e
  chosen false v n e = refl

  counts-from : (i : ℕ) (us : List DataValue) (ss : List DataType) (cs : List Cell)
      → length us ≡ length ss → length cs ≡ length ss
      → ((k : ℕ) → k < length us → points_in r (back (i + k) (get_or us k Null)) ≡ stored_points (type_at ss k) (get_or cs k none))
      → map (points_in r) (values_back w ts wanted area r i us) ≡ wanted_points wanted i (cells_points ss cs)
  counts-from i [] [] cs m n f = refl
  counts-from i [] (s ∷ ss) cs m n f = absurd (omega arith)
  counts-from i (u ∷ us) [] cs m n f = absurd (omega arith)
  counts-from i (u ∷ us) (s ∷ ss) [] m n f = absurd (omega arith)
  counts-from i (u ∷ us) (s ∷ ss) (c ∷ cs) m n f =
      let first : points_in r (back i u) ≡ stored_points s c
      = ap (λ (j : ℕ). points_in r (back j u)) (sym (add-zero i)) ∙ f 0 (omega arith) in
      ap₂ (λ (x : ℕ) (xs : List ℕ). x ∷ xs) (chosen (wanted i) (back i u) (stored_points s c) first)
      (counts-from (suc i) us ss cs (omega arith) (omega arith)
      (λ k h.
      let j : suc i + k ≡ i + suc k = omega arith in
      ap (λ (x : ℕ). points_in r (back x (get_or us k Null))) j ∙ f (suc k) (omega arith)))

-- where all are wanted
pub all_wanted : (wanted : ℕ → Bool) (i : ℕ) (ns : List ℕ) → ((j : ℕ) → j < i + length ns → wanted j ≡ true)
    → wanted_points wanted i ns ≡ ns
all_wanted wanted i [] h = refl
all_wanted wanted i (n ∷ ns) h =
    rw (h i (omega arith)) (ap (λ (xs : List ℕ). n ∷ xs) (all_wanted wanted (suc i) ns (λ j l. h j (omega arith))))

-- ---- a build that answered Ok

module _ {sort : Bool} {schema list area out : List ℕ} {n : ℕ} {after : List ℕ}
    (b : Built sort schema list area out n after) (given : length b.given ≡ length b.columns)
    (cells : length b.cells ≡ length b.columns)
    (text : (i : ℕ) → i < length b.columns → has_text (given_value b i) ≡ true → text_of (row b) (given_back b i) ≡ given_form b i) where
  count_at : (i : ℕ) → i < length b.columns → points_in (row b) (given_back b i) ≡ stored_points (type_at b.columns i) (get_or b.cells i none)
  count_at i h = of_cell _ (cell_at_lem area b.columns b.given b.cells-good given i h)
    where
      t : DataType
      t = type_at b.columns i

      of_cell : (c : Cell) → CellIs t (given_value b i) area c → points_in (row b) (given_back b i) ≡ stored_points t c
      of_cell c (null z) = rw z
      of_cell c (stored z m a) = by_kind (holds_text t) refl
        where
          is-text : is_text_value (given_back b i) ≡ holds_text t
          is-text = rw z (back-texts t (given_value b i) m (start_in (offset_width sort) b.columns i (row b)) (given_text b i))

          by_kind : (d : Bool) → holds_text t ≡ d → points_in (row b) (given_back b i) ≡ stored_points t (some (given_form b i))
          by_kind true e = rw (is-text, e) (ap points (text i h (has-text t (given_value b i) m e)))
          by_kind false e = rw (is-text, e)

  pub counts-back : (wanted : ℕ → Bool)
      → map (points_in (row b)) (values_back (offset_width sort) b.columns wanted area (row b) 0 b.given)
      ≡ wanted_points wanted 0 (cells_points b.columns b.cells)
  counts-back wanted =
      counts-from (offset_width sort) b.columns wanted area (row b) 0 b.given b.columns b.cells given cells
      (λ k h.
      let j : 0 + k ≡ k = omega arith in
      ap (λ (x : ℕ). points_in (row b) (value_back (offset_width sort) b.columns x (given_value b k) (given_text b k) (row b))) j
      ∙ count_at k (rw given at h))
