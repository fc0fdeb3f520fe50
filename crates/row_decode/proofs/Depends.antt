-- A read depends on the header and on what its wanted columns depend on, and on no other byte of the row; its counts as
-- its values.
use Rattle.std.specs.Prelude.{Err, Ok}
use Prim.Native.Nat.{ℕ, zero, suc, ◌+◌, ◌≤◌}
use mathlib.Core.Path.{◌≡◌, refl, sym, ap, ap₂, ◌∙◌}
use mathlib.Core.Bool.{Bool, true, false, cond}
use mathlib.Core.List.{List, [], ◌∷◌, map}
use native.Mathlib.Omega.{arith}
use lib.ListN.{length, take}
use Rattle.error.specs.Answer.{unchanged_both, placed_both}
use Rattle.error.specs.Result.{on_result, Result}
use Rattle.row_format.specs.Places.{minimum, offset_width, row_limit}
use Rattle.datatype.specs.declared.DataType.{DataType}
use Rattle.datatype.specs.Types.{shape_of}
use Rattle.datatype.specs.Schema.{Parsed, schema_of}
use Rattle.text.specs.Check.{points}
use Rattle.value.specs.declared.DataValue.{DataValue}
use Rattle.value.specs.Kinds.{is_text_value}
use Rattle.value.specs.Ranges.{text_of}
use Rattle.value_list.specs.Lists.{Values, list_of}
use Rattle.stored_form.specs.Points.{points_in}
use Rattle.row_column.specs.Column.{column_value}
use Rattle.row_format.specs.Header.{is_packed, is_long}
use Rattle.row_format.proofs.Header.{sort_of_lem}
use Rattle.row_column.specs.Frame.{frame_of, on_frame}
use Rattle.row_column.proofs.Framing.{same_good}
use Rattle.row_column.proofs.Depends.{column_depends, SameText, text_depends, frame_depends}
use Rattle.row_decode.specs.Read.{is_wanted, wanted_value, on_column, read_from, hand_out, read_row, read_call}
use Rattle.row_decode.specs.Depends.{SameWanted}

same-wanted : (wanted : Bool) {c c' : Result DataValue} → (wanted ≡ true → c ≡ c') → wanted_value wanted c ≡ wanted_value wanted c'
same-wanted true h = h refl
same-wanted false h = refl

columns_depend : (w : ℕ) (p : Bool) (ts : List DataType) (wanted : ℕ → Bool) (r r' : List ℕ)
    → SameWanted w p ts wanted r r'
    → (n i : ℕ) → i + n ≡ length ts → read_from w p ts wanted r i n ≡ read_from w p ts wanted r' i n
columns_depend w p ts wanted r r' s zero i e = refl
columns_depend w p ts wanted r r' s (suc n) i e =
    ap₂ on_column (same-wanted (wanted i) (λ a. column_depends w p ts i r r' (s i (omega arith) a)))
    (columns_depend w p ts wanted r r' s n (suc i) (omega arith))

-- ---- the counts of what was read

module _ (r r' : List ℕ) where
  abbrev SameCounts : Values → Type 0
  SameCounts (Ok vs) = map (points_in r) vs ≡ map (points_in r') vs
  SameCounts (Err e) = Unit {0}

  text-counted : (v : DataValue) → text_of r v ≡ text_of r' v → points_in r v ≡ points_in r' v
  text-counted v e = ap (λ (x : List ℕ). cond (is_text_value v) (points x) 0) e

  on_counted : (c : Result DataValue) (rest : Values) → SameText r r' c → SameCounts rest → SameCounts (on_column c rest)
  on_counted (Ok v) (Ok vs) h k = ap₂ (λ (n : ℕ) (ns : List ℕ). n ∷ ns) (text-counted v h) k
  on_counted (Ok v) (Err e) h k = tt
  on_counted (Err e) rest h k = tt

  wanted-text : (wanted : Bool) (c : Result DataValue) → (wanted ≡ true → SameText r r' c) → SameText r r' (wanted_value wanted c)
  wanted-text true c h = h refl
  wanted-text false c h = refl

  counts_depend : (w : ℕ) (p : Bool) (ts : List DataType) (wanted : ℕ → Bool) → SameWanted w p ts wanted r r'
      → (n i : ℕ) → i + n ≡ length ts → SameCounts (read_from w p ts wanted r i n)
  counts_depend w p ts wanted s zero i e = refl
  counts_depend w p ts wanted s (suc n) i e =
      on_counted (wanted_value (wanted i) (column_value w p ts i r)) (read_from w p ts wanted r (suc i) n)
      (wanted-text (wanted i) (column_value w p ts i r) (λ a. text_depends r r' w p ts i (s i (omega arith) a)))
      (counts_depend w p ts wanted s n (suc i) (omega arith))

  handed-same : (k : Bool) (out counts : List ℕ) (vs : Values) → SameCounts vs → hand_out k out counts r vs ≡ hand_out k out counts r' vs
  handed-same k out counts (Ok vs) e = ap (placed_both out counts (list_of k vs)) e
  handed-same k out counts (Err e) h = refl

-- the answer, the values and the counts, of rows that are taken as of sort k
pub row_depends : (k : Bool) (ts : List DataType) (r r' ws out counts : List ℕ) → take 4 r ≡ take 4 r'
    → length r ≤ row_limit k → length r' ≤ row_limit k
    → minimum (offset_width k) (is_packed r) (map shape_of ts) ≤ length r → minimum (offset_width k) (is_packed r) (map shape_of ts) ≤ length r'
    → ((p : Bool) → frame_of k ts r ≡ Ok p → SameWanted (offset_width k) p ts (is_wanted ws) r r')
    → read_row k ts r ws out counts ≡ read_row k ts r' ws out counts
row_depends k ts r r' ws out counts e a a' m m' s =
    same_good (frame_of k ts r) (unchanged_both out counts)
    (λ p g.
    handed-same r r' k out counts (read_from (offset_width k) p ts (is_wanted ws) r 0 (length ts))
    (counts_depend r r' (offset_width k) p ts (is_wanted ws) (s p g) (length ts) 0 (omega arith))
    ∙ ap (hand_out k out counts r') (columns_depend (offset_width k) p ts (is_wanted ws) r r' (s p g) (length ts) 0 (omega arith)))
    ∙ ap (λ (f : Result Bool). on_frame f (unchanged_both out counts) (λ p. hand_out k out counts r' (read_from (offset_width k) p ts (is_wanted ws) r' 0 (length ts))))
    (frame_depends k ts r r' e a a' m m')

-- ---- the mark stands in the header

mark_front : (r : List ℕ) → 4 ≤ length r → is_long r ≡ is_long (take 4 r)
mark_front [] h = absurd (omega arith)
mark_front (a ∷ []) h = absurd (omega arith)
mark_front (a ∷ b ∷ []) h = absurd (omega arith)
mark_front (a ∷ b ∷ c ∷ []) h = absurd (omega arith)
mark_front (a ∷ b ∷ c ∷ d ∷ r) h = sort_of_lem (a ∷ b ∷ c ∷ d ∷ r) h ∙ sym (sort_of_lem (a ∷ b ∷ c ∷ d ∷ []) (omega arith))

same_mark : (r r' : List ℕ) → take 4 r ≡ take 4 r' → 4 ≤ length r → 4 ≤ length r' → is_long r ≡ is_long r'
same_mark r r' e h h' = mark_front r h ∙ ap is_long e ∙ sym (mark_front r' h')

-- the whole call, with a schema that is good for rows of the first row's sort
pub read_depends : (schema : List ℕ) {ts : List DataType} (r r' ws out counts : List ℕ) → schema_of (is_long r) schema ≡ Ok ts
    → take 4 r ≡ take 4 r'
    → length r ≤ row_limit (is_long r) → length r' ≤ row_limit (is_long r)
    → minimum (offset_width (is_long r)) (is_packed r) (map shape_of ts) ≤ length r → minimum (offset_width (is_long r)) (is_packed r) (map shape_of ts) ≤ length r'
    → ((p : Bool) → frame_of (is_long r) ts r ≡ Ok p → SameWanted (offset_width (is_long r)) p ts (is_wanted ws) r r')
    → read_call schema r ws out counts ≡ read_call schema r' ws out counts
read_depends schema {ts} r r' ws out counts good e a a' m m' s =
    let k : Bool = is_long r in
    on k good r ∙ row_depends k ts r r' ws out counts e a a' m m' s ∙ sym (on k good r')
    ∙ ap (λ (q : Bool). on_result (schema_of q schema) (unchanged_both out counts) (λ us. read_row q us r' ws out counts)) (same_mark r r' e (omega arith) (omega arith))
  where
    on : (k : Bool) → schema_of k schema ≡ Ok ts → (q : List ℕ)
        → on_result (schema_of k schema) (unchanged_both out counts) (λ us. read_row k us q ws out counts) ≡ read_row k ts q ws out counts
    on k h q = ap (λ (p : Parsed). on_result p (unchanged_both out counts) (λ us. read_row k us q ws out counts)) h
