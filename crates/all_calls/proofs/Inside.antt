-- The ranges that a read names lie in the row.
use Rattle.error.specs.Result.{Result}
use Rattle.std.specs.Prelude.{Err, Ok}
use Prim.Native.Nat.{ℕ, zero, suc, ◌+◌, ◌≤◌, ◌<◌}
use mathlib.Core.Path.{◌≡◌, refl, sym, subst}
use mathlib.Core.Bool.{Bool, true, false}
use mathlib.Core.List.{List, ◌∷◌, map}
use native.Mathlib.Omega.{arith}
use lib.ListN.{length, get_or}
use Rattle.laws.proofs.Bytes.{AllBytes}
use Rattle.error.specs.declared.Refusal.{Refusal}
use Rattle.error.specs.Answer.{Counted, unchanged_both}
use Rattle.row_format.specs.Places.{varlens, minimum, offset_width}
use Rattle.row_format.specs.Header.{is_long}
use Rattle.row_format.proofs.Sorts.{limit_le}
use Rattle.datatype.specs.declared.DataType.{DataType}
use Rattle.datatype.specs.Types.{shape_of}
use Rattle.datatype.specs.Schema.{schema_of}
use Rattle.value.specs.declared.DataValue.{DataValue}
use Rattle.value.specs.declared.DataValue.TheVariants.{Null}
use Rattle.value.specs.Ranges.{range_of}
use Rattle.value_list.specs.Lists.{Values, list_of}
use Rattle.stored_form.specs.Points.{points_in}
use Rattle.row_column.specs.Frame.{frame_of}
use Rattle.row_column.specs.Column.{column_value}
use Rattle.row_column.proofs.Framing.{fine}
use Rattle.row_decode.specs.Read.{is_wanted, wanted_value, on_column, read_from, hand_out}
use Rattle.row_build.proofs.Built.{IsDone, placed_both_done}
use Rattle.round_trip.proofs.Columns.{column-read}
use Rattle.round_trip.proofs.Types.{column-digits, column-scale}
use Rattle.all_calls.specs.Inside.{ValuesInside, ReadInside}
use Rattle.all_calls.proofs.Steps.{by_result, by_frame}

module _ (schema r : List ℕ) (octets : AllBytes r) where
  abbrev k : Bool
  k = is_long r

  abbrev Inside : DataValue → Type 0
  Inside v = (range_of v).start + (range_of v).length ≤ length r

  abbrev IfInside : Result DataValue → Type 0
  IfInside (Ok v) = Inside v
  IfInside (Err e) = Unit {0}

  abbrev AllInside : Values → Type 0
  AllInside (Ok vs) = (j : ℕ) → j < length vs → Inside (get_or vs j Null)
  AllInside (Err e) = Unit {0}

  with_first : (v : DataValue) (vs : List DataValue) → Inside v → ((j : ℕ) → j < length vs → Inside (get_or vs j Null))
      → (j : ℕ) → j < suc (length vs) → Inside (get_or (v ∷ vs) j Null)
  with_first v vs h rest zero l = h
  with_first v vs h rest (suc j) l = rest j (omega arith)

  on_inside : (c : Result DataValue) (q : Values) → IfInside c → AllInside q → AllInside (on_column c q)
  on_inside (Ok v) (Ok vs) h rest = with_first v vs h rest
  on_inside (Ok v) (Err e) h rest = tt
  on_inside (Err e) q h rest = tt

  wanted-inside : (b : Bool) (c : Result DataValue) → IfInside c → IfInside (wanted_value b c)
  wanted-inside true c h = h
  wanted-inside false c h = omega arith

  module _ (ts : List DataType) (good : schema_of k schema ≡ Ok ts) (p : Bool) (frame : frame_of k ts r ≡ Ok p) where
    column-inside : (i : ℕ) → i < length ts → (c : Result DataValue) → column_value (offset_width k) p ts i r ≡ c → IfInside c
    column-inside i h (Err e) q = tt
    column-inside i h (Ok v) q =
        let f = fine k (length ts) (varlens (map shape_of ts)) (λ x. minimum (offset_width k) x (map shape_of ts)) r frame in
        (column-read (offset_width k) p ts r octets (omega (arith, f.short, limit_le k)) f.long i h
        (column-digits k schema good i h) (column-scale k schema good i h) q).placed.inside

    reads-inside : (wanted : ℕ → Bool) (n i : ℕ) → i + n ≡ length ts → AllInside (read_from (offset_width k) p ts wanted r i n)
    reads-inside wanted zero i e = λ j h. absurd (omega arith)
    reads-inside wanted (suc n) i e =
        on_inside (wanted_value (wanted i) (column_value (offset_width k) p ts i r)) _
        (wanted-inside (wanted i) (column_value (offset_width k) p ts i r)
        (column-inside i (omega arith) (column_value (offset_width k) p ts i r) refl))
        (reads-inside wanted n (suc i) (omega arith))

  -- ---- the call

  abbrev IfDone : Counted → Type 0
  IfDone o = (n : ℕ) (after numbers : List ℕ) → o ≡ (Ok n, (after, numbers)) → ValuesInside r n after

  none_done : (out counts : List ℕ) (e : Refusal) → IfDone (unchanged_both out counts e)
  none_done out counts e n after numbers h = absurd (subst IsDone (sym h) tt)

  handed-inside : (out counts : List ℕ) (u : Values) → AllInside u → IfDone (hand_out k out counts r u)
  handed-inside out counts (Err e) h = none_done out counts e
  handed-inside out counts (Ok vs) h = λ n after numbers q.
      record { values = vs; list = (placed_both_done out counts (list_of k vs) (map (points_in r) vs) q).bytes.part; inside = h }

pub read-inside : (schema r wanted out counts : List ℕ) → ReadInside schema r wanted out counts
read-inside schema r wanted out counts octets =
    by_result (IfDone schema r octets) (schema_of (is_long r) schema) (none_done schema r octets out counts) (λ ts good.
    by_frame (IfDone schema r octets) (frame_of (is_long r) ts r) (none_done schema r octets out counts) (λ p frame.
    handed-inside schema r octets out counts (read_from (offset_width (is_long r)) p ts (is_wanted wanted) r 0 (length ts))
    (reads-inside schema r octets ts good p frame (is_wanted wanted) (length ts) 0 (omega arith))))
