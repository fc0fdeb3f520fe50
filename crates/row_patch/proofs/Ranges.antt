-- The range of a Varchar replaced and its table written anew.
use Prim.Native.Nat.{ℕ, ◌+◌, ◌-◌, ◌<◌}
use mathlib.Core.Path.{◌≡◌, sym, ap, ◌∙◌}
use mathlib.Core.Bool.{Bool, true}
use mathlib.Core.List.{List, ◌++◌}
use native.Mathlib.Omega.{arith}
use lib.ListN.{length, get_or, take, drop, length-drop}
use lib.Seq.{length-take-le}
use Rattle.laws.specs.Bytes.{from_table, entry_at, splice}
use Rattle.laws.proofs.Bytes.{table_entry}
use Rattle.laws.proofs.Entries.{table_before}
use Rattle.row_format.specs.Places.{offset_width}
use Rattle.row_format.specs.Table.{Cell, bytes, offset}
use Rattle.row_format.specs.Edit.{offset_table, span, range_edit}
use Rattle.row_format.proofs.Edit.{length-range_edit}
use Rattle.row_format.proofs.Sorts.{limit_fits}
use Rattle.datatype.specs.declared.DataType.{DataType}
use Rattle.datatype.specs.Types.{is_varlen}
use Rattle.value.specs.declared.DataValue.{DataValue}
use Rattle.value.specs.Ranges.{range_of, text_of}
use Rattle.stored_form.proofs.Lengths.{length-stored, accepted-inside, accepted-suits}
use Rattle.row_patch.specs.InnerHeld.{held, Holds}
use Rattle.row_patch.specs.InnerOffsets.{table_edit, CanMove, HigherMove}
use Rattle.row_patch.specs.InnerStores.{form_of, Suited, change, RangeReady}
use Rattle.row_patch.proofs.Held.{length_spliced, row_of, held_again}

-- ---- the text of a Varchar

pub length-text : {t : DataType} {v : DataValue} {area : List ℕ} → Suited t v area → is_varlen t ≡ true → length (form_of t v area) ≡ (range_of v).length
length-text {t} {v} {area} s e =
    length-stored t v (text_of area v) s.kind (accepted-suits t v area s.holds)
    ∙ rw e (length-take-le (range_of v).length (drop (range_of v).start area) (rw length-drop (omega (arith, accepted-inside t v area s.holds))))

-- ---- the table of a row whose range was replaced: q is the buffer, m the row's length

module _ {k : Bool} {t v rank n a e z : ℕ} {b : List ℕ} (g : RangeReady k t v rank (change n a e z) b) (c : Cell) (size : length (bytes c) ≡ z) (m f : ℕ) (em : m ≡ a + z + (n - e)) (ef : f ≡ a + z) (q : List ℕ) (d : q ≡ held b (splice a e (bytes c) (take n b))) where
  abbrev w : ℕ
  w = offset_width k

  abbrev row : List ℕ
  row = take n b

  abbrev spliced : List ℕ
  spliced = splice a e (bytes c) row

  row-length : length row ≡ n
  row-length = length-take-le n b g.replaceable.inside

  spliced_length : length spliced ≡ m
  spliced_length = length_spliced g.replaceable (bytes c) size ∙ sym em

  lent : take m q ≡ spliced
  lent = row_of b spliced q m d spliced_length

  same-table : from_table w v (drop t spliced) ≡ from_table w v (drop t row)
  same-table = table_before w t v a e (bytes c) row g.behind (rw row-length (omega (arith, g.replaceable.range, g.replaceable.within)))

  same_entry : (j : ℕ) → j < v → entry_at w t j spliced ≡ entry_at w t j row
  same_entry j h = sym (table_entry w v t j spliced h) ∙ ap (λ (os : List ℕ). get_or os j 0) same-table ∙ table_entry w v t j row h

  can_move : (j : ℕ) → rank < j → j < v → CanMove w e f (entry_at w t j row)
  can_move j h l n = let y = g.higher j h l n in (y.0, omega (arith, y, ef, g.short, g.replaceable.within, limit_fits k))

  pub lent_length : m ≡ length (take m q)
  lent_length = sym (ap length lent ∙ spliced_length)

  pub table_ready : HigherMove w t v rank e f (take m q)
  table_ready =
      rw lent
      (record {
        ranked = g.ranked;
        inside = rw spliced_length (omega (arith, em, g.behind));
        higher = λ j h l. rw (same_entry j l) (can_move j h l);
      })

  pub table_done : (x : List ℕ) → x ≡ table_edit (offset_table w t v) rank (offset c a) e f (take m q) → Holds b (range_edit (offset_table w t v) rank c (span a e) row) (x ++ drop m q) m
  table_done x y =
      let ends : f ≡ a + length (bytes c) = ef ∙ rw size in
      let edited : x ≡ range_edit (offset_table w t v) rank c (span a e) row = y ∙ rw (lent, same-table, ends) in
      let n : length (range_edit (offset_table w t v) rank c (span a e) row) ≡ m
      = length-range_edit w t v rank c a e row g.ranked g.behind g.replaceable.range (rw row-length g.replaceable.within)
      ∙ rw (row-length, size) (omega (arith, em, g.replaceable.range, g.replaceable.within)) in
      (held_again b spliced q m d spliced_length x (ap length edited ∙ n) ∙ rw edited, sym n)
