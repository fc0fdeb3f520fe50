-- A column of a sound row has all that the stores of an edit need.
use Prim.Native.Nat.{ℕ, zero, suc, ◌+◌, ◌*◌, ◌-◌, ◌≤◌, ◌<◌}
use mathlib.Core.Path.{◌≡◌, refl, sym, ap, ◌∙◌, subst}
use mathlib.Core.Bool.{Bool, true, false}
use mathlib.Core.List.{List, map}
use mathlib.Core.Option.{none, some}
use native.Mathlib.Omega.{arith}
use lib.ListN.{length, take}
use lib.Seq.{length-take-le}
use Rattle.laws.specs.Bytes.{entry_at}
use Rattle.laws.proofs.Bytes.{same-length-splice}
use Rattle.row_format.specs.Places.{table_start, offset_width, row_limit}
use Rattle.row_format.specs.Table.{Cell, bytes, or_else, range_end}
use Rattle.row_format.specs.Edit.{span, range_start, edited_row}
use Rattle.row_format.specs.InnerRising.{Between}
use Rattle.row_format.proofs.Edit.{length-bit_edit, length-range_edit}
use Rattle.row_layout.specs.declared.RowLayout.{RowLayout}
use Rattle.row_layout.specs.InnerLayout.{minimum_of}
use Rattle.datatype.specs.Types.{size_of, is_varlen, shape_of}
use Rattle.datatype.specs.Check.{types_in}
use Rattle.row_column.specs.declared.Column.{Column}
use Rattle.row_column.specs.InnerWalk.{walked_place, Found, Framed, Reachable}
use Rattle.row_column.proofs.Walk.{minimum_walked, frame_walked}
use Rattle.row_column.proofs.Framing.{framed}
use Rattle.row_column.proofs.Reach.{reach}
use Rattle.row_sound.proofs.Columns.{sound_ranges}
use Rattle.row_patch.specs.InnerStores.{column_set, row_set, change, Editable}
use Rattle.row_patch.proofs.Edited.{row-edited}
use Rattle.row_edit.specs.InnerOpened.{Opened, RangeAt}

or_else_lem : (x y : ℕ) → (x ≡ 0 → ⊥) → or_else x y ≡ x
or_else_lem zero y h = absurd (h refl)
or_else_lem (suc x) y h = refl

pub own-start : (w t v k : ℕ) (r : List ℕ) → (entry_at w t k r ≡ 0 → ⊥) → range_start w t v k r ≡ entry_at w t k r
unfolding range_start
own-start w t v k r h = or_else_lem (entry_at w t k r) (range_end w t v k r) h

pub end-start : (w t v k : ℕ) (r : List ℕ) → entry_at w t k r ≡ 0 → range_start w t v k r ≡ range_end w t v k r
unfolding range_start
end-start w t v k r h = rw h

module _ {s : List ℕ} {l : RowLayout} {p : Bool} {buf : List ℕ} {n i : ℕ} (o : Opened s l p buf n i) where
  pub row-size : length (take n buf) ≡ n
  row-size = length-take-le n buf o.inside

  pub framed-row : Framed s l p (take n buf)
  framed-row = framed o.accepted (sym (frame_walked (types_in s) (take n buf) o.accepted.layout) ∙ o.row.frame)

  between : (k : ℕ) → k < l.num_varlen_cols → Between (offset_width l.is_long) (table_start l.num_columns) l.num_varlen_cols k (minimum_of l p) (take n buf)
  between = subst (λ (m : RowLayout). (k : ℕ) → k < m.num_varlen_cols → Between (offset_width m.is_long) (table_start m.num_columns) m.num_varlen_cols k (minimum_of m p) (take n buf)) o.accepted.layout
      (rw (minimum_walked l.is_long (types_in s) p) at (sound_ranges (offset_width l.is_long) p (types_in s) (take n buf) o.row.sound))

  module _ {c : Column} (f : Found s i c) where
    pub reaches : Reachable l p c.before c.ty (take n buf)
    reaches = reach framed-row c.before c.ty i o.column f.layout f.type_is f.bounded f.digits

    module _ (a e : ℕ) (q : is_varlen c.ty ≡ true → RangeAt l c.before (take n buf) a e) where
      pub record InRow (v : is_varlen c.ty ≡ true) : Type 0 where
        pub behind : table_start l.num_columns + l.num_varlen_cols * offset_width l.is_long ≤ a
        pub rises : a ≤ e
        pub within : e ≤ n

      pub range_in_lem : (v : is_varlen c.ty ≡ true) → InRow v
      range_in_lem v =
          let b = between c.before.num_varlen_cols (reaches.rank v) in
          let x = (q v).0 in
          let y = (q v).1 in
          record { behind = omega (arith, b.past, x); rises = omega (arith, b.rises, x, y); within = omega (arith, b.within, y, row-size) }

      pub edited-is : (x : Cell) → row_set l p c.before c.ty (span a e) x (take n buf) ≡ edited_row (offset_width l.is_long) p (map shape_of (types_in s)) i x (take n buf)
      edited-is x = row-edited l.is_long (types_in s) p i x (take n buf) a e (sym o.accepted.layout) f.layout f.type_is o.column q

      pub ready : (z : ℕ) → (is_varlen c.ty ≡ true → (a + z + (n - e) ≤ row_limit l.is_long) × (a + z + (n - e) ≤ length buf)) → Editable l p c.before c.ty (change n a e z) buf
      ready z m =
          record {
            reach = reaches;
            inside = o.inside;
            range =
                λ v.
                let h = range_in_lem v in
                record {
                  replaceable = record { range = h.rises; within = h.within; inside = o.inside; room = (m v).1 };
                  ranked = reaches.rank v;
                  behind = h.behind;
                  short = (m v).0;
                  higher =
                      λ j x y d.
                      let b = between c.before.num_varlen_cols (reaches.rank v) in
                      let u = between j y in
                      let own = own-start (offset_width l.is_long) (table_start l.num_columns) l.num_varlen_cols j (take n buf) d in
                      (rw (q v).1 (b.higher j x y d), omega (arith, own, u.rises, u.within, row-size));
                };
          }

      pub length_varlen : (v : is_varlen c.ty ≡ true) (x : Cell) → length (row_set l p c.before c.ty (span a e) x (take n buf)) ≡ a + length (bytes x) + (n - e)
      length_varlen v x =
          let h = range_in_lem v in
          let t = table_start l.num_columns in
          let k = c.before.num_varlen_cols in
          rw (length-bit_edit c.before.num_columns x (column_set l p c.before c.ty (span a e) x (take n buf)), v)
          (length-range_edit (offset_width l.is_long) t l.num_varlen_cols k x a e (take n buf) (reaches.rank v) h.behind h.rises (rw row-size h.within)
          ∙ rw row-size (omega (arith, h.rises, h.within)))

      module _ (v : is_varlen c.ty ≡ false) where
        pub length-fixed : (b : List ℕ) → length b ≡ size_of c.ty → length (row_set l p c.before c.ty (span a e) (some b) (take n buf)) ≡ n
        length-fixed b d =
            rw (length-bit_edit c.before.num_columns (some b) (column_set l p c.before c.ty (span a e) (some b) (take n buf)), v)
            (same-length-splice (walked_place l p c.before c.ty) (walked_place l p c.before c.ty + size_of c.ty) b (take n buf) (ap (λ (z : ℕ). walked_place l p c.before c.ty + z) d) (reaches.slot v) ∙ row-size)

        pub length-null : length (row_set l p c.before c.ty (span a e) none (take n buf)) ≡ n
        length-null = rw (length-bit_edit c.before.num_columns none (column_set l p c.before c.ty (span a e) none (take n buf)), v) row-size
