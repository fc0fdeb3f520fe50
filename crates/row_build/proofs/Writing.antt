-- The second pass: the row of the columns before one stands in the output, and each column is a few stores.
use Prim.Native.Nat.{ℕ, suc, ◌+◌, ◌*◌, ◌≤◌, ◌<◌}
use mathlib.Core.Path.{◌≡◌, refl, sym, ap, ◌∙◌, subst}
use mathlib.Core.Bool.{Bool, true, false, cond}
use mathlib.Core.List.{List, map}
use mathlib.Core.Option.{none, some}
use native.Mathlib.Numerals.{add-one}
use native.Mathlib.Omega.{arith}
use lib.ListN.{length, get_or, length-map}
use lib.Seq.{sets, length-sets}
use Rattle.laws.specs.InnerForall.{Forall₂}
use Rattle.laws.proofs.Forall.{forall_length}
use Rattle.laws.proofs.Maps.{take-map, at_map}
use Rattle.row_format.specs.declared.Shape.{Shape}
use Rattle.row_format.specs.declared.Shape.TheVariants.{Fixed, Varlen}
use Rattle.row_format.specs.Places.{varlens, rank_of, slot_start, offset_width, row_limit, minimum, table_start, fixed_start}
use Rattle.row_format.specs.Table.{Cell}
use Rattle.row_format.specs.Row.{packed_marks, header, built_row, slot_size}
use Rattle.row_format.proofs.Places.{rank-inside, packed-inside}
use Rattle.row_format.proofs.Row.{length-header, length-row, slots_fit, packed_start}
use Rattle.row_format.proofs.Sorts.{table-le, entry_in}
use Rattle.row_format.proofs.Fresh.{length-fresh}
use Rattle.row_format.proofs.Build.{up_to, up_to_start, up_to_end, built-le, built-null, length-built-fixed, length-built_varlen, step_fixed, step_varlen}
use Rattle.row_format.specs.InnerRow.{FitsCell}
use Rattle.row_layout.specs.declared.RowLayout.{RowLayout}
use Rattle.row_layout.specs.InnerLayout.{minimum_of, with_column}
use Rattle.datatype.specs.declared.DataType.{DataType}
use Rattle.datatype.specs.declared.DataType.TheVariants as T
use Rattle.datatype.specs.Types.{size_of, alignment_of, is_varlen, shape_of}
use Rattle.datatype.specs.Check.{types_in}
use Rattle.datatype.proofs.Again.{columns-all, before-next, grown}
use Rattle.datatype.specs.InnerCheck.{layout_before}
use Rattle.value.specs.Ranges.{text_of}
use Rattle.stored_form.specs.Write.{stored_form}
use Rattle.record_slot.specs.Stored.{is_null}
use Rattle.row_build.specs.Build.{fresh_row}
use Rattle.record_slot.specs.InnerSteps.{Given, ReadAt}
use Rattle.row_build.specs.InnerSteps.{values_in, fixed_stored, varlen_stored, column_stored, Storable, cells_in, row_given, Fillable}
use Rattle.record_slot.proofs.Tests.{CellIs, null, stored}
use Rattle.row_build.proofs.Walk.{Together, together-start, type_given, value-given, digits-given, together-next}
use Rattle.row_build.proofs.Cells.{cell_at_lem, cells_fit}

-- the row of the columns before i
abbrev pub row_up_to : Bool → List ℕ → List ℕ → List ℕ → ℕ → List ℕ
row_up_to k s list area i = built_row (offset_width k) (packed_marks k) (map shape_of (types_in s)) (up_to i (cells_in s list area))

pub record Writing (s : List ℕ) (l : RowLayout) (list area out₀ out : List ℕ) (i at from slot entry end : ℕ) : Type 0 where
  pub walk : Together s list i at from
  pub slot_is : slot ≡ fixed_start (offset_width l.is_long) l.num_columns l.num_varlen_cols + (layout_before (types_in s) i).packed_size
  pub entry_is : entry ≡ table_start l.num_columns + (layout_before (types_in s) i).num_varlen_cols * offset_width l.is_long
  pub written : out ≡ sets out₀ 0 (row_up_to l.is_long s list area i)
  pub end_is : end ≡ length (row_up_to l.is_long s list area i)

-- a column more in a layout
packed_more : (b : RowLayout) (t : DataType) → (with_column b (shape_of t)).packed_size ≡ b.packed_size + size_of t
packed_more b T.SmallInt = refl
packed_more b T.Int = refl
packed_more b T.BigInt = refl
packed_more b T.Real = refl
packed_more b T.DoublePrecision = refl
packed_more b (T.Numeric p s) = refl
packed_more b (T.Decimal p s) = refl
packed_more b T.Bool = refl
packed_more b (T.Char n) = refl
packed_more b (T.Character n) = refl
packed_more b (T.Varchar p n) = omega arith
packed_more b T.Date = refl
packed_more b T.Time = refl
packed_more b (T.Bit n) = refl
packed_more b T.Timestamp = refl

entry_more : (k : Bool) (n : ℕ) → (n + 1) * offset_width k ≡ n * offset_width k + offset_width k
entry_more false n = omega arith
entry_more true n = omega arith

rank-more : (k : Bool) (b : RowLayout) (t : DataType) → (with_column b (shape_of t)).num_varlen_cols * offset_width k ≡ b.num_varlen_cols * offset_width k + cond (is_varlen t) (offset_width k) 0
rank-more k b t = by_shape (is_varlen t)
  where
    by_shape : (f : Bool) → (with_column b (cond f Varlen (Fixed (size_of t) (alignment_of t)))).num_varlen_cols * offset_width k ≡ b.num_varlen_cols * offset_width k + cond f (offset_width k) 0
    by_shape true = entry_more k b.num_varlen_cols
    by_shape false = omega arith

module _ {s : List ℕ} {l : RowLayout} {list area out₀ : List ℕ} (f : Fillable s l list area out₀) where
  abbrev ts : List DataType
  ts = types_in s

  abbrev ss : List Shape
  ss = map shape_of ts

  abbrev cs : List Cell
  cs = cells_in s list area

  fit : Forall₂ FitsCell ss cs
  fit = cells_fit area 0 ts (values_in list) f.all f.given.count

  -- the layout's numbers
  columns_are : l.num_columns ≡ length ss
  columns_are = ap (λ (k : RowLayout). k.num_columns) (sym f.given.accepted.layout)

  varlens_are : l.num_varlen_cols ≡ varlens ss
  varlens_are = ap (λ (k : RowLayout). k.num_varlen_cols) (sym f.given.accepted.layout)

  minimum-is : minimum_of l true ≡ minimum (offset_width l.is_long) true ss
  minimum-is = ap (λ (k : RowLayout). minimum_of k true) (sym f.given.accepted.layout)

  -- nothing is written yet
  start-row : row_up_to l.is_long s list area 0 ≡ fresh_row l.is_long ts
  start-row = ap (built_row (offset_width l.is_long) (packed_marks l.is_long) ss) (up_to_start cs ∙ rw (forall_length fit, length-map ts shape_of))

  pub write_start : Writing s l list area out₀ out₀ 0 0 0 (fixed_start (offset_width l.is_long) l.num_columns l.num_varlen_cols) (table_start l.num_columns) (minimum_of l true)
  write_start =
      record {
        walk = together-start f.given;
        slot_is = omega arith;
        entry_is = omega arith;
        written = f.nulls ∙ ap (sets out₀ 0) (sym start-row);
        end_is = minimum-is ∙ sym (length-fresh (offset_width l.is_long) (packed_marks l.is_long) ss) ∙ ap length (rw (← length-map ts shape_of) at (sym start-row));
      }

  module _ {out : List ℕ} {i at from slot entry end : ℕ} (k : Writing s l list area out₀ out i at from slot entry end) where
    pub write_size : length out ≡ length out₀
    write_size = rw (k.written, length-sets)

    pub write_end : l.num_columns ≤ i → out ≡ sets out₀ 0 (row_given l.is_long s list area)
    write_end h =
        let n : i ≡ length cs = rw (forall_length fit, length-map ts shape_of) (omega (arith, k.walk.side.within, columns-all f.given.accepted)) in
        k.written ∙ ap (λ (ds : List Cell). sets out₀ 0 (built_row (offset_width l.is_long) (packed_marks l.is_long) ss ds)) (ap (λ (j : ℕ). up_to j cs) n ∙ up_to_end cs)

    module _ (h : i < length ts) {g : Given} (r : ReadAt s at list from g) where
      inside : i < length ss
      inside = rw length-map h

      -- where the column's bytes go
      rank_is : (layout_before ts i).num_varlen_cols ≡ rank_of ss i
      rank_is = rw (take-map shape_of i ts)

      start_is : (layout_before ts i).packed_size ≡ slot_start true ss i
      start_is = rw (packed_start (get_or ss i Varlen), take-map shape_of i ts)

      slot_at : slot ≡ fixed_start (offset_width l.is_long) (length ss) (varlens ss) + slot_start true ss i
      slot_at = k.slot_is ∙ rw (columns_are, varlens_are, start_is)

      entry_at : entry ≡ table_start (length ss) + rank_of ss i * offset_width l.is_long
      entry_at = k.entry_is ∙ rw (columns_are, rank_is)

      shape_is : get_or ss i Varlen ≡ shape_of g.ty
      shape_is = at_map shape_of i ts (T.Varchar false 0) ∙ ap shape_of (sym (type_given f.given k.walk h r))

      fixed-is : is_varlen g.ty ≡ false → get_or ss i Varlen ≡ Fixed (size_of g.ty) (alignment_of g.ty)
      fixed-is e = shape_is ∙ rw e

      varlen_is : is_varlen g.ty ≡ true → get_or ss i Varlen ≡ Varlen
      varlen_is e = shape_is ∙ rw e

      pub write_cell : CellIs g.ty g.value area (get_or cs i none)
      write_cell = rw (type_given f.given k.walk h r, value-given f.given k.walk h r) (cell_at_lem area ts (values_in list) f.all f.given.count i h)

      abbrev form : List ℕ
      form = stored_form g.ty g.value (text_of area g.value)

      next-layout : layout_before ts (i + 1) ≡ with_column (layout_before ts i) (shape_of g.ty)
      next-layout = before-next ts i h ∙ ap (λ (u : DataType). with_column (layout_before ts i) (shape_of u)) (sym (type_given f.given k.walk h r))

      packed-next : (layout_before ts (i + 1)).packed_size ≡ (layout_before ts i).packed_size + size_of g.ty
      packed-next = ap (λ (q : RowLayout). q.packed_size) next-layout ∙ packed_more (layout_before ts i) g.ty

      rank-next : (layout_before ts (i + 1)).num_varlen_cols * offset_width l.is_long ≡ (layout_before ts i).num_varlen_cols * offset_width l.is_long + cond (is_varlen g.ty) (offset_width l.is_long) 0
      rank-next = ap (λ (q : RowLayout). q.num_varlen_cols * offset_width l.is_long) next-layout ∙ rank-more l.is_long (layout_before ts i) g.ty

      -- far from the machine's limit
      pub write_places : (slot + size_of g.ty ≤ 40000000) × (entry ≤ 40000000)
      write_places =
          let b = f.given.accepted.bounded in
          let e = f.given.accepted.layout in
          let u = rw e at (grown l.is_long ts (i + 1) (omega (arith, h))) in
          let v = rw e at (grown l.is_long ts i (omega (arith, h))) in
          let few : l.num_varlen_cols ≤ 256 = omega (arith, b.few, b.ranked) in
          let x = table-le l.is_long l.num_varlen_cols few in
          let y = table-le l.is_long (layout_before ts i).num_varlen_cols (omega (arith, v.varlens, few)) in
          (rw k.slot_is (omega (arith, packed-next, u.packed, b.few, b.tight, x)), rw k.entry_is (omega (arith, b.few, y)))

      -- ---- the stores

      module _ (res : ℕ) (out' : List ℕ) where
        abbrev Stepped : Type 0
        Stepped = (out' ≡ sets out₀ 0 (row_up_to l.is_long s list area (suc i))) × (res ≡ length (row_up_to l.is_long s list area (suc i)))

        fixed : get_or cs i none ≡ some form → is_varlen g.ty ≡ false → res ≡ end → out' ≡ fixed_stored i slot form out → Stepped
        fixed e v p q = (
          q ∙ rw (slot_at, k.written) (step_fixed (offset_width l.is_long) (packed_marks l.is_long) fit i inside form e out₀ f.room (size_of g.ty) (alignment_of g.ty) (fixed-is v)),
          p ∙ k.end_is ∙ sym (length-built-fixed (offset_width l.is_long) (packed_marks l.is_long) fit i inside form e (size_of g.ty) (alignment_of g.ty) (fixed-is v)),
        )

        varlen : get_or cs i none ≡ some form → is_varlen g.ty ≡ true → res ≡ end + length form → out' ≡ varlen_stored l.is_long i entry form end out → Stepped
        varlen e v p q = (
          q ∙ rw (entry_at, k.written, k.end_is) (step_varlen (offset_width l.is_long) (packed_marks l.is_long) fit i inside form e out₀ f.room (varlen_is v)),
          p ∙ rw k.end_is (sym (length-built_varlen (offset_width l.is_long) (packed_marks l.is_long) fit i inside form e (varlen_is v))),
        )

        kept : get_or cs i none ≡ none → res ≡ end → out' ≡ out → Stepped
        kept e p q = let same = built-null (offset_width l.is_long) (packed_marks l.is_long) fit i e in (q ∙ k.written ∙ ap (sets out₀ 0) (sym same), p ∙ k.end_is ∙ ap length (sym same))

        stepped : (c : Cell) → get_or cs i none ≡ c → CellIs g.ty g.value area c → (res, out') ≡ column_stored l.is_long i slot entry g.ty g.value form end out → Stepped
        stepped none e (null n) o = let p = rw n at o in kept e (ap (λ (z : ℕ × List ℕ). z.0) p) (ap (λ (z : ℕ × List ℕ). z.1) p)
        stepped (some x) e (stored n m a) o = by_shape (is_varlen g.ty) refl (rw n at o)
          where
            by_shape : (t : Bool) → is_varlen g.ty ≡ t → ◌≡◌ {A = ℕ × List ℕ} (res, out') (cond t (end + length form, varlen_stored l.is_long i entry form end out) (end, fixed_stored i slot form out)) → Stepped
            by_shape true v p = varlen e v (ap (λ (z : ℕ × List ℕ). z.0) p) (ap (λ (z : ℕ × List ℕ). z.1) p)
            by_shape false v p = fixed e v (ap (λ (z : ℕ × List ℕ). z.0) p) (ap (λ (z : ℕ × List ℕ). z.1) p)

        pub write_more : (res, out') ≡ column_stored l.is_long i slot entry g.ty g.value form end out
            → Writing s l list area out₀ out' (i + 1) g.next_type g.next-value (slot + size_of g.ty) (entry + cond (is_varlen g.ty) (offset_width l.is_long) 0) res
        write_more o =
            let p = stepped (get_or cs i none) refl write_cell o in
            record {
              walk = together-next f.given k.walk h r;
              slot_is = rw k.slot_is (omega (arith, packed-next));
              entry_is = rw k.entry_is (omega (arith, rank-next));
              written = rw (add-one i) p.0;
              end_is = rw (add-one i) p.1;
            }

      -- ---- there is room for them

      long : minimum (offset_width l.is_long) true ss ≤ length out
      long = rw write_size (omega (arith, f.room, length-row (offset_width l.is_long) (header (packed_marks l.is_long) ss) (length-header (packed_marks l.is_long) ss) fit (slots_fit fit)))

      payload-end : get_or cs i none ≡ some form → is_varlen g.ty ≡ true → end + length form ≤ length (row_given l.is_long s list area)
      payload-end e v = rw k.end_is (omega (arith, built-le (offset_width l.is_long) (packed_marks l.is_long) fit (suc i), length-built_varlen (offset_width l.is_long) (packed_marks l.is_long) fit i inside form e (varlen_is v)))

      end-small : end ≤ row_limit l.is_long
      end-small = rw k.end_is (omega (arith, built-le (offset_width l.is_long) (packed_marks l.is_long) fit i, f.short))

      room_for : (c : Cell) → get_or cs i none ≡ c → CellIs g.ty g.value area c → is_null g.value ≡ false → Storable l.is_long l.num_columns i slot entry g.ty g.value area end (length out)
      room_for none e (null n) z = let q : true ≡ false = sym n ∙ z in absurd (subst IsTrue q tt)
        where
          IsTrue : Bool → Type 0
          IsTrue true = Unit {0}
          IsTrue false = ⊥
      room_for (some x) e (stored n m a) z =
          record {
            bit = record { column = rw columns_are inside; bit = omega (arith, long, inside) };
            digits = digits-given f.given k.walk h r;
            match = m;
            suited = a;
            slot_in = λ v. rw slot_at (omega (arith, long, rw (ap slot_size (fixed-is v)) at (packed-inside ss i inside)));
            entry_in = λ v. rw entry_at (omega (arith, entry_more l.is_long (rank_of ss i), entry_in l.is_long (table_start (length ss)) (varlens ss) (rank_of ss i) (length out) (rank-inside ss i inside (varlen_is v)) (omega (arith, long))));
            payload = λ v. rw write_size (omega (arith, f.room, payload-end e v));
            end_fits = by_shape (is_varlen g.ty) refl;
          }
        where
          by_shape : (t : Bool) → is_varlen g.ty ≡ t → end + cond t (length form) 0 ≤ row_limit l.is_long
          by_shape true v = omega (arith, f.short, payload-end e v)
          by_shape false v = omega (arith, end-small)

      pub write_room : is_null g.value ≡ false → Storable l.is_long l.num_columns i slot entry g.ty g.value area end (length out)
      write_room = room_for (get_or cs i none) refl write_cell
