-- The row of nulls of a layout is the fresh row.
use Prim.Native.Nat.{ℕ, zero, suc, ◌+◌, ◌*◌, ◌-◌, ◌/◌, ◌%◌, ◌^◌, ◌≤◌, ◌<◌}
use mathlib.Core.Path.{◌≡◌, refl, sym, ap, ◌∙◌}
use mathlib.Core.Bool.{Bool, true}
use mathlib.Core.Option.{none}
use mathlib.Core.List.{List, [], ◌∷◌, ◌++◌, append-nil, append_assoc}
use native.Mathlib.Omega.{arith}
use lib.ListN.{length, set, replicate, length-append, length-map, length-replicate}
use lib.Pow.{pow_pos}
use lib.Seq.{sets}
use Rattle.laws.proofs.Bits.{shifted_one}
use Rattle.laws.specs.Bytes.{to_le}
use Rattle.laws.proofs.Stores.{sets-append, sets_then}
use Rattle.row_format.specs.Places.{offset_width, bitmap_start, bitmap_size, table_start}
use Rattle.row_format.specs.Row.{packed_marks, header}
use Rattle.row_format.proofs.Sorts.{table-le}
use Rattle.row_format.proofs.Bitmap.{length-bitmap}
use Rattle.row_format.proofs.Fresh.{last_bits, bitmap-nulls, fresh-row}
use Rattle.row_layout.specs.declared.RowLayout.{RowLayout}
use Rattle.row_layout.specs.InnerLayout.{Bounded, minimum_of}
use Rattle.datatype.specs.declared.DataType.{DataType}
use Rattle.datatype.specs.Types.{shape_of}
use Rattle.datatype.specs.Check.{layout_for, types_in}
use Rattle.datatype.specs.InnerCheck.{Accepted}
use Rattle.row_build.specs.Build.{fresh_row}
use Rattle.row_build.specs.InnerSteps.{null_bits, null_row}

last_some : (r : ℕ) → (r ≡ 0 → ⊥) → last_bits r ≡ (2 ^ r - 1) ∷ []
last_some zero h = absurd (h refl)
last_some (suc r) h = refl

-- a last byte of r bits
pub last_fits : (r : ℕ) → r < 8 → 1 ≤ 1 * 2 ^ r % 256
last_fits r h = rw (shifted_one r h) (omega (arith, pow_pos r))

module _ (out : List ℕ) (at n : ℕ) {p : List ℕ} (e : p ≡ sets out at (replicate (n / 8) 255)) where
  pub bits_whole : n % 8 ≡ 0 → p ≡ sets out at (null_bits n)
  bits_whole z = rw (bitmap-nulls n, z, append-nil) e

  pub bits_more : (n % 8 ≡ 0 → ⊥) → set p (at + n / 8) (1 * 2 ^ (n % 8) % 256 - 1) ≡ sets out at (null_bits n)
  bits_more z =
      let h : n % 8 < 8 = omega arith in
      rw (bitmap-nulls n, last_some (n % 8) z, shifted_one (n % 8) h, sets-append, length-replicate, e)

-- ---- the row: header, bits, zeros

pub length-null-row : (l : RowLayout) → length (null_row l) ≡ minimum_of l true
unfolding null_row
length-null-row l = simp (length-append, length-bitmap, length-replicate) (omega arith)

-- far from the machine's limit
pub zeros-le : {l : RowLayout} → Bounded l → l.num_varlen_cols * offset_width l.is_long + l.packed_size ≤ 40000000
zeros-le {l} b = omega (arith, table-le l.is_long l.num_varlen_cols (omega (arith, b.few, b.ranked)), b.tight, b.few)

pub null-stored : (l : RowLayout) (out : List ℕ) {p q r s : List ℕ} → p ≡ sets out 0 (to_le 2 l.num_columns) → q ≡ sets p 2 (to_le 2 (l.num_varlen_cols + packed_marks l.is_long))
    → r ≡ sets q bitmap_start (null_bits l.num_columns) → s ≡ sets r (table_start l.num_columns) (replicate (l.num_varlen_cols * offset_width l.is_long + l.packed_size) 0) → s ≡ sets out 0 (null_row l)
unfolding null_row
null-stored l out {p} {q} {r} {s} a b c d =
    let n : ℕ = l.num_columns in
    let k : List ℕ = to_le 2 n in
    let m : List ℕ = to_le 2 (l.num_varlen_cols + packed_marks l.is_long) in
    let zeros : List ℕ = replicate (l.num_varlen_cols * offset_width l.is_long + l.packed_size) 0 in
    sets_then out 0 4 (k ++ m) (null_bits n ++ zeros) refl (sets_then out 0 2 k m refl a b) (sets_then q 4 (bitmap_size n) (null_bits n) zeros (length-bitmap (bitmap_size n) (replicate n none)) c d)

pub null-row : (k : Bool) (ts : List DataType) → null_row (layout_for k ts) ≡ fresh_row k ts
unfolding header null_row
null-row k ts = rw (← length-map ts shape_of, fresh-row, bitmap-nulls) (simp append_assoc)

pub accepted-nulls : {s : List ℕ} {l : RowLayout} → Accepted s l → null_row l ≡ fresh_row l.is_long (types_in s)
accepted-nulls {s} {l} a = ap null_row (sym a.layout) ∙ null-row l.is_long (types_in s)
