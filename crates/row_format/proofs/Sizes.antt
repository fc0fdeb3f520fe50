-- How long rows are: packed against padded, a column more in front, a column set null.
use Prim.Native.Nat.{ℕ, zero, suc, ◌+◌, ◌≤◌}
use mathlib.Core.Bool.{true, false}
use mathlib.Core.List.{List, ◌∷◌}
use mathlib.Core.Option.{none, some}
use native.Mathlib.Nat.{le_refl}
use native.Mathlib.Omega.{arith}
use lib.ListN.{length, set, length-append}
use Rattle.laws.specs.InnerForall.{Forall₂, nil, cons}
use Rattle.row_format.specs.declared.Shape.{Shape}
use Rattle.row_format.specs.declared.Shape.TheVariants.{Fixed, Varlen}
use Rattle.row_format.specs.Places.{through, end_after, minimum}
use Rattle.row_format.specs.Table.{Cell, bytes, payloads}
use Rattle.row_format.specs.Row.{varlen_cells, slot_size}
use Rattle.row_format.specs.InnerAligned.{Aligned, All, none as no-shapes, more}
use Rattle.row_format.proofs.Places.{round_up_ge}
use Rattle.row_format.specs.InnerRow.{FitsCell}

-- ---- packed, the minimum is least

end-le : (s : Shape) (x y : ℕ) → Aligned s → x ≤ y → end_after true s x ≤ end_after false s y
end-le (Fixed z a) x y g h = omega (arith, round_up_ge a y g)
end-le Varlen x y g h = h

ends_le : {ss : List Shape} → All ss → (x y : ℕ) → x ≤ y → through (end_after true) x ss ≤ through (end_after false) y ss
ends_le no-shapes x y h = h
ends_le (more {s = s} g a) x y h = ends_le a (end_after true s x) (end_after false s y) (end-le s x y g h)

pub packed_least : (w : ℕ) {ss : List Shape} → All ss → minimum w true ss ≤ minimum w false ss
packed_least w a = omega (arith, ends_le a 0 0 (le_refl 0))

-- ---- payloads

-- the bytes of a cell are its payload, or they fill its slot
pub cell_counted : (s : Shape) (c : Cell) (ss : List Shape) (cs : List Cell) → FitsCell s c
    → length (bytes c) + length (payloads (varlen_cells ss cs)) ≤ slot_size s + length (payloads (varlen_cells (s ∷ ss) (c ∷ cs)))
cell_counted (Fixed z a) none ss cs r = omega arith
cell_counted (Fixed z a) (some b) ss cs r = omega arith
cell_counted Varlen c ss cs r = omega (arith, length-append (bytes c) (payloads (varlen_cells ss cs)))

-- a column set null takes none
pub nulled_le : {ss : List Shape} {cs : List Cell} (i : ℕ) → Forall₂ FitsCell ss cs → length (payloads (varlen_cells ss (set cs i none))) ≤ length (payloads (varlen_cells ss cs))
nulled_le i nil = omega arith
nulled_le zero (cons {a = Fixed z a} r e) = omega arith
nulled_le zero (cons {a = Varlen} {b = c} {xs = ss} {ys = cs} r e) = omega (arith, length-append (bytes c) (payloads (varlen_cells ss cs)))
nulled_le (suc i) (cons {a = Fixed z a} r e) = nulled_le i e
nulled_le (suc i) (cons {a = Varlen} {b = c} {xs = ss} {ys = cs} r e) = simp length-append (omega (arith, nulled_le i e))
