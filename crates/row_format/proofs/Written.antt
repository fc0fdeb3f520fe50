-- What stands where in a packed row that is built of cells.
use Prim.Native.Nat.{ℕ, zero, suc, ◌+◌, ◌-◌, ◌^◌, ◌<◌}
use mathlib.Core.Path.{◌≡◌, refl, ◌∙◌}
use mathlib.Core.List.{List, [], ◌∷◌}
use mathlib.Core.Option.{none, some}
use native.Mathlib.Omega.{arith}
use lib.ListN.{length, get_or, take, drop}
use Rattle.laws.specs.InnerForall.{Forall₂, nil, cons}
use Rattle.row_format.specs.declared.Shape.{Shape}
use Rattle.row_format.specs.declared.Shape.TheVariants.{Fixed, Varlen}
use Rattle.row_format.specs.Places.{varlens}
use Rattle.row_format.specs.Table.{Cell, bytes}
use Rattle.row_format.specs.Row.{header, built_row}
use Rattle.row_format.specs.InnerRow.{FitsCell}
use Rattle.row_format.specs.InnerTable.{range_bytes}
use Rattle.row_format.specs.Written.{CellsFit, payload_place, WrittenRow, LayoutWritten}
use Rattle.row_format.proofs.Row.{length-header, header-columns, header-varlens, slots_fit, length-row, count-row, field_row, bits_row, slot_row, entry_row, end_row, range-row}
use Rattle.row_format.proofs.Cells.{slots_at}

fits_cell : (s : Shape) (c : Cell) → ((z a : ℕ) (b : List ℕ) → s ≡ Fixed z a → c ≡ some b → length b ≡ z) → FitsCell s c
fits_cell (Fixed z a) none h = tt
fits_cell (Fixed z a) (some b) h = h z a b refl refl
fits_cell Varlen c h = tt

all_fit : (ss : List Shape) (cs : List Cell) → CellsFit ss cs → Forall₂ FitsCell ss cs
all_fit [] [] f = nil
all_fit [] (c ∷ cs) f = absurd (omega (arith, f.many))
all_fit (s ∷ ss) [] f = absurd (omega (arith, f.many))
all_fit (s ∷ ss) (c ∷ cs) f =
    cons (fits_cell s c (λ z a b e g. f.slots zero z a b (omega arith) e g))
    (all_fit ss cs (record { many = omega (arith, f.many); slots = λ i z a b h e g. f.slots (suc i) z a b (omega arith) e g }))

module _ (w marks : ℕ) (ss : List Shape) (cs : List Cell) (cells : Forall₂ FitsCell ss cs) where
  abbrev head : List ℕ
  head = header marks ss

  abbrev row : List ℕ
  row = built_row w marks ss cs

  module _ (i : ℕ) (h : i < length ss) (v : get_or ss i Varlen ≡ Varlen) (fits : length row < 256 ^ w) where
    payload-at : (c : Cell) → get_or cs i none ≡ c → take (length (bytes c)) (drop (payload_place w ss cs i) row) ≡ bytes c
    unfolding range_bytes
    payload-at none e = refl
    payload-at (some b) e =
        let at : ℕ = payload_place w ss cs i in
        let size : at + length b - at ≡ length b = omega arith in
        rw (end_row w head (length-header marks ss) cells (slots_fit cells) i h v fits, entry_row w head (length-header marks ss) cells (slots_fit cells) i h v fits, e, size)
        at (range-row w head (length-header marks ss) cells (slots_fit cells) i h v fits b e)

  pub written_row : length ss < 65536 → varlens ss + marks < 65536 → length row < 256 ^ w → WrittenRow w marks ss cs row
  written_row few small fits =
      let four = length-header marks ss in
      let slots = slots_fit cells in
      record {
        column-count = count-row w head four cells slots ∙ header-columns marks ss few;
        varlen_count = field_row w head four cells slots ∙ header-varlens marks ss small;
        bit = λ i h. bits_row w head four cells slots i h;
        slot = λ i h. slot_row w head four cells slots i h ∙ slots_at i cells h;
        entry = λ i h v. entry_row w head four cells slots i h v fits;
        end = λ i h v. end_row w head four cells slots i h v fits;
        payload = λ i h v. payload-at i h v fits (get_or cs i none) refl;
        long = length-row w head four cells slots;
      }

pub layout-written : (w marks : ℕ) (ss : List Shape) (cs : List Cell) → LayoutWritten w marks ss cs
layout-written w marks ss cs fit = written_row w marks ss cs (all_fit ss cs fit)
