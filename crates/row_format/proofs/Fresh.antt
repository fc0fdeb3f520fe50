-- Rows of nulls: what a fresh row has in each of its regions.
use Prim.Native.Nat.{ℕ, zero, suc, ◌+◌, ◌*◌, ◌-◌, ◌/◌, ◌%◌, ◌^◌, ◌<◌}
use mathlib.Core.Path.{◌≡◌, refl, ap, ◌∙◌}
use mathlib.Core.Bool.{true}
use mathlib.Core.List.{List, [], ◌∷◌, ◌++◌, append_assoc, append-nil}
use mathlib.Core.Option.{none}
use native.Mathlib.Nat.{pow-suc}
use native.Mathlib.Numerals.{one-add}
use native.Mathlib.Omega.{arith}
use lib.ListN.{length, replicate, length-replicate, replicate-append-replicate}
use lib.Pow.{pow_pos}
use lib.Seq.{take_all}
use Rattle.laws.specs.Bytes.{to_le, to_table, concat}
use Rattle.laws.specs.InnerForall.{Forall₂, nil, cons}
use Rattle.row_format.specs.declared.Shape.{Shape}
use Rattle.row_format.specs.declared.Shape.TheVariants.{Fixed, Varlen}
use Rattle.row_format.specs.Places.{varlens, fixed_size, bitmap_size, minimum}
use Rattle.row_format.specs.Table.{Cell, payloads, offsets, lay}
use Rattle.row_format.specs.Row.{header, bits_value, bitmap, varlen_cells, row_with, slots_of, built_row}
use Rattle.row_format.proofs.Places.{varlens-cons, packed-cons}
use Rattle.row_format.proofs.Row.{length-header, length-row, slots_fit}
use Rattle.row_format.specs.InnerRow.{FitsCell}

-- ---- nulls have neither offsets nor payloads

pub offsets-nulls : (at m : ℕ) → offsets at (replicate m none) ≡ replicate m 0
offsets-nulls at zero = refl
offsets-nulls at (suc m) = ap (λ (l : List ℕ). 0 ∷ l) (offsets-nulls (at + 0) m)

pub payloads-nulls : (m : ℕ) → payloads (replicate m none) ≡ []
payloads-nulls zero = refl
payloads-nulls (suc m) = payloads-nulls m

-- one null a column

abbrev pub nulls : List Shape → List Cell
nulls ss = replicate (length ss) none

pub varlens-nulls : (ss : List Shape) → varlen_cells ss (nulls ss) ≡ replicate (varlens ss) none
varlens-nulls [] = refl
varlens-nulls (Fixed z a ∷ ss) = varlens-nulls ss
varlens-nulls (Varlen ∷ ss) = rw (varlens-cons Varlen ss, one-add) (ap (λ (l : List Cell). none ∷ l) (varlens-nulls ss))

pub null-fits : (s : Shape) → FitsCell s none
null-fits (Fixed z a) = tt
null-fits Varlen = tt

pub nulls_fit : (ss : List Shape) → Forall₂ FitsCell ss (nulls ss)
nulls_fit [] = nil
nulls_fit (s ∷ ss) = cons (null-fits s) (nulls_fit ss)

-- ---- the zeros

le-zero : (w : ℕ) → to_le w 0 ≡ replicate w 0
le-zero zero = refl
le-zero (suc w) = ap (λ (l : List ℕ). 0 ∷ l) (le-zero w)

table-zero : (w v : ℕ) → to_table w (replicate v 0) ≡ replicate (v * w) 0
table-zero w zero = let e : 0 * w ≡ 0 = omega arith in rw e
table-zero w (suc v) = let e : suc v * w ≡ w + v * w = omega arith in rw (e, le-zero w, table-zero w v, replicate-append-replicate)

slots_zero : (ss : List Shape) → concat (slots_of ss (nulls ss)) ≡ replicate (fixed_size true ss) 0
slots_zero [] = refl
slots_zero (Fixed z a ∷ ss) = rw (packed-cons (Fixed z a) ss, slots_zero ss, replicate-append-replicate)
slots_zero (Varlen ∷ ss) = slots_zero ss

-- ---- the bitmap

-- r bits that are set, in a byte of their own
abbrev pub last_bits : ℕ → List ℕ
last_bits zero = []
last_bits (suc r) = (2 ^ suc r - 1) ∷ []

-- n bits that are set, and clear ones up to the end of the last byte
abbrev pub set_bits : ℕ → List ℕ
set_bits n = replicate (n / 8) 255 ++ last_bits (n % 8)

bits_nulls : (r : ℕ) → bits_value (replicate r none) ≡ 2 ^ r - 1
bits_nulls zero = refl
bits_nulls (suc r) = rw (bits_nulls r, pow-suc) (omega (arith, pow_pos r))

-- q whole bytes and r bits
bitmap_cut : (q r : ℕ) → r < 8 → bitmap ((q * 8 + r + 7) / 8) (replicate (q * 8 + r) none) ≡ replicate q 255 ++ last_bits r
bitmap_cut zero zero h = refl
bitmap_cut zero (suc r) h =
    let e : (0 * 8 + suc r + 7) / 8 ≡ 1 = omega arith in
    let z : 0 * 8 + suc r ≡ suc r = omega arith in
    rw (e, z, take_all 7 (replicate {A = Cell} r none) (rw length-replicate (omega arith))) (ap (λ (x : ℕ). x ∷ []) (bits_nulls (suc r)))
bitmap_cut (suc q) r h =
    let m : ℕ = q * 8 + r in
    let e : (suc q * 8 + r + 7) / 8 ≡ suc ((m + 7) / 8) = omega arith in
    let z : suc q * 8 + r ≡ suc (suc (suc (suc (suc (suc (suc (suc m))))))) = omega arith in
    rw (e, z) (ap (λ (l : List ℕ). 255 ∷ l) (bitmap_cut q r h))

pub bitmap-nulls : (n : ℕ) → bitmap (bitmap_size n) (replicate n none) ≡ set_bits n
bitmap-nulls n =
    let e : n / 8 * 8 + n % 8 ≡ n = omega arith in
    rw e at (bitmap_cut (n / 8) (n % 8) (omega arith))

-- ---- the row

pub fresh-row : (w marks : ℕ) (ss : List Shape) → built_row w marks ss (nulls ss) ≡ header marks ss ++ (set_bits (length ss) ++ replicate (varlens ss * w + fixed_size true ss) 0)
unfolding row_with lay
fresh-row w marks ss =
    rw (bitmap-nulls, varlens-nulls, offsets-nulls, payloads-nulls, table-zero, slots_zero, append-nil, replicate-append-replicate) (simp append_assoc)

pub length-fresh : (w marks : ℕ) (ss : List Shape) → length (built_row w marks ss (nulls ss)) ≡ minimum w true ss
length-fresh w marks ss = length-row w (header marks ss) (length-header marks ss) (nulls_fit ss) (slots_fit (nulls_fit ss)) ∙ rw (varlens-nulls, payloads-nulls) (omega arith)
