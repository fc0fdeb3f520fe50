-- A row cut at its table: its regions, the table read back, and the range rule.
use Prim.Native.Nat.{ℕ, zero, suc, ◌+◌, ◌*◌, ◌-◌, ◌^◌, ◌≤◌, ◌<◌}
use mathlib.Core.Path.{◌≡◌, refl, sym, ap, ◌∙◌}
use mathlib.Core.List.{List, [], ◌∷◌, ◌++◌, append_assoc}
use mathlib.Core.Option.{none, some}
use native.Mathlib.Nat.{add-zero, add_assoc}
use native.Mathlib.Numerals.{add-one}
use native.Mathlib.Omega.{arith}
use lib.ListN.{length, get_or, take, drop, length-append, drop_of_length-le}
use lib.Seq.{drop-drop, take_at, drop_at, drop-append_seam, take-append_seam, get_or_at, get_or-append_seam, append_snoc, split_at, drop-cons}
use Rattle.laws.specs.Bytes.{to_table, from_table, entry_at}
use Rattle.laws.proofs.Bytes.{Below, length-to_table, length-from_table, table-from_to, table_entry}
use Rattle.laws.proofs.Forall.{by_cut}
use Rattle.row_format.specs.Table.{Cell, bytes, payloads, offset, offsets, base, lay, or_else, first_offset, range_end}
use Rattle.row_format.specs.InnerTable.{range_bytes}

-- ---- offsets and payloads

pub payloads-append : (cs ds : List Cell) → payloads (cs ++ ds) ≡ payloads cs ++ payloads ds
payloads-append [] ds = refl
payloads-append (c ∷ cs) ds = rw (payloads-append cs ds, append_assoc)

-- from the payload of rank k on
payloads_at : (cs : List Cell) (k : ℕ) → k < length cs → drop (length (payloads (take k cs))) (payloads cs) ≡ bytes (get_or cs k none) ++ payloads (drop (suc k) cs)
payloads_at cs k h = ap (λ (ds : List Cell). drop (length (payloads (take k cs))) (payloads ds)) (split_at cs k none h) ∙ rw (payloads-append, drop-append_seam)

pub length-offsets : (at : ℕ) (cs : List Cell) → length (offsets at cs) ≡ length cs
length-offsets at [] = refl
length-offsets at (c ∷ cs) = ap suc (length-offsets (at + length (bytes c)) cs)

pub offsets-append : (at : ℕ) (cs ds : List Cell) → offsets at (cs ++ ds) ≡ offsets at cs ++ offsets (at + length (payloads cs)) ds
offsets-append at [] ds = rw add-zero
offsets-append at (c ∷ cs) ds = simp (offsets-append (at + length (bytes c)) cs ds, length-append, add_assoc)

offsets-below : (m at : ℕ) (cs : List Cell) → at + length (payloads cs) < m → Below m (offsets at cs)
offsets-below m at [] h = tt
offsets-below m at (none ∷ cs) h = (omega arith, offsets-below m (at + 0) cs (omega arith))
offsets-below m at (some b ∷ cs) h = let l : at + (length b + length (payloads cs)) < m = rw length-append at h in (omega arith, offsets-below m (at + length b) cs (omega arith))

-- the first offset that is not 0 is where the first payload stands
pub first_offsets : (e at : ℕ) (cs : List Cell) → 0 < at → at + length (payloads cs) ≡ e → first_offset (offsets at cs) e ≡ at
first_offsets e at [] z h = omega arith
first_offsets e at (none ∷ cs) z h = first_offsets e (at + 0) cs (omega arith) (omega arith) ∙ add-zero at
first_offsets e zero (some b ∷ cs) z h = omega arith
first_offsets e (suc at) (some b ∷ cs) z h = refl

pub drop_past : (xs : List ℕ) (y : ℕ) (ys : List ℕ) (k : ℕ) → length xs ≡ k → drop (suc k) (xs ++ y ∷ ys) ≡ ys
drop_past xs y ys k e = rw (← append_snoc xs y ys) (drop_at (xs ++ (y ∷ [])) ys (suc k) (simp length-append (omega arith)))

-- ---- the regions

module _ (w : ℕ) (front region : List ℕ) (cs : List Cell) where
  pub length-lay : length (lay w front region cs) ≡ base w front region cs + length (payloads cs)
  unfolding lay
  length-lay = simp (length-append, length-to_table, length-offsets) (omega arith)

  pub front_region : take (length front) (lay w front region cs) ≡ front
  unfolding lay
  front_region = take-append_seam front _

  pub table_region : take (length cs * w) (drop (length front) (lay w front region cs)) ≡ to_table w (offsets (base w front region cs) cs)
  unfolding lay
  table_region = rw drop-append_seam (take_at (to_table w (offsets (base w front region cs) cs)) _ (length cs * w) (rw (length-to_table, length-offsets)))

  pub past-table : drop (length front + length cs * w) (lay w front region cs) ≡ region ++ payloads cs
  unfolding lay
  past-table = rw (← append_assoc front) (drop_at (front ++ to_table w (offsets (base w front region cs) cs)) _ (length front + length cs * w) (rw (length-append, length-to_table, length-offsets)))

  pub fixed_region : take (length region) (drop (length front + length cs * w) (lay w front region cs)) ≡ region
  fixed_region = rw past-table (take-append_seam region (payloads cs))

  pub payload_region : drop (base w front region cs) (lay w front region cs) ≡ payloads cs
  payload_region = sym (drop-drop (length region) (length front + length cs * w) (lay w front region cs)) ∙ rw past-table (drop-append_seam region (payloads cs))

  -- the table read back
  pub table-read : length (lay w front region cs) < 256 ^ w → from_table w (length cs) (drop (length front) (lay w front region cs)) ≡ offsets (base w front region cs) cs
  unfolding lay
  table-read fits =
      let os : List ℕ = offsets (base w front region cs) cs in
      let b : Below (256 ^ w) os = offsets-below (256 ^ w) (base w front region cs) cs (rw length-lay at fits) in
      rw drop-append_seam (rw length-offsets at (table-from_to w os (region ++ payloads cs) b))

-- ---- the range rule

-- a row that starts with something, and whose length fits an offset, at rank k
module _ (w : ℕ) (front region : List ℕ) (pos : 0 < length front) where
  abbrev row : List Cell → List ℕ
  row cs = lay w front region cs

  -- where its payload stands
  abbrev pub place : List Cell → ℕ → ℕ
  place cs k = base w front region cs + length (payloads (take k cs))

  -- the table, cut at the rank
  pub table_cut : (us : List Cell) (c : Cell) (vs : List Cell) → length (row (us ++ c ∷ vs)) < 256 ^ w
      → let at = place (us ++ c ∷ vs) (length us) in
      from_table w (length (us ++ c ∷ vs)) (drop (length front) (row (us ++ c ∷ vs))) ≡ offsets (base w front region (us ++ c ∷ vs)) us ++ (offset c at ∷ offsets (at + length (bytes c)) vs)
  table_cut us c vs fits = table-read w front region (us ++ c ∷ vs) fits ∙ offsets-append _ us (c ∷ vs) ∙ rw take-append_seam

  length_cut : (us : List Cell) (c : Cell) (vs : List Cell) → length (row (us ++ c ∷ vs)) ≡ place (us ++ c ∷ vs) (length us) + length (bytes c) + length (payloads vs)
  length_cut us c vs = length-lay w front region (us ++ c ∷ vs) ∙ rw (payloads-append, take-append_seam) (simp length-append (omega arith))

  -- its entry is the payload's place, or 0 for a null
  pub entry_lay : (cs : List Cell) (k : ℕ) → k < length cs → length (row cs) < 256 ^ w → entry_at w (length front) k (row cs) ≡ offset (get_or cs k none) (place cs k)
  entry_lay = by_cut (λ cs k. length (row cs) < 256 ^ w → entry_at w (length front) k (row cs) ≡ offset (get_or cs k none) (place cs k))
      λ us c vs fits.
      let n : length us < length (us ++ c ∷ vs) = rw length-append (omega arith) in
      sym (table_entry w (length (us ++ c ∷ vs)) (length front) (length us) (row (us ++ c ∷ vs)) n)
      ∙ rw (table_cut us c vs fits, get_or-append_seam) (get_or_at (offsets _ us) _ _ 0 (length us) (length-offsets _ us))

  -- the range ends where the payload ends
  pub end-lay : (cs : List Cell) (k : ℕ) → k < length cs → length (row cs) < 256 ^ w → range_end w (length front) (length cs) k (row cs) ≡ place cs k + length (bytes (get_or cs k none))
  unfolding range_end
  end-lay = by_cut (λ cs k. length (row cs) < 256 ^ w → range_end w (length front) (length cs) k (row cs) ≡ place cs k + length (bytes (get_or cs k none)))
      λ us c vs fits.
      let at : ℕ = place (us ++ c ∷ vs) (length us) in
      rw (table_cut us c vs fits, length_cut us c vs, get_or-append_seam, drop_past (offsets _ us) _ _ (length us) (length-offsets _ us))
      (first_offsets (at + length (bytes c) + length (payloads vs)) (at + length (bytes c)) vs (omega arith) refl)

  -- and holds the cell's bytes
  pub range-lay : (cs : List Cell) (k : ℕ) (b : List ℕ) → k < length cs → get_or cs k none ≡ some b → length (row cs) < 256 ^ w → range_bytes w (length front) (length cs) k (row cs) ≡ b
  unfolding range_bytes
  range-lay cs k b h e fits =
      let n : place cs k + length b - place cs k ≡ length b = omega arith in
      rw (end-lay cs k h fits, entry_lay cs k h fits, e, n, ← drop-drop (length (payloads (take k cs))) (base w front region cs) (row cs), payload_region, payloads_at cs k h, e)
      (take-append_seam b (payloads (drop (suc k) cs)))

-- ---- a turn of the loop that looks for the first offset that is not 0

or_some : (x e : ℕ) → (x ≡ 0 → ⊥) → or_else x e ≡ x
or_some zero e h = absurd (h refl)
or_some (suc x) e h = refl

-- from entry j on, of which the code knows that it is o
module _ (w t v j e o : ℕ) (r : List ℕ) where
  abbrev from : ℕ → ℕ
  from i = first_offset (drop i (from_table w v (drop t r))) e

  first_next : j < v → o ≡ entry_at w t j r → from j ≡ or_else o (from (j + 1))
  first_next h k =
      rw (add-one, drop-cons (from_table w v (drop t r)) j 0 (rw length-from_table h)) (ap (λ (x : ℕ). or_else x (from (suc j))) (table_entry w v t j r h ∙ sym k))

  pub first_zero : j < v → o ≡ entry_at w t j r → o ≡ 0 → from (j + 1) ≡ from j
  first_zero h k z = sym (first_next h k ∙ rw z)

  pub first_some : j < v → o ≡ entry_at w t j r → (o ≡ 0 → ⊥) → o ≡ from j
  first_some h k n = sym (first_next h k ∙ or_some o (from (j + 1)) n)

pub first_none : (w t v j e : ℕ) (r : List ℕ) → v ≤ j → e ≡ first_offset (drop j (from_table w v (drop t r))) e
first_none w t v j e r h = ap (λ (os : List ℕ). first_offset os e) (sym (drop_of_length-le (from_table w v (drop t r)) {i = j} (rw length-from_table h)))
