-- An offset that moves or stays, a turn of the loop over the higher ranks, and the whole table.
use Prim.Native.Nat.{ℕ, zero, suc, ◌+◌, ◌*◌, ◌-◌, ◌≤◌, ◌<◌}
use mathlib.Core.Path.{◌≡◌, refl, sym, ap, ◌∙◌}
use mathlib.Core.List.{List, ◌∷◌, ◌++◌, map}
use native.Mathlib.Nat.{mul-le-mul_right, add-mul, suc-mul}
use native.Mathlib.Numerals.{add-one}
use native.Mathlib.Omega.{arith}
use lib.ListN.{length, take, drop, length-append, length-drop, length-map}
use lib.Seq.{sets, length-sets, drop-drop, length-take-le}
use Rattle.laws.specs.Bytes.{to_le, from_le, to_table, from_table, entry_at}
use Rattle.laws.proofs.Bytes.{AllBytes, all-below, below-drop, length-to_le, length-to_table, length-from_table, to_table-append}
use Rattle.laws.proofs.Stores.{sets-append, sets_self, sets-splice, sets_comm}
use Rattle.laws.proofs.Entries.{stored_again, table-take, table-drop, table_to_from}
use Rattle.laws.proofs.Lent.{drop-sets}
use Rattle.row_format.specs.Edit.{offset_table, moved_by}
use Rattle.row_patch.specs.InnerOffsets.{moved_from, table_edit, CanMove, HigherMove}

-- ---- one offset

moved-some : (e f o : ℕ) → (o ≡ 0 → ⊥) → moved_by e f o ≡ o + f - e
moved-some e f zero n = absurd (n refl)
moved-some e f (suc o) n = refl

-- o is the offset that was read
module _ (w t j e f o : ℕ) (r : List ℕ) (read : o ≡ entry_at w t j r) where
  pub offset-moved : (q : List ℕ) → (o ≡ 0 → ⊥) → q ≡ sets r (t + j * w) (to_le w (o + f - e)) → q ≡ sets r (t + j * w) (to_le w (moved_by e f (entry_at w t j r)))
  offset-moved q n d = d ∙ ap (λ (x : ℕ). sets r (t + j * w) (to_le w x)) (sym (moved-some e f o n)) ∙ ap (λ (x : ℕ). sets r (t + j * w) (to_le w (moved_by e f x))) read

  pub offset-kept : AllBytes r → t + (j + 1) * w ≤ length r → o ≡ 0 → r ≡ sets r (t + j * w) (to_le w (moved_by e f (entry_at w t j r)))
  offset-kept a h z =
      let zeros : entry_at w t j r ≡ 0 = sym read ∙ z in
      let same : moved_by e f (entry_at w t j r) ≡ entry_at w t j r = ap (moved_by e f) zeros ∙ sym zeros in
      sym (rw same (stored_again w (t + j * w) r a (omega arith)))

-- ---- the loop over the higher ranks: what is left, moved in what is there, is the whole, and what is left stands as it stood

pub record Moving (w t v k e f : ℕ) (r q : List ℕ) (j : ℕ) : Type 0 where
  pub past : k < j
  pub within : j ≤ v
  pub long : length q ≡ length r
  pub ahead : drop (t + j * w) q ≡ drop (t + j * w) r
  pub rest : moved_from w t v j e f q ≡ moved_from w t v (k + 1) e f r

module _ {w t v k e f : ℕ} {r : List ℕ} (m : HigherMove w t v k e f r) where
  pub moving_start : Moving w t v k e f r r (k + 1)
  moving_start = record { past = omega arith; within = omega (arith, m.ranked); long = refl; ahead = refl; rest = refl }

  module _ {q : List ℕ} {j : ℕ} (s : Moving w t v k e f r q j) where
    pub moving_inside : j < v → t + (j + 1) * w ≤ length q
    moving_inside h = let n : j + 1 ≤ v = omega arith in omega (arith, m.inside, s.long, mul-le-mul_right w n)

    same_entry : entry_at w t j q ≡ entry_at w t j r
    same_entry = ap (λ (l : List ℕ). from_le (take w l)) s.ahead

    pub moving_may : j < v → CanMove w e f (entry_at w t j q)
    moving_may h = rw same_entry (m.higher j s.past h)

    pub moving_more : j < v → (p : List ℕ) → p ≡ sets q (t + j * w) (to_le w (moved_by e f (entry_at w t j q))) → Moving w t v k e f r p (j + 1)
    moving_more h p d =
        let x : ℕ = moved_by e f (entry_at w t j q) in
        let at : t + (j + 1) * w ≡ t + j * w + w = omega arith in
        let n : v - j ≡ suc (v - (j + 1)) = omega arith in
        let kept : drop (t + j * w + w) p ≡ drop (t + j * w + w) q = ap (drop (t + j * w + w)) d ∙ drop-sets (t + j * w + w) q (t + j * w) (to_le w x) (rw length-to_le (omega arith)) in
        record {
          past = omega (arith, s.past);
          within = omega arith;
          long = ap length d ∙ length-sets q (t + j * w) (to_le w x) ∙ s.long;
          ahead = rw at (kept ∙ sym (drop-drop w (t + j * w) q) ∙ ap (drop w) s.ahead ∙ drop-drop w (t + j * w) r);
          rest = rw (at, kept, d) (sym (rw (n, drop-drop, sets-append, length-to_le) at (sym s.rest)));
        }

    pub moving_end : v ≤ j → q ≡ moved_from w t v (k + 1) e f r
    moving_end h = let n : v - j ≡ 0 = omega arith in rw n at s.rest

-- ---- the table

-- the own offset and the higher ones, stored; as the table written anew
module _ (w t v k x e f : ℕ) (r : List ℕ) (a : AllBytes r) (h : k < v) (inside : t + v * w ≤ length r) where
  lower : List ℕ
  lower = take (k * w) (drop t r)

  higher : List ℕ
  higher = to_table w (map (moved_by e f) (from_table w (v - suc k) (drop (t + suc k * w) r)))

  below : t + k * w ≤ length r
  below = let n : k ≤ v = omega arith in omega (arith, mul-le-mul_right w n)

  length-lower : length lower ≡ k * w
  unfolding lower
  length-lower = length-take-le (k * w) (drop t r) (rw length-drop (omega (arith, below)))

  length-higher : length higher ≡ (v - suc k) * w
  unfolding higher
  length-higher = rw (length-to_table, length-map, length-from_table)

  parts : List ℕ
  parts = lower ++ (to_le w x ++ higher)

  length_parts : length parts ≡ v * w
  unfolding parts
  length_parts =
      let n : v ≡ k + suc (v - suc k) = omega arith in
      rw (length-append, length-append, length-lower, length-higher, length-to_le) (sym (ap (λ (m : ℕ). m * w) n ∙ add-mul k (suc (v - suc k)) w ∙ rw suc-mul (omega arith)))

  table_parts : (let os = from_table w v (drop t r) in to_table w (take k os ++ (x ∷ map (moved_by e f) (drop (suc k) os)))) ≡ parts
  unfolding parts lower higher
  table_parts =
      let n : k ≤ v = omega arith in
      let m : suc k ≤ v = omega arith in
      rw (table-take w v k (drop t r) n, table-drop w v (suc k) (drop t r) m, drop-drop, to_table-append, table_to_from w k (drop t r) (below-drop 256 t r (all-below r a)) (rw length-drop (omega (arith, below))))

  stored : sets r t parts ≡ sets r (t + k * w) (to_le w x ++ higher)
  unfolding parts lower
  stored = sets-append r t (take (k * w) (drop t r)) (to_le w x ++ higher) ∙ rw (length-lower, sets_self r t (k * w) below)

  moved-higher : moved_from w t v (k + 1) e f r ≡ sets r (t + suc k * w) higher
  unfolding higher
  moved-higher = rw add-one

  pub table-edited : (q p : List ℕ) → q ≡ moved_from w t v (k + 1) e f r → p ≡ sets q (t + k * w) (to_le w x) → p ≡ table_edit (offset_table w t v) k x e f r
  table-edited q p d c =
      let at : t + suc k * w ≡ t + k * w + length (to_le w x) = rw length-to_le (omega arith) in
      let one : q ≡ sets r (t + suc k * w) higher = d ∙ moved-higher in
      let two : p ≡ sets r (t + k * w) (to_le w x ++ higher) = c ∙ rw one (sym (sets_comm r (t + k * w) (t + suc k * w) (to_le w x) higher (omega (arith, at))) ∙ rw at (sym (sets-append r (t + k * w) (to_le w x) higher))) in
      two ∙ sym stored ∙ sets-splice r t parts (rw length_parts inside) ∙ rw (length_parts, table_parts)
