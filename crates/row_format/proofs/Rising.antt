-- Where offsets rise: the ranges stand one behind the other, and the row is laid out of the cells that they hold.
use Prim.Native.Nat.{ℕ, zero, suc, ◌+◌, ◌*◌, ◌-◌, ◌≤◌, ◌<◌}
use mathlib.Core.Path.{◌≡◌, refl, sym, ap, ◌∙◌}
use mathlib.Core.List.{List, [], ◌∷◌, ◌++◌}
use mathlib.Core.Option.{none}
use native.Mathlib.Nat.{add-zero, zero-mul, le_refl, le_trans}
use native.Mathlib.Numerals.{add-one}
use native.Mathlib.Omega.{arith}
use lib.ListN.{length, get_or, take, drop, length-drop, take-append-drop}
use lib.Seq.{drop-drop, drop-length, drop-cons, length-take-le, take-add, get_or-drop}
use Rattle.laws.specs.Bytes.{to_le, from_le, to_table, from_table, entry_at}
use Rattle.laws.proofs.Bytes.{Below, below-drop, below-take, to_from, length-from_table, table_entry}
use Rattle.row_format.specs.Table.{payloads, offsets, lay, or_else, first_offset, range_end}
use Rattle.row_format.specs.Edit.{range_start}
use Rattle.row_format.specs.InnerRising.{Rising, held_at, held_cells, Between}

-- ---- offsets that rise up to e

module _ (e : ℕ) where
  pub first_le : (os : List ℕ) → Rising e os → first_offset os e ≤ e
  first_le [] u = le_refl e
  first_le (zero ∷ os) u = first_le os u
  first_le (suc o ∷ os) u = le_trans u.0 (first_le os u.1)

  rising_drop : (os : List ℕ) (k : ℕ) → Rising e os → Rising e (drop k os)
  rising_drop os zero u = u
  rising_drop [] (suc k) u = tt
  rising_drop (zero ∷ os) (suc k) u = rising_drop os k u
  rising_drop (suc o ∷ os) (suc k) u = rising_drop os k u.1

  first_drop : (os : List ℕ) (k : ℕ) → Rising e os → first_offset os e ≤ first_offset (drop k os) e
  first_drop os zero u = le_refl (first_offset os e)
  first_drop [] (suc k) u = le_refl e
  first_drop (zero ∷ os) (suc k) u = first_drop os k u
  first_drop (suc o ∷ os) (suc k) u = le_trans u.0 (first_drop os k u.1)

  -- an offset that is not 0 is at least the first of them, and at most those behind it
  first_least : (os : List ℕ) (j : ℕ) → Rising e os → j < length os → (get_or os j 0 ≡ 0 → ⊥) → first_offset os e ≤ get_or os j 0
  first_least [] j u h n = absurd (omega arith)
  first_least (zero ∷ os) zero u h n = absurd (n refl)
  first_least (suc o ∷ os) zero u h n = le_refl (suc o)
  first_least (zero ∷ os) (suc j) u h n = first_least os j u (omega arith) n
  first_least (suc o ∷ os) (suc j) u h n = le_trans u.0 (first_least os j u.1 (omega arith) n)

  first_behind : (os : List ℕ) (j k : ℕ) → Rising e os → j < k → (get_or os j 0 ≡ 0 → ⊥) → get_or os j 0 ≤ first_offset (drop k os) e
  first_behind os j zero u h n = absurd (omega arith)
  first_behind [] j (suc k) u h n = absurd (n refl)
  first_behind (zero ∷ os) zero (suc k) u h n = absurd (n refl)
  first_behind (suc o ∷ os) zero (suc k) u h n = le_trans u.0 (first_drop os k u.1)
  first_behind (zero ∷ os) (suc j) (suc k) u h n = first_behind os j k u (omega arith) n
  first_behind (suc o ∷ os) (suc j) (suc k) u h n = first_behind os j k u.1 (omega arith) n

-- ---- the ranges

module _ (w t v : ℕ) (r : List ℕ) where
  abbrev table : List ℕ
  table = from_table w v (drop t r)

  -- a range starts at the first offset from its own on
  pub start_first : (k : ℕ) → k < v → range_start w t v k r ≡ first_offset (drop k table) (length r)
  unfolding range_start range_end
  start_first k h =
      sym (rw (drop-cons table k 0 (rw length-from_table h)) (ap (λ (x : ℕ). or_else x (first_offset (drop (suc k) table) (length r))) (table_entry w v t k r h)))

  pub ranges_between : Rising (length r) table → (k : ℕ) → k < v → Between w t v k (first_offset table (length r)) r
  unfolding range_end
  ranges_between u k h =
      let start = start_first k h in
      let next : first_offset (drop k table) (length r) ≤ first_offset (drop (suc k) table) (length r)
      = rw (drop-drop 1 k table, add-one) at (first_drop (length r) (drop k table) 1 (rising_drop (length r) table k u)) in
      record {
        past = rw start (first_drop (length r) table k u);
        rises = rw start next;
        within = first_le (length r) (drop (suc k) table) (rising_drop (length r) table (suc k) u);
        higher = λ j a b n.
            let i : suc k + (j - suc k) ≡ j = omega arith in
            let is : get_or (drop (suc k) table) (j - suc k) 0 ≡ entry_at w t j r = get_or-drop (suc k) table (j - suc k) 0 ∙ ap (λ (m : ℕ). get_or table m 0) i ∙ table_entry w v t j r b in
            rw is at (first_least (length r) (drop (suc k) table) (j - suc k) (rising_drop (length r) table (suc k) u) (rw (length-drop, length-from_table) (omega arith)) (λ z. n (sym is ∙ z)));
        lower = λ j a n.
            let is : get_or table j 0 ≡ entry_at w t j r = table_entry w v t j r (omega arith) in
            rw start (rw is at (first_behind (length r) table j k u a (λ z. n (sym is ∙ z))));
      }

-- ---- the cells that a row holds

pub length-held : (os r : List ℕ) → length (held_cells os r) ≡ length os
length-held [] r = refl
length-held (o ∷ os) r = ap suc (length-held os r)

pub held-at : (os r : List ℕ) (k : ℕ) → k < length os → get_or (held_cells os r) k none ≡ held_at (get_or os k 0) (first_offset (drop (suc k) os) (length r)) r
held-at [] r k h = absurd (omega arith)
held-at (o ∷ os) r zero h = refl
held-at (o ∷ os) r (suc k) h = held-at os r k (omega arith)

-- laid out from `at` on, they are the row from there on
record LaidFrom (at : ℕ) (os r : List ℕ) : Type 0 where
  inside : at ≤ length r
  table : offsets at (held_cells os r) ≡ os
  rest : payloads (held_cells os r) ≡ drop at r

laid_from : (os r : List ℕ) (at : ℕ) → Rising (length r) os → first_offset os (length r) ≡ at → LaidFrom at os r
laid_from [] r at u e = record { inside = omega arith; table = refl; rest = rw (← e) (sym (drop-length r)) }
laid_from (zero ∷ os) r at u e =
    let q : LaidFrom at os r = laid_from os r at u e in
    record { inside = q.inside; table = rw (add-zero, q.table); rest = q.rest }
laid_from (suc o ∷ os) r at u e =
    let n : ℕ = first_offset os (length r) in
    let q : LaidFrom n os r = laid_from os r n u.1 refl in
    let i : n ≤ length r = q.inside in
    let l : suc o ≤ n = u.0 in
    let k : length (take (n - suc o) (drop (suc o) r)) ≡ n - suc o = length-take-le (n - suc o) (drop (suc o) r) (rw length-drop (omega arith)) in
    let m : suc o + (n - suc o) ≡ n = omega arith in
    let d : drop n r ≡ drop (n - suc o) (drop (suc o) r) = ap (λ (x : ℕ). drop x r) (sym m) ∙ sym (drop-drop (n - suc o) (suc o) r) in
    rw (← e) (record { inside = omega arith; table = rw (k, m, q.table); rest = rw (q.rest, d) (take-append-drop (n - suc o) (drop (suc o) r)) })

-- a table that was read is written again
pub table_to_from : (w v : ℕ) (bs : List ℕ) → Below 256 bs → v * w ≤ length bs → to_table w (from_table w v bs) ≡ take (v * w) bs
table_to_from w zero bs b h = rw zero-mul
table_to_from w (suc v) bs b h =
    let k : length (take w bs) ≡ w = length-take-le w bs (omega arith) in
    let e : suc v * w ≡ w + v * w = omega arith in
    rw (table_to_from w v (drop w bs) (below-drop 256 w bs b) (rw length-drop (omega arith)), e, take-add)
    (ap (λ (x : List ℕ). x ++ take (v * w) (drop w bs)) (ap (λ (n : ℕ). to_le n (from_le (take w bs))) (sym k) ∙ to_from (take w bs) (below-take 256 w bs b)))

-- a row whose offsets rise and whose payloads start behind f bytes of fixed columns
module _ (w t v f : ℕ) (r : List ℕ) (bytes : Below 256 r) (u : Rising (length r) (from_table w v (drop t r))) (first : first_offset (from_table w v (drop t r)) (length r) ≡ t + v * w + f) where
  laid : LaidFrom (t + v * w + f) (from_table w v (drop t r)) r
  laid = laid_from (from_table w v (drop t r)) r (t + v * w + f) u first

  pub rising_long : t + v * w + f ≤ length r
  rising_long = laid.inside

  pub rising_lay : r ≡ lay w (take t r) (take f (drop (t + v * w) r)) (held_cells (from_table w v (drop t r)) r)
  unfolding lay
  rising_lay =
      let i = rising_long in
      let n : length (held_cells (from_table w v (drop t r)) r) ≡ v = length-held (from_table w v (drop t r)) r ∙ length-from_table w v (drop t r) in
      let front : length (take t r) ≡ t = length-take-le t r (omega arith) in
      let region : length (take f (drop (t + v * w) r)) ≡ f = length-take-le f (drop (t + v * w) r) (rw length-drop (omega arith)) in
      let d : to_table w (from_table w v (drop t r)) ≡ take (v * w) (drop t r) = table_to_from w v (drop t r) (below-drop 256 t r bytes) (rw length-drop (omega arith)) in
      sym (rw (n, front, region, laid.table, laid.rest, d, ← drop-drop f (t + v * w) r, take-append-drop f (drop (t + v * w) r), ← drop-drop (v * w) t r, take-append-drop (v * w) (drop t r), take-append-drop))
