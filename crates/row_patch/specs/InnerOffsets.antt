-- The offsets of a table after the range of rank k, which ended at e, ends at f.
use Rattle.std.specs.Prelude.{ℕ, suc, ◌+◌, ◌*◌, ◌-◌, ◌^◌, ◌≤◌, ◌<◌, ◌≡◌, List, ◌∷◌, ◌++◌, map, length, take, drop}
use Rattle.std.proofs.lemmas.List.Edits.{sets}
use Rattle.laws.specs.Bytes.{to_table, from_table, entry_at, splice}
use Rattle.row_format.specs.Edit.{OffsetTable, moved_by}

-- the offsets from rank j on moved, in a row r with a table of v offsets at byte t
abbrev pub moved_from : ℕ → ℕ → ℕ → ℕ → ℕ → ℕ → List ℕ → List ℕ
moved_from w t v j e f r =
    sets r (t + j * w) (to_table w (map (moved_by e f) (from_table w (v - j) (drop (t + j * w) r))))

-- the whole table, where rank k has the offset x now
abbrev pub table_edit : OffsetTable → ℕ → ℕ → ℕ → ℕ → List ℕ → List ℕ
table_edit t k x e f r =
    let os = from_table t.width t.entries (drop t.start r) in
    splice t.start (t.start + t.entries * t.width)
    (to_table t.width (take k os ++ (x ∷ map (moved_by e f) (drop (suc k) os)))) r

-- ---- what the code needs: an offset of w bytes that moves does not fall below 0 and stays one

abbrev pub CanMove : ℕ → ℕ → ℕ → ℕ → Type 0
CanMove w e f o = (o ≡ 0 → ⊥) → (e ≤ o) × (o + f < 256 ^ w + e)

pub record HigherMove (w t v k e f : ℕ) (r : List ℕ) : Type 0 where
  pub ranked : k < v
  pub inside : t + v * w ≤ length r
  pub higher : (j : ℕ) → k < j → j < v → CanMove w e f (entry_at w t j r)
