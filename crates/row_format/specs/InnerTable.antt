-- For the proofs: the bytes of a range.
use Rattle.std.specs.Prelude.{ℕ, ◌-◌, List, take, drop}
use Rattle.laws.specs.Bytes.{entry_at}
use Rattle.row_format.specs.Table.{range_end}

-- its bytes
unfoldable pub range_bytes : ℕ → ℕ → ℕ → ℕ → List ℕ → List ℕ
unfolding range_end
range_bytes w t v k r = take (range_end w t v k r - entry_at w t k r) (drop (entry_at w t k r) r)
