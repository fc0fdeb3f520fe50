-- The rule of a constant table: where its entries are computed to be f of their places, so is each one that is read.
use Prim.Native.Nat.{ℕ, zero, suc, ◌+◌, ◌<◌}
use mathlib.Core.Path.{◌≡◌, ◌∙◌, ap}
use mathlib.Core.List.{List, [], ◌∷◌}
use native.Mathlib.Nat.{add-zero, zero-add}
use native.Mathlib.Omega.{arith}
use lib.ListN.{get_or}

-- f of the n numbers from i on
abbrev pub table : (ℕ → ℕ) → ℕ → ℕ → List ℕ
table f zero i = []
table f (suc n) i = f i ∷ table f n (suc i)

from : (f : ℕ → ℕ) (n i k : ℕ) → k < n → get_or (table f n i) k 0 ≡ f (i + k)
from f zero i k h = absurd (omega arith)
from f (suc n) i zero h = rw add-zero
from f (suc n) i (suc k) h = from f n (suc i) k (omega arith) ∙ ap f (omega arith)

-- at a list of numerals that `table f n 0` computes to
pub table_rule : (f : ℕ → ℕ) (n k : ℕ) → k < n → get_or (table f n 0) k 0 ≡ f k
table_rule f n k h = from f n 0 k h ∙ ap f (zero-add k)
