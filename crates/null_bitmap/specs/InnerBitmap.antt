-- For the proofs: a column's bit in lent bytes.

use Rattle.error.specs.Result.{Result}
use Rattle.std.specs.Prelude.{ℕ, ◌/◌, cond, List, eqb, leb, length, Bool, Err, Ok}
use Rattle.error.specs.declared.Refusal.TheVariants.{NoSuchColumn}
use Rattle.laws.specs.Bits.{bit_at, put_bit_at}

-- 01, "`assert!` in null_bitmap: answer 9": column i of n, where the bytes reach it
abbrev pub flag_in : ℕ → ℕ → List ℕ → Result Bool
flag_in n i bs =
    cond (leb n i) (Err NoSuchColumn)
    (cond (leb (length bs) (i / 8)) (Err NoSuchColumn) (Ok (eqb (bit_at i bs) 1)))

abbrev pub flag_put : ℕ → ℕ → ℕ → List ℕ → Result Unit × List ℕ
flag_put v n i bs =
    cond (leb n i) (Err NoSuchColumn, bs)
    (cond (leb (length bs) (i / 8)) (Err NoSuchColumn, bs) (Ok tt, put_bit_at v i bs))
