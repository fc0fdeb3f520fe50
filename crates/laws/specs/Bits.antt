-- FORMAT 3.1. Bits of a byte and of a run of bytes, the low bit first.
use Rattle.std.specs.Prelude.{ℕ, ◌+◌, ◌*◌, ◌-◌, ◌/◌, ◌%◌, ◌^◌, Bool, true, false, List, get_or, set}

abbrev pub bit_value : Bool → ℕ
bit_value true = 1
bit_value false = 0

-- bit k of the byte b, and b with the bit v there
abbrev pub bit_of : ℕ → ℕ → ℕ
bit_of k b = b / 2 ^ k % 2

abbrev pub put_bit : ℕ → ℕ → ℕ → ℕ
put_bit v k b = b - bit_of k b * 2 ^ k + v * 2 ^ k

-- bit i of the bytes bs, and the bytes with the bit v there
abbrev pub bit_at : ℕ → List ℕ → ℕ
bit_at i bs = bit_of (i % 8) (get_or bs (i / 8) 0)

abbrev pub put_bit_at : ℕ → ℕ → List ℕ → List ℕ
put_bit_at v i bs = set bs (i / 8) (put_bit v (i % 8) (get_or bs (i / 8) 0))
