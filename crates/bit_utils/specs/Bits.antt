-- FORMAT 5.1. 01, "Stored forms": "Bit: high bit first, exactly the bytes that n bits fill; spare bits ignored when
-- read, zero when written".
use Rattle.std.specs.Prelude.{ℕ, zero, suc, ◌+◌, ◌*◌, ◌/◌, ◌^◌, List, [], ◌∷◌, ◌++◌, take, drop}
use Rattle.laws.specs.Bits.{bit_of}

abbrev pub bytes_for : ℕ → ℕ
bytes_for n = (n + 7) / 8

-- the low w bits of a number, the high bit first; the bits of a byte, and of bytes
abbrev pub low_bits : ℕ → ℕ → List ℕ
low_bits zero b = []
low_bits (suc w) b = bit_of w b ∷ low_bits w b

abbrev pub byte_bits : ℕ → List ℕ
byte_bits b = low_bits 8 b

abbrev pub all_bits : List ℕ → List ℕ
all_bits [] = []
all_bits (b ∷ bs) = byte_bits b ++ all_bits bs

-- bits as a byte, the first of w bits the highest, zero for those that are not there; and as k bytes
abbrev pub pack_byte : ℕ → List ℕ → ℕ
pack_byte zero xs = 0
pack_byte (suc w) [] = 0
pack_byte (suc w) (x ∷ xs) = x * 2 ^ w + pack_byte w xs

abbrev pub pack_bytes : ℕ → List ℕ → List ℕ
pack_bytes zero xs = []
pack_bytes (suc k) xs = pack_byte 8 (take 8 xs) ∷ pack_bytes k (drop 8 xs)

-- `unpack_bit_string` and `pack_bit_string`: the first n bits of bytes, and the bytes that n bits fill
abbrev pub unpack_bits : ℕ → List ℕ → List ℕ
unpack_bits n bs = take n (all_bits bs)

abbrev pub pack_bits : ℕ → List ℕ → List ℕ
pack_bits n xs = pack_bytes (bytes_for n) xs
