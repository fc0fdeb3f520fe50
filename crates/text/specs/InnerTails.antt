-- For the proofs: the tails among bytes, counted. A text has a character for each byte that is no tail.
use Rattle.std.specs.Prelude.{ℕ, zero, suc, ◌+◌, List, get_or}
use mir.Val.{bool_byte}
use Rattle.text.specs.Rfc3629.{within, utf8_tail}

-- the number of tails among the n bytes from first on; what is past the end counts as 0, which is none
unfoldable pub tails_of : List ℕ → ℕ → ℕ → ℕ
tails_of s first zero = 0
tails_of s first (suc n) = tails_of s first n + bool_byte (within utf8_tail (get_or s (first + n) 0))
