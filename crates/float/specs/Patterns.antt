-- The comparison by value, told by the bits alone: the words of `by_bits`. FORMAT 7.4.
use Rattle.std.specs.Prelude.{ℕ, ◌*◌, ◌%◌, ◌≡◌, Bool, true, ◌&&◌, ◌||◌, eqb, ltb}
use Rattle.std.specs.Float.{Format}
use Rattle.std.specs.Float.Ieee.{ones, hid, top}

-- a pattern without its sign bit
abbrev pub without_sign : Format → ℕ → ℕ
without_sign f a = a % top f

-- "the two zeros"
abbrev pub zero_pattern : Format → ℕ → Bool
zero_pattern f a = eqb (without_sign f a) 0

-- "every NaN": above infinity, whose exponent is all ones and whose other bits are 0
abbrev pub nan_pattern : Format → ℕ → Bool
nan_pattern f a = ltb (ones f * hid f) (without_sign f a)

-- "compare by value, so the two zeros are equal, and every NaN equals every NaN"
abbrev pub same_bits : Format → ℕ → ℕ → Bool
same_bits f a b = (nan_pattern f a && nan_pattern f b) || ((zero_pattern f a && zero_pattern f b) || eqb a b)

-- its three cases
pub data Alike (f : Format) (a b : ℕ) : Type 0 where
  nans : nan_pattern f a ≡ true → nan_pattern f b ≡ true → Alike f a b
  zeros : without_sign f a ≡ 0 → without_sign f b ≡ 0 → Alike f a b
  equal : a ≡ b → Alike f a b
