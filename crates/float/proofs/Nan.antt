-- The patterns of NaNs, told by their bits.
use Prim.Native.Nat.{ℕ}
use mathlib.Core.Path.{◌≡◌, sym, ◌∙◌}
use mathlib.Core.Bool.{not}
use lib.Dec.{T}
use lib.Ieee.{Format, is_nan, of_bits, nan_bits}
use lib.Ieee.Bits.{nan_bits_is, nan_bits_above}
use Rattle.float.specs.Patterns.{nan_pattern}

pub nan_pattern_lem : (f : Format) (a : ℕ) → nan_pattern f a ≡ is_nan (of_bits f a)
nan_pattern_lem f a = sym (nan_bits_above f a) ∙ nan_bits_is f a

-- what `from_bits` asks
pub no_nan : (f : Format) (a : ℕ) → T (not (is_nan (of_bits f a))) → T (not (nan_bits f a))
no_nan f a h = rw (nan_bits_is f a) h
