-- FORMAT 7.4. 01, "Same content": "Real and DoublePrecision compare by value, so the two zeros are equal, and every NaN
-- equals every NaN."
use Rattle.std.specs.Prelude.{ℕ, Bool, false, cond, Float}
use Rattle.std.specs.Float.{Format}
use Rattle.std.specs.Float.Ieee.{is_nan, eq, of_bits}

-- "every NaN equals every NaN", and nothing else; all other floats "compare by value": `eq` is the comparison of
-- IEEE 754, in which "the two zeros are equal"
abbrev pub same_float : Float → Float → Bool
same_float x y = cond (is_nan x) (is_nan y) (cond (is_nan y) false (eq x y))

-- "Real and DoublePrecision": two stored patterns, by the floats of the format f that they are
abbrev pub same_value : Format → ℕ → ℕ → Bool
same_value f a b = same_float (of_bits f a) (of_bits f b)
