-- Where a fixed column starts: at the end of those before it, rounded up to its alignment in a padded row.
use Prim.Native.Nat.{ℕ, ◌+◌, ◌-◌, ◌/◌, ◌<◌}
use mathlib.Core.Bool.{false}
use mathlib.Core.List.{List}
use native.Mathlib.Nat.{div-add-mod', mod-lt, mul-mod_left}
use native.Mathlib.Omega.{arith}
use lib.ListN.{take}
use Rattle.row_format.specs.declared.Shape.{Shape}
use Rattle.row_format.specs.Places.{round_up, fixed_size}
use Rattle.row_format.specs.Padded.{RoundedUp, FixedStarts}
use Rattle.row_format.proofs.Places.{round_up_ge}

rounded : (a at : ℕ) → 0 < a → RoundedUp a at (round_up a at)
rounded a at h =
    let x : ℕ = at + (a - 1) in
    record { multiple = mul-mod_left (x / a) a; reaches = round_up_ge a at h; least = omega (arith, div-add-mod' x a, mod-lt x h) }

pub fixed-starts : (ss : List Shape) (i z a : ℕ) → FixedStarts ss i z a
fixed-starts ss i z a s h = record { packed = rw s; padded = rw s (rounded a (fixed_size false (take i ss)) h) }
