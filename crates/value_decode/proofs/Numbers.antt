-- Numbers that fill a slot.
use Prim.Native.Nat.{ℕ}
use mathlib.Core.Path.{◌≡◌, ap}
use mathlib.Core.List.{List}
use native.Mathlib.Omega.{arith}
use lib.ListN.{length, take}
use lib.Seq.{take_all}
use Rattle.laws.specs.Bytes.{from_le}

pub slot-taken : (w : ℕ) (bs : List ℕ) → length bs ≡ w → from_le (take w bs) ≡ from_le bs
slot-taken w bs e = ap from_le (take_all w bs (omega arith))
