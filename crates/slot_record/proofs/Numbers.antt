-- A number's bytes are the bytes of its record.
use Rattle.error.specs.Result.{Result}
use Rattle.std.specs.Prelude.{Ok}
use Prim.Native.Nat.{ℕ, ◌+◌, ◌-◌, ◌^◌, ◌≤◌}
use mathlib.Core.Path.{◌≡◌, sym, ap}
use mathlib.Core.List.{List, ◌∷◌}
use native.Mathlib.Omega.{arith}
use lib.ListN.{length, take, drop, length-drop}
use lib.Seq.{sets, take_all, length-take-le}
use mir.Syntax.{Width}
use mir.Val.{Fits, bits, to_z, of_z}
use mir.ValLaws.{of_z-to_z}
use Rattle.laws.specs.Bytes.{from_le, to_le}
use Rattle.laws.proofs.Bytes.{AllBytes, all-below, to_from, from-part}

pub slot-taken : (n : ℕ) (bs : List ℕ) → length bs ≡ n → from_le (take n (drop 0 bs)) ≡ from_le bs
slot-taken n bs e = ap from_le (take_all n bs (omega arith))

-- a record of kind k whose body is the number of n bytes bs: what was written, and what the definition says
module _ (out : List ℕ) (at k n : ℕ) (bs : List ℕ) (l : length bs ≡ n) (b : AllBytes bs) {w : ℕ} {out' : List ℕ} (e : w ≡ at + (1 + n)) (f : out' ≡ sets out at (k ∷ bs)) where
  back : bs ≡ to_le n (from_le bs)
  back = sym (rw l at (to_from bs (all-below bs b)))

  below : (v : Width) → 2 ^ bits v ≡ 256 ^ n → Fits v (from_le bs)
  below v s = record { fits = rw (s, ← slot-taken n bs l) (from-part n 0 bs b) }

  pub unsigned : ◌≡◌ {A = Result (ℕ × ℕ) × List ℕ} (Ok (w, 0), out') (Ok ((at + (1 + n)), 0), sets out at (k ∷ to_le n (from_le bs)))
  unsigned = rw (e, f, ← back)

  pub signed : (v : Width) → 2 ^ bits v ≡ 256 ^ n → ◌≡◌ {A = Result (ℕ × ℕ) × List ℕ} (Ok (w, 0), out') (Ok ((at + (1 + n)), 0), sets out at (k ∷ to_le n (of_z v (to_z v (from_le bs)))))
  signed v s = rw (of_z-to_z v (from_le bs) (below v s)) unsigned

-- the bytes from a up to e
pub part_length : (r : List ℕ) (a e : ℕ) → a ≤ e → e ≤ length r → length (take (e - a) (drop a r)) ≡ e - a
part_length r a e h l = length-take-le (e - a) (drop a r) (rw length-drop (omega arith))
