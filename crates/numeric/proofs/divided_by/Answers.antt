use Prim.Native.Nat.{ℕ, ◌/◌, ◌%◌, ◌^◌}
use mathlib.Core.Path.{◌≡◌}
use native.Mathlib.Nat.{mod-lt}
use native.Mathlib.Omega.{arith}
use Rattle.numeric.proofs.Digits.{halves, upper, halves_divided, upper_part, lower-part}
use Rattle.numeric.proofs.divided_by.Goals as goal

pub overflow_mul-a : goal.overflow_mul-a
overflow_mul-a c = omega (arith, mod-lt (c.args.n / 2 ^ 64) {m = c.args.d} c.requires.0)

pub overflow_add-a : goal.overflow_add-a
overflow_add-a c = omega (arith, mod-lt (c.args.n / 2 ^ 64) {m = c.args.d} c.requires.0)

pub overflow_mul-b : goal.overflow_mul-b
overflow_mul-b c =
    let up = upper (c.args.n / 2 ^ 64) (c.args.n % 2 ^ 64) c.args.d c.requires.0 in
    omega (arith, mod-lt up {m = c.args.d} c.requires.0)

pub overflow_add-b : goal.overflow_add-b
overflow_add-b c =
    let up = upper (c.args.n / 2 ^ 64) (c.args.n % 2 ^ 64) c.args.d c.requires.0 in
    omega (arith, mod-lt up {m = c.args.d} c.requires.0)

pub overflow_mul-lower : goal.overflow_mul-lower
overflow_mul-lower c = omega (arith, upper_part (c.args.n / 2 ^ 64) (c.args.n % 2 ^ 64) c.args.d c.requires.0 (omega arith))

pub overflow_add-lower : goal.overflow_add-lower
overflow_add-lower c =
    let high : ℕ = c.args.n / 2 ^ 64 in
    let low : ℕ = c.args.n % 2 ^ 64 in
    omega (arith, upper_part high low c.args.d c.requires.0 (omega arith), lower-part high low c.args.d c.requires.0)

pub returns : goal.returns
returns c =
    let high : ℕ = c.args.n / 2 ^ 64 in
    let low : ℕ = c.args.n % 2 ^ 64 in
    let e : halves high low ≡ c.args.n = omega arith in
    rw e at (halves_divided high low c.args.d c.requires.0)
