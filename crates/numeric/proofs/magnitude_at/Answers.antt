use Prim.Native.Nat.{ℕ, ◌+◌, ◌-◌}
use mathlib.Core.Path.{◌≡◌, sym, ◌∙◌}
use native.Mathlib.Omega.{arith}
use Rattle.numeric.proofs.Reading.{no_first, no_second, both_parts}
use Rattle.numeric.proofs.magnitude_at.Goals as goal

pub returns-in_err-upper : goal.returns-in_err-upper
returns-in_err-upper c =
    let a = c.args in
    let m : ℕ = a.front + c.saturating_sub.result in
    let e : m ≡ a.front + (a.p - 19) = omega (arith, c.saturating_sub.ensures) in
    c.from_residual.ensures ∙ no_first a.bytes.now a.front a.p c.requires.1 m e (sym (c.in_err-upper.was) ∙ c.short_magnitude.ensures)

pub returns-in_err-lower : goal.returns-in_err-lower
returns-in_err-lower c =
    let a = c.args in
    let m : ℕ = a.front + c.saturating_sub.result in
    let e : m ≡ a.front + (a.p - 19) = omega (arith, c.saturating_sub.ensures) in
    c.from_residual-in_err-lower.ensures
    ∙ no_second a.bytes.now a.front a.p c.requires.1 m e _ (sym (c.in_ok-upper.was) ∙ c.short_magnitude.ensures) (sym (c.in_err-lower.was) ∙ c.short_magnitude-2.ensures)

pub returns : goal.returns
returns c =
    let a = c.args in
    let m : ℕ = a.front + c.saturating_sub.result in
    let e : m ≡ a.front + (a.p - 19) = omega (arith, c.saturating_sub.ensures) in
    both_parts a.bytes.now a.front a.p c.requires.1 m e _ _ (sym (c.in_ok-upper.was) ∙ c.short_magnitude.ensures) (sym (c.in_ok-lower.was) ∙ c.short_magnitude-2.ensures)
