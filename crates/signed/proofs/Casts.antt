-- A machine's number is known by its bits, so an operation on z reads `to_z w (of_z w z)`, which is z.
use mathlib.Core.Path.{◌≡◌, ap, ◌∙◌}
use lib.IntN.{ℤ}
use mir.Syntax.{Width}
use mir.Val.{SFits, to_z, of_z}
use mir.ValLaws.{to_z-of_z}

-- ---- a number handed to a call, and one that a call answered

module _ (w : Width) where
  pub passed : {r z : ℤ} → SFits w r → r ≡ z → to_z w (of_z w r) ≡ z
  passed {r = r} f e = to_z-of_z w r f ∙ e

  pub handed : {A : Type 0} (g : ℤ → A) (z : ℤ) {r : A} → SFits w z → r ≡ g (to_z w (of_z w z)) → r ≡ g z
  handed g z f e = e ∙ ap g (to_z-of_z w z f)
