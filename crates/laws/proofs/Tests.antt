-- A definition that goes by nested tests, `cond t x y`, against a return that knows how each test on its way came out: `search by_tests`.
use mathlib.Core.Path.{◌≡◌, sym, ◌∙◌}
use mathlib.Core.Bool.{Bool, true, false, cond}
use borrow.Author.Tests.{lt-ltb, le-ltb, le-leb, lt-leb, eq-eqb, ne_eqb}

module _ {A : Type 0} where
  pub at_true : (t : Bool) (r x y : A) → t ≡ true → r ≡ x → r ≡ cond t x y
  at_true t r x y h e = rw h e

  pub at_false : (t : Bool) (r x y : A) → t ≡ false → r ≡ y → r ≡ cond t x y
  at_false t r x y h e = rw h e

-- a test that a call answered
pub asked : (u t b : Bool) → t ≡ u → t ≡ b → u ≡ b
asked u t b e h = sym e ∙ h

pub ruleset by_tests = (at_true, at_false, lt-ltb, le-ltb, le-leb, lt-leb, eq-eqb, ne_eqb, asked)
