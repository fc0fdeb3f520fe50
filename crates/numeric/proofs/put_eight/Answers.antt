use native.Mathlib.Numerals.{unary_clauses}
use Rattle.numeric.proofs.Packing.{hundreds_eight}
use Rattle.numeric.proofs.put_eight.Goals as goal

pub returns : goal.returns
returns c =
    simp unary_clauses (rw (hundreds_eight c.args.n c.requires.0, c.two_digits.ensures, c.two_digits-2.ensures, c.two_digits-3.ensures, c.two_digits-4.ensures))
