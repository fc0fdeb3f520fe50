-- Which texts fit n code points.
use Prim.Native.Nat.{ℕ}
use mathlib.Core.Path.{◌≡◌}
use mathlib.Core.Bool.{true, false}
use mathlib.Core.List.{List}
use native.Mathlib.Omega.{arith}
use borrow.Author.Tests.{le-leb}
use Rattle.text.specs.Check.{points}
use Rattle.text.proofs.Characters.{characters}
use Rattle.text.proofs.Points.{points-some}
use Rattle.text_limit.specs.Limit.{fits_text}
use Rattle.text_limit.specs.Characters.{AtMost, FitsCharacters, FitsEither}
use Rattle.text_limit.proofs.Limits.{size-le, fits-valid, fits-size}

fits_at_most : (n : ℕ) (x : List ℕ) → fits_text true n x ≡ true → AtMost n x
fits_at_most n x e =
    record {
      count = points x;
      all = (characters x (points x)).0 (points-some x (fits-valid true n x e));
      few = fits-size true n x e;
    }

at_most_fits : (n : ℕ) (x : List ℕ) → AtMost n x → fits_text true n x ≡ true
at_most_fits n x a =
    let s = (characters x a.count).1 a.all in
    rw (s) (le-leb a.count n a.few)

pub fits-characters : FitsCharacters
fits-characters n x = (fits_at_most n x, at_most_fits n x)

pub fits_either : FitsEither
fits_either n x e =
    let t = fits-valid false n x e in
    let k = size-le true x t in
    let l = fits-size false n x e in
    rw t (le-leb (points x) n (omega arith))
