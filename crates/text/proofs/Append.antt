-- A text before other bytes: its characters come to theirs.
use Prim.Native.Nat.{ℕ, zero, suc, ◌+◌}
use mathlib.Core.Path.{◌≡◌, refl, sym, ap, ◌∙◌}
use mathlib.Core.Bool.{Bool, true, false, cond, false≢true}
use mathlib.Core.List.{List, [], ◌∷◌, ◌++◌}
use mathlib.Core.Option.{Option, none, some}
use native.Mathlib.Nat.{zero-add, suc-add}
use lib.ListN.{replicate}
use Rattle.text.specs.Rfc3629.{Form, within, utf8_char, more, octets, code_points, is_given, is_text}
use Rattle.text.proofs.Laws.{none-some, some_same}
use Rattle.text.proofs.Forms.{rest_of, begun, begin-form}
use Rattle.text.specs.InnerCharacters.{plus}

-- ---- a number, where there is one

pub plus-zero : (x : Option ℕ) → plus 0 x ≡ x
plus-zero none = refl
plus-zero (some n) = ap some (zero-add n)

-- one more, and m more
plus-more : (m : ℕ) (x : Option ℕ) → more (plus m x) ≡ plus (suc m) x
plus-more m none = refl
plus-more m (some n) = ap some (sym (suc-add m n))

-- ---- the law

-- what stands before y adds its number to that of y: then so does a character more, and a byte that lies in its range
module _ (y : Option ℕ) where
  abbrev Adds : Option ℕ → Option ℕ → Type 0
  Adds x z = (m : ℕ) → x ≡ some m → z ≡ plus m y

  adds_more : (x z : Option ℕ) → Adds x z → Adds (more x) (more z)
  adds_more none z f m e = none-some e
  adds_more (some k) z f m e = rw (f k refl, ← some_same e) (plus-more k y)

  adds_if : (t : Bool) (x z : Option ℕ) → Adds x z → Adds (cond t x none) (cond t z none)
  adds_if true x z f = f
  adds_if false x z f = λ m e. none-some e

  adds_begun : (form : Option Form) (go on : Form → Option ℕ) → ((rest : Form) → Adds (go rest) (on rest))
      → Adds (begun form go) (begun form on)
  adds_begun none go on f = λ m e. none-some e
  adds_begun (some rest) go on f = adds_more (go rest) (on rest) (f rest)

module _ (y : List ℕ) where
  octets-before : (x : List ℕ) (ranges : Form) → Adds (code_points y) (octets x ranges) (octets (x ++ y) ranges)
  unfolding octets
  octets-before [] [] m e = rw (← some_same e) (sym (plus-zero (octets y [])))
  octets-before [] (r ∷ rest) m e = none-some e
  octets-before (b ∷ x) [] m e =
      begin-form b (octets (x ++ y))
      ∙ adds_begun (octets y []) (rest_of utf8_char b) (octets x) (octets (x ++ y)) (octets-before x) m
      (sym (begin-form b (octets x)) ∙ e)
  octets-before (b ∷ x) (r ∷ rest) m e =
      adds_if (octets y []) (within r b) (octets x rest) (octets (x ++ y) rest) (octets-before x rest) m e

-- y need not be text
pub points-before : (x y : List ℕ) (m : ℕ) → code_points x ≡ some m → code_points (x ++ y) ≡ plus m (code_points y)
points-before x y m e = octets-before y x [] m e

pub points-append : (x y : List ℕ) (m n : ℕ) → code_points x ≡ some m → code_points y ≡ some n
    → code_points (x ++ y) ≡ some (m + n)
points-append x y m n e f = points-before x y m e ∙ ap (plus m) f

-- ---- texts

-- text has a number of code points
pub counted : (x : Option ℕ) → is_given x ≡ true → (n : ℕ) × (x ≡ some n)
counted none e = absurd (false≢true e)
counted (some n) e = (n, refl)

pub text-append : (x y : List ℕ) → is_text x ≡ true → is_text y ≡ true → is_text (x ++ y) ≡ true
text-append x y e f =
    let m = counted (code_points x) e in
    let n = counted (code_points y) f in
    ap is_given (points-append x y m.0 n.0 m.1 n.1)

-- n blanks are n characters
pub blank_points : (n : ℕ) → code_points (replicate n 0x20) ≡ some n
unfolding octets
blank_points zero = refl
blank_points (suc n) = begin-form 0x20 (octets (replicate n 0x20)) ∙ ap more (blank_points n)

pub blanks : (n : ℕ) → is_text (replicate n 0x20) ≡ true
blanks n = ap is_given (blank_points n)
