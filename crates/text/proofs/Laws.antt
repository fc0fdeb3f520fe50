-- Laws on numbers that may not be there, and on runs of numbers. None of them is about text.
use Prim.Native.Nat.{ℕ, ◌+◌, ◌-◌, ◌<◌, ◌≤◌}
use mathlib.Core.Path.{◌≡◌, refl, sym, ◌∙◌}
use mathlib.Core.Bool.{Bool, true, ◌&&◌}
use mathlib.Core.Logic.{◌↔◌}
use mathlib.Core.Option.{none, some}
use mathlib.Core.List.{List}
use native.Mathlib.Omega.{arith}
use lib.ListN.{length, get_or, take, drop, length-drop}
use Rattle.std.proofs.lemmas.List.{length-take-le, get_or-take, get_or-drop}
use Rattle.laws.proofs.Truths.{and_left, and_right, cases}
use Rattle.text.specs.InnerEach.{Each}

-- a number that may not be there
pub none-some : {P : Type 0} {n : ℕ} → none ≡ some n → P
none-some e = let z : ◌≡◌ {A = ℕ} 0 1 = cc in absurd (omega arith)

pub some_same : {m n : ℕ} → some m ≡ some n → m ≡ n
some_same e = cc

-- a property of a run of numbers: of an empty run, of one number more, and of two runs that meet or overlap
module _ {p : ℕ → Bool} {first end : ℕ} where
  pub each_none : end ≤ first → (true ≡ true) ↔ Each p first end
  each_none h = (λ e i l m. absurd (omega arith), λ f. refl)

  pub each_more : {next : ℕ} {ok t : Bool} → (ok ≡ true) ↔ Each p first end → t ≡ p end → first ≤ end → next ≡ end + 1
      → ((ok && t) ≡ true) ↔ Each p first next
  each_more {next} {ok} {t} f e h q = (
    λ g i l m.
        cases i end
        (λ n. f.0 (and_left ok t g) i l n)
        (λ n. let o : i ≡ end = omega arith in rw o (sym e ∙ and_right ok t g)),
    λ g. rw (f.1 (λ i l m. g i l (omega arith)), e) (g end h (omega arith)),
  )

  pub each_join : {from to last : ℕ} → Each p first end → Each p from to → from ≤ end → last ≤ to → Each p first last
  each_join f g h k i l m = cases i end (λ n. f i l n) (λ n. g i (omega arith) (omega arith))

-- the n bytes from first on
module _ (s : List ℕ) (first n : ℕ) (h : first + n ≤ length s) where
  abbrev pub part : List ℕ
  part = take (first + n - first) (drop first s)

  pub length-part : length part ≡ n
  length-part =
      let l = length-drop first s in
      length-take-le (first + n - first) (drop first s) (omega arith) ∙ omega arith

  pub part_at : (i : ℕ) → i < length part → get_or part i 0 ≡ get_or s (first + i) 0
  part_at i k =
      let l = length-part in
      get_or-take (first + n - first) (drop first s) i 0 (omega arith) ∙ get_or-drop first s i 0
