-- The wanted columns marked one after the other, and what the marks tell.
use Prim.Native.Nat.{ℕ, ◌+◌, ◌≤◌, ◌<◌}
use mathlib.Core.Path.{◌≡◌, refl, sym, ◌∙◌}
use mathlib.Core.Bool.{Bool, true, false, cond}
use mathlib.Core.List.{List, [], ◌∷◌}
use native.Mathlib.Numerals.{add-one}
use borrow.Author.Tests.{eqb-true, eqb-false}
use lib.Dec.{eqb}
use lib.ListN.{length, get_or, set, drop, replicate, length-set, drop_of_length-le, length-replicate, get_or-replicate}
use lib.Seq.{drop-cons, get_or-set_same, get_or-set_other}
use Rattle.row_decode.specs.Read.{is_wanted}
use Rattle.row_decode.specs.InnerMarks.{marked, is_marked}

pub marked_more : (m ws : List ℕ) (k : ℕ) → k < length ws → marked (set m (get_or ws k 0) 1) (drop (k + 1) ws) ≡ marked m (drop k ws)
marked_more m ws k h = rw (add-one, drop-cons ws k 0 h)

pub marked_all : (m ws : List ℕ) (k : ℕ) → length ws ≤ k → m ≡ marked m (drop k ws)
marked_all m ws k h = rw (drop_of_length-le ws h)

pub length_marked : (m ws : List ℕ) → length (marked m ws) ≡ length m
length_marked m [] = refl
length_marked m (w ∷ ws) = length_marked (set m w 1) ws ∙ length-set m w 1

already : (t : Bool) → ◌≡◌ {A = ℕ} (cond t 1 1) 1
already true = refl
already false = refl

one_step : (m : List ℕ) (w i : ℕ) (t b : Bool) → eqb w i ≡ b → i < length m → cond t 1 (get_or (set m w 1) i 0) ≡ cond (cond b true t) 1 (get_or m i 0)
one_step m w i t true e h = rw (eqb-true w i e, get_or-set_same m i 1 0 h) (already t)
one_step m w i t false e h = rw (get_or-set_other m w i 1 0 (λ f. eqb-false w i e (sym f)))

marked_at : (m ws : List ℕ) (i : ℕ) → i < length m → get_or (marked m ws) i 0 ≡ cond (is_wanted ws i) 1 (get_or m i 0)
marked_at m [] i h = refl
marked_at m (w ∷ ws) i h = marked_at (set m w 1) ws i (rw length-set h) ∙ one_step m w i (is_wanted ws i) (eqb w i) refl h

told : (t : Bool) → eqb (cond t 1 0) 1 ≡ t
told true = refl
told false = refl

pub marks_tell : (n : ℕ) (ws : List ℕ) (i : ℕ) → i < n → is_marked (marked (replicate n 0) ws) i ≡ is_wanted ws i
marks_tell n ws i h = rw (marked_at (replicate n 0) ws i (rw (length-replicate {A = ℕ} n 0) h), get_or-replicate {A = ℕ} n i 0 0 h) (told (is_wanted ws i))
