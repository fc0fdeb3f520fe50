-- A line tells where each of its fields ends, and so what it shows; and it is short.
use Prim.Native.Nat.{ℕ, ◌+◌, ◌*◌, ◌≤◌, ◌<◌}
use mathlib.Core.Path.{◌≡◌, refl, sym, ap, ◌∙◌}
use mathlib.Core.Bool.{true, false, ◌||◌}
use mathlib.Core.List.{List, [], ◌∷◌, ◌++◌, map, append_assoc, head-eq_of_cons-eq, tail-eq_of_cons-eq, nil≢cons}
use mathlib.Core.Option.{Option, none, some}
use native.Mathlib.Omega.{arith}
use lib.Dec.{eqb, ltb}
use borrow.Author.Tests.{eqb-false}
use lib.ListN.{length, length-append}
use lib.Seq.{append_snoc}
use Rattle.laws.specs.Bytes.{concat}
use Rattle.laws.proofs.Truths.{or_none}
use Rattle.calendar.specs.Moment.{second_text, moment_text}
use Rattle.calendar.proofs.Texts.{length_moment, moment_opens, moment_inj}
use Rattle.occupation.specs.Occupation.{Occupation, is_unprintable, has_unprintable}
use Rattle.occupation.specs.Line.{quoted, or_hyphen, line}
use Rattle.printed_list.specs.Sorted.{Every}
use Rattle.printed_list.specs.Shown.{Shown, shown, seconds}
use Rattle.text.specs.Rfc3629.{is_text}
use Rattle.printed_list.specs.Printable.{IfSome, NullOrText, NullOrInYears, Printable}

-- f x, whatever follows it, tells g x and what follows
abbrev Cuts : {A B : Type 0} → (A → Type 0) → (A → List ℕ) → (A → B) → Type 0
Cuts {A} P f g = (x y : A) (r s : List ℕ) → P x → P y → f x ++ r ≡ f y ++ s → (g x ≡ g y) × (r ≡ s)

-- ---- one field: a text ends at the first quote, a moment after 19 bytes, and neither begins with a hyphen

abbrev Clean : List ℕ → Type 0
Clean t = is_unprintable t ≡ false

no_quote : (b : ℕ) (t : List ℕ) → Clean (b ∷ t) → (b ≡ 0x22 → ⊥) × Clean t
no_quote b t e =
    let both = or_none (ltb b 32 || eqb b 0x22) (is_unprintable t) e in
    (eqb-false b 0x22 (or_none (ltb b 32) (eqb b 0x22) both.0).1, both.1)

to_quote : (t u r s : List ℕ) → Clean t → Clean u → t ++ (0x22 ∷ r) ≡ u ++ (0x22 ∷ s) → (t ≡ u) × (r ≡ s)
to_quote [] [] r s p q e = (refl, tail-eq_of_cons-eq e)
to_quote [] (c ∷ u) r s p q e = absurd ((no_quote c u q).0 (sym (head-eq_of_cons-eq e)))
to_quote (b ∷ t) [] r s p q e = absurd ((no_quote b t p).0 (head-eq_of_cons-eq e))
to_quote (b ∷ t) (c ∷ u) r s p q e =
    let k = to_quote t u r s (no_quote b t p).1 (no_quote c u q).1 (tail-eq_of_cons-eq e) in
    (λ i. head-eq_of_cons-eq e i ∷ k.0 i, k.1)

quoted_cuts : Cuts Clean quoted (λ t. some t)
quoted_cuts t u r s p q e =
    let k = to_quote t u r s p q (rw (append_snoc t 0x22 r, append_snoc u 0x22 s) at (tail-eq_of_cons-eq e)) in
    (ap (λ (l : List ℕ). some l) k.0, k.1)

quoted_opens : (t r s : List ℕ) → Clean t → quoted t ++ r ≡ 0x2D ∷ s → ⊥
quoted_opens t r s p e = let h : ◌≡◌ {A = ℕ} 0x22 0x2D = head-eq_of_cons-eq e in omega arith

after_equal : (a b r s : List ℕ) → length a ≡ length b → a ++ r ≡ b ++ s → (a ≡ b) × (r ≡ s)
after_equal [] [] r s l e = (refl, e)
after_equal [] (y ∷ b) r s l e = absurd (omega arith)
after_equal (x ∷ a) [] r s l e = absurd (omega arith)
after_equal (x ∷ a) (y ∷ b) r s l e =
    let k = after_equal a b r s (omega arith) (tail-eq_of_cons-eq e) in
    (λ i. head-eq_of_cons-eq e i ∷ k.0 i, k.1)

abbrev InYears : ℕ → Type 0
InYears u = u < 315537897600000000

moment_cuts : Cuts InYears moment_text (λ u. seconds (some u))
moment_cuts u v r s p q e =
    let k = after_equal (moment_text u) (moment_text v) r s (length_moment u ∙ sym (length_moment v)) e in
    (ap (λ (n : ℕ). some n) (moment_inj u v p q k.0), k.1)

moment_not_hyphen : (u : ℕ) (r s : List ℕ) → InYears u → moment_text u ++ r ≡ 0x2D ∷ s → ⊥
moment_not_hyphen u r s p e =
    let o = moment_opens u in
    let h : o.0 ≡ 0x2D = head-eq_of_cons-eq (ap (λ (l : List ℕ). l ++ r) (sym o.1.1.0) ∙ e) in
    let l : 48 ≤ o.0 = o.1.1.1 in
    omega arith

-- ---- a field that may be null

module _ {A C : Type 0} (P : A → Type 0) (f : A → List ℕ) (h : Option A → C) (cuts : Cuts P f (λ x. h (some x)))
    (opens : (x : A) (r s : List ℕ) → P x → f x ++ r ≡ 0x2D ∷ s → ⊥) where
  field_cuts : Cuts (IfSome P) (or_hyphen f) h
  field_cuts none none r s p q e = (refl, tail-eq_of_cons-eq e)
  field_cuts none (some y) r s p q e = absurd (opens y s r q (sym e))
  field_cuts (some x) none r s p q e = absurd (opens x r s p e)
  field_cuts (some x) (some y) r s p q e = cuts x y r s p q e

texts_cut : Cuts (IfSome Clean) (or_hyphen quoted) (λ t. t)
texts_cut = field_cuts Clean quoted (λ t. t) quoted_cuts quoted_opens

moments_cut : Cuts NullOrInYears (or_hyphen moment_text) seconds
moments_cut = field_cuts InYears moment_text seconds moment_cuts moment_not_hyphen

clean : (t : Option (List ℕ)) → has_unprintable t ≡ false → IfSome Clean t
clean none e = tt
clean (some t) e = e

-- ---- a line

line_parts : (o : Occupation) (r : List ℕ)
    → line o ++ r
    ≡ or_hyphen quoted o.platform
    ++ (0x7C ∷ (or_hyphen quoted o.unit
    ++ (0x7C ∷ (or_hyphen moment_text o.arrival ++ (0x7C ∷ (or_hyphen moment_text o.departure ++ (0x0A ∷ r)))))))
line_parts o r = simp append_assoc

line_cuts : Cuts Printable line shown
line_cuts o q r s p k e =
    let parts = sym (line_parts o r) ∙ e ∙ line_parts q s in
    let a = texts_cut o.platform q.platform _ _ (clean o.platform p.platform_clean) (clean q.platform k.platform_clean) parts in
    let b = texts_cut o.unit q.unit _ _ (clean o.unit p.unit_clean) (clean q.unit k.unit_clean) (tail-eq_of_cons-eq a.1) in
    let c = moments_cut o.arrival q.arrival _ _ p.sized.arrival_in k.sized.arrival_in (tail-eq_of_cons-eq b.1) in
    let d = moments_cut o.departure q.departure _ _ p.sized.departure_in k.sized.departure_in (tail-eq_of_cons-eq c.1) in
    (λ i. record { platform = a.0 i; unit = b.0 i; arrival = c.0 i; departure = d.0 i }, tail-eq_of_cons-eq d.1)

not_empty : (xs : List ℕ) (b : ℕ) (ys : List ℕ) → [] ≡ xs ++ (b ∷ ys) → ⊥
not_empty [] b ys e = nil≢cons e
not_empty (x ∷ xs) b ys e = nil≢cons e

some-line : (o : Occupation) (r : List ℕ) → [] ≡ line o ++ r → ⊥
some-line o r e = not_empty (or_hyphen quoted o.platform) 0x7C _ (e ∙ line_parts o r)

pub lines_cut : (os qs : List Occupation) → Every Printable os → Every Printable qs → concat (map line os) ≡ concat (map line qs)
    → map shown os ≡ map shown qs
lines_cut [] [] p k e = refl
lines_cut [] (q ∷ qs) p k e = absurd (some-line q (concat (map line qs)) e)
lines_cut (o ∷ os) [] p k e = absurd (some-line o (concat (map line os)) (sym e))
lines_cut (o ∷ os) (q ∷ qs) p k e =
    let one = line_cuts o q (concat (map line os)) (concat (map line qs)) p.0 k.0 e in
    let rest = lines_cut os qs p.1 k.1 one.1 in
    (λ i. one.0 i ∷ rest i)

-- ---- and shows nothing else

pub line_of : Shown → List ℕ
line_of s =
    or_hyphen quoted s.platform
    ++ (0x7C ∷ (or_hyphen quoted s.unit
    ++ (0x7C ∷ (or_hyphen second_text s.arrival ++ (0x7C ∷ (or_hyphen second_text s.departure ++ (0x0A ∷ [])))))))

by_second : (m : Option ℕ) → or_hyphen moment_text m ≡ or_hyphen second_text (seconds m)
unfolding moment_text
by_second none = refl
by_second (some u) = refl

pub line-shown : (o : Occupation) → line o ≡ line_of (shown o)
unfolding line_of
line-shown o = rw (by_second o.arrival, by_second o.departure)

-- ---- its bytes

field_short : {A : Type 0} (P : A → Type 0) (f : A → List ℕ) (n : ℕ) → 1 ≤ n → ((x : A) → P x → length (f x) ≤ n)
    → (x : Option A) → IfSome P x → length (or_hyphen f x) ≤ n
field_short P f n h l none p = h
field_short P f n h l (some x) p = l x p

text-short : (n : ℕ) (t : Option (List ℕ)) → NullOrText n t → length (or_hyphen quoted t) ≤ n + 2
text-short n = field_short (λ s. (length s ≤ n) × (is_text s ≡ true)) quoted (n + 2) (omega arith) (λ s l. omega (arith, l.0, length-append s (0x22 ∷ [])))

moment_short : (m : Option ℕ) → NullOrInYears m → length (or_hyphen moment_text m) ≤ 19
moment_short = field_short InYears moment_text 19 (omega arith) (λ u p. omega (arith, length_moment u))

line-short : (o : Occupation) → Printable o → length (line o) ≤ 126
line-short o p =
    let k = p.sized in
    rw (length-append, length-append, length-append, length-append)
    (omega (
      arith,
      text-short 16 o.platform k.platform_in,
      text-short 64 o.unit k.unit_in,
      moment_short o.arrival k.arrival_in,
      moment_short o.departure k.departure_in,
    ))

pub lines-length : (os : List Occupation) → Every Printable os → length (concat (map line os)) ≤ 126 * length os
lines-length [] p = omega arith
lines-length (o ∷ os) p =
    rw length-append (omega (arith, line-short o p.0, lines-length os p.1))
