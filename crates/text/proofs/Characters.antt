-- `code_points` counts characters: s has n code points exactly if s is n characters end to end, each of one form.
use Prim.Native.Nat.{ℕ, zero, suc}
use mathlib.Core.Path.{◌≡◌, refl, sym, ap, subst, ◌∙◌}
use mathlib.Core.Bool.{Bool, true, false, cond, ◌||◌, false≢true, or-true}
use mathlib.Core.List.{List, [], ◌∷◌, ◌++◌}
use mathlib.Core.Logic.{◌↔◌}
use mathlib.Core.Option.{Option, none, some}
use native.Mathlib.Numerals.{one-add}
use lib.ListN.{length}
use Rattle.laws.proofs.Truths.{and_left, and_right}
use Rattle.text.specs.Rfc3629.{Range, Form, within, utf8_1, utf8_2, utf8_3, utf8_4, utf8_char, more, octets, code_points}
use Rattle.text.specs.Characters.{is_of, is_one, is_nth, utf8, OneForm, Characters, end, next}
use Rattle.text.proofs.Laws.{none-some, some_same}
use Rattle.text.proofs.Forms.{rising, apart, rest_of, begun, ends_in, begin-form, one_form}
use Rattle.text.proofs.Append.{points-before}
use Rattle.text.specs.InnerCharacters.{plus}

-- ---- a character's form

-- P holds of UTF8-k for each k
pub by_forms : (P : ℕ → List Form → Type 0) → ((k : ℕ) → P k []) → P 1 utf8_1 → P 2 utf8_2 → P 3 utf8_3 → P 4 utf8_4
    → (k : ℕ) → P k (utf8 k)
by_forms P other one two three four zero = other 0
by_forms P other one two three four (suc zero) = one
by_forms P other one two three four (suc (suc zero)) = two
by_forms P other one two three four (suc (suc (suc zero))) = three
by_forms P other one two three four (suc (suc (suc (suc zero)))) = four
by_forms P other one two three four (suc (suc (suc (suc (suc k))))) = other (suc (suc (suc (suc (suc k)))))

-- all of the forms have k bytes
abbrev Long : ℕ → List Form → Type 0
Long k [] = Unit {0}
Long k (f ∷ forms) = (length f ≡ k) × Long k forms

of_long : (f : Form) (c : List ℕ) → is_of f c ≡ true → length c ≡ length f
of_long [] [] e = refl
of_long [] (b ∷ c) e = absurd (false≢true e)
of_long (r ∷ rest) [] e = absurd (false≢true e)
of_long (r ∷ rest) (b ∷ c) e = ap suc (of_long rest c (and_right (within r b) (is_of rest c) e))

either : {P : Type 0} (x y : Bool) → (x || y) ≡ true → (x ≡ true → P) → (y ≡ true → P) → P
either true y e f g = f refl
either false y e f g = g e

one-long : (k : ℕ) (forms : List Form) (c : List ℕ) → Long k forms → is_one forms c ≡ true → length c ≡ k
one-long k [] c h e = absurd (false≢true e)
one-long k (f ∷ forms) c h e =
    either (is_of f c) (is_one forms c) e (λ g. of_long f c g ∙ h.0) (λ g. one-long k forms c h.1 g)

-- a character UTF8-k has k bytes
pub form-long : (k : ℕ) (c : List ℕ) → is_one (utf8 k) c ≡ true → length c ≡ k
form-long k c =
    one-long k (utf8 k) c
    (by_forms Long (λ k. tt) (refl, tt) (refl, tt) (refl, (refl, (refl, (refl, tt)))) (refl, (refl, (refl, tt))) k)

form_rising : (k : ℕ) → rising 0 (utf8 k) ≡ true
form_rising = by_forms (λ k forms. rising 0 forms ≡ true) (λ k. refl) refl refl refl refl

-- one of the forms is one by its number
record Nth (forms : List Form) (c : List ℕ) : Type 0 where
  number : ℕ
  is : is_nth forms number c ≡ true

nth : (forms : List Form) (c : List ℕ) → is_one forms c ≡ true → Nth forms c
nth [] c e = absurd (false≢true e)
nth (f ∷ forms) c e =
    either (is_of f c) (is_one forms c) e
    (λ g. record { number = 0; is = g })
    (λ g. let k = nth forms c g in record { number = suc k.number; is = k.is })

alone : (k : ℕ) (c : List ℕ) → is_one (utf8 k) c ≡ true → (i j : ℕ) → is_nth (utf8 k) i c ≡ true
    → is_nth (utf8 k) j c ≡ true → i ≡ j
alone k [] e i j =
    let l : k ≡ 0 = sym (form-long k [] e) in
    absurd (false≢true (subst (λ (k : ℕ). is_one (utf8 k) [] ≡ true) l e))
alone k (b ∷ c) e i j = apart b c (utf8 k) 0 i j (form_rising k)

form-one : (k : ℕ) (c : List ℕ) → is_one (utf8 k) c ≡ true → OneForm c
form-one k c e =
    let n = nth (utf8 k) c e in
    record {
      form = k;
      has = e;
      only = λ j f. sym (form-long j c f) ∙ form-long k c e;
      alternative = n.number;
      is = n.is;
      alone = λ j f. alone k c e j n.number f n.is;
    }

one-append : (fs gs : List Form) (c : List ℕ) → is_one (fs ++ gs) c ≡ (is_one fs c || is_one gs c)
one-append [] gs c = refl
one-append (f ∷ fs) gs c = rw (one-append fs gs c) (by_first (is_of f c))
  where
    by_first : (t : Bool) → (t || (is_one fs c || is_one gs c)) ≡ (t || is_one fs c || is_one gs c)
    by_first true = refl
    by_first false = refl

-- a character of the grammar has one form, and what has one is a character of the grammar
pub char_form : (c : List ℕ) → is_one utf8_char c ≡ true → OneForm c
char_form c e =
    either (is_one utf8_1 c) _ (sym (one-append utf8_1 (utf8_2 ++ (utf8_3 ++ utf8_4)) c) ∙ e) (form-one 1 c)
    (λ f. either (is_one utf8_2 c) _ (sym (one-append utf8_2 (utf8_3 ++ utf8_4) c) ∙ f) (form-one 2 c)
    (λ g. either (is_one utf8_3 c) _ (sym (one-append utf8_3 utf8_4 c) ∙ g) (form-one 3 c) (form-one 4 c)))

module _ (c : List ℕ) where
  one_left : (fs gs : List Form) → is_one fs c ≡ true → is_one (fs ++ gs) c ≡ true
  one_left fs gs e = one-append fs gs c ∙ rw e

  one_right : (fs gs : List Form) → is_one gs c ≡ true → is_one (fs ++ gs) c ≡ true
  one_right fs gs e = one-append fs gs c ∙ rw e (or-true (is_one fs c))

  form_char : (k : ℕ) → is_one (utf8 k) c ≡ true → is_one utf8_char c ≡ true
  form_char =
      by_forms (λ k forms. is_one forms c ≡ true → is_one utf8_char c ≡ true) (λ k e. absurd (false≢true e))
      (one_left utf8_1 (utf8_2 ++ (utf8_3 ++ utf8_4)))
      (λ e. one_right utf8_1 (utf8_2 ++ (utf8_3 ++ utf8_4)) (one_left utf8_2 (utf8_3 ++ utf8_4) e))
      (λ e. one_right utf8_1 (utf8_2 ++ (utf8_3 ++ utf8_4)) (later (one_left utf8_3 utf8_4 e)))
      (λ e. one_right utf8_1 (utf8_2 ++ (utf8_3 ++ utf8_4)) (later (one_right utf8_3 utf8_4 e)))
    where
      later : is_one (utf8_3 ++ utf8_4) c ≡ true → is_one (utf8_2 ++ (utf8_3 ++ utf8_4)) c ≡ true
      later = one_right utf8_2 (utf8_3 ++ utf8_4)

-- ---- a character alone counts 1

no_more : (c : List ℕ) (ranges : Form) → is_of ranges c ≡ true → octets c ranges ≡ some 0
unfolding octets
no_more [] [] e = refl
no_more [] (r ∷ rest) e = absurd (false≢true e)
no_more (b ∷ c) [] e = absurd (false≢true e)
no_more (b ∷ c) (r ∷ rest) e =
    rw (and_left (within r b) (is_of rest c) e) (no_more c rest (and_right (within r b) (is_of rest c) e))

one_begun : (form : Option Form) (c : List ℕ) → ends_in form c ≡ true → begun form (octets c) ≡ some 1
one_begun none c e = absurd (false≢true e)
one_begun (some rest) c e = ap more (no_more c rest e)

one_char : (b : ℕ) (c : List ℕ) → is_one utf8_char (b ∷ c) ≡ ends_in (rest_of utf8_char b) c
one_char b c = one_form b utf8_char 0 refl c

pub one_point : (c : List ℕ) → is_one utf8_char c ≡ true → code_points c ≡ some 1
unfolding octets
one_point [] e = absurd (false≢true e)
one_point (b ∷ c) e = begin-form b (octets c) ∙ one_begun (rest_of utf8_char b) c (sym (one_char b c) ∙ e)

-- a character UTF8-k adds 1 to the number of what follows it
pub form-before : (k : ℕ) (c s : List ℕ) → is_one (utf8 k) c ≡ true → code_points (c ++ s) ≡ plus 1 (code_points s)
form-before k c s e = points-before c s 1 (one_point c (form_char c k e))

characters-points : {s : List ℕ} {n : ℕ} → Characters s n → code_points s ≡ some n
unfolding octets
characters-points end = refl
characters-points (next {s = s} {n = n} c f k) =
    form-before f.form c s f.has ∙ ap (plus 1) (characters-points k) ∙ ap some (one-add n)

-- ---- and nothing else is counted

-- s is the rest of a character, c, and n characters more
record Cut (ranges : Form) (s : List ℕ) (n : ℕ) : Type 0 where
  c : List ℕ
  others : List ℕ
  split : s ≡ c ++ others
  fits : is_of ranges c ≡ true
  counted : Characters others n

whole : {n : ℕ} (s c others : List ℕ) → s ≡ c ++ others → is_of [] c ≡ true → Characters others n → Characters s n
whole s [] others p e k = rw p k
whole s (b ∷ c) others p e k = absurd (false≢true e)

module _ (b : ℕ) (s : List ℕ) where
  -- b lies in the first of the ranges
  cut_if : (r : Range) (rest : Form) (n : ℕ) (t : Bool) → within r b ≡ t → (octets s rest ≡ some n → Cut rest s n)
      → cond t (octets s rest) none ≡ some n → Cut (r ∷ rest) (b ∷ s) n
  cut_if r rest n false q f e = none-some e
  cut_if r rest n true q f e =
      let k = f e in
      record {
        c = b ∷ k.c;
        others = k.others;
        split = ap (λ (l : List ℕ). b ∷ l) k.split;
        fits = rw q k.fits;
        counted = k.counted;
      }

  -- b begins a character
  cut_next : (rest : Form) (m n : ℕ) → rest_of utf8_char b ≡ some rest → Cut rest s m → suc m ≡ n → Characters (b ∷ s) n
  cut_next rest m n q k e =
      let f = char_form (b ∷ k.c) (one_char b k.c ∙ rw q k.fits) in
      rw (k.split, ← e) (next (b ∷ k.c) f k.counted)

  cut_more : (n : ℕ) (rest : Form) → rest_of utf8_char b ≡ some rest → (x : Option ℕ)
      → ((m : ℕ) → x ≡ some m → Cut rest s m) → more x ≡ some n → Characters (b ∷ s) n
  cut_more n rest q none f e = none-some e
  cut_more n rest q (some m) f e = cut_next rest m n q (f m refl) (some_same e)

  cut_begun : (n : ℕ) (form : Option Form) → rest_of utf8_char b ≡ form
      → ((rest : Form) (m : ℕ) → octets s rest ≡ some m → Cut rest s m) → begun form (octets s) ≡ some n
      → Characters (b ∷ s) n
  cut_begun n none q f e = none-some e
  cut_begun n (some rest) q f e = cut_more n rest q (octets s rest) (f rest) e

cut : (s : List ℕ) (ranges : Form) (n : ℕ) → octets s ranges ≡ some n → Cut ranges s n
unfolding octets
cut [] [] n e =
    record { c = []; others = []; split = refl; fits = refl; counted = subst (Characters []) (some_same e) end }
cut [] (r ∷ rest) n e = none-some e
cut (b ∷ s) [] n e =
    let k = cut_begun b s n (rest_of utf8_char b) refl (cut s) (sym (begin-form b (octets s)) ∙ e) in
    record { c = []; others = b ∷ s; split = refl; fits = refl; counted = k }
cut (b ∷ s) (r ∷ rest) n e = cut_if b s r rest n (within r b) refl (cut s rest n) e

points-characters : (s : List ℕ) (n : ℕ) → code_points s ≡ some n → Characters s n
points-characters s n e = let k = cut s [] n e in whole s k.c k.others k.split k.fits k.counted

pub characters : (s : List ℕ) (n : ℕ) → (code_points s ≡ some n) ↔ Characters s n
characters s n = (points-characters s n, characters-points)

-- however s is cut into characters, they are as many
pub one-count : {s : List ℕ} {m n : ℕ} → Characters s m → Characters s n → m ≡ n
one-count k l = some_same (sym (characters-points k) ∙ characters-points l)
