-- Runs of characters of one form, and what they come to.
use Rattle.std.specs.Prelude.{None, Some}
use Prim.Native.Nat.{ℕ, zero, suc, ◌+◌, ◌-◌, ◌*◌, ◌≤◌, ◌<◌}
use mathlib.Core.Path.{◌≡◌, refl, sym, ap, subst, ◌∙◌}
use mathlib.Core.Bool.{Bool, true, false, false≢true}
use mathlib.Core.List.{List, [], ◌∷◌}
use mathlib.Core.Option.{Option, none, some}
use native.Mathlib.Nat.{mul-zero, mul-suc, add-zero, add_assoc}
use native.Mathlib.Numerals.{add-one}
use native.Mathlib.Omega.{arith}
use borrow.Author.Tests.{leb-false}
use lib.Dec.{leb}
use lib.ListN.{length, get_or, take, drop, take-append-drop, length-drop}
use lib.Seq.{drop-drop, drop-cons, drop-length, get_or-drop, take_at, take_all}
use Rattle.text.specs.Rfc3629.{Form, octets, code_points, utf8_1, utf8_2, utf8_3, utf8_4}
use Rattle.text.specs.Check.{check_of}
use Rattle.text.specs.Characters.{is_one, utf8, Characters, end, next}
use Rattle.text.specs.InnerCharacters.{plus}
use Rattle.text.specs.InnerEach.{Each}
use Rattle.text.specs.InnerRuns.{is_ascii, Ascii, Going, Run}
use Rattle.laws.proofs.Truths.{cases}
use Rattle.text.proofs.Laws.{each_join}
use Rattle.text.proofs.Append.{plus-zero}
use Rattle.text.proofs.Forms.{rising, too_low}
use Rattle.text.proofs.Characters.{by_forms, form-long, form-before, characters}

-- ---- the character that may stand at i

plus-plus : (m n : ℕ) (x : Option ℕ) → plus m (plus n x) ≡ plus (m + n) x
plus-plus m n none = refl
plus-plus m n (some k) = ap some (sym (add_assoc m n k))

untrue : (t : Bool) → (t ≡ true → ⊥) → t ≡ false
untrue true f = absurd (f refl)
untrue false f = refl

module _ (s : List ℕ) where
  -- its bytes, one by one
  byte : (k i : ℕ) → i < length s → take (suc k) (drop i s) ≡ get_or s i 0 ∷ take k (drop (i + 1) s)
  byte k i h = ap (take (suc k)) (drop-cons s i 0 h) ∙ rw (add-one i)

  pub bytes_1 : (i : ℕ) → i < length s → take 1 (drop i s) ≡ get_or s i 0 ∷ []
  bytes_1 i h = byte 0 i h

  -- where too few bytes are left
  short : (k i : ℕ) → length s < i + k → i ≤ length s → is_one (utf8 k) (take k (drop i s)) ≡ false
  short k i h g =
      untrue (is_one (utf8 k) (take k (drop i s)))
      (λ e.
      let l = form-long k (take k (drop i s)) e in
      let m = length-drop i s in
      let t = ap length (take_all k (drop i s) (omega arith)) in
      absurd (omega arith))

  -- where the byte at i is too low for the forms
  low_front : (forms : List Form) (m k : ℕ) → rising m forms ≡ true → is_one forms [] ≡ false → (l : List ℕ)
      → get_or l 0 0 < m → is_one forms (take (suc k) l) ≡ false
  low_front forms m k r q [] h = q
  low_front forms m k r q (b ∷ l) h = too_low b forms m r h (take k l)

  low : (forms : List Form) (m k i : ℕ) → rising m forms ≡ true → is_one forms [] ≡ false → get_or s i 0 < m
      → is_one forms (take (suc k) (drop i s)) ≡ false
  low forms m k i r q h = low_front forms m k r q (drop i s) (rw (get_or-drop i s 0 0, add-zero i) h)

  one_more : (k i : ℕ) → is_one (utf8 k) (take k (drop i s)) ≡ true
      → code_points (drop i s) ≡ plus 1 (code_points (drop (i + k) s))
  one_more k i e =
      ap code_points (sym (take-append-drop k (drop i s)))
      ∙ form-before k (take k (drop i s)) (drop k (drop i s)) e
      ∙ rw (drop-drop k i s)

-- ---- a run

module _ {k : ℕ} {s : List ℕ} {first : ℕ} where
  pub start : first ≤ length s → Going k s first first
  start h =
      record {
        count = 0;
        place = rw (mul-zero k, add-zero first);
        inside = h;
        says = sym (plus-zero (code_points (drop first s)));
      }

  pub more : {i : ℕ} → Going k s first i → is_one (utf8 k) (take k (drop i s)) ≡ true → i + k ≤ length s
      → Going k s first (i + k)
  more {i} g e h =
      let r = g.count in
      record {
        count = r + 1;
        place = let q = g.place in let m = mul-suc k r in rw (add-one r, m) (omega arith);
        inside = h;
        says = g.says ∙ ap (plus r) (one_more s k i e) ∙ plus-plus r 1 (code_points (drop (i + k) s));
      }

  -- too few bytes are left
  pub run_short : {i : ℕ} → Going k s first i → length s < i + k → Run k s first i
  run_short {i} g h = record { going = g; over = short s k i h g.inside }

-- ---- one-byte characters

module _ {s : List ℕ} {first : ℕ} where
  pub ascii-none : first ≤ length s → Ascii s first first
  ascii-none h = record { from = omega arith; inside = h; each = λ i l m. absurd (omega arith) }

  -- a run that begins at i or before it
  pub ascii_join : {i from to last : ℕ} → Ascii s first i → Each (is_ascii s) from to → from ≤ i → i ≤ last → last ≤ to
      → last ≤ length s → Ascii s first last
  ascii_join a f h k l m =
      record { from = let n = a.from in omega arith; inside = m; each = each_join a.each f h l }

  pub ascii_then : {i j : ℕ} → Ascii s first i → Ascii s i j → Ascii s first j
  ascii_then a b = ascii_join a b.each (omega arith) b.from (omega arith) b.inside

module _ (s : List ℕ) (first : ℕ) where
  ascii-going : (d : ℕ) → first + d ≤ length s → Each (is_ascii s) first (first + d) → Going 1 s first (first + d)
  ascii-going zero h f = rw (add-zero first) (start (omega arith))
  ascii-going (suc d) h f =
      let g = ascii-going d (omega arith) (λ i l m. f i l (omega arith)) in
      let e : first + suc d ≡ first + d + 1 = omega arith in
      let t = f (first + d) (omega arith) (omega arith) in
      rw e (more g (rw (bytes_1 s (first + d) (omega arith)) t) (omega arith))

  pub ascii_run : {r : ℕ} → Ascii s first r → Going 1 s first r
  ascii_run {r} a =
      let from = a.from in
      let e : r ≡ first + (r - first) = omega arith in
      subst (λ (i : ℕ). Going 1 s first i) (sym e)
      (ascii-going (r - first) (let l = a.inside in omega arith) (λ i l m. a.each i l (omega arith)))

  -- up to a byte that is none, or to the end
  pub ascii-done : {r : ℕ} → Ascii s first r → (r < length s → is_ascii s r ≡ false) → Run 1 s first r
  ascii-done {r} a f =
      record {
        going = ascii_run a;
        over = cases r (length s) (λ l. rw (bytes_1 s r l) (f l)) (λ l. short s 1 r (omega arith) a.inside);
      }

-- ---- all runs

-- the first i bytes of s are n characters
pub record Reached (s : List ℕ) (i n : ℕ) : Type 0 where
  pub inside : i ≤ length s
  pub low : n ≤ i
  pub count : code_points s ≡ plus n (code_points (drop i s))

begins : {s : List ℕ} {n : ℕ} → Characters s n → ((k : ℕ) → is_one (utf8 k) (take k s) ≡ false) → length s ≡ 0
begins end f = refl
begins (next {s = s} c o k) f =
    let e = take_at c s o.form (form-long o.form c o.has) in
    absurd (false≢true (sym (f o.form) ∙ rw e o.has))

none_begins : (s : List ℕ) (x : Option ℕ) → code_points s ≡ x → 0 < length s
    → ((k : ℕ) → is_one (utf8 k) (take k s) ≡ false) → x ≡ none
none_begins s none e h f = refl
none_begins s (some n) e h f = let l = begins ((characters s n).0 e) f in absurd (omega arith)

module _ {s : List ℕ} where
  -- c characters more, UTF8-k
  reached_run : (k c : ℕ) {i n r : ℕ} → Reached s i n → (run : Run k s i r) → c ≡ run.going.count → c ≤ k * c
      → Reached s r (n + c)
  reached_run k c {i} {n} {r} g run e h =
      let q = run.going.place in
      record {
        inside = run.going.inside;
        low = let l = g.low in let m : k * c ≡ k * run.going.count = rw e in omega arith;
        count = g.count ∙ ap (plus n) run.going.says ∙ rw (← e) (plus-plus n c (code_points (drop r s)));
      }

  pub reached_lead : {r : ℕ} → Ascii s 0 r → Reached s r r
  reached_lead {r} a =
      let g = ascii_run s 0 a in
      let p = g.place in
      let e : g.count ≡ r = omega arith in
      record { inside = a.inside; low = omega arith; count = rw e at g.says }

  pub valid : {i n : ℕ} → Reached s i n → length s ≤ i → Some n ≡ check_of (code_points s)
  unfolding octets
  valid {i} {n} g h =
      let e : i ≡ length s = let l = g.inside in omega arith in
      let q : code_points s ≡ some n = g.count ∙ rw (e, drop-length s, add-zero n) in
      sym (ap check_of q)

  invalid : {i n : ℕ} → Reached s i n → i < length s → is_one utf8_1 (take 1 (drop i s)) ≡ false
      → is_one utf8_2 (take 2 (drop i s)) ≡ false → is_one utf8_3 (take 3 (drop i s)) ≡ false
      → is_one utf8_4 (take 4 (drop i s)) ≡ false → None ≡ check_of (code_points s)
  invalid {i} {n} g h one two three four =
      let l = length-drop i s in
      let e =
      none_begins (drop i s) (code_points (drop i s)) refl (omega arith)
      (by_forms (λ k forms. is_one forms (take k (drop i s)) ≡ false) (λ k. refl) one two three four) in
      let q : code_points s ≡ none = g.count ∙ rw e in
      sym (ap check_of q)

  -- a turn of the check: the forms in their order, each up to where it is over
  module _ {i n one : ℕ} (twos : ℕ) (g : Reached s i n) (r1 : Run 1 s i one) (r2 : Run 2 s one (one + 2 * twos)) where
    pub two_reached : Reached s (one + 2 * twos) (n + (one - i + twos))
    two_reached =
        let p = r1.going.place in
        let q = r2.going.place in
        let e : n + (one - i) + twos ≡ n + (one - i + twos) = omega arith in
        let k = reached_run 1 (one - i) g r1 (omega arith) (omega arith) in
        rw e at (reached_run 2 twos k r2 (omega arith) (omega arith))

    two_past : i ≤ one + 2 * twos
    two_past = let p = r1.going.place in omega arith

    pub two_less : (one + 2 * twos ≡ i → ⊥) → length s - (one + 2 * twos) < length s - i
    two_less e = let p = two_past in let q = r2.going.inside in omega arith

    -- the forms at i, where they are over there
    over_1 : one + 2 * twos ≡ i → is_one utf8_1 (take 1 (drop i s)) ≡ false
    over_1 e =
        let p = r1.going.place in
        let f : one ≡ i = omega arith in
        rw f at r1.over

    over_2 : one + 2 * twos ≡ i → is_one utf8_2 (take 2 (drop i s)) ≡ false
    over_2 e = rw e at r2.over

    pub stuck_low : leb 0xE0 (get_or s (one + 2 * twos) 0) ≡ false → one + 2 * twos ≡ i → i < length s
        → None ≡ check_of (code_points s)
    stuck_low l e h =
        let m : get_or s i 0 < 0xE0 = rw e at (leb-false 0xE0 (get_or s (one + 2 * twos) 0) l) in
        invalid g h (over_1 e) (over_2 e) (low s utf8_3 0xE0 2 i refl refl m) (low s utf8_4 0xE0 3 i refl refl m)

    module _ (threes fours : ℕ) (r3 : Run 3 s (one + 2 * twos) (one + 2 * twos + 3 * threes))
        (r4 : Run 4 s (one + 2 * twos + 3 * threes) (one + 2 * twos + 3 * threes + 4 * fours)) where
      pub four_reached : Reached s (one + 2 * twos + 3 * threes + 4 * fours) (n + (one - i + twos) + (threes + fours))
      four_reached =
          let m = n + (one - i + twos) in
          let p = r3.going.place in
          let q = r4.going.place in
          let e : m + threes + fours ≡ m + (threes + fours) = omega arith in
          let k = reached_run 3 threes two_reached r3 (omega arith) (omega arith) in
          rw e at (reached_run 4 fours k r4 (omega arith) (omega arith))

      pub four_less : (one + 2 * twos + 3 * threes + 4 * fours ≡ i → ⊥)
          → length s - (one + 2 * twos + 3 * threes + 4 * fours) < length s - i
      four_less e = let p = two_past in let u = r4.going.inside in omega arith

      pub stuck : one + 2 * twos + 3 * threes + 4 * fours ≡ i → i < length s → None ≡ check_of (code_points s)
      stuck e h =
          let p = two_past in
          let f : one + 2 * twos ≡ i = omega arith in
          let three-over : one + 2 * twos + 3 * threes ≡ i = omega arith in
          invalid g h (over_1 f) (over_2 f) (rw three-over at r3.over) (rw e at r4.over)
