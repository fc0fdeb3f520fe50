-- A line, field by field.
use Rattle.std.specs.Prelude.{Option as Found, None, Some}
use Prim.Native.Nat.{ℕ, suc, ◌+◌, ◌-◌}
use mathlib.Core.Path.{◌≡◌, refl, sym, ap, ◌∙◌}
use mathlib.Core.List.{List, [], ◌∷◌, ◌++◌, append_assoc}
use native.Mathlib.Omega.{arith}
use lib.ListN.{length, take, drop, set, length-append, length-drop}
use lib.Seq.{sets, length-take-le}
use Rattle.laws.proofs.Stores.{sets-append, sets_then}
use Rattle.calendar.specs.Moment.{moment_text}
use Rattle.calendar.proofs.Texts.{length_moment}
use Rattle.occupation.specs.declared.Span.{Span}
use Rattle.occupation.specs.declared.Fields.{Fields}
use Rattle.occupation.specs.Line.{quoted, or_hyphen, line}
use Rattle.occupation.specs.InnerFields.{spanned, moment_from, fields_shown, Within, FieldsIn, text_length, moment_length, line_length}

-- ---- the bytes of a field

pub length-text : (r : List ℕ) (x : Found Span) → Within (length r) x → length (or_hyphen quoted (spanned r x)) ≡ text_length x
length-text r None h = refl
length-text r (Some x) h =
    let u = h.0 in
    let v = h.1 in
    let t : length (take (x.end - x.start) (drop x.start r)) ≡ x.end - x.start = length-take-le (x.end - x.start) (drop x.start r) (rw length-drop (omega arith)) in
    rw (length-append, t) (omega arith)

pub length-count : (m : Found ℕ) → length (or_hyphen moment_text (moment_from m)) ≡ moment_length m
length-count None = refl
length-count (Some m) = length_moment m

-- ---- stores

-- a byte behind what was stored
pub byte_behind : (l xs : List ℕ) (at n b : ℕ) {p : List ℕ} → length xs ≡ n → p ≡ sets l at xs → set p (at + n) b ≡ sets l at (xs ++ (b ∷ []))
byte_behind l xs at n b e f = rw f (sym (sets-append l at xs (b ∷ []) ∙ ap (λ (k : ℕ). set (sets l at xs) (at + k) b) e))

-- a byte before and behind it
pub enclosed : (l t : List ℕ) (at : ℕ) {p : List ℕ} → p ≡ sets (set l at 0x22) (at + 1) t → set p (at + 1 + length t) 0x22 ≡ sets l at (quoted t)
enclosed l t at f =
    let n : at + 1 ≡ suc at = omega arith in
    byte_behind (set l at 0x22) t (at + 1) (length t) 0x22 refl f ∙ ap (λ (k : ℕ). sets (set l at 0x22) k (t ++ (0x22 ∷ []))) n

-- n bytes were stored; a field of m bytes is stored behind them, and a byte behind it
pub next : (l xs ys : List ℕ) (at n m b : ℕ) {i j : ℕ} {p q w : List ℕ} → length xs ≡ n → length ys ≡ m → p ≡ sets l at xs
    → i ≡ at + n → q ≡ sets p i ys → j ≡ i + m → w ≡ set q j b
    → (length (xs ++ (ys ++ (b ∷ []))) ≡ n + (m + 1)) × (w ≡ sets l at (xs ++ (ys ++ (b ∷ []))))
next l xs ys at n m b {i} {j} {p} {q} {w} ex ey ep ei eq ej ew =
    let one : length (ys ++ (b ∷ [])) ≡ m + 1 = rw (length-append, ey) in
    let behind : w ≡ sets p i (ys ++ (b ∷ [])) = ew ∙ (ap (λ (k : ℕ). set q k b) ej ∙ byte_behind p ys i m b ey eq) in
    (rw (length-append, ex, one), sets_then l at n xs (ys ++ (b ∷ [])) ex ep (behind ∙ ap (λ (k : ℕ). sets p k (ys ++ (b ∷ []))) ei))

joined : (a b c d : List ℕ) → (((a ++ (0x7C ∷ [])) ++ (b ++ (0x7C ∷ []))) ++ (c ++ (0x7C ∷ []))) ++ (d ++ (0x0A ∷ []))
    ≡ a ++ (0x7C ∷ (b ++ (0x7C ∷ (c ++ (0x7C ∷ (d ++ (0x0A ∷ [])))))))
joined a b c d = simp append_assoc

module _ (r : List ℕ) (f : Fields) (w : FieldsIn (length r) f) where
  abbrev platform : List ℕ
  platform = or_hyphen quoted (spanned r f.platform)

  abbrev unit : List ℕ
  unit = or_hyphen quoted (spanned r f.unit)

  abbrev arrival : List ℕ
  arrival = or_hyphen moment_text (moment_from f.arrival)

  abbrev departure : List ℕ
  departure = or_hyphen moment_text (moment_from f.departure)

  whole : line (fields_shown r f) ≡ (((platform ++ (0x7C ∷ [])) ++ (unit ++ (0x7C ∷ []))) ++ (arrival ++ (0x7C ∷ []))) ++ (departure ++ (0x0A ∷ []))
  whole = sym (joined platform unit arrival departure)

  platform-length : length platform ≡ text_length f.platform
  platform-length = length-text r f.platform w.platform_in.0

  unit-length : length unit ≡ text_length f.unit
  unit-length = length-text r f.unit w.unit_in.0

  pub line-length : length (line (fields_shown r f)) ≡ line_length f
  line-length =
      rw (whole, length-append, length-append, length-append, length-append, length-append, length-append, length-append, platform-length, unit-length, length-count f.arrival, length-count f.departure)
      (omega arith)

  -- the four fields stored one after the other, each with the byte behind it
  pub line-stored : (l : List ℕ) (at : ℕ) {a b c d : ℕ} {p p' q q' s s' t t' : List ℕ}
      → p ≡ sets l at platform → a ≡ at + text_length f.platform → p' ≡ set p a 0x7C
      → q ≡ sets p' (a + 1) unit → b ≡ a + 1 + text_length f.unit → q' ≡ set q b 0x7C
      → s ≡ sets q' (b + 1) arrival → c ≡ b + 1 + moment_length f.arrival → s' ≡ set s c 0x7C
      → t ≡ sets s' (c + 1) departure → d ≡ c + 1 + moment_length f.departure → t' ≡ set t d 0x0A
      → t' ≡ sets l at (line (fields_shown r f))
  line-stored l at {a} {b} {c} {d} {p} {p'} {q} {q'} {s} {s'} {t} {t'} ep ea ep' eq eb eq' es ec es' et ed et' =
      let n = text_length f.platform in
      let m = text_length f.unit in
      let k = moment_length f.arrival in
      let one = platform ++ (0x7C ∷ []) in
      let u : length one ≡ n + 1 = rw (length-append, platform-length) in
      let first : p' ≡ sets l at one = ep' ∙ (ap (λ (i : ℕ). set p i 0x7C) ea ∙ byte_behind l platform at n 0x7C platform-length ep) in
      let two = next l one unit at (n + 1) m 0x7C u unit-length first (omega (arith, ea)) eq eb eq' in
      let three = next l (one ++ (unit ++ (0x7C ∷ []))) arrival at (n + 1 + (m + 1)) k 0x7C two.0 (length-count f.arrival) two.1 (omega (arith, ea, eb)) es ec es' in
      let four = next l ((one ++ (unit ++ (0x7C ∷ []))) ++ (arrival ++ (0x7C ∷ []))) departure at (n + 1 + (m + 1) + (k + 1)) (moment_length f.departure) 0x0A three.0 (length-count f.departure) three.1 (omega (arith, ea, eb, ec)) et ed et' in
      four.1 ∙ ap (sets l at) (sym whole)
