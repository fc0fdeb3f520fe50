-- Dates and times as text: stored part by part, of 19 bytes, and told apart by them.
use Prim.Native.Nat.{ℕ, suc, ◌+◌, ◌*◌, ◌-◌, ◌/◌, ◌%◌, ◌≤◌, ◌<◌}
use mathlib.Core.Path.{◌≡◌, refl, sym, ap, ◌∙◌}
use mathlib.Core.List.{List, ◌∷◌, ◌++◌}
use native.Mathlib.Omega.{arith}
use lib.ListN.{length, get_or}
use lib.Seq.{sets}
use Rattle.laws.proofs.Stores.{sets_then}
use Rattle.calendar.specs.declared.Date.{Date}
use Rattle.calendar.specs.Calendar.{date_of}
use Rattle.calendar.specs.Moment.{ascii_digits, date_text, time_text, together, second_text, moment_text}
use Rattle.calendar.specs.Days.{day_of}
use Rattle.calendar.proofs.Dates.{date_day, date_year_most, date_month, date_day_most}

-- ---- two digits as a number of two bytes

sums : (n : ℕ) → n < 100 → n * 256 + 12336 - n * 103 / 1024 * 2559 ≡ 48 + n / 10 + (48 + n % 10) * 256
sums n h = let e : n * 103 / 1024 ≡ n / 10 = omega arith in rw e (omega arith)

low_byte : (a b : ℕ) → a < 256 → (a + b * 256) % 256 ≡ a
low_byte a b h = omega arith

high_byte : (a b : ℕ) → a < 256 → (a + b * 256) / 256 ≡ b
high_byte a b h = omega arith

pub pair_digits : (n : ℕ) → n < 100
    → ((n * 256 + 12336 - n * 103 / 1024 * 2559) % 256 ≡ 48 + n / 10) × ((n * 256 + 12336 - n * 103 / 1024 * 2559) / 256 ≡ 48 + n % 10)
pair_digits n h =
    let l : 48 + n / 10 < 256 = omega arith in
    rw (sums n h) (low_byte (48 + n / 10) (48 + n % 10) l, high_byte (48 + n / 10) (48 + n % 10) l)

-- ---- stored part by part

four-digits : (y : ℕ) → y < 10000 → ascii_digits 2 (y / 100) ++ ascii_digits 2 (y % 100) ≡ ascii_digits 4 y
four-digits y h =
    let a : y / 100 / 10 % 10 ≡ y / 1000 % 10 = omega arith in
    let b : y / 100 / 1 % 10 ≡ y / 100 % 10 = omega arith in
    let c : y % 100 / 10 % 10 ≡ y / 10 % 10 = omega arith in
    let d : y % 100 / 1 % 10 ≡ y / 1 % 10 = omega arith in
    rw (a, b, c, d)

minutes : (s : ℕ) → s / 60 - s / 3600 * 60 ≡ s / 60 % 60
minutes s = let e : s / 60 / 60 ≡ s / 3600 = omega arith in omega arith

module _ (l : List ℕ) {p q r : List ℕ} (at : ℕ) where
  pub date-stored : {s : List ℕ} (y m d : ℕ) → y < 10000
      → p ≡ sets l at (ascii_digits 2 (y / 100)) → q ≡ sets p (at + 2) (ascii_digits 2 (y % 100)) → r ≡ sets q (at + 4) (45 ∷ ascii_digits 2 m) → s ≡ sets r (at + 7) (45 ∷ ascii_digits 2 d)
      → s ≡ sets l at (date_text y m d)
  date-stored y m d h e f g k =
      let year : q ≡ sets l at (ascii_digits 4 y) = sets_then l at 2 (ascii_digits 2 (y / 100)) (ascii_digits 2 (y % 100)) refl e f ∙ ap (sets l at) (four-digits y h) in
      sets_then l at 7 (ascii_digits 4 y ++ (45 ∷ ascii_digits 2 m)) (45 ∷ ascii_digits 2 d) refl (sets_then l at 4 (ascii_digits 4 y) (45 ∷ ascii_digits 2 m) refl year g) k

  pub time-stored : (s : ℕ) → p ≡ sets l at (32 ∷ ascii_digits 2 (s / 3600)) → q ≡ sets p (at + 3) (58 ∷ ascii_digits 2 (s / 60 - s / 3600 * 60))
      → r ≡ sets q (at + 6) (58 ∷ ascii_digits 2 (s - s / 60 * 60)) → r ≡ sets l at (32 ∷ time_text s)
  time-stored s e f g =
      let a : s / 60 - s / 3600 * 60 ≡ s / 60 % 60 = minutes s in
      let b : s - s / 60 * 60 ≡ s % 60 = omega arith in
      let m : q ≡ sets p (at + 3) (58 ∷ ascii_digits 2 (s / 60 % 60)) = rw a at f in
      let n : r ≡ sets q (at + 6) (58 ∷ ascii_digits 2 (s % 60)) = rw b at g in
      sets_then l at 6 ((32 ∷ ascii_digits 2 (s / 3600)) ++ (58 ∷ ascii_digits 2 (s / 60 % 60))) (58 ∷ ascii_digits 2 (s % 60)) refl
      (sets_then l at 3 (32 ∷ ascii_digits 2 (s / 3600)) (58 ∷ ascii_digits 2 (s / 60 % 60)) refl e m) n

pub moment_stored : (l : List ℕ) {p q : List ℕ} {date : Date} (at s : ℕ) → date ≡ date_of (s / 86400) → p ≡ sets l at (date_text date.year date.month date.day)
    → q ≡ sets p (at + 10) (32 ∷ time_text (s - s / 86400 * 86400)) → q ≡ sets l at (second_text s)
unfolding second_text
moment_stored l {date = date} at s d e f =
    let r : s - s / 86400 * 86400 ≡ s % 86400 = omega arith in
    sets_then l at 10 (date_text date.year date.month date.day) (32 ∷ time_text (s - s / 86400 * 86400)) refl e f ∙ rw (r, d)

-- ---- 19 bytes, the first a digit

pub length_moment : (u : ℕ) → length (moment_text u) ≡ 19
unfolding moment_text second_text
length_moment u = refl

pub moment_opens : (u : ℕ) → (d : ℕ) × ((rest : List ℕ) × ((moment_text u ≡ d ∷ rest) × (48 ≤ d)))
unfolding moment_text second_text
moment_opens u = (_, (_, (refl, omega arith)))

-- ---- told apart

-- the number that two digits at place i make
abbrev number : ℕ → List ℕ → ℕ
number i t = (get_or t i 0 - 48) * 10 + (get_or t (suc i) 0 - 48)

two : (n : ℕ) → n < 100 → (48 + n / 10 % 10 - 48) * 10 + (48 + n / 1 % 10 - 48) ≡ n
two n h = omega arith

high_half : (y : ℕ) → y < 10000 → (48 + y / 1000 % 10 - 48) * 10 + (48 + y / 100 % 10 - 48) ≡ y / 100
high_half y h = omega arith

low_half : (y : ℕ) → (48 + y / 10 % 10 - 48) * 10 + (48 + y / 1 % 10 - 48) ≡ y % 100
low_half y =
    let e : y / 10 % 10 ≡ y % 100 / 10 % 10 = omega arith in
    let f : y / 1 % 10 ≡ y % 100 / 1 % 10 = omega arith in
    rw (e, f) (two (y % 100) (omega arith))

module _ (d : Date) (s : ℕ) where
  read_year : d.year < 10000 → number 0 (together d s) * 100 + number 2 (together d s) ≡ d.year
  read_year h = rw (high_half d.year h, low_half d.year) (omega arith)

  read_month : d.month < 100 → number 5 (together d s) ≡ d.month
  read_month h = two d.month h

  read_day : d.day < 100 → number 8 (together d s) ≡ d.day
  read_day h = two d.day h

  read-time : s < 86400 → number 11 (together d s) * 3600 + number 14 (together d s) * 60 + number 17 (together d s) ≡ s
  read-time h =
      let a : s / 60 / 60 ≡ s / 3600 = omega arith in
      rw (two (s / 3600) (omega arith), two (s / 60 % 60) (omega arith), two (s % 60) (omega arith)) (omega arith)

pub record InDigits (d : Date) : Type 0 where
  pub year_fits : d.year < 10000
  pub month_fits : d.month < 100
  pub day_fits : d.day < 100

pub in_digits : (d : Date) (n : ℕ) → d ≡ date_of n → n < 3652059 → InDigits d
in_digits d n e h =
    let y = date_year_most n h in
    let m = date_month n in
    let k = date_day_most n in
    record { year_fits = rw e (omega arith); month_fits = rw e (omega arith); day_fits = rw e (omega arith) }

same_parts : (c d : Date) → c.year ≡ d.year → c.month ≡ d.month → c.day ≡ d.day → day_of c ≡ day_of d
same_parts c d e f g = rw (e, f, g)

same_days : (c d : Date) (s t : ℕ) → InDigits c → InDigits d → together c s ≡ together d t → day_of c ≡ day_of d
same_days c d s t a b e =
    same_parts c d (sym (read_year c s a.year_fits) ∙ ap (λ (l : List ℕ). number 0 l * 100 + number 2 l) e ∙ read_year d t b.year_fits)
    (sym (read_month c s a.month_fits) ∙ ap (number 5) e ∙ read_month d t b.month_fits)
    (sym (read_day c s a.day_fits) ∙ ap (number 8) e ∙ read_day d t b.day_fits)

same-time : (c d : Date) (s t : ℕ) → s < 86400 → t < 86400 → together c s ≡ together d t → s ≡ t
same-time c d s t a b e = sym (read-time c s a) ∙ ap (λ (l : List ℕ). number 11 l * 3600 + number 14 l * 60 + number 17 l) e ∙ read-time d t b

second_inj : (s t : ℕ) → s < 315537897600 → t < 315537897600 → second_text s ≡ second_text t → s ≡ t
unfolding second_text
second_inj s t a b e =
    let m = s / 86400 in
    let n = t / 86400 in
    let f : m ≡ n = sym (date_day m) ∙ same_days (date_of m) (date_of n) (s % 86400) (t % 86400) (in_digits (date_of m) m refl (omega arith)) (in_digits (date_of n) n refl (omega arith)) e ∙ date_day n in
    let g : s % 86400 ≡ t % 86400 = same-time (date_of m) (date_of n) (s % 86400) (t % 86400) (omega arith) (omega arith) e in
    omega arith

pub moment_inj : (u v : ℕ) → u < 315537897600000000 → v < 315537897600000000 → moment_text u ≡ moment_text v → u / 1000000 ≡ v / 1000000
unfolding moment_text
moment_inj u v a b e = second_inj (u / 1000000) (v / 1000000) (omega arith) (omega arith) e
