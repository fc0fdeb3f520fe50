-- The lines are text: the texts of rows are, and all else is ASCII.
use Prim.Native.Nat.{ℕ, zero, suc, ◌+◌, ◌/◌, ◌%◌, ◌^◌, ◌≤◌, ◌<◌}
use mathlib.Core.Path.{◌≡◌, refl}
use mathlib.Core.Bool.{true}
use mathlib.Core.List.{List, [], ◌∷◌, ◌++◌, map}
use mathlib.Core.Option.{Option, none, some}
use native.Mathlib.Omega.{arith}
use lib.Dec.{ltb}
use lib.ListN.{length}
use borrow.Author.Tests.{le-leb}
use Rattle.laws.specs.Bytes.{concat}
use Rattle.laws.proofs.Truths.{by_cond}
use Rattle.error.specs.declared.Refusal.{Refusal}
use Rattle.error.specs.Refusal.{number_of, place_of}
use Rattle.text.specs.Rfc3629.{is_text, octets}
use Rattle.text.proofs.Append.{text-append}
use Rattle.calendar.specs.Moment.{ascii_digits, date_text, time_text, second_text, moment_text}
use Rattle.calendar.specs.Calendar.{date_of}
use Rattle.occupation.specs.Occupation.{Occupation}
use Rattle.occupation.specs.Order.{precedes}
use Rattle.occupation.specs.Line.{quoted, or_hyphen, line}
use Rattle.occupation_list.specs.Ordered.{ordered}
use Rattle.occupation_list.specs.Print.{lines_of, decimal, refusal_line}
use Rattle.printed_list.specs.Sorted.{Every}
use Rattle.printed_list.specs.Printable.{IfSome, Printable}
use Rattle.printed_list.specs.Text.{LinesText, ReportText}
use Rattle.printed_list.proofs.Results.{on_either}
use Rattle.printed_list.proofs.Reading.{list_read_lem}
use Rattle.printed_list.proofs.Printed.{all-good, ordered-printable}

-- ---- ASCII

abbrev Ascii : List ℕ → Type 0
Ascii bs = Every (λ b. b < 128) bs

byte_text : (b : ℕ) → b < 128 → is_text (b ∷ []) ≡ true
unfolding octets
byte_text b h = rw (le-leb 0 b (omega arith), le-leb b 0x7F (omega arith))

ascii-text : (bs : List ℕ) → Ascii bs → is_text bs ≡ true
unfolding octets
ascii-text [] e = refl
ascii-text (b ∷ bs) e = text-append (b ∷ []) bs (byte_text b e.0) (ascii-text bs e.1)

ascii_append : (xs ys : List ℕ) → Ascii xs → Ascii ys → Ascii (xs ++ ys)
ascii_append [] ys a b = b
ascii_append (x ∷ xs) ys a b = (a.0, ascii_append xs ys a.1 b)

digit_ascii : (n : ℕ) → 48 + n % 10 < 128
digit_ascii n = omega arith

digits-ascii : (w n : ℕ) → Ascii (ascii_digits w n)
digits-ascii zero n = tt
digits-ascii (suc w) n = (digit_ascii (n / 10 ^ w), digits-ascii w n)

-- digits, a byte and what follows
digits_then : (w n b : ℕ) (bs : List ℕ) → b < 128 → Ascii bs → Ascii (ascii_digits w n ++ (b ∷ bs))
digits_then w n b bs h a = ascii_append (ascii_digits w n) (b ∷ bs) (digits-ascii w n) (h, a)

date-ascii : (y m d : ℕ) → Ascii (date_text y m d)
date-ascii y m d =
    digits_then 4 y 45 (ascii_digits 2 m ++ (45 ∷ ascii_digits 2 d)) (omega arith)
    (digits_then 2 m 45 (ascii_digits 2 d) (omega arith) (digits-ascii 2 d))

time-ascii : (s : ℕ) → Ascii (time_text s)
time-ascii s =
    digits_then 2 (s / 3600) 58 (ascii_digits 2 (s / 60 % 60) ++ (58 ∷ ascii_digits 2 (s % 60))) (omega arith)
    (digits_then 2 (s / 60 % 60) 58 (ascii_digits 2 (s % 60)) (omega arith) (digits-ascii 2 (s % 60)))

moment_ascii : (u : ℕ) → Ascii (moment_text u)
unfolding moment_text second_text
moment_ascii u =
    let s = u / 1000000 in
    let d = date_of (s / 86400) in
    ascii_append (date_text d.year d.month d.day) (32 ∷ time_text (s % 86400)) (date-ascii d.year d.month d.day) (omega arith, time-ascii (s % 86400))

-- ---- a line

-- an ASCII byte before or behind text
module _ (b : ℕ) (h : b < 128) (s : List ℕ) (t : is_text s ≡ true) where
  byte_before : is_text (b ∷ s) ≡ true
  byte_before = text-append (b ∷ []) s (byte_text b h) t

  byte_behind : is_text (s ++ (b ∷ [])) ≡ true
  byte_behind = text-append s (b ∷ []) t (byte_text b h)

field_text : {A : Type 0} {P : A → Type 0} (f : A → List ℕ) → ((x : A) → P x → is_text (f x) ≡ true) → (x : Option A) → IfSome P x → is_text (or_hyphen f x) ≡ true
field_text f h none p = byte_text 0x2D (omega arith)
field_text f h (some x) p = h x p

quoted-text : (n : ℕ) (s : List ℕ) → (length s ≤ n) × (is_text s ≡ true) → is_text (quoted s) ≡ true
quoted-text n s p = byte_before 0x22 (omega arith) (s ++ (0x22 ∷ [])) (byte_behind 0x22 (omega arith) s p.1)

-- a field, a byte and what follows
joined : (b : ℕ) → b < 128 → (s t : List ℕ) → is_text s ≡ true → is_text t ≡ true → is_text (s ++ (b ∷ t)) ≡ true
joined b h s t p q = text-append s (b ∷ t) p (byte_before b h t q)

line-text : (o : Occupation) → Printable o → is_text (line o) ≡ true
line-text o p =
    let k = p.sized in
    let moment : (u : ℕ) → u < 315537897600000000 → is_text (moment_text u) ≡ true = λ u h. ascii-text (moment_text u) (moment_ascii u) in
    joined 0x7C (omega arith) (or_hyphen quoted o.platform) _ (field_text quoted (quoted-text 16) o.platform k.platform_in)
    (joined 0x7C (omega arith) (or_hyphen quoted o.unit) _ (field_text quoted (quoted-text 64) o.unit k.unit_in)
    (joined 0x7C (omega arith) (or_hyphen moment_text o.arrival) _ (field_text moment_text moment o.arrival k.arrival_in)
    (byte_behind 0x0A (omega arith) (or_hyphen moment_text o.departure) (field_text moment_text moment o.departure k.departure_in))))

all-text : (os : List Occupation) → Every Printable os → is_text (concat (map line os)) ≡ true
unfolding octets
all-text [] p = refl
all-text (o ∷ os) p = text-append (line o) (concat (map line os)) (line-text o p.0) (all-text os p.1)

pub lines-text : LinesText
lines-text list os e = all-text (ordered precedes os) (ordered-printable (all-good list os e))

-- ---- the program

decimal-text : (n : ℕ) → is_text (decimal n) ≡ true
decimal-text n = by_cond (λ s. is_text s ≡ true) (ltb n 10) (ascii_digits 1 n) (ascii_digits 2 n) (λ _. ascii-text (ascii_digits 1 n) (digits-ascii 1 n)) (λ _. ascii-text (ascii_digits 2 n) (digits-ascii 2 n))

refusal-text : (e : Refusal) → is_text (refusal_line e) ≡ true
refusal-text e = joined 0x20 (omega arith) (decimal (number_of e)) _ (decimal-text (number_of e)) (byte_behind 0x0A (omega arith) (decimal (place_of e)) (decimal-text (place_of e)))

pub report-text : ReportText
report-text list =
    on_either (λ s. is_text s ≡ true) refusal_line lines_of (list_read_lem list) (λ e h. refusal-text e)
    (λ os g. all-text (ordered precedes os) (ordered-printable g))
