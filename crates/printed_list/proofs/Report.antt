-- The theorems about the program, on any list: the refusals it can print, what its output tells, and that it has room.
use Rattle.std.specs.Prelude.{Err}
use Prim.Native.Nat.{ℕ, ◌+◌, ◌/◌, ◌%◌, ◌≤◌, ◌<◌}
use mathlib.Core.Path.{◌≡◌, refl, sym, ap, subst, ◌∙◌}
use mathlib.Core.Bool.{cond}
use mathlib.Core.List.{List, [], ◌∷◌, ◌++◌, map, append_assoc, head-eq_of_cons-eq, tail-eq_of_cons-eq}
use mathlib.Core.Option.{Option, none, some}
use native.Mathlib.Omega.{arith}
use lib.Dec.{ltb, eqb}
use lib.ListN.{length}
use Rattle.laws.specs.Bytes.{concat}
use Rattle.laws.proofs.Truths.{cases, by_cond}
use Rattle.error.specs.declared.Refusal.{Refusal}
use Rattle.error.specs.declared.Refusal.TheVariants.{RowTooShort, WrongColumnCount, WrongVarlenCount, BadRange, NoValue, BadList, Unprintable}
use Rattle.error.specs.Refusal.{number_of, place_of}
use Rattle.error.specs.Result.{Result, on_result}
use Rattle.calendar.specs.Moment.{ascii_digits}
use Rattle.occupation.specs.Occupation.{Occupation}
use Rattle.occupation.specs.Order.{precedes}
use Rattle.occupation.specs.Line.{quoted, or_hyphen, line}
use Rattle.occupation_list.specs.Ordered.{ordered}
use Rattle.occupation_list.specs.Print.{row_count_limit, lines_of, decimal, refusal_line, report}
use Rattle.occupation_list.proofs.Decimals.{one_digit, two_digits_lem, length-line}
use Rattle.printed_list.specs.Shown.{SameReport, lines, refusal, ReportTells}
use Rattle.printed_list.specs.Refusals.{OfList, short, columns, varchars, range, value, list, text, RefusalsTold}
use Rattle.printed_list.specs.Room.{report_limit, ReportFitsAlways}
use Rattle.printed_list.proofs.Results.{Gives, good, bad, of_bad, on_either}
use Rattle.printed_list.proofs.Reading.{Good, list_read_lem}
use Rattle.printed_list.proofs.Printed.{lines-told, lines-short, placed-done}

-- ---- the refusals

pub refusals_told : RefusalsTold
refusals_told bytes e h = of_bad (list_read_lem bytes) h

-- numbers and places of two digits at most
pub record Small (e : Refusal) : Type 0 where
  pub number : number_of e < 100
  pub place : place_of e < 100

pub small : {e : Refusal} → OfList e → Small e
small short = omega arith
small columns = omega arith
small varchars = omega arith
small (range i h) = omega arith
small (value i h) = omega arith
small list = omega arith
small (text i h) = omega arith

-- ---- the line of a refusal tells it

-- c ends a number, as it is no digit
decimal_cut : (c m n : ℕ) (r s : List ℕ) → c < 48 → m < 100 → n < 100 → decimal m ++ (c ∷ r) ≡ decimal n ++ (c ∷ s)
    → (m ≡ n) × (r ≡ s)
decimal_cut c m n r s h k l e =
    cases m 10
    (λ a. cases n 10
    (λ b.
    let f : (48 + m % 10) ∷ c ∷ r ≡ (48 + n % 10) ∷ c ∷ s = rw (one_digit m a, one_digit n b) at e in
    let x = head-eq_of_cons-eq f in
    (omega arith, tail-eq_of_cons-eq (tail-eq_of_cons-eq f)))
    (λ b.
    let f : (48 + m % 10) ∷ c ∷ r ≡ (48 + n / 10 % 10) ∷ (48 + n % 10) ∷ c ∷ s = rw (one_digit m a, two_digits_lem n b) at e in
    let x = head-eq_of_cons-eq (tail-eq_of_cons-eq f) in
    absurd (omega arith)))
    (λ a. cases n 10
    (λ b.
    let f : (48 + m / 10 % 10) ∷ (48 + m % 10) ∷ c ∷ r ≡ (48 + n % 10) ∷ c ∷ s = rw (two_digits_lem m a, one_digit n b) at e in
    let x = head-eq_of_cons-eq (tail-eq_of_cons-eq f) in
    absurd (omega arith))
    (λ b.
    let f : (48 + m / 10 % 10) ∷ (48 + m % 10) ∷ c ∷ r ≡ (48 + n / 10 % 10) ∷ (48 + n % 10) ∷ c ∷ s
    = rw (two_digits_lem m a, two_digits_lem n b) at e in
    let x = head-eq_of_cons-eq f in
    let y = head-eq_of_cons-eq (tail-eq_of_cons-eq f) in
    (omega arith, tail-eq_of_cons-eq (tail-eq_of_cons-eq (tail-eq_of_cons-eq f)))))

abbrev refusal_of : ℕ → ℕ → Refusal
refusal_of n i =
    cond (eqb n 3) RowTooShort
    (cond (eqb n 5) WrongColumnCount
    (cond (eqb n 6) WrongVarlenCount
    (cond (eqb n 7) (BadRange i) (cond (eqb n 8) (NoValue i) (cond (eqb n 16) BadList (Unprintable i))))))

by_number : {e : Refusal} → OfList e → refusal_of (number_of e) (place_of e) ≡ e
by_number short = refl
by_number columns = refl
by_number varchars = refl
by_number (range i h) = refl
by_number (value i h) = refl
by_number list = refl
by_number (text i h) = refl

refusal_tells : {e f : Refusal} → OfList e → OfList f → refusal_line e ≡ refusal_line f → e ≡ f
refusal_tells {e} {f} p q h =
    let a = decimal_cut 0x20 (number_of e) (number_of f) _ _ (omega arith) (small p).number (small q).number h in
    let b = decimal_cut 0x0A (place_of e) (place_of f) [] [] (omega arith) (small p).place (small q).place a.1 in
    sym (by_number p) ∙ (λ i. refusal_of (a.0 i) (b.0 i)) ∙ by_number q

-- ---- and is no line of an occupation: it begins with a digit

opens_high : (e : Refusal) (d : ℕ) (r : List ℕ) → refusal_line e ≡ d ∷ r → 48 ≤ d
opens_high e d r h =
    cases (number_of e) 10
    (λ a. let x = head-eq_of_cons-eq (rw (one_digit (number_of e) a) at h) in omega arith)
    (λ a. let x = head-eq_of_cons-eq (rw (two_digits_lem (number_of e) a) at h) in omega arith)

line_opens : (o : Option (List ℕ)) (rest : List ℕ) → (d : ℕ) × ((r : List ℕ) × ((or_hyphen quoted o ++ rest ≡ d ∷ r) × (d < 48)))
line_opens none rest = (0x2D, (rest, (refl, omega arith)))
line_opens (some t) rest = (0x22, ((t ++ (0x22 ∷ [])) ++ rest, (refl, omega arith)))

no_line : (e : Refusal) (os : List Occupation) → refusal_line e ≡ concat (map line os) → ⊥
no_line e [] h = let l = ap length h in omega (arith, length-line (number_of e) (place_of e))
no_line e (o ∷ os) h =
    let k = line_opens o.platform _ in
    let d : refusal_line e ≡ k.0 ∷ k.1.0 = h ∙ append_assoc (or_hyphen quoted o.platform) _ _ ∙ k.1.1.0 in
    omega (arith, opens_high e k.0 k.1.0 d, k.1.1.1)

-- ---- all that is printed

tells : {x y : Result (List Occupation)} → Gives (Good row_count_limit) OfList x → Gives (Good row_count_limit) OfList y
    → on_result x refusal_line lines_of ≡ on_result y refusal_line lines_of → SameReport x y
tells (good {x = os} g) (good {x = qs} k) h = lines os qs (lines-told g k h)
tells (good {x = os} g) (bad {e = e} q) h = absurd (no_line e (ordered precedes os) (sym h))
tells (bad {e = e} q) (good {x = os} g) h = absurd (no_line e (ordered precedes os) h)
tells (bad {e = e} p) (bad {e = f} q) h = subst (λ k. SameReport (Err e) (Err k)) (refusal_tells p q h) (refusal e)

pub report_tells : ReportTells
report_tells a b e = tells (list_read_lem a) (list_read_lem b) e

-- ---- its length

decimal-short : (n : ℕ) → length (decimal n) ≤ 2
decimal-short n = by_cond (λ l. length l ≤ 2) (ltb n 10) (ascii_digits 1 n) (ascii_digits 2 n) (λ t. omega arith) (λ t. omega arith)

refusal-short : (e : Refusal) → length (refusal_line e) ≤ 6
refusal-short e =
    omega (arith, length-line (number_of e) (place_of e), decimal-short (number_of e), decimal-short (place_of e))

pub report-short : (bytes : List ℕ) → length (report bytes) ≤ report_limit
report-short bytes =
    on_either (λ l. length l ≤ report_limit) refusal_line lines_of (list_read_lem bytes) (λ e q. omega (arith, refusal-short e))
    (λ os g. omega (arith, lines-short g))

pub report-fits : ReportFitsAlways
report-fits bytes =
    record { lines = report-short bytes; done = λ out h. placed-done report_limit out (report bytes) (report-short bytes) h }
