-- FORMAT 10.7. 02, request 2: "Two lists that are not refused and whose texts, nulls or seconds differ, taken in this
-- order, never give the same lines."
use Rattle.std.specs.Prelude.{ℕ, ◌/◌, ◌≡◌, ◌↔◌, true, List, map, Err, Ok}
use Rattle.std.proofs.Math.Option.{Option, none, some}
use Rattle.error.specs.declared.Refusal.{Refusal}
use Rattle.error.specs.Result.{Result}
use Rattle.occupation.specs.Occupation.{Occupation}
use Rattle.occupation.specs.Order.{precedes}
use Rattle.occupation_list.specs.Ordered.{ordered}
use Rattle.occupation_list.specs.Print.{occupations_of, lines_of, report}
use Rattle.printed_list.specs.Sorted.{is_level, InOrder}

-- texts, nulls and seconds
pub record Shown : Type 0 where
  pub platform : Option (List ℕ)
  pub unit : Option (List ℕ)
  pub arrival : Option ℕ
  pub departure : Option ℕ

abbrev pub seconds : Option ℕ → Option ℕ
seconds none = none
seconds (some u) = some (u / 1000000)

abbrev pub shown : Occupation → Shown
shown o =
    record {
      platform = o.platform;
      unit = o.unit;
      arrival = seconds o.arrival;
      departure = seconds o.departure;
    }

-- "taken in this order"
abbrev pub shown_in_order : List Occupation → List Shown
shown_in_order os = map shown (ordered precedes os)

abbrev pub NeverSame : Type 0
NeverSame =
    (a b : List ℕ) (os qs : List Occupation) → occupations_of a ≡ Ok os → occupations_of b ≡ Ok qs
    → (shown_in_order os ≡ shown_in_order qs → ⊥) → lines_of os ≡ lines_of qs → ⊥

-- and, as nothing else is printed, exactly
abbrev pub LinesTell : Type 0
LinesTell =
    (a b : List ℕ) (os qs : List Occupation) → occupations_of a ≡ Ok os → occupations_of b ≡ Ok qs
    → (lines_of os ≡ lines_of qs) ↔ (shown_in_order os ≡ shown_in_order qs)

-- the rows are printed in order, of which there is one
abbrev pub RowsOrdered : Type 0
RowsOrdered = (os qs : List Occupation) → InOrder precedes os qs ↔ (qs ≡ ordered precedes os)

-- those of which neither precedes the other, and which stand as they came, are those of one platform and one arrival
abbrev pub LevelIs : Type 0
LevelIs =
    (a b : Occupation) → (is_level precedes a b ≡ true) ↔ ((a.platform ≡ b.platform) × (a.arrival ≡ b.arrival))

-- ---- the program

-- what two lists have in common of which it prints the same
pub data SameReport : Result (List Occupation) → Result (List Occupation) → Type 0 where
  lines : (os qs : List Occupation) → shown_in_order os ≡ shown_in_order qs → SameReport (Ok os) (Ok qs)
  refusal : (e : Refusal) → SameReport (Err e) (Err e)

abbrev pub ReportTells : Type 0
ReportTells = (a b : List ℕ) → report a ≡ report b → SameReport (occupations_of a) (occupations_of b)
