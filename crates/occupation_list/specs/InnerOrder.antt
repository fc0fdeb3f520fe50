-- For the proofs: places of rows in a list, kept in the order of their rows, and what the inner functions hand on.
use Rattle.std.specs.Prelude.{ℕ, ◌+◌, ◌≤◌, ◌<◌, true, false, List, [], ◌∷◌, ◌++◌, map, ◌≡◌, length, get_or, take, drop, Err, Ok}
use Rattle.std.proofs.Math.Option.{none}
use Rattle.error.specs.Result.{Result}
use Rattle.laws.specs.Bytes.{concat}
use Rattle.row_list.specs.Rows.{first_size, first_row, rows_of}
use Rattle.occupation.specs.declared.Fields.{Fields}
use Rattle.occupation.specs.Occupation.{Occupation, occupation_in}
use Rattle.occupation.specs.Order.{precedes}
use Rattle.occupation.specs.Line.{line}
use Rattle.occupation.specs.InnerFields.{is_good, fields_shown, FieldsIn}
use Rattle.occupation_list.specs.Ordered.{inserted, inserted_all}
use Rattle.occupation_list.specs.Print.{row_count_limit, occupations_of, decimal}

-- ---- a row at its place, which is where its length stands

abbrev pub row_in : List ℕ → ℕ → List ℕ
row_in list p = first_row (drop p list)

-- anything for a row that is refused
abbrev pub good_one : Result Occupation → Occupation
good_one (Ok o) = o
good_one (Err e) = record { platform = none; unit = none; arrival = none; departure = none }

unfoldable pub occupation_at : List ℕ → ℕ → Occupation
occupation_at list p = good_one (occupation_in (row_in list p))

-- a row that is whole and can be printed
pub record Place (list : List ℕ) (p : ℕ) : Type 0 where
  pub inside : p + (2 + first_size (drop p list)) ≤ length list
  pub good : is_good (occupation_in (row_in list p)) ≡ true

-- the fields f of a row r
pub record Known (r : List ℕ) (f : Fields) : Type 0 where
  pub shown : Ok (fields_shown r f) ≡ occupation_in r
  pub bounds : FieldsIn (length r) f

-- ---- the first k of some places, in order

abbrev pub occupations_at : List ℕ → List ℕ → List Occupation
occupations_at list ps = map (occupation_at list) ps

abbrev pub lines_at : List ℕ → List ℕ → List ℕ
lines_at list ps = concat (map line (occupations_at list ps))

pub record Placed (list order : List ℕ) (k : ℕ) : Type 0 where
  pub many : k ≤ length order
  pub places : (i : ℕ) → i < k → Place list (get_or order i 0)
  pub rises : (i j : ℕ) → i < j → j < k
      → precedes (occupation_at list (get_or order j 0)) (occupation_at list (get_or order i 0)) ≡ false

-- the first r of them are those that o does not precede
pub record FoundPlace (list order : List ℕ) (k : ℕ) (o : Occupation) (r : ℕ) : Type 0 where
  pub within : r ≤ k
  pub before : (i : ℕ) → i < r → precedes o (occupation_at list (get_or order i 0)) ≡ false
  pub behind : (i : ℕ) → r ≤ i → i < k → precedes o (occupation_at list (get_or order i 0)) ≡ true

-- one more row, which stands at a place of the list
pub record Addable (list order : List ℕ) (k at : ℕ) : Type 0 where
  pub so_far : Placed list order k
  pub room : k < length order
  pub inside : at + (2 + first_size (drop at list)) ≤ length list
  pub small : length list ≤ 32768

pub record AddedRow (list order : List ℕ) (k at n : ℕ) (order' : List ℕ) : Type 0 where
  pub is_ok : occupation_in (row_in list at) ≡ Ok (occupation_at list at)
  pub then_placed : Placed list order' (k + 1)
  pub in_place : occupations_at list (take (k + 1) order')
      ≡ inserted precedes (occupation_at list at) (occupations_at list (take k order))
  pub long : n ≡ length (line (occupation_at list at))
  pub short : n ≤ 126

abbrev pub AddedAs : List ℕ → List ℕ → ℕ → ℕ → Result ℕ → List ℕ → Type 0
AddedAs list order k at (Ok n) order' = AddedRow list order k at n order'
AddedAs list order k at (Err e) order' = occupation_in (row_in list at) ≡ Err e

-- ---- all rows

-- a list that is whole, and places for its rows
pub record Arrangeable (list order : List ℕ) : Type 0 where
  pub rows : List (List ℕ)
  pub is_ok : rows_of row_count_limit list ≡ Ok rows
  pub room : length order ≡ row_count_limit

-- those of a result put among os, which are in order
abbrev pub ordered_onto : List Occupation → Result (List Occupation) → Result (List Occupation)
ordered_onto os (Ok qs) = Ok (inserted_all precedes os qs)
ordered_onto os (Err e) = Err e

-- k rows whose lines have n bytes
pub record LinesReady (list order : List ℕ) (k n : ℕ) : Type 0 where
  pub all_placed : Placed list order k
  pub long : n ≡ length (lines_at list (take k order))

pub record ArrangedRows (list order : List ℕ) (k n : ℕ) : Type 0 where
  pub in_order : ordered_onto [] (occupations_of list) ≡ Ok (occupations_at list (take k order))
  pub printable : LinesReady list order k n

abbrev pub ArrangedAs : List ℕ → List ℕ → Result (ℕ × ℕ) → Type 0
ArrangedAs list order (Ok (k, n)) = ArrangedRows list order k n
ArrangedAs list order (Err e) = occupations_of list ≡ Err e

-- a refusal's line, of its number and its place
abbrev pub numbers_line : ℕ → ℕ → List ℕ
numbers_line n p = decimal n ++ (0x20 ∷ (decimal p ++ (0x0A ∷ [])))
