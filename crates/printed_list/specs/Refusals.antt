-- FORMAT 10.5. 02, request 2: the refusals of a list: 16, "the reading refusals" and 17. No list gives 4, since none of
-- its rows is that long, nor 2, nor 14.
use Rattle.std.specs.Prelude.{ℕ, ◌≤◌, ◌≡◌, List, Err}
use Rattle.error.specs.declared.Refusal.{Refusal}
use Rattle.error.specs.declared.Refusal.TheVariants.{RowTooShort, WrongColumnCount, WrongVarlenCount}
use Rattle.error.specs.declared.Refusal.TheVariants.{BadRange, NoValue, BadList, Unprintable}
use Rattle.occupation_list.specs.Print.{occupations_of}

pub data OfList : Refusal → Type 0 where
  short : OfList RowTooShort
  columns : OfList WrongColumnCount
  varchars : OfList WrongVarlenCount
  range : (i : ℕ) → i ≤ 3 → OfList (BadRange i)
  value : (i : ℕ) → i ≤ 3 → OfList (NoValue i)
  list : OfList BadList
  text : (i : ℕ) → i ≤ 1 → OfList (Unprintable i)

abbrev pub RefusalsTold : Type 0
RefusalsTold = (bytes : List ℕ) (e : Refusal) → occupations_of bytes ≡ Err e → OfList e
