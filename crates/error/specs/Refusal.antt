-- FORMAT 6. 01, "What each call hands back": the number of each refusal, and its place. 02, request 2: "16 for a list
-- that is cut or over its limits [..], place 0", "17 [..] for a text with a double quote or a byte below 32, place the
-- first such column".
use Rattle.std.specs.Prelude.{ℕ}
use Rattle.error.specs.declared.Refusal.{Refusal}
use Rattle.error.specs.declared.Refusal.TheVariants.{BadRecord, BadSchema, RowTooShort, RowTooLong, WrongColumnCount, WrongVarlenCount, BadRange, NoValue, NoSuchColumn, BadValueList, WrongKind, Unsuitable, RowLimit, NoRoom, NotSound, BadList, Unprintable}

abbrev pub number_of : Refusal → ℕ
number_of (BadRecord at) = 1
number_of (BadSchema at) = 2
number_of RowTooShort = 3
number_of RowTooLong = 4
number_of WrongColumnCount = 5
number_of WrongVarlenCount = 6
number_of (BadRange column) = 7
number_of (NoValue column) = 8
number_of NoSuchColumn = 9
number_of (BadValueList at) = 10
number_of (WrongKind column) = 11
number_of (Unsuitable column) = 12
number_of RowLimit = 13
number_of NoRoom = 14
number_of NotSound = 15
number_of BadList = 16
number_of (Unprintable column) = 17

-- "the first byte of the bad record, in the schema for 1 and 2 and in the value list for 10; a column for 7, 8, 11
-- and 12; else 0"
abbrev pub place_of : Refusal → ℕ
place_of (BadRecord at) = at
place_of (BadSchema at) = at
place_of RowTooShort = 0
place_of RowTooLong = 0
place_of WrongColumnCount = 0
place_of WrongVarlenCount = 0
place_of (BadRange column) = column
place_of (NoValue column) = column
place_of NoSuchColumn = 0
place_of (BadValueList at) = at
place_of (WrongKind column) = column
place_of (Unsuitable column) = column
place_of RowLimit = 0
place_of NoRoom = 0
place_of NotSound = 0
place_of BadList = 0
place_of (Unprintable column) = column
