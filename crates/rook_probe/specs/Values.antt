-- One value and one column: what the inner functions make of them, as numbers and bytes. A refusal leaves the lent
-- bytes.
use Rattle.error.specs.Result.{Result}
use Rattle.std.specs.Prelude.{ℕ, ◌≤◌, Bool, true, false, cond, List, [], ◌∷◌, eqb, ltb, length, Err, None, Ok, Option, Some}
use Rattle.std.proofs.lemmas.List.Edits.{sets}
use Rattle.error.specs.Refusal.{number_of}
use Rattle.error.specs.Answer.{Outcome, unchanged, placed}
use Rattle.error.specs.declared.Refusal.TheVariants.{BadRecord, BadSchema, RowTooShort, RowTooLong, NoValue, BadValueList, WrongKind, Unsuitable, NoRoom}
use Rattle.row_format.specs.Places.{row_limit}
use Rattle.datatype.specs.declared.DataType.{DataType}
use Rattle.datatype.specs.Types.{size_of, is_varlen, precision_of}
use Rattle.datatype.specs.Schema.{column_record_at}
use Rattle.value.specs.declared.DataValue.{DataValue}
use Rattle.value.specs.Kinds.{matches}
use Rattle.value.specs.Ranges.{range_of, text_of}
use Rattle.value_list.specs.Records.{record_of}
use Rattle.value_list.specs.Lists.{Values, checked}
use Rattle.stored_form.specs.Write.{accepted, stored_form}
use Rattle.stored_form.specs.Read.{read_slot}
use Rattle.rook_probe.specs.declared.ValueProbe.{ValueProbe}

-- ---- schemas and lists of exactly one record

-- 1 and 2 as 01 has them; 1 where there is no record, 2 where more follows
abbrev pub only_record : ℕ → Result (DataType × ℕ) → Result DataType
only_record n (Ok (t, next)) = cond (eqb next n) (Ok t) (Err (BadSchema next))
only_record n (Err r) = Err r

abbrev pub only_type : List ℕ → Result DataType
only_type s = cond (eqb (length s) 0) (Err (BadRecord 0)) (only_record (length s) (column_record_at s 0))

abbrev pub Precise : Result DataType → Type 0
Precise (Ok t) = precision_of t ≤ 38
Precise (Err r) = Unit {0}

abbrev pub only_value : Values → Option DataValue
only_value (Ok []) = None
only_value (Ok (v ∷ vs)) = Some v
only_value (Err r) = None

-- ---- a value stored

-- 11: another kind; 12: the value does not suit; 14: too little room
abbrev pub stored_value : DataType → DataValue → List ℕ → List ℕ → Outcome
stored_value t v area out =
    cond (matches t v)
    (cond (accepted t v area) (placed out (stored_form t v (text_of area v))) (unchanged out (Unsuitable 0)))
    (unchanged out (WrongKind 0))

-- 10: no list of one value
abbrev pub stored_one : DataType → Option DataValue → List ℕ → List ℕ → Outcome
stored_one t (Some v) area out = stored_value t v area out
stored_one t None area out = unchanged out (BadValueList 0)

abbrev pub stored_list : Result DataType → List ℕ → List ℕ → List ℕ → Outcome
stored_list (Ok t) list area out = stored_one t (only_value (checked false 1 (length area) list)) area out
stored_list (Err r) list area out = unchanged out r

-- ---- bytes read

-- 8: no value of the type
abbrev pub hand_value : Option DataValue → List ℕ → Outcome
hand_value (Some v) out = (Ok (length (record_of false v)), sets out 0 (record_of false v))
hand_value None out = unchanged out (NoValue 0)

-- whether n bytes fill the slot; a payload may have any number
abbrev pub fits_slot : DataType → ℕ → Bool
fits_slot t n = cond (is_varlen t) true (eqb n (size_of t))

-- 14: any record has at most 18 bytes
abbrev pub placed_read : Option DataValue → List ℕ → Outcome
placed_read r out = cond (ltb (length out) 18) (unchanged out NoRoom) (hand_value r out)

-- 4: more than a record's two bytes tell; 3: a slot of another length
abbrev pub read_value : DataType → List ℕ → ℕ → List ℕ → Outcome
read_value t bs start out =
    cond (ltb (row_limit false) start) (unchanged out RowTooLong)
    (cond (ltb (row_limit false) (length bs)) (unchanged out RowTooLong)
    (cond (fits_slot t (length bs)) (placed_read (read_slot t start bs) out)
    (unchanged out RowTooShort)))

abbrev pub read_one : Result DataType → List ℕ → ℕ → List ℕ → Outcome
read_one (Ok t) bs start out = read_value t bs start out
read_one (Err r) bs start out = unchanged out r

-- ---- as numbers

abbrev pub value_probe : Result ℕ → ValueProbe
value_probe (Ok n) = record { number = 0; length = n }
value_probe (Err r) = record { number = number_of r; length = 0 }

abbrev pub probed : Outcome → ValueProbe × List ℕ
probed o = (value_probe o.0, o.1)

abbrev pub stored_as : Result DataType → List ℕ → List ℕ → List ℕ → ValueProbe × List ℕ
stored_as t list area out = probed (stored_list t list area out)

abbrev pub read_as : Result DataType → List ℕ → ℕ → List ℕ → ValueProbe × List ℕ
read_as t bs start out = probed (read_one t bs start out)

-- ---- for the proofs: how many bytes a stored form has, from the type and the value alone

abbrev pub form_length : DataType → DataValue → ℕ
form_length t v = cond (is_varlen t) (range_of v).length (size_of t)
