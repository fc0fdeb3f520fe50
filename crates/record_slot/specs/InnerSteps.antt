-- For the proofs: a column's record and a value's, by their bytes.
use Rattle.std.specs.Prelude.{ℕ, ◌+◌, ◌-◌, ◌^◌, ◌/◌, ◌%◌, ◌≤◌, ◌<◌, Bool, true, false, cond, List, [], ◌∷◌, ◌++◌, ◌≡◌, eqb, leb, ltb, length, get_or, replicate, Err, Ok}
use Rattle.std.proofs.Math.Option.{some}
use Rattle.std.specs.Int.{w16, w32, w64}
use Rattle.std.proofs.Common.{to_z, of_z}
use Rattle.error.specs.declared.Refusal.{Refusal}
use Rattle.error.specs.Result.{Result}
use Rattle.laws.specs.Bytes.{to_le}
use Rattle.row_format.specs.Table.{Cell, bytes}
use Rattle.text.specs.Rfc3629.{is_text}
use Rattle.text_limit.specs.Limit.{fits_text}
use Rattle.bit_utils.specs.Bits.{bytes_for, pack_bits, unpack_bits}
use Rattle.numeric.specs.Packed.{encode_bcd}
use Rattle.datatype.specs.declared.DataType.{DataType}
use Rattle.datatype.specs.declared.DataType.TheVariants as T
use Rattle.datatype.specs.Types.{size_of, is_varlen, precision_of}
use Rattle.datatype.specs.Schema.{column_kind, column_record_at}
use Rattle.datatype.specs.InnerSteps.{plain_size, type_in}
use Rattle.temporal.specs.Ranges.{is_date, is_time, is_timestamp}
use Rattle.value.specs.declared.TextRange.{TextRange}
use Rattle.value.specs.declared.NumericValue.{NumericValue}
use Rattle.value.specs.declared.DataValue.{DataValue}
use Rattle.value.specs.declared.DataValue.TheVariants.{Null}
use Rattle.value.specs.Kinds.{matches}
use Rattle.value.specs.Ranges.{in_area, part, text_of}
use Rattle.value_list.specs.InnerSizes.{body_in, size_at}
use Rattle.value_list.specs.Records.{body_length, number_at, numeric_at, range_at, record_at as valueRecordAt}
use Rattle.stored_form.specs.Number.{is_negative, magnitude}
use Rattle.stored_form.specs.Write.{fits_digits, accepted as holds, stored_form}
use Rattle.stored_form.specs.Points.{stored_points}
use Rattle.record_slot.specs.Stored.{is_null, cell_in}

-- ---- the records

-- a place at which there is a column's record
pub record HasType (s : List ℕ) (at : ℕ) : Type 0 where
  pub column : at < length s
  pub type_there : {e : Refusal} → column_record_at s at ≡ Err e → ⊥

-- two places at which there are records
pub record Readable (s : List ℕ) (at : ℕ) (list : List ℕ) (from : ℕ) : Type 0 where
  pub column : at < length s
  pub type_there : {e : Refusal} → column_record_at s at ≡ Err e → ⊥
  pub value : from < length list
  pub value_there : {e : Refusal} → valueRecordAt list from ≡ Err e → ⊥

-- a column's type and the value that is given for it, with the places after their records
pub record Given : Type 0 where
  pub ty : DataType
  pub value : DataValue
  pub next_type : ℕ
  pub next-value : ℕ

pub record ReadAt (s : List ℕ) (at : ℕ) (list : List ℕ) (from : ℕ) (g : Given) : Type 0 where
  pub type_is : column_record_at s at ≡ Ok (g.ty, g.next_type)
  pub value-is : valueRecordAt list from ≡ Ok (g.value, g.next-value)

-- ---- the same by the bytes of the records

-- the value that a record says
abbrev pub value_in : Result (DataValue × ℕ) → DataValue
value_in (Ok (v, next)) = v
value_in (Err e) = Null

-- the bytes of the value's record at a place, 0 where there is none
abbrev pub length_at : List ℕ → ℕ → ℕ
length_at list from = cond (ltb from (length list)) (size_at list from) 0

-- the place after a column's record: one byte of kind, and two more where the kind has no size of its own
abbrev pub after_column : List ℕ → ℕ → ℕ
after_column s at = cond (eqb (plain_size (column_kind (get_or s at 0))) 0) (at + 3) (at + 1)

-- the records at two places, where there are any
abbrev pub given_at : List ℕ → ℕ → List ℕ → ℕ → Given
given_at s at list from =
    record {
      ty = type_in (column_record_at s at);
      value = value_in (valueRecordAt list from);
      next_type = after_column s at;
      next-value = from + 1 + body_length (get_or list from 0);
    }

-- the two bytes after the kind: a length, or precision and scale
abbrev pub declared_at : List ℕ → ℕ → ℕ
declared_at s at = cond (ltb (length s) (at + 3)) 0 (number_at 2 s (at + 1))

abbrev pub text_suits : Bool → ℕ → TextRange → List ℕ → Bool
text_suits byPoints n r area = cond (in_area (length area) r) (fits_text byPoints n (part area r)) false

abbrev pub bits_suit : ℕ → TextRange → List ℕ → Bool
bits_suit n r area = cond (in_area (length area) r) (eqb (length (part area r)) (bytes_for n)) false

abbrev pub number_suits : ℕ → NumericValue → Bool
number_suits n x = fits_digits (T.Numeric (n % 256) (n / 256)) x.scale (magnitude x.high x.low)

-- whether a value of kind k of 01's, whose body stands at a place of the list, ranges of w bytes each, suits a type of
-- that kind which was declared with n, which counts bytes or code points of a Varchar
abbrev pub suits_at : Bool → ℕ → ℕ → ℕ → List ℕ → ℕ → List ℕ → Bool
suits_at byPoints w k n list at area =
    cond (eqb k 6) (number_suits n (numeric_at list at))
    (cond (eqb k 7) (leb (get_or list at 0) 1)
    (cond (eqb k 8) (text_suits false n (range_at w list at) area)
    (cond (eqb k 9) (text_suits byPoints n (range_at w list at) area)
    (cond (eqb k 10) (is_date (to_z w32 (number_at 4 list at)))
    (cond (eqb k 11) (is_time (to_z w64 (number_at 8 list at)))
    (cond (eqb k 12) (bits_suit n (range_at w list at) area)
    (cond (eqb k 13) (is_timestamp (to_z w64 (number_at 8 list at)))
    true)))))))

-- a body that can be tested
pub record Testable (t : Bool) (k n : ℕ) (list : List ℕ) (at : ℕ) : Type 0 where
  pub inside : at + body_in t k ≤ length list
  pub word : n ≤ 65535
  pub digits : k ≡ 6 → n % 256 ≤ 38

abbrev pub payload_length : ℕ → ℕ → List ℕ → ℕ → ℕ
payload_length w k list at = cond (eqb k 9) (range_at w list at).length 0

-- ---- what a column adds to the row's length

-- the payload that a column's cell adds
abbrev pub payload_added : DataType → Cell → ℕ
payload_added t c = cond (is_varlen t) (length (bytes c)) 0

abbrev pub payload_answer : DataType → Result Cell → Result ℕ
payload_answer t (Ok c) = Ok (payload_added t c)
payload_answer t (Err e) = Err e

abbrev pub payload_in : ℕ → List ℕ → ℕ → List ℕ → ℕ → List ℕ → Result ℕ
payload_in i s at list from area =
    payload_answer (type_in (column_record_at s at))
    (cell_in i (type_in (column_record_at s at)) (value_in (valueRecordAt list from)) area)

-- no more than a text area has, of either sort
abbrev pub Short : Result ℕ → Type 0
Short (Ok n) = n ≤ 1048576
Short (Err e) = Unit {0}

-- ---- the stored form

-- the stored form of the value at a place
abbrev pub form_in : List ℕ → ℕ → List ℕ → ℕ → List ℕ → List ℕ
form_in s at list from area =
    stored_form (type_in (column_record_at s at)) (value_in (valueRecordAt list from))
    (text_of area (value_in (valueRecordAt list from)))

-- the bytes of a slot for values of kind k, declared with n
abbrev pub slot_size : ℕ → ℕ → ℕ
slot_size k n =
    cond (eqb k 6) ((n % 256 + 2) / 2)
    (cond (eqb k 8) n
    (cond (eqb k 9) 0
    (cond (eqb k 12) (bytes_for n)
    (body_length k))))

-- that of a value of kind k whose body stands at a place: other kinds than Numeric, Char, Varchar and Bit
abbrev pub body_stored : ℕ → List ℕ → ℕ → List ℕ
body_stored k list at =
    cond (eqb k 1) (to_le 2 (of_z w16 (to_z w16 (number_at 2 list at))))
    (cond (eqb k 2) (to_le 4 (of_z w32 (to_z w32 (number_at 4 list at))))
    (cond (eqb k 3) (to_le 8 (of_z w64 (to_z w64 (number_at 8 list at))))
    (cond (eqb k 4) (to_le 4 (number_at 4 list at))
    (cond (eqb k 5) (to_le 8 (number_at 8 list at))
    (cond (eqb k 7) (get_or list at 0 ∷ [])
    (cond (eqb k 10) (to_le 4 (of_z w32 (to_z w32 (number_at 4 list at))))
    (cond (eqb k 11) (to_le 8 (of_z w64 (to_z w64 (number_at 8 list at))))
    (cond (eqb k 13) (to_le 8 (of_z w64 (to_z w64 (number_at 8 list at))))
    []))))))))

abbrev pub blank_filled : ℕ → List ℕ → List ℕ
blank_filled n x = x ++ replicate (n - length x) 0x20

abbrev pub number_stored : ℕ → NumericValue → List ℕ
number_stored p x = encode_bcd p (is_negative x.high) (magnitude x.high x.low)

abbrev pub bits_stored : ℕ → List ℕ → List ℕ
bits_stored n x = pack_bits n (unpack_bits n x)

-- that of any value but a Varchar
abbrev pub slot_stored : ℕ → ℕ → ℕ → List ℕ → ℕ → List ℕ → List ℕ
slot_stored w k n list at area =
    cond (eqb k 6) (number_stored (n % 256) (numeric_at list at))
    (cond (eqb k 8) (blank_filled n (part area (range_at w list at)))
    (cond (eqb k 12) (bits_stored n (part area (range_at w list at)))
    (body_stored k list at)))

-- a value that is stored in a slot, of n bytes
pub record SlotReady (t : DataType) (v : DataValue) (area : List ℕ) (slot n : ℕ) : Type 0 where
  pub fixed : is_varlen t ≡ false
  pub digits : precision_of t ≤ 38
  pub match : matches t v ≡ true
  pub suited : holds t v area ≡ true
  pub room : slot + size_of t ≤ n

-- a number of at most p digits whose packed form is stored in n bytes
pub record NumberReady (p : ℕ) (x : NumericValue) (slot n : ℕ) : Type 0 where
  pub few : p ≤ 38
  pub below : magnitude x.high x.low < 10 ^ p
  pub room : slot + (p + 2) / 2 ≤ n

-- ---- its code points

-- a range of the area that is text
pub record TextThere (r : TextRange) (area : List ℕ) : Type 0 where
  pub inside : r.start + r.length ≤ length area
  pub valid : is_text (part area r) ≡ true

-- a value that its column holds
pub record Suited (t : DataType) (v : DataValue) (area : List ℕ) : Type 0 where
  pub match : matches t v ≡ true
  pub suited : holds t v area ≡ true

-- those of the value at a place, as stored
abbrev pub points_stored : List ℕ → ℕ → List ℕ → ℕ → List ℕ → ℕ
points_stored s at list from area =
    cond (is_null (value_in (valueRecordAt list from))) 0
    (stored_points (type_in (column_record_at s at)) (some (form_in s at list from area)))
