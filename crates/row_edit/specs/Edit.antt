-- 01, "What each call hands back": Set: "1, 2, 14 (row length), 15, 9, 10 (exactly one record), 11, 12, 13, 14. Set
-- null: 1, 2, 14, 15, 9." The row is the first n bytes of the lent buffer, of sort k; 02, request 5: "On a read or edit
-- the row's own mark tells the sort, and a row under four bytes or past its buffer counts as short." FORMAT 8.4, 8.5.
use Rattle.std.specs.Prelude.{ℕ, Bool, cond, List, map, leb, ltb, length, get_or, take, Err, None, Ok, Option, Some}
use Rattle.std.proofs.Math.Option.{none, some}
use Rattle.std.proofs.lemmas.List.Edits.{sets}
use Rattle.error.specs.declared.Refusal.TheVariants.{NoSuchColumn, NoRoom, NotSound}
use Rattle.error.specs.Answer.{Outcome, unchanged}
use Rattle.error.specs.Result.{Result, on_result}
use Rattle.row_format.specs.Places.{offset_width}
use Rattle.row_format.specs.Table.{Cell}
use Rattle.row_format.specs.Header.{sort_in}
use Rattle.row_format.specs.Edit.{edited_row}
use Rattle.datatype.specs.declared.DataType.{DataType}
use Rattle.datatype.specs.Types.{shape_of}
use Rattle.datatype.specs.Schema.{schema_of}
use Rattle.datatype.specs.Check.{type_at}
use Rattle.value.specs.declared.DataValue.TheVariants.{Null}
use Rattle.value_list.specs.Lists.{checked}
use Rattle.record_slot.specs.Stored.{stored_in}
use Rattle.row_build.specs.Build.{row_placed}
use Rattle.row_column.specs.Frame.{on_frame}
use Rattle.row_sound.specs.Sound.{soundness}

-- 15: "row to be edited is not sound"
abbrev pub on_sound : {A : Type 0} → Option Bool → A → (Bool → A) → A
on_sound (Some p) bad f = f p
on_sound None bad f = bad

-- 14: "stated row length beyond the buffer"; 15; 9: whether the row in the first n bytes is packed, or why its column
-- i is not edited
abbrev pub opening : Bool → List DataType → List ℕ → ℕ → ℕ → Result Bool
opening k ts buf n i =
    cond (ltb (length buf) n) (Err NoRoom)
    (on_sound (soundness k ts (take n buf)) (Err NotSound)
    (λ p. cond (leb (length ts) i) (Err NoSuchColumn) (Ok p)))

-- behind 1, 2 and these
abbrev pub opened : Bool → List ℕ → List ℕ → ℕ → ℕ → (List DataType → Bool → Outcome) → Outcome
opened k schema buf n i f =
    on_result (schema_of k schema) (unchanged buf)
    (λ ts. on_frame (opening k ts buf n i) (unchanged buf) (f ts))

-- the row with column i changed
abbrev pub edited : ℕ → List DataType → Bool → List ℕ → ℕ → ℕ → Cell → List ℕ
edited w ts p buf n i c = edited_row w p (map shape_of ts) i c (take n buf)

-- in the place of the old one: "After an edit, bytes past the new end are as before."
abbrev pub row_stored : List ℕ → List ℕ → Outcome
row_stored buf r = (Ok (length r), sets buf 0 r)

-- 10, 11, 12: the stored form of the one value
abbrev pub given : Bool → DataType → ℕ → List ℕ → List ℕ → Result (List ℕ)
given k t i list area =
    on_result (checked k 1 (length area) list) Err (λ vs. stored_in i t (get_or vs 0 Null) area)

-- 13 and 14 for the row that is longer
abbrev pub written : Bool → List DataType → Bool → List ℕ → ℕ → ℕ → Result (List ℕ) → Outcome
written k ts p buf n i form =
    on_result form (unchanged buf) (λ b. row_placed k buf (edited (offset_width k) ts p buf n i (some b)))

-- the sort is looked at before the schema: 2, 10 and 13 go by it
abbrev pub set_call : List ℕ → List ℕ → ℕ → ℕ → List ℕ → List ℕ → Outcome
set_call schema buf n i list area =
    opened (sort_in buf n) schema buf n i
    (λ ts p. written (sort_in buf n) ts p buf n i (given (sort_in buf n) (type_at ts i) i list area))

-- a null takes no room
abbrev pub set_null_call : List ℕ → List ℕ → ℕ → ℕ → Outcome
set_null_call schema buf n i =
    opened (sort_in buf n) schema buf n i
    (λ ts p. row_stored buf (edited (offset_width (sort_in buf n)) ts p buf n i none))
