-- The exported calls as rook_row's contracts state them, each as one list of numbers: number, place and what is handed
-- out, then every lent byte and number after the call. And bytes as 01 writes them.
use Rattle.std.specs.Prelude.{ℕ, ◌+◌, ◌*◌, ◌-◌, Bool, cond, List, [], ◌∷◌, ◌++◌, ltb, replicate}
use Prim.Native.Char.{code}
use Prim.Native.String.{String, [] as end, ◌∷◌ as ◌then◌}
use Rattle.null_bitmap.specs.Bitmap.{null_flag}
use Rattle.row_build.specs.Build.{fresh_call, build_call}
use Rattle.row_decode.specs.Read.{read_call}
use Rattle.row_text.specs.Text.{text_call, text_part}
use Rattle.row_same.specs.Rows.{same_call}
use Rattle.row_edit.specs.Edit.{set_call, set_null_call}
use Rattle.row_handle.specs.declared.RowHandle.{RowHandle}
use Rattle.row_handle.specs.Handle.{handle_set, handle_set_null}
use Rattle.occupation_list.specs.Print.{print_call}
use Rattle.rook_row.specs.declared.RowAnswer.{RowAnswer}
use Rattle.rook_row.specs.declared.FlagAnswer.{FlagAnswer}
use Rattle.rook_row.specs.declared.TextAnswer.{TextAnswer}
use Rattle.rook_row.specs.Answers.{row_outcome, counted_outcome, handle_outcome, flag_answer, text_answer}
use Rattle.worked.specs.Cases.{Case}

infix 3 ◌gives◌
-- what is computed, and what is stated
abbrev pub ◌gives◌ : List ℕ → List ℕ → Case
◌gives◌ x y = record { computed = x; stated = y }

-- ---- bytes

-- of the character of a hexadecimal digit
abbrev pub digit : ℕ → ℕ
digit c = cond (ltb c 58) (c - 48) (c - 55)

-- two digits a byte, a space between
abbrev pub hex : String → List ℕ
hex end = []
hex (a then end) = []
hex (a then (b then end)) = (16 * digit (code a) + digit (code b)) ∷ []
hex (a then (b then (c then s))) = (16 * digit (code a) + digit (code b)) ∷ hex s

abbrev pub ascii : String → List ℕ
ascii end = []
ascii (c then s) = code c ∷ ascii s

abbrev pub zeros : ℕ → List ℕ
zeros n = replicate n 0

-- lent bytes before a call
abbrev pub lent : ℕ → List ℕ
lent n = replicate n 0xEE

-- "S is Int, Varchar(5), SmallInt", and row 2, of 1, "AB", null
abbrev pub S : List ℕ
S = hex "02 0B 05 00 01"

abbrev pub row2 : List ℕ
row2 = hex "03 00 01 80 04 0D 00 01 00 00 00 00 00 41 42"

-- three Varchars of at most 5 bytes, and a row of "A", null, "B"
abbrev pub varchars : List ℕ
varchars = hex "0B 05 00 0B 05 00 0B 05 00"

abbrev pub varchars_row : List ℕ
varchars_row = hex "03 00 03 80 02 0B 00 00 00 0C 00 41 42"

abbrev pub ABCDEF : List ℕ
ABCDEF = hex "41 42 43 44 45 46"

-- ---- calls

-- a refusal of a call that hands out one number, which is 0 then, with nothing lent to be written
abbrev pub refused : ℕ → ℕ → List ℕ
refused number place = number ∷ place ∷ 0 ∷ []

abbrev pub row_told : RowAnswer → List ℕ
row_told a = a.number ∷ a.place ∷ a.length ∷ []

abbrev pub flag_told : FlagAnswer → List ℕ
flag_told a = a.number ∷ a.place ∷ a.flag ∷ []

abbrev pub text_told : TextAnswer → List ℕ
text_told a = a.number ∷ a.place ∷ a.start ∷ a.length ∷ []

abbrev pub handle_told : RowHandle → List ℕ
handle_told h =
    h.length ∷ h.layout.num_columns ∷ h.layout.num_varlen_cols ∷ h.layout.fixed_size ∷ h.layout.packed
    ∷ h.layout.is_long ∷ []

abbrev pub fresh : Bool → List ℕ → List ℕ → List ℕ
fresh sort schema out = let o = row_outcome 0 (fresh_call sort schema out) in row_told o.0 ++ o.1

abbrev pub build : Bool → List ℕ → List ℕ → List ℕ → List ℕ → List ℕ → List ℕ
build sort schema values area out counts =
    let o = counted_outcome 0 (build_call sort schema values area out counts) in
    row_told o.0 ++ (o.1.0 ++ o.1.1)

abbrev pub read : List ℕ → List ℕ → List ℕ → List ℕ → List ℕ → List ℕ
read schema row wanted out counts =
    let o = counted_outcome 0 (read_call schema row wanted out counts) in
    row_told o.0 ++ (o.1.0 ++ o.1.1)

abbrev pub set : List ℕ → List ℕ → ℕ → ℕ → List ℕ → List ℕ → List ℕ
set schema buf n column values area =
    let o = row_outcome n (set_call schema buf n column values area) in row_told o.0 ++ o.1

abbrev pub set_null : List ℕ → List ℕ → ℕ → ℕ → List ℕ
set_null schema buf n column = let o = row_outcome n (set_null_call schema buf n column) in row_told o.0 ++ o.1

-- over a handle, which is told last
abbrev pub set_by : RowHandle → List ℕ → List ℕ → ℕ → List ℕ → List ℕ → List ℕ
set_by h schema buf column values area =
    let o = handle_outcome h.length (handle_set schema buf h column values area) in
    row_told o.0 ++ (o.1.0 ++ handle_told o.1.1)

abbrev pub set_null_by : RowHandle → List ℕ → List ℕ → ℕ → List ℕ
set_null_by h schema buf column =
    let o = handle_outcome h.length (handle_set_null schema buf h column) in
    row_told o.0 ++ (o.1.0 ++ handle_told o.1.1)

-- with the bytes of the part that is handed out
abbrev pub text_of : List ℕ → List ℕ → ℕ → List ℕ
text_of schema row column = let t = text_call schema row column in text_told (text_answer t) ++ text_part row t

abbrev pub same : List ℕ → List ℕ → List ℕ → List ℕ
same schema a b = flag_told (flag_answer (same_call schema a b))

abbrev pub is_null : List ℕ → ℕ → List ℕ
is_null row column = flag_told (flag_answer (null_flag row column))

abbrev pub print : List ℕ → List ℕ → List ℕ
print list out = let o = row_outcome 0 (print_call list out) in row_told o.0 ++ o.1
