-- What a column's bytes read as, wherever they stand in a row.
use Rattle.error.specs.Result.{Result}
use Rattle.std.specs.Prelude.{Err, None, Ok, Option, Some}
use Prim.Native.Nat.{ℕ, ◌<◌}
use mathlib.Core.Path.{◌≡◌, refl, sym, ap, ◌∙◌}
use mathlib.Core.Bool.{Bool, true, false, cond, false≢true}
use mathlib.Core.List.{List, [], append-nil}
use mathlib.Core.Option.{none, some}
use native.Mathlib.Omega.{arith}
use borrow.Author.Tests.{ne_eqb}
use lib.Dec.{eqb}
use lib.ListN.{length, take, drop}
use lib.Seq.{take_all}
use Rattle.text_limit.specs.Limit.{fits_text}
use Rattle.row_format.specs.Table.{Cell, bytes, offset}
use Rattle.row_format.specs.Row.{null_bit}
use Rattle.datatype.specs.declared.DataType.{DataType}
use Rattle.datatype.specs.declared.DataType.TheVariants as T
use Rattle.datatype.specs.Types.{is_varlen}
use Rattle.value.specs.declared.DataValue.{DataValue}
use Rattle.value.specs.declared.DataValue.TheVariants as D
use Rattle.value.specs.Ranges.{part, text_of}
use Rattle.stored_form.specs.Write.{stored_form}
use Rattle.stored_form.specs.Read.{value_if, whole, read_slot}
use Rattle.stored_form.specs.ReadBack.{read_back, has_text}
use Rattle.stored_form.proofs.Lengths.{accepted-suits}
use Rattle.stored_form.proofs.Anywhere.{Twins, alike, char, varchar, bit, Both, both}
use Rattle.stored_form.proofs.ReadBack.{read-stored, text-stored}
use Rattle.row_column.specs.Column.{slot_value}
use Rattle.row_sound.specs.Sound.{reads, zero_if_null}
use Rattle.row_sound.specs.Written.{Writes, null, form}
use Rattle.row_sound.specs.Reread.{Content, content, null_content, written_content}
use Rattle.row_sound.specs.Laid.{held_content, held_value, is_form, sound_cell, sound_slot, is_value}

-- ---- bytes that are a value, wherever they stand

reads-slot : (i : ℕ) (s : Option DataValue) → reads (slot_value i s) ≡ is_value s
reads-slot i (Some v) = refl
reads-slot i None = refl

pub reads-content : (r : List ℕ) (c : Result DataValue) → reads (content r c).0 ≡ reads c
reads-content r (Ok v) = refl
reads-content r (Err e) = refl

cond_itself : (x : Bool) → cond x true false ≡ x
cond_itself true = refl
cond_itself false = refl

-- the same wherever they stand, but for the start of a text's range
module _ (i at : ℕ) (r bs : List ℕ) (stand : take (length bs) (drop at r) ≡ bs) where
  with_text : (v : DataValue) → ◌≡◌ {A = Content} (Ok v, take (length bs) (drop at r)) (Ok v, take (length bs) bs)
  with_text v = ap (λ (x : List ℕ). (Ok v, x)) (stand ∙ sym (take_all (length bs) bs (omega arith)))

  content_twins : {v w : DataValue} → Twins at 0 bs v w → content r (Ok v) ≡ content bs (Ok w)
  content_twins {v} (alike e) = ap (λ (x : List ℕ). ((content r (Ok v)).0, x)) (ap (part r) e ∙ ap (part bs) (sym e))
  content_twins char = with_text (D.Char (whole 0 bs))
  content_twins varchar = with_text (D.Varchar (whole 0 bs))
  content_twins bit = with_text (D.Bit (whole 0 bs))

  content_both : (x y : Option DataValue) → Both at 0 bs x y → content r (slot_value i x) ≡ content bs (slot_value i y)
  content_both (Some v) (Some w) h = content_twins h
  content_both (Some v) None h = absurd h
  content_both None (Some w) h = absurd h
  content_both None None h = refl

  content_anywhere : (t : DataType) → content r (slot_value i (read_slot t at bs)) ≡ content bs (slot_value i (read_slot t 0 bs))
  content_anywhere t = content_both (read_slot t at bs) (read_slot t 0 bs) (both at 0 bs t)

-- ---- a column that holds a cell, by whether its bit is set

pub content-held : (t : DataType) (i at : ℕ) (r : List ℕ) (marked : Bool) (c : Cell) → ((b : List ℕ) → c ≡ some b → take (length b) (drop at r) ≡ b) → content r (held_value t i marked at c) ≡ held_content t i marked c
content-held t i at r marked none h = refl
content-held t i at r true (some b) h = refl
content-held t i at r false (some b) h = content_anywhere i at r b (h b refl) t

reads_held : (t : DataType) (i : ℕ) (b : List ℕ) → reads (held_content t i false (some b)).0 ≡ is_form t b
reads_held t i b = reads-content b (slot_value i (read_slot t 0 b)) ∙ reads-slot i (read_slot t 0 b)

pub cell_sound : (t : DataType) (i at : ℕ) (marked : Bool) (c : Cell) → 0 < at → cond (reads (held_content t i marked c).0) (zero_if_null (offset c at) marked) false ≡ sound_cell t marked c
cell_sound t i at true none pos = refl
cell_sound t i at false none pos = refl
cell_sound t i at true (some b) pos = rw (ne_eqb at 0 (λ z. omega arith))
cell_sound t i at false (some b) pos = rw (ne_eqb at 0 (λ z. omega arith), reads_held t i b) (cond_itself (is_form t b))

pub slot-sound : (t : DataType) (i : ℕ) (marked : Bool) (slot : List ℕ) → cond (reads (held_content t i marked (some slot)).0) true false ≡ sound_slot t marked slot
slot-sound t i true slot = refl
slot-sound t i false slot = rw (reads_held t i slot) (cond_itself (is_form t slot))

pub null-held : (t : DataType) (i : ℕ) (c : Cell) → held_content t i true c ≡ null_content
null-held t i none = refl
null-held t i (some b) = refl

-- a stored form that is read back
stored-content : (t : DataType) (v : DataValue) (x b : List ℕ) → (has_text v ≡ true → text_of b (read_back t 0 v x) ≡ b) → content b (Ok (read_back t 0 v x)) ≡ (Ok (read_back t 0 v x), cond (has_text v) b [])
stored-content t D.Null x b h = refl
stored-content t (D.SmallInt z) x b h = refl
stored-content t (D.Int z) x b h = refl
stored-content t (D.BigInt z) x b h = refl
stored-content t (D.Real z) x b h = refl
stored-content t (D.DoublePrecision z) x b h = refl
stored-content t (D.Numeric n) x b h = refl
stored-content t (D.Bool z) x b h = refl
stored-content t (D.Char r) x b h = ap (λ (y : List ℕ). (Ok (read_back t 0 (D.Char r) x), y)) (h refl)
stored-content t (D.Varchar r) x b h = ap (λ (y : List ℕ). (Ok (read_back t 0 (D.Varchar r) x), y)) (h refl)
stored-content t (D.Date z) x b h = refl
stored-content t (D.Time z) x b h = refl
stored-content t (D.Bit r) x b h = ap (λ (y : List ℕ). (Ok (read_back t 0 (D.Bit r) x), y)) (h refl)
stored-content t (D.Timestamp z) x b h = refl

pub written-content : {t : DataType} {c : Cell} (i : ℕ) (w : Writes t c) → held_content t i (eqb (null_bit c) 1) c ≡ written_content w
written-content i null = refl
written-content {t} i (form v area m a z) =
    let x : List ℕ = text_of area v in
    let b : List ℕ = stored_form t v x in
    let s = accepted-suits t v area a in
    ap (λ (y : Option DataValue). content b (slot_value i y)) (read-stored t v x 0 m s z) ∙ stored-content t v x b (λ g. rw append-nil at (text-stored t v x [] [] 0 m s g refl))

-- the text of a Varchar is its payload
varchar-text : (t : DataType) (i : ℕ) (b : List ℕ) → is_varlen t ≡ true → is_form t b ≡ true → (held_content t i false (some b)).1 ≡ b
varchar-text T.SmallInt i b v f = absurd (false≢true v)
varchar-text T.Int i b v f = absurd (false≢true v)
varchar-text T.BigInt i b v f = absurd (false≢true v)
varchar-text T.Real i b v f = absurd (false≢true v)
varchar-text T.DoublePrecision i b v f = absurd (false≢true v)
varchar-text (T.Numeric p s) i b v f = absurd (false≢true v)
varchar-text (T.Decimal p s) i b v f = absurd (false≢true v)
varchar-text T.Bool i b v f = absurd (false≢true v)
varchar-text (T.Char n) i b v f = absurd (false≢true v)
varchar-text (T.Character n) i b v f = absurd (false≢true v)
varchar-text (T.Varchar p n) i b v f = by_test (fits_text p n b) f
  where
    by_test : (x : Bool) → is_value (value_if x (D.Varchar (whole 0 b))) ≡ true → (content b (slot_value i (value_if x (D.Varchar (whole 0 b))))).1 ≡ b
    by_test true g = take_all (length b) b (omega arith)
    by_test false g = absurd (false≢true g)
varchar-text T.Date i b v f = absurd (false≢true v)
varchar-text T.Time i b v f = absurd (false≢true v)
varchar-text (T.Bit n) i b v f = absurd (false≢true v)
varchar-text T.Timestamp i b v f = absurd (false≢true v)

pub sound-payload : (t : DataType) (i : ℕ) (marked : Bool) (c : Cell) → is_varlen t ≡ true → sound_cell t marked c ≡ true → (held_content t i marked c).1 ≡ bytes c
sound-payload t i marked none v s = refl
sound-payload t i true (some b) v s = absurd (false≢true s)
sound-payload t i false (some b) v s = varchar-text t i b v s
