-- Entries of the sheet that suit their columns: their cells, and what the builder makes of them as one value list with one text area.
use Rattle.std.specs.Prelude.{Ok}
use Prim.Native.Nat.{ℕ, zero, suc, ◌+◌, ◌≤◌, ◌<◌}
use mathlib.Core.Bool.{Bool, true, false, cond, false≢true}
use mathlib.Core.List.{List, [], ◌∷◌, ◌++◌, map, append_assoc}
use mathlib.Core.Option.{none, some}
use mathlib.Core.Path.{◌≡◌, refl, sym, ap, ◌∙◌}
use native.Mathlib.Nat.{le_refl}
use native.Mathlib.Omega.{arith}
use borrow.Author.Tests.{le-leb, eqb-true}
use lib.Dec.{leb}
use lib.ListN.{length, set, take, drop, replicate, length-append}
use Rattle.laws.specs.InnerForall.{Forall₂, nil, cons}
use Rattle.laws.proofs.Parts.{part_at}
use Rattle.bit_utils.specs.Bits.{bytes_for, unpack_bits}
use Rattle.bit_utils.proofs.Packing.{length-packed}
use Rattle.row_format.specs.declared.Shape.TheVariants.{Fixed, Varlen}
use Rattle.row_format.specs.Places.{fixed_size, offset_width, row_limit}
use Rattle.row_format.specs.Table.{Cell, bytes, payloads}
use Rattle.row_format.specs.Row.{varlen_cells}
use Rattle.row_format.proofs.Places.{packed-cons}
use Rattle.row_format.proofs.Sorts.{fits_limit}
use Rattle.row_format.proofs.Fresh.{null-fits}
use Rattle.row_format.proofs.Sizes.{cell_counted}
use Rattle.row_format.specs.InnerRow.{FitsCell}
use Rattle.datatype.specs.declared.DataType.{DataType}
use Rattle.datatype.specs.Types.{is_varlen, size_of, alignment_of, shape_of, length_of}
use Rattle.datatype.specs.Check.{type_at}
use Rattle.value.specs.declared.DataValue.{DataValue}
use Rattle.value.specs.declared.DataValue.TheVariants as D
use Rattle.value.specs.Kinds.{kind_of, matches}
use Rattle.value.specs.Ranges.{range_of, in_area, text_of, moved}
use Rattle.value_list.specs.Records.{NarrowRange, Sized}
use Rattle.value_list.specs.InnerRecords.{Narrow}
use Rattle.value_list.specs.InnerLists.{AllSized, AllNarrow}
use Rattle.stored_form.specs.Write.{suits, accepted, stored_form}
use Rattle.row_sound.specs.Written.{Writes, null, form}
use Rattle.stored_form.proofs.Lengths.{accepted-suits, length-stored}
use Rattle.record_slot.specs.Stored.{stored_in, is_null, cell_in}
use Rattle.row_build.specs.Cells.{cells_from}
use Rattle.history.specs.History.{Entry, texts, last_values, entry_cell, sheet_cells}

-- ---- a value with its text

-- a value without a range has no text
abbrev Spelt : DataValue → List ℕ → Type 0
Spelt D.Null x = x ≡ []
Spelt (D.SmallInt z) x = x ≡ []
Spelt (D.Int z) x = x ≡ []
Spelt (D.BigInt z) x = x ≡ []
Spelt (D.Real b) x = x ≡ []
Spelt (D.DoublePrecision b) x = x ≡ []
Spelt (D.Numeric n) x = x ≡ []
Spelt (D.Bool b) x = x ≡ []
Spelt (D.Char r) x = Unit {0}
Spelt (D.Varchar r) x = Unit {0}
Spelt (D.Date z) x = x ≡ []
Spelt (D.Time z) x = x ≡ []
Spelt (D.Bit r) x = Unit {0}
Spelt (D.Timestamp z) x = x ≡ []

spelt : (v : DataValue) (area : List ℕ) → Spelt v (text_of area v)
spelt D.Null area = refl
spelt (D.SmallInt z) area = refl
spelt (D.Int z) area = refl
spelt (D.BigInt z) area = refl
spelt (D.Real b) area = refl
spelt (D.DoublePrecision b) area = refl
spelt (D.Numeric n) area = refl
spelt (D.Bool b) area = refl
spelt (D.Char r) area = tt
spelt (D.Varchar r) area = tt
spelt (D.Date z) area = refl
spelt (D.Time z) area = refl
spelt (D.Bit r) area = tt
spelt (D.Timestamp z) area = refl

-- a text is no longer than what is stored of it
text-le : (t : DataType) (v : DataValue) (x : List ℕ) → suits t v x ≡ true → Spelt v x → length x ≤ length (stored_form t v x)
text-le t D.Null x e s = absurd (false≢true e)
text-le t (D.SmallInt z) x e s = rw s (omega arith)
text-le t (D.Int z) x e s = rw s (omega arith)
text-le t (D.BigInt z) x e s = rw s (omega arith)
text-le t (D.Real b) x e s = rw s (omega arith)
text-le t (D.DoublePrecision b) x e s = rw s (omega arith)
text-le t (D.Numeric n) x e s = rw s (omega arith)
text-le t (D.Bool b) x e s = rw s (omega arith)
text-le t (D.Char r) x e s = rw length-append (omega arith)
text-le t (D.Varchar r) x e s = le_refl (length x)
text-le t (D.Date z) x e s = rw s (omega arith)
text-le t (D.Time z) x e s = rw s (omega arith)
text-le t (D.Bit r) x e s = omega (arith, eqb-true (length x) (bytes_for (length_of t)) e, length-packed (bytes_for (length_of t)) (unpack_bits (length_of t) x))
text-le t (D.Timestamp z) x e s = rw s (omega arith)

-- ---- a value whose range is rewritten: only its range is another

record Moved (v : DataValue) (at n : ℕ) : Type 0 where
  pub kind : kind_of (moved at n v) ≡ kind_of v
  pub suit : (t : DataType) (x : List ℕ) → suits t (moved at n v) x ≡ suits t v x
  pub form : (t : DataType) (x : List ℕ) → stored_form t (moved at n v) x ≡ stored_form t v x
  pub seen : (t : DataType) (x : List ℕ) → suits t v x ≡ true → is_null (moved at n v) ≡ false

moving : (v : DataValue) (at n : ℕ) → Moved v at n
moving D.Null at n = record { kind = refl; suit = λ t x. refl; form = λ t x. refl; seen = λ t x e. absurd (false≢true e) }
moving (D.SmallInt z) at n = record { kind = refl; suit = λ t x. refl; form = λ t x. refl; seen = λ t x e. refl }
moving (D.Int z) at n = record { kind = refl; suit = λ t x. refl; form = λ t x. refl; seen = λ t x e. refl }
moving (D.BigInt z) at n = record { kind = refl; suit = λ t x. refl; form = λ t x. refl; seen = λ t x e. refl }
moving (D.Real b) at n = record { kind = refl; suit = λ t x. refl; form = λ t x. refl; seen = λ t x e. refl }
moving (D.DoublePrecision b) at n = record { kind = refl; suit = λ t x. refl; form = λ t x. refl; seen = λ t x e. refl }
moving (D.Numeric m) at n = record { kind = refl; suit = λ t x. refl; form = λ t x. refl; seen = λ t x e. refl }
moving (D.Bool b) at n = record { kind = refl; suit = λ t x. refl; form = λ t x. refl; seen = λ t x e. refl }
moving (D.Char r) at n = record { kind = refl; suit = λ t x. refl; form = λ t x. refl; seen = λ t x e. refl }
moving (D.Varchar r) at n = record { kind = refl; suit = λ t x. refl; form = λ t x. refl; seen = λ t x e. refl }
moving (D.Date z) at n = record { kind = refl; suit = λ t x. refl; form = λ t x. refl; seen = λ t x e. refl }
moving (D.Time z) at n = record { kind = refl; suit = λ t x. refl; form = λ t x. refl; seen = λ t x e. refl }
moving (D.Bit r) at n = record { kind = refl; suit = λ t x. refl; form = λ t x. refl; seen = λ t x e. refl }
moving (D.Timestamp z) at n = record { kind = refl; suit = λ t x. refl; form = λ t x. refl; seen = λ t x e. refl }

-- it fits a record, of a sort whose numbers hold its range
moved-sized : (v : DataValue) (at n : ℕ) → at + n ≤ 1048576 → Sized v → Sized (moved at n v)
moved-sized D.Null at n h f = tt
moved-sized (D.SmallInt z) at n h f = f
moved-sized (D.Int z) at n h f = f
moved-sized (D.BigInt z) at n h f = f
moved-sized (D.Real b) at n h f = f
moved-sized (D.DoublePrecision b) at n h f = f
moved-sized (D.Numeric m) at n h f = f
moved-sized (D.Bool b) at n h f = f
moved-sized (D.Char r) at n h f = record { start = omega arith; size = omega arith }
moved-sized (D.Varchar r) at n h f = record { start = omega arith; size = omega arith }
moved-sized (D.Date z) at n h f = f
moved-sized (D.Time z) at n h f = f
moved-sized (D.Bit r) at n h f = record { start = omega arith; size = omega arith }
moved-sized (D.Timestamp z) at n h f = f

moved_narrow : (sort : Bool) (v : DataValue) (at n : ℕ) → at + n ≤ row_limit sort → Narrow sort (moved at n v)
moved_narrow sort v at n h = narrow v
  where
    range : NarrowRange (offset_width sort) (record { start = at; length = n })
    range = record { start = fits_limit sort (omega arith); size = fits_limit sort (omega arith) }

    narrow : (u : DataValue) → Narrow sort (moved at n u)
    narrow D.Null = tt
    narrow (D.SmallInt z) = tt
    narrow (D.Int z) = tt
    narrow (D.BigInt z) = tt
    narrow (D.Real b) = tt
    narrow (D.DoublePrecision b) = tt
    narrow (D.Numeric m) = tt
    narrow (D.Bool b) = tt
    narrow (D.Char r) = range
    narrow (D.Varchar r) = range
    narrow (D.Date z) = tt
    narrow (D.Time z) = tt
    narrow (D.Bit r) = range
    narrow (D.Timestamp z) = tt

-- where its text stands in an area, that is its text
module _ (us x vs : List ℕ) (at : ℕ) (e : length us ≡ at) where
  abbrev area : List ℕ
  area = us ++ (x ++ vs)

  within : leb (at + length x) (length area) ≡ true
  within = le-leb (at + length x) (length area) (rw (length-append us (x ++ vs), length-append x vs) (omega arith))

  nothing : leb (0 + 0) (length area) ≡ true
  nothing = le-leb (0 + 0) (length area) (omega arith)

  there : take (length x) (drop at area) ≡ x
  there = part_at us x vs at e

  record Placed (v : DataValue) : Type 0 where
    pub inside : in_area (length area) (range_of (moved at (length x) v)) ≡ true
    pub text : text_of area (moved at (length x) v) ≡ x

  placing : (v : DataValue) → Spelt v x → Placed v
  placing D.Null s = record { inside = nothing; text = sym s }
  placing (D.SmallInt z) s = record { inside = nothing; text = sym s }
  placing (D.Int z) s = record { inside = nothing; text = sym s }
  placing (D.BigInt z) s = record { inside = nothing; text = sym s }
  placing (D.Real b) s = record { inside = nothing; text = sym s }
  placing (D.DoublePrecision b) s = record { inside = nothing; text = sym s }
  placing (D.Numeric m) s = record { inside = nothing; text = sym s }
  placing (D.Bool b) s = record { inside = nothing; text = sym s }
  placing (D.Char r) s = record { inside = within; text = there }
  placing (D.Varchar r) s = record { inside = within; text = there }
  placing (D.Date z) s = record { inside = nothing; text = sym s }
  placing (D.Time z) s = record { inside = nothing; text = sym s }
  placing (D.Bit r) s = record { inside = within; text = there }
  placing (D.Timestamp z) s = record { inside = nothing; text = sym s }

-- ---- entries

-- what was accepted for a column of type t: the value, with the bytes of its range in some text area
pub record Suitable (t : DataType) (v : DataValue) (x : List ℕ) : Type 0 where
  pub match : matches t v ≡ true
  pub area : List ℕ
  pub accept : accepted t v area ≡ true
  pub text : x ≡ text_of area v
  pub sized : Sized v

module _ {t : DataType} {v : DataValue} {x : List ℕ} (q : Suitable t v x) where
  suit_of : suits t v x ≡ true
  suit_of = rw q.text (accepted-suits t v q.area q.accept)

  spelt_of : Spelt v x
  spelt_of = rw q.text (spelt v q.area)

abbrev pub SuitsEntry : DataType → Entry → Type 0
SuitsEntry t none = Unit {0}
SuitsEntry t (some (v, x)) = Suitable t v x

pub blank_suits : (ts : List DataType) → Forall₂ SuitsEntry ts (replicate (length ts) none)
blank_suits [] = nil
blank_suits (t ∷ ts) = cons tt (blank_suits ts)

pub set-suits : {ts : List DataType} {es : List Entry} (i : ℕ) (e : Entry) → Forall₂ SuitsEntry ts es → i < length ts → SuitsEntry (type_at ts i) e → Forall₂ SuitsEntry ts (set es i e)
set-suits i e nil h q = nil
set-suits zero e (cons r f) h q = cons q f
set-suits (suc i) e (cons r f) h q = cons r (set-suits i e f (omega arith) q)

-- ---- their cells

pub blank_cells : (ts : List DataType) → sheet_cells ts (replicate (length ts) none) ≡ replicate (length ts) none
blank_cells [] = refl
blank_cells (t ∷ ts) = ap (λ (l : List Cell). none ∷ l) (blank_cells ts)

pub set-cells : {ts : List DataType} {es : List Entry} (i : ℕ) (e : Entry) → Forall₂ SuitsEntry ts es → sheet_cells ts (set es i e) ≡ set (sheet_cells ts es) i (entry_cell (type_at ts i) e)
set-cells i e nil = refl
set-cells zero e (cons r f) = refl
set-cells (suc i) e (cons {a = t} {b = d} r f) = ap (λ (l : List Cell). entry_cell t d ∷ l) (set-cells i e f)

shape_fits : (t : DataType) (q : Bool) (z : ℕ) (b : List ℕ) → (q ≡ false → length b ≡ z) → FitsCell (cond q Varlen (Fixed z (alignment_of t))) (some b)
shape_fits t true z b h = tt
shape_fits t false z b h = h refl

pub entry_fits : (t : DataType) (e : Entry) → SuitsEntry t e → FitsCell (shape_of t) (entry_cell t e)
entry_fits t none q = null-fits (shape_of t)
entry_fits t (some (v, x)) q = shape_fits t (is_varlen t) (size_of t) (stored_form t v x) (λ f. length-stored t v x q.match (suit_of q) ∙ rw f)

pub cells_suit : {ts : List DataType} {es : List Entry} → Forall₂ SuitsEntry ts es → Forall₂ FitsCell (map shape_of ts) (sheet_cells ts es)
cells_suit nil = nil
cells_suit (cons {a = t} {b = e} q f) = cons (entry_fits t e q) (cells_suit f)

entry_writes : (t : DataType) (e : Entry) → SuitsEntry t e → Writes t (entry_cell t e)
entry_writes t none q = null
entry_writes t (some (v, x)) q = rw q.text (form v q.area q.match q.accept q.sized)

pub cells-written : {ts : List DataType} {es : List Entry} → Forall₂ SuitsEntry ts es → Forall₂ Writes ts (sheet_cells ts es)
cells-written nil = nil
cells-written (cons {a = t} {b = e} q f) = cons (entry_writes t e q) (cells-written f)

-- ---- the texts are no longer than the row's slots and payloads

abbrev text_in : Entry → List ℕ
text_in none = []
text_in (some (v, x)) = x

text_in-le : (t : DataType) (e : Entry) → SuitsEntry t e → length (text_in e) ≤ length (bytes (entry_cell t e))
text_in-le t none q = le_refl 0
text_in-le t (some (v, x)) q = text-le t v x (suit_of q) (spelt_of q)

texts-cons : (e : Entry) (es : List Entry) → texts (e ∷ es) ≡ text_in e ++ texts es
texts-cons none es = refl
texts-cons (some (v, x)) es = refl

pub texts-le : {ts : List DataType} {es : List Entry} → Forall₂ SuitsEntry ts es → length (texts es) ≤ fixed_size true (map shape_of ts) + length (payloads (varlen_cells (map shape_of ts) (sheet_cells ts es)))
texts-le nil = omega arith
texts-le (cons {a = t} {b = e} {xs = ts} {ys = es} q f) =
    rw (texts-cons e es, length-append (text_in e) (texts es), packed-cons (shape_of t) (map shape_of ts))
    (omega (arith, texts-le f, text_in-le t e q, cell_counted (shape_of t) (entry_cell t e) (map shape_of ts) (sheet_cells ts es) (entry_fits t e q)))

-- ---- the last accepted values fit records, and there is one for each column

pub length-values : {ts : List DataType} {es : List Entry} → Forall₂ SuitsEntry ts es → (at : ℕ) → length (last_values at es) ≡ length ts
length-values nil at = refl
length-values (cons {b = none} q f) at = ap suc (length-values f at)
length-values (cons {b = some (v, x)} q f) at = ap suc (length-values f (at + length x))

pub values-sized : {ts : List DataType} {es : List Entry} → Forall₂ SuitsEntry ts es → (at : ℕ) → at + length (texts es) ≤ 1048576 → AllSized (last_values at es)
values-sized nil at h = tt
values-sized (cons {b = none} q f) at h = (tt, values-sized f at h)
values-sized (cons {b = some (v, x)} {ys = es} q f) at h =
    let l = length-append x (texts es) in
    (moved-sized v at (length x) (omega arith) q.sized, values-sized f (at + length x) (omega arith))

pub values_narrow : (sort : Bool) {ts : List DataType} {es : List Entry} → Forall₂ SuitsEntry ts es → (at : ℕ) → at + length (texts es) ≤ row_limit sort → AllNarrow sort (last_values at es)
values_narrow sort nil at h = tt
values_narrow sort (cons {b = none} q f) at h = (tt, values_narrow sort f at h)
values_narrow sort (cons {b = some (v, x)} {ys = es} q f) at h =
    let l = length-append x (texts es) in
    (moved_narrow sort v at (length x) (omega arith), values_narrow sort f (at + length x) (omega arith))

-- ---- and they are stored as the sheet's cells

stored_in_lem : (i : ℕ) (t : DataType) (v : DataValue) (area b : List ℕ) → matches t v ≡ true → in_area (length area) (range_of v) ≡ true → suits t v (text_of area v) ≡ true → stored_form t v (text_of area v) ≡ b
    → stored_in i t v area ≡ Ok b
stored_in_lem i t v area b m h s e = rw (m, h, s, e)

cell_in_lem : (i : ℕ) (t : DataType) (v : DataValue) (area b : List ℕ) → is_null v ≡ false → stored_in i t v area ≡ Ok b → cell_in i t v area ≡ Ok (some b)
cell_in_lem i t v area b n e = rw (n, e)

entry_in : (i : ℕ) (t : DataType) (v : DataValue) (us x vs : List ℕ) (at : ℕ) → length us ≡ at → Suitable t v x → cell_in i t (moved at (length x) v) (us ++ (x ++ vs)) ≡ Ok (some (stored_form t v x))
entry_in i t v us x vs at e q =
    let m = moving v at (length x) in
    let p = placing us x vs at e v (spelt_of q) in
    cell_in_lem i t (moved at (length x) v) (us ++ (x ++ vs)) (stored_form t v x) (m.seen t x (suit_of q))
    (stored_in_lem i t (moved at (length x) v) (us ++ (x ++ vs)) (stored_form t v x) (rw m.kind q.match) p.inside (rw (p.text, m.suit t x) (suit_of q)) (rw (p.text, m.form t x)))

cells_in : {ts : List DataType} {es : List Entry} → Forall₂ SuitsEntry ts es → (i : ℕ) (us : List ℕ) (at : ℕ) → length us ≡ at → cells_from i ts (last_values at es) (us ++ texts es) ≡ Ok (sheet_cells ts es)
cells_in nil i us at e = refl
cells_in (cons {b = none} q f) i us at e = rw (cells_in f (i + 1) us at e)
cells_in (cons {a = t} {b = some (v, x)} {xs = ts} {ys = es} q f) i us at e =
    let here = entry_in i t v us x (texts es) at e q in
    let next : length (us ++ x) ≡ at + length x = length-append us x ∙ ap (λ (m : ℕ). m + length x) e in
    let rest : cells_from (i + 1) ts (last_values (at + length x) es) (us ++ (x ++ texts es)) ≡ Ok (sheet_cells ts es)
    = ap (λ (l : List ℕ). cells_from (i + 1) ts (last_values (at + length x) es) l) (sym (append_assoc us x (texts es))) ∙ cells_in f (i + 1) (us ++ x) (at + length x) next in
    rw (here, rest)

pub cells-read : {ts : List DataType} {es : List Entry} → Forall₂ SuitsEntry ts es → cells_from 0 ts (last_values 0 es) (texts es) ≡ Ok (sheet_cells ts es)
cells-read f = cells_in f 0 [] 0 refl
