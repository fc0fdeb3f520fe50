-- The calls behind the tests of schema and row.
use Rattle.std.specs.Prelude.{Err, None, Ok, Option, Some}
use Prim.Native.Nat.{ℕ, ◌≤◌, ◌<◌}
use mathlib.Core.Path.{◌≡◌, refl, sym, ap, ◌∙◌, subst}
use mathlib.Core.Bool.{Bool, true, false, cond}
use mathlib.Core.List.{List, [], ◌∷◌}
use borrow.Author.Tests.{lt-ltb, le-ltb, le-leb, lt-leb, ltb-false, leb-false}
use lib.Dec.{leb, ltb}
use lib.ListN.{length, get_or, take}
use Rattle.error.specs.declared.Refusal.{Refusal}
use Rattle.error.specs.declared.Refusal.TheVariants.{NoSuchColumn, NoRoom, NotSound, WrongKind, Unsuitable}
use Rattle.error.specs.Result.{on_result, Result}
use Rattle.row_layout.specs.declared.RowLayout.{RowLayout}
use Rattle.datatype.specs.declared.DataType.{DataType}
use Rattle.datatype.specs.Check.{types_in}
use Rattle.datatype.specs.InnerCheck.{Accepted}
use Rattle.value.specs.declared.DataValue.{DataValue}
use Rattle.value.specs.declared.DataValue.TheVariants.{Null}
use Rattle.value.specs.Kinds.{matches}
use Rattle.value_list.specs.Lists.{Values, checked}
use Rattle.stored_form.specs.Write.{accepted}
use Rattle.record_slot.specs.Stored.{stored_in}
use Rattle.row_patch.specs.InnerStores.{form_of}
use Rattle.row_column.specs.Frame.{on_frame}
use Rattle.row_sound.specs.Sound.{soundness}
use Rattle.row_sound.proofs.Rows.{told-row}
use Rattle.row_edit.specs.Edit.{on_sound, opening, given}
use Rattle.row_edit.specs.InnerOpened.{Opened}

-- a call behind the opening of its row
module _ {f : Result Bool} {A : Type 0} (bad : Refusal → A) (g : Bool → A) where
  pub opened-refused : {r : Refusal} → f ≡ Err r → bad r ≡ on_frame f bad g
  opened-refused e = sym (ap (λ (x : Result Bool). on_frame x bad g) e)

  pub opened-good : {p : Bool} → f ≡ Ok p → g p ≡ on_frame f bad g
  opened-good e = sym (ap (λ (x : Result Bool). on_frame x bad g) e)

abbrev IsGood : Result Bool → Type 0
IsGood (Ok p) = Unit {0}
IsGood (Err e) = ⊥

abbrev flag_in : Result Bool → Bool
flag_in (Ok p) = p
flag_in (Err e) = false

-- ---- each outcome of the tests

module _ (k : Bool) (ts : List DataType) (buf : List ℕ) (n i : ℕ) where
  pub open_short : length buf < n → Err NoRoom ≡ opening k ts buf n i
  open_short h = sym (rw (lt-ltb (length buf) n h))

  module _ (h : n ≤ length buf) where
    pub open_unsound : soundness k ts (take n buf) ≡ None → Err NotSound ≡ opening k ts buf n i
    open_unsound e = sym (rw (le-ltb (length buf) n h) (ap (λ (x : Option Bool). on_sound x (Err NotSound) (λ p. cond (leb (length ts) i) (Err NoSuchColumn) (Ok p))) e))

    module _ {p : Bool} (e : soundness k ts (take n buf) ≡ Some p) where
      on_column_lem : cond (leb (length ts) i) (Err NoSuchColumn) (Ok p) ≡ opening k ts buf n i
      on_column_lem = sym (rw (le-ltb (length buf) n h) (ap (λ (x : Option Bool). on_sound x (Err NotSound) (λ q. cond (leb (length ts) i) (Err NoSuchColumn) (Ok q))) e))

      pub open_none : length ts ≤ i → Err NoSuchColumn ≡ opening k ts buf n i
      open_none d = sym (ap (λ (y : Bool). cond y (Err NoSuchColumn) (Ok p)) (le-leb (length ts) i d)) ∙ on_column_lem

      pub open_good : i < length ts → Ok p ≡ opening k ts buf n i
      open_good d = sym (ap (λ (y : Bool). cond y (Err NoSuchColumn) (Ok p)) (lt-leb (length ts) i d)) ∙ on_column_lem

-- ---- the value

module _ (k : Bool) (t : DataType) (i : ℕ) (list area : List ℕ) where
  pub given-one : {v : DataValue} → checked k 1 (length area) list ≡ Ok (v ∷ []) → given k t i list area ≡ stored_in i t v area
  given-one e = ap (λ (q : Values). on_result q Err (λ vs. stored_in i t (get_or vs 0 Null) area)) e

  pub given-none : {r : Refusal} → checked k 1 (length area) list ≡ Err r → given k t i list area ≡ Err r
  given-none e = ap (λ (q : Values). on_result q Err (λ vs. stored_in i t (get_or vs 0 Null) area)) e

module _ (i : ℕ) (t : DataType) (v : DataValue) (area : List ℕ) where
  pub kind_bad : matches t v ≡ false → stored_in i t v area ≡ Err (WrongKind i)
  kind_bad e = rw e

  pub suit_bad : matches t v ≡ true → accepted t v area ≡ false → stored_in i t v area ≡ Err (Unsuitable i)
  suit_bad e f = rw (e, f)

  pub suit_good : matches t v ≡ true → accepted t v area ≡ true → stored_in i t v area ≡ Ok (form_of t v area)
  suit_good e f = rw (e, f)

-- a row that was opened
pub opened-row : {s : List ℕ} {l : RowLayout} {buf : List ℕ} {n i : ℕ} {p : Bool} → Accepted s l → opening l.is_long (types_in s) buf n i ≡ Ok p → Opened s l p buf n i
opened-row {s} {l} {buf} {n} {i} {p} a f = by_length (ltb (length buf) n) refl f
  where
    by_column : (q y : Bool) → n ≤ length buf → soundness l.is_long (types_in s) (take n buf) ≡ Some q → leb (length (types_in s)) i ≡ y → cond y (Err NoSuchColumn) (Ok q) ≡ Ok p → Opened s l p buf n i
    by_column q true h t e g = absurd (subst IsGood (sym g) tt)
    by_column q false h t e g =
        subst (λ (x : Bool). Opened s l x buf n i) (ap flag_in g) (record { accepted = a; inside = h; row = told-row l.is_long (types_in s) (take n buf) t; column = leb-false (length (types_in s)) i e })

    by_sound : (x : Option Bool) → n ≤ length buf → soundness l.is_long (types_in s) (take n buf) ≡ x → on_sound x (Err NotSound) (λ q. cond (leb (length (types_in s)) i) (Err NoSuchColumn) (Ok q)) ≡ Ok p → Opened s l p buf n i
    by_sound (Some q) h t g = by_column q (leb (length (types_in s)) i) h t refl g
    by_sound None h t g = absurd (subst IsGood (sym g) tt)

    by_length : (y : Bool) → ltb (length buf) n ≡ y → cond y (Err NoRoom) (on_sound (soundness l.is_long (types_in s) (take n buf)) (Err NotSound) (λ q. cond (leb (length (types_in s)) i) (Err NoSuchColumn) (Ok q))) ≡ Ok p → Opened s l p buf n i
    by_length true e g = absurd (subst IsGood (sym g) tt)
    by_length false e g = by_sound (soundness l.is_long (types_in s) (take n buf)) (ltb-false (length buf) n e) refl g
