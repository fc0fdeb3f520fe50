-- The code points of a column's value, as stored, by the bytes of both records.
use Prim.Native.Nat.{ℕ, ◌+◌, ◌-◌, ◌≤◌}
use mathlib.Core.Path.{◌≡◌, refl, sym, ap, ◌∙◌}
use mathlib.Core.Bool.{Bool, true, false, cond}
use mathlib.Core.List.{List}
use native.Mathlib.Omega.{arith}
use borrow.Author.Tests.{ne_eqb}
use lib.ListN.{length, get_or}
use Rattle.text.specs.Check.{points}
use Rattle.text.proofs.Points.{points-some, points-le, points_char}
use Rattle.datatype.specs.declared.DataType.{DataType}
use Rattle.datatype.specs.Types.{counts_points}
use Rattle.datatype.specs.Schema.{column_record_at}
use Rattle.datatype.specs.InnerSteps.{type_in}
use Rattle.value.specs.declared.TextRange.{TextRange}
use Rattle.value.specs.declared.DataValue.{DataValue}
use Rattle.value.specs.Kinds.{is_text_kind, plain_kind}
use Rattle.value.specs.Ranges.{part}
use Rattle.value_list.specs.Records.{range_at, range_width, record_at as valueRecordAt}
use Rattle.record_slot.specs.Stored.{is_null}
use Rattle.record_slot.specs.InnerSteps.{Readable, value_in, declared_at, text_suits, suits_at, form_in, blank_filled, TextThere, Suited, points_stored}
use Rattle.record_slot.proofs.Tests.{length_part}
use Rattle.record_slot.proofs.Forms.{text-within, text_there, is-value, kind-is, is-fixed, varchar-form, suits_as, form_as}

-- ---- a text of the area

pub few-points : (r : TextRange) (area : List ℕ) → TextThere r area → points (part area r) ≤ r.length
few-points r area h = omega (arith, points-le (part area r) (points-some (part area r) h.valid), length_part area r h.inside)

module _ (n : ℕ) (r : TextRange) (area : List ℕ) (e : text_suits false n r area ≡ true) where
  abbrev there : TextThere r area
  there = text_there false n r area e

  pub range-within : r.length ≤ n
  range-within = omega (arith, text-within false n r area e, length_part area r there.inside)

  -- with blanks up to n bytes, as they are counted
  pub filled_points : {x l : ℕ} → x ≡ points (part area r) → l ≡ r.length → x + (n - l) ≡ points (blank_filled n (part area r))
  filled_points {x} {l} f g =
      ap (λ (m : ℕ). m + (n - l)) f ∙ ap (λ (m : ℕ). points (part area r) + (n - m)) (g ∙ sym (length_part area r there.inside))
      ∙ sym (points_char (part area r) (n - length (part area r)) there.valid)

-- ---- the column's value at a place

module _ {s : List ℕ} {at : ℕ} {list : List ℕ} {from : ℕ} (r : Readable s at list from) where
  abbrev t : DataType
  t = type_in (column_record_at s at)

  abbrev v : DataValue
  v = value_in (valueRecordAt list from)

  abbrev k : ℕ
  k = plain_kind (get_or list from 0)

  abbrev w : ℕ
  w = range_width (get_or list from 0)

  module _ {area : List ℕ} (q : is_null v ≡ false → Suited t v area) where
    abbrev form : List ℕ
    form = form_in s at list from area

    by_kind : is_null v ≡ false → cond (is_text_kind k) (points form) 0 ≡ points_stored s at list from area
    by_kind z = rw z (ap (λ (j : ℕ). cond (is_text_kind j) (points form) 0) (kind-is r (q z).match))

    -- a kind of text
    module _ (j : ℕ) (e : k ≡ j) (h : 1 ≤ j) where
      some-value : is_null v ≡ false
      some-value = is-value r (λ z. let y = sym e ∙ z in omega (arith, h, y))

      pub text_ready : suits_at (counts_points t) w j (declared_at s at) list (from + 1) area ≡ true
      text_ready = suits_as r (q some-value) j e

      of_kind : is_text_kind j ≡ true → points form ≡ points_stored s at list from area
      of_kind y = ap (λ (b : Bool). cond b (points form) 0) (sym (ap is_text_kind e ∙ y)) ∙ by_kind some-value

    pub char_counted : k ≡ 8 → points (blank_filled (declared_at s at) (part area (range_at w list (from + 1)))) ≡ points_stored s at list from area
    char_counted e =
        let m = (q (some-value 8 e (omega arith))).match in
        ap points (form_as r m (is-fixed r m (λ z. let y = sym e ∙ z in omega (arith, y))) area 8 e) ∙ of_kind 8 e (omega arith) refl

    pub varchar-counted : k ≡ 9 → points (part area (range_at w list (from + 1))) ≡ points_stored s at list from area
    varchar-counted e = ap points (varchar-form r (q (some-value 9 e (omega arith))).match e area) ∙ of_kind 9 e (omega arith) refl

    pub none-counted : (k ≡ 8 → ⊥) → (k ≡ 9 → ⊥) → 0 ≡ points_stored s at list from area
    none-counted a b = by_null (is_null v) refl
      where
        by_null : (o : Bool) → is_null v ≡ o → 0 ≡ points_stored s at list from area
        by_null true z = rw z
        by_null false z =
            let y : false ≡ is_text_kind k = rw (ne_eqb k 8 a, ne_eqb k 9 b) in
            ap (λ (o : Bool). cond o (points form) 0) y ∙ by_kind z
