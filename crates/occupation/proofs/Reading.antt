-- A text read from its range, and a moment from its slot.
use Rattle.std.specs.Prelude.{Option as Found, Err, None, Ok, Some}
use Prim.Native.Nat.{ℕ, ◌+◌, ◌-◌, ◌≤◌, ◌<◌}
use mathlib.Core.Path.{◌≡◌, refl, sym, ap, ◌∙◌}
use mathlib.Core.Bool.{Bool, true, false, cond}
use mathlib.Core.List.{List}
use mathlib.Core.Option.{Option, none, some}
use native.Mathlib.Omega.{arith}
use lib.Dec.{eqb}
use lib.ListN.{length, take, drop, length-drop}
use lib.Seq.{length-take-le}
use Rattle.error.specs.declared.Refusal.TheVariants.{BadRange, NoValue}
use Rattle.error.specs.Result.{Result}
use Rattle.laws.specs.Bits.{bit_at}
use Rattle.row_format.specs.Places.{offset_width, bitmap_start}
use Rattle.laws.specs.Bytes.{from_le}
use Rattle.row_layout.specs.declared.VarlenRange.{VarlenRange}
use Rattle.row_layout.specs.declared.VarlenRange.TheVariants.{Null, Bytes, Outside}
use Rattle.row_layout.specs.Range.{varlen_range}
use Rattle.row_layout.specs.InnerRange.{Inside}
use Rattle.datatype.specs.declared.DataType.TheVariants.{Varchar}
use Rattle.text.specs.Rfc3629.{is_text}
use Rattle.text_limit.proofs.Limits.{few_bytes, many-bytes}
use Rattle.value.specs.declared.DataValue.TheVariants as D
use Rattle.row_column.specs.Column.{slot_value, varlen_value}
use Rattle.stored_form.specs.Read.{value_if}
use Rattle.temporal.specs.Ranges.{is_timestamp}
use Rattle.calendar.specs.Moment.{since_year_one}
use Rattle.calendar.specs.InnerMoment.{moment_of}
use lib.IntN.{ℤ}
use mir.Syntax.{w64}
use mir.Val.{to_z}
use Rattle.occupation.specs.InnerFields.{TextIn}
use Rattle.occupation.specs.InnerRead.{text_range_in, text_of_read, text_column, text_shown, moment_of_read, moment_column}

-- ---- a text

pub by_range : (k : Bool) (n i : ℕ) (r : List ℕ) → text_column k n i r ≡ text_of_read r (varlen_value (Varchar false n) i r (text_range_in k r i))
by_range k n i r = go (eqb (bit_at i (drop bitmap_start r)) 1) (varlen_range (offset_width k) 5 2 i r)
  where
    go : (t : Bool) (q : VarlenRange) → text_of_read r (cond t (Ok D.Null) (varlen_value (Varchar false n) i r q)) ≡ text_of_read r (varlen_value (Varchar false n) i r (cond t Null q))
    go true q = refl
    go false q = refl

module _ (k : Bool) (n i : ℕ) (r : List ℕ) where
  told : {q : VarlenRange} → q ≡ text_range_in k r i → text_of_read r (varlen_value (Varchar false n) i r q) ≡ text_column k n i r
  told e = ap (λ (q : VarlenRange). text_of_read r (varlen_value (Varchar false n) i r q)) e ∙ sym (by_range k n i r)

  pub text-null : Null ≡ text_range_in k r i → text_shown r (Ok None) ≡ text_column k n i r
  text-null e = told e

  pub text_outside : Outside ≡ text_range_in k r i → text_shown r (Err (BadRange i)) ≡ text_column k n i r
  text_outside e = told e

  module _ {a e : ℕ} (q : Bytes a e ≡ text_range_in k r i) (w : Inside r (Bytes a e)) where
    abbrev bs : List ℕ
    bs = take (e - a) (drop a r)

    size : length bs ≡ e - a
    size = let u = w.0 in let v = w.1 in length-take-le (e - a) (drop a r) (rw length-drop (omega arith))

    pub text-long : n < e - a → text_shown r (Err (NoValue i)) ≡ text_column k n i r
    text-long h = sym (rw (many-bytes n bs (rw size h))) ∙ told q

    pub text-good : e - a ≤ n → is_text bs ≡ true → text_shown r (Ok (Some (record { start = a; end = e }))) ≡ text_column k n i r
    text-good h t = sym (rw (few_bytes false n bs (rw size h), t, size)) ∙ told q

    pub text_bad : e - a ≤ n → is_text bs ≡ false → text_shown r (Err (NoValue i)) ≡ text_column k n i r
    text_bad h t = sym (rw (few_bytes false n bs (rw size h), t)) ∙ told q

    pub text_in_lem : e - a ≤ n → TextIn (length r) n (Some (record { start = a; end = e }))
    text_in_lem h = (w, (w.0, h))

-- ---- a moment

-- what the eight bytes of a Timestamp read as
abbrev pub moment_read : ℕ → Found ℕ → Result (Option ℕ)
moment_read i (Some m) = Ok (some m)
moment_read i None = Err (NoValue i)

module _ (i at : ℕ) (r : List ℕ) where
  pub moment_null : eqb (bit_at i (drop bitmap_start r)) 1 ≡ true → Ok none ≡ moment_column i at r
  moment_null e = rw e

  pub moment_told : eqb (bit_at i (drop bitmap_start r)) 1 ≡ false → moment_read i (moment_of (to_z w64 (from_le (take 8 (drop at r))))) ≡ moment_column i at r
  moment_told e = let n : at + 8 - at ≡ 8 = omega arith in rw (e, n) (go (to_z w64 (from_le (take 8 (drop at r)))) (is_timestamp (to_z w64 (from_le (take 8 (drop at r))))))
    where
      go : (z : ℤ) (t : Bool) → moment_read i (cond t (Some (since_year_one z)) None) ≡ moment_of_read (slot_value i (value_if t (D.Timestamp z)))
      go z true = refl
      go z false = refl
