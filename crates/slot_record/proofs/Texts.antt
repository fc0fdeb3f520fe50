-- What the check of a text answers, and its record.
use Rattle.error.specs.Result.{Result}
use Rattle.std.specs.Prelude.{Err, Ok, Some}
use Prim.Native.Nat.{ℕ, ◌+◌, ◌≤◌}
use mathlib.Core.Path.{◌≡◌, refl, sym}
use mathlib.Core.Bool.{Bool, true, false, cond}
use mathlib.Core.List.{List}
use native.Mathlib.Omega.{arith}
use lib.ListN.{length}
use lib.Seq.{sets}
use Rattle.error.specs.declared.Refusal.TheVariants.{NoValue}
use Rattle.text.specs.Check.{points}
use Rattle.text_limit.specs.Limit.{fits_text}
use Rattle.text_limit.specs.InnerCheck.{check_within}
use Rattle.text_limit.proofs.Limits.{told_true, told-points, fits-valid, size-le}
use Rattle.value_list.specs.Records.{range_record}
use Rattle.value.specs.declared.DataValue.TheVariants as D
use Rattle.stored_form.specs.Read.{value_if, whole}
use Rattle.slot_record.specs.InnerRecord.{recorded}

module _ (p : Bool) (n : ℕ) (bs : List ℕ) {m : ℕ} (e : check_within p n bs ≡ Some m) where
  pub check_fits : fits_text p n bs ≡ true
  check_fits = sym (told_true (points bs) (fits_text p n bs) e)

  pub check_points : m ≡ points bs
  check_points = told-points (points bs) (fits_text p n bs) e

  pub check_le : m ≤ length bs
  check_le = let k = check_points in let l = size-le true bs (fits-valid p n bs check_fits) in omega arith

-- the record of a text, where t tells whether it fits
module _ (k : Bool) (bs : List ℕ) (out : List ℕ) (at i start n : ℕ) where
  abbrev Written : ℕ → Bool → Result (ℕ × ℕ) × List ℕ
  Written c t =
      let r : List ℕ = range_record k c (whole start bs) in
      cond t (Ok ((at + length r), n), sets out at r) (Err (NoValue i), out)

  pub char_text : (t : Bool) → Written 8 t ≡ recorded k out at i n (value_if t (D.Char (whole start bs)))
  char_text true = refl
  char_text false = refl

  pub varchar-text : (t : Bool) → Written 9 t ≡ recorded k out at i n (value_if t (D.Varchar (whole start bs)))
  varchar-text true = refl
  varchar-text false = refl
