-- FORMAT 10.2. What is known of an occupation that was read and not refused.
use Rattle.std.specs.Prelude.{ℕ, ◌≤◌, ◌<◌, ◌≡◌, true, false, List, length, Ok}
use Rattle.std.proofs.Math.Option.{Option, none, some}
use Rattle.text.specs.Rfc3629.{is_text}
use Rattle.occupation.specs.Occupation.{Occupation, has_unprintable, occupation_in}

-- P holds of what is not null
abbrev pub IfSome : {A : Type 0} → (A → Type 0) → Option A → Type 0
IfSome P none = Unit {0}
IfSome P (some x) = P x

-- text of at most n bytes; a moment of the years 1 to 9999
abbrev pub NullOrText : ℕ → Option (List ℕ) → Type 0
NullOrText n t = IfSome (λ s. (length s ≤ n) × (is_text s ≡ true)) t

abbrev pub NullOrInYears : Option ℕ → Type 0
NullOrInYears m = IfSome (λ u. u < 315537897600000000) m

pub record InLimits (o : Occupation) : Type 0 where
  pub platform_in : NullOrText 16 o.platform
  pub unit_in : NullOrText 64 o.unit
  pub arrival_in : NullOrInYears o.arrival
  pub departure_in : NullOrInYears o.departure

pub record Printable (o : Occupation) : Type 0 where
  pub sized : InLimits o
  pub platform_clean : has_unprintable o.platform ≡ false
  pub unit_clean : has_unprintable o.unit ≡ false

abbrev pub ReadPrintable : Type 0
ReadPrintable = (r : List ℕ) (o : Occupation) → occupation_in r ≡ Ok o → Printable o
