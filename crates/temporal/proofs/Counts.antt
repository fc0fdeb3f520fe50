-- Signed counts, compared and divided. A machine's number is known by its bits, so an operation on z reads `to_z w (of_z w z)`, which is z.
use Rattle.std.specs.Prelude.{None, Some}
use Prim.Native.Nat.{ℕ, zero, suc, ◌+◌, ◌*◌, ◌/◌, ◌%◌, ◌^◌, ◌≤◌, ◌<◌, zero-le}
use mathlib.Core.Path.{◌≡◌, refl, sym, ap, ◌∙◌, subst}
use mathlib.Core.Bool.{true, false, false≢true}
use native.Mathlib.Nat.{div-le_self, le_of_suc-le-suc, lt_of_le_of_lt, mod-lt}
use native.Mathlib.Omega.{arith}
use lib.IntN.{ℤ, pos, negsuc, neg_ℤ, nat_abs}
use lib.Signed.{lt_z, le_z, mag, quot_z, rem_z, non_neg, mag_rem}
use lib.Dec.{T, leb, ltb}
use mir.Syntax.{Width, w64}
use mir.Val.{SFits, Fits, to_z, of_z}
use mir.ValLaws.{to_z-of_z, to_z_pos}
use borrow.Author.Tests.{le-leb, lt-leb, lt-ltb, le-ltb, leb-true, leb-false}
use Rattle.temporal.specs.Ranges.{between, is_time}
use Rattle.temporal.specs.Time.{mod_z, time_of}

-- ---- ranges

at_least : (low z : ℤ) → le_z low z ≡ true → lt_z z low ≡ false
at_least (pos a) (pos b) h = le-ltb b a (leb-true a b h)
at_least (pos a) (negsuc b) h = absurd (false≢true h)
at_least (negsuc a) (pos b) h = refl
at_least (negsuc a) (negsuc b) h = le-ltb a b (leb-true b a h)

below : (low z : ℤ) → le_z low z ≡ false → lt_z z low ≡ true
below (pos a) (pos b) h = lt-ltb b a (leb-false a b h)
below (pos a) (negsuc b) h = refl
below (negsuc a) (pos b) h = absurd (false≢true (sym h))
below (negsuc a) (negsuc b) h = lt-ltb a b (leb-false b a h)

module _ (w : Width) (z : ℤ) (f : SFits w z) (low high : ℤ) where
  pub under : le_z low (to_z w (of_z w z)) ≡ false → le_z low (to_z w (of_z w z)) ≡ between low high z
  under h = let k : lt_z z low ≡ true = below low z (rw (to_z-of_z w z f) at h) in rw (h, k)

  pub not_under : le_z low (to_z w (of_z w z)) ≡ true → le_z (to_z w (of_z w z)) high ≡ between low high z
  not_under h = let k : lt_z z low ≡ false = at_least low z (rw (to_z-of_z w z f) at h) in rw (k, to_z-of_z w z f)

-- ---- the low 32 bits are the number modulo 2 ^ 32

low : (z : ℤ) → SFits w64 z → of_z w64 z % 2 ^ 32 ≡ mod_z z (2 ^ 32)
low (pos n) f = refl
low (negsuc n) f = omega (arith, f.sfits)

pub low_bits : (z : ℤ) → SFits w64 z → of_z w64 (to_z w64 (of_z w64 z)) % 2 ^ 32 ≡ mod_z z (2 ^ 32)
low_bits z f = ap (λ (y : ℤ). of_z w64 y % 2 ^ 32) (to_z-of_z w64 z f) ∙ low z f

-- ---- quotient and remainder

neg_mag : (q a : ℕ) → q ≤ suc a → mag (neg_ℤ (pos q)) ≤ a
neg_mag zero a h = zero-le
neg_mag (suc q) a h = le_of_suc-le-suc h

quot_mag : (z : ℤ) (d : ℕ) → mag (quot_z z (pos d)) ≤ mag z
quot_mag (pos a) d = div-le_self a d
quot_mag (negsuc a) d = neg_mag (suc a / d) a (div-le_self (suc a) d)

neg_abs : (n : ℕ) → nat_abs (neg_ℤ (pos n)) ≡ n
neg_abs zero = refl
neg_abs (suc n) = refl

rem_below : (z : ℤ) (d : ℕ) → 0 < d → nat_abs (rem_z z (pos d)) < d
rem_below (pos a) d h = mod-lt a h
rem_below (negsuc a) d h = rw neg_abs (mod-lt (suc a) h)

not_negative : (z : ℤ) → lt_z z (pos 0) ≡ false → T (non_neg z)
not_negative (pos n) h = tt
not_negative (negsuc n) h = subst T h tt

module _ (z : ℤ) (f : SFits w64 z) where
  quot_fits : SFits w64 (quot_z z (pos 1000000))
  quot_fits = record { sfits = lt_of_le_of_lt (quot_mag z 1000000) f.sfits }

  pub quot_asked : SFits w64 (quot_z (to_z w64 (of_z w64 z)) (pos 1000000))
  quot_asked = rw (to_z-of_z w64 z f) quot_fits

  quot_read : to_z w64 (of_z w64 (quot_z (to_z w64 (of_z w64 z)) (pos 1000000))) ≡ quot_z z (pos 1000000)
  quot_read = ap (λ (y : ℤ). to_z w64 (of_z w64 (quot_z y (pos 1000000)))) (to_z-of_z w64 z f) ∙ to_z-of_z w64 (quot_z z (pos 1000000)) quot_fits

  pub seconds-read : {s : ℕ} → s ≡ mod_z (to_z w64 (of_z w64 (quot_z (to_z w64 (of_z w64 z)) (pos 1000000)))) (2 ^ 32) → s ≡ mod_z (quot_z z (pos 1000000)) (2 ^ 32)
  seconds-read e = e ∙ ap (λ (y : ℤ). mod_z y (2 ^ 32)) quot_read

  pub rest_read : to_z w64 (of_z w64 (rem_z (to_z w64 (of_z w64 z)) (pos 1000000))) ≡ rem_z z (pos 1000000)
  rest_read =
      let g : SFits w64 (rem_z z (pos 1000000)) = record { sfits = lt_of_le_of_lt (mag_rem z (pos 1000000)) f.sfits } in
      ap (λ (y : ℤ). to_z w64 (of_z w64 (rem_z y (pos 1000000)))) (to_z-of_z w64 z f) ∙ to_z-of_z w64 (rem_z z (pos 1000000)) g

  -- what the machine has for the remainder, r, and for the seconds, s
  module _ (r : ℤ) (e : r ≡ rem_z z (pos 1000000)) where
    pub negative_rest : lt_z r (pos 0) ≡ true → None ≡ time_of z
    negative_rest h = let k : lt_z (rem_z z (pos 1000000)) (pos 0) ≡ true = rw e at h in rw k

    module _ (h : lt_z r (pos 0) ≡ false) where
      pub rest_cast : T (non_neg r) × Fits w64 (nat_abs r)
      rest_cast = (not_negative r h, rw e (record { fits = omega (arith, rem_below z 1000000 (omega arith)) }))

      module _ (s : ℕ) (q : s ≡ mod_z (quot_z z (pos 1000000)) (2 ^ 32)) where
        k : lt_z (rem_z z (pos 1000000)) (pos 0) ≡ false
        k = rw e at h

        pub late : 86400 ≤ s → None ≡ time_of z
        late l = let t : leb 86400 (mod_z (quot_z z (pos 1000000)) (2 ^ 32)) ≡ true = rw q at (le-leb 86400 s l) in rw (k, t)

        pub count_fits : s < 86400 → Fits w64 (s * 1000000 + nat_abs r)
        count_fits l = rw e (record { fits = omega (arith, rem_below z 1000000 (omega arith)) })

        pub count-signed : s < 86400 → SFits w64 (pos (s * 1000000 + nat_abs r))
        count-signed l = rw e (record { sfits = omega (arith, rem_below z 1000000 (omega arith)) })

        pub in_day : s < 86400 → Some (to_z w64 (s * 1000000 + nat_abs r)) ≡ time_of z
        in_day l =
            let t : leb 86400 (mod_z (quot_z z (pos 1000000)) (2 ^ 32)) ≡ false = rw q at (lt-leb 86400 s l) in
            rw (k, t, ← q, ← e) (ap Some (to_z_pos w64 (s * 1000000 + nat_abs r) (count-signed l).sfits))

-- ---- a time that may be written is read as itself

time_pos : (n : ℕ) → n ≤ 86399999999 → time_of (pos n) ≡ Some (pos n)
time_pos n h =
    let rest : ltb (n % 1000000) 0 ≡ false = le-ltb (n % 1000000) 0 (omega arith) in
    let day : leb 86400 (n / 1000000 % 2 ^ 32) ≡ false = lt-leb 86400 (n / 1000000 % 2 ^ 32) (omega arith) in
    let e : n / 1000000 % 2 ^ 32 * 1000000 + n % 1000000 ≡ n = omega arith in
    rw (rest, day, e)

pub time-read : (z : ℤ) → is_time z ≡ true → time_of z ≡ Some z
time-read (pos n) e = let z : ltb n 0 ≡ false = le-ltb n 0 (omega arith) in time_pos n (leb-true n 86399999999 (rw z at e))
time-read (negsuc n) e = absurd (false≢true e)
