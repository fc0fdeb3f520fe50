-- The chunks of k bytes after the first ones of a text, and the characters of one form that lead them.
use Prim.Native.Nat.{ℕ, zero, suc, ◌+◌, ◌-◌, ◌*◌, ◌/◌, ◌≤◌, ◌<◌}
use mathlib.Core.Path.{◌≡◌, refl, sym, ap, ◌∙◌}
use mathlib.Core.Bool.{true, false}
use mathlib.Core.List.{List}
use native.Mathlib.Nat.{mul-zero, mul-suc, add-zero}
use native.Mathlib.Numerals.{add-one}
use native.Mathlib.Omega.{arith}
use lib.ListN.{length, get_or, take, drop}
use lib.Seq.{drop-drop, take_all}
use Rattle.std.proofs.Math.Nat.{le-div_iff_mul-le, lt-div-mul-add, mul_comm}
use Rattle.std.proofs.lemmas.List.{length-drop, length-take-le}
use Rattle.std.specs.Simd.{first_chunks}
use Rattle.text.specs.Characters.{is_one, utf8}
use Rattle.text.specs.InnerRuns.{Going, Run}
use Rattle.text.proofs.Runs.{start, more, run_short}

chunk : (k m : ℕ) (s : List ℕ) (n : ℕ) (d : List ℕ) → n < m → get_or (first_chunks k m s) n d ≡ take k (drop (k * n) s)
chunk k zero s n d h = absurd (omega arith)
chunk k (suc m) s zero d h = rw (mul-zero k)
chunk k (suc m) s (suc n) d h =
    let e : k * suc n ≡ k + k * n = let u = mul-suc k n in omega arith in
    chunk k m (drop k s) n d (omega arith) ∙ rw e (ap (take k) (drop-drop (k * n) k s))

-- the chunks of a text's bytes from first on
pub record Chunks (k : ℕ) (s : List ℕ) (first : ℕ) (ys : List (List ℕ)) : Type 0 where
  pub are : ys ≡ first_chunks k (length (drop first s) / k) (drop first s)
  pub count : length ys ≡ length (drop first s) / k

length-chunks : (k m : ℕ) (s : List ℕ) → length (first_chunks k m s) ≡ m
length-chunks k zero s = refl
length-chunks k (suc m) s = ap suc (length-chunks k m (drop k s))

pub chunks_of : {k first : ℕ} {s : List ℕ} {ys : List (List ℕ)} → first ≤ length s
    → ys ≡ first_chunks k (length (take (length s - first) (drop first s)) / k) (take (length s - first) (drop first s))
    → Chunks k s first ys
chunks_of {k} {first} {s} {ys} h e =
    let l = length-drop first s in
    let f : take (length s - first) (drop first s) ≡ drop first s = take_all _ (drop first s) (omega arith) in
    let g : ys ≡ first_chunks k (length (drop first s) / k) (drop first s) = e ∙ rw f in
    record { are = g; count = rw g (length-chunks k (length (drop first s) / k) (drop first s)) }

pub going_start : {k first : ℕ} {s : List ℕ} → first ≤ length s → Going k s first (first + k * 0)
going_start {k} {first} h = rw (mul-zero k, add-zero first) (start h)

module _ (k : ℕ) (s : List ℕ) (first : ℕ) (positive : 0 < k) (inside : first ≤ length s) {ys : List (List ℕ)}
    (y : Chunks k s first ys) where
  pub run_end : {m : ℕ} → Going k s first (first + k * m) → m ≡ length ys → Run k s first (first + k * m)
  run_end {m} g n =
      let e : m ≡ length (drop first s) / k = n ∙ y.count in
      let l = length-drop first s in
      let h = lt-div-mul-add {a = length (drop first s)} positive in
      let f : length (drop first s) < m * k + k = rw e h in
      let c = mul_comm m k in
      run_short g (omega arith)

  module _ {n : ℕ} {c : List ℕ} (d : List ℕ) (e : c ≡ get_or ys n d) (h : n < length ys) where
    fits : first + k * n + k ≤ length s
    fits =
        let l = length-drop first s in
        let o = y.count in
        let f = (le-div_iff_mul-le {x = n + 1} {y = length (drop first s)} positive).0 (omega arith) in
        let u : (n + 1) * k ≡ k * n + k = mul_comm (n + 1) k ∙ rw (add-one n) (mul-suc k n) in
        omega arith

    is : take k (drop (first + k * n) s) ≡ c
    is =
        sym
        (e
        ∙ rw y.are (chunk k (length (drop first s) / k) (drop first s) n d (rw y.count at h))
        ∙ ap (take k) (drop-drop (k * n) first s))

    same : is_one (utf8 (length c)) c ≡ is_one (utf8 k) (take k (drop (first + k * n) s))
    same =
        let l = length-drop (first + k * n) s in
        let f = fits in
        let m : length c ≡ k = rw (← is) (length-take-le k (drop (first + k * n) s) (omega arith)) in
        rw (m, is)

    pub going_next : Going k s first (first + k * n) → is_one (utf8 (length c)) c ≡ true
        → Going k s first (first + k * (n + 1))
    going_next g t =
        let q : first + k * (n + 1) ≡ first + k * n + k = let u = mul-suc k n in rw (add-one n) (omega arith) in
        rw q (more g (sym same ∙ t) fits)

    pub run_here : Going k s first (first + k * n) → is_one (utf8 (length c)) c ≡ false → Run k s first (first + k * n)
    run_here g t = record { going = g; over = sym same ∙ t }
