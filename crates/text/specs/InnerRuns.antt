-- For the proofs: runs of characters of one form.
use Rattle.std.specs.Prelude.{ℕ, ◌+◌, ◌*◌, ◌≤◌, ◌<◌, ◌≡◌, Bool, false, List, [], ◌∷◌, length, get_or, take, drop}
use Rattle.text.specs.Rfc3629.{utf8_1, code_points}
use Rattle.text.specs.Characters.{is_one, utf8}
use Rattle.text.specs.InnerCharacters.{plus}
use Rattle.text.specs.InnerEach.{Each}

-- the byte at i is UTF8-1
abbrev pub is_ascii : List ℕ → ℕ → Bool
is_ascii s i = is_one utf8_1 (get_or s i 0 ∷ [])

-- the bytes from first on and below r are ASCII
pub record Ascii (s : List ℕ) (first r : ℕ) : Type 0 where
  pub from : first ≤ r
  pub inside : r ≤ length s
  pub each : Each (is_ascii s) first r

-- and the byte at r is not, or r is end
pub record AsciiUpTo (s : List ℕ) (first end r : ℕ) : Type 0 where
  pub ascii : Ascii s first r
  pub below : r ≤ end
  pub over : r < end → is_ascii s r ≡ false

-- from first to i stand `count` characters of k bytes each
pub record Going (k : ℕ) (s : List ℕ) (first i : ℕ) : Type 0 where
  pub count : ℕ
  pub place : i ≡ first + k * count
  pub inside : i ≤ length s
  pub says : code_points (drop first s) ≡ plus count (code_points (drop i s))

-- and at i none of UTF8-k
pub record Run (k : ℕ) (s : List ℕ) (first i : ℕ) : Type 0 where
  pub going : Going k s first i
  pub over : is_one (utf8 k) (take k (drop i s)) ≡ false
