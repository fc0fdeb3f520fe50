-- A part of a list: `&s[at..]`, as the borrow checker hands it on, and one that is known by its place.
use Prim.Native.Nat.{ℕ, ◌+◌, ◌-◌, ◌≤◌, ◌<◌}
use mathlib.Core.Path.{◌≡◌, refl, sym, ◌∙◌}
use mathlib.Core.List.{List, [], ◌++◌}
use native.Mathlib.Omega.{arith}
use lib.ListN.{length, get_or, take, drop, length-take, length-drop, drop_of_length-le}
use lib.Seq.{take_all, take_at, drop_at, ext_get_or, get_or-take, get_or-drop}

-- all that follows `at`
pub part-all : (s : List ℕ) (at : ℕ) → take (length s - at) (drop at s) ≡ drop at s
part-all s at = take_all (length s - at) (drop at s) (simp length-drop (omega arith))

-- and nothing after it
pub part_none : (s : List ℕ) (at : ℕ) → drop (length s - at) (drop at s) ≡ []
part_none s at = drop_of_length-le (drop at s) {i = length s - at} (simp length-drop (omega arith))

-- what stands between others
pub part_at : (us bs vs : List ℕ) (at : ℕ) → length us ≡ at → take (length bs) (drop at (us ++ (bs ++ vs))) ≡ bs
part_at us bs vs at e = rw (drop_at us (bs ++ vs) at e) (take_at bs vs (length bs) refl)

-- parts of two lists of one length that agree at each place
pub part_same : (a n : ℕ) (r r' : List ℕ) → length r ≡ length r' → ((i : ℕ) → a ≤ i → i < a + n → get_or r i 0 ≡ get_or r' i 0) → take n (drop a r) ≡ take n (drop a r')
part_same a n r r' e h =
    ext_get_or 0 (take n (drop a r)) (take n (drop a r')) (simp (length-take, length-drop, e))
    (λ i l.
    let k : i < n = let m = rw length-take at l in omega arith in
    get_or-take n (drop a r) i 0 k ∙ get_or-drop a r i 0 ∙ h (a + i) (omega arith) (omega arith) ∙ sym (get_or-take n (drop a r') i 0 k ∙ get_or-drop a r' i 0))
