-- For the functions behind the two set calls: the flag of a row, and the handle after a call.
use Rattle.error.specs.Result.{Result}
use Prim.Native.Nat.{ℕ, ◌<◌}
use mathlib.Core.Bool.{Bool, false}
use mathlib.Core.List.{List, [], ◌∷◌}
use mathlib.Core.Path.{◌≡◌, refl, sym, ap, ◌∙◌}
use native.Mathlib.Omega.{arith}
use borrow.Author.Tests.{lt-leb}
use lib.ListN.{length}
use Rattle.datatype.specs.Check.{layout_for, types_in}
use Rattle.datatype.specs.InnerCheck.{Accepted}
use Rattle.laws.proofs.Bytes.{AllBytes}
use Rattle.error.specs.Answer.{Outcome}
use Rattle.row_format.specs.Row.{packed_flag}
use Rattle.row_layout.specs.declared.RowLayout.{RowLayout}
use Rattle.row_format.specs.Header.{is_packed, varlen_field}
use Rattle.row_handle.specs.declared.RowHandle.{RowHandle}
use Rattle.row_handle.specs.Handle.{geometry, handle_after, handled}

-- fewer bytes than a header's have no flag
pub short-flag : (r : List ℕ) → AllBytes r → length r < 4 → false ≡ is_packed r
short-flag [] a h = refl
short-flag (x ∷ []) a h = refl
short-flag (x ∷ y ∷ []) a h = refl
short-flag (x ∷ y ∷ z ∷ []) a h = let b = (a 2).fits in sym (lt-leb packed_flag (varlen_field (x ∷ y ∷ z ∷ [])) (omega arith))
short-flag (x ∷ y ∷ z ∷ u ∷ r) a h = absurd (omega arith)

-- a call of sort k that went on behind the schema's check: o is what the plain call answers and leaves
pub handled-good : (k : Bool) (s : List ℕ) {l : RowLayout} {a : Result ℕ} {buf : List ℕ} (h : RowHandle) {h' : RowHandle} {o : Outcome}
    → l.is_long ≡ k → Accepted s l → (a, buf) ≡ o → h' ≡ handle_after (geometry l (is_packed buf)) h a → (a, (buf, h')) ≡ handled k s h o
handled-good k s {l} {a} {buf} h {h'} {o} sort acc e f =
    let same : l ≡ layout_for k (types_in s) = sym acc.layout ∙ ap (λ (q : Bool). layout_for q (types_in s)) sort in
    ap (λ (x : RowHandle). (a, (buf, x))) (f ∙ ap (λ (m : RowLayout). handle_after (geometry m (is_packed buf)) h a) same) ∙ ap (handled k s h) e
