-- The theorems about a list that is not refused: what its lines tell, their order, their length.
use Rattle.std.specs.Prelude.{Ok}
use Prim.Native.Nat.{ℕ, ◌≤◌}
use mathlib.Core.Path.{◌≡◌, refl, sym, ap, subst, ◌∙◌}
use mathlib.Core.List.{List, [], ◌∷◌, map}
use native.Mathlib.Omega.{arith}
use lib.Seq.{sets}
use borrow.Author.Tests.{le-ltb}
use lib.ListN.{length}
use Rattle.laws.specs.Bytes.{concat}
use Rattle.error.specs.Answer.{placed}
use Rattle.occupation.specs.Occupation.{Occupation}
use Rattle.occupation.specs.Order.{precedes}
use Rattle.occupation.specs.Line.{line}
use Rattle.occupation.proofs.Order.{precedes_ranks}
use Rattle.occupation_list.specs.Ordered.{ordered}
use Rattle.occupation_list.specs.Print.{row_count_limit, occupations_of, lines_of}
use Rattle.printed_list.specs.Sorted.{Every, Permutes, InOrder}
use Rattle.printed_list.specs.Printable.{Printable}
use Rattle.printed_list.specs.Shown.{Shown, shown, shown_in_order, NeverSame, LinesTell, RowsOrdered}
use Rattle.printed_list.specs.Room.{lines_limit, LinesFitAlways}
use Rattle.printed_list.proofs.Ordering.{ordered_every, ordered-permutes, permutes-length, permutes-map, in_order, ordered-only}
use Rattle.printed_list.proofs.Results.{of_good}
use Rattle.printed_list.proofs.Reading.{Good, list_read_lem}
use Rattle.printed_list.proofs.Lines.{line_of, line-shown, lines_cut, lines-length}

pub all-good : (bytes : List ℕ) (os : List Occupation) → occupations_of bytes ≡ Ok os → Good row_count_limit os
all-good bytes os e = of_good (list_read_lem bytes) e

-- ---- what the lines tell

module _ {n : ℕ} {os : List Occupation} (g : Good n os) where
  pub ordered-printable : Every Printable (ordered precedes os)
  ordered-printable = ordered_every precedes Printable os g.all

pub lines-told : {n m : ℕ} {os qs : List Occupation} → Good n os → Good m qs → lines_of os ≡ lines_of qs → shown_in_order os ≡ shown_in_order qs
lines-told {os = os} {qs = qs} g h l =
    lines_cut (ordered precedes os) (ordered precedes qs) (ordered-printable g) (ordered-printable h) l

by_shown : (os : List Occupation) → concat (map line os) ≡ concat (map line_of (map shown os))
by_shown [] = refl
by_shown (o ∷ os) = rw (line-shown o, by_shown os)

same_lines : (os qs : List Occupation) → shown_in_order os ≡ shown_in_order qs → lines_of os ≡ lines_of qs
same_lines os qs e =
    by_shown (ordered precedes os) ∙ ap (λ (l : List Shown). concat (map line_of l)) e ∙ sym (by_shown (ordered precedes qs))

pub lines_tell : LinesTell
lines_tell a b os qs e f = (lines-told (all-good a os e) (all-good b qs f), same_lines os qs)

pub never_same : NeverSame
never_same a b os qs e f differ l = differ ((lines_tell a b os qs e f).0 l)

-- ---- their order

pub rows-ordered : RowsOrdered
rows-ordered os qs =
    (ordered-only precedes_ranks os qs, λ e. subst (InOrder precedes os) (sym e) (in_order precedes_ranks os))

pub lines_permute : (os : List Occupation) → Permutes (map line os) (map line (ordered precedes os))
lines_permute os = permutes-map line (ordered-permutes precedes os)

-- ---- their length

pub lines-short : {os : List Occupation} → Good row_count_limit os → length (lines_of os) ≤ lines_limit
lines-short {os} g =
    let n = permutes-length (ordered-permutes precedes os) in
    let c = g.count in
    let l = lines-length (ordered precedes os) (ordered-printable g) in
    omega arith

pub placed-done : (n : ℕ) (out x : List ℕ) → length x ≤ n → n ≤ length out → placed out x ≡ (Ok (length x), sets out 0 x)
placed-done n out x h l = rw (le-ltb (length out) (length x) (omega arith))

pub lines_fit : LinesFitAlways
lines_fit bytes os e =
    let l = lines-short (all-good bytes os e) in
    record { lines = l; done = λ out h. rw e (placed-done lines_limit out (lines_of os) l h) }
