-- The walk over the rows of a list: those that were put in order, and those that are left.
use Rattle.std.specs.Prelude.{Err, Ok}
use Prim.Native.Nat.{ℕ, ◌+◌, ◌*◌, ◌-◌, ◌≤◌, ◌<◌}
use mathlib.Core.Path.{◌≡◌, refl, sym, ap, ◌∙◌, subst}
use mathlib.Core.List.{List, [], map}
use native.Mathlib.Nat.{sub-zero}
use native.Mathlib.Omega.{arith}
use lib.ListN.{length, take, drop}
use Rattle.error.specs.declared.Refusal.{Refusal}
use Rattle.error.specs.Result.{Result, on_result, before}
use Rattle.laws.specs.Bytes.{concat}
use Rattle.row_list.specs.InnerRows.{list_checked}
use Rattle.row_list.specs.Rows.{first_size, rows_from, rows_of}
use Rattle.row_list.proofs.Rows.{NextRow, next_row, no_row, rows-within}
use Rattle.occupation.specs.Occupation.{Occupation, occupation_in}
use Rattle.occupation.specs.Order.{precedes}
use Rattle.occupation.specs.Line.{line}
use Rattle.occupation_list.specs.Ordered.{inserted}
use Rattle.occupation_list.specs.Print.{row_count_limit, occupations_in, occupations_of}
use Rattle.occupation_list.specs.InnerOrder.{row_in, occupation_at, occupations_at, lines_at, Placed, Addable, AddedRow, AddedAs, ordered_onto, Arrangeable, ArrangedRows}
use Rattle.occupation_list.proofs.Lines.{length_inserted}

onto_more : (os : List Occupation) (o : Occupation) (x : Result (List Occupation)) → ordered_onto (inserted precedes o os) x ≡ ordered_onto os (before o x)
onto_more os o (Ok qs) = refl
onto_more os o (Err e) = refl

onto_refused : (x : Result (List Occupation)) {e : Refusal} → Err e ≡ ordered_onto [] x → x ≡ Err e
onto_refused (Ok qs) h = absurd (let y : ◌≡◌ {A = ℕ} 0 1 = cc in omega arith)
onto_refused (Err q) h = sym h

pub added_row : (list order : List ℕ) (k at : ℕ) (x : Result ℕ) (order' : List ℕ) {n : ℕ} → AddedAs list order k at x order' → x ≡ Ok n → AddedRow list order k at n order'
added_row list order k at x order' a e = subst (λ (y : Result ℕ). AddedAs list order k at y order') e a

pub record Arranging (list order : List ℕ) (at k size : ℕ) : Type 0 where
  pub left : List (List ℕ)
  pub is_ok : rows_from (512 - k) (drop at list) ≡ Ok left
  pub small : length list ≤ 32768
  pub room : length order ≡ 512
  pub so_far : Placed list order k
  pub rest : ordered_onto (occupations_at list (take k order)) (occupations_in left) ≡ ordered_onto [] (occupations_of list)
  pub long : size ≡ length (lines_at list (take k order))
  pub short : size ≤ 126 * k

from_start : (most : ℕ) (list : List ℕ) {rs : List (List ℕ)} → rows_from most list ≡ Ok rs → rows_from (most - 0) (drop 0 list) ≡ Ok rs
from_start most list e = rw (sub-zero most) e

pub arrange_start : {list order : List ℕ} → Arrangeable list order → Arranging list order 0 0 0
arrange_start {list} {order} a =
    let w = rows-within 512 list a.is_ok in
    record {
      left = a.rows;
      is_ok = from_start 512 list w.1;
      small = w.0;
      room = a.room;
      so_far = record { many = omega arith; places = λ i h. absurd (omega arith); rises = λ i j h l. absurd (omega arith) };
      rest = ap (λ (x : Result (List (List ℕ))). ordered_onto [] (on_result x Err occupations_in)) (sym a.is_ok);
      long = refl;
      short = omega arith;
    }

module _ {list order : List ℕ} {at k size : ℕ} (s : Arranging list order at k size) where
  pub arrange_end : length list ≤ at → ArrangedRows list order k size
  arrange_end h =
      record {
        in_order = sym s.rest ∙ ap (λ (rs : List (List ℕ)). ordered_onto (occupations_at list (take k order)) (occupations_in rs)) (no_row (512 - k) list at s.is_ok h);
        printable = record { all_placed = s.so_far; long = s.long };
      }

  module _ (h : at < length list) where
    next : NextRow (512 - k) list at s.left
    next = next_row s.is_ok h

    pub arrange_at : Addable list order k at
    arrange_at = let n = next.some in let r = s.room in record { so_far = s.so_far; room = omega arith; inside = next.inside; small = s.small }

    rest_is : {x : Result Occupation} → occupation_in (row_in list at) ≡ x → ordered_onto (occupations_at list (take k order)) (on_result x Err (λ o. before o (occupations_in next.rest))) ≡ ordered_onto [] (occupations_of list)
    rest_is e =
        sym (ap (λ (rs : List (List ℕ)). ordered_onto (occupations_at list (take k order)) (occupations_in rs)) next.is-more
        ∙ ap (λ (y : Result Occupation). ordered_onto (occupations_at list (take k order)) (on_result y Err (λ o. before o (occupations_in next.rest)))) e) ∙ s.rest

    pub arrange_refused : (x : Result ℕ) (order' : List ℕ) {e : Refusal} → AddedAs list order k at x order' → x ≡ Err e → occupations_of list ≡ Err e
    arrange_refused x order' a e = onto_refused (occupations_of list) (rest_is (subst (λ (y : Result ℕ). AddedAs list order k at y order') e a))

    pub arrange_more : {n : ℕ} {order' : List ℕ} → length order' ≡ length order → AddedRow list order k at n order' → Arranging list order' (at + (2 + first_size (drop at list))) (k + 1) (size + n)
    arrange_more {n} {order'} same a =
        let e : 512 - k - 1 ≡ 512 - (k + 1) = omega arith in
        let sh = s.short in
        let short = a.short in
        record {
          left = next.rest;
          is_ok = ap (λ (m : ℕ). rows_from m (drop (at + (2 + first_size (drop at list))) list)) (sym e) ∙ next.later;
          small = s.small;
          room = same ∙ s.room;
          so_far = a.then_placed;
          rest = ap (λ (os : List Occupation). ordered_onto os (occupations_in next.rest)) a.in_place
              ∙ onto_more (occupations_at list (take k order)) (occupation_at list at) (occupations_in next.rest) ∙ rest_is a.is_ok;
          long = ap (λ (m : ℕ). m + n) s.long ∙ ap (λ (m : ℕ). length (lines_at list (take k order)) + m) a.long
              ∙ sym (ap (λ (os : List Occupation). length (concat (map line os))) a.in_place ∙ length_inserted precedes line (occupation_at list at) (occupations_at list (take k order)));
          short = omega arith;
        }

-- ---- a list that was checked

module _ (list : List ℕ) (x : Result ℕ) (is : x ≡ list_checked (rows_of row_count_limit list)) where
  whole : (y : Result (List (List ℕ))) {n : ℕ} (order : List ℕ) → rows_of row_count_limit list ≡ y → list_checked y ≡ Ok n → length order ≡ row_count_limit → Arrangeable list order
  whole (Ok rows) order e f room = record { rows = rows; is_ok = e; room = room }
  whole (Err q) order e f room = absurd (let z : ◌≡◌ {A = ℕ} 0 1 = cc in omega arith)

  pub list-whole : {n : ℕ} (order : List ℕ) → x ≡ Ok n → length order ≡ row_count_limit → Arrangeable list order
  list-whole order e room = whole (rows_of row_count_limit list) order refl (sym is ∙ e) room

  bad : (y : Result (List (List ℕ))) {e : Refusal} → list_checked y ≡ Err e → on_result y Err occupations_in ≡ Err e
  bad (Ok rows) h = absurd (let z : ◌≡◌ {A = ℕ} 0 1 = cc in omega arith)
  bad (Err q) {e} h = let z : q ≡ e = cc in ap Err z

  pub list-refused : {e : Refusal} → x ≡ Err e → occupations_of list ≡ Err e
  list-refused e = bad (rows_of row_count_limit list) (sym is ∙ e)
