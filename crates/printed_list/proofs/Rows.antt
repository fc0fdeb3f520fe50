-- The rows of a list: how many, how long, and that they are the whole of it; and the list that has given rows.
use Rattle.std.specs.Prelude.{Err, Ok}
use Prim.Native.Nat.{ℕ, zero, suc, ◌+◌, ◌≤◌, ◌<◌}
use mathlib.Core.Path.{◌≡◌, refl, sym, ap, ◌∙◌}
use mathlib.Core.Bool.{false, cond}
use mathlib.Core.List.{List, [], ◌∷◌, ◌++◌}
use native.Mathlib.Omega.{arith}
use lib.Dec.{eqb, ltb}
use borrow.Author.Tests.{le-ltb, ne_eqb, eqb-true, ltb-false}
use lib.ListN.{length, take, drop, length-append, length-drop, take-append-drop}
use lib.Seq.{length-take-le, take_at, drop_at, drop-drop}
use Rattle.laws.specs.Bytes.{to_le}
use Rattle.laws.proofs.Bytes.{to_from, Below, below-take, below-drop}
use Rattle.laws.proofs.Truths.{by_cond}
use Rattle.error.specs.declared.Refusal.TheVariants.{BadList}
use Rattle.error.specs.Result.{Result, before}
use Rattle.row_list.specs.Rows.{first_size, first_row, later_rows, rows_from, rows_of, list_limit}
use Rattle.row_list.specs.Framed.{framed}
use Rattle.printed_list.specs.Sorted.{Every}
use Rattle.printed_list.specs.Framing.{RowsFramed, FramedRows}
use Rattle.printed_list.specs.Refusals.{OfList, list}
use Rattle.printed_list.proofs.Ordering.{every_map}
use Rattle.printed_list.proofs.Results.{Gives, good, bad, before-good, of_good}

pub record RowsIn (n : ℕ) (s : List ℕ) (rs : List (List ℕ)) : Type 0 where
  pub count : length rs ≤ n
  pub short : Every (λ r. length r ≤ length s) rs
  pub whole : Below 256 s → framed rs ≡ s

empty : (s : List ℕ) → length s ≡ 0 → [] ≡ s
empty [] e = refl
empty (x ∷ s) e = absurd (omega arith)

no_rows : (n : ℕ) (s : List ℕ) → length s ≡ 0 → RowsIn n s []
no_rows n s e = record { count = omega arith; short = tt; whole = λ b. empty s e }

-- ---- the first row

module _ (s : List ℕ) (h : 2 + first_size s ≤ length s) where
  first_length : length (first_row s) ≡ first_size s
  first_length = length-take-le (first_size s) (drop 2 s) (rw length-drop (omega arith))

  cut_again : take 2 s ++ (first_row s ++ later_rows s) ≡ s
  cut_again =
      rw (← drop-drop (first_size s) 2 s, take-append-drop (first_size s) (drop 2 s), take-append-drop 2 s)

  size_again : Below 256 s → to_le 2 (first_size s) ≡ take 2 s
  size_again b =
      let two : length (take 2 s) ≡ 2 = length-take-le 2 s (omega arith) in
      ap (λ (w : ℕ). to_le w (first_size s)) (sym two) ∙ to_from (take 2 s) (below-take 256 2 s b)

  one_more : (n : ℕ) (rs : List (List ℕ)) → RowsIn n (later_rows s) rs → RowsIn (suc n) s (first_row s ∷ rs)
  one_more n rs k =
      let later : length (later_rows s) ≤ length s = rw length-drop (omega arith) in
      record {
        count = omega (arith, k.count);
        short = (
          rw first_length (omega arith),
          every_map (λ r. length r ≤ length (later_rows s)) (λ r. length r ≤ length s) rs (λ r l. omega arith) k.short,
        );
        whole = λ b.
            ap (λ (n : ℕ). to_le 2 n ++ (first_row s ++ framed rs)) first_length
            ∙ ap (λ (l : List ℕ). l ++ (first_row s ++ framed rs)) (size_again b)
            ∙ ap (λ (l : List ℕ). take 2 s ++ (first_row s ++ l)) (k.whole (below-drop 256 (2 + first_size s) s b))
            ∙ cut_again;
      }

pub rows-from : (n : ℕ) (s : List ℕ) → Gives (RowsIn n s) OfList (rows_from n s)
rows-from zero s =
    by_cond (Gives (RowsIn 0 s) OfList) (eqb (length s) 0) (Ok []) (Err BadList)
    (λ e. good (no_rows 0 s (eqb-true (length s) 0 e))) (λ e. bad list)
rows-from (suc n) s =
    by_cond (Gives (RowsIn (suc n) s) OfList) (eqb (length s) 0) (Ok [])
    (cond (ltb (length s) (2 + first_size s)) (Err BadList) (before (first_row s) (rows_from n (later_rows s))))
    (λ e. good (no_rows (suc n) s (eqb-true (length s) 0 e)))
    (λ e.
    by_cond (Gives (RowsIn (suc n) s) OfList) (ltb (length s) (2 + first_size s)) (Err BadList)
    (before (first_row s) (rows_from n (later_rows s))) (λ l. bad list)
    (λ l. before-good (first_row s) (rows-from n (later_rows s)) (one_more s (ltb-false (length s) (2 + first_size s) l) n)))

-- a list within the limit
pub record ListIn (n : ℕ) (s : List ℕ) (rs : List (List ℕ)) : Type 0 where
  pub rows : RowsIn n s rs
  pub limit : length s ≤ list_limit

pub rows_of_lem : (most : ℕ) (s : List ℕ) → Gives (ListIn most s) OfList (rows_of most s)
rows_of_lem most s =
    by_cond (Gives (ListIn most s) OfList) (ltb list_limit (length s)) (Err BadList) (rows_from most s) (λ l. bad list)
    (λ l. within (ltb-false list_limit (length s) l) (rows-from most s))
  where
    within : length s ≤ list_limit → {res : Result (List (List ℕ))} → Gives (RowsIn most s) OfList res
        → Gives (ListIn most s) OfList res
    within h (good k) = good (record { rows = k; limit = h })
    within h (bad q) = bad q

pub rows-count : (most : ℕ) (s : List ℕ) (rs : List (List ℕ)) → rows_of most s ≡ Ok rs → length rs ≤ most
rows-count most s rs e = (of_good (rows_of_lem most s) e).rows.count

-- the list is its rows, each after its length
bytes_below : (s : List ℕ) → Every (λ b. b < 256) s → Below 256 s
bytes_below [] e = tt
bytes_below (b ∷ s) e = (e.0, bytes_below s e.1)

pub framed-rows : FramedRows
framed-rows most s rs e b = (of_good (rows_of_lem most s) e).rows.whole (bytes_below s b)

-- ---- rows that were framed are the rows of the list

module _ (r rest : List ℕ) (h : length r < 65536) where
  abbrev one : List ℕ
  one = to_le 2 (length r) ++ (r ++ rest)

  size_back : first_size one ≡ length r
  size_back = omega arith

  row_back : first_row one ≡ r
  row_back = ap (λ (n : ℕ). take n (r ++ rest)) size_back ∙ take_at r rest (length r) refl

  later_back : later_rows one ≡ rest
  later_back =
      ap (λ (n : ℕ). drop (2 + n) one) size_back ∙ sym (drop-drop (length r) 2 one) ∙ drop_at r rest (length r) refl

  not_empty : eqb (length one) 0 ≡ false
  not_empty = ne_eqb (length one) 0 (λ z. omega arith)

  not_cut : ltb (length one) (2 + first_size one) ≡ false
  not_cut = le-ltb (length one) (2 + first_size one) (omega (arith, size_back, length-append r rest))

framed-from : (n : ℕ) (rs : List (List ℕ)) → length rs ≤ n → length (framed rs) < 65536 → rows_from n (framed rs) ≡ Ok rs
framed-from zero [] h l = refl
framed-from zero (r ∷ rs) h l = absurd (omega arith)
framed-from (suc n) [] h l = refl
framed-from (suc n) (r ∷ rs) h l =
    let f = framed rs in
    let a = length-append r f in
    let k : length r < 65536 = omega arith in
    rw (not_empty r f k, not_cut r f k, row_back r f k, later_back r f k, framed-from n rs (omega arith) (omega arith))

pub rows-framed : RowsFramed
rows-framed most rs h l = rw (le-ltb list_limit (length (framed rs)) l) (framed-from most rs h (omega arith))
