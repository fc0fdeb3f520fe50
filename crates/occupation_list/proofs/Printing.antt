-- From the rows in order to the whole call.
use Rattle.std.specs.Prelude.{Err, Ok}
use Prim.Native.Nat.{ℕ, ◌≤◌, ◌<◌}
use mathlib.Core.Path.{◌≡◌, sym, ap, ◌∙◌, subst}
use mathlib.Core.Bool.{Bool, cond}
use mathlib.Core.List.{List, [], map}
use native.Mathlib.Omega.{arith}
use borrow.Author.Tests.{lt-ltb, le-ltb}
use lib.ListN.{length, take}
use lib.Seq.{sets, take-length}
use Rattle.error.specs.declared.Refusal.{Refusal}
use Rattle.error.specs.declared.Refusal.TheVariants.{NoRoom}
use Rattle.error.specs.Answer.{unchanged, placed}
use Rattle.error.specs.Result.{Result, on_result}
use Rattle.laws.specs.Bytes.{concat}
use Rattle.occupation.specs.Occupation.{Occupation}
use Rattle.occupation.specs.Order.{precedes}
use Rattle.occupation.specs.Line.{line}
use Rattle.occupation_list.specs.Ordered.{ordered}
use Rattle.occupation_list.specs.Print.{occupations_of, lines_of, print_call, refusal_line, report_call}
use Rattle.occupation_list.proofs.Places.{placed_part}
use Rattle.occupation_list.specs.InnerOrder.{lines_at, ordered_onto, ArrangedRows, ArrangedAs, LinesReady}

-- ---- bytes that go to the output, with room for them or without

pub placed_not : (out x : List ℕ) → length out < length x → (Err NoRoom, out) ≡ placed out x
placed_not out x h = ap (λ (t : Bool). cond t (unchanged out NoRoom) (Ok (length x), sets out 0 x)) (sym (lt-ltb (length out) (length x) h))

pub placed-all : (out x : List ℕ) {n : ℕ} {out' : List ℕ} → n ≡ length x → length x ≤ length out → out' ≡ sets out 0 x → (Ok n, out') ≡ placed out x
placed-all out x {n} {out'} e h o =
    ap (λ (m : ℕ). (Ok m, out')) e ∙ ap (λ (l : List ℕ). (Ok (length x), l)) o
    ∙ ap (λ (t : Bool). cond t (unchanged out NoRoom) (Ok (length x), sets out 0 x)) (sym (le-ltb (length out) (length x) h))

-- ---- the call

on_ordered : {B : Type 0} (x : Result (List Occupation)) {os : List Occupation} (f : Refusal → B) (g : List Occupation → B) → ordered_onto [] x ≡ Ok os → on_result x f (λ qs. g (ordered precedes qs)) ≡ g os
on_ordered (Ok qs) {os} f g e = let z : ordered precedes qs ≡ os = cc in ap g z
on_ordered (Err q) f g e = absurd (let z : ◌≡◌ {A = ℕ} 0 1 = cc in omega arith)

module _ (list order : List ℕ) (x : Result (ℕ × ℕ)) (a : ArrangedAs list order x) where
  rows : {k n : ℕ} → x ≡ Ok (k, n) → ArrangedRows list order k n
  rows e = subst (ArrangedAs list order) e a

  pub printable : {k n : ℕ} → x ≡ Ok (k, n) → LinesReady list (take k order) (length (take k order)) n
  printable {k} e =
      let p = (rows e).printable in
      record { all_placed = placed_part p.all_placed; long = p.long ∙ ap (λ (ps : List ℕ). length (lines_at list ps)) (sym (take-length (take k order))) }

  pub print_placed : (out : List ℕ) {k n : ℕ} → x ≡ Ok (k, n) → placed out (lines_at list (take k order)) ≡ print_call list out
  print_placed out e = sym (on_ordered (occupations_of list) (unchanged out) (λ os. placed out (concat (map line os))) (rows e).in_order)

  pub report-placed : (out : List ℕ) {k n : ℕ} → x ≡ Ok (k, n) → placed out (lines_at list (take k order)) ≡ report_call list out
  report-placed out e = ap (placed out) (sym (on_ordered (occupations_of list) refusal_line (λ os. concat (map line os)) (rows e).in_order))

  module _ (out : List ℕ) {q : Refusal} (e : x ≡ Err q) where
    is-refused : occupations_of list ≡ Err q
    is-refused = subst (ArrangedAs list order) e a

    pub print_refused : (Err q, out) ≡ print_call list out
    print_refused = ap (λ (r : Result (List Occupation)). on_result r (unchanged out) (λ os. placed out (lines_of os))) (sym is-refused)

    pub report-refused : placed out (refusal_line q) ≡ report_call list out
    report-refused = ap (λ (r : Result (List Occupation)). placed out (on_result r refusal_line lines_of)) (sym is-refused)
