-- The rows at their places: one of them, and one more put among them.
use Rattle.error.specs.Result.{Result}
use Rattle.std.specs.Prelude.{Err, Ok}
use Prim.Native.Nat.{ℕ, ◌+◌, ◌-◌, ◌≤◌, ◌<◌}
use mathlib.Core.Path.{◌≡◌, sym, ap, ◌∙◌, subst}
use mathlib.Core.Bool.{true, false}
use mathlib.Core.List.{List, ◌∷◌, ◌++◌, map, map-append}
use native.Mathlib.Omega.{arith}
use lib.ListN.{length, get_or, set, take, drop, length-set}
use lib.Seq.{sets, length-take-le, length-sets, get_or-take}
use Rattle.error.specs.declared.Refusal.{Refusal}
use Rattle.occupation.specs.declared.Fields.{Fields}
use Rattle.occupation.specs.Occupation.{Occupation, occupation_in}
use Rattle.occupation.specs.Order.{precedes}
use Rattle.occupation.specs.Line.{line}
use Rattle.occupation.specs.InnerFields.{fields_shown, read_shown, FieldsIn, ReadIn, is_good, line_length}
use Rattle.occupation.proofs.Lines.{line-length}
use Rattle.occupation.proofs.Order.{precedes_ranks}
use Rattle.occupation_list.specs.Ordered.{inserted}
use Rattle.occupation_list.specs.InnerOrder.{row_in, good_one, occupation_at, Place, Known, occupations_at, Placed, FoundPlace, Addable, AddedRow}
use Rattle.occupation_list.proofs.Insertion.{Searching, split-inserted, take_put, get_put, rises-put}

-- ---- one row

pub known_at : (list : List ℕ) (p : ℕ) (r : List ℕ) {f : Fields} → r ≡ row_in list p → Known r f → fields_shown r f ≡ occupation_at list p
unfolding occupation_at
known_at list p r e k = ap good_one k.shown ∙ ap (λ (s : List ℕ). good_one (occupation_in s)) e

pub known_ok : (list : List ℕ) (p : ℕ) (r : List ℕ) {f : Fields} → r ≡ row_in list p → Known r f → occupation_in (row_in list p) ≡ Ok (occupation_at list p)
known_ok list p r e k = ap occupation_in (sym e) ∙ sym k.shown ∙ ap Ok (known_at list p r e k)

pub good_at : {list : List ℕ} {p : ℕ} (r : List ℕ) → r ≡ row_in list p → Place list p → is_good (occupation_in r) ≡ true
good_at r e p = ap (λ (s : List ℕ). is_good (occupation_in s)) e ∙ p.good

pub line_at : (list : List ℕ) (p : ℕ) (r : List ℕ) {f : Fields} → r ≡ row_in list p → Known r f → line_length f ≡ length (line (occupation_at list p))
line_at list p r {f} e k = sym (line-length r f k.bounds) ∙ ap (λ (o : Occupation). length (line o)) (known_at list p r e k)

pub line-written : (list : List ℕ) (p : ℕ) (r : List ℕ) {f : Fields} → r ≡ row_in list p → Known r f → (out : List ℕ) (end : ℕ) {n : ℕ} {out' : List ℕ}
    → (n ≡ end + line_length f) × (out' ≡ sets out end (line (fields_shown r f)))
    → (n ≡ end + length (line (occupation_at list p))) × (out' ≡ sets out end (line (occupation_at list p)))
line-written list p r e k out end (a, b) =
    (a ∙ ap (λ (m : ℕ). end + m) (line_at list p r e k), b ∙ ap (λ (o : Occupation). sets out end (line o)) (known_at list p r e k))

-- ---- the search

-- what is before a row is before all that follow that one
pub stays_before : {list order : List ℕ} {k : ℕ} → Placed list order k → (o : Occupation) (i j : ℕ) → i < j → j < k → precedes o (occupation_at list (get_or order i 0)) ≡ true → precedes o (occupation_at list (get_or order j 0)) ≡ true
stays_before {list} {order} t o i j h l e = precedes_ranks.behind o (occupation_at list (get_or order i 0)) (occupation_at list (get_or order j 0)) e (t.rises i j h l)

pub search_end : {list order : List ℕ} {k low high : ℕ} (o : Occupation) → Searching (λ i. precedes o (occupation_at list (get_or order i 0))) k low high → high ≤ low → FoundPlace list order k o low
search_end o s h = let a = s.order_of in let w = s.within in record { within = omega arith; before = s.before; behind = λ i l m. s.behind i (omega arith) m }

-- ---- the first k by themselves

pub placed_part : {list order : List ℕ} {k : ℕ} → Placed list order k → Placed list (take k order) (length (take k order))
placed_part {list} {order} {k} p =
    let n : length (take k order) ≡ k = length-take-le k order p.many in
    record {
      many = omega arith;
      places = λ i h. rw (get_or-take k order i 0 (omega (arith, n))) (p.places i (omega (arith, n)));
      rises = λ i j h l. rw (get_or-take k order i 0 (omega (arith, n)), get_or-take k order j 0 (omega (arith, n))) (p.rises i j h (omega (arith, n)));
    }

-- ---- one more

module _ {list order : List ℕ} {k at : ℕ} (a : Addable list order k at) {r : ℕ} (found : FoundPlace list order k (occupation_at list at) r) where
  abbrev after : List ℕ
  after = set (sets order (r + 1) (take (k - r) (drop r order))) r at

  abbrev ps : List ℕ
  ps = take k order

  n : length ps ≡ k
  n = length-take-le k order a.so_far.many

  within : r ≤ length ps
  within = rw n found.within

  at_place : (i : ℕ) → i < k → get_or ps i 0 ≡ get_or order i 0
  at_place i h = get_or-take k order i 0 h

  before : (i : ℕ) → i < r → precedes (occupation_at list at) (occupation_at list (get_or ps i 0)) ≡ false
  before i h = let w = found.within in rw (at_place i (omega arith)) (found.before i h)

  behind : (i : ℕ) → r ≤ i → i < length ps → precedes (occupation_at list at) (occupation_at list (get_or ps i 0)) ≡ true
  behind i h l = rw (at_place i (omega (arith, n))) (found.behind i h (omega (arith, n)))

  put : take (k + 1) after ≡ take r ps ++ (at ∷ drop r ps)
  put = take_put order k r at found.within a.room

  put_in_place : occupations_at list (take (k + 1) after) ≡ inserted precedes (occupation_at list at) (occupations_at list ps)
  put_in_place =
      ap (map (occupation_at list)) put ∙ map-append (occupation_at list) (take r ps) (at ∷ drop r ps)
      ∙ sym (split-inserted precedes (occupation_at list) (occupation_at list at) ps r within before behind)

  length-after : length after ≡ length order
  length-after = rw (length-set, length-sets)

  got : (i : ℕ) → i < k + 1 → get_or (take r ps ++ (at ∷ drop r ps)) i 0 ≡ get_or after i 0
  got i h = ap (λ (l : List ℕ). get_or l i 0) (sym put) ∙ get_or-take (k + 1) after i 0 h

  placed-more : Place list at → Placed list after (k + 1)
  placed-more own =
      let room = a.room in
      record {
        many = rw length-after (omega arith);
        places = λ i h. rw (got i h) at
            (get_put (Place list) at own ps r within (λ j l. rw (at_place j (omega (arith, n))) (a.so_far.places j (omega (arith, n)))) i (omega (arith, n)));
        rises = λ i j h l. rw (got i (omega arith), got j l) at
            (rises-put (λ p q. precedes (occupation_at list p) (occupation_at list q)) (λ p q. precedes_ranks.once (occupation_at list p) (occupation_at list q)) at ps r within before behind
            (λ p q b c. rw (at_place p (omega (arith, n)), at_place q (omega (arith, n))) (a.so_far.rises p q b (omega (arith, n)))) i j h (omega (arith, length_more)));
      }
    where
      length_more : length (take r ps ++ (at ∷ drop r ps)) ≡ k + 1
      length_more = ap length (sym put) ∙ length-take-le (k + 1) after (let room = a.room in rw length-after (omega arith))

  pub row_added : (row : List ℕ) {f : Fields} {size : ℕ} → row ≡ row_in list at → Known row f → size ≡ line_length f → size ≤ 126 → AddedRow list order k at size after
  row_added row e known l short =
      record {
        is_ok = known_ok list at row e known;
        then_placed = placed-more (record { inside = a.inside; good = ap is_good (known_ok list at row e known) });
        in_place = put_in_place;
        long = l ∙ line_at list at row e known;
        short = short;
      }

-- ---- as the functions hand it on

pub known_fields : (r : List ℕ) {f : Fields} → (Ok (fields_shown r f) ≡ occupation_in r) × FieldsIn (length r) f → Known r f
known_fields r (a, b) = record { shown = a; bounds = b }

pub read_known : (r : List ℕ) (x : Result Fields) {f : Fields} → x ≡ Ok f → (read_shown r x ≡ occupation_in r) × ReadIn (length r) x → Known r f
read_known r x e (a, b) = record { shown = ap (read_shown r) (sym e) ∙ a; bounds = subst (ReadIn (length r)) e b }

pub read-refused : (r : List ℕ) (x : Result Fields) {e : Refusal} → x ≡ Err e → read_shown r x ≡ occupation_in r → occupation_in r ≡ Err e
read-refused r x e a = sym a ∙ ap (read_shown r) e

pub add_row : {list order : List ℕ} {k at : ℕ} → Addable list order k at → (row : List ℕ) {f : Fields} → row ≡ row_in list at → Known row f → {r : ℕ} → FoundPlace list order k (fields_shown row f) r
    → {order' : List ℕ} → order' ≡ set (sets order (r + 1) (take (k - r) (drop r order))) r at → {size : ℕ} → (size ≡ line_length f) × (size ≤ 126) → AddedRow list order k at size order'
add_row {list} {order} {k} {at} a row e known {r} found {order'} o {size} (l, short) =
    subst (AddedRow list order k at size) (sym o)
    (row_added a (subst (λ (q : Occupation). FoundPlace list order k q r) (known_at list at row e known) found) row e known l short)
