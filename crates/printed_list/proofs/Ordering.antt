-- `ordered` puts a list in order, for any order in which at most one of two goes before the other and what goes before
-- one goes before all that do not go before that one; and no other list is in that order.
use Prim.Native.Nat.{◌+◌}
use mathlib.Core.Path.{◌≡◌, refl, sym, ap, subst, ◌∙◌}
use mathlib.Core.Bool.{Bool, true, false, cond, not, ◌||◌, false≢true}
use mathlib.Core.List.{List, [], ◌∷◌, ◌++◌, map, append-nil, head-eq_of_cons-eq, tail-eq_of_cons-eq, nil≢cons, cons≢nil}
use native.Mathlib.Omega.{arith}
use lib.ListN.{length, length-append}
use lib.Seq.{append_snoc}
use Rattle.laws.proofs.Truths.{by_cond}
use Rattle.occupation.proofs.Order.{Ranks}
use Rattle.occupation_list.specs.Ordered.{inserted, inserted_all, ordered}
use Rattle.printed_list.specs.Sorted.{Every, Rises, kept, is_level, Permutes, none, more, InOrder}

pub every_map : {A : Type 0} (P Q : A → Type 0) (xs : List A) → ((x : A) → P x → Q x) → Every P xs → Every Q xs
every_map P Q [] f e = tt
every_map P Q (x ∷ xs) f e = (f x e.0, every_map P Q xs f e.1)

-- ---- what a permutation keeps

pub permutes-length : {A : Type 0} {xs ys : List A} → Permutes xs ys → length ys ≡ length xs
permutes-length none = refl
permutes-length (more x us vs ps qs p) =
    let h = permutes-length p in
    let k : length ps + length qs ≡ length us + length vs = rw (length-append ps qs, length-append us vs) at h in
    rw (length-append ps (x ∷ qs), length-append us (x ∷ vs)) (omega arith)

map-append : {A B : Type 0} (f : A → B) (xs ys : List A) → map f (xs ++ ys) ≡ map f xs ++ map f ys
map-append f [] ys = refl
map-append f (x ∷ xs) ys = ap (λ (l : List _). f x ∷ l) (map-append f xs ys)

pub permutes-map : {A B : Type 0} (f : A → B) {xs ys : List A} → Permutes xs ys → Permutes (map f xs) (map f ys)
permutes-map f none = none
permutes-map f (more x us vs ps qs p) =
    rw (map-append f us (x ∷ vs), map-append f ps (x ∷ qs))
    (more (f x) (map f us) (map f vs) (map f ps) (map f qs) (rw (map-append f us vs, map-append f ps qs) at (permutes-map f p)))

-- ---- elements put in one after the other, in any order

module _ {A : Type 0} (lt : A → A → Bool) where
  inserted_every : (P : A → Type 0) (x : A) (ys : List A) → P x → Every P ys → Every P (inserted lt x ys)
  inserted_every P x [] p e = (p, tt)
  inserted_every P x (y ∷ ys) p e =
      by_cond (Every P) (lt x y) (x ∷ (y ∷ ys)) (y ∷ inserted lt x ys) (λ t. (p, e))
      (λ t. (e.0, inserted_every P x ys p e.1))

  all_every : (P : A → Type 0) (xs ys : List A) → Every P ys → Every P xs → Every P (inserted_all lt ys xs)
  all_every P [] ys e f = e
  all_every P (x ∷ xs) ys e f = all_every P xs (inserted lt x ys) (inserted_every P x ys f.0 e) f.1

  pub ordered_every : (P : A → Type 0) (xs : List A) → Every P xs → Every P (ordered lt xs)
  ordered_every P xs f = all_every P xs [] tt f

  inserted-permutes : (x : A) (zs ys : List A) → Permutes zs ys → Permutes (zs ++ (x ∷ [])) (inserted lt x ys)
  inserted-permutes x zs ys p = go ys [] p
    where
      go : (ys us : List A) → Permutes zs (us ++ ys) → Permutes (zs ++ (x ∷ [])) (us ++ inserted lt x ys)
      go [] us p = more x zs [] us [] (rw (append-nil zs) p)
      go (y ∷ ys) us p =
          by_cond (λ l. Permutes (zs ++ (x ∷ [])) (us ++ l)) (lt x y) (x ∷ (y ∷ ys)) (y ∷ inserted lt x ys)
          (λ t. more x zs [] us (y ∷ ys) (rw (append-nil zs) p))
          (λ t. rw (append_snoc us y (inserted lt x ys)) at (go ys (us ++ (y ∷ [])) (rw (append_snoc us y ys) p)))

  all-permutes : (xs zs ys : List A) → Permutes zs ys → Permutes (zs ++ xs) (inserted_all lt ys xs)
  all-permutes [] zs ys p = rw append-nil p
  all-permutes (x ∷ xs) zs ys p =
      rw (append_snoc zs x xs) at (all-permutes xs (zs ++ (x ∷ [])) (inserted lt x ys) (inserted-permutes x zs ys p))

  pub ordered-permutes : (xs : List A) → Permutes xs (ordered lt xs)
  ordered-permutes xs = all-permutes xs [] [] none

-- ---- in an order that ranks

kept_append : {A : Type 0} (p : A → Bool) (xs ys : List A) → kept p (xs ++ ys) ≡ kept p xs ++ kept p ys
kept_append p [] ys = refl
kept_append p (x ∷ xs) ys = rw (kept_append p xs ys) (go (p x))
  where
    go : (t : Bool) → cond t (x ∷ (kept p xs ++ kept p ys)) (kept p xs ++ kept p ys) ≡ cond t (x ∷ kept p xs) (kept p xs) ++ kept p ys
    go true = refl
    go false = refl

kept-none : {A : Type 0} (p : A → Bool) (xs : List A) → Every (λ x. p x ≡ false) xs → kept p xs ≡ []
kept-none p [] e = refl
kept-none p (x ∷ xs) e = rw e.0 (kept-none p xs e.1)

pub neither : (t u : Bool) → not (t || u) ≡ true → (t ≡ false) × (u ≡ false)
neither true u e = absurd (false≢true e)
neither false true e = absurd (false≢true e)
neither false false e = (refl, refl)

module _ {A : Type 0} {lt : A → A → Bool} (s : Ranks lt) where
  -- what does not go before y does not go before what y does not go before
  not_before : (x y z : A) → lt z y ≡ false → lt y x ≡ false → lt z x ≡ false
  not_before x y z f g = go (lt z x) (λ t. s.behind z x y t g)
    where
      go : (t : Bool) → (t ≡ true → lt z y ≡ true) → t ≡ false
      go true k = absurd (false≢true (sym f ∙ k refl))
      go false k = refl

  inserted-rises : (x : A) (ys : List A) → Rises lt ys → Rises lt (inserted lt x ys)
  inserted-rises x [] r = (tt, tt)
  inserted-rises x (y ∷ ys) r =
      by_cond (Rises lt) (lt x y) (x ∷ (y ∷ ys)) (y ∷ inserted lt x ys)
      (λ t.
      let first : lt y x ≡ false = s.once x y t in
      let rest : Every (λ z. lt z x ≡ false) ys
      = every_map (λ z. lt z y ≡ false) (λ z. lt z x ≡ false) ys (λ z f. not_before x y z f first) r.0 in
      ((first, rest), r))
      (λ t. (inserted_every lt (λ z. lt z y ≡ false) x ys t r.0, inserted-rises x ys r.1))

  all-rises : (xs ys : List A) → Rises lt ys → Rises lt (inserted_all lt ys xs)
  all-rises [] ys r = r
  all-rises (x ∷ xs) ys r = all-rises xs (inserted lt x ys) (inserted-rises x ys r)

  -- what x goes before is not of the rank of o, if x is
  past_level : (o x z : A) → is_level lt o x ≡ true → lt x z ≡ true → is_level lt o z ≡ false
  past_level o x z l t =
      let n = neither (lt o x) (lt x o) l in
      rw (go (lt o z) (λ f. s.behind x z o t f) n.1)
    where
      go : (t : Bool) → (t ≡ false → lt x o ≡ true) → lt x o ≡ false → t ≡ true
      go true k f = refl
      go false k f = absurd (false≢true (sym f ∙ k refl))

  inserted-stable : (o x : A) (ys : List A) → Rises lt ys
      → kept (is_level lt o) (inserted lt x ys) ≡ kept (is_level lt o) (ys ++ (x ∷ []))
  inserted-stable o x [] r = refl
  inserted-stable o x (y ∷ ys) r =
      by_cond (λ l. kept (is_level lt o) l ≡ kept (is_level lt o) (y ∷ (ys ++ (x ∷ [])))) (lt x y) (x ∷ (y ∷ ys)) (y ∷ inserted lt x ys)
      (λ t. at_front (is_level lt o x) refl t)
      (λ t. kept_append (is_level lt o) (y ∷ []) (inserted lt x ys)
      ∙ ap (λ (l : List A). kept (is_level lt o) (y ∷ []) ++ l) (inserted-stable o x ys r.1)
      ∙ sym (kept_append (is_level lt o) (y ∷ []) (ys ++ (x ∷ []))))
    where
      alone : (t : Bool) → is_level lt o x ≡ t → kept (is_level lt o) (x ∷ []) ≡ cond t (x ∷ []) []
      alone t e = rw e

      at_front : (t : Bool) → is_level lt o x ≡ t → lt x y ≡ true
          → kept (is_level lt o) (x ∷ (y ∷ ys)) ≡ kept (is_level lt o) ((y ∷ ys) ++ (x ∷ []))
      at_front false e t =
          kept_append (is_level lt o) (x ∷ []) (y ∷ ys)
          ∙ rw (alone false e, kept_append (is_level lt o) (y ∷ ys) (x ∷ []), alone false e, append-nil)
      at_front true e t =
          let later : Every (λ z. is_level lt o z ≡ false) (y ∷ ys)
          = (past_level o x y e t, every_map (λ z. lt z y ≡ false) (λ z. is_level lt o z ≡ false) ys (λ z f. past_level o x z e (s.behind x y z t f)) r.0) in
          let gone : kept (is_level lt o) (y ∷ ys) ≡ [] = kept-none (is_level lt o) (y ∷ ys) later in
          kept_append (is_level lt o) (x ∷ []) (y ∷ ys)
          ∙ rw (alone true e, kept_append (is_level lt o) (y ∷ ys) (x ∷ []), alone true e, gone)

  all_stable : (o : A) (xs ys : List A) → Rises lt ys
      → kept (is_level lt o) (inserted_all lt ys xs) ≡ kept (is_level lt o) (ys ++ xs)
  all_stable o [] ys r = rw append-nil
  all_stable o (x ∷ xs) ys r =
      all_stable o xs (inserted lt x ys) (inserted-rises x ys r)
      ∙ kept_append (is_level lt o) (inserted lt x ys) xs
      ∙ ap (λ (l : List A). l ++ kept (is_level lt o) xs) (inserted-stable o x ys r)
      ∙ sym (kept_append (is_level lt o) (ys ++ (x ∷ [])) xs)
      ∙ ap (kept (is_level lt o)) (append_snoc ys x xs)

  pub ordered-rises : (xs : List A) → Rises lt (ordered lt xs)
  ordered-rises xs = all-rises xs [] tt

  pub ordered-stable : (x : A) (xs : List A) → kept (is_level lt x) (ordered lt xs) ≡ kept (is_level lt x) xs
  ordered-stable x xs = all_stable x xs [] tt

  pub in_order : (xs : List A) → InOrder lt xs (ordered lt xs)
  in_order xs =
      record { permutes = ordered-permutes lt xs; rises = ordered-rises xs; stable = λ x. ordered-stable x xs }

-- ---- and no other list is

kept_in : {A : Type 0} (p : A → Bool) (Q : A → Type 0) (xs : List A) → Every Q xs → Every Q (kept p xs)
kept_in p Q [] e = tt
kept_in p Q (x ∷ xs) e = by_cond (Every Q) (p x) (x ∷ kept p xs) (kept p xs) (λ t. (e.0, kept_in p Q xs e.1)) (λ t. kept_in p Q xs e.1)

tails : {A : Type 0} (y z : A) {ys zs : List A} (t u : Bool) → t ≡ u → cond t (y ∷ ys) ys ≡ cond u (z ∷ zs) zs → ys ≡ zs
tails y z true true h e = tail-eq_of_cons-eq e
tails y z true false h e = absurd (false≢true (sym h))
tails y z false true h e = absurd (false≢true h)
tails y z false false h e = e

module _ {A : Type 0} {lt : A → A → Bool} (s : Ranks lt) where
  pub level_self : (x : A) → is_level lt x x ≡ true
  level_self x = rw (go (lt x x) (s.once x x))
    where
      go : (t : Bool) → (t ≡ true → t ≡ false) → t ≡ false
      go true k = k refl
      go false k = refl

  -- an element y that is kept of zs by its rank, where z does not go behind any of zs
  kept-behind : (y z : A) (ys zs : List A) → Rises lt (z ∷ zs) → is_level lt y z ≡ false
      → kept (is_level lt y) (y ∷ ys) ≡ kept (is_level lt y) (z ∷ zs) → lt y z ≡ false
  kept-behind y z ys zs r n e =
      let in-zs : y ∷ kept (is_level lt y) ys ≡ kept (is_level lt y) zs = rw (level_self y, n) at e in
      let all : Every (λ w. lt w z ≡ false) (y ∷ kept (is_level lt y) ys)
      = subst (Every (λ w. lt w z ≡ false)) (sym in-zs) (kept_in (is_level lt y) (λ w. lt w z ≡ false) zs r.0) in
      all.0

  level_sym : (x y : A) → is_level lt x y ≡ is_level lt y x
  level_sym x y = go (lt x y) (lt y x)
    where
      go : (t u : Bool) → not (t || u) ≡ not (u || t)
      go true true = refl
      go true false = refl
      go false true = refl
      go false false = refl

  heads : (y z : A) (ys zs : List A) → Rises lt (y ∷ ys) → Rises lt (z ∷ zs)
      → ((o : A) → kept (is_level lt o) (y ∷ ys) ≡ kept (is_level lt o) (z ∷ zs)) → y ≡ z
  heads y z ys zs q r k = go (is_level lt y z) refl
    where
      go : (t : Bool) → is_level lt y z ≡ t → y ≡ z
      go true e = head-eq_of_cons-eq (rw (level_self y, e) at (k y))
      go false e =
          let a : lt y z ≡ false = kept-behind y z ys zs r e (k y) in
          let b : lt z y ≡ false = kept-behind z y zs ys q (level_sym z y ∙ e) (sym (k z)) in
          let same : false ≡ true = sym e ∙ rw (a, b) in
          absurd (false≢true same)

  one_order : (ys zs : List A) → Rises lt ys → Rises lt zs
      → ((o : A) → kept (is_level lt o) ys ≡ kept (is_level lt o) zs) → ys ≡ zs
  one_order [] [] q r k = refl
  one_order [] (z ∷ zs) q r k = absurd (nil≢cons (rw (level_self z) at (k z)))
  one_order (y ∷ ys) [] q r k = absurd (cons≢nil (rw (level_self y) at (k y)))
  one_order (y ∷ ys) (z ∷ zs) q r k =
      let first = heads y z ys zs q r k in
      let rest =
      one_order ys zs q.1 r.1 (λ o. tails y z (is_level lt o y) (is_level lt o z) (ap (is_level lt o) first) (k o)) in
      (λ i. first i ∷ rest i)

  pub ordered-only : (xs ys : List A) → InOrder lt xs ys → ys ≡ ordered lt xs
  ordered-only xs ys k =
      let o = in_order s xs in
      one_order ys (ordered lt xs) k.rises o.rises (λ x. k.stable x ∙ sym (o.stable x))
