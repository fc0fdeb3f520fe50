-- Same content refuses as a read of all columns of the first row, then of the second, and else goes column by column.
use Rattle.std.specs.Prelude.{Err, Ok}
use Prim.Native.Nat.{ℕ, zero, suc, ◌<◌}
use mathlib.Core.Path.{◌≡◌, refl, sym, ap, ◌∙◌, subst}
use mathlib.Core.Bool.{Bool, true, false, cond}
use mathlib.Core.List.{List, [], ◌∷◌, map}
use native.Mathlib.Omega.{arith}
use borrow.Author.Tests.{le-ltb, eqb-false}
use lib.Dec.{eqb}
use lib.ListN.{length}
use Rattle.laws.proofs.Truths.{both, by_cond}
use Rattle.error.specs.declared.Refusal.{Refusal}
use Rattle.error.specs.declared.Refusal.TheVariants.{NoRoom}
use Rattle.error.specs.Answer.{Counted, unchanged_both}
use Rattle.error.specs.Result.{on_result, Result}
use Rattle.row_format.specs.Places.{offset_width}
use Rattle.row_format.specs.Header.{is_long}
use Rattle.datatype.specs.declared.DataType.{DataType}
use Rattle.datatype.specs.Types.{length_of}
use Rattle.datatype.specs.Schema.{Parsed, schema_of}
use Rattle.datatype.specs.Check.{types_in}
use Rattle.value.specs.declared.DataValue.{DataValue}
use Rattle.value.specs.Ranges.{text_of}
use Rattle.value_list.specs.Lists.{Values, list_of}
use Rattle.value_same.specs.Same.{same_content}
use Rattle.stored_form.specs.Points.{points_in}
use Rattle.row_column.specs.Frame.{frame_of, on_frame}
use Rattle.row_decode.specs.Read.{is_wanted, read_from, hand_out, read_row, read_call}
use Rattle.row_same.specs.Rows.{all_columns, values_read, same_values, on_values, same_call}
use Rattle.row_same.proofs.Read.{ReadsAs, rows-read, SameAt, values_same}
use Rattle.round_trip.specs.SameRead.{WantsAll, ReadRefuses, ReadGives, RefusedAs, first, second, SameAsRead}
use Rattle.round_trip.proofs.Sorts.{same-columns}
use Rattle.round_trip.proofs.ReadAll.{columns-read, wanted-all}

-- ---- a read of all columns, by what the columns give

module _ (schema r : List ℕ) where
  abbrev sort : Bool
  sort = is_long r

  -- a call on a schema that is q, on a header that is f, and on values u
  module _ (wanted out counts : List ℕ) where
    of_schema : (q : Parsed) → schema_of sort schema ≡ q
        → read_call schema r wanted out counts ≡ on_result q (unchanged_both out counts) (λ ts. read_row sort ts r wanted out counts)
    of_schema q e = ap (λ (p : Parsed). on_result p (unchanged_both out counts) (λ ts. read_row sort ts r wanted out counts)) e

    of_frame : (ts : List DataType) → schema_of sort schema ≡ Ok ts → (f : Result Bool) → frame_of sort ts r ≡ f
        → read_call schema r wanted out counts ≡ on_frame f (unchanged_both out counts)
        (λ p. hand_out sort out counts r (read_from (offset_width sort) p ts (is_wanted wanted) r 0 (length ts)))
    of_frame ts e f g =
        of_schema (Ok ts) e
        ∙ ap (λ (x : Result Bool). on_frame x (unchanged_both out counts)
        (λ p. hand_out sort out counts r (read_from (offset_width sort) p ts (is_wanted wanted) r 0 (length ts)))) g

    of_values : (ts : List DataType) → schema_of sort schema ≡ Ok ts → (p : Bool) → frame_of sort ts r ≡ Ok p
        → WantsAll schema r wanted → (u : Values) → read_from (offset_width sort) p ts (λ j. true) r 0 (length ts) ≡ u
        → read_call schema r wanted out counts ≡ hand_out sort out counts r u
    of_values ts e p f all u g =
        of_frame ts e (Ok p) f
        ∙ ap (hand_out sort out counts r)
        (wanted-all (offset_width sort) p ts r (is_wanted wanted) (length ts) 0 (λ j h. all ts e j (omega arith)) ∙ g)

  -- what it does
  data Read : Type 0 where
    refuses : (e : Refusal) → values_read schema r ≡ Err e → ReadRefuses schema r e → Read
    gives : (ts : List DataType) (vs : List DataValue) → ReadsAs schema r ts vs → values_read schema r ≡ Ok vs
        → ReadGives schema r ts vs → Read

  values_of : (q : Parsed) → schema_of sort schema ≡ q
      → values_read schema r ≡ on_result q Err (λ ts. all_columns sort ts r)
  values_of q e = ap (λ (p : Parsed). on_result p Err (λ ts. all_columns sort ts r)) e

  module _ (ts : List DataType) (e : schema_of sort schema ≡ Ok ts) where
    columns_of_lem : (f : Result Bool) → frame_of sort ts r ≡ f
        → all_columns sort ts r ≡ on_frame f Err (λ p. read_from (offset_width sort) p ts (λ j. true) r 0 (length ts))
    columns_of_lem f g = ap (λ (x : Result Bool). on_frame x Err (λ p. read_from (offset_width sort) p ts (λ j. true) r 0 (length ts))) g

    by_values : (p : Bool) → frame_of sort ts r ≡ Ok p → (u : Values)
        → read_from (offset_width sort) p ts (λ j. true) r 0 (length ts) ≡ u → Read
    by_values p f (Err x) g =
        refuses x (values_of (Ok ts) e ∙ columns_of_lem (Ok p) f ∙ g)
        (λ wanted out counts all. of_values wanted out counts ts e p f all (Err x) g)
    by_values p f (Ok vs) g =
        let all : all_columns sort ts r ≡ Ok vs = columns_of_lem (Ok p) f ∙ g in
        gives ts vs (record { sort = sort; marked = refl; schema-good = e; all_read = all }) (values_of (Ok ts) e ∙ all)
        (record {
          columns = e;
          many = (columns-read (offset_width sort) p ts r (length ts) 0 g).count;
          read = λ wanted out counts every. of_values wanted out counts ts e p f every (Ok vs) g;
        })

    by_frame : (f : Result Bool) → frame_of sort ts r ≡ f → Read
    by_frame (Err x) f =
        refuses x (values_of (Ok ts) e ∙ columns_of_lem (Err x) f)
        (λ wanted out counts all. of_frame wanted out counts ts e (Err x) f)
    by_frame (Ok p) f = by_values p f (read_from (offset_width sort) p ts (λ j. true) r 0 (length ts)) refl

  by_schema : (q : Parsed) → schema_of sort schema ≡ q → Read
  by_schema (Err x) e =
      refuses x (values_of (Err x) e) (λ wanted out counts all. of_schema wanted out counts (Err x) e)
  by_schema (Ok ts) e = by_frame ts e (frame_of sort ts r) refl

  is_read : Read
  is_read = by_schema (schema_of sort schema) refl

  -- ---- there is a list of all columns, so that it does one of the two

  abbrev below : ℕ → List ℕ
  below zero = []
  below (suc n) = n ∷ below n

  below-wanted : (n i : ℕ) → i < n → is_wanted (below n) i ≡ true
  below-wanted zero i h = absurd (omega arith)
  below-wanted (suc n) i h =
      by_cond (λ (x : Bool). x ≡ true) (eqb n i) _ _ (λ e. refl)
      (λ e. let ne = eqb-false n i e in below-wanted n i (omega arith))

  all_wanted : (q : Parsed) → schema_of sort schema ≡ q → WantsAll schema r (below (on_result q (λ e. 0) length))
  all_wanted (Ok us) e ts g i h = let same : us ≡ ts = cc in below-wanted (length us) i (rw same h)
  all_wanted (Err x) e ts g i h = absurd (refused-ok (sym e ∙ g))
    where
      refused-ok : ◌≡◌ {A = Result (List DataType)} (Err x) (Ok ts) → ⊥
      refused-ok p = let z : ◌≡◌ {A = ℕ} 0 1 = cc in omega arith

  abbrev everything : List ℕ
  everything = below (on_result (schema_of sort schema) (λ e. 0) length)

  wants_all : WantsAll schema r everything
  wants_all = all_wanted (schema_of sort schema) refl

  abbrev reason : Counted → Refusal
  reason (Err e, after) = e
  reason (Ok n, after) = NoRoom

  abbrev IsRefused : Counted → Type 0
  IsRefused (Err e, after) = Unit {0}
  IsRefused (Ok n, after) = ⊥

  one_reason : {e x : Refusal} → ReadRefuses schema r e → ReadRefuses schema r x → e ≡ x
  one_reason f g = ap reason (sym (f everything [] [] wants_all) ∙ g everything [] [] wants_all)

  not_both : {e : Refusal} {ts : List DataType} {vs : List DataValue} → ReadRefuses schema r e → ReadGives schema r ts vs → ⊥
  not_both {vs = vs} f g =
      let l : List ℕ = list_of sort vs in
      let m : List ℕ = map (points_in r) vs in
      let full = rw (le-ltb (length l) (length l) (omega arith), le-ltb (length m) (length m) (omega arith)) at (g.read everything l m wants_all) in
      subst IsRefused (sym (f everything l m wants_all) ∙ full) tt

-- ---- column by column: the same exactly if every column is

module _ (a b : List ℕ) where
  same-values : (ts : List DataType) (vs us : List DataValue) → same_values ts a vs b us ≡ true
      → (i : ℕ) → i < length ts → SameAt a b ts vs us i
  same-values [] vs us e i h = absurd (omega arith)
  same-values (t ∷ ts) [] us e i h = absurd (subst (λ (x : Bool). cond x ⊥ (Unit {0})) e tt)
  same-values (t ∷ ts) (v ∷ vs) [] e i h = absurd (subst (λ (x : Bool). cond x ⊥ (Unit {0})) e tt)
  same-values (t ∷ ts) (v ∷ vs) (u ∷ us) e zero h = (both (same_content (length_of t) v (text_of a v) u (text_of b u)) _ e).0
  same-values (t ∷ ts) (v ∷ vs) (u ∷ us) e (suc i) h =
      same-values ts vs us (both (same_content (length_of t) v (text_of a v) u (text_of b u)) _ e).1 i (omega arith)

-- ---- the call

module _ (schema a b : List ℕ) where
  abbrev flag_of : Result Bool → Bool
  flag_of (Ok x) = x
  flag_of (Err e) = false

  abbrev reason_of : Result Bool → Refusal
  reason_of (Ok x) = NoRoom
  reason_of (Err e) = e

  abbrev Told : Result Bool → Type 0
  Told (Ok x) = ⊥
  Told (Err e) = Unit {0}

  of_first : (x : Values) → values_read schema a ≡ x
      → same_call schema a b ≡ on_values x (λ vs. on_values (values_read schema b) (λ us. Ok (same_values (types_in schema) a vs b us)))
  of_first x e = ap (λ (y : Values). on_values y (λ vs. on_values (values_read schema b) (λ us. Ok (same_values (types_in schema) a vs b us)))) e

  of_second : (vs : List DataValue) → values_read schema a ≡ Ok vs → (y : Values) → values_read schema b ≡ y
      → same_call schema a b ≡ on_values y (λ us. Ok (same_values (types_in schema) a vs b us))
  of_second vs e y g = of_first (Ok vs) e ∙ ap (λ (z : Values). on_values z (λ us. Ok (same_values (types_in schema) a vs b us))) g

  module _ {e : Refusal} (call : same_call schema a b ≡ Err e) (there : RefusedAs schema a b e)
      (only : (x : Refusal) → RefusedAs schema a b x → e ≡ x) where
    refused_call : SameAsRead schema a b
    refused_call =
        record {
          refuses = λ x. (λ c. subst (RefusedAs schema a b) (ap reason_of (sym call ∙ c)) there, λ g. call ∙ ap Err (only x g));
          tells = λ x c. absurd (subst Told (sym call ∙ c) tt);
        }

  first-only : {e : Refusal} → ReadRefuses schema a e → (x : Refusal) → RefusedAs schema a b x → e ≡ x
  first-only f x (first g) = one_reason schema a f g
  first-only f x (second g h) = absurd (not_both schema a f g)

  second-only : {e : Refusal} {ts : List DataType} {vs : List DataValue} → ReadGives schema a ts vs → ReadRefuses schema b e
      → (x : Refusal) → RefusedAs schema a b x → e ≡ x
  second-only g f x (first h) = absurd (not_both schema a h g)
  second-only g f x (second h k) = one_reason schema b f k

  none-refused : {ts us : List DataType} {vs ws : List DataValue} → ReadGives schema a ts vs → ReadGives schema b us ws
      → (x : Refusal) → RefusedAs schema a b x → ⊥
  none-refused g h x (first f) = not_both schema a f g
  none-refused g h x (second k f) = not_both schema b f h

  both_read_lem : {ts : List DataType} {vs us : List DataValue} → ReadsAs schema a ts vs → ReadsAs schema b ts us
      → ReadGives schema a ts vs → ReadGives schema b ts us → SameAsRead schema a b
  both_read_lem {ts} {vs} {us} p q g h =
      let call = rows-read p q in
      record {
        refuses = λ x. (λ c. absurd (subst Told (sym c ∙ call) tt), λ f. absurd (none-refused g h x f));
        tells = λ x c.
            let is : same_values ts a vs b us ≡ x = ap flag_of (sym call ∙ c) in
            record {
              columns = ts;
              first-values = vs;
              second-values = us;
              first_read = g;
              second-read = h;
              same = (λ t. same-values a b ts vs us (is ∙ t), λ f. sym is ∙ values_same a b ts vs us g.many h.many f);
            };
      }

  by_second : {ts : List DataType} {vs : List DataValue} → ReadsAs schema a ts vs → values_read schema a ≡ Ok vs → ReadGives schema a ts vs
      → Read schema b → SameAsRead schema a b
  by_second {vs = vs} p e g (refuses x k f) = refused_call (of_second vs e (Err x) k) (second g f) (second-only g f)
  by_second {ts} p e g (gives us ws q k h) =
      let same = same-columns (is_long b) (is_long a) schema h.columns g.columns in
      both_read_lem p (subst (λ (xs : List DataType). ReadsAs schema b xs ws) same q) g
      (subst (λ (xs : List DataType). ReadGives schema b xs ws) same h)

  by_first : Read schema a → SameAsRead schema a b
  by_first (refuses x k f) = refused_call (of_first (Err x) k) (first f) (first-only f)
  by_first (gives ts vs p e g) = by_second p e g (is_read schema b)

  pub same_as_read : SameAsRead schema a b
  same_as_read = by_first (is_read schema a)
