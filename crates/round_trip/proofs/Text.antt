-- The text call refuses as a read of that column, and hands out the range that the read's record names.
use Rattle.std.specs.Prelude.{Err, Ok}
use Prim.Native.Nat.{ℕ, zero, suc, ◌+◌, ◌<◌}
use mathlib.Core.Path.{◌≡◌, refl, sym, ap, ◌∙◌, subst}
use mathlib.Core.Bool.{Bool, true, false, cond}
use mathlib.Core.List.{List, [], ◌∷◌, map}
use native.Mathlib.Omega.{arith}
use borrow.Author.Tests.{le-ltb, eq-eqb, ne_eqb, lt-leb, leb-false}
use lib.Dec.{leb}
use lib.ListN.{length, set, replicate}
use Rattle.row_format.specs.Places.{offset_width}
use Rattle.row_format.specs.Header.{is_long}
use Rattle.error.specs.declared.Refusal.{Refusal}
use Rattle.error.specs.declared.Refusal.TheVariants.{NoRoom, NoSuchColumn, WrongKind}
use Rattle.error.specs.Answer.{Counted, unchanged_both, placed_both}
use Rattle.error.specs.Result.{on_result, before, Result}
use Rattle.datatype.specs.declared.DataType.{DataType}
use Rattle.datatype.specs.Schema.{Parsed, schema_of}
use Rattle.datatype.specs.Check.{type_at}
use Rattle.value.specs.declared.TextRange.{TextRange}
use Rattle.value.specs.declared.DataValue.{DataValue}
use Rattle.value.specs.declared.DataValue.TheVariants.{Null}
use Rattle.value.specs.Kinds.{holds_text}
use Rattle.value.specs.Ranges.{range_of}
use Rattle.value_list.specs.Lists.{Values, list_of}
use Rattle.stored_form.specs.Points.{points_in}
use Rattle.row_column.specs.Frame.{frame_of, on_frame}
use Rattle.row_column.specs.Column.{column_value}
use Rattle.row_decode.specs.Read.{is_wanted, on_column, read_from, hand_out, read_row}
use Rattle.row_text.specs.Text.{text_read, text_in_row, text_of_column, text_call, text_part}
use Rattle.round_trip.specs.Text.{read_column, Names, TextAsRead}

-- ---- a read of column i alone

-- what it gives of n columns, by what the column gives
abbrev alone : Result DataValue → ℕ → ℕ → Values
alone (Ok v) n i = Ok (set (replicate n Null) i v)
alone (Err e) n i = Err e

alone_first : (c : Result DataValue) (n : ℕ) → on_column c (Ok (replicate n Null)) ≡ alone c (suc n) 0
alone_first (Ok v) n = refl
alone_first (Err e) n = refl

alone-next : (c : Result DataValue) (n i : ℕ) → before Null (alone c n i) ≡ alone c (suc n) (suc i)
alone-next (Ok v) n i = refl
alone-next (Err e) n i = refl

-- and its counts
nulls-counted : (r : List ℕ) (n : ℕ) → map (points_in r) (replicate n Null) ≡ replicate n 0
nulls-counted r zero = refl
nulls-counted r (suc n) = ap (λ (ns : List ℕ). 0 ∷ ns) (nulls-counted r n)

alone-counts : (r : List ℕ) (v : DataValue) (n i : ℕ)
    → map (points_in r) (set (replicate n Null) i v) ≡ set (replicate n 0) i (points_in r v)
alone-counts r v zero i = refl
alone-counts r v (suc n) zero = ap (λ (ns : List ℕ). points_in r v ∷ ns) (nulls-counted r n)
alone-counts r v (suc n) (suc i) = ap (λ (ns : List ℕ). 0 ∷ ns) (alone-counts r v n i)

module _ (w : ℕ) (p : Bool) (ts : List DataType) (r : List ℕ) (i : ℕ) where
  abbrev from : ℕ → ℕ → Values
  from j m = read_from w p ts (is_wanted (i ∷ [])) r j m

  not_wanted : (j m : ℕ) → (i ≡ j → ⊥) → from j (suc m) ≡ before Null (from (suc j) m)
  not_wanted j m ne = rw (ne_eqb i j ne)

  behind : (m j : ℕ) → i < j → from j m ≡ Ok (replicate m Null)
  behind zero j h = refl
  behind (suc m) j h = not_wanted j m (λ q. omega arith) ∙ ap (before Null) (behind m (suc j) (omega arith))

  up_to : (d m j : ℕ) → j + d ≡ i → d < m → from j m ≡ alone (column_value w p ts i r) m d
  up_to d zero j e h = absurd (omega arith)
  up_to zero (suc m) j e h =
      let same : j ≡ i = omega arith in
      rw (same, eq-eqb i i refl)
      (ap (on_column (column_value w p ts i r)) (behind m (suc i) (omega arith))
      ∙ alone_first (column_value w p ts i r) m)
  up_to (suc d) (suc m) j e h =
      not_wanted j m (λ q. omega arith)
      ∙ ap (before Null) (up_to d m (suc j) (omega arith) (omega arith)) ∙ alone-next (column_value w p ts i r) m d

  read-alone : i < length ts → from 0 (length ts) ≡ alone (column_value w p ts i r) (length ts) i
  read-alone h = up_to i (length ts) 0 (omega arith) h

-- ---- both calls

module _ (schema r : List ℕ) (i : ℕ) where
  abbrev sort : Bool
  sort = is_long r

  data Both : Type 0 where
    refuse : (e : Refusal) → text_call schema r i ≡ Err e
        → ((out counts : List ℕ) → read_column schema r i out counts ≡ unchanged_both out counts e) → Both
    answer : (x : TextRange) → text_call schema r i ≡ Ok x → Names schema r i x → Both

  of_schema : (q : Parsed) → schema_of sort schema ≡ q
      → text_call schema r i ≡ on_result q Err (λ ts. text_of_column sort ts r i)
  of_schema q e = ap (λ (p : Parsed). on_result p Err (λ ts. text_of_column sort ts r i)) e

  read-schema : (q : Parsed) → schema_of sort schema ≡ q → (out counts : List ℕ)
      → read_column schema r i out counts
      ≡ on_result q (unchanged_both out counts) (λ ts. read_row sort ts r (i ∷ []) out counts)
  read-schema q e out counts =
      ap (λ (p : Parsed). on_result p (unchanged_both out counts) (λ ts. read_row sort ts r (i ∷ []) out counts)) e

  -- behind 9 and 11
  pub text_in-row : (ts : List DataType) → schema_of sort schema ≡ Ok ts → i < length ts
      → holds_text (type_at ts i) ≡ true
      → text_call schema r i ≡ text_in_row sort ts r i
  text_in-row ts e h t =
      of_schema (Ok ts) e
      ∙ ap (λ (x : Bool). cond x (Err NoSuchColumn)
      (cond (holds_text (type_at ts i)) (text_in_row sort ts r i) (Err (WrongKind i)))) (lt-leb (length ts) i h)
      ∙ ap (λ (x : Bool). cond x (text_in_row sort ts r i) (Err (WrongKind i))) t

  module _ (ts : List DataType) (e : schema_of sort schema ≡ Ok ts) (h : i < length ts)
      (text : text_call schema r i ≡ text_in_row sort ts r i) where
    of_frame : (f : Result Bool) → frame_of sort ts r ≡ f
        → text_call schema r i ≡ on_frame f Err (λ p. text_read (column_value (offset_width sort) p ts i r))
    of_frame f g = text ∙ ap (λ (q : Result Bool). on_frame q Err (λ p. text_read (column_value (offset_width sort) p ts i r))) g

    read-frame : (f : Result Bool) → frame_of sort ts r ≡ f → (out counts : List ℕ)
        → read_column schema r i out counts ≡ on_frame f (unchanged_both out counts)
        (λ p. hand_out sort out counts r (read_from (offset_width sort) p ts (is_wanted (i ∷ [])) r 0 (length ts)))
    read-frame f g out counts =
        read-schema (Ok ts) e out counts
        ∙ ap (λ (q : Result Bool). on_frame q (unchanged_both out counts)
        (λ p. hand_out sort out counts r (read_from (offset_width sort) p ts (is_wanted (i ∷ [])) r 0 (length ts)))) g

    by_column : (p : Bool) → frame_of sort ts r ≡ Ok p → (c : Result DataValue) → column_value (offset_width sort) p ts i r ≡ c → Both
    by_column p g c k = of_read c said read
      where
        said : text_call schema r i ≡ text_read c
        said = of_frame (Ok p) g ∙ ap text_read k

        read : (out counts : List ℕ) → read_column schema r i out counts ≡ hand_out sort out counts r (alone c (length ts) i)
        read out counts =
            read-frame (Ok p) g out counts
            ∙ ap (hand_out sort out counts r) (read-alone (offset_width sort) p ts r i h ∙ ap (λ (d : Result DataValue). alone d (length ts) i) k)

        of_read : (d : Result DataValue) → text_call schema r i ≡ text_read d
            → ((out counts : List ℕ) → read_column schema r i out counts ≡ hand_out sort out counts r (alone d (length ts) i)) → Both
        of_read (Err u) s f = refuse u s f
        of_read (Ok v) s f =
            answer (range_of v) s
            (record {
              columns = length ts;
              inside = h;
              value = v;
              range = refl;
              read = λ out counts.
                  f out counts
                  ∙ ap (placed_both out counts (list_of sort (set (replicate (length ts) Null) i v))) (alone-counts r v (length ts) i);
              null-empty = λ z. ap (λ (u : DataValue). text_part r (Ok (range_of u))) z;
            })

    by_frame : (f : Result Bool) → frame_of sort ts r ≡ f → Both
    by_frame (Err u) g = refuse u (of_frame (Err u) g) (read-frame (Err u) g)
    by_frame (Ok p) g = by_column p g (column_value (offset_width sort) p ts i r) refl

  module _ (is-column : text_call schema r i ≡ Err NoSuchColumn → ⊥)
      (is-text : text_call schema r i ≡ Err (WrongKind i) → ⊥) where
    by_tests : (ts : List DataType) → schema_of sort schema ≡ Ok ts → (x y : Bool) → leb (length ts) i ≡ x
        → holds_text (type_at ts i) ≡ y
        → text_call schema r i ≡ cond x (Err NoSuchColumn)
        (cond y (text_in_row sort ts r i) (Err (WrongKind i))) → Both
    by_tests ts e true y l t s = absurd (is-column s)
    by_tests ts e false false l t s = absurd (is-text s)
    by_tests ts e false true l t s = by_frame ts e (leb-false (length ts) i l) s (frame_of sort ts r) refl

    by_schema : (q : Parsed) → schema_of sort schema ≡ q → Both
    by_schema (Err u) e = refuse u (of_schema (Err u) e) (read-schema (Err u) e)
    by_schema (Ok ts) e = by_tests ts e (leb (length ts) i) (holds_text (type_at ts i)) refl refl
        (of_schema (Ok ts) e)

  -- ---- in which each says what the other does

  abbrev refused_with : Counted → Refusal
  refused_with (Err e, after) = e
  refused_with (Ok n, after) = NoRoom

  abbrev IsRefused : Counted → Type 0
  IsRefused (Err e, after) = Unit {0}
  IsRefused (Ok n, after) = ⊥

  apart : {x : TextRange} {e : Refusal} → text_call schema r i ≡ Ok x
      → text_call schema r i ≡ Err e → ⊥
  apart p q = let z : ◌≡◌ {A = ℕ} 0 1 = cc in omega arith

  refused_there : Both → (e : Refusal) → text_call schema r i ≡ Err e → (out counts : List ℕ)
      → read_column schema r i out counts ≡ unchanged_both out counts e
  refused_there (refuse u s f) e t out counts =
      let same : u ≡ e = cc in f out counts ∙ ap (unchanged_both out counts) same
  refused_there (answer x s n) e t out counts = absurd (apart s t)

  refused-here : Both → (e : Refusal) → ((out counts : List ℕ) → read_column schema r i out counts ≡ unchanged_both out counts e)
      → text_call schema r i ≡ Err e
  refused-here (refuse u s f) e t = s ∙ ap Err (ap refused_with (sym (f [] []) ∙ t [] []))
  refused-here (answer x s n) e t =
      let l : List ℕ = list_of sort (set (replicate n.columns Null) i n.value) in
      let m : List ℕ = set (replicate n.columns 0) i (points_in r n.value) in
      let full = rw (le-ltb (length l) (length l) (omega arith), le-ltb (length m) (length m) (omega arith)) at (n.read l m) in
      absurd (subst IsRefused (sym (t l m) ∙ full) tt)

  named : Both → (x : TextRange) → text_call schema r i ≡ Ok x → Names schema r i x
  named (refuse u s f) x t = absurd (apart t s)
  named (answer y s n) x t = let same : y ≡ x = cc in subst (Names schema r i) same n

  pub text_as_read : TextAsRead schema r i
  text_as_read is-column is-text =
      let b = by_schema is-column is-text (schema_of sort schema) refl in
      record { refuses = λ e. (refused_there b e, refused-here b e); names = named b }
