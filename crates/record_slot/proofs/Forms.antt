-- A column's value by the bytes of both records: whether the column holds it, what it adds to the row, and its stored form.
use Rattle.error.specs.Result.{Result}
use Rattle.std.specs.Prelude.{Err, Ok}
use Prim.Native.Nat.{ℕ, ◌+◌, ◌/◌, ◌%◌, ◌≤◌, ◌<◌}
use mathlib.Core.Path.{◌≡◌, refl, sym, ap, ◌∙◌, subst}
use mathlib.Core.Bool.{Bool, true, false, cond, false≢true}
use mathlib.Core.List.{List, []}
use native.Mathlib.Omega.{arith}
use borrow.Author.Tests.{eqb-true, eqb-false, eq-eqb, ne_eqb, leb-true, le-leb}
use lib.Dec.{eqb, leb}
use lib.ListN.{length, get_or}
use mir.Syntax.{Width}
use mir.Val.{Fits, to_z, of_z}
use mir.ValLaws.{of_z-to_z}
use Rattle.error.specs.declared.Refusal.TheVariants.{WrongKind, Unsuitable}
use Rattle.laws.proofs.Truths.{both}
use Rattle.text_limit.specs.Limit.{size_by, fits_text}
use Rattle.text_limit.proofs.Limits.{fits-size, fits-valid}
use Rattle.bit_utils.specs.Bits.{bytes_for}
use Rattle.datatype.specs.declared.DataType.{DataType}
use Rattle.datatype.specs.declared.DataType.TheVariants as T
use Rattle.datatype.specs.Types.{size_of, is_varlen, precision_of, counts_points}
use Rattle.datatype.specs.Schema.{column_kind, column_record_at}
use Rattle.datatype.specs.InnerSteps.{type_in}
use Rattle.datatype.proofs.Records.{few-digits, points-told}
use Rattle.value.specs.declared.TextRange.{TextRange}
use Rattle.value.specs.declared.DataValue.{DataValue}
use Rattle.value.specs.Kinds.{kind_of, value_kind, matches, plain_kind, is_long_kind}
use Rattle.value.specs.Ranges.{no_text, in_area, part, range_of, text_of}
use Rattle.value.specs.InnerKinds.{held_kind}
use Rattle.value_list.specs.Records.{body_length, numeric_at, range_at, range_width, value_at, record_at as valueRecordAt}
use Rattle.value_list.specs.InnerSizes.{body_in}
use Rattle.value_list.proofs.LongKinds.{plain_known}
use Rattle.stored_form.specs.Write.{accepted, stored_form}
use Rattle.stored_form.proofs.Lengths.{fits_below}
use Rattle.record_slot.specs.Stored.{is_null}
use Rattle.record_slot.specs.InnerSteps.{HasType, Readable, value_in, declared_at, text_suits, bits_suit, suits_at, Testable, payload_length, payload_in, form_in, slot_size, body_stored, slot_stored, SlotReady, NumberReady, TextThere, Suited}
use Rattle.record_slot.proofs.Tests.{payload-short, cell_wrong, cell_unsuited, size-refused, size-null, size-fixed, size-varchar}
use Rattle.record_slot.proofs.Held.{null-plain, read_at, value_body, body_within, kind_known, Declared, told}

-- ---- numbers by their bits, and texts that suit

pub by_bits : (w : Width) {x z : ℕ} → Fits w x → x ≡ z → x ≡ of_z w (to_z w z)
by_bits w {x} f e = sym (of_z-to_z w x f) ∙ ap (λ (m : ℕ). of_z w (to_z w m)) e

module _ (p : Bool) (n : ℕ) (r : TextRange) (area : List ℕ) (e : text_suits p n r area ≡ true) where
  pub text-inside : r.start + r.length ≤ length area
  text-inside = leb-true (r.start + r.length) (length area) (both (in_area (length area) r) (fits_text p n (part area r)) e).0

  text-fits : fits_text p n (part area r) ≡ true
  text-fits = (both (in_area (length area) r) (fits_text p n (part area r)) e).1

  pub text-within : size_by p (part area r) ≤ n
  text-within = fits-size p n (part area r) text-fits

  pub text_there : TextThere r area
  text_there = record { inside = text-inside; valid = fits-valid p n (part area r) text-fits }

module _ (n : ℕ) (r : TextRange) (area : List ℕ) (e : bits_suit n r area ≡ true) where
  pub bits_inside : r.start + r.length ≤ length area
  bits_inside = leb-true (r.start + r.length) (length area) (both (in_area (length area) r) (eqb (length (part area r)) (bytes_for n)) e).0

  pub bits_within : length (part area r) ≡ bytes_for n
  bits_within = eqb-true (length (part area r)) (bytes_for n) (both (in_area (length area) r) (eqb (length (part area r)) (bytes_for n)) e).1

-- ---- a value and its kind

pub varlen_kind : (t : DataType) → is_varlen t ≡ eqb (value_kind t) 9
varlen_kind T.SmallInt = refl
varlen_kind T.Int = refl
varlen_kind T.BigInt = refl
varlen_kind T.Real = refl
varlen_kind T.DoublePrecision = refl
varlen_kind (T.Numeric p s) = refl
varlen_kind (T.Decimal p s) = refl
varlen_kind T.Bool = refl
varlen_kind (T.Char m) = refl
varlen_kind (T.Character m) = refl
varlen_kind (T.Varchar p m) = refl
varlen_kind T.Date = refl
varlen_kind T.Time = refl
varlen_kind (T.Bit m) = refl
varlen_kind T.Timestamp = refl

no_null : (t : DataType) → value_kind t ≡ 0 → ⊥
no_null T.SmallInt e = omega (arith, e)
no_null T.Int e = omega (arith, e)
no_null T.BigInt e = omega (arith, e)
no_null T.Real e = omega (arith, e)
no_null T.DoublePrecision e = omega (arith, e)
no_null (T.Numeric p s) e = omega (arith, e)
no_null (T.Decimal p s) e = omega (arith, e)
no_null T.Bool e = omega (arith, e)
no_null (T.Char m) e = omega (arith, e)
no_null (T.Character m) e = omega (arith, e)
no_null (T.Varchar p m) e = omega (arith, e)
no_null T.Date e = omega (arith, e)
no_null T.Time e = omega (arith, e)
no_null (T.Bit m) e = omega (arith, e)
no_null T.Timestamp e = omega (arith, e)

module _ (w : ℕ) (list : List ℕ) (at : ℕ) where
  back : (k : ℕ) (t : Bool) (x y : DataValue) → (t ≡ true → kind_of x ≡ k) → ((kind_of y ≡ 0 → ⊥) → kind_of y ≡ k) → (kind_of (cond t x y) ≡ 0 → ⊥) → kind_of (cond t x y) ≡ k
  back k true x y f g n = f refl
  back k false x y f g n = g n

  kind-back : (k : ℕ) → (kind_of (value_at w k list at) ≡ 0 → ⊥) → kind_of (value_at w k list at) ≡ k
  kind-back k =
      back k (eqb k 1) _ _ (λ e. sym (eqb-true k 1 e))
      (back k (eqb k 2) _ _ (λ e. sym (eqb-true k 2 e))
      (back k (eqb k 3) _ _ (λ e. sym (eqb-true k 3 e))
      (back k (eqb k 4) _ _ (λ e. sym (eqb-true k 4 e))
      (back k (eqb k 5) _ _ (λ e. sym (eqb-true k 5 e))
      (back k (eqb k 6) _ _ (λ e. sym (eqb-true k 6 e))
      (back k (eqb k 7) _ _ (λ e. sym (eqb-true k 7 e))
      (back k (eqb k 8) _ _ (λ e. sym (eqb-true k 8 e))
      (back k (eqb k 9) _ _ (λ e. sym (eqb-true k 9 e))
      (back k (eqb k 10) _ _ (λ e. sym (eqb-true k 10 e))
      (back k (eqb k 11) _ _ (λ e. sym (eqb-true k 11 e))
      (back k (eqb k 12) _ _ (λ e. sym (eqb-true k 12 e))
      (back k (eqb k 13) _ _ (λ e. sym (eqb-true k 13 e)) (λ n. absurd (n refl))))))))))))))

  past : (k j : ℕ) (x y : DataValue) → is_null x ≡ false → j ≤ k → (j < k → is_null y ≡ false) → is_null (cond (eqb k j) x y) ≡ false
  past k j x y f h g = by_test (eqb k j) refl
    where
      by_test : (b : Bool) → eqb k j ≡ b → is_null (cond b x y) ≡ false
      by_test true e = f
      by_test false e = let n = eqb-false k j e in g (omega (arith, h, n))

  -- a kind other than 0 has values
  some-value : (k : ℕ) → 1 ≤ k → k ≤ 13 → is_null (value_at w k list at) ≡ false
  some-value k h₁ l =
      past k 1 _ _ refl h₁ (λ h2.
      (past k 2 _ _ refl (omega (arith, h2)) (λ h3.
      (past k 3 _ _ refl (omega (arith, h3)) (λ h4.
      (past k 4 _ _ refl (omega (arith, h4)) (λ h5.
      (past k 5 _ _ refl (omega (arith, h5)) (λ h6.
      (past k 6 _ _ refl (omega (arith, h6)) (λ h7.
      (past k 7 _ _ refl (omega (arith, h7)) (λ h8.
      (past k 8 _ _ refl (omega (arith, h8)) (λ h9.
      (past k 9 _ _ refl (omega (arith, h9)) (λ h10.
      (past k 10 _ _ refl (omega (arith, h10)) (λ h11.
      (past k 11 _ _ refl (omega (arith, h11)) (λ h12.
      (past k 12 _ _ refl (omega (arith, h12)) (λ h13.
      (past k 13 _ _ refl (omega (arith, h13)) (λ h14.
      absurd (omega (arith, h14, l)))))))))))))))))))))))))))

  -- the kind of a value that is no null
  kind_of_lem : (k : ℕ) → 1 ≤ k → k ≤ 13 → kind_of (value_at w k list at) ≡ k
  kind_of_lem k h l = kind-back k (eqb-false (kind_of (value_at w k list at)) 0 (some-value k h l))

  -- a value that matches a type has its kind
  matched_kind : (t : DataType) (k : ℕ) → matches t (value_at w k list at) ≡ true → k ≡ value_kind t
  matched_kind t k m =
      let e : kind_of (value_at w k list at) ≡ value_kind t = eqb-true (kind_of (value_at w k list at)) (value_kind t) m in
      sym (kind-back k (λ z. no_null t (sym e ∙ z))) ∙ e

-- ---- a value of the kind that a type holds, by the bytes of its body

module _ (w : ℕ) (list : List ℕ) (at : ℕ) where
  abbrev body : DataType → DataValue
  body t = value_at w (value_kind t) list at

  record Body (t : DataType) (n : ℕ) : Type 0 where
    match : matches t (body t) ≡ true
    value : is_null (body t) ≡ false
    payload : payload_length w (value_kind t) list at ≡ cond (is_varlen t) (range_of (body t)).length 0
    size : slot_size (value_kind t) n ≡ size_of t
    suited : (area : List ℕ) → suits_at (counts_points t) w (value_kind t) n list at area ≡ accepted t (body t) area
    form : is_varlen t ≡ false → (area : List ℕ) → slot_stored w (value_kind t) n list at area ≡ stored_form t (body t) (text_of area (body t))

  -- no range lies in every area
  in_any : (area : List ℕ) (b : Bool) → b ≡ cond (in_area (length area) no_text) b false
  in_any area b = rw (le-leb 0 (length area) (omega arith))

  body_of : (t : DataType) (n : ℕ) → Declared t n → Body t n
  body_of T.SmallInt n d = record { match = refl; value = refl; payload = refl; size = refl; suited = λ area. in_any area true; form = λ f area. refl }
  body_of T.Int n d = record { match = refl; value = refl; payload = refl; size = refl; suited = λ area. in_any area true; form = λ f area. refl }
  body_of T.BigInt n d = record { match = refl; value = refl; payload = refl; size = refl; suited = λ area. in_any area true; form = λ f area. refl }
  body_of T.Real n d = record { match = refl; value = refl; payload = refl; size = refl; suited = λ area. in_any area true; form = λ f area. refl }
  body_of T.DoublePrecision n d = record { match = refl; value = refl; payload = refl; size = refl; suited = λ area. in_any area true; form = λ f area. refl }
  body_of (T.Numeric p s) n d = record { match = refl; value = refl; payload = refl; size = rw d.0; suited = λ area. rw (d.0, d.1) (in_any area _); form = λ f area. rw d.0 }
  body_of (T.Decimal p s) n d = record { match = refl; value = refl; payload = refl; size = rw d.0; suited = λ area. rw (d.0, d.1) (in_any area _); form = λ f area. rw d.0 }
  body_of T.Bool n d = record { match = refl; value = refl; payload = refl; size = refl; suited = λ area. in_any area (leb (get_or list at 0) 1); form = λ f area. refl }
  body_of (T.Char m) n d = record { match = refl; value = refl; payload = refl; size = sym d; suited = λ area. rw d; form = λ f area. rw d }
  body_of (T.Character m) n d = record { match = refl; value = refl; payload = refl; size = sym d; suited = λ area. rw d; form = λ f area. rw d }
  body_of (T.Varchar p m) n d = record { match = refl; value = refl; payload = refl; size = refl; suited = λ area. rw d; form = λ f. absurd (false≢true (sym f)) }
  body_of T.Date n d = record { match = refl; value = refl; payload = refl; size = refl; suited = λ area. in_any area _; form = λ f area. refl }
  body_of T.Time n d = record { match = refl; value = refl; payload = refl; size = refl; suited = λ area. in_any area _; form = λ f area. refl }
  body_of (T.Bit m) n d = record { match = refl; value = refl; payload = refl; size = rw d; suited = λ area. rw d; form = λ f area. rw d }
  body_of T.Timestamp n d = record { match = refl; value = refl; payload = refl; size = refl; suited = λ area. in_any area _; form = λ f area. refl }

-- kinds whose stored form is the body
module _ (k n : ℕ) where
  plain-stored : (w : ℕ) (list : List ℕ) (at : ℕ) (area : List ℕ) → (k ≡ 6 → ⊥) → (k ≡ 8 → ⊥) → (k ≡ 12 → ⊥) → body_stored k list at ≡ slot_stored w k n list at area
  plain-stored w list at area a b c = rw (ne_eqb k 6 a, ne_eqb k 8 b, ne_eqb k 12 c)

  -- no kind at all
  pub none-stored : (list : List ℕ) (at : ℕ) → (k ≡ 1 → ⊥) → (k ≡ 2 → ⊥) → (k ≡ 3 → ⊥) → (k ≡ 4 → ⊥) → (k ≡ 5 → ⊥) → (k ≡ 7 → ⊥) → (k ≡ 10 → ⊥) → (k ≡ 11 → ⊥) → (k ≡ 13 → ⊥) → [] ≡ body_stored k list at
  none-stored list at a b c d e f g h i = simp (ne_eqb k 1 a, ne_eqb k 2 b, ne_eqb k 3 c, ne_eqb k 4 d, ne_eqb k 5 e, ne_eqb k 7 f, ne_eqb k 10 g, ne_eqb k 11 h, ne_eqb k 13 i)

  pub plain_size_lem : (k ≡ 6 → ⊥) → (k ≡ 8 → ⊥) → eqb k 9 ≡ false → (k ≡ 12 → ⊥) → body_length k ≡ slot_size k n
  plain_size_lem a b d c = rw (ne_eqb k 6 a, ne_eqb k 8 b, d, ne_eqb k 12 c)

-- the digits of a Numeric or a Decimal
digits_declared : (t : DataType) (n : ℕ) → Declared t n → value_kind t ≡ 6 → n % 256 ≡ precision_of t
digits_declared T.SmallInt n d e = absurd (omega (arith, e))
digits_declared T.Int n d e = absurd (omega (arith, e))
digits_declared T.BigInt n d e = absurd (omega (arith, e))
digits_declared T.Real n d e = absurd (omega (arith, e))
digits_declared T.DoublePrecision n d e = absurd (omega (arith, e))
digits_declared (T.Numeric p s) n d e = d.0
digits_declared (T.Decimal p s) n d e = d.0
digits_declared T.Bool n d e = absurd (omega (arith, e))
digits_declared (T.Char m) n d e = absurd (omega (arith, e))
digits_declared (T.Character m) n d e = absurd (omega (arith, e))
digits_declared (T.Varchar p m) n d e = absurd (omega (arith, e))
digits_declared T.Date n d e = absurd (omega (arith, e))
digits_declared T.Time n d e = absurd (omega (arith, e))
digits_declared (T.Bit m) n d e = absurd (omega (arith, e))
digits_declared T.Timestamp n d e = absurd (omega (arith, e))

-- ---- the bytes of a column's slot

pub slot-bytes : {s : List ℕ} {at : ℕ} → HasType s at → {k n : ℕ} → k ≡ held_kind (column_kind (get_or s at 0)) → n ≡ declared_at s at → slot_size k n ≡ size_of (type_in (column_record_at s at))
slot-bytes {s} {at} h {k} {n} f g = rw (f, g) (by_record (column_record_at s at) refl)
  where
    by_record : (q : Result (DataType × ℕ)) → column_record_at s at ≡ q → slot_size (held_kind (column_kind (get_or s at 0))) (declared_at s at) ≡ size_of (type_in q)
    by_record (Ok (t, next)) e = rw (told s at e).0 (body_of 0 [] 0 t (declared_at s at) (told s at e).1).size
    by_record (Err u) e = absurd (h.type_there e)

-- ---- the column's value at a place

module _ {s : List ℕ} {at : ℕ} {list : List ℕ} {from : ℕ} (r : Readable s at list from) where
  abbrev t : DataType
  t = type_in (column_record_at s at)

  abbrev v : DataValue
  v = value_in (valueRecordAt list from)

  abbrev given : ℕ
  given = get_or list from 0

  -- the kind of the value, and whether its range has numbers of four bytes
  abbrev k : ℕ
  k = plain_kind given

  abbrev w : ℕ
  w = range_width given

  abbrev n : ℕ
  n = declared_at s at

  abbrev q : Bool
  q = counts_points t

  known : k ≤ 13
  known = plain_known given (kind_known r)

  by_type : Body w list (from + 1) t n
  by_type = body_of w list (from + 1) t n (told s at (read_at r).type_is).1

  -- its bytes in the offset table, by its kind
  pub entry_bytes : (w : ℕ) {j z : ℕ} → j ≡ held_kind (column_kind (get_or s at 0)) → z ≡ cond (eqb j 9) w 0 → z ≡ cond (is_varlen t) w 0
  entry_bytes w e f = f ∙ ap (λ (m : ℕ). cond (eqb m 9) w 0) (e ∙ (told s at (read_at r).type_is).0) ∙ ap (λ (b : Bool). cond b w 0) (sym (varlen_kind t))

  pub within_at : (j : ℕ) → k ≡ j → from + 1 + body_in (is_long_kind given) j ≤ length list
  within_at j e = subst (λ (m : ℕ). from + 1 + body_in (is_long_kind given) m ≤ length list) e (body_within r)

  pub is-null : k ≡ 0 → is_null v ≡ true
  is-null e = rw (value_body r, e) refl

  pub is-value : (k ≡ 0 → ⊥) → is_null v ≡ false
  is-value z = rw (value_body r) (some-value w list (from + 1) k (omega (arith, z)) known)

  -- by the kind of the record
  pub given-null : given ≡ 0 → is_null v ≡ true
  given-null e = is-null (ap plain_kind e)

  pub given-value : (given ≡ 0 → ⊥) → is_null v ≡ false
  given-value z = is-value (λ e. z (null-plain given e))

  -- ---- what it adds to the row

  module _ (i : ℕ) (area : List ℕ) where
    pub null-payload : k ≡ 0 → Ok 0 ≡ payload_in i s at list from area
    null-payload e = size-null i t v area (is-null e)

    module _ (z : k ≡ 0 → ⊥) where
      pub wrong_kind : (k ≡ held_kind (column_kind (get_or s at 0)) → ⊥) → Err (WrongKind i) ≡ payload_in i s at list from area
      wrong_kind y =
          let e : matches t v ≡ false = rw (value_body r, kind_of_lem w list (from + 1) k (omega (arith, z)) known) (ne_eqb k (value_kind t) (λ f. y (f ∙ sym (told s at (read_at r).type_is).0))) in
          size-refused i t v area (cell_wrong i t v area (is-value z) e)

      module _ (h : k ≡ held_kind (column_kind (get_or s at 0))) where
        held : k ≡ value_kind t
        held = h ∙ (told s at (read_at r).type_is).0

        held-value : v ≡ value_at w (value_kind t) list (from + 1)
        held-value = value_body r ∙ ap (λ (m : ℕ). value_at w m list (from + 1)) held

        held-matches : matches t v ≡ true
        held-matches = rw held-value by_type.match

        held-suits : suits_at q w k n list (from + 1) area ≡ accepted t v area
        held-suits = ap (λ (m : ℕ). suits_at q w m n list (from + 1) area) held ∙ by_type.suited area ∙ ap (λ (u : DataValue). accepted t u area) (sym held-value)

        held-size : payload_length w k list (from + 1) ≡ cond (is_varlen t) (range_of v).length 0
        held-size = ap (λ (m : ℕ). payload_length w m list (from + 1)) held ∙ by_type.payload ∙ ap (λ (u : DataValue). cond (is_varlen t) (range_of u).length 0) (sym held-value)

        of_declared : n ≤ 65535 → Testable (is_long_kind given) k n list (from + 1)
        of_declared w =
            record {
              inside = body_within r;
              word = w;
              digits = λ e. rw (digits_declared t n (told s at (read_at r).type_is).1 (sym held ∙ e)) (few-digits s at (read_at r).type_is);
            }

        pub testable : {m : ℕ} → m ≡ n → m ≤ 65535 → Testable (is_long_kind given) k m list (from + 1)
        testable {m} d w = subst (λ (j : ℕ). Testable (is_long_kind given) k j list (from + 1)) (sym d) (of_declared (rw d at w))

        -- what the test told
        points-held : eqb (get_or s at 0) 16 ≡ q
        points-held = points-told s at (read_at r).type_is

        told-suits : {m : ℕ} {b c : Bool} → m ≡ n → b ≡ suits_at (eqb (get_or s at 0) 16) w k m list (from + 1) area → b ≡ c → accepted t v area ≡ c
        told-suits {m} d f e =
            sym held-suits ∙ ap (λ (j : ℕ). suits_at q w k j list (from + 1) area) (sym d)
            ∙ ap (λ (b : Bool). suits_at b w k m list (from + 1) area) (sym points-held) ∙ sym f ∙ e

        pub unsuitable : {m : ℕ} {b : Bool} → m ≡ n → b ≡ suits_at (eqb (get_or s at 0) 16) w k m list (from + 1) area → b ≡ false → Err (Unsuitable i) ≡ payload_in i s at list from area
        unsuitable d f e = size-refused i t v area (cell_unsuited i t v area (is-value z) held-matches (told-suits d f e))

        module _ {m : ℕ} {b : Bool} (d : m ≡ n) (f : b ≡ suits_at (eqb (get_or s at 0) 16) w k m list (from + 1) area) (e : b ≡ true) where
          suited : accepted t v area ≡ true
          suited = told-suits d f e

          pub found_payload : Ok (payload_length w k list (from + 1)) ≡ payload_in i s at list from area
          found_payload = rw held-size (by_shape (is_varlen t) refl)
            where
              by_shape : (o : Bool) → is_varlen t ≡ o → Ok (cond o (range_of v).length 0) ≡ payload_in i s at list from area
              by_shape true g = size-varchar i t v area (is-value z) held-matches suited g
              by_shape false g = size-fixed i t v area (is-value z) held-matches suited g

          pub found_short : length area ≤ 1048576 → payload_length w k list (from + 1) ≤ 1048576
          found_short l = rw held-size (by_shape (is_varlen t))
            where
              by_shape : (o : Bool) → cond o (range_of v).length 0 ≤ 1048576
              by_shape true = payload-short t v area held-matches suited l
              by_shape false = omega arith

  -- ---- its stored form

  module _ (m : matches t v ≡ true) where
    pub kind-is : k ≡ value_kind t
    kind-is = matched_kind w list (from + 1) t k (rw (value_body r) at m)

    -- the column's kind tells it too
    pub held_found : {j : ℕ} → j ≡ held_kind (column_kind (get_or s at 0)) → j ≡ k
    held_found e = e ∙ (told s at (read_at r).type_is).0 ∙ sym kind-is

    value-is : v ≡ value_at w (value_kind t) list (from + 1)
    value-is = value_body r ∙ ap (λ (j : ℕ). value_at w j list (from + 1)) kind-is

    pub is_varlen_lem : k ≡ 9 → is_varlen t ≡ true
    is_varlen_lem e = varlen_kind t ∙ eq-eqb (value_kind t) 9 (sym kind-is ∙ e)

    pub is-fixed : (k ≡ 9 → ⊥) → is_varlen t ≡ false
    is-fixed z = varlen_kind t ∙ ne_eqb (value_kind t) 9 (λ e. z (kind-is ∙ e))

    pub range-is : k ≡ 9 → range_of v ≡ range_at w list (from + 1)
    range-is e = rw (value_body r, e) refl

    pub varchar-form : k ≡ 9 → (area : List ℕ) → part area (range_at w list (from + 1)) ≡ form_in s at list from area
    varchar-form e area = rw (value_body r, e) refl

  module _ {area : List ℕ} (u : Suited t v area) where
    kind-suits : suits_at q w k n list (from + 1) area ≡ true
    kind-suits =
        ap (λ (j : ℕ). suits_at q w j n list (from + 1) area) (kind-is u.match) ∙ by_type.suited area
        ∙ ap (λ (w : DataValue). accepted t w area) (sym (value-is u.match)) ∙ u.suited

    -- by the kind that was found
    pub suits_as : (j : ℕ) → k ≡ j → suits_at q w j n list (from + 1) area ≡ true
    suits_as j e = ap (λ (m : ℕ). suits_at q w m n list (from + 1) area) (sym e) ∙ kind-suits

  module _ (m : matches t v ≡ true) (f : is_varlen t ≡ false) (area : List ℕ) where
    fixed-form : slot_stored w k n list (from + 1) area ≡ form_in s at list from area
    fixed-form =
        ap (λ (j : ℕ). slot_stored w j n list (from + 1) area) (kind-is m) ∙ by_type.form f area
        ∙ ap (λ (u : DataValue). stored_form t u (text_of area u)) (sym (value-is m))

    pub form_as : (j : ℕ) → k ≡ j → slot_stored w j n list (from + 1) area ≡ form_in s at list from area
    form_as j e = ap (λ (m : ℕ). slot_stored w m n list (from + 1) area) (sym e) ∙ fixed-form

  module _ {area : List ℕ} {slot room : ℕ} (p : SlotReady t v area slot room) where
    slot-suited : Suited t v area
    slot-suited = record { match = p.match; suited = p.suited }

    slot-room : slot + slot_size k n ≤ room
    slot-room = rw (kind-is p.match, by_type.size) p.room

    -- the same by the kind that was found
    module _ (j : ℕ) (e : k ≡ j) where
      pub form_at : slot_stored w j n list (from + 1) area ≡ form_in s at list from area
      form_at = form_as p.match p.fixed area j e

      pub suits-at : suits_at q w j n list (from + 1) area ≡ true
      suits-at = suits_as slot-suited j e

      pub room_at : slot + slot_size j n ≤ room
      room_at = subst (λ (m : ℕ). slot + slot_size m n ≤ room) e slot-room

    pub number_ready : k ≡ 6 → NumberReady (n % 256) (numeric_at list (from + 1)) slot room
    number_ready e =
        record {
          few = rw (digits_declared t n (told s at (read_at r).type_is).1 (sym (kind-is p.match) ∙ e)) p.digits;
          below = fits_below (T.Numeric (n % 256) (n / 256)) _ _ (suits-at 6 e);
          room = room_at 6 e;
        }

    pub body_stored_lem : (k ≡ 6 → ⊥) → (k ≡ 8 → ⊥) → (k ≡ 12 → ⊥) → body_stored k list (from + 1) ≡ form_in s at list from area
    body_stored_lem a b c = plain-stored k n w list (from + 1) area a b c ∙ fixed-form p.match p.fixed area
