-- A record that was written is read back, and what is read fits a record.
use Rattle.std.specs.Prelude.{Ok}
use Prim.Native.Nat.{ℕ, suc, ◌+◌, ◌^◌, ◌≤◌, ◌<◌, ◌*◌}
use mathlib.Core.Path.{◌≡◌, refl, sym, ap, ◌∙◌, subst}
use mathlib.Core.Bool.{Bool, true, false, cond}
use mathlib.Core.List.{List, [], ◌∷◌, ◌++◌, append_assoc}
use native.Mathlib.Omega.{arith}
use borrow.Author.Tests.{lt-ltb, le-ltb}
use lib.Dec.{eqb}
use lib.IntN.{ℤ}
use lib.ListN.{length, get_or, length-append}
use lib.Seq.{get_or_at, append_snoc}
use mir.Syntax.{Width, w16, w32, w64}
use mir.Val.{bits, Fits, SFits, to_z, of_z}
use mir.ValLaws.{to_z-of_z, to_z-Fits, of_z_fits}
use Rattle.row_format.proofs.Sorts.{width-le, limit_fits, offset-le}
use Rattle.row_format.specs.Places.{offset_width, row_limit}
use Rattle.laws.specs.Bytes.{to_le}
use Rattle.error.proofs.Results.{ok_first, ok_second, refused-ok}
use Rattle.error.specs.Result.{Result}
use Rattle.laws.proofs.Bytes.{AllBytes, from_at, from-part, length-to_le}
use Rattle.laws.proofs.Truths.{cases, by_cond}
use Rattle.value.specs.declared.DataValue.{DataValue}
use Rattle.value.specs.declared.DataValue.TheVariants as D
use Rattle.value.specs.declared.NumericValue.{NumericValue}
use Rattle.value.specs.declared.TextRange.{TextRange}
use Rattle.value.specs.Kinds.{kind_of, is_range_kind, plain_kind, is_long_kind, is_value_kind}
use Rattle.value.specs.Ranges.{range_of as textRange}
use Rattle.value_list.specs.Records.{body_length, number_at, numeric_at, range_at, value_at, record_of_kind, record_at, numeric_bytes, range_body, range_record, body_of, record_of, NarrowRange, SizedNumeric, Sized}
use Rattle.value_list.proofs.LongKinds.{either}
use Rattle.value_list.proofs.Sizes.{body_value, whole_of}
use Rattle.value_list.specs.InnerRecords.{Narrow}

-- ---- lengths

pub length-range : (k : Bool) (kind : ℕ) (r : TextRange) → length (range_record k kind r) ≡ 1 + 2 * offset_width k
length-range false kind r = refl
length-range true kind r = refl

-- ---- a body at a place is read back

module _ (p q : List ℕ) (at : ℕ) (e : length p ≡ at) where
  signed-read : (w : Width) (n : ℕ) → 2 ^ bits w ≡ 256 ^ n → (x : ℤ) → SFits w x → to_z w (number_at n (p ++ (to_le n (of_z w x) ++ q)) at) ≡ x
  signed-read w n s x f = ap (to_z w) (from_at n (of_z w x) p q at e (rw s at (of_z_fits w x f).fits)) ∙ to_z-of_z w x f

  unsigned_read : (w : Width) (n : ℕ) → 2 ^ bits w ≡ 256 ^ n → (x : ℕ) → Fits w x → number_at n (p ++ (to_le n x ++ q)) at ≡ x
  unsigned_read w n s x f = from_at n x p q at e (rw s at f.fits)

-- numbers of w bytes each
range-read : (w : ℕ) (p q : List ℕ) (at : ℕ) → length p ≡ at → (r : TextRange) → NarrowRange w r → range_at w (p ++ (range_body w r ++ q)) at ≡ r
range-read w p q at e r f =
    let cut : p ++ (range_body w r ++ q) ≡ p ++ (to_le w r.start ++ (to_le w r.length ++ q)) = ap (λ (l : List ℕ). p ++ l) (append_assoc (to_le w r.start) (to_le w r.length) q) in
    let one : number_at w (p ++ (range_body w r ++ q)) at ≡ r.start = ap (λ (l : List ℕ). number_at w l at) cut ∙ from_at w r.start p (to_le w r.length ++ q) at e f.start in
    let two : number_at w (p ++ (range_body w r ++ q)) (at + w) ≡ r.length =
    ap (λ (l : List ℕ). number_at w l (at + w)) (cut ∙ sym (append_assoc p (to_le w r.start) (to_le w r.length ++ q)))
    ∙ from_at w r.length (p ++ to_le w r.start) q (at + w) (length-append p (to_le w r.start) ∙ rw (length-to_le w r.start, e)) f.size in
    rw (one, two)

numeric_read : (p q : List ℕ) (at : ℕ) → length p ≡ at → (n : NumericValue) → SizedNumeric n → numeric_at (p ++ (numeric_bytes n ++ q)) at ≡ n
numeric_read p q at e n f =
    let low = to_le 8 n.low in
    let high = to_le 8 (of_z w64 n.high) in
    let past : length (p ++ low) ≡ at + 8 = length-append p low ∙ ap (λ (m : ℕ). m + 8) e in
    let end : length ((p ++ low) ++ high) ≡ at + 16 = length-append (p ++ low) high ∙ ap (λ (m : ℕ). m + 8) past ∙ omega arith in
    let cut : p ++ (numeric_bytes n ++ q) ≡ (p ++ low) ++ (high ++ (n.scale ∷ q)) = sym (append_assoc p low (high ++ (n.scale ∷ q))) in
    let one : number_at 8 (p ++ (numeric_bytes n ++ q)) at ≡ n.low = unsigned_read p (high ++ (n.scale ∷ q)) at e w64 8 refl n.low f.low in
    let two : to_z w64 (number_at 8 (p ++ (numeric_bytes n ++ q)) (at + 8)) ≡ n.high =
    ap (λ (l : List ℕ). to_z w64 (number_at 8 l (at + 8))) cut ∙ signed-read (p ++ low) (n.scale ∷ q) (at + 8) past w64 8 refl n.high f.high in
    let three : get_or (p ++ (numeric_bytes n ++ q)) (at + 16) 0 ≡ n.scale =
    ap (λ (l : List ℕ). get_or l (at + 16) 0) (cut ∙ sym (append_assoc (p ++ low) high (n.scale ∷ q))) ∙ get_or_at ((p ++ low) ++ high) n.scale q 0 (at + 16) end in
    rw (one, two, three)

-- a value's record for rows of a sort: its kind, its body, and that they are read back
record Form (k : Bool) (v : DataValue) : Type 0 where
  pub kind : ℕ
  pub body : List ℕ
  pub whole : record_of k v ≡ kind ∷ body
  pub known : is_value_kind kind ≡ true
  pub size : length body ≡ body_length kind
  pub back : (p q : List ℕ) (at : ℕ) → length p ≡ at → body_value kind (p ++ (body ++ q)) at ≡ v

-- one without a range has its own kind and body
plain : {k : Bool} {v : DataValue} → record_of k v ≡ kind_of v ∷ body_of v → is_value_kind (kind_of v) ≡ true → length (body_of v) ≡ body_length (kind_of v)
    → ((p q : List ℕ) (at : ℕ) → length p ≡ at → body_value (kind_of v) (p ++ (body_of v ++ q)) at ≡ v) → Form k v
plain {k} {v} w n l b = record { kind = kind_of v; body = body_of v; whole = w; known = n; size = l; back = b }

form_of : (k : Bool) (v : DataValue) → Sized v → Narrow k v → Form k v
form_of k D.Null f n = plain refl refl refl (λ p q at e. refl)
form_of k (D.SmallInt x) f n = plain refl refl refl (λ p q at e. ap D.SmallInt (signed-read p q at e w16 2 refl x f))
form_of k (D.Int x) f n = plain refl refl refl (λ p q at e. ap D.Int (signed-read p q at e w32 4 refl x f))
form_of k (D.BigInt x) f n = plain refl refl refl (λ p q at e. ap D.BigInt (signed-read p q at e w64 8 refl x f))
form_of k (D.Real x) f n = plain refl refl refl (λ p q at e. ap D.Real (unsigned_read p q at e w32 4 refl x f))
form_of k (D.DoublePrecision x) f n = plain refl refl refl (λ p q at e. ap D.DoublePrecision (unsigned_read p q at e w64 8 refl x f))
form_of k (D.Numeric m) f n = plain refl refl refl (λ p q at e. ap D.Numeric (numeric_read p q at e m f))
form_of k (D.Bool b) f n = plain refl refl refl (λ p q at e. ap D.Bool (get_or_at p b q 0 at e))
form_of false (D.Char r) f n = plain refl refl refl (λ p q at e. ap D.Char (range-read 2 p q at e r n))
form_of true (D.Char r) f n = record { kind = 17; body = range_body 4 r; whole = refl; known = refl; size = refl; back = λ p q at e. ap D.Char (range-read 4 p q at e r n) }
form_of false (D.Varchar r) f n = plain refl refl refl (λ p q at e. ap D.Varchar (range-read 2 p q at e r n))
form_of true (D.Varchar r) f n = record { kind = 18; body = range_body 4 r; whole = refl; known = refl; size = refl; back = λ p q at e. ap D.Varchar (range-read 4 p q at e r n) }
form_of k (D.Date x) f n = plain refl refl refl (λ p q at e. ap D.Date (signed-read p q at e w32 4 refl x f))
form_of k (D.Time x) f n = plain refl refl refl (λ p q at e. ap D.Time (signed-read p q at e w64 8 refl x f))
form_of false (D.Bit r) f n = plain refl refl refl (λ p q at e. ap D.Bit (range-read 2 p q at e r n))
form_of true (D.Bit r) f n = record { kind = 19; body = range_body 4 r; whole = refl; known = refl; size = refl; back = λ p q at e. ap D.Bit (range-read 4 p q at e r n) }
form_of k (D.Timestamp x) f n = plain refl refl refl (λ p q at e. ap D.Timestamp (signed-read p q at e w64 8 refl x f))

-- a record at a place of any list is read back, with the place after it
form-read : (us vs : List ℕ) (at : ℕ) → length us ≡ at → {k : Bool} {v : DataValue} (m : Form k v) → record_at (us ++ ((m.kind ∷ m.body) ++ vs)) at ≡ Ok (v, (at + length (m.kind ∷ m.body)))
form-read us vs at e {k} {v} m =
    let s = us ++ ((m.kind ∷ m.body) ++ vs) in
    let n = body_length m.kind in
    let kind : get_or s at 0 ≡ m.kind = get_or_at us m.kind (m.body ++ vs) 0 at e in
    let long : length (m.kind ∷ m.body) ≡ 1 + n = ap suc m.size ∙ omega arith in
    let lengths : length s ≡ at + (1 + n + length vs) =
    length-append us ((m.kind ∷ m.body) ++ vs) ∙ ap (λ (x : ℕ). length us + x) (length-append (m.kind ∷ m.body) vs ∙ ap (λ (x : ℕ). x + length vs) long) ∙ ap (λ (x : ℕ). x + (1 + n + length vs)) e in
    let body : body_value m.kind s (at + 1) ≡ v =
    ap (λ (l : List ℕ). body_value m.kind l (at + 1)) (sym (append_snoc us m.kind (m.body ++ vs)))
    ∙ m.back (us ++ (m.kind ∷ [])) vs (at + 1) (length-append us (m.kind ∷ []) ∙ ap (λ (x : ℕ). x + 1) e) in
    ap (λ (x : ℕ). record_of_kind x s at) kind
    ∙ whole_of s at m.kind m.known (rw lengths (omega arith))
    ∙ ap (λ (u : DataValue). Ok (u, (at + (1 + n)))) body
    ∙ ap (λ (x : ℕ). Ok (v, (at + x))) (sym long)

pub record_read : (us vs : List ℕ) (at : ℕ) → length us ≡ at → (k : Bool) (v : DataValue) → Sized v → Narrow k v → record_at (us ++ (record_of k v ++ vs)) at ≡ Ok (v, (at + length (record_of k v)))
record_read us vs at e k v f n = let m = form_of k v f n in rw m.whole (form-read us vs at e m)

-- it has a byte or more
pub record_least : (k : Bool) (v : DataValue) → 0 < length (record_of k v)
record_least k v = by_cond (λ (r : List ℕ). 0 < length r) (is_range_kind (kind_of v)) _ _ (λ h. of_range k) (λ h. omega arith)
  where
    of_range : (k : Bool) → 0 < length (range_record k (kind_of v) (textRange v))
    of_range k = omega (arith, length-range k (kind_of v) (textRange v))

-- ---- what is read fits a record

module _ (s : List ℕ) (a : AllBytes s) where
  fits_4 : (at : ℕ) → Fits w32 (number_at 4 s at)
  fits_4 at = record { fits = from-part 4 at s a }

  fits_8 : (at : ℕ) → Fits w64 (number_at 8 s at)
  fits_8 at = record { fits = from-part 8 at s a }

  int_2 : (at : ℕ) → SFits w16 (to_z w16 (number_at 2 s at))
  int_2 at = to_z-Fits w16 (number_at 2 s at) (record { fits = from-part 2 at s a })

  int_4 : (at : ℕ) → SFits w32 (to_z w32 (number_at 4 s at))
  int_4 at = to_z-Fits w32 (number_at 4 s at) (fits_4 at)

  int_8 : (at : ℕ) → SFits w64 (to_z w64 (number_at 8 s at))
  int_8 at = to_z-Fits w64 (number_at 8 s at) (fits_8 at)

  numeric_sized : (at : ℕ) → SizedNumeric (numeric_at s at)
  numeric_sized at = record { high = int_8 (at + 8); low = fits_8 at; scale = a (at + 16) }

  range-sized : (k : Bool) (at : ℕ) → NarrowRange 4 (range_at (offset_width k) s at)
  range-sized k at =
      let w : ℕ = offset_width k in
      let h = offset-le k in
      let a₁ = from-part w at s a in
      let a₂ = from-part w (at + w) s a in
      record { start = omega arith; size = omega arith }

  one_of : (t : Bool) (x y : DataValue) → Sized x → Sized y → Sized (cond t x y)
  one_of true x y p q = p
  one_of false x y p q = q

  body_sized : (t : Bool) (k at : ℕ) → Sized (value_at (offset_width t) k s at)
  body_sized t k at =
      one_of (eqb k 1) _ _ (int_2 at)
      (one_of (eqb k 2) _ _ (int_4 at)
      (one_of (eqb k 3) _ _ (int_8 at)
      (one_of (eqb k 4) _ _ (fits_4 at)
      (one_of (eqb k 5) _ _ (fits_8 at)
      (one_of (eqb k 6) _ _ (numeric_sized at)
      (one_of (eqb k 7) _ _ (a at)
      (one_of (eqb k 8) _ _ (range-sized t at)
      (one_of (eqb k 9) _ _ (range-sized t at)
      (one_of (eqb k 10) _ _ (int_4 at)
      (one_of (eqb k 11) _ _ (int_8 at)
      (one_of (eqb k 12) _ _ (range-sized t at)
      (one_of (eqb k 13) _ _ (int_8 at) tt))))))))))))

-- a record that is not refused lies in the list, and its value is that of its body
pub record Given (s : List ℕ) (at : ℕ) (v : DataValue) (next : ℕ) : Type 0 where
  pub value : v ≡ body_value (get_or s at 0) s (at + 1)
  pub known : is_value_kind (get_or s at 0) ≡ true
  pub place : next ≡ at + 1 + body_length (get_or s at 0)
  pub within : next ≤ length s

pub given : (s : List ℕ) (at : ℕ) {v : DataValue} {next : ℕ} → record_at s at ≡ Ok (v, next) → Given s at v next
given s at {v} {next} e =
    let k = get_or s at 0 in
    either (is_value_kind k)
    (λ g.
    cases (length s) (at + 1 + body_length k) (λ l. absurd (refused-ok (rw (g, lt-ltb (length s) (at + 1 + body_length k) l) at e)))
    (λ l. taken g l (rw (g, le-ltb (length s) (at + 1 + body_length k) l) at e)))
    (λ g. absurd (refused-ok (rw g at e)))
  where
    taken : is_value_kind (get_or s at 0) ≡ true → at + 1 + body_length (get_or s at 0) ≤ length s → ◌≡◌ {A = Result (DataValue × ℕ)} (Ok (body_value (get_or s at 0) s (at + 1), at + 1 + body_length (get_or s at 0))) (Ok (v, next)) → Given s at v next
    taken g l p =
        let q : next ≡ at + 1 + body_length (get_or s at 0) = sym (ok_second p) in
        record { value = sym (ok_first p); known = g; place = q; within = rw q l }

-- every value that is read fits a record
pub value-sized : (s : List ℕ) (at : ℕ) {v : DataValue} {next : ℕ} → AllBytes s → record_at s at ≡ Ok (v, next) → Sized v
value-sized s at a e = subst Sized (sym (given s at e).value) (body_sized s a (is_long_kind (get_or s at 0)) (plain_kind (get_or s at 0)) (at + 1))

-- what fits a record can be written for long rows
pub sized_narrow : (v : DataValue) → Sized v → Narrow true v
sized_narrow D.Null f = tt
sized_narrow (D.SmallInt x) f = tt
sized_narrow (D.Int x) f = tt
sized_narrow (D.BigInt x) f = tt
sized_narrow (D.Real x) f = tt
sized_narrow (D.DoublePrecision x) f = tt
sized_narrow (D.Numeric n) f = tt
sized_narrow (D.Bool b) f = tt
sized_narrow (D.Char r) f = f
sized_narrow (D.Varchar r) f = f
sized_narrow (D.Date x) f = tt
sized_narrow (D.Time x) f = tt
sized_narrow (D.Bit r) f = f
sized_narrow (D.Timestamp x) f = tt

range-short : (k : Bool) (kind : ℕ) (r : TextRange) → length (range_record k kind r) ≤ 18
range-short k kind r = omega (arith, length-range k kind r, width-le k)

pub record_short : (k : Bool) (v : DataValue) → length (record_of k v) ≤ 18
record_short k D.Null = omega arith
record_short k (D.SmallInt x) = omega arith
record_short k (D.Int x) = omega arith
record_short k (D.BigInt x) = omega arith
record_short k (D.Real x) = omega arith
record_short k (D.DoublePrecision x) = omega arith
record_short k (D.Numeric x) = omega arith
record_short k (D.Bool x) = omega arith
record_short k (D.Char r) = range-short k 8 r
record_short k (D.Varchar r) = range-short k 9 r
record_short k (D.Date x) = omega arith
record_short k (D.Time x) = omega arith
record_short k (D.Bit r) = range-short k 12 r
record_short k (D.Timestamp x) = omega arith

-- a value whose range fits a record; so does one inside a row
pub range_narrow : (k : Bool) (v : DataValue) → NarrowRange (offset_width k) (textRange v) → Narrow k v
range_narrow k D.Null h = tt
range_narrow k (D.SmallInt x) h = tt
range_narrow k (D.Int x) h = tt
range_narrow k (D.BigInt x) h = tt
range_narrow k (D.Real x) h = tt
range_narrow k (D.DoublePrecision x) h = tt
range_narrow k (D.Numeric x) h = tt
range_narrow k (D.Bool x) h = tt
range_narrow k (D.Char x) h = h
range_narrow k (D.Varchar x) h = h
range_narrow k (D.Date x) h = tt
range_narrow k (D.Time x) h = tt
range_narrow k (D.Bit x) h = h
range_narrow k (D.Timestamp x) h = tt

-- a value without a range fits any record
no_range : (k : Bool) → NarrowRange (offset_width k) (textRange D.Null)
no_range k = record { start = omega (arith, limit_fits k); size = omega (arith, limit_fits k) }

pub narrow_range : (k : Bool) (v : DataValue) → Narrow k v → NarrowRange (offset_width k) (textRange v)
narrow_range k D.Null h = no_range k
narrow_range k (D.SmallInt x) h = no_range k
narrow_range k (D.Int x) h = no_range k
narrow_range k (D.BigInt x) h = no_range k
narrow_range k (D.Real x) h = no_range k
narrow_range k (D.DoublePrecision x) h = no_range k
narrow_range k (D.Numeric x) h = no_range k
narrow_range k (D.Bool x) h = no_range k
narrow_range k (D.Char x) h = h
narrow_range k (D.Varchar x) h = h
narrow_range k (D.Date x) h = no_range k
narrow_range k (D.Time x) h = no_range k
narrow_range k (D.Bit x) h = h
narrow_range k (D.Timestamp x) h = no_range k

pub inside_narrow : (k : Bool) (v : DataValue) → (textRange v).start + (textRange v).length ≤ row_limit k → Narrow k v
inside_narrow k v h = range_narrow k v (record { start = omega (arith, limit_fits k); size = omega (arith, limit_fits k) })
