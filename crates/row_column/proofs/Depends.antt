-- A column's reading depends on the header, its bit, its slot or its offsets and range, and on nothing else.
use Rattle.error.specs.Result.{Result}
use Rattle.std.specs.Prelude.{Err, None, Ok, Option, Some}
use Rattle.value.specs.declared.DataValue.{DataValue}
use Prim.Native.Nat.{ℕ, zero, suc, ◌+◌, ◌*◌, ◌-◌, ◌/◌, ◌%◌, ◌≤◌, ◌<◌}
use mathlib.Core.Path.{◌≡◌, refl, sym, ap, ◌∙◌}
use mathlib.Core.Bool.{Bool, false, cond, false≢true}
use mathlib.Core.List.{List, map}
use native.Mathlib.Nat.{min-le_left}
use native.Mathlib.Omega.{arith}
use borrow.Author.Tests.{le-ltb, eq-eqb}
use lib.Dec.{eqb}
use lib.ListN.{length, get_or, take, drop, length-take}
use lib.Seq.{take-take, take-add, drop_at, length-take-le, get_or-drop}
use Rattle.laws.specs.Bits.{bit_of}
use Rattle.laws.specs.Bytes.{from_le, from_table, entry_at, splice}
use Rattle.laws.proofs.Bytes.{same-length-splice, splice_outside}
use Rattle.laws.proofs.Parts.{part_same}
use Rattle.laws.proofs.Truths.{cases, by_cond}
use Rattle.row_format.specs.Places.{varlens, rank_of, bitmap_start, table_start, slot_place, minimum, offset_width, row_limit}
use Rattle.row_format.specs.Table.{first_offset, range_end}
use Rattle.row_format.proofs.Table.{first_zero, first_some, first_none}
use Rattle.row_layout.specs.declared.VarlenRange.{VarlenRange}
use Rattle.row_layout.specs.declared.VarlenRange.TheVariants as Range
use Rattle.row_layout.specs.Range.{varlen_range}
use Rattle.datatype.specs.declared.DataType.{DataType}
use Rattle.datatype.specs.Types.{size_of, is_varlen, shape_of}
use Rattle.datatype.specs.Check.{type_at}
use Rattle.value.specs.declared.DataValue.TheVariants.{Null}
use Rattle.value.specs.Ranges.{part, text_of}
use Rattle.stored_form.specs.Read.{read_slot}
use Rattle.stored_form.proofs.Within.{OfRange, slot-range}
use Rattle.row_format.specs.Header.{column_count, varlen_field, is_packed}
use Rattle.row_column.specs.Frame.{frame_of}
use Rattle.row_column.specs.Column.{slot_value, varlen_value, column_value}
use Rattle.row_column.specs.Depends.{Zeros, bit_of_column, SameRange, SameVarchar, SameFor, InOffset, LookedAtVarchar, own, higher, range, LookedAt, bit, slot, varchar}
use Rattle.row_column.proofs.Walk.{same_cond}

eqb_no : (a b : ℕ) → eqb a b ≡ false → a ≡ b → ⊥
eqb_no a b e h = false≢true (sym e ∙ eq-eqb a b h)

-- ---- a Varchar

module _ (w table v k : ℕ) (r r' : List ℕ) where
  -- the end of a range, looked for from offset j of q on
  abbrev from : List ℕ → ℕ → ℕ
  from q j = first_offset (drop j (from_table w v (drop table q))) (length r)

  zeros-next : (j : ℕ) → Zeros w table k j r → entry_at w table j r ≡ 0 → Zeros w table k (j + 1) r
  zeros-next j z e i h l = cases i j (λ b. z i h b) (λ g. let q : i ≡ j = omega arith in rw q e)

  same_at : (j o : ℕ) → j < v → o ≡ entry_at w table j r → o ≡ entry_at w table j r'
      → (o ≡ 0 → from r (j + 1) ≡ from r' (j + 1)) → from r j ≡ from r' j
  same_at j zero h a b more =
      sym (first_zero w table v j (length r) 0 r h a refl) ∙ more refl
      ∙ first_zero w table v j (length r) 0 r' h b refl
  same_at j (suc o) h a b more =
      sym (first_some w table v j (length r) (suc o) r h a (λ f. omega arith))
      ∙ first_some w table v j (length r) (suc o) r' h b (λ f. omega arith)

  module _ (s : SameRange w table v k r r') where
    -- the n offsets from j on
    same_from : (n j : ℕ) → j + n ≡ v → k < j → Zeros w table k j r → from r j ≡ from r' j
    same_from zero j e h z =
        sym (first_none w table v j (length r) r (omega arith)) ∙ first_none w table v j (length r) r' (omega arith)
    same_from (suc n) j e h z =
        let l : j < v = omega arith in
        same_at j (entry_at w table j r) l refl (s.higher j (omega arith) l z)
        (λ o. same_from n (j + 1) (omega arith) (omega arith) (zeros-next j z o))

    same_end : range_end w table v k r ≡ range_end w table v k r'
    unfolding range_end
    same_end =
        cases k v (λ h. same_from (v - suc k) (suc k) (omega arith) (omega arith) (λ i a b. absurd (omega arith)))
        (λ h. sym (first_none w table v (suc k) (length r) r (omega arith))
        ∙ first_none w table v (suc k) (length r) r' (omega arith))
        ∙ ap (first_offset (drop (suc k) (from_table w v (drop table r')))) s.size

  same-range : SameVarchar w table v k r r' → varlen_range w table v k r ≡ varlen_range w table v k r'
  same-range s =
      rw (← s.own)
      (same_cond (eqb (entry_at w table k r) 0) (λ e. refl)
      (λ e. let m = s.some (eqb_no (entry_at w table k r) 0 e) in rw (← m.size, ← same_end m)))

  -- a range that is a part of the row
  same_bytes_lem : (t : DataType) (i : ℕ) (q : VarlenRange)
      → ((a e : ℕ) → q ≡ Range.Bytes a e → take (e - a) (drop a r) ≡ take (e - a) (drop a r'))
      → varlen_value t i r q ≡ varlen_value t i r' q
  same_bytes_lem t i Range.Null h = refl
  same_bytes_lem t i (Range.Bytes a e) h = ap (λ (bs : List ℕ). slot_value i (read_slot t a bs)) (h a e refl)
  same_bytes_lem t i Range.Outside h = refl

  bytes-some : {a e : ℕ} → varlen_range w table v k r ≡ Range.Bytes a e → entry_at w table k r ≡ 0 → ⊥
  bytes-some q z = null-bytes (rw (eq-eqb (entry_at w table k r) 0 z) at q)
    where
      null-bytes : {a e : ℕ} → Range.Null ≡ Range.Bytes a e → ⊥
      null-bytes p = let z : ◌≡◌ {A = ℕ} 0 1 = cc in omega arith

  same-varchar : (t : DataType) (i : ℕ) → SameVarchar w table v k r r'
      → varlen_value t i r (varlen_range w table v k r) ≡ varlen_value t i r' (varlen_range w table v k r')
  same-varchar t i s =
      same_bytes_lem t i (varlen_range w table v k r) (λ a e q. (s.some (bytes-some q)).range a e q)
      ∙ ap (varlen_value t i r') (same-range s)

-- ---- any column

pub column_depends : (w : ℕ) (p : Bool) (ts : List DataType) (i : ℕ) (r r' : List ℕ) → SameFor w p ts i r r'
    → column_value w p ts i r ≡ column_value w p ts i r'
column_depends w p ts i r r' s =
    let t : DataType = type_at ts i in
    let at : ℕ = slot_place w p (map shape_of ts) i in
    let size : at + size_of t - at ≡ size_of t = omega arith in
    rw (← s.bit)
    (same_cond (eqb (bit_of_column i r) 1) (λ _. refl)
    (λ e.
    let clear = eqb_no (bit_of_column i r) 1 e in
    same_cond (is_varlen t)
    (λ f. same-varchar w (table_start (length ts)) (varlens (map shape_of ts)) (rank_of (map shape_of ts) i) r r' t i
    (s.varchar clear f))
    (λ f. rw size (ap (λ (bs : List ℕ). slot_value i (read_slot t at bs)) (s.slot clear f)))))

-- ---- a column's text

module _ (r r' : List ℕ) where
  -- what was read has the same text in both rows
  abbrev pub SameText : Result DataValue → Type 0
  SameText (Ok v) = text_of r v ≡ text_of r' v
  SameText (Err e) = Unit {0}

  of_slot : (i : ℕ) (x : Option DataValue) → OfRange (λ q. part r q ≡ part r' q) x → SameText (slot_value i x)
  of_slot i (Some v) h = h
  of_slot i None h = tt

  -- the first m of n bytes that are the same
  same_front : (a m n : ℕ) → m ≤ n → take n (drop a r) ≡ take n (drop a r') → take m (drop a r) ≡ take m (drop a r')
  same_front a m n h e =
      sym (take-take m n (drop a r) h) ∙ ap (take m) e ∙ take-take m n (drop a r') h

  slot-text : (t : DataType) (i a n : ℕ) → take n (drop a r) ≡ take n (drop a r')
      → SameText (slot_value i (read_slot t a (take n (drop a r))))
  slot-text t i a n e =
      let bs : List ℕ = take n (drop a r) in
      of_slot i (read_slot t a bs)
      (slot-range (λ q. part r q ≡ part r' q) refl a bs (same_front a (length bs) n (rw length-take (min-le_left n (length (drop a r)))) e) t)

  range-text : (t : DataType) (i : ℕ) (q : VarlenRange)
      → ((a e : ℕ) → q ≡ Range.Bytes a e → take (e - a) (drop a r) ≡ take (e - a) (drop a r'))
      → SameText (varlen_value t i r q)
  range-text t i Range.Null h = refl
  range-text t i (Range.Bytes a e) h = slot-text t i a (e - a) (h a e refl)
  range-text t i Range.Outside h = tt

  pub text_depends : (w : ℕ) (p : Bool) (ts : List DataType) (i : ℕ) → SameFor w p ts i r r' → SameText (column_value w p ts i r)
  text_depends w p ts i s =
      let t : DataType = type_at ts i in
      let at : ℕ = slot_place w p (map shape_of ts) i in
      let q : VarlenRange = varlen_range w (table_start (length ts)) (varlens (map shape_of ts)) (rank_of (map shape_of ts) i) r in
      let size : at + size_of t - at ≡ size_of t = omega arith in
      by_cond SameText (eqb (bit_of_column i r) 1) (Ok Null) (cond (is_varlen t) (varlen_value t i r q) (slot_value i (read_slot t at (take (at + size_of t - at) (drop at r)))))
      (λ e. refl)
      (λ e.
      let clear = eqb_no (bit_of_column i r) 1 e in
      by_cond SameText (is_varlen t) (varlen_value t i r q) (slot_value i (read_slot t at (take (at + size_of t - at) (drop at r))))
      (λ f.
      let v = s.varchar clear f in
      range-text t i q (λ a e g. (v.some (bytes-some w (table_start (length ts)) (varlens (map shape_of ts)) (rank_of (map shape_of ts) i) r r' g)).range a e g))
      (λ f. slot-text t i at (at + size_of t - at) (rw size (s.slot clear f))))

-- ---- the header

first_two : (q : List ℕ) → take 2 q ≡ take 2 (take 4 q)
first_two q = sym (take-take 2 4 q (omega arith))

last_two : (q : List ℕ) → 4 ≤ length q → take 2 (drop 2 q) ≡ drop 2 (take 4 q)
last_two q h = sym (ap (drop 2) (take-add 2 2 q) ∙ drop_at (take 2 q) (take 2 (drop 2 q)) 2 (length-take-le 2 q (omega arith)))

-- the minimum is that of the row's own flag, which is in the header
pub frame_depends : (k : Bool) (ts : List DataType) (r r' : List ℕ) → take 4 r ≡ take 4 r' → length r ≤ row_limit k
    → length r' ≤ row_limit k
    → minimum (offset_width k) (is_packed r) (map shape_of ts) ≤ length r → minimum (offset_width k) (is_packed r) (map shape_of ts) ≤ length r'
    → frame_of k ts r ≡ frame_of k ts r'
frame_depends k ts r r' e a a' m m' =
    let least : ℕ = minimum (offset_width k) (is_packed r) (map shape_of ts) in
    let h : 4 ≤ length r = omega arith in
    let h' : 4 ≤ length r' = omega arith in
    let columns : column_count r ≡ column_count r' = ap from_le (first_two r ∙ ap (take 2) e ∙ sym (first_two r')) in
    let varlens : varlen_field r ≡ varlen_field r' = ap from_le (last_two r h ∙ ap (drop 2) e ∙ sym (last_two r' h')) in
    rw (
      ← columns,
      ← varlens,
      le-ltb (row_limit k) (length r) a,
      le-ltb (row_limit k) (length r') a',
      le-ltb (length r) 4 h,
      le-ltb (length r') 4 h',
      le-ltb (length r) least m,
      le-ltb (length r') least m',
    )

-- ---- by places

module _ (r r' : List ℕ) (n : length r ≡ length r') where
  offset-places : (w table m : ℕ) → ((j : ℕ) → InOffset w table m j → get_or r j 0 ≡ get_or r' j 0)
      → entry_at w table m r ≡ entry_at w table m r'
  offset-places w table m h = ap from_le (part_same (table + m * w) w r r' n (λ j a b. h j (a, b)))

  range-places : (w table v k : ℕ) → (entry_at w table k r ≡ 0 → ⊥)
      → ((j : ℕ) → LookedAtVarchar w table v k r j → get_or r j 0 ≡ get_or r' j 0) → SameRange w table v k r r'
  range-places w table v k o h =
      record {
        size = n;
        higher = λ m a b z. offset-places w table m (λ j l. h j (higher j m o (omega arith) b z l));
        range = λ a e q. part_same a (e - a) r r' n (λ j f g. h j (range j a e q f (omega arith)));
      }

  -- rows of one length that agree on the bytes that are looked at
  pub places_same : (w : ℕ) (p : Bool) (ts : List DataType) (i : ℕ)
      → ((j : ℕ) → LookedAt w p ts i r j → get_or r j 0 ≡ get_or r' j 0) → SameFor w p ts i r r'
  places_same w p ts i h =
      record {
        bit = ap (bit_of (i % 8))
            (get_or-drop bitmap_start r (i / 8) 0 ∙ h _ bit ∙ sym (get_or-drop bitmap_start r' (i / 8) 0));
        slot = λ c f. part_same (slot_place w p (map shape_of ts) i) (size_of (type_at ts i)) r r' n
            (λ j a e. h j (slot j c f a e));
        varchar = λ c f.
            let table = table_start (length ts) in
            let v = varlens (map shape_of ts) in
            let k = rank_of (map shape_of ts) i in
            let g : (j : ℕ) → LookedAtVarchar w table v k r j → get_or r j 0 ≡ get_or r' j 0 =
            λ j l. h j (varchar j c f l) in
            record { own = offset-places w table k (λ j l. g j (own j l)); some = λ o. range-places w table v k o g };
      }

-- bytes replaced by as many others, none of them looked at
pub outside_kept : (w : ℕ) (p : Bool) (ts : List DataType) (i : ℕ) (r : List ℕ) (s e : ℕ) (new : List ℕ)
    → s + length new ≡ e → e ≤ length r → ((j : ℕ) → s ≤ j → j < e → LookedAt w p ts i r j → ⊥)
    → column_value w p ts i (splice s e new r) ≡ column_value w p ts i r
outside_kept w p ts i r s e new q h out =
    sym (column_depends w p ts i r (splice s e new r)
    (places_same r (splice s e new r) (sym (same-length-splice s e new r q h)) w p ts i
    (λ j l. sym (splice_outside s e new r q h j (λ a c. out j a c l)))))
