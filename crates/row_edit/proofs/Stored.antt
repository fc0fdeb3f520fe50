-- A column of a sound row: what each store needs, and what it leaves.
use Rattle.std.specs.Prelude.{Err, Ok}
use Prim.Native.Nat.{ℕ, ◌+◌, ◌-◌, ◌≤◌, ◌<◌}
use mathlib.Core.Path.{◌≡◌, sym, ◌∙◌, subst}
use mathlib.Core.Bool.{Bool, true, false, false≢true}
use mathlib.Core.List.{List}
use mathlib.Core.Option.{none, some}
use native.Mathlib.Omega.{arith}
use lib.ListN.{length, take}
use Rattle.error.specs.declared.Refusal.TheVariants.{RowLimit, NoRoom}
use Rattle.row_format.specs.Places.{offset_width, row_limit}
use Rattle.row_format.specs.Table.{Cell}
use Rattle.row_format.specs.Edit.{span}
use Rattle.row_layout.specs.declared.RowLayout.{RowLayout}
use Rattle.datatype.specs.Types.{is_varlen}
use Rattle.datatype.specs.Check.{types_in}
use Rattle.value.specs.declared.DataValue.{DataValue}
use Rattle.value.specs.Ranges.{range_of}
use Rattle.row_build.specs.Build.{row_placed}
use Rattle.row_column.specs.declared.Column.{Column}
use Rattle.row_column.specs.InnerWalk.{Found}
use Rattle.row_sound.proofs.Rows.{row-short}
use Rattle.row_patch.specs.InnerHeld.{Holds}
use Rattle.row_patch.specs.InnerStores.{form_of, row_set, Suited, change, Editable}
use Rattle.row_patch.proofs.Ranges.{length-text}
use Rattle.row_patch.proofs.Columns.{length-slot}
use Rattle.row_edit.specs.Edit.{edited, row_stored}
use Rattle.row_edit.specs.InnerOpened.{Opened, RangeAt}
use Rattle.row_edit.proofs.Placing.{holding, placing, too_long, no_room}
use Rattle.row_edit.proofs.Ready.{row-size, range_in_lem, edited-is, ready, length_varlen, length-fixed, length-null}

module _ {s : List ℕ} {l : RowLayout} {p : Bool} {buf : List ℕ} {n i : ℕ} {c : Column} (o : Opened s l p buf n i) (f : Found s i c) where
  abbrev after : ℕ → ℕ → Cell → List ℕ
  after a e x = row_set l p c.before c.ty (span a e) x (take n buf)

  abbrev changed : Cell → List ℕ
  changed x = edited (offset_width l.is_long) (types_in s) p buf n i x

  row_limit_lem : n ≤ row_limit l.is_long
  row_limit_lem = rw (row-size o) at (row-short o.row)

  -- a fixed column has no range
  module _ (fixed : is_varlen c.ty ≡ false) where
    no_range : is_varlen c.ty ≡ true → RangeAt l c.before (take n buf) 0 0
    no_range v = absurd (false≢true (sym fixed ∙ v))

    pub fixed_ready : (z : ℕ) → Editable l p c.before c.ty (change n 0 0 z) buf
    fixed_ready z = ready o f 0 0 no_range z (λ v. absurd (false≢true (sym fixed ∙ v)))

    pub fixed-done : {v : DataValue} {area q : List ℕ} {m : ℕ} → Suited c.ty v area → Holds buf (after 0 0 (some (form_of c.ty v area))) q m
        → (Ok m, q) ≡ row_placed l.is_long buf (changed (some (form_of c.ty v area)))
    fixed-done {v} {area} {q} {m} t h =
        let x = some (form_of c.ty v area) in
        let k : length (after 0 0 x) ≡ n = length-fixed o f 0 0 no_range fixed (form_of c.ty v area) (length-slot t fixed) in
        subst (λ (r : List ℕ). (Ok m, q) ≡ row_placed l.is_long buf r) (edited-is o f 0 0 no_range x) (placing buf (after 0 0 x) l.is_long q m h (rw k row_limit_lem) (rw k o.inside))

    pub fixed-null : {q : List ℕ} {m : ℕ} → Holds buf (after 0 0 none) q m → (Ok m, q) ≡ row_stored buf (changed none)
    fixed-null {q} {m} h =
        subst (λ (r : List ℕ). (Ok m, q) ≡ row_stored buf r) (edited-is o f 0 0 no_range none) (holding buf (after 0 0 none) q m h (rw (length-null o f 0 0 no_range fixed) o.inside))

  -- a Varchar's range goes from a to e
  module _ (varlen : is_varlen c.ty ≡ true) {a e : ℕ} (g : RangeAt l c.before (take n buf) a e) where
    range : is_varlen c.ty ≡ true → RangeAt l c.before (take n buf) a e
    range v = g

    pub range-rises : a ≤ e
    range-rises = (range_in_lem o f a e range varlen).rises

    pub range-within : e ≤ n
    range-within = (range_in_lem o f a e range varlen).within

    -- what stays of the row
    pub kept_limit : a + (n - e) ≤ row_limit l.is_long
    kept_limit = omega (arith, range-rises, range-within, row_limit_lem)

    pub varlen_ready : (z : ℕ) → z ≤ row_limit l.is_long - (a + (n - e)) → a + (n - e) + z ≤ length buf → Editable l p c.before c.ty (change n a e z) buf
    varlen_ready z short room = ready o f a e range z (λ v. (omega (arith, kept_limit, short), omega (arith, room)))

    pub null_ready : Editable l p c.before c.ty (change n a e 0) buf
    null_ready = varlen_ready 0 (omega arith) (omega (arith, range-rises, range-within, o.inside))

    pub varlen_null : {q : List ℕ} {m : ℕ} → Holds buf (after a e none) q m → (Ok m, q) ≡ row_stored buf (changed none)
    varlen_null {q} {m} h =
        subst (λ (r : List ℕ). (Ok m, q) ≡ row_stored buf r) (edited-is o f a e range none)
        (holding buf (after a e none) q m h (rw (length_varlen o f a e range varlen none) (omega (arith, range-rises, range-within, o.inside))))

    module _ {v : DataValue} {area : List ℕ} (t : Suited c.ty v area) where
      abbrev form : Cell
      form = some (form_of c.ty v area)

      size : length (after a e form) ≡ a + (n - e) + (range_of v).length
      size = length_varlen o f a e range varlen form ∙ rw (length-text t varlen) (omega arith)

      pub varlen_done : {q : List ℕ} {m : ℕ} → Holds buf (after a e form) q m → (range_of v).length ≤ row_limit l.is_long - (a + (n - e)) → a + (n - e) + (range_of v).length ≤ length buf
          → (Ok m, q) ≡ row_placed l.is_long buf (changed form)
      varlen_done {q} {m} h short room =
          subst (λ (r : List ℕ). (Ok m, q) ≡ row_placed l.is_long buf r) (edited-is o f a e range form)
          (placing buf (after a e form) l.is_long q m h (rw size (omega (arith, kept_limit, short))) (rw size room))

      pub varlen_long : row_limit l.is_long - (a + (n - e)) < (range_of v).length → (Err RowLimit, buf) ≡ row_placed l.is_long buf (changed form)
      varlen_long h =
          subst (λ (r : List ℕ). (Err RowLimit, buf) ≡ row_placed l.is_long buf r) (edited-is o f a e range form) (too_long buf (after a e form) l.is_long (rw size (omega (arith, kept_limit, h))))

      pub varlen_room : (range_of v).length ≤ row_limit l.is_long - (a + (n - e)) → length buf < a + (n - e) + (range_of v).length → (Err NoRoom, buf) ≡ row_placed l.is_long buf (changed form)
      varlen_room short h =
          subst (λ (r : List ℕ). (Err NoRoom, buf) ≡ row_placed l.is_long buf r) (edited-is o f a e range form)
          (no_room buf (after a e form) l.is_long (rw size (omega (arith, kept_limit, short))) (rw size h))
