-- One column written: its slot, or its payload with its offset.
use Prim.Native.Nat.{ℕ, ◌+◌, ◌≤◌}
use mathlib.Core.Path.{◌≡◌, sym, ap, ◌∙◌, subst}
use mathlib.Core.Bool.{Bool, true, false}
use mathlib.Core.List.{List}
use lib.ListN.{length, get_or}
use Rattle.datatype.specs.declared.DataType.{DataType}
use Rattle.datatype.specs.Types.{is_varlen}
use Rattle.datatype.specs.Schema.{column_record_at}
use Rattle.datatype.specs.InnerSteps.{type_in}
use Rattle.value.specs.declared.TextRange.{TextRange}
use Rattle.value.specs.declared.DataValue.{DataValue}
use Rattle.value.specs.Kinds.{plain_kind}
use Rattle.value.specs.Ranges.{range_of, part}
use Rattle.value_list.specs.Records.{range_at, range_width, record_at as valueRecordAt}
use Rattle.stored_form.proofs.Lengths.{accepted-inside}
use Rattle.record_slot.specs.Stored.{is_null}
use Rattle.record_slot.specs.InnerSteps.{Readable, value_in, form_in, SlotReady, Suited}
use Rattle.record_slot.proofs.Tests.{length-payload}
use Rattle.record_slot.proofs.Forms.{is-fixed, is_varlen_lem, range-is, varchar-form}
use Rattle.row_build.specs.InnerSteps.{varlen_stored, fixed_stored, column_stored, PayloadReady, Storable}

pub storable_suited : {k : Bool} {columns i slot entry : ℕ} {t : DataType} {v : DataValue} {area : List ℕ} {end n : ℕ} → Storable k columns i slot entry t v area end n → Suited t v area
storable_suited p = record { match = p.match; suited = p.suited }

module _ {s : List ℕ} {at : ℕ} {list : List ℕ} {from : ℕ} (r : Readable s at list from) where
  abbrev t : DataType
  t = type_in (column_record_at s at)

  abbrev v : DataValue
  v = value_in (valueRecordAt list from)

  abbrev kind : ℕ
  kind = plain_kind (get_or list from 0)

  abbrev range : TextRange
  range = range_at (range_width (get_or list from 0)) list (from + 1)

  module _ {k : Bool} {columns i slot entry : ℕ} {area : List ℕ} {end n : ℕ} (p : Storable k columns i slot entry t v area end n) where
    pub slot_ready : (kind ≡ 9 → ⊥) → SlotReady t v area slot n
    slot_ready o =
        let f = is-fixed r p.match o in
        record { fixed = f; digits = p.digits; match = p.match; suited = p.suited; room = p.slot_in f }

    pub slot-stored : (kind ≡ 9 → ⊥) → (out out' : List ℕ) → is_null v ≡ false → out' ≡ fixed_stored i slot (form_in s at list from area) out → (end, out') ≡ column_stored k i slot entry t v (form_in s at list from area) end out
    slot-stored o out out' z g = rw (z, is-fixed r p.match o, g)

    module _ (e : kind ≡ 9) where
      abbrev vl : is_varlen t ≡ true
      vl = is_varlen_lem r p.match e

      -- the range that was read there
      module _ {q : TextRange} (g : q ≡ range) where
        range-is-read : range_of v ≡ q
        range-is-read = range-is r p.match e ∙ sym g

        form-length : length (form_in s at list from area) ≡ q.length
        form-length = length-payload t v area p.match p.suited vl ∙ ap (λ (x : TextRange). x.length) range-is-read

        pub payload_ready : PayloadReady k q area entry end n
        payload_ready =
            record {
              inside = subst (λ (x : TextRange). x.start + x.length ≤ length area) range-is-read (accepted-inside t v area p.suited);
              entry_in = p.entry_in vl;
              room = rw form-length at (p.payload vl);
              small = rw (vl, form-length) at p.end_fits;
            }

        pub varchar-stored : (res : ℕ) (out out' : List ℕ) → is_null v ≡ false → res ≡ end + q.length → out' ≡ varlen_stored k i entry (part area q) end out
            → (res, out') ≡ column_stored k i slot entry t v (form_in s at list from area) end out
        varchar-stored res out out' z f h =
            rw (z, vl, form-length) (rw (f, h, ap (part area) g ∙ varchar-form r p.match e area))
