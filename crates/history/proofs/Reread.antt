-- One accepted edit: what a read of all columns gives before and after it.
use Rattle.error.specs.Result.{Result}
use Rattle.std.specs.Prelude.{Err, Ok}
use Prim.Native.Nat.{ℕ, ◌+◌, ◌≤◌, ◌<◌}
use mathlib.Core.Path.{◌≡◌, refl, sym, ap, ◌∙◌, subst}
use mathlib.Core.Bool.{Bool}
use mathlib.Core.List.{List, ◌++◌, map}
use mathlib.Core.Option.{none, some}
use native.Mathlib.Omega.{arith}
use lib.ListN.{length, get_or, drop, set, length-set, length-append}
use lib.Seq.{ext_get_or, get_or-set_same, get_or-set_other, length-take-le, take-append_seam, drop-append_seam}
use Rattle.laws.proofs.Bytes.{Below, AllBytes, all-below, below-take}
use Rattle.laws.proofs.Stores.{sets-start}
use Rattle.laws.proofs.Truths.{same_or}
use Rattle.error.specs.Answer.{Outcome}
use Rattle.row_format.specs.Places.{offset_width, row_limit}
use Rattle.row_format.specs.Table.{Cell}
use Rattle.row_format.specs.Header.{is_long}
use Rattle.row_format.specs.Edit.{edited_row}
use Rattle.row_format.proofs.Header.{sort-inside}
use Rattle.row_format.proofs.Front.{same-sort}
use Rattle.datatype.specs.declared.DataType.{DataType}
use Rattle.datatype.specs.Types.{shape_of}
use Rattle.datatype.specs.Schema.{schema_of}
use Rattle.datatype.specs.Check.{type_at}
use Rattle.value_list.specs.Lists.{values_of}
use Rattle.row_sound.specs.Sound.{SoundRow}
use Rattle.row_sound.specs.Written.{Writes, null, form}
use Rattle.row_sound.specs.Reread.{Content, column_content, null_content, written_content, payload_of, length_in, Reread}
use Rattle.row_sound.proofs.Rows.{row-short, null-short, edit_head, edit_sound, edit_reread}
use Rattle.row_sound.proofs.Columns.{sound-long}
use Rattle.row_edit.specs.Edit.{edited, row_stored, given}
use Rattle.history.specs.History.{Call, set_value, set_null, State, row_of, sort_of, called, handed_back, one_value}
use Rattle.history.specs.Demand.{OfBytes}
use Rattle.history.specs.Reread.{column_of, given_content, ReadsAll, contents, Edits}
use Rattle.history.proofs.Calls.{Ends, refusal, written, opened_ends, tested_ends, placed_ends, given-taken}
use Rattle.history.proofs.Reading.{row_values, reads_all, length-contents, content_at}

-- ---- how an accepted call ends: the row r that it wrote

record Went (sort : Bool) (schema : List ℕ) (c : Call) (s : State) (r : List ℕ) : Type 0 where
  held : s.row-length ≤ length s.buf
  columns : List DataType
  schema-good : schema_of sort schema ≡ Ok columns
  packed : Bool
  sound : SoundRow sort columns packed (row_of s)
  inside : column_of c < length columns
  cell : Cell
  writes : Writes (type_at columns (column_of c)) cell
  is-given : written_content writes ≡ given_content (type_at columns (column_of c)) c
  row_is : edited_row (offset_width sort) packed (map shape_of columns) (column_of c) cell (row_of s) ≡ r
  short : length r ≤ row_limit sort
  room : length r ≤ length s.buf

module _ (schema : List ℕ) (s : State) where
  abbrev buf : List ℕ
  buf = s.buf

  abbrev n : ℕ
  n = s.row-length

  set_went : (i : ℕ) (list area : List ℕ) → AllBytes list → Ends buf (Went (sort_of s) schema (set_value i list area) s) (called schema (set_value i list area) s)
  set_went i list area bytes =
      opened_ends (sort_of s) schema n i _
      λ ts p g room sound h. tested_ends (given (sort_of s) (type_at ts i) i list area) _
      λ b e. placed_ends (sort_of s) (edited (offset_width (sort_of s)) ts p buf n i (some b))
      λ small fit. let t = given-taken (sort_of s) (type_at ts i) i list area b bytes e in
      record {
        held = room;
        columns = ts;
        schema-good = g;
        packed = p;
        sound = sound;
        inside = h;
        cell = some _;
        writes = form (one_value (values_of list)) area t.chosen.match t.chosen.accept t.sized;
        is-given = refl;
        row_is = ap (λ (x : List ℕ). edited (offset_width (sort_of s)) ts p buf n i (some x)) (sym t.chosen.form);
        short = small;
        room = fit;
      }

  null_went : (i : ℕ) → Ends buf (Went (sort_of s) schema (set_null i) s) (called schema (set_null i) s)
  null_went i =
      opened_ends (sort_of s) schema n i _
      λ ts p g room sound h. let le = null-short sound i h in
      let size = length-take-le n buf room in
      written (edited (offset_width (sort_of s)) ts p buf n i none) refl
      (record {
        held = room;
        columns = ts;
        schema-good = g;
        packed = p;
        sound = sound;
        inside = h;
        cell = none;
        writes = null;
        is-given = refl;
        row_is = refl;
        short = omega (arith, le, row-short sound);
        room = omega (arith, le, size);
      })

  went : (c : Call) → OfBytes c → Ends buf (Went (sort_of s) schema c s) (called schema c s)
  went (set_value i list area) bytes = set_went i list area bytes
  went (set_null i) bytes = null_went i

-- ---- the rows before and after it

module _ {schema : List ℕ} {c : Call} {s : State} {r : List ℕ} (w : Went (sort_of s) schema c s r) (bytes : AllBytes s.buf) where
  abbrev ts : List DataType
  ts = w.columns

  abbrev i : ℕ
  i = column_of c

  abbrev p : Bool
  p = w.packed

  abbrev old : List ℕ
  old = row_of s

  octets : Below 256 old
  octets = below-take 256 s.row-length s.buf (all-below s.buf bytes)

  abbrev edit : List ℕ
  edit = edited_row (offset_width (sort_of s)) p (map shape_of ts) i w.cell old

  edit_short : length edit ≤ row_limit (sort_of s)
  edit_short = rw w.row_is w.short

  after-sound : SoundRow (sort_of s) ts p r
  after-sound = subst (SoundRow (sort_of s) ts p) w.row_is (edit_sound w.sound octets i w.inside w.cell w.writes edit_short)

  old_marked : is_long old ≡ sort_of s
  old_marked = sym (sort-inside s.buf s.row-length w.held)

  new_marked : is_long r ≡ sort_of s
  new_marked =
      let long : 4 ≤ length old = omega (arith, sound-long (offset_width (sort_of s)) p ts old w.sound.sound) in
      ap is_long (sym w.row_is) ∙ same-sort old edit long (edit_head w.sound i w.inside w.cell) ∙ old_marked

  abbrev put : Content
  put = given_content (type_at ts i) c

  read_again : Reread (offset_width (sort_of s)) p ts i put old r
  read_again =
      subst (λ (x : List ℕ). Reread (offset_width (sort_of s)) p ts i put old x) w.row_is
      (subst (λ (x : Content). Reread (offset_width (sort_of s)) p ts i x old edit) w.is-given (edit_reread w.sound octets i w.inside w.cell w.writes edit_short))

  abbrev before : List Content
  before = contents old (row_values w.sound)

  column-changed : (j : ℕ) → j < length ts → get_or (contents r (row_values after-sound)) j null_content ≡ get_or (set before i put) j null_content
  column-changed j l =
      content_at after-sound j l
      ∙ same_or i j
      (λ e. subst (λ (k : ℕ). column_content (offset_width (sort_of s)) p ts k r ≡ get_or (set before i put) k null_content) e (read_again.own ∙ sym (get_or-set_same before i put null_content (rw (length-contents w.sound) w.inside))))
      (λ ne. read_again.others j l ne ∙ sym (content_at w.sound j l) ∙ sym (get_or-set_other before i j put null_content (λ e. ne (sym e))))

  row-changed : contents r (row_values after-sound) ≡ set before i put
  row-changed =
      ext_get_or null_content (contents r (row_values after-sound)) (set before i put) (length-contents after-sound ∙ sym (length-set before i put ∙ length-contents w.sound))
      (λ j l. column-changed j (rw (length-contents after-sound) at l))

-- ---- the call

abbrev IsDone : Result ℕ → Type 0
IsDone (Ok m) = Unit {0}
IsDone (Err e) = ⊥

pub edits : {schema : List ℕ} (c : Call) → OfBytes c → {old new : State} → AllBytes old.buf → called schema c old ≡ (Ok new.row-length, new.buf) → Edits schema c old new
edits {schema} c of {old} {new} bytes done = by_end (went schema old c of)
  where
    by_end : Ends old.buf (Went (sort_of old) schema c old) (called schema c old) → Edits schema c old new
    by_end (refusal e q) = absurd (subst (λ (o : Outcome). IsDone o.0) (sym done ∙ q) tt)
    by_end (written r q w) =
        let same : row_stored old.buf r ≡ (Ok new.row-length, new.buf) = sym q ∙ done in
        let size : length r ≡ new.row-length = ap (λ (o : Outcome). handed_back o.0 0) same in
        let whole : r ++ drop (length r) old.buf ≡ new.buf = sym (sets-start old.buf r w.room) ∙ ap (λ (o : Outcome). o.1) same in
        let row : r ≡ row_of new = rw (← size, ← whole) (sym (take-append_seam r (drop (length r) old.buf))) in
        let fits : new.row-length ≤ length new.buf = rw (← size, ← whole, length-append) (omega arith) in
        let marked : is_long (row_of new) ≡ sort_of old = ap is_long (sym row) ∙ new_marked w bytes in
        record {
          sort = sort_of old;
          old_sort = refl;
          new_sort = sort-inside new.buf new.row-length fits ∙ marked;
          columns = w.columns;
          schema-good = w.schema-good;
          inside = w.inside;
          old_values = row_values w.sound;
          new_values = row_values (after-sound w bytes);
          old_read = reads_all w.sound (old_marked w bytes) w.schema-good;
          new_read = subst (λ (x : List ℕ). ReadsAll schema (length w.columns) x (row_values (after-sound w bytes))) row (reads_all (after-sound w bytes) (new_marked w bytes) w.schema-good);
          changed = subst (λ (x : List ℕ). contents x (row_values (after-sound w bytes)) ≡ set (before w bytes) (column_of c) (given_content (type_at w.columns (column_of c)) c)) row (row-changed w bytes);
          packed = w.packed;
          old_sound = w.sound;
          new_sound = subst (SoundRow (sort_of old) w.columns w.packed) row (after-sound w bytes);
          handed = sym size ∙ ap length row;
          long = subst (λ (x : List ℕ). length x ≡ length_in (offset_width (sort_of old)) w.packed w.columns x) row (read_again w bytes).long;
          change =
              subst (λ (x : List ℕ). length x + length (payload_of (offset_width (sort_of old)) w.packed w.columns (column_of c) (row_of old)) ≡ length (row_of old) + length (payload_of (offset_width (sort_of old)) w.packed w.columns (column_of c) x)) row (read_again w bytes).change;
          behind = rw (← size, ← whole) (drop-append_seam r (drop (length r) old.buf));
        }
