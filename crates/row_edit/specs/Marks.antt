-- FORMAT 3.9, 8.6. 02, request 5: "the row's own mark tells the sort". An edit keeps both marks, for any schema, any
-- bytes and any arguments: the row that an accepted call leaves is of the sort of the old one, and packed or padded as
-- that was.
use Rattle.std.specs.Prelude.{ℕ, List, ◌≡◌, take, Ok}
use Rattle.row_format.specs.Header.{is_packed, sort_in}
use Rattle.row_edit.specs.Edit.{set_call, set_null_call}

-- the row in the first m bytes of `after`, and the row in the first n bytes of `buf`
pub record SameMarks (buf : List ℕ) (n : ℕ) (after : List ℕ) (m : ℕ) : Type 0 where
  pub sort : sort_in after m ≡ sort_in buf n
  pub flag : is_packed (take m after) ≡ is_packed (take n buf)

pub record MarksKept (schema buf : List ℕ) (n i : ℕ) : Type 0 where
  pub set : (list area : List ℕ) {m : ℕ} {after : List ℕ} → set_call schema buf n i list area ≡ (Ok m, after)
      → SameMarks buf n after m
  pub set-null : {m : ℕ} {after : List ℕ} → set_null_call schema buf n i ≡ (Ok m, after) → SameMarks buf n after m
