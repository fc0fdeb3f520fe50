-- The stores of an edit against the tests for room, which the code makes before it stores.
use Rattle.std.specs.Prelude.{Err, Ok}
use Prim.Native.Nat.{ℕ, ◌≤◌, ◌<◌}
use mathlib.Core.Path.{◌≡◌, sym, ◌∙◌}
use mathlib.Core.Bool.{Bool}
use mathlib.Core.List.{List}
use borrow.Author.Tests.{lt-ltb, le-ltb}
use lib.ListN.{length}
use Rattle.error.specs.declared.Refusal.TheVariants.{RowLimit, NoRoom}
use Rattle.laws.proofs.Stores.{sets-start}
use Rattle.row_format.specs.Places.{row_limit}
use Rattle.row_build.specs.Build.{row_placed}
use Rattle.row_patch.specs.InnerHeld.{Holds}
use Rattle.row_edit.specs.Edit.{row_stored}

module _ (buf r : List ℕ) where
  pub holding : (q : List ℕ) (m : ℕ) → Holds buf r q m → length r ≤ length buf → (Ok m, q) ≡ row_stored buf r
  holding q m h room = rw (h.0, h.1, sets-start buf r room)

  module _ (k : Bool) where
    pub placing : (q : List ℕ) (m : ℕ) → Holds buf r q m → length r ≤ row_limit k → length r ≤ length buf → (Ok m, q) ≡ row_placed k buf r
    placing q m h short room = holding q m h room ∙ sym (rw (le-ltb (row_limit k) (length r) short, le-ltb (length buf) (length r) room))

    pub too_long : row_limit k < length r → (Err RowLimit, buf) ≡ row_placed k buf r
    too_long h = sym (rw (lt-ltb (row_limit k) (length r) h))

    pub no_room : length r ≤ row_limit k → length buf < length r → (Err NoRoom, buf) ≡ row_placed k buf r
    no_room short h = sym (rw (le-ltb (row_limit k) (length r) short, lt-ltb (length buf) (length r) h))
