-- For the proofs: a handle that has the layout of its row.
use Rattle.std.specs.Prelude.{ℕ, List, ◌≡◌, Bool}
use Rattle.row_handle.specs.Handle.{stored_layout}
use Rattle.handle_history.specs.Runs.{HandleState}

-- the handle has the layout that the schema, the sort and the row's flag give
abbrev pub Laid : Bool → List ℕ → HandleState → Type 0
Laid sort schema s = s.handle.layout ≡ stored_layout sort schema s.buf
