-- For the proofs: the wanted columns marked in a list of flags, and what the inner functions hand on.
use Rattle.error.specs.Result.{Result}
use Rattle.std.specs.Prelude.{ℕ, ◌*◌, ◌≤◌, Bool, cond, ◌||◌, List, [], ◌∷◌, map, ◌≡◌, eqb, ltb, length, get_or, set, take, Err, Ok}
use Rattle.std.proofs.lemmas.List.Edits.{sets}
use Rattle.error.specs.declared.Refusal.TheVariants.{NoRoom}
use Rattle.error.specs.Answer.{Counted, unchanged_both}
use Rattle.row_layout.specs.declared.RowLayout.{RowLayout}
use Rattle.value.specs.declared.DataValue.{DataValue}
use Rattle.value_list.specs.Lists.{Values, list_of}
use Rattle.stored_form.specs.Points.{points_in}
use Rattle.row_column.specs.InnerWalk.{Framed}

abbrev pub marked : List ℕ → List ℕ → List ℕ
marked m [] = m
marked m (w ∷ ws) = marked (set m w 1) ws

abbrev pub is_marked : List ℕ → ℕ → Bool
is_marked m i = eqb (get_or m i 0) 1

-- the records of all columns of a row r of a sort written at the front of a buffer, and their counts at the front of a
-- list; after a refusal both may hold anything
pub record FilledWith (k : Bool) (r : List ℕ) (columns : ℕ) (vs : List DataValue) (buf points : List ℕ) (a : Result ℕ)
    (buf' points' : List ℕ) : Type 0 where
  pub done : a ≡ Ok (length (list_of k vs))
  pub written : buf' ≡ sets buf 0 (list_of k vs)
  pub room : length (list_of k vs) ≤ length buf
  pub counted : points' ≡ sets points 0 (map (points_in r) vs)
  pub many : length vs ≡ columns
  pub numbers : columns ≤ length points

abbrev pub Filled : Bool → List ℕ → ℕ → Values → List ℕ → List ℕ → Result ℕ → List ℕ → List ℕ → Type 0
Filled k r columns (Ok vs) buf points a buf' points' = FilledWith k r columns vs buf points a buf' points'
Filled k r columns (Err e) buf points a buf' points' = a ≡ Err e

-- and copied from there
abbrev pub Held : Result ℕ → ℕ → List ℕ → List ℕ → Type 0
Held (Ok n) columns buf points = (n ≤ length buf) × (columns ≤ length points)
Held (Err e) columns buf points = Unit {0}

abbrev pub copied_out : Result ℕ → ℕ → List ℕ → List ℕ → List ℕ → List ℕ → Counted
copied_out (Ok n) columns buf points out counts =
    cond (ltb (length out) n || ltb (length counts) columns) (unchanged_both out counts NoRoom)
    (Ok n, (sets out 0 (take n buf), sets counts 0 (take columns points)))
copied_out (Err e) columns buf points out counts = unchanged_both out counts e

-- what the walk over the columns may rely on: a schema that was accepted, a row with a good header, marks for all
-- columns, and room for 18 bytes and a number a column
pub record Decodable (s : List ℕ) (l : RowLayout) (p : Bool) (r marks buf points : List ℕ) : Type 0 where
  pub framed : Framed s l p r
  pub flags : length marks ≡ 256
  pub room : 18 * l.num_columns ≤ length buf
  pub numbers : l.num_columns ≤ length points
