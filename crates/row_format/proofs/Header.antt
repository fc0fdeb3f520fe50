-- The mark that tells the sort: of a row by its second header word, of a row at the front of a buffer.
use Prim.Native.Nat.{ℕ, ◌+◌, ◌%◌, ◌≤◌, ◌<◌}
use mathlib.Core.Bool.{Bool, false}
use mathlib.Core.List.{List, [], ◌∷◌, ◌++◌, append_assoc}
use mathlib.Core.Path.{◌≡◌, refl, ap, ◌∙◌}
use native.Mathlib.Omega.{arith}
use borrow.Author.Tests.{lt-ltb, le-ltb}
use lib.Dec.{leb}
use lib.ListN.{length, take, length-append}
use Rattle.laws.specs.Bytes.{to_table, concat}
use Rattle.row_format.specs.declared.Shape.{Shape}
use Rattle.row_format.specs.Places.{varlens, offset_width, bitmap_size}
use Rattle.row_format.specs.Table.{Cell, offsets, payloads, base, lay}
use Rattle.row_format.specs.Row.{packed_flag, long_flag, packed_marks, header, bitmap, varlen_cells, row_with}
use Rattle.row_format.specs.Header.{varlen_field, is_packed, is_long, sort_in}
use Rattle.row_format.proofs.Sorts.{marks_small, marks_long}
use Rattle.row_format.proofs.Row.{length-header, header-varlens}

-- a row of fewer bytes than a header is short
pub short-sort : (r : List ℕ) → length r < 4 → is_long r ≡ false
unfolding is_long
short-sort r h = rw (lt-ltb (length r) 4 h)

-- any other by its second word
pub sort_of_lem : (r : List ℕ) → 4 ≤ length r → is_long r ≡ leb long_flag (varlen_field r % packed_flag)
unfolding is_long
sort_of_lem r h = rw (le-ltb (length r) 4 h)

pub sort_field : (k : Bool) (r : List ℕ) {v : ℕ} → 4 ≤ length r → varlen_field r ≡ v + packed_marks k → v < 16384 → is_long r ≡ k
sort_field k r h e small = sort_of_lem r h ∙ rw e (marks_long k small)

-- the word stands in the first four bytes
pub field_front : (r q : List ℕ) → 4 ≤ length r → varlen_field (r ++ q) ≡ varlen_field r
field_front [] q h = absurd (omega arith)
field_front (a ∷ []) q h = absurd (omega arith)
field_front (a ∷ b ∷ []) q h = absurd (omega arith)
field_front (a ∷ b ∷ c ∷ []) q h = absurd (omega arith)
field_front (a ∷ b ∷ c ∷ d ∷ r) q h = refl

pub flag_front : (r q : List ℕ) → 4 ≤ length r → is_packed (r ++ q) ≡ is_packed r
flag_front r q h = ap (leb packed_flag) (field_front r q h)

-- a packed row of a sort, whatever its cells and slots
pub row-sort : (k : Bool) (ss : List Shape) (cs : List Cell) (slots : List (List ℕ)) → varlens ss < 16384 → is_long (row_with (offset_width k) (header (packed_marks k) ss) ss cs slots) ≡ k
unfolding row_with lay
row-sort k ss cs slots h =
    let head : List ℕ = header (packed_marks k) ss in
    let four = length-header (packed_marks k) ss in
    let rest : List ℕ = to_table (offset_width k) (offsets (base (offset_width k) (head ++ bitmap (bitmap_size (length ss)) cs) (concat slots) (varlen_cells ss cs)) (varlen_cells ss cs)) ++ (concat slots ++ payloads (varlen_cells ss cs)) in
    let cut : (head ++ bitmap (bitmap_size (length ss)) cs) ++ rest ≡ head ++ (bitmap (bitmap_size (length ss)) cs ++ rest) = append_assoc head (bitmap (bitmap_size (length ss)) cs) rest in
    let field : varlen_field (head ++ (bitmap (bitmap_size (length ss)) cs ++ rest)) ≡ varlens ss + packed_marks k = field_front head (bitmap (bitmap_size (length ss)) cs ++ rest) (omega (arith, four)) ∙ header-varlens (packed_marks k) ss (marks_small k h) in
    ap is_long cut ∙ sort_field k (head ++ (bitmap (bitmap_size (length ss)) cs ++ rest)) (rw (length-append head (bitmap (bitmap_size (length ss)) cs ++ rest)) (omega (arith, four))) field h

-- the row in the first n bytes of a buffer
pub sort-inside : (buf : List ℕ) (n : ℕ) → n ≤ length buf → sort_in buf n ≡ is_long (take n buf)
unfolding sort_in
sort-inside buf n h = rw (le-ltb (length buf) n h)

pub sort-past : (buf : List ℕ) (n : ℕ) → length buf < n → sort_in buf n ≡ false
unfolding sort_in
sort-past buf n h = rw (lt-ltb (length buf) n h)
