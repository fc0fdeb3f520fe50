-- For the proofs: two columns that are null, or of the same bytes, told without their type.
use Rattle.std.specs.Prelude.{ℕ, ◌+◌, ◌-◌, ◌≤◌, ◌<◌, Bool, false, cond, List, eqb, ltb, length, take, drop}
use Rattle.laws.specs.Bits.{bit_at}
use Rattle.laws.specs.Bytes.{same_bytes}
use Rattle.row_format.specs.Places.{bitmap_start, table_start, fixed_start, offset_width}
use Rattle.row_layout.specs.declared.RowLayout.{RowLayout}
use Rattle.row_layout.specs.declared.VarlenRange.{VarlenRange}
use Rattle.row_layout.specs.declared.VarlenRange.TheVariants.{Null, Bytes, Outside}
use Rattle.row_layout.specs.Layout.{size_in}
use Rattle.row_layout.specs.Range.{varlen_range}
use Rattle.row_layout.specs.InnerLayout.{Bounded}

-- two ranges that are parts of their rows
abbrev pub alike_ranges : List ℕ → VarlenRange → List ℕ → VarlenRange → Bool
alike_ranges a Null b y = false
alike_ranges a Outside b y = false
alike_ranges a (Bytes s e) b Null = false
alike_ranges a (Bytes s e) b Outside = false
alike_ranges a (Bytes s e) b (Bytes f t) = same_bytes (take (e - s) (drop s a)) (take (t - f) (drop f b))

-- the Varchar of a rank, in a row r with layout l
abbrev pub range_in : ℕ → RowLayout → List ℕ → VarlenRange
range_in k l r =
    varlen_range (offset_width l.is_long) (table_start l.num_columns) l.num_varlen_cols k r

-- where the fixed columns start
abbrev pub fixed_in : RowLayout → ℕ
fixed_in l = fixed_start (offset_width l.is_long) l.num_columns l.num_varlen_cols

-- the column after those of layout x, in a row r with layout l, packed or padded; y is the layout with it
abbrev pub fixed_part : RowLayout → RowLayout → RowLayout → Bool → List ℕ → List ℕ
fixed_part x y l p r = take (fixed_in l + size_in y p - (fixed_in l + size_in x p)) (drop (fixed_in l + size_in x p) r)

abbrev pub is_marked : RowLayout → List ℕ → Bool
is_marked x r = eqb (bit_at x.num_columns (drop bitmap_start r)) 1

-- in a row a with layout l and a row b with layout m
abbrev pub present_alike : RowLayout → RowLayout → RowLayout → Bool → List ℕ → RowLayout → Bool → List ℕ → Bool
present_alike x y l p a m q b =
    let k : ℕ = x.num_varlen_cols in
    cond (ltb k y.num_varlen_cols) (alike_ranges a (range_in k l a) b (range_in k m b))
    (same_bytes (fixed_part x y l p a) (fixed_part x y m q b))

abbrev pub stored_alike : RowLayout → RowLayout → RowLayout → Bool → List ℕ → RowLayout → Bool → List ℕ → Bool
stored_alike x y l p a m q b =
    cond (is_marked x a) (is_marked x b) (cond (is_marked x b) false (present_alike x y l p a m q b))

-- the row has all of that
pub record Ranked (k : ℕ) (l : RowLayout) (r : List ℕ) : Type 0 where
  pub whole : Bounded l
  pub table : fixed_in l ≤ length r
  pub rank : k < l.num_varlen_cols

pub record Beside (x y l : RowLayout) (p : Bool) (r : List ℕ) : Type 0 where
  pub whole : Bounded l
  pub column : x.num_columns < l.num_columns
  pub table : fixed_in l ≤ length r
  pub rank : x.num_varlen_cols < y.num_varlen_cols → x.num_varlen_cols < l.num_varlen_cols
  pub rises : (x.num_varlen_cols < y.num_varlen_cols → ⊥) → size_in x p ≤ size_in y p
  pub slot : (x.num_varlen_cols < y.num_varlen_cols → ⊥) → fixed_in l + size_in y p ≤ length r
