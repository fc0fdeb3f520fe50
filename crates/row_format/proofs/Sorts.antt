-- What the sort of a row decides: its offsets hold the length of any row, and its table lies where its entries do.
use Prim.Native.Nat.{ℕ, ◌+◌, ◌*◌, ◌%◌, ◌^◌, ◌≤◌, ◌<◌}
use mathlib.Core.Path.{◌≡◌}
use mathlib.Core.Bool.{Bool, true, false}
use native.Mathlib.Omega.{arith}
use borrow.Author.Tests.{le-leb, lt-leb}
use lib.Dec.{leb}
use Rattle.row_format.specs.Places.{offset_width, row_limit}
use Rattle.row_format.specs.Row.{packed_flag, long_flag, packed_marks, least_mark}

pub width-le : (k : Bool) → offset_width k ≤ 4
width-le false = omega arith
width-le true = omega arith

pub limit_le : (k : Bool) → row_limit k ≤ 1048576
limit_le false = omega arith
limit_le true = omega arith

pub limit_fits : (k : Bool) → row_limit k < 256 ^ offset_width k
limit_fits false = omega arith
limit_fits true = omega arith

pub fits_limit : (k : Bool) {n : ℕ} → n ≤ row_limit k → n < 256 ^ offset_width k
fits_limit k h = omega (arith, limit_fits k)

pub offset-le : (k : Bool) → 256 ^ offset_width k ≤ 4294967296
offset-le false = omega arith
offset-le true = omega arith

-- a table of v offsets, and the entry of a rank
pub table-le : (k : Bool) (v : ℕ) → v ≤ 256 → v * offset_width k ≤ 1024
table-le false v h = omega arith
table-le true v h = omega arith

pub entry_in : (k : Bool) (t v rank n : ℕ) → rank < v → t + v * offset_width k ≤ n → t + (rank + 1) * offset_width k ≤ n
entry_in false t v rank n h b = omega arith
entry_in true t v rank n h b = omega arith

-- the second header word of a packed row that has v Varchars
pub marks_small : (k : Bool) {v : ℕ} → v < 16384 → v + packed_marks k < 65536
marks_small false h = omega arith
marks_small true h = omega arith

pub marks_count : (k : Bool) {v : ℕ} → v < 16384 → (v + packed_marks k) % least_mark k ≡ v
marks_count false h = omega arith
marks_count true h = omega arith

pub marks_packed : (k : Bool) (v : ℕ) → leb packed_flag (v + packed_marks k) ≡ true
marks_packed false v = le-leb packed_flag (v + packed_marks false) (omega arith)
marks_packed true v = le-leb packed_flag (v + packed_marks true) (omega arith)

pub marks_long : (k : Bool) {v : ℕ} → v < 16384 → leb long_flag ((v + packed_marks k) % packed_flag) ≡ k
marks_long false {v} h = lt-leb long_flag ((v + packed_marks false) % packed_flag) (omega arith)
marks_long true {v} h = le-leb long_flag ((v + packed_marks true) % packed_flag) (omega arith)
