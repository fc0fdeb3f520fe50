-- 01, "Layout": "Sizes and alignments are those of `fixed_size` and `alignment`", and what the layout sees of a type.
-- FORMAT 2.1, 2.2.
use Rattle.std.specs.Prelude.{ℕ, ◌+◌, ◌/◌, Bool, true, false, cond}
use Rattle.row_format.specs.declared.Shape.{Shape}
use Rattle.row_format.specs.declared.Shape.TheVariants.{Fixed, Varlen}
use Rattle.datatype.specs.declared.DataType.{DataType}
use Rattle.datatype.specs.declared.DataType.TheVariants.{SmallInt, Int, BigInt, Real, DoublePrecision, Numeric, Decimal, Bool as Boolean, Char, Character, Varchar, Date, Time, Bit, Timestamp}

-- bytes of a fixed column. p digits and a sign fill half a byte each; n bits fill an eighth. A Varchar has no slot.
abbrev pub size_of : DataType → ℕ
size_of SmallInt = 2
size_of Int = 4
size_of BigInt = 8
size_of Real = 4
size_of DoublePrecision = 8
size_of (Numeric p s) = (p + 2) / 2
size_of (Decimal p s) = (p + 2) / 2
size_of Boolean = 1
size_of (Char n) = n
size_of (Character n) = n
size_of (Varchar p n) = 0
size_of Date = 4
size_of Time = 8
size_of (Bit n) = (n + 7) / 8
size_of Timestamp = 8

abbrev pub alignment_of : DataType → ℕ
alignment_of SmallInt = 2
alignment_of Int = 4
alignment_of BigInt = 8
alignment_of Real = 4
alignment_of DoublePrecision = 8
alignment_of (Numeric p s) = 1
alignment_of (Decimal p s) = 1
alignment_of Boolean = 1
alignment_of (Char n) = 1
alignment_of (Character n) = 1
alignment_of (Varchar p n) = 1
alignment_of Date = 4
alignment_of Time = 8
alignment_of (Bit n) = 1
alignment_of Timestamp = 8

abbrev pub is_varlen : DataType → Bool
is_varlen SmallInt = false
is_varlen Int = false
is_varlen BigInt = false
is_varlen Real = false
is_varlen DoublePrecision = false
is_varlen (Numeric p s) = false
is_varlen (Decimal p s) = false
is_varlen Boolean = false
is_varlen (Char n) = false
is_varlen (Character n) = false
is_varlen (Varchar p n) = true
is_varlen Date = false
is_varlen Time = false
is_varlen (Bit n) = false
is_varlen Timestamp = false

abbrev pub shape_of : DataType → Shape
shape_of t = cond (is_varlen t) Varlen (Fixed (size_of t) (alignment_of t))

-- what a type was declared with: precision, scale and n, 0 where it has none
abbrev pub precision_of : DataType → ℕ
precision_of SmallInt = 0
precision_of Int = 0
precision_of BigInt = 0
precision_of Real = 0
precision_of DoublePrecision = 0
precision_of (Numeric p s) = p
precision_of (Decimal p s) = p
precision_of Boolean = 0
precision_of (Char n) = 0
precision_of (Character n) = 0
precision_of (Varchar p n) = 0
precision_of Date = 0
precision_of Time = 0
precision_of (Bit n) = 0
precision_of Timestamp = 0

abbrev pub scale_of : DataType → ℕ
scale_of SmallInt = 0
scale_of Int = 0
scale_of BigInt = 0
scale_of Real = 0
scale_of DoublePrecision = 0
scale_of (Numeric p s) = s
scale_of (Decimal p s) = s
scale_of Boolean = 0
scale_of (Char n) = 0
scale_of (Character n) = 0
scale_of (Varchar p n) = 0
scale_of Date = 0
scale_of Time = 0
scale_of (Bit n) = 0
scale_of Timestamp = 0

abbrev pub length_of : DataType → ℕ
length_of SmallInt = 0
length_of Int = 0
length_of BigInt = 0
length_of Real = 0
length_of DoublePrecision = 0
length_of (Numeric p s) = 0
length_of (Decimal p s) = 0
length_of Boolean = 0
length_of (Char n) = n
length_of (Character n) = n
length_of (Varchar p n) = n
length_of Date = 0
length_of Time = 0
length_of (Bit n) = n
length_of Timestamp = 0

-- whether n counts code points, as 02, request 3, has it for kind 16: "a Varchar of at most n code points"; else it
-- counts bytes, of a Bit bits
abbrev pub counts_points : DataType → Bool
counts_points SmallInt = false
counts_points Int = false
counts_points BigInt = false
counts_points Real = false
counts_points DoublePrecision = false
counts_points (Numeric p s) = false
counts_points (Decimal p s) = false
counts_points Boolean = false
counts_points (Char n) = false
counts_points (Character n) = false
counts_points (Varchar p n) = p
counts_points Date = false
counts_points Time = false
counts_points (Bit n) = false
counts_points Timestamp = false
