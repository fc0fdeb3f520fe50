-- A value that matches its type, by cases: one for each type.
use Prim.Native.Nat.{ℕ}
use mathlib.Core.Path.{◌≡◌, subst}
use mathlib.Core.Bool.{Bool, true}
use borrow.Author.Tests.{eqb-true}
use lib.IntN.{ℤ}
use Rattle.datatype.specs.declared.DataType.{DataType}
use Rattle.datatype.specs.declared.DataType.TheVariants as T
use Rattle.value.specs.declared.TextRange.{TextRange}
use Rattle.value.specs.declared.NumericValue.{NumericValue}
use Rattle.value.specs.declared.DataValue.{DataValue}
use Rattle.value.specs.declared.DataValue.TheVariants as D
use Rattle.value.specs.Kinds.{kind_of, value_kind, matches}

pub data Matched : DataType → DataValue → Type 0 where
  smallint : (z : ℤ) → Matched T.SmallInt (D.SmallInt z)
  int : (z : ℤ) → Matched T.Int (D.Int z)
  bigint : (z : ℤ) → Matched T.BigInt (D.BigInt z)
  real : (b : ℕ) → Matched T.Real (D.Real b)
  double : (b : ℕ) → Matched T.DoublePrecision (D.DoublePrecision b)
  numeric : (p s : ℕ) (n : NumericValue) → Matched (T.Numeric p s) (D.Numeric n)
  decimal : (p s : ℕ) (n : NumericValue) → Matched (T.Decimal p s) (D.Numeric n)
  bool : (b : ℕ) → Matched T.Bool (D.Bool b)
  char : (n : ℕ) (r : TextRange) → Matched (T.Char n) (D.Char r)
  character : (n : ℕ) (r : TextRange) → Matched (T.Character n) (D.Char r)
  varchar : (p : Bool) (n : ℕ) (r : TextRange) → Matched (T.Varchar p n) (D.Varchar r)
  date : (z : ℤ) → Matched T.Date (D.Date z)
  time : (z : ℤ) → Matched T.Time (D.Time z)
  bit : (n : ℕ) (r : TextRange) → Matched (T.Bit n) (D.Bit r)
  timestamp : (z : ℤ) → Matched T.Timestamp (D.Timestamp z)

-- a value and its kind
pub data Kinded : DataValue → ℕ → Type 0 where
  null : Kinded D.Null 0
  smallint : (z : ℤ) → Kinded (D.SmallInt z) 1
  int : (z : ℤ) → Kinded (D.Int z) 2
  bigint : (z : ℤ) → Kinded (D.BigInt z) 3
  real : (b : ℕ) → Kinded (D.Real b) 4
  double : (b : ℕ) → Kinded (D.DoublePrecision b) 5
  numeric : (n : NumericValue) → Kinded (D.Numeric n) 6
  bool : (b : ℕ) → Kinded (D.Bool b) 7
  char : (r : TextRange) → Kinded (D.Char r) 8
  varchar : (r : TextRange) → Kinded (D.Varchar r) 9
  date : (z : ℤ) → Kinded (D.Date z) 10
  time : (z : ℤ) → Kinded (D.Time z) 11
  bit : (r : TextRange) → Kinded (D.Bit r) 12
  timestamp : (z : ℤ) → Kinded (D.Timestamp z) 13

pub kinded : (v : DataValue) → Kinded v (kind_of v)
kinded D.Null = null
kinded (D.SmallInt z) = Kinded.smallint z
kinded (D.Int z) = Kinded.int z
kinded (D.BigInt z) = Kinded.bigint z
kinded (D.Real b) = Kinded.real b
kinded (D.DoublePrecision b) = Kinded.double b
kinded (D.Numeric n) = Kinded.numeric n
kinded (D.Bool b) = Kinded.bool b
kinded (D.Char r) = Kinded.char r
kinded (D.Varchar r) = Kinded.varchar r
kinded (D.Date z) = Kinded.date z
kinded (D.Time z) = Kinded.time z
kinded (D.Bit r) = Kinded.bit r
kinded (D.Timestamp z) = Kinded.timestamp z

by_kind : (t : DataType) (v : DataValue) → Kinded v (value_kind t) → Matched t v
by_kind T.SmallInt v (Kinded.smallint z) = smallint z
by_kind T.Int v (Kinded.int z) = int z
by_kind T.BigInt v (Kinded.bigint z) = bigint z
by_kind T.Real v (Kinded.real b) = real b
by_kind T.DoublePrecision v (Kinded.double b) = double b
by_kind (T.Numeric p s) v (Kinded.numeric n) = numeric p s n
by_kind (T.Decimal p s) v (Kinded.numeric n) = decimal p s n
by_kind T.Bool v (Kinded.bool b) = bool b
by_kind (T.Char n) v (Kinded.char r) = char n r
by_kind (T.Character n) v (Kinded.char r) = character n r
by_kind (T.Varchar p n) v (Kinded.varchar r) = varchar p n r
by_kind T.Date v (Kinded.date z) = date z
by_kind T.Time v (Kinded.time z) = time z
by_kind (T.Bit n) v (Kinded.bit r) = bit n r
by_kind T.Timestamp v (Kinded.timestamp z) = timestamp z

pub matched : (t : DataType) (v : DataValue) → matches t v ≡ true → Matched t v
matched t v e = by_kind t v (subst (Kinded v) (eqb-true (kind_of v) (value_kind t) e) (kinded v))
