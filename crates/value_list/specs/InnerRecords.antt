-- For the proofs: values whose ranges fit a record.
use Rattle.std.specs.Prelude.{Bool}
use Rattle.row_format.specs.Places.{offset_width}
use Rattle.value.specs.declared.DataValue.{DataValue}
use Rattle.value.specs.declared.DataValue.TheVariants as D
use Rattle.value_list.specs.Records.{NarrowRange}

-- a value of the code whose range, if it has one, fits a record for rows of a sort
abbrev pub Narrow : Bool → DataValue → Type 0
Narrow k D.Null = Unit {0}
Narrow k (D.SmallInt x) = Unit {0}
Narrow k (D.Int x) = Unit {0}
Narrow k (D.BigInt x) = Unit {0}
Narrow k (D.Real x) = Unit {0}
Narrow k (D.DoublePrecision x) = Unit {0}
Narrow k (D.Numeric n) = Unit {0}
Narrow k (D.Bool b) = Unit {0}
Narrow k (D.Char r) = NarrowRange (offset_width k) r
Narrow k (D.Varchar r) = NarrowRange (offset_width k) r
Narrow k (D.Date x) = Unit {0}
Narrow k (D.Time x) = Unit {0}
Narrow k (D.Bit r) = NarrowRange (offset_width k) r
Narrow k (D.Timestamp x) = Unit {0}
