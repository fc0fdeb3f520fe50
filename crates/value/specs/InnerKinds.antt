-- For the proofs: the kind of a column's values, by the kind of its type.
use Rattle.std.specs.Prelude.{ℕ}
use Rattle.datatype.specs.Schema.{Kind, unknown, plain, sized, digits}
use Rattle.value.specs.Kinds.{value_kind}

-- the same by the kind of a column's record, 0 for none
abbrev pub held_kind : Kind → ℕ
held_kind unknown = 0
held_kind (plain t) = value_kind t
held_kind (sized t) = value_kind (t 0)
held_kind (digits t) = value_kind (t 0 0)
