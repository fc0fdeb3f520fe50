-- For the proofs: the bytes of the record at a place, 0 where it is refused.
use Rattle.std.specs.Prelude.{ℕ, zero, suc, Option, None, Some, ◌+◌, ◌*◌, ◌-◌, Bool, cond, List, ltb, length, get_or}
use Rattle.row_format.specs.Places.{offset_width}
use Rattle.value.specs.Kinds.{is_range_kind, is_value_kind}
use Rattle.value_list.specs.Records.{body_length}

-- the bytes of a body of one of 01's kinds, ranges with numbers of four bytes or of two
abbrev pub body_in : Bool → ℕ → ℕ
body_in t k = cond (is_range_kind k) (2 * offset_width t) (body_length k)

abbrev pub size_of_kind : ℕ → List ℕ → ℕ → ℕ
size_of_kind k s at = cond (is_value_kind k) (cond (ltb (length s - at - 1) (body_length k)) 0 (1 + body_length k)) 0

abbrev pub size_at : List ℕ → ℕ → ℕ
size_at s at = size_of_kind (get_or s at 0) s at

-- the bytes, none where it is refused
abbrev pub some_size : ℕ → Option ℕ
some_size zero = None
some_size (suc n) = Some (suc n)
