use Prim.Native.Nat.{ℕ, ◌+◌, ◌≤◌}
use mathlib.Core.Path.{sym, subst}
use lib.ListN.{length}
use Rattle.occupation_list.proofs.Places.{good_at, known_fields, line_at, line-written}
use Rattle.occupation_list.proofs.write_row.Goals as goal

pub fields_of-requires : goal.fields_of-requires
fields_of-requires c = good_at c.row_at-row.result.now c.row_at-row.ensures c.requires.0

pub write_line-requires : goal.write_line-requires
write_line-requires c = (c.fields_of.ensures.1, subst (λ (n : ℕ). c.args.end + n ≤ length c.args.out.now) (sym (line_at c.args.list.now c.args.at c.row_at-row.result.now c.row_at-row.ensures (known_fields c.row_at-row.result.now c.fields_of.ensures))) c.requires.1)

pub returns : goal.returns
returns c = line-written c.args.list.now c.args.at c.row_at-row.result.now c.row_at-row.ensures (known_fields c.row_at-row.result.now c.fields_of.ensures) c.args.out.now c.args.end c.write_line.ensures
