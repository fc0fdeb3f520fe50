use mathlib.Core.Path.{ap, ◌∙◌}
use Rattle.occupation.specs.Order.{precedes}
use Rattle.occupation.specs.InnerFields.{fields_shown}
use Rattle.occupation_list.proofs.Places.{good_at, known_at, known_fields}
use Rattle.occupation_list.proofs.precedes_placed.Goals as goal

pub fields_of-requires : goal.fields_of-requires
fields_of-requires c = good_at c.row_at-other.result.now c.row_at-other.ensures c.requires.1

pub returns : goal.returns
returns c = c.precedes.ensures ∙ ap (precedes (fields_shown c.args.row.now c.args.f)) (known_at c.args.list.now c.args.at c.row_at-other.result.now c.row_at-other.ensures (known_fields c.row_at-other.result.now c.fields_of.ensures))
