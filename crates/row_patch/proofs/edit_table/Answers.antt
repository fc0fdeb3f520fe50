use borrow.Author.Rules.{rules}
use Rattle.row_format.proofs.Sorts.{entry_in}
use Rattle.row_format.specs.Places.{offset_width}
use Rattle.row_patch.proofs.Offsets.{table-edited}
use lib.ListN.{length}
use Rattle.row_patch.proofs.edit_table.Goals as goal

pub put_offset-requires : goal.put_offset-requires
put_offset-requires c =
    let a = c.args in
    let h = c.requires.0 in
    let e = entry_in a.table.is_long a.table.start a.table.entries a.rank (length a.row.now) h.ranked h.inside in
    search rules

pub returns : goal.returns
returns c =
    let a = c.args in
    let h = c.requires.0 in
    table-edited (offset_width a.table.is_long) a.table.start a.table.entries a.rank a.own a.end a.new_end a.row.now c.slice_known-1.given h.ranked h.inside _ _ c.move_offsets.ensures c.put_offset.ensures
