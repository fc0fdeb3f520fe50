use borrow.Author.Rules.{rules}
use Rattle.row_patch.proofs.Columns.{sized-value, bit-room, bit-part, bit_ready, bit-done}
use Rattle.row_patch.proofs.write_value.Goals as goal

pub slice_bounds-put_bit-end : goal.slice_bounds-put_bit-end
slice_bounds-put_bit-end c =
    let p = c.requires in
    let k = bit-room p.0 (sized-value p.1) _ _ c.store_column-m.ensures in
    search rules

pub slice_bounds-put_bit-end-2 : goal.slice_bounds-put_bit-end-2
slice_bounds-put_bit-end-2 c =
    let p = c.requires in
    bit-part p.0 (sized-value p.1) _ _ c.store_column-m.ensures

pub put_bit-requires : goal.put_bit-requires
put_bit-requires c =
    let p = c.requires in
    bit_ready p.0 (sized-value p.1) _ _ c.store_column-m.ensures

pub returns : goal.returns
returns c =
    let p = c.requires in
    bit-done p.0 (sized-value p.1) _ _ c.store_column-m.ensures _ c.put_bit.ensures
