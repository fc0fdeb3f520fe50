use borrow.Author.Rules.{rules}
use Rattle.row_patch.proofs.Columns.{sized-null, bit-room, bit-part, bit_ready, bit-done}
use Rattle.row_patch.proofs.write_null.Goals as goal

pub slice_bounds-put_bit-end : goal.slice_bounds-put_bit-end
slice_bounds-put_bit-end c =
    let k = bit-room c.requires (sized-null c.args.ty) _ _ c.store_null-m.ensures in
    search rules

pub slice_bounds-put_bit-end-2 : goal.slice_bounds-put_bit-end-2
slice_bounds-put_bit-end-2 c =
    bit-part c.requires (sized-null c.args.ty) _ _ c.store_null-m.ensures

pub put_bit-requires : goal.put_bit-requires
put_bit-requires c =
    bit_ready c.requires (sized-null c.args.ty) _ _ c.store_null-m.ensures

pub returns : goal.returns
returns c =
    bit-done c.requires (sized-null c.args.ty) _ _ c.store_null-m.ensures _ c.put_bit.ensures
