use borrow.Author.Rules.{rules}
use Rattle.row_same.proofs.same_slots.Goals as goal

pub overflow_add-start : goal.overflow_add-start
overflow_add-start c =
    let n = c.requires.1 in
    let s = c.requires.0.0.slot n in
    let r = c.requires.0.0.rises n in
    let f = c.fixed_data_start-base.ensures.0 in
    let x = c.fixed_size.ensures in
    search rules

pub overflow_add-end : goal.overflow_add-end
overflow_add-end c =
    let n = c.requires.1 in
    let s = c.requires.0.0.slot n in
    let r = c.requires.0.0.rises n in
    let f = c.fixed_data_start-base.ensures.0 in
    let x = c.fixed_size-2.ensures in
    search rules

pub overflow_add-from : goal.overflow_add-from
overflow_add-from c =
    let n = c.requires.1 in
    let s = c.requires.0.1.slot n in
    let r = c.requires.0.1.rises n in
    let f = c.fixed_data_start-second.ensures.0 in
    let x = c.fixed_size-3.ensures in
    search rules

pub overflow_add-to : goal.overflow_add-to
overflow_add-to c =
    let n = c.requires.1 in
    let s = c.requires.0.1.slot n in
    let r = c.requires.0.1.rises n in
    let f = c.fixed_data_start-second.ensures.0 in
    let x = c.fixed_size-4.ensures in
    search rules

pub slice_bounds-same_bytes-count : goal.slice_bounds-same_bytes-count
slice_bounds-same_bytes-count c =
    let n = c.requires.1 in
    let s = c.requires.0.0.slot n in
    let r = c.requires.0.0.rises n in
    let f = c.fixed_data_start-base.ensures.0 in
    let x = c.fixed_size.ensures in
    let y = c.fixed_size-2.ensures in
    search rules

pub slice_bounds-same_bytes-start : goal.slice_bounds-same_bytes-start
slice_bounds-same_bytes-start c =
    let n = c.requires.1 in
    let s = c.requires.0.0.slot n in
    let r = c.requires.0.0.rises n in
    let f = c.fixed_data_start-base.ensures.0 in
    let x = c.fixed_size.ensures in
    let y = c.fixed_size-2.ensures in
    search rules

pub slice_bounds-same_bytes-end : goal.slice_bounds-same_bytes-end
slice_bounds-same_bytes-end c =
    let n = c.requires.1 in
    let s = c.requires.0.0.slot n in
    let r = c.requires.0.0.rises n in
    let f = c.fixed_data_start-base.ensures.0 in
    let x = c.fixed_size.ensures in
    let y = c.fixed_size-2.ensures in
    search rules

pub slice_bounds-same_bytes-count-2 : goal.slice_bounds-same_bytes-count-2
slice_bounds-same_bytes-count-2 c =
    let n = c.requires.1 in
    let s = c.requires.0.1.slot n in
    let r = c.requires.0.1.rises n in
    let f = c.fixed_data_start-second.ensures.0 in
    let x = c.fixed_size-3.ensures in
    let y = c.fixed_size-4.ensures in
    search rules

pub slice_bounds-same_bytes-start-2 : goal.slice_bounds-same_bytes-start-2
slice_bounds-same_bytes-start-2 c =
    let n = c.requires.1 in
    let s = c.requires.0.1.slot n in
    let r = c.requires.0.1.rises n in
    let f = c.fixed_data_start-second.ensures.0 in
    let x = c.fixed_size-3.ensures in
    let y = c.fixed_size-4.ensures in
    search rules

pub slice_bounds-same_bytes-end-2 : goal.slice_bounds-same_bytes-end-2
slice_bounds-same_bytes-end-2 c =
    let n = c.requires.1 in
    let s = c.requires.0.1.slot n in
    let r = c.requires.0.1.rises n in
    let f = c.fixed_data_start-second.ensures.0 in
    let x = c.fixed_size-3.ensures in
    let y = c.fixed_size-4.ensures in
    search rules

pub returns : goal.returns
returns c =
    rw (
      ← c.fixed_data_start-base.ensures.0,
      ← c.fixed_size.ensures,
      ← c.fixed_size-2.ensures,
      ← c.fixed_data_start-second.ensures.0,
      ← c.fixed_size-3.ensures,
      ← c.fixed_size-4.ensures,
    )
    c.same_bytes.ensures
