use native.Mathlib.Omega.{arith}
use lib.ListN.{length-set}
use Rattle.occupation_list.specs.Print.{decimal}
use Rattle.occupation_list.proofs.Decimals.{length-line, line-stored}
use Rattle.occupation_list.proofs.write_refusal.Goals as goal

pub write_decimal-space-requires : goal.write_decimal-space-requires
write_decimal-space-requires c = let l = length-line c.args.number c.args.place in let r = c.requires in omega arith

pub bounds-out-space : goal.bounds-out-space
bounds-out-space c = let l = length-line c.args.number c.args.place in let r = c.requires in let e = c.write_decimal-space.ensures.0 in let o = c.out-1.given in omega arith

pub overflow_add-space : goal.overflow_add-space
overflow_add-space c = let l = length-line c.args.number c.args.place in let r = c.requires in let e = c.write_decimal-space.ensures.0 in let o = c.out-1.given in omega arith

pub write_decimal-end-requires : goal.write_decimal-end-requires
write_decimal-end-requires c = let l = length-line c.args.number c.args.place in let r = c.requires in let e = c.write_decimal-space.ensures.0 in let o = c.out-1.given in rw length-set (omega arith)

pub bounds-out-end : goal.bounds-out-end
bounds-out-end c = let l = length-line c.args.number c.args.place in let r = c.requires in let e = c.write_decimal-space.ensures.0 in let o = c.out-1.given in let f = c.write_decimal-end.ensures.0 in let p = rw length-set at c.out-2-1.given in omega arith

pub shape_of-out : goal.shape_of-out
shape_of-out c = let o = c.out-1.given in let p = rw length-set at c.out-2-1.given in rw length-set (omega arith)

pub returns : goal.returns
returns c = line-stored c.args.out.now (decimal c.args.number) (decimal c.args.place) 0x20 0x0A c.write_decimal-space.ensures.0 c.write_decimal-space.ensures.1 c.write_decimal-end.ensures.0 c.write_decimal-end.ensures.1
