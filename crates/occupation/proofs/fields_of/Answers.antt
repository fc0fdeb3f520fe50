-- `fields_of` meets its contract.
use Prim.Native.Nat.{ℕ, ◌+◌}
use mathlib.Core.Path.{ap, subst, ◌∙◌}
use native.Mathlib.Omega.{arith}
use Rattle.row_layout.specs.InnerRange.{Inside}
use Rattle.occupation.specs.InnerRead.{moment_column}
use Rattle.occupation.proofs.Rows.{good-sort, good_length, read_again}
use borrow.Author.Rules.{rules}
use Rattle.occupation.proofs.fields_of.Goals as goal

pub text_range-requires : goal.text_range-requires
text_range-requires c = let l = good_length c.args.row.now c.is_long-is_long.ensures c.requires in (omega arith, omega arith)

pub text_range-requires-2 : goal.text_range-requires-2
text_range-requires-2 c =
    let l = good_length c.args.row.now c.is_long-is_long.ensures c.requires in
    (omega arith, omega arith)

pub read_moment-requires : goal.read_moment-requires
read_moment-requires c =
    let l = good_length c.args.row.now c.is_long-is_long.ensures c.requires in
    (omega arith, omega arith)

pub overflow_add-at : goal.overflow_add-at
overflow_add-at c =
    let l = good_length c.args.row.now c.is_long-is_long.ensures c.requires in
    search rules

pub read_moment-requires-2 : goal.read_moment-requires-2
read_moment-requires-2 c =
    let l = good_length c.args.row.now c.is_long-is_long.ensures c.requires in
    (omega arith, omega arith)

pub returns : goal.returns
returns c =
    let k = c.is_long-is_long.result in
    let r = c.args.row.now in
    let t = c.text_range.ensures in
    let u = c.text_range-2.ensures in
    let p = c.arrival_place-at.ensures in
    let a = c.read_moment in
    let d = c.read_moment-2 in
    let ea = a.ensures.0 ∙ ap (λ (at : ℕ). moment_column 2 at r) p in
    let ed = d.ensures.0 ∙ ap (λ (at : ℕ). moment_column 3 (at + 8) r) p in
    rw (← c.is_long-is_long.ensures, c.span_of.ensures, c.span_of-2.ensures, c.unwrap_or.ensures, c.unwrap_or-2.ensures, t.0, u.0)
    (read_again k r (subst (Inside r) t.0 t.1) (subst (Inside r) u.0 u.1) a.result d.result ea ed a.ensures.1 d.ensures.1 (good-sort r c.is_long-is_long.ensures c.requires))
