use Rattle.value_list.proofs.Sizes.{size_none, size-some, size_zero, size_is}
use Rattle.value_list.specs.InnerSizes.{size_at}
use mathlib.Core.Path.{sym, ◌∙◌}
use lib.ListN.{get_or}
use Rattle.value_list.proofs.LongKinds.{body_in_lem}
use borrow.Author.Rules.{rules}
use Rattle.value_list.proofs.value_record_at.Goals as goal

pub returns-in_default : goal.returns-in_default
returns-in_default c =
    let a = c.args in
    let z = size_zero (size_at a.list.now a.at) (λ k e. c.in_default.not-Some k (c.record_size.ensures ∙ e)) in
    sym (size_none a.list.now a.at c.requires z)

pub value_at-requires : goal.value_at-requires
value_at-requires c =
    let a = c.args in
    let p = size_is (size_at a.list.now a.at) (sym c.record_size.ensures ∙ c.in-Some.is) in
    let w = size-some a.list.now a.at c.requires p.0 in
    rw (c.plain_kind.ensures, c.is_long_kind-is_long.ensures, body_in_lem (get_or a.list.now a.at 0)) w.body

pub overflow_add-result : goal.overflow_add-result
overflow_add-result c =
    let a = c.args in
    let p = size_is (size_at a.list.now a.at) (sym c.record_size.ensures ∙ c.in-Some.is) in
    let w = size-some a.list.now a.at c.requires p.0 in
    rw (← p.1) (search rules)

pub returns : goal.returns
returns c =
    let a = c.args in
    let p = size_is (size_at a.list.now a.at) (sym c.record_size.ensures ∙ c.in-Some.is) in
    let w = size-some a.list.now a.at c.requires p.0 in
    rw (c.value_at.ensures, c.plain_kind.ensures, c.is_long_kind-is_long.ensures, ← p.1) (sym w.value)
