use mathlib.Core.Bool.{false}
use mathlib.Core.Path.{sym, ◌∙◌}
use Rattle.rook_probe.proofs.Single.{some_ok, none_refused, one_value_lem}
use Rattle.value_list.proofs.Sole.{sole_there, sole_good}
use Rattle.rook_probe.proofs.one_value.Goals as goal

pub value_record_at-requires : goal.value_record_at-requires
value_record_at-requires c =
    sole_there false c.args.area c.args.list.now (sym (some_ok (sym c.ok.ensures.value ∙ c.in_ok-ok.was)) ∙ c.check_values.ensures)

pub returns-in_err-value : goal.returns-in_err-value
returns-in_err-value c =
    let p = none_refused (sym c.ok-2.ensures.value ∙ c.in_err-value.was) in
    absurd (sole_good false c.args.area c.args.list.now (sym (some_ok (sym c.ok.ensures.value ∙ c.in_ok-ok.was)) ∙ c.check_values.ensures) p.0 (sym c.value_record_at.ensures ∙ p.1))

pub returns : goal.returns
returns c =
    one_value_lem c.args.area c.args.list.now (sym (some_ok (sym c.ok.ensures.value ∙ c.in_ok-ok.was)) ∙ c.check_values.ensures) _ _ (sym c.value_record_at.ensures ∙ some_ok (sym c.ok-2.ensures.value ∙ c.in_ok-value.was))
