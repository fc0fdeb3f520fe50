use native.Mathlib.Omega.{arith}
use mathlib.Core.Path.{◌≡◌, ◌∙◌, sym, ap}
use lib.ListN.{get_or}
use borrow.Author.Tests.{eqb-true, eqb-false}
use Rattle.value.specs.Kinds.{plain_kind}
use Rattle.record_slot.proofs.Held.{null-plain, body_within}
use Rattle.record_slot.proofs.Forms.{null-payload, wrong_kind, testable, unsuitable, found_payload, found_short}
use Rattle.record_slot.proofs.payload_at.Goals as goal

pub returns-then-given-eq-NULL : goal.returns-then-given-eq-NULL
returns-then-given-eq-NULL c =
    (null-payload c.requires.0 c.args.column c.args.text.now (ap plain_kind c.if-given-eq-NULL.true), omega arith)

pub returns-then-not-is_of_kind : goal.returns-then-not-is_of_kind
returns-then-not-is_of_kind c =
    let other = eqb-false _ _ (sym c.is_of_kind.ensures ∙ c.if-not-is_of_kind.true) in
    (wrong_kind c.requires.0 c.args.column c.args.text.now (λ e. c.if-given-eq-NULL.false (null-plain _ e)) (λ e. other (e ∙ sym c.held_kind-kind.ensures)), tt)

pub suits_at-requires : goal.suits_at-requires
suits_at-requires c =
    let a = c.args in
    let d = c.declared_length.ensures in
    let same : plain_kind (get_or c.args.values.now c.args.from 0) ≡ c.held_kind-kind.result = eqb-true _ _ (sym c.is_of_kind.ensures ∙ c.if-not-is_of_kind.false) in
    rw (sym same, c.is_long_kind-is_long.ensures) (testable c.requires.0 a.column a.text.now (λ e. c.if-given-eq-NULL.false (null-plain _ e)) (same ∙ c.held_kind-kind.ensures) d.0 d.1)

pub payload_length-requires : goal.payload_length-requires
payload_length-requires c =
    let same : plain_kind (get_or c.args.values.now c.args.from 0) ≡ c.held_kind-kind.result = eqb-true _ _ (sym c.is_of_kind.ensures ∙ c.if-not-is_of_kind.false) in
    rw (sym same, c.is_long_kind-is_long.ensures) (body_within c.requires.0)

pub returns-then-suits_at : goal.returns-then-suits_at
returns-then-suits_at c =
    let a = c.args in
    let p = c.requires in
    let same : plain_kind (get_or c.args.values.now c.args.from 0) ≡ c.held_kind-kind.result = eqb-true _ _ (sym c.is_of_kind.ensures ∙ c.if-not-is_of_kind.false) in
    let l = c.is_long_kind-is_long.ensures in
    let h = same ∙ c.held_kind-kind.ensures in
    let d = c.declared_length.ensures.0 in
    let f = rw (sym same, l) at c.suits_at.ensures in
    rw (c.payload_length.ensures, sym same, l)
    (found_payload p.0 a.column a.text.now (λ e. c.if-given-eq-NULL.false (null-plain _ e)) h d f c.if-suits_at.true, found_short p.0 a.column a.text.now (λ e. c.if-given-eq-NULL.false (null-plain _ e)) h d f c.if-suits_at.true p.1)

pub returns : goal.returns
returns c =
    let a = c.args in
    let same : plain_kind (get_or c.args.values.now c.args.from 0) ≡ c.held_kind-kind.result = eqb-true _ _ (sym c.is_of_kind.ensures ∙ c.if-not-is_of_kind.false) in
    let f = rw (sym same, c.is_long_kind-is_long.ensures) at c.suits_at.ensures in
    (unsuitable c.requires.0 a.column a.text.now (λ e. c.if-given-eq-NULL.false (null-plain _ e)) (same ∙ c.held_kind-kind.ensures) c.declared_length.ensures.0 f c.if-suits_at.false, tt)
