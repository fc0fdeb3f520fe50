-- `line_length` meets its contract.
use native.Mathlib.Omega.{arith}
use Rattle.occupation.proofs.Lengths.{line-short}
use Rattle.occupation.proofs.line_length.Goals as goal

pub overflow_add-texts : goal.overflow_add-texts
overflow_add-texts c =
    let l = line-short c.args.f c.requires in
    record { fits = omega (arith, c.text_length.ensures, c.text_length-2.ensures) }

pub overflow_add-result : goal.overflow_add-result
overflow_add-result c =
    let l = line-short c.args.f c.requires in
    record { fits = omega (arith, c.text_length.ensures, c.text_length-2.ensures, c.moment_length.ensures) }

pub overflow_add-result-2 : goal.overflow_add-result-2
overflow_add-result-2 c =
    let l = line-short c.args.f c.requires in
    record { fits = omega (arith, c.text_length.ensures, c.text_length-2.ensures, c.moment_length.ensures, c.moment_length-2.ensures) }

pub overflow_add-result-3 : goal.overflow_add-result-3
overflow_add-result-3 c =
    let l = line-short c.args.f c.requires in
    record { fits = omega (arith, c.text_length.ensures, c.text_length-2.ensures, c.moment_length.ensures, c.moment_length-2.ensures) }

pub returns : goal.returns
returns c =
    let l = line-short c.args.f c.requires in
    (omega (arith, c.text_length.ensures, c.text_length-2.ensures, c.moment_length.ensures, c.moment_length-2.ensures), omega (arith, c.text_length.ensures, c.text_length-2.ensures, c.moment_length.ensures, c.moment_length-2.ensures))
