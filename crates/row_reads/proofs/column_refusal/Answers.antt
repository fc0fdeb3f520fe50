use Rattle.row_sound.proofs.ByKind.{recorded-good}
use mathlib.Core.Path.{sym, ◌∙◌}
use Rattle.error.proofs.Results.{handed_on}
use Rattle.row_reads.proofs.column_refusal.Goals as goal

pub read_column-requires : goal.read_column-requires
read_column-requires c =
    rw (← c.record_at.ensures, c.in_ok-ty.was) at c.requires.1

pub returns-in_err-ty : goal.returns-in_err-ty
returns-in_err-ty c =
    rw (handed_on c.from_residual.result c.from_residual.ensures)
    (absurd (recorded-good c.requires.0 (sym c.record_at.ensures ∙ c.in_err-ty.was)))

pub returns-in_err-read_column : goal.returns-in_err-read_column
returns-in_err-read_column c =
    let r = c.from_residual-in_err-read_column in
    rw (handed_on r.result r.ensures, ← c.record_at.ensures, c.in_ok-ty.was, ← c.read_column.ensures.0, c.in_err-read_column.was)

pub returns : goal.returns
returns c =
    rw (← c.record_at.ensures, c.in_ok-ty.was, ← c.read_column.ensures.0, c.in_ok-read_column.was)
