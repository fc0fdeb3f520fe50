use mathlib.Core.Path.{sym, ◌∙◌, subst}
use Rattle.error.proofs.Results.{handed_on}
use Rattle.row_sound.proofs.ByKind.{recorded-good}
use Rattle.row_same.specs.InnerWalk.{Stands}
use Rattle.row_same.proofs.Stand.{column_stands}
use Rattle.row_same.proofs.compare_column.Goals as goal

pub read_column-requires : goal.read_column-requires
read_column-requires c =
    let reach = rw (← c.record_at.ensures, c.in_ok-ty.was) at c.requires.1 in
    reach.0

pub read_column-requires-2 : goal.read_column-requires-2
read_column-requires-2 c =
    let reach = rw (← c.record_at.ensures, c.in_ok-ty.was) at c.requires.1 in
    reach.1

pub same_content-requires : goal.same_content-requires
same_content-requires c =
    let reach = rw (← c.record_at.ensures, c.in_ok-ty.was) at c.requires.1 in
    let v = sym c.read_column.ensures.0 ∙ c.in_ok-v.was in
    let w = sym c.read_column-2.ensures.0 ∙ c.in_ok-w.was in
    (subst (Stands c.in_ok-ty.ty c.args.a.now) v (column_stands reach.0), subst (Stands c.in_ok-ty.ty c.args.b.now) w (column_stands reach.1))

pub returns-in_err-ty : goal.returns-in_err-ty
returns-in_err-ty c = absurd (recorded-good c.requires.0 (sym c.record_at.ensures ∙ c.in_err-ty.was))

pub returns-in_err-v : goal.returns-in_err-v
returns-in_err-v c =
    rw (handed_on c.from_residual-in_err-v.result c.from_residual-in_err-v.ensures)
    (rw (← c.record_at.ensures, c.in_ok-ty.was, ← c.read_column.ensures.0, c.in_err-v.was))

pub returns-in_err-w : goal.returns-in_err-w
returns-in_err-w c =
    rw (handed_on c.from_residual-in_err-w.result c.from_residual-in_err-w.ensures)
    (rw (
      ← c.record_at.ensures,
      c.in_ok-ty.was,
      ← c.read_column.ensures.0,
      c.in_ok-v.was,
      ← c.read_column-2.ensures.0,
      c.in_err-w.was,
    ))

pub returns : goal.returns
returns c =
    rw (
      ← c.record_at.ensures,
      c.in_ok-ty.was,
      ← c.read_column.ensures.0,
      c.in_ok-v.was,
      ← c.read_column-2.ensures.0,
      c.in_ok-w.was,
      c.same_content.ensures,
    )
