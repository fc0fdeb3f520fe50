use mathlib.Core.Path.{sym, ◌∙◌}
use Rattle.error.proofs.Results.{handed_on}
use Rattle.datatype.specs.Check.{types_in}
use Rattle.datatype.proofs.Again.{ahead-start}
use Rattle.row_column.proofs.Framing.{framed}
use Rattle.row_reads.proofs.Reading.{ahead_walk}
use Rattle.row_same.specs.InnerWalk.{walked_all}
use Rattle.row_same.proofs.Compared.{first_refused, second_refused, all_read}
use Rattle.row_same.proofs.compare_rows.Goals as goal

pub check_frame-requires : goal.check_frame-requires
check_frame-requires c = c.requires.0.bounded

pub check_columns-requires : goal.check_columns-requires
check_columns-requires c =
    let p = c.requires.0 in
    (framed p (sym c.check_frame.ensures ∙ c.in_ok-p.was), rw c.new.ensures (ahead_walk (ahead-start p.schema)))

pub compare_columns-requires : goal.compare_columns-requires
compare_columns-requires c =
    let a = c.args in
    let p = c.requires in
    let said = rw c.new.ensures at c.check_columns.ensures in
    let all = all_read (walked_all (types_in a.schema.now) a.layout a.a.now c.in_ok-p.p)
    (sym said ∙ c.in_ok-check_columns.was) in
    (framed p.0 (sym c.check_frame.ensures ∙ c.in_ok-p.was), (framed p.1 (sym c.check_frame-2.ensures ∙ c.in_ok-q.was), all))

pub returns-in_err-p : goal.returns-in_err-p
returns-in_err-p c =
    rw (handed_on c.from_residual.result c.from_residual.ensures)
    (rw (← c.check_frame.ensures, c.in_err-p.was))

pub returns-in_err-check_columns : goal.returns-in_err-check_columns
returns-in_err-check_columns c =
    rw (handed_on c.from_residual-in_err-check_columns.result c.from_residual-in_err-check_columns.ensures)
    (let a = c.args in
    let said = rw c.new.ensures at c.check_columns.ensures in
    rw (← c.check_frame.ensures, c.in_ok-p.was)
    (rw (first_refused (walked_all (types_in a.schema.now) a.layout a.a.now c.in_ok-p.p)
    (sym said ∙ c.in_err-check_columns.was))))

pub returns-in_err-finish : goal.returns-in_err-finish
returns-in_err-finish c =
    rw (handed_on c.from_residual-in_err-finish.result c.from_residual-in_err-finish.ensures)
    (let a = c.args in
    let said = rw c.new.ensures at c.check_columns.ensures in
    let first = walked_all (types_in a.schema.now) a.layout a.a.now c.in_ok-p.p in
    rw (← c.check_frame.ensures, c.in_ok-p.was, ← c.finish.ensures.0, c.in_err-finish.was)
    (second_refused (types_in a.schema.now) a.a.now a.b.now first c.in_err-finish.field-0.0
    (all_read first (sym said ∙ c.in_ok-check_columns.was))))

pub returns-in_err-q : goal.returns-in_err-q
returns-in_err-q c =
    rw (handed_on c.from_residual-in_err-q.result c.from_residual-in_err-q.ensures)
    (let a = c.args in
    let said = rw c.new.ensures at c.check_columns.ensures in
    let first = walked_all (types_in a.schema.now) a.layout a.a.now c.in_ok-p.p in
    rw (
      ← c.check_frame.ensures,
      c.in_ok-p.was,
      ← c.finish.ensures.0,
      c.in_ok-finish.was,
      ← c.check_frame-2.ensures,
      c.in_err-q.was,
    )
    (second_refused (types_in a.schema.now) a.a.now a.b.now first c.in_err-q.field-0.0
    (all_read first (sym said ∙ c.in_ok-check_columns.was))))

pub returns : goal.returns
returns c =
    c.compare_columns.ensures
    ∙ rw (
      ← c.check_frame.ensures,
      c.in_ok-p.was,
      ← c.finish.ensures.0,
      c.in_ok-finish.was,
      ← c.check_frame-2.ensures,
      c.in_ok-q.was,
    )
