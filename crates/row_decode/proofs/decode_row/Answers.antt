use mathlib.Core.Path.{sym, ap, ◌∙◌}
use Rattle.row_column.proofs.Framing.{framed, frame_refused, frame-good}
use Rattle.row_format.specs.Places.{offset_width}
use Rattle.row_decode.specs.Read.{is_wanted, read_from, hand_out}
use lib.ListN.{length}
use Rattle.row_decode.proofs.Walk.{read_walked}
use Rattle.error.specs.Answer.{unchanged_both}
use Rattle.datatype.specs.Check.{types_in}
use Rattle.error.proofs.Results.{handed_on}
use Rattle.row_decode.proofs.decode_row.Goals as goal

pub decode_values-requires : goal.decode_values-requires
decode_values-requires c = framed c.requires (sym c.check_frame.ensures ∙ c.in_ok-packed.was)

pub returns-in_err-packed : goal.returns-in_err-packed
returns-in_err-packed c =
    rw (handed_on c.from_residual.result c.from_residual.ensures)
    (let a = c.args in
    frame_refused (types_in a.schema.now) a.row.now
    c.requires.layout (unchanged_both a.out.now a.counts.now) _
    (sym c.check_frame.ensures ∙ c.in_err-packed.was))

pub returns : goal.returns
returns c =
    let a = c.args in
    let ts = types_in a.schema.now in
    let known = c.requires.layout in
    c.decode_values.ensures
    ∙ ap (hand_out a.layout.is_long a.out.now a.counts.now a.row.now) (read_walked a.layout.is_long _ ts (is_wanted a.wanted.now) a.row.now known)
    ∙ frame-good ts a.row.now known (unchanged_both a.out.now a.counts.now)
    (λ p. hand_out a.layout.is_long a.out.now a.counts.now a.row.now (read_from (offset_width a.layout.is_long) p ts (is_wanted a.wanted.now) a.row.now 0
    (length ts))) (sym c.check_frame.ensures ∙ c.in_ok-packed.was)
