use Rattle.text.specs.Rfc3629.{is_text}
use Rattle.text.specs.Check.{points}
use Prim.Native.Nat.{◌-◌}
use lib.ListN.{take, drop}
use mathlib.Core.Path.{◌∙◌}
use mathlib.Core.Bool.{false}
use native.Mathlib.Omega.{arith}
use Rattle.text_limit.proofs.Limits.{few_bytes}
use Rattle.slot_record.proofs.Numbers.{part_length}
use Rattle.slot_record.proofs.Texts.{char_text}
use Rattle.slot_record.proofs.char_record.Goals as goal

pub returns : goal.returns
returns c =
    let a = c.args in
    let part = take (a.part.end - a.part.start) (drop a.part.start a.part.row.now) in
    let few = part_length a.part.row.now a.part.start a.part.end c.requires.0 c.requires.1.0 in
    c.text_record.ensures
    ∙ rw (few_bytes false (a.part.end - a.part.start) part (omega (arith, few)))
    (char_text a.part.is_long part a.out.now a.at a.i a.part.start (points part) (is_text part))
