use borrow.Author.Rules.{rules}
use Prim.Native.Nat.{◌+◌}
use mathlib.Core.Path.{◌≡◌, sym, ap, ◌∙◌}
use mathlib.Core.List.{◌∷◌}
use lib.Seq.{sets}
use mir.Syntax.{w64}
use mir.Val.{to_z, of_z}
use Rattle.laws.specs.Bytes.{to_le}
use Rattle.signed.proofs.Casts.{passed}
use Rattle.temporal.specs.Time.{time_of}
use Rattle.slot_record.proofs.Numbers.{slot-taken}
use Rattle.slot_record.proofs.time_record.Goals as goal

pub returns-in-Some : goal.returns-in-Some
returns-in-Some c = λ k.
    let bs = c.args.bytes.now in
    let read = ap time_of (sym (passed w64 (search rules) (c.read_i64.ensures ∙ ap (to_z w64) (slot-taken 8 bs c.requires.0)))) ∙ sym c.time_of.ensures ∙ c.in-Some.is in
    let e : c.write_record.result ≡ c.args.at + 9 = search rules in
    let b : c.to_le_bytes.result ≡ to_le 8 (of_z w64 c.in-Some.micros) = search rules in
    let f : c.write_record.new.out ≡ sets c.args.out.now c.args.at (11 ∷ to_le 8 (of_z w64 c.in-Some.micros)) = c.write_record.ensures.1 ∙ ap (λ bs. sets c.args.out.now c.args.at (11 ∷ bs)) b in
    rw (read, e, f)
