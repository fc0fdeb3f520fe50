use Rattle.std.specs.Prelude.{Some}
use Rattle.value.specs.declared.DataValue.TheVariants.{Time}
use lib.IntN.{ℤ}
use Rattle.value_decode.proofs.Numbers.{slot-taken}
use Rattle.signed.proofs.Casts.{passed}
use mir.Val.{to_z}
use mir.Syntax.{w64}
use mathlib.Core.Path.{◌∙◌, ap, refl}
use borrow.Author.Rules.{rules}
use Rattle.value_decode.proofs.read_time.Goals as goal

pub returns : goal.returns
returns c =
    rw (← passed w64 (search rules) (c.read_i64.ensures ∙ ap (to_z w64) (slot-taken 8 c.args.bytes.now c.requires)), ← c.time_of.ensures, c.in_ok-micros.was) (ap (λ (z : ℤ). Some (Time z)) (passed w64 {r = c.in_ok-micros.micros} (search rules) refl))

pub returns-in_err-micros : goal.returns-in_err-micros
returns-in_err-micros c =
    rw (c.from_residual.ensures, ← passed w64 (search rules) (c.read_i64.ensures ∙ ap (to_z w64) (slot-taken 8 c.args.bytes.now c.requires)), ← c.time_of.ensures, c.in_err-micros.was)
