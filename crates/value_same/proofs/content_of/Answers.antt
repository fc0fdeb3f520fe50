use Prim.Native.Nat.{ℕ}
use mathlib.Core.Path.{refl, ap, ◌∙◌}
use mir.Syntax.{w64}
use borrow.Author.Rules.{rules}
use Rattle.value_same.specs.declared.Content.{Content}
use Rattle.value_same.proofs.Fields.{unsigned_word, signed_word}
use Rattle.value_same.proofs.content_of.Goals as goal

pub returns-in-Numeric : goal.returns-in-Numeric
returns-in-Numeric c =
    let x = c.in-Numeric.x in
    let of : ℕ → ℕ → Content = λ low high. record { word = low; upper = high; scale = x.scale } in
    rw c.in-Numeric.is
    (ap (λ low. of low c.cast_unsigned-in-Numeric.result) (unsigned_word w64 8 refl x.low (search rules))
    ∙ ap (of _) (signed_word w64 8 refl x.high (search rules) c.cast_unsigned-in-Numeric.ensures))
