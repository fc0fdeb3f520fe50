-- The bytes of a field and of a line.
use Rattle.std.specs.Prelude.{Option as Found, None, Some}
use Prim.Native.Nat.{ℕ, ◌+◌, ◌≤◌}
use native.Mathlib.Omega.{arith}
use Rattle.occupation.specs.declared.Span.{Span}
use Rattle.occupation.specs.declared.Fields.{Fields}
use Rattle.occupation.specs.InnerFields.{ShortText, ShortTexts, FieldsIn, text_length, moment_length, line_length}

text-short : (most : ℕ) (x : Found Span) → ShortText most x → text_length x ≤ most + 2
text-short most None h = omega arith
text-short most (Some x) h = let l = h.1 in omega arith

moment_short : (m : Found ℕ) → moment_length m ≤ 19
moment_short None = omega arith
moment_short (Some m) = omega arith

pub fields_short : {n : ℕ} {f : Fields} → FieldsIn n f → ShortTexts f
fields_short x = (x.platform_in.1, x.unit_in.1)

pub line-short : (f : Fields) → ShortTexts f → line_length f ≤ 126
line-short f p =
    let a = text-short 16 f.platform p.0 in
    let b = text-short 64 f.unit p.1 in
    let m = moment_short f.arrival in
    let k = moment_short f.departure in
    omega arith
