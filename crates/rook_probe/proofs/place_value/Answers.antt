use Rattle.rook_probe.proofs.Single.{form-length}
use Rattle.laws.proofs.Tests.{by_tests}
use native.Mathlib.Omega.{arith}
use Rattle.rook_probe.proofs.place_value.Goals as goal

pub returns-then-out-length : goal.returns-then-out-length
returns-then-out-length c =
    let a = c.args in
    rw (form-length a.ty a.value a.area.now c.requires.1.0 c.requires.1.1, ← c.form_length-length.ensures) (search by_tests depth 4)

pub to_bytes_for_type-requires : goal.to_bytes_for_type-requires
to_bytes_for_type-requires c =
    let a = c.args in
    (c.requires.0, (c.requires.1.1, rw (form-length a.ty a.value a.area.now c.requires.1.0 c.requires.1.1, ← c.form_length-length.ensures) (omega (arith, c.if-out-length.false))))

pub returns : goal.returns
returns c =
    let a = c.args in
    rw (c.to_bytes_for_type.ensures, form-length a.ty a.value a.area.now c.requires.1.0 c.requires.1.1, ← c.form_length-length.ensures) (search by_tests depth 4)
