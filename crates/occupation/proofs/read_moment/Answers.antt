-- `read_moment` meets its contract.
use Rattle.std.specs.Prelude.{None, Some}
use Prim.Native.Nat.{ℕ}
use mathlib.Core.Path.{◌≡◌, sym, ap, ◌∙◌}
use lib.ListN.{take, drop}
use mir.Syntax.{w64}
use mir.Val.{to_z}
use Rattle.laws.specs.Bytes.{from_le}
use Rattle.calendar.specs.InnerMoment.{moment_of}
use Rattle.calendar.proofs.Since.{moment_lt}
use Rattle.occupation.proofs.Reading.{moment_read, moment_null, moment_told}
use Rattle.occupation.proofs.read_moment.Goals as goal

pub returns-then-column_bit_is_set : goal.returns-then-column_bit_is_set
returns-then-column_bit_is_set c =
    let a = c.args in
    (moment_null a.column a.at a.row.now (sym c.column_bit_is_set.ensures ∙ c.if-column_bit_is_set.true), tt)

pub returns-in-Some : goal.returns-in-Some
returns-in-Some c =
    let a = c.args in
    let z = to_z w64 (from_le (take 8 (drop a.at a.row.now))) in
    let e : moment_of z ≡ Some c.in-Some.micros = sym (c.moment_of.ensures ∙ ap (λ (n : ℕ). moment_of (to_z w64 n)) c.read_u64.ensures) ∙ c.in-Some.is in
    let t = moment_told a.column a.at a.row.now (sym c.column_bit_is_set.ensures ∙ c.if-column_bit_is_set.false) in
    (sym (ap (moment_read a.column) e) ∙ t, moment_lt z c.in-Some.micros e)

pub returns-in-None : goal.returns-in-None
returns-in-None c =
    let a = c.args in
    let z = to_z w64 (from_le (take 8 (drop a.at a.row.now))) in
    let e : moment_of z ≡ None = sym (c.moment_of.ensures ∙ ap (λ (n : ℕ). moment_of (to_z w64 n)) c.read_u64.ensures) ∙ c.in-None.is in
    let t = moment_told a.column a.at a.row.now (sym c.column_bit_is_set.ensures ∙ c.if-column_bit_is_set.false) in
    (sym (ap (moment_read a.column) e) ∙ t, tt)
