use borrow.Author.Rules.{rules}
use Rattle.signed.proofs.Casts.{passed}
use mir.Syntax.{w32, w64}
use Rattle.row_sound.proofs.ByKind.{any-bytes}
use Rattle.row_sound.proofs.Slots.{value_if_lem}
use mathlib.Core.Path.{◌∙◌}
use Rattle.row_sound.proofs.slot_sound.Goals as goal

pub read_i32-requires : goal.read_i32-requires
read_i32-requires c = rw c.in-12.is at c.requires.1

pub time_sound-requires : goal.time_sound-requires
time_sound-requires c = rw c.in-13.is at c.requires.1

pub read_i64-requires : goal.read_i64-requires
read_i64-requires c = rw c.in-15.is at c.requires.1

pub returns-in-12 : goal.returns-in-12
returns-in-12 c = rw (c.in-12.is, ← passed w32 (search rules) c.read_i32.ensures) (c.is_date.ensures ∙ value_if_lem _ _)

pub returns-in-13 : goal.returns-in-13
returns-in-13 c = rw c.in-13.is c.time_sound.ensures

pub returns-in-15 : goal.returns-in-15
returns-in-15 c = rw (c.in-15.is, ← passed w64 (search rules) c.read_i64.ensures) (c.is_timestamp.ensures ∙ value_if_lem _ _)

pub returns-in_default : goal.returns-in_default
returns-in_default c =
    let a = c.args in
    any-bytes a.kind c.requires.0 c.in_default.in_default-own.rest.0.0.1 c.in_default.in_default-own.rest.0.1 c.in_default.in_default-own.rest.1 a.start _
