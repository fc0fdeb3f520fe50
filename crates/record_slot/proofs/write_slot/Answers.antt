use borrow.Author.Rules.{rules}
use native.Mathlib.Omega.{arith}
use Prim.Native.Nat.{◌+◌}
use mathlib.Core.Path.{sym, ap, ◌∙◌}
use lib.Seq.{sets}
use mir.Syntax.{w16, w32, w64}
use lib.ListN.{get_or}
use Rattle.value.specs.Kinds.{plain_kind}
use Rattle.laws.specs.Bytes.{to_le}
use Rattle.record_slot.proofs.Forms.{held_found, by_bits, within_at, form_at, suits-at, room_at, number_ready, none-stored, body_stored_lem}
use Rattle.record_slot.proofs.write_slot.Goals as goal

pub read_u16-requires : goal.read_u16-requires
read_u16-requires c = within_at c.requires.0 1 (sym (held_found c.requires.0 c.requires.1.match c.held_kind-kind.ensures) ∙ c.in-1.is)

pub write_u16-requires : goal.write_u16-requires
write_u16-requires c =
    room_at c.requires.0 c.requires.1 1 (sym (held_found c.requires.0 c.requires.1.match c.held_kind-kind.ensures) ∙ c.in-1.is)

pub read_u32-requires : goal.read_u32-requires
read_u32-requires c = within_at c.requires.0 2 (sym (held_found c.requires.0 c.requires.1.match c.held_kind-kind.ensures) ∙ c.in-2.is)

pub write_u32-requires : goal.write_u32-requires
write_u32-requires c =
    room_at c.requires.0 c.requires.1 2 (sym (held_found c.requires.0 c.requires.1.match c.held_kind-kind.ensures) ∙ c.in-2.is)

pub read_u64-requires : goal.read_u64-requires
read_u64-requires c = within_at c.requires.0 3 (sym (held_found c.requires.0 c.requires.1.match c.held_kind-kind.ensures) ∙ c.in-3.is)

pub write_u64-requires : goal.write_u64-requires
write_u64-requires c =
    room_at c.requires.0 c.requires.1 3 (sym (held_found c.requires.0 c.requires.1.match c.held_kind-kind.ensures) ∙ c.in-3.is)

pub read_u32-requires-in-4 : goal.read_u32-requires-in-4
read_u32-requires-in-4 c = within_at c.requires.0 4 (sym (held_found c.requires.0 c.requires.1.match c.held_kind-kind.ensures) ∙ c.in-4.is)

pub write_u32-requires-in-4 : goal.write_u32-requires-in-4
write_u32-requires-in-4 c =
    room_at c.requires.0 c.requires.1 4 (sym (held_found c.requires.0 c.requires.1.match c.held_kind-kind.ensures) ∙ c.in-4.is)

pub read_u64-requires-in-5 : goal.read_u64-requires-in-5
read_u64-requires-in-5 c = within_at c.requires.0 5 (sym (held_found c.requires.0 c.requires.1.match c.held_kind-kind.ensures) ∙ c.in-5.is)

pub write_u64-requires-in-5 : goal.write_u64-requires-in-5
write_u64-requires-in-5 c =
    room_at c.requires.0 c.requires.1 5 (sym (held_found c.requires.0 c.requires.1.match c.held_kind-kind.ensures) ∙ c.in-5.is)

pub write_number-requires : goal.write_number-requires
write_number-requires c =
    let p = c.requires in
    rw c.declared_length-n.ensures.0 (within_at p.0 6 (sym (held_found c.requires.0 c.requires.1.match c.held_kind-kind.ensures) ∙ c.in-6.is), number_ready p.0 p.1 (sym (held_found c.requires.0 c.requires.1.match c.held_kind-kind.ensures) ∙ c.in-6.is))

pub bounds-values-place : goal.bounds-values-place
bounds-values-place c = let h = within_at c.requires.0 7 (sym (held_found c.requires.0 c.requires.1.match c.held_kind-kind.ensures) ∙ c.in-7.is) in omega (arith, h)

pub bounds-out-slot : goal.bounds-out-slot
bounds-out-slot c =
    let h = room_at c.requires.0 c.requires.1 7 (sym (held_found c.requires.0 c.requires.1.match c.held_kind-kind.ensures) ∙ c.in-7.is) in omega (arith, h)

pub write_char-requires : goal.write_char-requires
write_char-requires c =
    let p = c.requires in
    let k = (sym (held_found c.requires.0 c.requires.1.match c.held_kind-kind.ensures) ∙ c.in-8.is) in
    rw (c.declared_length-n.ensures.0, c.is_long_kind-is_long.ensures) (within_at p.0 8 k, (room_at p.0 p.1 8 k, suits-at p.0 p.1 8 k))

pub read_u32-requires-in-10 : goal.read_u32-requires-in-10
read_u32-requires-in-10 c = within_at c.requires.0 10 (sym (held_found c.requires.0 c.requires.1.match c.held_kind-kind.ensures) ∙ c.in-10.is)

pub write_u32-requires-in-10 : goal.write_u32-requires-in-10
write_u32-requires-in-10 c =
    room_at c.requires.0 c.requires.1 10 (sym (held_found c.requires.0 c.requires.1.match c.held_kind-kind.ensures) ∙ c.in-10.is)

pub read_u64-requires-in-11 : goal.read_u64-requires-in-11
read_u64-requires-in-11 c = within_at c.requires.0 11 (sym (held_found c.requires.0 c.requires.1.match c.held_kind-kind.ensures) ∙ c.in-11.is)

pub write_u64-requires-in-11 : goal.write_u64-requires-in-11
write_u64-requires-in-11 c =
    room_at c.requires.0 c.requires.1 11 (sym (held_found c.requires.0 c.requires.1.match c.held_kind-kind.ensures) ∙ c.in-11.is)

pub write_bits-requires : goal.write_bits-requires
write_bits-requires c =
    let p = c.requires in
    let k = (sym (held_found c.requires.0 c.requires.1.match c.held_kind-kind.ensures) ∙ c.in-12.is) in
    rw (c.declared_length-n.ensures.0, c.is_long_kind-is_long.ensures) (within_at p.0 12 k, (room_at p.0 p.1 12 k, suits-at p.0 p.1 12 k))

pub read_u64-requires-in-13 : goal.read_u64-requires-in-13
read_u64-requires-in-13 c = within_at c.requires.0 13 (sym (held_found c.requires.0 c.requires.1.match c.held_kind-kind.ensures) ∙ c.in-13.is)

pub write_u64-requires-in-13 : goal.write_u64-requires-in-13
write_u64-requires-in-13 c =
    room_at c.requires.0 c.requires.1 13 (sym (held_found c.requires.0 c.requires.1.match c.held_kind-kind.ensures) ∙ c.in-13.is)

pub returns-in-1 : goal.returns-in-1
returns-in-1 c =
    let a = c.args in
    let p = c.requires in
    c.write_u16.ensures ∙ ap (sets a.out.now a.slot) (ap (to_le 2) (by_bits w16 (search rules) c.read_u16.ensures) ∙ form_at p.0 p.1 1 (sym (held_found c.requires.0 c.requires.1.match c.held_kind-kind.ensures) ∙ c.in-1.is))

pub returns-in-2 : goal.returns-in-2
returns-in-2 c =
    let a = c.args in
    let p = c.requires in
    c.write_u32.ensures ∙ ap (sets a.out.now a.slot) (ap (to_le 4) (by_bits w32 (search rules) c.read_u32.ensures) ∙ form_at p.0 p.1 2 (sym (held_found c.requires.0 c.requires.1.match c.held_kind-kind.ensures) ∙ c.in-2.is))

pub returns-in-3 : goal.returns-in-3
returns-in-3 c =
    let a = c.args in
    let p = c.requires in
    c.write_u64.ensures ∙ ap (sets a.out.now a.slot) (ap (to_le 8) (by_bits w64 (search rules) c.read_u64.ensures) ∙ form_at p.0 p.1 3 (sym (held_found c.requires.0 c.requires.1.match c.held_kind-kind.ensures) ∙ c.in-3.is))

pub returns-in-4 : goal.returns-in-4
returns-in-4 c =
    let a = c.args in
    let p = c.requires in
    c.write_u32-in-4.ensures ∙ ap (sets a.out.now a.slot) (ap (to_le 4) c.read_u32-in-4.ensures ∙ form_at p.0 p.1 4 (sym (held_found c.requires.0 c.requires.1.match c.held_kind-kind.ensures) ∙ c.in-4.is))

pub returns-in-5 : goal.returns-in-5
returns-in-5 c =
    let a = c.args in
    let p = c.requires in
    c.write_u64-in-5.ensures ∙ ap (sets a.out.now a.slot) (ap (to_le 8) c.read_u64-in-5.ensures ∙ form_at p.0 p.1 5 (sym (held_found c.requires.0 c.requires.1.match c.held_kind-kind.ensures) ∙ c.in-5.is))

pub returns-in-6 : goal.returns-in-6
returns-in-6 c =
    let a = c.args in
    let p = c.requires in
    (rw c.declared_length-n.ensures.0 at c.write_number.ensures) ∙ ap (sets a.out.now a.slot) (form_at p.0 p.1 6 (sym (held_found c.requires.0 c.requires.1.match c.held_kind-kind.ensures) ∙ c.in-6.is))

pub returns-in-7 : goal.returns-in-7
returns-in-7 c =
    ap (sets c.args.out.now c.args.slot) (form_at c.requires.0 c.requires.1 7 (sym (held_found c.requires.0 c.requires.1.match c.held_kind-kind.ensures) ∙ c.in-7.is))

pub returns-in-8 : goal.returns-in-8
returns-in-8 c =
    let a = c.args in
    let p = c.requires in
    (rw (c.declared_length-n.ensures.0, c.is_long_kind-is_long.ensures) at c.write_char.ensures) ∙ ap (sets a.out.now a.slot) (form_at p.0 p.1 8 (sym (held_found c.requires.0 c.requires.1.match c.held_kind-kind.ensures) ∙ c.in-8.is))

pub returns-in-10 : goal.returns-in-10
returns-in-10 c =
    let a = c.args in
    let p = c.requires in
    c.write_u32-in-10.ensures ∙ ap (sets a.out.now a.slot) (ap (to_le 4) (by_bits w32 (search rules) c.read_u32-in-10.ensures) ∙ form_at p.0 p.1 10 (sym (held_found c.requires.0 c.requires.1.match c.held_kind-kind.ensures) ∙ c.in-10.is))

pub returns-in-11 : goal.returns-in-11
returns-in-11 c =
    let a = c.args in
    let p = c.requires in
    c.write_u64-in-11.ensures ∙ ap (sets a.out.now a.slot) (ap (to_le 8) (by_bits w64 (search rules) c.read_u64-in-11.ensures) ∙ form_at p.0 p.1 11 (sym (held_found c.requires.0 c.requires.1.match c.held_kind-kind.ensures) ∙ c.in-11.is))

pub returns-in-12 : goal.returns-in-12
returns-in-12 c =
    let a = c.args in
    let p = c.requires in
    (rw (c.declared_length-n.ensures.0, c.is_long_kind-is_long.ensures) at c.write_bits.ensures) ∙ ap (sets a.out.now a.slot) (form_at p.0 p.1 12 (sym (held_found c.requires.0 c.requires.1.match c.held_kind-kind.ensures) ∙ c.in-12.is))

pub returns-in-13 : goal.returns-in-13
returns-in-13 c =
    let a = c.args in
    let p = c.requires in
    c.write_u64-in-13.ensures ∙ ap (sets a.out.now a.slot) (ap (to_le 8) (by_bits w64 (search rules) c.read_u64-in-13.ensures) ∙ form_at p.0 p.1 13 (sym (held_found c.requires.0 c.requires.1.match c.held_kind-kind.ensures) ∙ c.in-13.is))

pub returns-in_default : goal.returns-in_default
returns-in_default c =
    let a = c.args in
    let p = c.requires in
    let k = held_found c.requires.0 c.requires.1.match c.held_kind-kind.ensures in
    ap (sets a.out.now a.slot)
    (none-stored (plain_kind (get_or a.values.now a.from 0)) 0 a.values.now (a.from + 1) (λ e. c.in_default.in_default-own.rest.0.0.0.0.0.0.0.0.0.0.0.1 (k ∙ e)) (λ e. c.in_default.in_default-own.rest.0.0.0.0.0.0.0.0.0.0.1 (k ∙ e)) (λ e. c.in_default.in_default-own.rest.0.0.0.0.0.0.0.0.0.1 (k ∙ e)) (λ e. c.in_default.in_default-own.rest.0.0.0.0.0.0.0.0.1 (k ∙ e)) (λ e. c.in_default.in_default-own.rest.0.0.0.0.0.0.0.1 (k ∙ e)) (λ e. c.in_default.in_default-own.rest.0.0.0.0.0.1 (k ∙ e)) (λ e. c.in_default.in_default-own.rest.0.0.0.1 (k ∙ e)) (λ e. c.in_default.in_default-own.rest.0.0.1 (k ∙ e)) (λ e. c.in_default.in_default-own.rest.1 (k ∙ e))
    ∙ body_stored_lem p.0 p.1 (λ e. c.in_default.in_default-own.rest.0.0.0.0.0.0.1 (k ∙ e)) (λ e. c.in_default.in_default-own.rest.0.0.0.0.1 (k ∙ e)) (λ e. c.in_default.in_default-own.rest.0.1 (k ∙ e)))
