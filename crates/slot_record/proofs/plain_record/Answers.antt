use mathlib.Core.Path.{refl}
use mir.Syntax.{w16, w32, w64}
use Rattle.slot_record.proofs.Numbers.{signed, unsigned}
use Rattle.slot_record.proofs.plain_record.Goals as goal

pub returns-in-1 : goal.returns-in-1
returns-in-1 c = λ k start.
    let a = c.args in
    let h = rw c.in-1.is at c.requires.1.0 in
    rw c.in-1.is (signed a.out.now a.at 1 2 a.bytes.now h c.type_inv.bytes c.number_record.ensures.0 c.number_record.ensures.1 w16 refl)

pub returns-in-2 : goal.returns-in-2
returns-in-2 c = λ k start.
    let a = c.args in
    let h = rw c.in-2.is at c.requires.1.0 in
    rw c.in-2.is (signed a.out.now a.at 2 4 a.bytes.now h c.type_inv.bytes c.number_record-in-2.ensures.0 c.number_record-in-2.ensures.1 w32 refl)

pub returns-in-3 : goal.returns-in-3
returns-in-3 c = λ k start.
    let a = c.args in
    let h = rw c.in-3.is at c.requires.1.0 in
    rw c.in-3.is (signed a.out.now a.at 3 8 a.bytes.now h c.type_inv.bytes c.number_record-in-3.ensures.0 c.number_record-in-3.ensures.1 w64 refl)

pub returns-in-4 : goal.returns-in-4
returns-in-4 c = λ k start.
    let a = c.args in
    let h = rw c.in-4.is at c.requires.1.0 in
    rw c.in-4.is (unsigned a.out.now a.at 4 4 a.bytes.now h c.type_inv.bytes c.number_record-in-4.ensures.0 c.number_record-in-4.ensures.1)

pub returns-in-5 : goal.returns-in-5
returns-in-5 c = λ k start.
    let a = c.args in
    let h = rw c.in-5.is at c.requires.1.0 in
    rw c.in-5.is (unsigned a.out.now a.at 5 8 a.bytes.now h c.type_inv.bytes c.number_record-in-5.ensures.0 c.number_record-in-5.ensures.1)

pub returns-in-8 : goal.returns-in-8
returns-in-8 c = λ k start. rw c.in-8.is (c.bool_record.ensures k)
