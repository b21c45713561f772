-- Each arm is the call that the record stands for, on a well-formed state.
use Rattle.std.proofs.Common.{sym, arith}
use Rattle.recorded.proofs.Laws.{kind-known, kind-none, write_step, sin_step, modem_step, reset_step, other_step}
use Rattle.recorded.proofs.other.Goals as goal

pub returns-in-Some-Write : goal.returns-in-Some-Write
returns-in-Some-Write c =
    let k = kind-known c.args.w c.of.ensures c.in-Some-Write.is c.in-Some-Write.field-0-is in
    rw (c.write.ensures, c.byte.ensures, c.address.ensures) (sym (write_step _ _ c.requires.s_value k))

pub returns-in-Some-Sin : goal.returns-in-Some-Sin
returns-in-Some-Sin c =
    let k = kind-known c.args.w c.of.ensures c.in-Some-Sin.is c.in-Some-Sin.field-0-is in
    rw (c.set_sin.ensures, c.sin.ensures) (sym (sin_step _ _ c.requires.s_value k))

pub returns-in-Some-Modem : goal.returns-in-Some-Modem
returns-in-Some-Modem c =
    let k = kind-known c.args.w c.of.ensures c.in-Some-Modem.is c.in-Some-Modem.field-0-is in
    rw (c.set_modem.ensures, c.modem.ensures) (sym (modem_step _ _ c.requires.s_value k))

pub returns-in-Some-Reset : goal.returns-in-Some-Reset
returns-in-Some-Reset c =
    let k = kind-known c.args.w c.of.ensures c.in-Some-Reset.is c.in-Some-Reset.field-0-is in
    rw c.reset.ensures (sym (reset_step _ _ c.requires.s_value k))

pub returns-in_default-2 : goal.returns-in_default-2
returns-in_default-2 c =
    let k = kind-none c.args.w c.of.ensures c.in_default.is in
    sym (other_step _ _ c.requires.s_value (λ e. omega (arith, k, e)) (λ e. omega (arith, k, e)) (λ e. omega (arith, k, e)) (λ e. omega (arith, k, e)) (λ e. omega (arith, k, e)) (λ e. omega (arith, k, e)))
