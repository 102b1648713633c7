use Rattle.std.proofs.Common.{sym, get_or, refl}
use Rattle.fs_text.proofs.Numbers.{digits_too_great, digits_read}
use Rattle.fs_text.proofs.fields.number_of.Goals as goal

pub returns-in_err-number : goal.returns-in_err-number
returns-in_err-number c =
    let bs = c.args.bytes.now in
    rw c.from_residual.ensures (digits_too_great bs c.loop-digit.digit-index c.loop-digit.number (get_or bs c.loop-digit.digit-index 0)
    c.loop-digit-test.true c.loop-digit.invariant.value refl c.in_err-number.ensures)

pub returns : goal.returns
returns c =
    digits_read c.args.bytes.now c.loop-digit.digit-index c.loop-digit.number c.loop-digit-test.false
    (sym c.if-not-starts_well.ensures) c.loop-digit.invariant.digits c.loop-digit.invariant.value c.loop-digit.invariant.small
