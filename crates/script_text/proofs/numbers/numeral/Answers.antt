use Rattle.std.proofs.Common.{◌<◌, Some, length, sym, ◌∙◌, ap, arith}
use Rattle.std.proofs.lemmas.Int.Digits.{digits_value_more}
use Rattle.script_text.proofs.NumberLemmas.{digit_room, digit_fits, are_digits-more, numeral-none, numeral-all}
use Rattle.script_text.proofs.numbers.numeral.Goals as goal

pub returns-in_err-value : goal.returns-in_err-value
returns-in_err-value c =
    let other = rw c.from.ensures at c.in_err-value.ensures.value in
    c.from_residual.ensures ∙ sym (numeral-none _ _ (omega arith) other)

pub overflow_mul-number : goal.overflow_mul-number
overflow_mul-number c =
    let fits = digit_fits c.loop-digit.number 0 c.loop-digit.digit-index c.loop-digit.invariant.small (omega arith) (omega arith) in
    omega arith

pub overflow_add-number : goal.overflow_add-number
overflow_add-number c =
    let digit = c.in_ok-value.ensures.value in
    let fits = digit_fits c.loop-digit.number c.from-in-loop-digit.result c.loop-digit.digit-index c.loop-digit.invariant.small (omega arith) (omega arith) in
    omega arith

pub loop-digit-preserved : goal.loop-digit-preserved
loop-digit-preserved c =
    let digit = c.in_ok-value.ensures.value in
    let within : c.loop-digit.digit-index < length c.args.digits.now = omega arith in
    let here = rw c.from.ensures at digit in
    record {
      digits = are_digits-more _ _ within c.loop-digit.invariant.digits here.0;
      value = rw (c.from-in-loop-digit.ensures, here.1, c.loop-digit.invariant.value)
          (sym (digits_value_more 10 c.args.digits.now c.loop-digit.digit-index within));
      small = digit_room _ _ _ c.loop-digit.invariant.small (omega arith);
    }

pub returns : goal.returns
returns c =
    ap Some c.loop-digit.invariant.value ∙ numeral-all _ _ (omega arith) c.loop-digit.invariant.digits
