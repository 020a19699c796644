use Rattle.std.proofs.Common.{◌<◌, sym, ◌∙◌, subst, arith, rules, false-eqb}
use Rattle.std.specs.Char.{digit_value}
use Rattle.decimals.specs.Digits.{numeral}
use Rattle.decimals.proofs.Reading.{read_small, small_more, none_read, whole_read, few_read}
use Rattle.decimals.proofs.read_digits.Goals as goal

pub returns-then-is_empty : goal.returns-then-is_empty
unfolding numeral
returns-then-is_empty c = search rules

pub overflow_mul-number : goal.overflow_mul-number
overflow_mul-number c = omega (arith, read_small _ _ _ c.loop-digit.invariant c.loop-digit-test.true c.if-digits-gt9.false)

pub returns-in_err-number : goal.returns-in_err-number
returns-in_err-number c =
    few_read _ _ (c.from_residual.ensures ∙ none_read _ c.loop-digit.digit-index c.loop-digit-test.true (λ h. c.in_err-number.ensures.value (subst (λ b. digit_value b < 10) (sym c.from.ensures) h)))
    (omega (arith, false-eqb _ 0 c.if-is_empty.ensures)) c.if-digits-gt9.false

pub overflow_add-number : goal.overflow_add-number
overflow_add-number c =
    let digit = rw c.from.ensures at c.in_ok-number.ensures.value in
    omega (arith, digit.0, digit.1, read_small _ _ _ c.loop-digit.invariant c.loop-digit-test.true c.if-digits-gt9.false)

pub loop-digit-preserved : goal.loop-digit-preserved
loop-digit-preserved c =
    let digit = rw c.from.ensures at c.in_ok-number.ensures.value in
    small_more _ _ _ _ c.loop-digit-test.true c.if-digits-gt9.false digit.0 digit.1 c.loop-digit.invariant

pub returns : goal.returns
returns c = few_read _ _ (whole_read _ _ _ c.loop-digit.invariant c.loop-digit-test.false) (omega (arith, false-eqb _ 0 c.if-is_empty.ensures)) c.if-digits-gt9.false
