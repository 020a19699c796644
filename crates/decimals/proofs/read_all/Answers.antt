use Rattle.std.proofs.Common.{◌<◌, sym, ◌∙◌, subst}
use Rattle.std.specs.Char.{digit_value}
use Rattle.decimals.proofs.Reading.{none_read, whole_read, so_far_more}
use Rattle.decimals.proofs.read_all.Goals as goal

pub returns-in_err-to_digit : goal.returns-in_err-to_digit
returns-in_err-to_digit c = c.from_residual.ensures ∙ none_read _ c.loop-digit.digit-index c.loop-digit-test.true (λ h. c.in_err-to_digit.ensures.value (subst (λ b. digit_value b < 10) (sym c.from.ensures) h))

pub loop-digit-preserved : goal.loop-digit-preserved
loop-digit-preserved c =
    let digit = rw c.from.ensures at c.in_ok-to_digit.ensures.value in
    so_far_more _ _ _ _ _ _ c.loop-digit-test.true digit.0 digit.1 c.loop-digit.invariant c.saturating_mul.ensures c.saturating_add-value.ensures

pub returns : goal.returns
returns c = whole_read _ _ _ c.loop-digit.invariant c.loop-digit-test.false
