use Rattle.std.proofs.Common.{sym, ◌∙◌, arith}
use Rattle.worksheet.proofs.Written.{unit_small}
use Rattle.worksheet.proofs.form.read_unit.Goals as goal

pub overflow_cast-result : goal.overflow_cast-result
overflow_cast-result c = omega (arith, unit_small c.args.field.now c.in_ok-read_digits.field-0 c.if-field-gt4.false (sym c.in_ok-read_digits.was ∙ c.read_digits.ensures))
