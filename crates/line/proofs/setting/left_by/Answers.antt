use Rattle.std.proofs.Common.{◌∙◌}
use Rattle.line.proofs.Replayed.{left_written}
use Rattle.line.proofs.setting.left_by.Goals as goal

pub returns-in-Some : goal.returns-in-Some
returns-in-Some g c = c.with_slip.ensures ∙ left_written c.args.entry c.args.taken c.in-Some.taken c.args.bad c.in-Some.is c.if-eq.ensures
