use Rattle.inspection.proofs.Told.{told_apart}
use Rattle.inspection.proofs.refusal.notices_tell_refusals_apart.Goals as goal

pub returns : goal.returns
returns c = told_apart
