use Rattle.runs.proofs.Examples.{the_worked_turns, the_worked_limits}
use Rattle.runs.proofs.promises.the_worked_statuses.Goals as goal

pub returns : goal.returns
returns c = record { turns = the_worked_turns; limits = the_worked_limits }
