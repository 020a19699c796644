use Rattle.runs.proofs.LookingBack.{read_back_as_forward}
use Rattle.runs.proofs.promises.articles_read_back_are_those_read_forward.Goals as goal

pub returns : goal.returns
returns c = read_back_as_forward
