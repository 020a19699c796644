use Rattle.texts.proofs.Cuts as cuts
use Rattle.texts.proofs.lines_are_the_whole_text.Goals as goal

pub returns : goal.returns
returns c = record { whole = cuts.whole; numbered = cuts.numbered }
