use Rattle.decimals.proofs.Reading.{SoFar}
use Rattle.decimals.proofs.read_all.Given as goal

abbrev pub invariant-loop-digit : goal.invariant-loop-digit
invariant-loop-digit l = SoFar l.digits l.digit-index l.value
