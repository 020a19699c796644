use Rattle.std.proofs.Common.{◌≡◌, length}
use Rattle.line.proofs.ReadBack.{held_after}
use Rattle.line.proofs.earlier.Earlier.first_sample.Given as goal

-- what is left gives the answer
abbrev pub invariant-loop-entry : goal.invariant-loop-entry
invariant-loop-entry g l = held_after l.rest ≡ held_after l.self

abbrev pub decreases-loop-entry : goal.decreases-loop-entry
decreases-loop-entry g l = length l.rest
