use Rattle.std.proofs.Common.{◌≡◌, ◌++◌, drop, vec_items}
use Rattle.regimes.specs.Portions.{verdicts_on, verdicts_of}
use Rattle.regimes.proofs.on_line.OnLine.judge_stretch.Given as goal

-- the verdicts so far, and those on what is left from the values held, are those on the whole stretch
abbrev pub invariant-loop-tally : goal.invariant-loop-tally
invariant-loop-tally l = vec_items l.verdicts ++ verdicts_on l.status l.values (drop l.tally-index l.tallies) ≡ verdicts_of l.status l.tallies
