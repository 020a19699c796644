use Rattle.std.proofs.Common.{◌≡◌, ◌-◌, ◌*◌, ◌≤◌, length}
use Rattle.runs.specs.Lines.{articles, last_articles}
use Rattle.line.specs.Seeing.{seen_of, Within}
use Rattle.line.proofs.ReadBack.{whole}
use Rattle.line.proofs.earlier.Earlier.look_back.Given as goal

-- what is seen so far and what is left give the answer, and the entries so far can show no more than is seen
abbrev pub invariant-loop-seen : goal.invariant-loop-seen
invariant-loop-seen g l = record {
  answer : whole l.most l.seen l.rest ≡ seen_of (last_articles l.most (articles l.self));
  few : length l.rest ≤ 9999999;
  within : Within (2 * (9999999 - length l.rest)) l.seen;
}

abbrev pub decreases-loop-seen : goal.decreases-loop-seen
decreases-loop-seen g l = length l.rest
