use Rattle.std.proofs.Common.{◌≡◌, List, sym, subst, arith}
use Rattle.std.proofs.lemmas.Grind.{common_steps}
use Rattle.inspection.specs.declared.verdict.Verdict.{Verdict}
use Rattle.regimes.specs.Portions.{verdicts_of}
use Rattle.regimes.specs.Rows.{JudgedByRows}
use Rattle.regimes.proofs.Stretches.{judged_by_rows}
use Rattle.regimes.proofs.on_line.OnLine.judge_stretch.Goals as goal

pub returns-clause-by_rows : goal.returns-clause-by_rows
returns-clause-by_rows c =
    let s = c.args.status in
    let tallies = c.args.tallies.now in
    let whole : c.loop-tally.verdicts.items ≡ verdicts_of s tallies = grind (arith, common_steps) in
    subst (λ (v : List Verdict). JudgedByRows s tallies v) (sym whole) (judged_by_rows s tallies)
