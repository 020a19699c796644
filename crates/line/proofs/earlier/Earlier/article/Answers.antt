use Rattle.line.proofs.ReadBack.{second_seen}
use Rattle.line.proofs.earlier.Earlier.article.Goals as goal

pub returns-in-Some-clause-value : goal.returns-in-Some-clause-value
returns-in-Some-clause-value g c =
    let first = c.from in
    let second = c.from-in-Some in
    second_seen c.args.self.now c.args.entry c.in-Some.first c.add.result first.result second.result c.in-SecondSample-default.is-0 c.in-Some.ensures first.ensures.0 second.ensures.0 c.add.ensures
