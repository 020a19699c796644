use Rattle.line.proofs.Retaking.{lot_again}
use Rattle.line.proofs.line.Line.lot_retaken.Goals as goal

pub returns : goal.returns
returns g c =
    let line = c.args.self.now in
    lot_again (g.R.Regime.rules line.regime) line.standing c.args.earlier.now c.args.entry c.in_ok-units.units c.lot_sample.result c.in_ok-sample.sample c.lot_taken.result c.lot_sample.ensures c.in_ok-units.ensures.value c.in_ok-sample.ensures c.lot_taken.ensures
