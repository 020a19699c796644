use Rattle.std.proofs.Common.{refl}
use Rattle.runs.specs.History.{hand_in}
use Rattle.runs.specs.Writing.{plan_rules}
use Rattle.line.proofs.Settling.{check_does}
use Rattle.line.proofs.lots.«Line+Stationary+B».take_back.Goals as goal

pub returns-in_err-check_hand_in : goal.returns-in_err-check_hand_in
returns-in_err-check_hand_in g c =
    let line = c.args.self.now in
    check_does g.B.Book.entries g.B.Book.room line (plan_rules line.regime.plan) (hand_in c.args.number) (g.B.Book.room line.book) c.in_err-check_hand_in.field-0.0 c.from_residual.result c.from_residual.ensures.1 refl c.in_err-check_hand_in.ensures
