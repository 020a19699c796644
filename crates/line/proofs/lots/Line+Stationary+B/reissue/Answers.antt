use Rattle.std.proofs.Common.{refl}
use Rattle.runs.specs.History.{reissue}
use Rattle.runs.specs.Writing.{plan_rules}
use Rattle.line.specs.Slips.{lot_answer}
use Rattle.line.proofs.Settling.{check_does}
use Rattle.line.proofs.Slips.{lot_failed}
use Rattle.line.proofs.lots.«Line+Stationary+B».reissue.Goals as goal

pub returns-in_err-check_reissue-clause-call : goal.returns-in_err-check_reissue-clause-call
returns-in_err-check_reissue-clause-call g c =
    let line = c.args.self.now in
    let answer = c.from_residual in
    check_does g.B.Book.entries g.B.Book.room line (plan_rules line.regime.plan) reissue (g.B.Book.room line.book) c.in_err-check_reissue.field-0.0 (lot_answer answer.result) (lot_failed _ answer.result answer.ensures.1) refl c.in_err-check_reissue.ensures
