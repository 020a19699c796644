use Rattle.runs.specs.History.{report_irregular}
use Rattle.line.proofs.Calling.{notice_does}
use Rattle.line.proofs.Settling.{check_does}
use Rattle.line.proofs.line.Line.report_irregular.Goals as goal

pub returns-in_err-check_notice : goal.returns-in_err-check_notice
returns-in_err-check_notice g c =
    check_does g.B.Book.entries g.B.Book.room c.args.self.now (g.R.Regime.rules c.args.self.now.regime) report_irregular c.room_left.result c.in_err-check_notice.field-0.0 c.from_residual.result c.from_residual.ensures.1 c.room_left.ensures c.in_err-check_notice.ensures

pub returns : goal.returns
returns g c =
    notice_does g.B.Book.entries g.B.Book.room (g.R.Regime.rules c.args.self.now.regime) c.args.self.now c.settle.new.self c.notice_taken-taken.result c.settle.result c.settle.ensures c.room_left.result c.room_left.ensures c.in_ok-check_notice.ensures c.notice_taken-taken.ensures
