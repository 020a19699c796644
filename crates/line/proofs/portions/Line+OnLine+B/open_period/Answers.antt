use Rattle.regimes.specs.Portions.{on_line_rules}
use Rattle.runs.specs.History.{open_period}
use Rattle.line.proofs.Calling.{open_does}
use Rattle.line.proofs.Settling.{check_does}
use Rattle.line.proofs.portions.«Line+OnLine+B».open_period.Goals as goal

pub returns-in_err-check_open : goal.returns-in_err-check_open
returns-in_err-check_open g c =
    check_does g.B.Book.entries g.B.Book.room c.args.self.now on_line_rules open_period c.room_left.result c.in_err-check_open.field-0.0 c.from_residual.result c.from_residual.ensures.1 c.room_left.ensures c.in_err-check_open.ensures

pub returns : goal.returns
returns g c =
    open_does g.B.Book.entries g.B.Book.room on_line_rules c.args.self.now c.settle.new.self c.open_taken-taken.result c.settle.result c.settle.ensures c.room_left.result c.room_left.ensures c.in_ok-check_open.ensures c.open_taken-taken.ensures
