use Rattle.std.proofs.Common.{ap, ◌∙◌}
use Rattle.books.specs.Books.{answered}
use Rattle.runs.specs.History.{grant_relief}
use Rattle.runs.specs.Lines.{refuses}
use Rattle.runs.specs.Writing.{sheet_score}
use Rattle.line.proofs.Calling.{relief_does}
use Rattle.line.proofs.Settling.{check_does}
use Rattle.line.proofs.line.Line.grant_relief.Goals as goal

pub returns-in_err-check_relief : goal.returns-in_err-check_relief
returns-in_err-check_relief g c =
    let line = c.args.self.now in
    let rules = g.R.Regime.rules line.regime in
    let left = c.room_left-room.result in
    check_does g.B.Book.entries g.B.Book.room line rules grant_relief left c.in_err-check_relief.field-0.0 c.from_residual.result c.from_residual.ensures.1 c.room_left-room.ensures (c.in_err-check_relief.ensures ∙ ap (λ l. answered (refuses rules sheet_score grant_relief line.standing l left)) c.whole.ensures)

pub returns : goal.returns
returns g c =
    relief_does g.B.Book.entries g.B.Book.room (g.R.Regime.rules c.args.self.now.regime) c.args.self.now c.settle.new.self c.relief_taken-taken.result c.settle.result c.settle.ensures c.room_left-room.result c.room_left-room.ensures c.whole.result c.whole.ensures c.in_ok-check_relief.ensures c.relief_taken-taken.ensures
