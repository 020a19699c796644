use Rattle.regimes.specs.Portions.{on_line_rules}
use Rattle.runs.specs.History.{enter_portion}
use Rattle.runs.proofs.Writing.{writes_writable}
use Rattle.line.proofs.Settling.{refused_does}
use Rattle.line.proofs.Sheets.{portion_unsampled, portion_comes}
use Rattle.line.proofs.portions.«Line+OnLine+B».enter_portion.Goals as goal

pub returns-in_err-units : goal.returns-in_err-units
returns-in_err-units g c =
    let line = c.args.self.now in
    let sheet = c.args.sheet.now in
    let x = c.in_err-units.field-0.0 in
    refused_does g.B.Book.entries g.B.Book.room line on_line_rules (enter_portion sheet) x c.from_residual.result c.from_residual.ensures.1 (portion_unsampled on_line_rules line.standing (g.B.Book.entries line.book) (g.B.Book.room line.book) sheet c.room_left.result c.room_left.ensures x c.in_err-units.ensures)

pub returns : goal.returns
returns g c =
    let line = c.args.self.now in
    portion_comes g.B.Book.entries g.B.Book.room on_line_rules writes_writable.0 line c.settle.new.self c.portion_taken-taken.result c.settle.result c.settle.ensures c.args.sheet.now c.whole.result c.whole.ensures c.room_left.result c.room_left.ensures c.in_ok-units.units c.in_ok-tally.tally c.in_ok-tally.ensures.answer tt c.in_ok-units.ensures c.portion_taken-taken.ensures
