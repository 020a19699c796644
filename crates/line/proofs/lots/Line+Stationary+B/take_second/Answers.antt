use Rattle.runs.specs.History.{enter_second}
use Rattle.runs.specs.Writing.{plan_rules}
use Rattle.runs.proofs.Writing.{writes_writable}
use Rattle.line.proofs.Settling.{refused_does}
use Rattle.line.proofs.Sheets.{second_unsampled, second_faulty, second_comes}
use Rattle.line.proofs.lots.«Line+Stationary+B».take_second.Goals as goal

pub returns-in_err-units : goal.returns-in_err-units
returns-in_err-units g c =
    let line = c.args.self.now in
    let rules = plan_rules line.regime.plan in
    let sheet = c.args.sheet.now in
    let x = c.in_err-units.field-0.0 in
    refused_does g.B.Book.entries g.B.Book.room line rules (enter_second c.args.number sheet) x c.from_residual.result c.from_residual.ensures.1 (second_unsampled rules line.standing (g.B.Book.entries line.book) (g.B.Book.room line.book) sheet c.room_left.result c.room_left.ensures c.args.number x c.in_err-units.ensures)

pub returns-in_err-tally : goal.returns-in_err-tally
returns-in_err-tally g c =
    let line = c.args.self.now in
    let rules = plan_rules line.regime.plan in
    let sheet = c.args.sheet.now in
    let x = c.in_err-tally.field-0.0 in
    let answer = c.from_residual-in_err-tally in
    refused_does g.B.Book.entries g.B.Book.room line rules (enter_second c.args.number sheet) x answer.result answer.ensures.1 (second_faulty rules line.standing (g.B.Book.entries line.book) (g.B.Book.room line.book) sheet c.room_left.result c.room_left.ensures c.args.number c.in_ok-units.units c.in_ok-units.ensures x c.in_err-tally.ensures.answer)

pub returns : goal.returns
returns g c =
    let line = c.args.self.now in
    let plan = line.regime.plan in
    second_comes g.B.Book.entries g.B.Book.room (plan_rules plan) (writes_writable.1 plan) line c.settle.new.self c.second_taken-taken.result c.settle.result c.settle.ensures c.args.sheet.now c.whole.result c.whole.ensures c.room_left.result c.room_left.ensures c.in_ok-units.units c.in_ok-tally.tally c.in_ok-tally.ensures.answer c.args.number tt c.in_ok-units.ensures c.second_taken-taken.ensures
