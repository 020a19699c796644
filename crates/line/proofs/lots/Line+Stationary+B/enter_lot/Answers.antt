use Rattle.std.proofs.Common.{Err, sym, subst}
use Rattle.runs.specs.History.{enter_lot}
use Rattle.runs.specs.Lines.{step}
use Rattle.runs.specs.Writing.{sheet_score, plan_rules}
use Rattle.runs.proofs.Writing.{writes_writable}
use Rattle.line.specs.Doing.{Does}
use Rattle.line.specs.Slips.{lot_answer}
use Rattle.line.proofs.Settling.{refused_does, failed_with}
use Rattle.line.proofs.Slips.{lot_failed, none_given}
use Rattle.line.proofs.Sheets.{lot_unsampled, lot_comes}
use Rattle.line.proofs.lots.«Line+Stationary+B».enter_lot.Goals as goal

pub returns-in_err-units : goal.returns-in_err-units
returns-in_err-units g c =
    let line = c.args.self.now in
    let rules = plan_rules line.regime.plan in
    let sheet = c.args.sheet.now in
    let x = c.in_err-units.field-0.0 in
    let answer = c.from_residual in
    record {
      call = refused_does g.B.Book.entries g.B.Book.room line rules (enter_lot c.args.size sheet) x (lot_answer answer.result) (lot_failed _ answer.result answer.ensures.1) (lot_unsampled rules line.standing (g.B.Book.entries line.book) (g.B.Book.room line.book) sheet c.room_left.result c.room_left.ensures c.args.size x c.in_err-units.ensures);
      slip = none_given _ answer.result answer.ensures.1;
    }

pub returns-in_err-reply : goal.returns-in_err-reply
returns-in_err-reply g c =
    let line = c.args.self.now in
    let after = c.settle.new.self in
    let plan = line.regime.plan in
    let sheet = c.args.sheet.now in
    let x = c.in_err-reply.field-0.0 in
    let answer = c.from_residual-in_err-reply in
    record {
      call = subst (λ a. Does g.B.Book.entries g.B.Book.room (step (plan_rules plan) sheet_score (enter_lot c.args.size sheet)) line a after) (sym (failed_with x (lot_answer answer.result) (lot_failed _ answer.result answer.ensures.1)))
          (lot_comes g.B.Book.entries g.B.Book.room (plan_rules plan) (writes_writable.1 plan) line after c.lot_taken-taken.result (Err x) c.in_err-reply.ensures sheet c.whole.result c.whole.ensures c.room_left.result c.room_left.ensures c.in_ok-units.units c.in_ok-tally.tally c.in_ok-tally.ensures.answer c.args.size tt c.in_ok-units.ensures c.lot_taken-taken.ensures);
      slip = none_given _ answer.result answer.ensures.1;
    }

pub returns-clause-call : goal.returns-clause-call
returns-clause-call g c =
    let line = c.args.self.now in
    let plan = line.regime.plan in
    lot_comes g.B.Book.entries g.B.Book.room (plan_rules plan) (writes_writable.1 plan) line c.settle.new.self c.lot_taken-taken.result _ c.in_ok-reply.ensures c.args.sheet.now c.whole.result c.whole.ensures c.room_left.result c.room_left.ensures c.in_ok-units.units c.in_ok-tally.tally c.in_ok-tally.ensures.answer c.args.size tt c.in_ok-units.ensures c.lot_taken-taken.ensures
