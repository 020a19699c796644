use Rattle.std.proofs.Common.{Ok, sym, refl, subst}
use Rattle.line.specs.declared.line.Line.{Line}
use Rattle.line.specs.Doing.{Does, booked}
use Rattle.line.proofs.Settling.{book_refused, book_wrote, wrote_none}
use Rattle.line.proofs.line.Line.settle.Goals.{in-Some+in_ok-add, in_default}
use Rattle.line.proofs.line.Line.settle.Goals as goal

pub returns-in_err-add : goal.returns-in_err-add
returns-in_err-add g c =
    let book = c.in_err-add.ensures in
    book_refused g.B.Book.entries g.B.Book.room c.args.self.now c.args.taken c.in-Some.entry c.in_err-add.field-0.0 c.from_residual.result c.add.new.self c.in-Some.is book.answer (book.same refl) c.from_residual.ensures.1

pub returns : goal.returns
returns g c =
    let line = c.args.self.now in
    let taken = c.args.taken in
    let does = λ (l : Line g.row.R.Denot g.row.B.Denot g.row.R-Carried.Denot). Does g.B.Book.entries g.B.Book.room (booked taken) line (Ok taken.reply) (record { regime = l.regime; book = l.book; standing = taken.standing }) in
    elim c.match-taken.branch [
      | in-Some+in_ok-add w ↦
          (let book = w.in_ok-add.ensures in
          subst does (sym w.self-is) (book_wrote g.B.Book.entries g.B.Book.room line taken w.in-Some.entry _ w.in-Some.is book.answer book.entries book.room))
      | in_default w ↦ subst does (sym w.self-is) (wrote_none g.B.Book.entries g.B.Book.room line taken w.in_default.is)
    ]
