use Rattle.std.proofs.Common.{ap}
use Rattle.books.proofs.Adding.{added}
use Rattle.books.proofs.counted.CountedBookBook.add.Goals as goal

pub returns : goal.returns
returns g c =
    let old = c.args.self.now in
    let new = c.add_entry.new.self in
    let done = c.add_entry.ensures in
    let after = added old.count new.count (g.P.Places.standing old.memory) (g.P.Places.standing new.memory) c.args.entry c.add_entry.result old.within done.answer
    (λ err. (ap (λ b. b.count) (done.same err), ap (λ b. g.P.Places.standing b.memory) (done.same err)))
    (λ within fine ok. (rw ok at done.count, g.met.P.Places.keeps old.count c.args.entry old.memory new.memory within fine (rw ok at done.memory))) in
    record { answer = done.answer; entries = after.0; room = after.1; same = done.same }
