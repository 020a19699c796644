use Rattle.std.proofs.Common.{◌∙◌, arith}
use Rattle.books.proofs.Binding.{in_first, in_none}
use Rattle.books.proofs.volumes.TwoVolumesBook.entry.Goals as goal

pub returns-then-number-first : goal.returns-then-number-first
returns-then-number-first g c =
    let volumes = c.args.self.now in
    c.entry.ensures
    ∙ in_first c.args.number (g.A.Book.entries volumes.first) (g.B.Book.entries volumes.second) (omega (arith, c.count-first.ensures)) (omega (arith, g.A.Book.few volumes.first))

pub returns-else-number-le-LARGEST : goal.returns-else-number-le-LARGEST
returns-else-number-le-LARGEST g c =
    let volumes = c.args.self.now in
    in_none c.args.number (g.A.Book.entries volumes.first) (g.B.Book.entries volumes.second) c.if-number-le-LARGEST.false
