use Rattle.std.proofs.Common.{◌≡◌, suc, take, Some, sym, ap, ◌∙◌, length-take, arith}
use Rattle.entries.specs.Entries.{spoiled}
use Rattle.books.specs.Books.{numbered}
use Rattle.books.proofs.Numbering.{numbered_at, numbered_beyond, numbered_take}
use Rattle.books.proofs.counted.CountedBookBook.entry.Goals as goal

pub returns-then-place-self : goal.returns-then-place-self
returns-then-place-self g c =
    let book = c.args.self.now in
    let standing = g.P.Places.standing book.memory in
    let next : suc c.in_ok-place.field-0 ≡ c.args.number = omega (arith, c.in_ok-place.ensures) in
    ap Some c.read.ensures
    ∙ numbered_at c.in_ok-place.field-0 standing spoiled (omega arith)
    ∙ ap (λ n. numbered n standing) next
    ∙ sym (numbered_take c.args.number book.count standing (omega arith))

pub returns-else-place-self : goal.returns-else-place-self
returns-else-place-self g c =
    let book = c.args.self.now in
    let standing = g.P.Places.standing book.memory in
    numbered_beyond c.args.number (take book.count standing) (omega (arith, length-take book.count standing, c.in_ok-place.ensures))
