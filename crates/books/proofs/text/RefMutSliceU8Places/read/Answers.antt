use Rattle.std.proofs.Common.{◌≡◌, ◌+◌, ◌-◌, ◌*◌, take, drop, sym, ap, ◌∙◌, arith}
use Rattle.entries.specs.Entries.{spoiled}
use Rattle.entries.specs.Lines.{entry_in}
use Rattle.books.specs.Stores.{lines_in}
use Rattle.books.specs.Keeping.{length_stored, stored_at}
use Rattle.books.proofs.text.RefMutSliceU8Places.read.Goals as goal

pub returns : goal.returns
returns c =
    let bytes = c.args.self.now.now in
    let wide : c.args.place * 37 + 37 - c.args.place * 37 ≡ 37 = omega arith in
    c.read_line.ensures
    ∙ ap (λ k. entry_in (take k (drop (c.args.place * 37) bytes))) wide
    ∙ sym (stored_at (lines_in bytes) c.args.place bytes spoiled (omega (arith, length_stored (lines_in bytes) bytes)))
