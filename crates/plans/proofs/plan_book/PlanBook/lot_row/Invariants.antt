use Rattle.std.proofs.Common.{◌≡◌, take, vec_items}
use Rattle.plans.specs.Finding.{row_for}
use Rattle.plans.proofs.plan_book.PlanBook.lot_row.Given as goal

-- the row found is the one among the rows so far
abbrev pub invariant-loop-i : goal.invariant-loop-i
invariant-loop-i l = l.found ≡ row_for l.status l.size (take l.i (vec_items l.self.lots))
