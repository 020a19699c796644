use Rattle.std.proofs.Common.{◌≡◌, true, IfSome, vec_items, sym, subst, arith}
use Rattle.std.proofs.lemmas.List.{take_all}
use Rattle.plans.specs.Finding.{row_fits, row_for}
use Rattle.plans.specs.Plans.{lot_row_kept}
use Rattle.plans.proofs.Found.{found_more, last_kept, rows_kept}
use Rattle.plans.proofs.plan_book.PlanBook.lot_row.Goals as goal

pub loop-i-preserved : goal.loop-i-preserved
loop-i-preserved c =
    found_more (row_fits c.args.status c.args.size) (vec_items c.args.self.now.lots) c.loop-i.i c.index.result.now c.index.result.now c.fits_lot.result c.loop-i.found c.then_some.result c.or-found.result
    (omega (arith, c.len-i-end.ensures, c.args.self.now.lots.ok.0)) c.index.ensures c.fits_lot.ensures c.loop-i.invariant c.then_some.ensures c.or-found.ensures

pub returns-clause-kept : goal.returns-clause-kept
returns-clause-kept c =
    let items = vec_items c.args.self.now.lots in
    let row : c.loop-i.found ≡ row_for c.args.status c.args.size items = rw (take_all c.loop-i.i items (omega (arith, c.len-i-end.ensures, c.args.self.now.lots.ok.0))) at c.loop-i.invariant in
    let kept = rows_kept items (vec_items c.args.self.now.limits) c.args.self.now.kept in
    subst (λ o. IfSome o (λ r. lot_row_kept r ≡ true)) (sym row) (last_kept (row_fits c.args.status c.args.size) lot_row_kept items kept)
