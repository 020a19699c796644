use Rattle.std.proofs.Common.{◌≡◌, ◌+◌, length, refl, ap, sym, ◌∙◌, arith}
use Rattle.texts.specs.Pieces.{to_come, pieces, after}
use Rattle.texts.specs.Texts.{lines}
use Rattle.texts.proofs.Cuts.{after_next}
use Rattle.worksheet.proofs.Going.{going, start, goes_whole, going_more}
use Rattle.worksheet.proofs.scoring.read.Goals as goal

pub loop-item-init : goal.loop-item-init
loop-item-init c =
    let sheet = c.args.sheet.now in
    let all = ap to_come c.into_iter-item-iterator.ensures.into_iter_gives ∙ c.new-item-items.ensures in
    (tt, tt, refl, ap (going c.args.units start) all ∙ goes_whole c.args.units (pieces sheet), (lines sheet, all), omega (arith, ap length all))

pub loop-item-preserved : goal.loop-item-preserved
loop-item-preserved c =
    let checked = c.in_ok-check.ensures in
    let split = c.in-Some.ensures.steps in
    let so_far = c.loop-item.invariant in
    let on = going_more c.args.units c.loop-item.running c.enter-running.result _ _ _ _ _ split checked.0 checked.1 c.enter-running.ensures so_far.2 so_far.3 in
    let next = after_next c.loop-item.lines so_far.4.0 _ _ (sym so_far.4.1 ∙ split) in
    let line : c.line-lines.result ≡ c.loop-item.lines + 1 = c.line-lines.ensures ∙ next.0 in
    (tt, tt, on.0, on.1, (next.1.0, next.1.1 ∙ ap (λ n. after n next.1.0) (sym line)), omega (arith, ap length split, line, so_far.5))
