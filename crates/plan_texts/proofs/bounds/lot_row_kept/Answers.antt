use Rattle.std.proofs.Common.{◌≡◌, true, ◌&&◌, [], ◌∷◌, sym, ap, ◌∙◌, rules, tests}
use Rattle.std.proofs.lemmas.Iterator.{YieldsList-from_slice}
use Rattle.std.proofs.lemmas.Iterator.Search.{all_from_yields_List}
use Rattle.inspection.specs.declared.class.JudgedClass.{JudgedClass}
use Rattle.inspection.specs.declared.class.JudgedClass.TheVariants.{Critical, Major, Total}
use Rattle.inspection.specs.Classes.{at_class, each_class}
use Rattle.plans.specs.Plans.{in_width, samples_kept, class_kept}
use Rattle.plan_texts.proofs.Threes.{all_three}
use Rattle.plan_texts.proofs.bounds.lot_row_kept.Goals as goal

pub returns-then-samples_kept : goal.returns-then-samples_kept
returns-then-samples_kept c =
    let row = c.args.row.now in
    let kept = λ (class : JudgedClass). class_kept row (at_class row.numbers class) in
    let sampled : (in_width row.lowest_size && samples_kept row) ≡ true = search rules in
    all_from_yields_List kept _ _ _ c.all.ensures.ran (YieldsList-from_slice (Critical ∷ Major ∷ Total ∷ []) cc) (λ x b q k. search (rules, tests)) ∙ all_three kept Critical Major Total ∙ sym (ap (λ t. t && each_class kept) sampled)
