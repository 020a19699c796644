use Rattle.std.proofs.Common.{[], ◌∷◌, ◌∙◌, rules, tests}
use Rattle.std.proofs.lemmas.Iterator.{YieldsList-from_slice}
use Rattle.std.proofs.lemmas.Iterator.Search.{all_from_yields_List}
use Rattle.inspection.specs.declared.status.Status.{Status}
use Rattle.inspection.specs.declared.status.Status.TheVariants.{Normal, Tightened, Reduced}
use Rattle.plans.specs.Plans.{between, rows_of}
use Rattle.plan_texts.proofs.Threes.{all_three}
use Rattle.plan_texts.proofs.reading.lots_kept.Goals as goal

pub returns : goal.returns
returns c =
    let kept = λ (status : Status). between 32 (rows_of status c.args.lots.now) in
    all_from_yields_List kept _ _ _ c.all.ensures.ran (YieldsList-from_slice (Normal ∷ Tightened ∷ Reduced ∷ []) cc) (λ x b q k. search (rules, tests)) ∙ all_three kept Normal Tightened Reduced
