use Rattle.std.proofs.Common.{◌≡◌, option_map, reverse, vec_items, ◌∙◌, rules, tests}
use Rattle.std.specs.List.{find}
use Rattle.std.proofs.lemmas.Iterator.Adapters.{YieldsList-from_rev_slice}
use Rattle.std.proofs.lemmas.Iterator.Search.{find_from_yields_List}
use Rattle.plans.specs.Finding.{limits_fit}
use Rattle.plans.proofs.Found.{find_back}
use Rattle.plans.proofs.plan_book.PlanBook.wide_relief_limits.Goals as goal

pub returns : goal.returns
returns c =
    let items = vec_items c.args.self.now.limits in
    let fits = limits_fit c.args.units in
    let found : option_map (λ y. y.now) c.find.result ≡ find fits (reverse items) =
    find_from_yields_List fits _ _ c.find.result c.find.ensures.ran (YieldsList-from_rev_slice items cc) (λ x b q k. search (rules, tests)) in
    c.copied.ensures ∙ found ∙ find_back fits items
