use Rattle.std.proofs.Common.{◌≡◌, [], ◌∷◌, vec_items, ◌∙◌}
use Rattle.plans.specs.Fresh.{fresh_lots, fresh_limits}
use Rattle.plans.specs.Plans.{keeps}
use Rattle.plans.proofs.plan_book.PlanBook.fresh.Goals as goal

pub invariant_of-result : goal.invariant_of-result
invariant_of-result c =
    let made : vec_items c.in_ok-lots.lots ≡ c.fresh_row.result ∷ c.fresh_row-2.result ∷ c.fresh_row-3.result ∷ [] = c.in_ok-lots.ensures.items in
    let lots : vec_items c.in_ok-lots.lots ≡ fresh_lots = made ∙ (λ i. c.fresh_row.ensures i ∷ c.fresh_row-2.ensures i ∷ c.fresh_row-3.ensures i ∷ []) in
    let limits : vec_items c.in_ok-limits.limits ≡ fresh_limits = c.in_ok-limits.ensures.items in
    record { kept = λ i. keeps (lots i) (limits i) }

pub returns : goal.returns
returns c =
    let made : vec_items c.in_ok-lots.lots ≡ c.fresh_row.result ∷ c.fresh_row-2.result ∷ c.fresh_row-3.result ∷ [] = c.in_ok-lots.ensures.items in
    let limits : vec_items c.in_ok-limits.limits ≡ fresh_limits = c.in_ok-limits.ensures.items in
    record { lots = made ∙ (λ i. c.fresh_row.ensures i ∷ c.fresh_row-2.ensures i ∷ c.fresh_row-3.ensures i ∷ []); limits = limits }
