use Rattle.std.proofs.Common.{◌≡◌, vec_items}
use Rattle.texts.specs.Pieces.{to_come}
use Rattle.plan_texts.specs.PlanTexts.{plan_of}
use Rattle.plan_texts.proofs.PlanReading.{going}
use Rattle.plan_texts.proofs.reading.read_plan.Given as goal

-- what is left gives the answer to the text
abbrev pub invariant-loop-item : goal.invariant-loop-item
invariant-loop-item l =
    (goal.iterator-loop-item).can_next l.item-iterator
    × (goal.iterator-loop-item).is_finite l.item-iterator
    × (going (vec_items l.running.lots) (vec_items l.running.limits) l.running.last (to_come l.item-iterator) ≡ plan_of l.text)
