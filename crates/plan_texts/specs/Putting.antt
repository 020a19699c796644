-- Rows read so far, and one row more.
use Rattle.std.specs.Prelude.{◌≡◌, ◌++◌, Some, vec_items}
use Rattle.plan_texts.specs.declared.reading.Running.{Running}
use Rattle.plan_texts.specs.declared.row.Row.{Row}
use Rattle.plan_texts.specs.PlanTexts.{lot_of, limit_of}

-- the row stands last among those of its kind
abbrev pub Put : Running → Row → Running → Type 0
Put was row now =
    (vec_items now.lots ≡ vec_items was.lots ++ lot_of row) × (vec_items now.limits ≡ vec_items was.limits ++ limit_of row) × (now.last ≡ Some row)
