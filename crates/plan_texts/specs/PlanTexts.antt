-- What a plan text says: its first bad line, or its rows.
use Rattle.std.specs.Prelude.{◌≡◌, ℕ, Bool, true, false, cond, List, [], ◌∷◌, ◌++◌, Some, None, Ok, Err, vec_items, Option, Result, codes}
use Rattle.std.specs.Option.{option_or}
use Rattle.inspection.specs.declared.refusal.Refusal.{Refusal}
use Rattle.inspection.specs.declared.refusal.Refusal.TheVariants.{PlanLineNotOfForm, PlanBoundBroken, PlanRowOutOfOrder, PlanRowCountsWrong}
use Rattle.texts.specs.Pieces.{Piece, number_of, pieces}
use Rattle.plans.specs.declared.plan_book.PlanBook.{PlanBook}
use Rattle.plan_texts.specs.declared.reading.PlanError.{PlanError}
use Rattle.plan_texts.specs.declared.reading.PlanError.TheVariants.{Refused, NoMemory}
use Rattle.plans.specs.declared.rows.LotRow.{LotRow}
use Rattle.plans.specs.declared.rows.LimitRow.{LimitRow}
use Rattle.plan_texts.specs.declared.row.Row.{Row}
use Rattle.plan_texts.specs.declared.row.Row.TheVariants.{Lot, Limit}
use Rattle.plans.specs.Plans.{lot_row_kept, limit_row_kept, lot_row_follows, limit_row_follows, counts_kept}
use Rattle.plan_texts.specs.RowLines.{row_of}

-- how people are told of want of memory; a refusal has words of its own
abbrev pub told : PlanError → Option (List ℕ)
told (Refused r) = None
told NoMemory = Some (codes "no memory for the plan")

abbrev pub row_kept : Row → Bool
row_kept (Lot r) = lot_row_kept r
row_kept (Limit r) = limit_row_kept r

-- b may stand right after a: limit rows come after all lot rows
abbrev pub row_follows : Row → Row → Bool
row_follows (Lot a) (Lot b) = lot_row_follows a b
row_follows (Lot a) (Limit b) = true
row_follows (Limit a) (Lot b) = false
row_follows (Limit a) (Limit b) = limit_row_follows a b

-- the row may follow the row of the line before, if there is one
abbrev pub follows_after : Option Row → Row → Bool
follows_after None r = true
follows_after (Some a) r = row_follows a r

-- the same of a line with the number n that says a row, or none
abbrev pub fault_of : Option Row → ℕ → Option Row → Option Refusal
fault_of last n None = Some (PlanLineNotOfForm n)
fault_of last n (Some r) = cond (row_kept r) (cond (follows_after last r) None (Some (PlanRowOutOfOrder n))) (Some (PlanBoundBroken n))

-- what is wrong with a line that follows the line of `last`: not of form (51), then a bound broken (52), then out of order (53)
abbrev pub fault : Option Row → Piece → Option Refusal
fault last p = fault_of last (number_of p) (row_of p)

-- what is wrong with the first bad line, each looked at beside the line before it
abbrev pub first_bad : Option Row → List Piece → Option Refusal
first_bad last [] = None
first_bad last (p ∷ ps) = option_or (fault last p) (first_bad (row_of p) ps)

-- a row among those of its kind
abbrev pub lot_of : Row → List LotRow
lot_of (Lot r) = r ∷ []
lot_of (Limit r) = []

abbrev pub limit_of : Row → List LimitRow
limit_of (Lot r) = []
limit_of (Limit r) = r ∷ []

abbrev pub lot_said : Option Row → List LotRow → List LotRow
lot_said None rows = rows
lot_said (Some r) rows = lot_of r ++ rows

abbrev pub limit_said : Option Row → List LimitRow → List LimitRow
limit_said None rows = rows
limit_said (Some r) rows = limit_of r ++ rows

-- the lot rows and the limit rows that the lines say, in their order
abbrev pub lots_said : List Piece → List LotRow
lots_said [] = []
lots_said (p ∷ ps) = lot_said (row_of p) (lots_said ps)

abbrev pub limits_said : List Piece → List LimitRow
limits_said [] = []
limits_said (p ∷ ps) = limit_said (row_of p) (limits_said ps)

abbrev pub Rows : Type 0
Rows = List LotRow × List LimitRow

-- row counts are judged after the last line (54)
abbrev pub counted : List LotRow → List LimitRow → Option Refusal
counted lots limits = cond (counts_kept lots limits) None (Some PlanRowCountsWrong)

abbrev pub unless : Option Refusal → Rows → Result Rows Refusal
unless None rows = Ok rows
unless (Some r) rows = Err r

-- the rows of a plan text, or why it is refused
abbrev pub plan_of : List ℕ → Result Rows Refusal
plan_of text =
    unless (option_or (first_bad None (pieces text)) (counted (lots_said (pieces text)) (limits_said (pieces text)))) (lots_said (pieces text), limits_said (pieces text))

-- what a plan book holds
abbrev pub rows_of_book : PlanBook → Rows
rows_of_book p = (vec_items p.lots, vec_items p.limits)

-- an answer to a text, want of memory apart, is the text's rows or its refusal
abbrev pub Answers : List ℕ → Result PlanBook PlanError → Type 0
Answers text (Ok p) = plan_of text ≡ Ok (rows_of_book p)
Answers text (Err (Refused r)) = plan_of text ≡ Err r
Answers text (Err NoMemory) = Unit {0}

-- replacing a plan by a text leaves the text's rows, or the plan as it was
abbrev pub Replaced : List ℕ → PlanBook → Result (Unit {0}) PlanError → PlanBook → Type 0
Replaced text was (Ok x) p = plan_of text ≡ Ok (rows_of_book p)
Replaced text was (Err (Refused r)) p = (plan_of text ≡ Err r) × (p ≡ was)
Replaced text was (Err NoMemory) p = p ≡ was
