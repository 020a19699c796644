-- Every entry that a line writes is one that a book takes; and the worksheet's own scoring is one that lines may be set with.
use Rattle.std.specs.Prelude.{◌≡◌, ℕ, true, List, Some, None, vec_items, Option, Result}
use Rattle.inspection.specs.declared.refusal.Refusal.{Refusal}
use Rattle.inspection.specs.declared.tally.Tally.{Tally}
use Rattle.entries.specs.declared.entry.Entry.{Entry}
use Rattle.entries.specs.Entries.{writable}
use Rattle.plans.specs.declared.plan_book.PlanBook.{PlanBook}
use Rattle.worksheet.specs.Scores.{score_of}
use Rattle.regimes.specs.Lots.{stationary_rules}
use Rattle.regimes.specs.Portions.{on_line_rules}
use Rattle.regimes.specs.Rules.{Rules}
use Rattle.runs.specs.declared.standing.Standing.{Standing}
use Rattle.runs.specs.History.{Call}
use Rattle.runs.specs.Lines.{refuses, takes}
use Rattle.runs.specs.Runs.{Served, Bounded}
use Rattle.runs.specs.Setting.{Shows}

-- the worksheet's scoring of a sheet of so many units
abbrev pub sheet_score : ℕ → List ℕ → Result Tally Refusal
sheet_score u b = score_of b u

-- the rules of a stationary line with this plan book
abbrev pub plan_rules : PlanBook → Rules (Option Tally)
plan_rules p = stationary_rules (vec_items p.lots) (vec_items p.limits)

-- a call that the line serves and does not refuse, whatever the line's standing, its entries and the room, writes nothing but writable entries
abbrev pub WritesOnlyWritable : {C : Type 0} → Rules C → (ℕ → List ℕ → Result Tally Refusal) → Type 0
WritesOnlyWritable {C} r score =
    (c : Call) (st : Standing C) (es : List Entry) (room : ℕ) (e : Entry) → Served r c
    → refuses r score c st es room ≡ None → (takes r score c st es).writes ≡ Some e → writable e ≡ true

abbrev pub WritesWritable : Type 0
WritesWritable = WritesOnlyWritable on_line_rules sheet_score × ((p : PlanBook) → WritesOnlyWritable (plan_rules p) sheet_score)

-- a sheet shows at most nine defects to a unit, and any tally up to that
abbrev pub ScoresBounded : Type 0
ScoresBounded = Bounded sheet_score

abbrev pub SheetsShow : Type 0
SheetsShow = Shows on_line_rules sheet_score × ((p : PlanBook) → Shows (plan_rules p) sheet_score)
