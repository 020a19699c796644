-- What holds of every sheet, over the definitions of this folder.
use Rattle.std.specs.Prelude.{◌≡◌, ℕ, ◌*◌, ◌≤◌, ◌↔◌, List, IfOk, Some, Ok, Result}
use Rattle.inspection.specs.Tallies.{total_of}
use Rattle.inspection.specs.declared.refusal.Refusal.{Refusal}
use Rattle.inspection.specs.declared.tally.Tally.{Tally}
use Rattle.worksheet.specs.declared.defect.Defect.{Defect}
use Rattle.texts.specs.Pieces.{piece}
use Rattle.worksheet.specs.Defects.{Keyed, defect_of, written}
use Rattle.worksheet.specs.Scores.{score_of}

-- a line says a defect exactly where it is that defect's line
abbrev pub ReadsBack : Type 0
ReadsBack = (n : ℕ) (line : List ℕ) (d : Defect) → (defect_of (piece n line) ≡ Some d) ↔ (Keyed d × (line ≡ written d))

-- a unit has at most nine defects
abbrev pub AtMostNine : ℕ → Result Tally Refusal → Type 0
AtMostNine units r = IfOk r (λ t. total_of t ≤ 9 * units)

-- every tally of at most nine defects a unit is shown by some sheet
abbrev pub SomeSheetShows : Type 0
SomeSheetShows = (units : ℕ) (t : Tally) → units ≤ 9999 → total_of t ≤ 9 * units → (sheet : List ℕ) × (score_of sheet units ≡ Ok t)
