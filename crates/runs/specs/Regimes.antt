-- What stays fixed over a run of each kind of line.
use Rattle.std.specs.Prelude.{ℕ, false, List, None, Option, Result}
use Rattle.inspection.specs.declared.refusal.Refusal.{Refusal}
use Rattle.inspection.specs.declared.status.Status.{Status}
use Rattle.inspection.specs.declared.tally.Tally.{Tally}
use Rattle.plans.specs.declared.rows.LotRow.{LotRow}
use Rattle.regimes.specs.Lots.{lot_judged, lot_units}
use Rattle.regimes.specs.Portions.{on_line_rules}
use Rattle.regimes.specs.Rules.{Rules}
use Rattle.regimes.specs.Rules.{Limits}
use Rattle.runs.specs.History.{Fixed}

abbrev pub lots_rules : (Status → ℕ → Option LotRow) → (ℕ → Option Limits) → Rules (Option Tally)
lots_rules row limits = record {
  portions = false;
  judged = λ s z t c. lot_judged (row s z) t c;
  starts = λ s. None;
  units = λ s z c. lot_units (row s z) c;
  limits = limits;
  window = 10;
  most_rejected = 0;
}

-- an on-line line has no plan rows
abbrev pub no_rows : Status → ℕ → Option LotRow
no_rows s z = None

abbrev pub on_line_fixed : (ℕ → List ℕ → Result Tally Refusal) → ℕ → Fixed
on_line_fixed score room = record { window = 40; most_rejected = 1; row = no_rows; limits = on_line_rules.limits; score = score; room = room }

abbrev pub lots_fixed : (Status → ℕ → Option LotRow) → (ℕ → Option Limits) → (ℕ → List ℕ → Result Tally Refusal) → ℕ → Fixed
lots_fixed row limits score room = record { window = 10; most_rejected = 0; row = row; limits = limits; score = score; room = room }
