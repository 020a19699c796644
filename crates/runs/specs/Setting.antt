-- Sheets and books that a line is set on.
use Rattle.std.specs.Prelude.{◌≡◌, ℕ, ◌*◌, ◌≤◌, List, [], ◌∷◌, Some, Ok, Err, Result}
use Rattle.inspection.specs.declared.refusal.Refusal.{Refusal}
use Rattle.inspection.specs.declared.status.Status.{Status}
use Rattle.inspection.specs.declared.tally.Tally.{Tally}
use Rattle.inspection.specs.Classes.{count_of}
use Rattle.regimes.specs.Rules.{Rules}
use Rattle.inspection.specs.declared.class.JudgedClass.TheVariants.{Total}
use Rattle.runs.specs.History.{Call, Event}

-- every tally that a sample allows is shown by some sheet
abbrev pub Shows : {C : Type 0} → Rules C → (ℕ → List ℕ → Result Tally Refusal) → Type 0
Shows {C} r score = (s : Status) (z : ℕ) (c : C) (u : ℕ) (t : Tally) → r.units s z c ≡ Some u → count_of Total t ≤ 9 * u → (b : List ℕ) × (score u b ≡ Ok t)

-- on an unsound book every call is refused with that number, and nothing changes
abbrev pub all_refused : Refusal → List Call → List Event → List Event
all_refused x [] h = h
all_refused x (c ∷ cs) h = all_refused x cs (record { call = c; answer = Err x } ∷ h)
