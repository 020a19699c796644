-- Slips beside the answers: what is given, and what comes back.
use Rattle.std.specs.Prelude.{◌≡◌, ℕ, Some, None, Ok, Err, Option, Result}
use Rattle.inspection.specs.declared.refusal.Refusal.{Refusal}
use Rattle.runs.specs.declared.standing.Reply.{Reply}
use Rattle.line.specs.declared.slip.Refused.{Refused}
use Rattle.line.specs.declared.slip.Slip.{Slip}

-- the answer alone
abbrev pub lot_answer : Result (Reply × Option Slip) Refusal → Result Reply Refusal
lot_answer (Ok x) = Ok x.0
lot_answer (Err e) = Err e

abbrev pub shown_answer : Result Reply Refused → Result Reply Refusal
shown_answer (Ok y) = Ok y
shown_answer (Err x) = Err x.refusal

abbrev pub numbers : Option Slip → Option ℕ
numbers None = None
numbers (Some s) = Some s.number

-- the slip that is given has the number that the answer names, and none is given where it names none
abbrev pub SlipGiven : Result (Reply × Option Slip) Refusal → Type 0
SlipGiven (Ok x) = numbers x.1 ≡ x.0.slip
SlipGiven (Err e) = Unit {0}

-- a refused call hands back the slip that it was shown
abbrev pub SlipBack : Slip → Result Reply Refused → Type 0
SlipBack s (Ok y) = Unit {0}
SlipBack s (Err x) = x.slip ≡ s
