-- The promise leaves nothing open: the calls of an earned run settle its answers, its book and its room.
use Rattle.std.specs.Prelude.{◌≡◌, ℕ, List, [], ◌∷◌}
use Rattle.entries.specs.declared.entry.Entry.{Entry}
use Rattle.runs.specs.History.{Call, Event, Fixed}
use Rattle.runs.specs.Earned.{Earned}
use Rattle.runs.specs.Runs.{Each}

-- the calls of a history, the newest first
abbrev pub calls_of : List Event → List Call
calls_of [] = []
calls_of (e ∷ h) = e.call ∷ calls_of h

-- two earned histories of the same calls, all of one kind of line
abbrev pub SettledByCalls : Fixed → (Call → Type 0) → Type 0
SettledByCalls f P =
    (h k : List Event) (a b : List Entry) (m n : ℕ) → Each P (calls_of h) → calls_of h ≡ calls_of k → Earned f h a m → Earned f k b n → (h ≡ k) × (a ≡ b) × (m ≡ n)
