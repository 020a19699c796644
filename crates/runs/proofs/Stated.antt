-- The statements that proofs here lead to, for any rules and any scoring.
use Rattle.std.proofs.Common.{◌≡◌, ℕ, ◌+◌, ◌≤◌, true, false, ◌↔◌, List, [], ◌∷◌, ◌++◌, length, Some, None, Option, Result}
use Rattle.inspection.specs.declared.refusal.Refusal.{Refusal}
use Rattle.inspection.specs.declared.refusal.Refusal.TheVariants.{BookUnsound}
use Rattle.inspection.specs.declared.status.Status.{Status}
use Rattle.inspection.specs.declared.tally.Tally.{Tally}
use Rattle.entries.specs.declared.entry.Entry.{Entry}
use Rattle.plans.specs.Plans.{lot_row_kept}
use Rattle.plans.specs.declared.rows.LotRow.{LotRow}
use Rattle.regimes.specs.Portions.{on_line_rules}
use Rattle.regimes.specs.Rules.{Rules}
use Rattle.regimes.specs.Rules.{Limits}
use Rattle.runs.specs.History.{Call, Event, Fixed, slip_is_out}
use Rattle.runs.specs.Earned.{Earned}
use Rattle.runs.specs.Lines.{is_out, with_slip}
use Rattle.runs.specs.Regimes.{lots_rules, on_line_fixed, lots_fixed}
use Rattle.runs.specs.Runs.{go, run, same_entry, replay, ForPortions, ForLots, Served, Each, Bounded}
use Rattle.runs.specs.Setting.{Shows, all_refused}
use Rattle.runs.specs.Settles.{SettledByCalls}

-- every run of an on-line line from an empty book is earned
abbrev pub EarnedOnLine : Type 0
EarnedOnLine =
    (score : ℕ → List ℕ → Result Tally Refusal) (room : ℕ) → room ≤ 9999999 → (calls : List Call) → Each ForPortions calls
    → Earned (on_line_fixed score room) (run on_line_rules score calls room).events (run on_line_rules score calls room).entries (run on_line_rules score calls room).room
    × (is_out (run on_line_rules score calls room).standing.waiting ≡ slip_is_out (on_line_fixed score room) (run on_line_rules score calls room).events)

-- every run of a stationary line from an empty book is earned, where each row of its plan rejects from above what it accepts
abbrev pub EarnedLots : Type 0
EarnedLots =
    (row : Status → ℕ → Option LotRow) (limits : ℕ → Option Limits) → ((s : Status) (z : ℕ) (w : LotRow) → row s z ≡ Some w → lot_row_kept w ≡ true)
    → (score : ℕ → List ℕ → Result Tally Refusal) (room : ℕ) → room ≤ 9999999 → (calls : List Call) → Each ForLots calls
    → Earned (lots_fixed row limits score room) (run (lots_rules row limits) score calls room).events (run (lots_rules row limits) score calls room).entries (run (lots_rules row limits) score calls room).room
    × (is_out (run (lots_rules row limits) score calls room).standing.waiting ≡ slip_is_out (lots_fixed row limits score room) (run (lots_rules row limits) score calls room).events)

-- a line set on the book that a run wrote stands as the run left its line, but for the slip
abbrev pub StandsOnItsBook : {C : Type 0} → Rules C → Type 0
StandsOnItsBook r =
    (score : ℕ → List ℕ → Result Tally Refusal) → Bounded score → (room : ℕ) (calls : List Call) → Each (Served r) calls
    → replay r (run r score calls room).entries ≡ with_slip false (run r score calls room).standing

-- where no slip is out, the run's line and one set on its book answer every further list alike: the same events, entries and room
abbrev pub GoesOnAlike : {C : Type 0} → Rules C → Type 0
GoesOnAlike r =
    (score : ℕ → List ℕ → Result Tally Refusal) → Bounded score → (room : ℕ) (calls more : List Call) → Each (Served r) calls
    → is_out (run r score calls room).standing.waiting ≡ false
    → go r score more [] (run r score calls room).standing (run r score calls room).entries (run r score calls room).room
    ≡ go r score more [] (replay r (run r score calls room).entries) (run r score calls room).entries (run r score calls room).room

-- the test of entries passes exactly at equal ones
abbrev pub SameEntryExactly : Type 0
SameEntryExactly = (a b : Entry) → (same_entry a b ≡ true → a ≡ b) × (a ≡ b → same_entry a b ≡ true)

-- a book is sound exactly where some run of the line from an empty book wrote it
abbrev pub SoundExactly : {C : Type 0} → Rules C → Type 0
SoundExactly r =
    (score : ℕ → List ℕ → Result Tally Refusal) → Bounded score → Shows r score → (es : List Entry)
    → ((replay r es).unsound ≡ None) ↔ ((room : ℕ) × (calls : List Call) × Each (Served r) calls × ((run r score calls room).entries ≡ es))

-- a line set on a sound book with so much room goes on from where some run from an empty book left its line and that book, with no slip out
abbrev pub SetOnARun : {C : Type 0} → Rules C → Type 0
SetOnARun r =
    (score : ℕ → List ℕ → Result Tally Refusal) → Shows r score → (es : List Entry) (room : ℕ) → (replay r es).unsound ≡ None
    → (calls : List Call) × Each (Served r) calls × ((run r score calls (length es + room)).standing ≡ replay r es) × ((run r score calls (length es + room)).entries ≡ es) × ((run r score calls (length es + room)).room ≡ room)

-- what a line that is set on a sound book does then is the end of an earned run: `before` is a history that wrote that book and left no slip out
abbrev pub SetEarned : {C : Type 0} → Rules C → (ℕ → Fixed) → (ℕ → List ℕ → Result Tally Refusal) → Type 0
SetEarned r fixed score =
    (es : List Entry) (room : ℕ) → length es + room ≤ 9999999 → (replay r es).unsound ≡ None
    → (before : List Event) × Earned (fixed (length es + room)) before es room × (slip_is_out (fixed (length es + room)) before ≡ false)
    × ((calls : List Call) → Each (Served r) calls
    → Earned (fixed (length es + room)) ((go r score calls [] (replay r es) es room).events ++ before) (go r score calls [] (replay r es) es room).entries (go r score calls [] (replay r es) es room).room)

abbrev pub SetEarnedOnLine : Type 0
SetEarnedOnLine = (score : ℕ → List ℕ → Result Tally Refusal) → Shows on_line_rules score → SetEarned on_line_rules (on_line_fixed score) score

abbrev pub SetEarnedLots : Type 0
SetEarnedLots =
    (row : Status → ℕ → Option LotRow) (limits : ℕ → Option Limits) → ((s : Status) (z : ℕ) (w : LotRow) → row s z ≡ Some w → lot_row_kept w ≡ true)
    → (score : ℕ → List ℕ → Result Tally Refusal) → Shows (lots_rules row limits) score → SetEarned (lots_rules row limits) (lots_fixed row limits score) score

-- the number of an unsound book is that of the first entry that the line as the entries before it leave it does not write: those before are
-- sound, and with that entry they are not
abbrev pub FirstUnsound : {C : Type 0} → Rules C → Type 0
FirstUnsound r =
    (es : List Entry) (k : ℕ) → (replay r es).unsound ≡ Some k
    → (a : List Entry) × (e : Entry) × (z : List Entry) × (es ≡ a ++ e ∷ z) × (k ≡ length a + 1) × ((replay r a).unsound ≡ None) × ((replay r (a ++ e ∷ [])).unsound ≡ Some k)

abbrev pub UnsoundRefuses : {C : Type 0} → Rules C → Type 0
UnsoundRefuses r =
    (score : ℕ → List ℕ → Result Tally Refusal) (es : List Entry) (room k : ℕ) → (replay r es).unsound ≡ Some k → (calls : List Call)
    → go r score calls [] (replay r es) es room ≡ record { events = all_refused (BookUnsound k) calls []; standing = replay r es; entries = es; room = room }

-- all of it, of each kind of line
pub record Setting {C : Type 0} (r : Rules C) : Type 0 where
  pub sound_exactly : SoundExactly r
  pub set_on_a_run : SetOnARun r
  pub first_unsound : FirstUnsound r
  pub unsound_refuses : UnsoundRefuses r

abbrev pub EarnedSettles : Type 0
EarnedSettles =
    ((score : ℕ → List ℕ → Result Tally Refusal) (room : ℕ) → SettledByCalls (on_line_fixed score room) ForPortions)
    × ((row : Status → ℕ → Option LotRow) (limits : ℕ → Option Limits) (score : ℕ → List ℕ → Result Tally Refusal) (room : ℕ) → SettledByCalls (lots_fixed row limits score room) ForLots)
