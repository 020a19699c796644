-- What is promised of every run of a line from an empty book, and of a line that is set on any book.
use Rattle.std.specs.Prelude.{◌≡◌, ℕ, ◌+◌, ◌≤◌, false, ◌↔◌, List, [], ◌∷◌, ◌++◌, length, Some, None, Ok, vec_items, Option}
use Rattle.inspection.specs.declared.refusal.Refusal.TheVariants.{BookUnsound}
use Rattle.inspection.specs.declared.tally.Tally.{Tally}
use Rattle.entries.specs.declared.entry.Entry.{Entry}
use Rattle.plans.specs.declared.plan_book.PlanBook.{PlanBook}
use Rattle.regimes.specs.Lots.{row_of_lot}
use Rattle.regimes.specs.Portions.{on_line_rules}
use Rattle.regimes.specs.Rules.{Rules}
use Rattle.regimes.specs.Portions.{Values}
use Rattle.runs.specs.declared.standing.Reply.{Reply}
use Rattle.runs.specs.Earned.{refused_with, Ruled, PortionEarned, Turned, Earned}
use Rattle.runs.specs.History.{Call, enter_portion, Event, Fixed, article, refusal, slip_is_out, written}
use Rattle.runs.specs.Lines.{with_slip}
use Rattle.runs.specs.Regimes.{on_line_fixed, lots_fixed}
use Rattle.runs.specs.Runs.{Run, go, run, replay, Served, Each}
use Rattle.runs.specs.Setting.{all_refused}
use Rattle.runs.specs.Settles.{SettledByCalls}
use Rattle.runs.specs.Writing.{sheet_score, plan_rules}

-- the two kinds of line by what stays fixed over a run from an empty book with so much room
abbrev pub on_line : ℕ → Fixed
on_line room = on_line_fixed sheet_score room

abbrev pub stationary : PlanBook → ℕ → Fixed
stationary p room = lots_fixed (λ s size. row_of_lot s size (vec_items p.lots)) (plan_rules p).limits sheet_score room

-- what holds of on-line lines, and of stationary lines by every plan book
abbrev pub OfEveryLine : ((C : Type 0) → Rules C → (ℕ → Fixed) → Type 0) → Type 0
OfEveryLine P = P Values on_line_rules on_line × ((p : PlanBook) → P (Option Tally) (plan_rules p) (stationary p))

-- an empty book has at most so much room
abbrev pub Room : ℕ → Type 0
Room room = room ≤ 9999999

module _ {C : Type 0} (r : Rules C) where
  -- a run of a line that is set on an empty book with so much room
  abbrev pub run_of : List Call → ℕ → Run C
  run_of calls room = run r sheet_score calls room

  -- the same of any further calls, from where a line and its book stand
  abbrev pub further : List Call → Run C → Run C
  further calls x = go r sheet_score calls [] x.standing x.entries x.room

-- of each call of every list, after the calls and answers before it
abbrev pub AtEachCall : (Fixed → List Event → Event → Type 0) → (C : Type 0) → Rules C → (ℕ → Fixed) → Type 0
AtEachCall P C r fixed =
    (room : ℕ) → Room room → (calls : List Call) → Each (Served r) calls
    → (later earlier : List Event) (e : Event) → (run_of r calls room).events ≡ later ++ e ∷ earlier → P (fixed room) earlier e

abbrev pub RefusedAsRuled : Fixed → List Event → Event → Type 0
RefusedAsRuled f h e = refused_with e.answer ≡ refusal f h e.call

abbrev pub AnsweredAsRuled : Fixed → List Event → Event → Type 0
AnsweredAsRuled f h e = (y : Reply) → e.answer ≡ Ok y → Ruled f h e.call y

abbrev pub RejectedOnOverrun : Fixed → List Event → Event → Type 0
RejectedOnOverrun f h e = (y : Reply) (b : List ℕ) → e.call ≡ enter_portion b → e.answer ≡ Ok y → PortionEarned f h b y.verdict

abbrev pub TurnedAsRuled : Fixed → List Event → Event → Type 0
TurnedAsRuled f h e = (y : Reply) → e.answer ≡ Ok y → Turned f h e.call (article f e h) y.status

-- of the whole of every run
abbrev pub OfEachRun : ((C : Type 0) → Rules C → (ℕ → Fixed) → ℕ → Run C → Type 0) → (C : Type 0) → Rules C → (ℕ → Fixed) → Type 0
OfEachRun P C r fixed = (room : ℕ) → Room room → (calls : List Call) → Each (Served r) calls → P C r fixed room (run_of r calls room)

abbrev pub BooksTheAccepted : (C : Type 0) → Rules C → (ℕ → Fixed) → ℕ → Run C → Type 0
BooksTheAccepted C r fixed room x = (x.entries ≡ written (fixed room) x.events) × (x.room + length x.entries ≡ room)

-- a line set on the book that the run wrote stands as the run left its line, but for a slip that is out; and with none out, as the calls and answers tell, it answers every further list alike: with
-- equal answers and slips, and equal entries and room after each call
pub record TakenUp (C : Type 0) (r : Rules C) (fixed : ℕ → Fixed) (room : ℕ) (x : Run C) : Type 0 where
  pub stands_again : replay r x.entries ≡ with_slip false x.standing
  pub answers_alike : slip_is_out (fixed room) x.events ≡ false → (more : List Call) → further r more x ≡ go r sheet_score more [] (replay r x.entries) x.entries x.room

abbrev pub EarnedRun : (C : Type 0) → Rules C → (ℕ → Fixed) → ℕ → Run C → Type 0
EarnedRun C r fixed room x = Earned (fixed room) x.events x.entries x.room

-- two earned histories of the same calls are equal, with equal books and room
abbrev pub Settled : (C : Type 0) → Rules C → (ℕ → Fixed) → Type 0
Settled C r fixed = (room : ℕ) → SettledByCalls (fixed room) (Served r)

-- a line that is set on a sound book goes on as the end of an earned run: `before` is a history that wrote that book and left no slip out
abbrev pub GoesOnEarned : (C : Type 0) → Rules C → (ℕ → Fixed) → Type 0
GoesOnEarned C r fixed =
    (es : List Entry) (room : ℕ) → Room (length es + room) → (replay r es).unsound ≡ None
    → (before : List Event) × Earned (fixed (length es + room)) before es room × (slip_is_out (fixed (length es + room)) before ≡ false)
    × ((calls : List Call) → Each (Served r) calls
    → Earned (fixed (length es + room)) ((go r sheet_score calls [] (replay r es) es room).events ++ before) (go r sheet_score calls [] (replay r es) es room).entries (go r sheet_score calls [] (replay r es) es room).room)

-- a book is sound exactly where some run from an empty book wrote it; an unsound one bears the number of its first entry with which it is not, those before being sound; and on it every call is
-- refused with that number, and nothing changes
pub record SetOnABook (C : Type 0) (r : Rules C) (fixed : ℕ → Fixed) : Type 0 where
  pub sound_exactly : (es : List Entry) → ((replay r es).unsound ≡ None) ↔ ((room : ℕ) × (calls : List Call) × Each (Served r) calls × ((run_of r calls room).entries ≡ es))
  pub number_of_the_first : (es : List Entry) (k : ℕ) → (replay r es).unsound ≡ Some k
      → (a : List Entry) × (e : Entry) × (z : List Entry) × (es ≡ a ++ e ∷ z) × (k ≡ length a + 1) × ((replay r a).unsound ≡ None) × ((replay r (a ++ e ∷ [])).unsound ≡ Some k)
  pub unsound_refuses : (es : List Entry) (room k : ℕ) → (replay r es).unsound ≡ Some k → (calls : List Call)
      → go r sheet_score calls [] (replay r es) es room ≡ record { events = all_refused (BookUnsound k) calls []; standing = replay r es; entries = es; room = room }

-- all that is promised of a run: it is earned, what it wrote is writable, and a line that is set on its book takes it up
pub record Promised (C : Type 0) (r : Rules C) (fixed : ℕ → Fixed) (room : ℕ) (x : Run C) : Type 0 where
  pub earned : Earned (fixed room) x.events x.entries x.room
  pub taken_up : TakenUp C r fixed room x
