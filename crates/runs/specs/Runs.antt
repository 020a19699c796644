-- Runs of a line over lists of calls, and the setting of a line on a book, which replays its entries.
use Rattle.std.specs.Prelude.{◌≡◌, ℕ, ◌+◌, ◌*◌, ◌≤◌, Bool, true, false, cond, ◌&&◌, List, [], ◌∷◌, ◌++◌, length, Some, None, Ok, Err, Option, Result, ◌==◌, nat_le}
use Rattle.inspection.specs.declared.status.Status.TheVariants.{Normal}
use Rattle.inspection.specs.declared.verdict.Verdict.{Verdict}
use Rattle.inspection.specs.declared.verdict.Verdict.TheVariants.{Accepted, Rejected, Awaited, Full, Brief, Undecided}
use Rattle.inspection.specs.declared.kind.Kind.{Kind}
use Rattle.inspection.specs.declared.kind.Kind.TheVariants as kind
use Rattle.inspection.specs.declared.tally.Tally.{Tally}
use Rattle.entries.specs.declared.entry.Entry.{Entry}
use Rattle.inspection.specs.declared.refusal.Refusal.{Refusal}
use Rattle.inspection.specs.declared.refusal.Refusal.TheVariants.{SheetLineNotOfForm}
use Rattle.inspection.specs.declared.class.JudgedClass.TheVariants.{Total}
use Rattle.inspection.specs.Classes.{count_of}
use Rattle.inspection.specs.Statuses.{same_status}
use Rattle.runs.specs.History.{Call, open_period, enter_portion, end_period, enter_lot, enter_second, hand_in, reissue, grant_relief, report_irregular, Event}
use Rattle.regimes.specs.Rules.{Rules}
use Rattle.runs.specs.declared.standing.Standing.{Standing}
use Rattle.runs.specs.declared.standing.Taken.{Taken}
use Rattle.runs.specs.Lines.{due_number, with_slip, refuses, takes, step}

-- the line of an empty book
abbrev pub fresh : {C : Type 0} → Rules C → Standing C
fresh r = record { status = Normal; spell = 0; period = None; waiting = None; carried = r.starts Normal; unsound = None }

-- a run: the events that it adds to those before, the newest first, and where it leaves the line and its book
pub record Run (C : Type 0) : Type 0 where
  pub events : List Event
  pub standing : Standing C
  pub entries : List Entry
  pub room : ℕ

module _ {C : Type 0} (r : Rules C) (score : ℕ → List ℕ → Result Tally Refusal) where
  -- the calls of a list, the oldest first
  abbrev pub go : List Call → List Event → Standing C → List Entry → ℕ → Run C
  go [] h st es n = record { events = h; standing = st; entries = es; room = n }
  go (c ∷ cs) h st es n =
      let o = step r score c st es n in
      go cs (record { call = c; answer = o.answer } ∷ h) o.standing o.entries o.room

  -- a run of a line that was set on an empty book with so much room
  abbrev pub run : List Call → ℕ → Run C
  run cs n = go cs [] (fresh r) [] n

-- equal entries, as a test
abbrev pub verdict_code : Verdict → ℕ
verdict_code Accepted = 0
verdict_code Rejected = 1
verdict_code Awaited = 2
verdict_code Full = 3
verdict_code Brief = 4
verdict_code Undecided = 5

abbrev pub kind_code : Kind → ℕ
kind_code kind.PeriodOpened = 0
kind_code kind.Portion = 1
kind_code kind.PeriodEnded = 2
kind_code kind.Lot = 3
kind_code kind.SecondSample = 4
kind_code kind.Relief = 5
kind_code kind.IrregularNotice = 6
kind_code kind.Spoiled = 7

abbrev pub same_tally : Tally → Tally → Bool
same_tally a b = a.critical == b.critical && (a.major == b.major && a.minor == b.minor)

abbrev pub same_entry : Entry → Entry → Bool
same_entry a b = kind_code a.kind == kind_code b.kind && (same_status a.status b.status && (verdict_code a.verdict == verdict_code b.verdict && (a.lot_size == b.lot_size && (a.units == b.units && same_tally a.tally b.tally))))

abbrev pub is_entry : Entry → Option Entry → Bool
is_entry e None = false
is_entry e (Some x) = same_entry x e

-- the call of a line for portions, or of one for lots, that would write an entry of this kind and size; a second sample is of the lot that awaits it
abbrev pub call_for : Bool → Kind → ℕ → ℕ → Option Call
call_for true kind.PeriodOpened z k = Some open_period
call_for true kind.Portion z k = Some (enter_portion [])
call_for true kind.PeriodEnded z k = Some end_period
call_for true kind.Lot z k = None
call_for true kind.SecondSample z k = None
call_for true kind.Relief z k = Some grant_relief
call_for true kind.IrregularNotice z k = Some report_irregular
call_for true kind.Spoiled z k = None
call_for false kind.PeriodOpened z k = None
call_for false kind.Portion z k = None
call_for false kind.PeriodEnded z k = None
call_for false kind.Lot z k = Some (enter_lot z [])
call_for false kind.SecondSample z k = Some (enter_second k [])
call_for false kind.Relief z k = Some grant_relief
call_for false kind.IrregularNotice z k = Some report_irregular
call_for false kind.Spoiled z k = None

-- a sheet that shows the entry's tally: one of u units can show any total up to 9 times u
abbrev pub showing : Tally → ℕ → List ℕ → Result Tally Refusal
showing t u b = cond (nat_le (count_of Total t) (9 * u)) (Ok t) (Err (SheetLineNotOfForm 1))

module _ {C : Type 0} where
  abbrev pub unsound_at : ℕ → Standing C → Standing C
  unsound_at n st = with_slip false (record st { unsound = Some n })

  -- whether the call came to the entry e, and where it left the line, with no slip out
  abbrev pub held_to : Entry → Option Refusal → Taken C → Standing C → Standing C
  held_to e (Some x) k bad = bad
  held_to e None k bad = cond (is_entry e k.writes) (with_slip false k.standing) bad

module _ {C : Type 0} (r : Rules C) where
  -- the line as the call leaves it, if it writes the entry e after the entries es; the call is shown the entry's tally, has room, and has the slip if it takes one
  abbrev pub replayed_by : Option Call → Entry → Standing C → List Entry → Standing C
  replayed_by None e st es = unsound_at (length es + 1) st
  replayed_by (Some c) e st es = held_to e (refuses r (showing e.tally) c (with_slip true st) es 1) (takes r (showing e.tally) c (with_slip true st) es) (unsound_at (length es + 1) st)

  -- a line with no slip out, after one more entry: unsound at the first entry that it would not itself have written
  abbrev pub replay_one : Standing C → List Entry → Entry → Standing C
  replay_one st es e = elim st.unsound [ Some n ↦ st | None ↦ replayed_by (call_for r.portions e.kind e.lot_size (due_number st.waiting)) e st es ]

  abbrev pub replay_on : Standing C → List Entry → List Entry → Standing C
  replay_on st es [] = st
  replay_on st es (e ∷ later) = replay_on (replay_one st es e) (es ++ e ∷ []) later

  -- the line that is set on a book with these entries
  abbrev pub replay : List Entry → Standing C
  replay es = replay_on (fresh r) [] es

-- the calls of each kind of line
abbrev pub ForPortions : Call → Type 0
ForPortions open_period = Unit {0}
ForPortions (enter_portion b) = Unit {0}
ForPortions end_period = Unit {0}
ForPortions (enter_lot z b) = ⊥
ForPortions (enter_second k b) = ⊥
ForPortions (hand_in k) = ⊥
ForPortions reissue = ⊥
ForPortions grant_relief = Unit {0}
ForPortions report_irregular = Unit {0}

abbrev pub ForLots : Call → Type 0
ForLots open_period = ⊥
ForLots (enter_portion b) = ⊥
ForLots end_period = ⊥
ForLots (enter_lot z b) = Unit {0}
ForLots (enter_second k b) = Unit {0}
ForLots (hand_in k) = Unit {0}
ForLots reissue = Unit {0}
ForLots grant_relief = Unit {0}
ForLots report_irregular = Unit {0}

-- the calls of a line with these rules
abbrev pub ServedBy : Bool → Call → Type 0
ServedBy true c = ForPortions c
ServedBy false c = ForLots c

abbrev pub Served : {C : Type 0} → Rules C → Call → Type 0
Served r c = ServedBy r.portions c

abbrev pub Each : (Call → Type 0) → List Call → Type 0
Each P [] = Unit {0}
Each P (c ∷ cs) = P c × Each P cs

-- a sheet of u units shows at most nine defects to a unit
abbrev pub Bounded : (ℕ → List ℕ → Result Tally Refusal) → Type 0
Bounded score = (u : ℕ) (b : List ℕ) (t : Tally) → score u b ≡ Ok t → count_of Total t ≤ 9 * u
