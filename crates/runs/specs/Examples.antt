-- A day and a lot worked through: their calls, each answer and the book that they leave.
use Rattle.std.specs.Prelude.{◌≡◌, ℕ, ◌+◌, ◌-◌, List, [], ◌∷◌, ◌++◌, map, replicate, Some, None, Ok, Err, Option, Result}
use Rattle.inspection.specs.declared.refusal.Refusal.{Refusal}
use Rattle.inspection.specs.declared.refusal.Refusal.TheVariants.{NoPeriodOpen, LotAwaits, ReliefOffNormal, SpellTooShort, DefectsAboveLimit, NoticeOffReduced}
use Rattle.inspection.specs.declared.kind.Kind.{Kind}
use Rattle.inspection.specs.declared.kind.Kind.TheVariants as kind
use Rattle.inspection.specs.declared.status.Status.{Status}
use Rattle.inspection.specs.declared.status.Status.TheVariants.{Normal, Tightened, Reduced}
use Rattle.inspection.specs.declared.tally.Tally.{Tally}
use Rattle.inspection.specs.declared.verdict.Verdict.{Verdict}
use Rattle.inspection.specs.declared.verdict.Verdict.TheVariants.{Accepted, Rejected, Awaited, Brief, Undecided}
use Rattle.entries.specs.declared.entry.Entry.{Entry}
use Rattle.plans.specs.declared.rows.ClassNumbers.{ClassNumbers}
use Rattle.plans.specs.declared.rows.LimitRow.{LimitRow}
use Rattle.plans.specs.declared.rows.LotRow.{LotRow}
use Rattle.regimes.specs.Lots.{stationary_rules}
use Rattle.regimes.specs.Portions.{on_line_rules}
use Rattle.regimes.specs.Rules.{Rules}
use Rattle.runs.specs.declared.standing.Reply.{Reply}
use Rattle.runs.specs.History.{Call, open_period, enter_portion, end_period, enter_lot, enter_second, grant_relief, report_irregular, Event}
use Rattle.runs.specs.Runs.{Run, run}
use Rattle.runs.specs.Writing.{sheet_score}

-- the answers of a run whose newest event comes first, put before later ones
abbrev pub answers_before : List Event → List (Result Reply Refusal) → List (Result Reply Refusal)
answers_before [] later = later
answers_before (e ∷ h) later = answers_before h (e.answer ∷ later)

-- the answers of a run, the oldest first
abbrev pub answers : List Event → List (Result Reply Refusal)
answers h = answers_before h []

abbrev pub accepted : Verdict → Status → Option ℕ → Result Reply Refusal
accepted v s o = Ok (record { verdict = v; status = s; slip = o })

abbrev pub tally : ℕ → ℕ → ℕ → Tally
tally c m n = record { critical = c; major = m; minor = n }

abbrev pub entry : Kind → Status → Verdict → ℕ → ℕ → Tally → Entry
entry k s v size units t = record { kind = k; status = s; verdict = v; lot_size = size; units = units; tally = t }

-- a sheet line with a unit of one digit: unit, tab, cause, tab, class letter, line feed. Digits are given by their numbers, letters by their characters' numbers
abbrev pub line : ℕ → ℕ → ℕ → List ℕ → List ℕ
line unit cause class rest = unit ∷ 9 ∷ cause ∷ 9 ∷ class ∷ 10 ∷ rest

-- a period with a portion accepted, one rejected for a critical defect, and one for three major ones, which is the second rejected among five; then a portion with no period open
abbrev pub worked_day : List Call
worked_day =
    open_period
    ∷ enter_portion (line 51 49 77 (line 51 50 78 []))
    ∷ enter_portion (line 55 49 67 [])
    ∷ enter_portion (line 49 49 77 (line 50 49 77 (line 50 50 77 (line 57 49 78 []))))
    ∷ end_period
    ∷ enter_portion []
    ∷ []

-- what the run of these calls comes to
pub record ComesTo {C : Type 0} (x : Run C) (told : List (Result Reply Refusal)) (book : List Entry) (room : ℕ) : Type 0 where
  pub told_so : answers x.events ≡ told
  pub booked_so : x.entries ≡ book
  pub room_left : x.room ≡ room

abbrev pub WorkedDay : Type 0
WorkedDay = ComesTo (run on_line_rules sheet_score worked_day 1024)
    (accepted Undecided Normal None
    ∷ accepted Accepted Normal None
    ∷ accepted Rejected Normal None
    ∷ accepted Rejected Tightened None
    ∷ accepted Brief Tightened None
    ∷ Err NoPeriodOpen
    ∷ [])
    (entry kind.PeriodOpened Normal Undecided 0 0 (tally 0 0 0)
    ∷ entry kind.Portion Normal Accepted 0 25 (tally 0 1 1)
    ∷ entry kind.Portion Normal Rejected 0 25 (tally 1 0 0)
    ∷ entry kind.Portion Normal Rejected 0 25 (tally 0 3 1)
    ∷ entry kind.PeriodEnded Tightened Brief 0 0 (tally 0 0 0)
    ∷ [])
    1019

-- a plan row for lots from 56 on, with samples of 10 and 10
abbrev pub numbers : ℕ → ℕ → ℕ → ClassNumbers
numbers a r b = record { accept_first = a; reject_first = r; accept_both = b }

abbrev pub double_row : LotRow
double_row = record { status = Normal; lowest_size = 56; first_sample = 10; total_sample = 20; numbers = record { critical = numbers 0 3 3; major = numbers 5 7 8; total = numbers 5 7 8 } }

abbrev pub limit_row : LimitRow
limit_row = record { lowest_units = 1; limits = record { critical = 0; major = 0; total = 0 } }

-- one critical defect decides nothing; while the lot waits another is refused; its own slip is taken for the second sample
abbrev pub worked_lot : List Call
worked_lot =
    enter_lot 57 (line 55 52 67 [])
    ∷ enter_lot 60 []
    ∷ enter_second 1 (line 49 49 67 (line 50 49 77 []))
    ∷ []

abbrev pub WorkedLot : Type 0
WorkedLot = ComesTo (run (stationary_rules (double_row ∷ []) (limit_row ∷ [])) sheet_score worked_lot 1024)
    (accepted Awaited Normal (Some 1)
    ∷ Err LotAwaits
    ∷ accepted Accepted Normal None
    ∷ [])
    (entry kind.Lot Normal Awaited 57 10 (tally 1 0 0)
    ∷ entry kind.SecondSample Normal Accepted 57 10 (tally 1 1 0)
    ∷ [])
    1022

-- a single plan that allows one minor defect on normal inspection and none on reduced, with limits for ten such lots
abbrev pub single_row : Status → ℕ → LotRow
single_row s most =
    record { status = s; lowest_size = 1; first_sample = 1; total_sample = 1; numbers = record { critical = numbers 0 1 0; major = numbers 0 1 0; total = numbers most (most + 1) most } }

abbrev pub ten_limit : LimitRow
ten_limit = record { lowest_units = 10; limits = record { critical = 0; major = 0; total = 2 } }

abbrev pub single_rules : Rules (Option Tally)
single_rules = stationary_rules (single_row Normal 1 ∷ single_row Tightened 0 ∷ single_row Reduced 0 ∷ []) (ten_limit ∷ [])

-- so many lots of size 1 with that sheet
abbrev pub lots : ℕ → List ℕ → List Call
lots n sheet = replicate n (enter_lot 1 sheet)

-- the status after each call, where it is accepted
abbrev pub refused_or_status : Result Reply Refusal → Result Status Refusal
refused_or_status (Ok y) = Ok y.status
refused_or_status (Err e) = Err e

abbrev pub told : List Event → List (Result Status Refusal)
told h = map refused_or_status (answers h)

abbrev pub minor_defect : List ℕ
minor_defect = line 49 49 78 []

-- nine lots are too few for relief; after ten it is granted, and on reduced inspection the first rejected lot turns the status back; so does a notice. Then two rejected lots among five tighten
-- inspection, and five accepted ones bring it back
abbrev pub worked_turns : List Call
worked_turns =
    (lots 9 [] ++ grant_relief ∷ lots 1 [] ++ grant_relief ∷ grant_relief ∷ [])
    ++ (lots 1 minor_defect ++ report_irregular ∷ lots 10 [] ++ grant_relief ∷ report_irregular ∷ [])
    ++ (lots 1 (line 49 49 67 []) ++ lots 3 [] ++ lots 1 (line 49 49 77 []) ++ lots 4 [] ++ lots 1 [])

abbrev pub WorkedTurns : Type 0
WorkedTurns =
    told (run single_rules sheet_score worked_turns 1024).events
    ≡ (replicate 9 (Ok Normal) ++ Err SpellTooShort ∷ Ok Normal ∷ Ok Reduced ∷ Err ReliefOffNormal ∷ [])
    ++ (Ok Normal ∷ Err NoticeOffReduced ∷ replicate 10 (Ok Normal) ++ Ok Reduced ∷ Ok Normal ∷ [])
    ++ (replicate 4 (Ok Normal) ++ Ok Tightened ∷ replicate 4 (Ok Tightened) ++ Ok Normal ∷ [])

-- three minor defects among ten accepted lots are above the limit of two, and two are not
abbrev pub worked_limit : ℕ → List Call
worked_limit n = lots n minor_defect ++ lots (10 - n) [] ++ grant_relief ∷ []

abbrev pub WorkedLimits : Type 0
WorkedLimits =
    (told (run single_rules sheet_score (worked_limit 3) 1024).events ≡ replicate 10 (Ok Normal) ++ Err DefectsAboveLimit ∷ [])
    × (told (run single_rules sheet_score (worked_limit 2) 1024).events ≡ replicate 10 (Ok Normal) ++ Ok Reduced ∷ [])
