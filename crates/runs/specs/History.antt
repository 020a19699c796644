-- What a list of calls and their answers says, read off that list alone, the newest event first.
use Rattle.std.specs.Prelude.{ℕ, ◌+◌, ◌-◌, Bool, true, false, cond, not, List, [], ◌∷◌, ◌++◌, length, drop, is_some, Some, None, Ok, Err, Option, Result, ◌==◌, nat_le, nat_lt}
use Rattle.inspection.specs.declared.status.Status.{Status}
use Rattle.inspection.specs.declared.status.Status.TheVariants.{Normal, Reduced}
use Rattle.inspection.specs.declared.verdict.Verdict.{Verdict}
use Rattle.inspection.specs.declared.verdict.Verdict.TheVariants.{Accepted, Rejected, Awaited, Full, Brief, Undecided}
use Rattle.inspection.specs.declared.kind.Kind.TheVariants as kind
use Rattle.inspection.specs.declared.tally.Tally.{Tally}
use Rattle.entries.specs.declared.entry.Entry.{Entry}
use Rattle.inspection.specs.declared.refusal.Refusal.{Refusal}
use Rattle.inspection.specs.declared.refusal.Refusal.TheVariants.{NoPeriodOpen, PeriodOpenAlready, LotAwaits, NoLotAwaits, SlipIsOut, LotSizeOutOfRange, ReliefOffNormal, SpellTooShort, TooManyRejected, TooFewUnits, DefectsAboveLimit, NoticeOffReduced, NoRoom}
use Rattle.inspection.specs.declared.class.JudgedClass.{JudgedClass}
use Rattle.inspection.specs.Classes.{count_of, some_class, at_class}
use Rattle.inspection.specs.Statuses.{same_status}
use Rattle.plans.specs.declared.rows.LotRow.{LotRow}
use Rattle.regimes.specs.Lots.{added}
use Rattle.regimes.specs.Portions.{portion_units}
use Rattle.regimes.specs.Rules.{Limits}
use Rattle.runs.specs.declared.standing.Reply.{Reply}
use Rattle.runs.specs.Spells.{rejections}

pub data Call : Type 0 where
  open_period : Call
  enter_portion : List ℕ → Call
  end_period : Call
  enter_lot : ℕ → List ℕ → Call
  enter_second : ℕ → List ℕ → Call
  hand_in : ℕ → Call
  reissue : Call
  grant_relief : Call
  report_irregular : Call

pub record Event : Type 0 where
  pub call : Call
  pub answer : Result Reply Refusal

-- what stays fixed over a run: the kind of line by its window and most-rejected, its plan book, the scoring of a sheet, and the room of the empty book
pub record Fixed : Type 0 where
  pub window : ℕ
  pub most_rejected : ℕ
  pub row : Status → ℕ → Option LotRow
  pub limits : ℕ → Option Limits
  pub score : ℕ → List ℕ → Result Tally Refusal
  pub room : ℕ

pub record Article : Type 0 where
  pub rejected : Bool
  pub units : ℕ
  pub tally : Tally

pub record Waiting : Type 0 where
  pub number : ℕ
  pub size : ℕ
  pub first : Tally

abbrev pub status_after : Result Reply Refusal → Status → Status
status_after (Ok r) s = r.status
status_after (Err e) s = s

-- the last status answered, normal at first
abbrev pub status : List Event → Status
status [] = Normal
status (e ∷ h) = status_after e.answer (status h)

abbrev pub no_defects : Tally
no_defects = record { critical = 0; major = 0; minor = 0 }

abbrev pub scored : Result Tally Refusal → Tally
scored (Ok t) = t
scored (Err e) = no_defects

abbrev pub first_units : Option LotRow → ℕ
first_units None = 0
first_units (Some r) = r.first_sample

abbrev pub second_units : Option LotRow → ℕ
second_units None = 0
second_units (Some r) = r.total_sample - r.first_sample

abbrev pub is_awaited : Verdict → Bool
is_awaited Accepted = false
is_awaited Rejected = false
is_awaited Awaited = true
is_awaited Full = false
is_awaited Brief = false
is_awaited Undecided = false

abbrev pub is_rejected : Verdict → Bool
is_rejected Accepted = false
is_rejected Rejected = true
is_rejected Awaited = false
is_rejected Full = false
is_rejected Brief = false
is_rejected Undecided = false

-- the first of the listed refusals whose case holds
abbrev pub first : List (Bool × Refusal) → Option Refusal → Option Refusal
first [] o = o
first (x ∷ xs) o = cond x.0 (Some x.1) (first xs o)

abbrev pub fault : Result Tally Refusal → Option Refusal
fault (Ok t) = None
fault (Err e) = Some e

abbrev pub verdicts : List Article → List Bool
verdicts [] = []
verdicts (a ∷ xs) = a.rejected ∷ verdicts xs

abbrev pub units_of : List Article → ℕ
units_of [] = 0
units_of (a ∷ xs) = a.units + units_of xs

abbrev pub defects_of : JudgedClass → List Article → ℕ
defects_of c [] = 0
defects_of c (a ∷ xs) = count_of c a.tally + defects_of c xs

abbrev pub above : List Article → Option Limits → Bool
above xs None = false
above xs (Some l) = some_class (λ c. nat_lt (at_class l c) (defects_of c xs))

module _ (f : Fixed) where
  -- an accepted call's entry, with the status before it; hand in and reissue write none
  abbrev pub entry_of : Call → Reply → Status → Option Waiting → Option Entry
  entry_of open_period r s w = Some (record { kind = kind.PeriodOpened; status = s; verdict = r.verdict; lot_size = 0; units = 0; tally = no_defects })
  entry_of (enter_portion b) r s w = Some (record { kind = kind.Portion; status = s; verdict = r.verdict; lot_size = 0; units = portion_units s; tally = scored (f.score (portion_units s) b) })
  entry_of end_period r s w = Some (record { kind = kind.PeriodEnded; status = s; verdict = r.verdict; lot_size = 0; units = 0; tally = no_defects })
  entry_of (enter_lot n b) r s w = Some (record { kind = kind.Lot; status = s; verdict = r.verdict; lot_size = n; units = first_units (f.row s n); tally = scored (f.score (first_units (f.row s n)) b) })
  entry_of (enter_second k b) r s None = None
  entry_of (enter_second k b) r s (Some w) = Some (record { kind = kind.SecondSample; status = s; verdict = r.verdict; lot_size = w.size; units = second_units (f.row s w.size); tally = scored (f.score (second_units (f.row s w.size)) b) })
  entry_of (hand_in k) r s w = None
  entry_of reissue r s w = None
  entry_of grant_relief r s w = Some (record { kind = kind.Relief; status = s; verdict = r.verdict; lot_size = 0; units = 0; tally = no_defects })
  entry_of report_irregular r s w = Some (record { kind = kind.IrregularNotice; status = s; verdict = r.verdict; lot_size = 0; units = 0; tally = no_defects })

abbrev pub writes : Call → ℕ
writes open_period = 1
writes (enter_portion b) = 1
writes end_period = 1
writes (enter_lot n b) = 1
writes (enter_second k b) = 1
writes (hand_in k) = 0
writes reissue = 0
writes grant_relief = 1
writes report_irregular = 1

abbrev pub count_after : Call → Result Reply Refusal → ℕ → ℕ
count_after c (Ok r) n = n + writes c
count_after c (Err e) n = n

-- how many entries the accepted calls wrote
abbrev pub count : List Event → ℕ
count [] = 0
count (e ∷ h) = count_after e.call e.answer (count h)

module _ (f : Fixed) where
  -- the lot that awaits its second sample, after an accepted call
  abbrev pub waiting_after : Call → Reply → Status → ℕ → Option Waiting → Option Waiting
  waiting_after open_period r s n w = w
  waiting_after (enter_portion b) r s n w = w
  waiting_after end_period r s n w = w
  waiting_after (enter_lot z b) r s n w = cond (is_awaited r.verdict) (Some (record { number = n + 1; size = z; first = scored (f.score (first_units (f.row s z)) b) })) None
  waiting_after (enter_second k b) r s n w = None
  waiting_after (hand_in k) r s n w = w
  waiting_after reissue r s n w = w
  waiting_after grant_relief r s n w = w
  waiting_after report_irregular r s n w = w

  abbrev pub waits : Call → Result Reply Refusal → Status → ℕ → Option Waiting → Option Waiting
  waits c (Ok r) s n w = waiting_after c r s n w
  waits c (Err e) s n w = w

  abbrev pub waiting : List Event → Option Waiting
  waiting [] = None
  waiting (e ∷ h) = waits e.call e.answer (status h) (count h) (waiting h)

  abbrev pub listed : Option Entry → List Entry
  listed None = []
  listed (Some e) = e ∷ []

  abbrev pub wrote : Call → Result Reply Refusal → Status → Option Waiting → List Entry
  wrote c (Ok r) s w = listed (entry_of f c r s w)
  wrote c (Err e) s w = []

  -- the entries of the accepted writing calls, in their order
  abbrev pub written : List Event → List Entry
  written [] = []
  written (e ∷ h) = written h ++ wrote e.call e.answer (status h) (waiting h)

  -- the article that an accepted call decided
  abbrev pub decided : Call → Reply → Status → Option Waiting → Option Article
  decided open_period r s w = None
  decided (enter_portion b) r s w = Some (record { rejected = is_rejected r.verdict; units = portion_units s; tally = scored (f.score (portion_units s) b) })
  decided end_period r s w = None
  decided (enter_lot z b) r s w = cond (is_awaited r.verdict) None (Some (record { rejected = is_rejected r.verdict; units = first_units (f.row s z); tally = scored (f.score (first_units (f.row s z)) b) }))
  decided (enter_second k b) r s None = None
  decided (enter_second k b) r s (Some w) = Some (record { rejected = is_rejected r.verdict; units = first_units (f.row s w.size) + second_units (f.row s w.size); tally = added w.first (scored (f.score (second_units (f.row s w.size)) b)) })
  decided (hand_in k) r s w = None
  decided reissue r s w = None
  decided grant_relief r s w = None
  decided report_irregular r s w = None

  abbrev pub article : Event → List Event → Option Article
  article e h = elim e.answer [ Ok r ↦ decided e.call r (status h) (waiting h) | Err x ↦ None ]

  abbrev pub with_article : List Article → Option Article → List Article
  with_article xs None = xs
  with_article xs (Some a) = xs ++ a ∷ []

  -- the articles since the last change of status, the changing one left out, oldest first
  abbrev pub spell : List Event → List Article
  spell [] = []
  spell (e ∷ h) = cond (same_status (status (e ∷ h)) (status h)) (with_article (spell h) (article e h)) []

  abbrev pub period_after : Call → Option ℕ → Option ℕ
  period_after open_period n = Some 0
  period_after (enter_portion b) None = None
  period_after (enter_portion b) (Some n) = Some (n + 1)
  period_after end_period n = None
  period_after (enter_lot z b) n = n
  period_after (enter_second k b) n = n
  period_after (hand_in k) n = n
  period_after reissue n = n
  period_after grant_relief n = n
  period_after report_irregular n = n

  -- the portions of the open period, where one is open
  abbrev pub period : List Event → Option ℕ
  period [] = None
  period (e ∷ h) = elim e.answer [ Ok r ↦ period_after e.call (period h) | Err x ↦ period h ]

  abbrev pub opens : Call → Bool
  opens open_period = true
  opens (enter_portion b) = false
  opens end_period = false
  opens (enter_lot z b) = false
  opens (enter_second k b) = false
  opens (hand_in k) = false
  opens reissue = false
  opens grant_relief = false
  opens report_irregular = false

  abbrev pub portion_of : Call → Status → List Tally
  portion_of open_period s = []
  portion_of (enter_portion b) s = scored (f.score (portion_units s) b) ∷ []
  portion_of end_period s = []
  portion_of (enter_lot z b) s = []
  portion_of (enter_second k b) s = []
  portion_of (hand_in k) s = []
  portion_of reissue s = []
  portion_of grant_relief s = []
  portion_of report_irregular s = []

  -- the portions of the present period and spell, oldest first
  abbrev pub stretch : List Event → List Tally
  stretch [] = []
  stretch (e ∷ h) = elim e.answer [ Ok r ↦ cond (same_status r.status (status h)) (cond (opens e.call) [] (stretch h ++ portion_of e.call (status h))) [] | Err x ↦ stretch h ]

  abbrev pub slip_after : Call → Reply → Bool → Bool
  slip_after open_period r o = o
  slip_after (enter_portion b) r o = o
  slip_after end_period r o = o
  slip_after (enter_lot z b) r o = cond (is_some r.slip) true o
  slip_after (enter_second k b) r o = false
  slip_after (hand_in k) r o = false
  slip_after reissue r o = true
  slip_after grant_relief r o = o
  slip_after report_irregular r o = o

  abbrev pub slip_is_out : List Event → Bool
  slip_is_out [] = false
  slip_is_out (e ∷ h) = elim e.answer [ Ok r ↦ slip_after e.call r (slip_is_out h) | Err x ↦ slip_is_out h ]

  abbrev pub no_room : List Event → Bool
  no_room h = nat_le f.room (count h)

  abbrev pub is_number : ℕ → Option Waiting → Bool
  is_number k None = false
  is_number k (Some w) = k == w.number

  abbrev pub awaits : ℕ → List Event → Bool
  awaits k h = cond (slip_is_out h) (is_number k (waiting h)) false

  abbrev pub last_window : List Event → List Article
  last_window h = drop (length (spell h) - f.window) (spell h)

  abbrev pub waited_size : Option Waiting → ℕ
  waited_size None = 0
  waited_size (Some w) = w.size

  -- whether and how a call is refused after the history h
  abbrev pub refusal : List Event → Call → Option Refusal
  refusal h open_period = first ((is_some (period h), PeriodOpenAlready) ∷ (no_room h, NoRoom) ∷ []) None
  refusal h (enter_portion b) = first ((not (is_some (period h)), NoPeriodOpen) ∷ (no_room h, NoRoom) ∷ []) (fault (f.score (portion_units (status h)) b))
  refusal h end_period = first ((not (is_some (period h)), NoPeriodOpen) ∷ (no_room h, NoRoom) ∷ []) None
  refusal h (enter_lot z b) = first ((is_some (waiting h), LotAwaits) ∷ (no_room h, NoRoom) ∷ (not (is_some (f.row (status h) z)), LotSizeOutOfRange) ∷ []) (fault (f.score (first_units (f.row (status h) z)) b))
  refusal h (enter_second k b) = first ((not (awaits k h), NoLotAwaits) ∷ (no_room h, NoRoom) ∷ []) (fault (f.score (second_units (f.row (status h) (waited_size (waiting h)))) b))
  refusal h (hand_in k) = first ((not (awaits k h), NoLotAwaits) ∷ []) None
  refusal h reissue = first ((not (is_some (waiting h)), NoLotAwaits) ∷ (slip_is_out h, SlipIsOut) ∷ []) None
  refusal h grant_relief = first ((is_some (waiting h), LotAwaits) ∷ (no_room h, NoRoom) ∷ (not (same_status (status h) Normal), ReliefOffNormal) ∷ (nat_lt (length (spell h)) f.window, SpellTooShort) ∷ (nat_lt f.most_rejected (rejections (verdicts (last_window h))), TooManyRejected) ∷ (not (is_some (f.limits (units_of (last_window h)))), TooFewUnits) ∷ (above (last_window h) (f.limits (units_of (last_window h))), DefectsAboveLimit) ∷ []) None
  refusal h report_irregular = first ((is_some (waiting h), LotAwaits) ∷ (no_room h, NoRoom) ∷ (not (same_status (status h) Reduced), NoticeOffReduced) ∷ []) None
