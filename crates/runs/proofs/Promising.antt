-- The promises, for both kinds of line.
use Rattle.std.proofs.Common.{◌≡◌, ℕ, Bool, true, false, cond, leb, List, IfSome, Some, None, vec_items, Option, sym, refl, ap, ◌∙◌}
use Rattle.inspection.specs.declared.status.Status.{Status}
use Rattle.inspection.specs.declared.tally.Tally.{Tally}
use Rattle.plans.proofs.Found.{last_kept, rows_kept}
use Rattle.plans.specs.Finding.{row_fits, row_for}
use Rattle.plans.specs.Plans.{lot_row_kept}
use Rattle.plans.specs.declared.plan_book.PlanBook.{PlanBook}
use Rattle.plans.specs.declared.rows.LotRow.{LotRow}
use Rattle.regimes.specs.Lots.{row_of_lot}
use Rattle.regimes.specs.Portions.{on_line_rules}
use Rattle.regimes.specs.Rules.{Rules}
use Rattle.regimes.specs.Portions.{Values}
use Rattle.runs.specs.Earned.{Earned}
use Rattle.runs.specs.History.{Fixed, slip_is_out}
use Rattle.runs.specs.Lines.{is_out}
use Rattle.runs.specs.Promises.{on_line, stationary, OfEveryLine, AtEachCall, RefusedAsRuled, AnsweredAsRuled, RejectedOnOverrun, TurnedAsRuled, OfEachRun, BooksTheAccepted, TakenUp, Settled, GoesOnEarned, SetOnABook, Promised}
use Rattle.runs.specs.Runs.{Run}
use Rattle.runs.specs.Setting.{Shows}
use Rattle.runs.specs.Writing.{sheet_score, plan_rules}
use Rattle.runs.proofs.Books.{sound_exactly, first_unsound, unsound_refuses}
use Rattle.runs.proofs.Lots.{earned_lots}
use Rattle.runs.proofs.OnLine.{earned_on_line}
use Rattle.runs.proofs.Replay.{stands_on_its_book, goes_on_alike}
use Rattle.runs.proofs.SetEarned.{set_earned_on_line, set_earned_lots}
use Rattle.runs.proofs.Settles.{earned_settles}
use Rattle.runs.proofs.Writing.{scores_bounded, sheets_show}

-- the row of a lot keeps the bounds of its plan book
row_kept : (p : PlanBook) (s : Status) (size : ℕ) (w : LotRow) → row_of_lot s size (vec_items p.lots) ≡ Some w → lot_row_kept w ≡ true
row_kept p s size w e = by (leb size 9999999) (row_for s size rows) (last_kept (row_fits s size) lot_row_kept rows (rows_kept rows (vec_items p.limits) p.kept)) e
  where
    rows : List LotRow
    rows = vec_items p.lots

    found : (o : Option LotRow) → IfSome o (λ r. lot_row_kept r ≡ true) → o ≡ Some w → lot_row_kept w ≡ true
    found None k e = cc
    found (Some r) k e = let same : r ≡ w = cc in ap lot_row_kept (sym same) ∙ k

    by : (t : Bool) (o : Option LotRow) → IfSome o (λ r. lot_row_kept r ≡ true) → cond t o None ≡ Some w → lot_row_kept w ≡ true
    by true o k e = found o k e
    by false o k e = cc

-- every run is earned, and its line's slip is out where the calls and answers tell so
abbrev RunEarned : (C : Type 0) → Rules C → (ℕ → Fixed) → ℕ → Run C → Type 0
RunEarned C r fixed room x = Earned (fixed room) x.events x.entries x.room × (is_out x.standing.waiting ≡ slip_is_out (fixed room) x.events)

runs_earned : OfEveryLine (OfEachRun RunEarned)
runs_earned = (
  (λ room few calls sv. earned_on_line sheet_score room few calls sv),
  (λ p room few calls sv. earned_lots (λ s size. row_of_lot s size (vec_items p.lots)) (plan_rules p).limits (row_kept p) sheet_score room few calls sv),
)

module _ (C : Type 0) (r : Rules C) (fixed : ℕ → Fixed) (earned : OfEachRun RunEarned C r fixed) where
  refused : AtEachCall RefusedAsRuled C r fixed
  refused room few calls sv later earlier e q = (earned room few calls sv).0.refused_exactly later earlier e q

  answered : AtEachCall AnsweredAsRuled C r fixed
  answered room few calls sv later earlier e q y w = (earned room few calls sv).0.answered_as_ruled later earlier e y q w

  rejected : AtEachCall RejectedOnOverrun C r fixed
  rejected room few calls sv later earlier e q y b c w = (earned room few calls sv).0.portions_earned later earlier e y b q c w

  turned : AtEachCall TurnedAsRuled C r fixed
  turned room few calls sv later earlier e q y w = (earned room few calls sv).0.status_turned_exactly later earlier e y q w

  booked : ((room : ℕ) → (fixed room).room ≡ room) → OfEachRun BooksTheAccepted C r fixed
  booked is room few calls sv = let x = (earned room few calls sv).0 in (x.book_holds_the_accepted, x.room_is_what_is_left ∙ is room)

  taken_up : OfEachRun TakenUp C r fixed
  taken_up room few calls sv =
      record {
        stands_again = stands_on_its_book r sheet_score scores_bounded room calls sv;
        answers_alike = λ none more. goes_on_alike r sheet_score scores_bounded room calls more sv ((earned room few calls sv).1 ∙ none);
      }

  promised : OfEachRun Promised C r fixed
  promised room few calls sv = record { earned = (earned room few calls sv).0; taken_up = taken_up room few calls sv }

  set_on_a_book : Shows r sheet_score → SetOnABook C r fixed
  set_on_a_book shows = record { sound_exactly = sound_exactly r sheet_score scores_bounded shows; number_of_the_first = first_unsound r; unsound_refuses = unsound_refuses r sheet_score }

pub every_refused : OfEveryLine (AtEachCall RefusedAsRuled)
every_refused = (refused Values on_line_rules on_line runs_earned.0, (λ p. refused (Option Tally) (plan_rules p) (stationary p) (runs_earned.1 p)))

pub every_answered : OfEveryLine (AtEachCall AnsweredAsRuled)
every_answered = (answered Values on_line_rules on_line runs_earned.0, (λ p. answered (Option Tally) (plan_rules p) (stationary p) (runs_earned.1 p)))

pub every_rejected : OfEveryLine (AtEachCall RejectedOnOverrun)
every_rejected = (rejected Values on_line_rules on_line runs_earned.0, (λ p. rejected (Option Tally) (plan_rules p) (stationary p) (runs_earned.1 p)))

pub every_turned : OfEveryLine (AtEachCall TurnedAsRuled)
every_turned = (turned Values on_line_rules on_line runs_earned.0, (λ p. turned (Option Tally) (plan_rules p) (stationary p) (runs_earned.1 p)))

pub every_booked : OfEveryLine (OfEachRun BooksTheAccepted)
every_booked = (booked Values on_line_rules on_line runs_earned.0 (λ room. refl), (λ p. booked (Option Tally) (plan_rules p) (stationary p) (runs_earned.1 p) (λ room. refl)))

pub every_taken_up : OfEveryLine (OfEachRun TakenUp)
every_taken_up = (taken_up Values on_line_rules on_line runs_earned.0, (λ p. taken_up (Option Tally) (plan_rules p) (stationary p) (runs_earned.1 p)))

pub every_promised : OfEveryLine (OfEachRun Promised)
every_promised = (promised Values on_line_rules on_line runs_earned.0, (λ p. promised (Option Tally) (plan_rules p) (stationary p) (runs_earned.1 p)))

pub every_book : OfEveryLine SetOnABook
every_book = (
  set_on_a_book Values on_line_rules on_line runs_earned.0 sheets_show.0,
  (λ p. set_on_a_book (Option Tally) (plan_rules p) (stationary p) (runs_earned.1 p) (sheets_show.1 p)),
)

pub every_settled : OfEveryLine Settled
every_settled = (
  (λ room. earned_settles.0 sheet_score room),
  (λ p room. earned_settles.1 (λ s size. row_of_lot s size (vec_items p.lots)) (plan_rules p).limits sheet_score room),
)

pub every_set_on : OfEveryLine GoesOnEarned
every_set_on = (
  (λ es room few sd. set_earned_on_line sheet_score sheets_show.0 es room few sd),
  (λ p es room few sd. set_earned_lots (λ s size. row_of_lot s size (vec_items p.lots)) (plan_rules p).limits (row_kept p) sheet_score (sheets_show.1 p) es room few sd),
)
