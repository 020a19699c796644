-- What a call comes to, in the steps that the code takes.
use Rattle.std.specs.Prelude.{◌≡◌, ℕ, ◌+◌, Bool, true, cond, not, List, [], ◌∷◌, length, is_err, is_some, Some, None, Ok, Err, Option, Result, nat_le}
use Rattle.inspection.specs.declared.refusal.Refusal.{Refusal}
use Rattle.inspection.specs.declared.refusal.Refusal.TheVariants.{NoPeriodOpen, LotAwaits, NoLotAwaits, LotSizeOutOfRange, NoRoom, BookUnsound}
use Rattle.inspection.specs.declared.kind.Kind.{Kind}
use Rattle.inspection.specs.declared.kind.Kind.TheVariants as kind
use Rattle.inspection.specs.declared.tally.Tally.{Tally}
use Rattle.inspection.specs.declared.verdict.Verdict.{Verdict}
use Rattle.inspection.specs.declared.status.Status.{Status}
use Rattle.inspection.specs.declared.verdict.Verdict.TheVariants.{Awaited, Undecided}
use Rattle.line.specs.declared.line.Line.{Line}
use Rattle.line.specs.declared.sample.Sample.{Sample}
use Rattle.runs.specs.declared.standing.Taken.{Taken}
use Rattle.entries.specs.declared.entry.Entry.{Entry}
use Rattle.books.specs.Books.{refusal, answered}
use Rattle.regimes.specs.Rules.{Rules}
use Rattle.runs.specs.Writing.{sheet_score}
use Rattle.runs.specs.declared.standing.Reply.{Reply}
use Rattle.runs.specs.declared.standing.Standing.{Standing}
use Rattle.runs.specs.History.{Call, first, no_defects, is_awaited, is_rejected}
use Rattle.runs.specs.Lines.{awaiting, after_article, turned_to, told, bare, Outcome, refuses, takes, settled, step, sample, or_zero, has_slip, due_size}

-- answer, standing, entries and room after a call are the defined ones
abbrev pub ComesTo : {C : Type 0} → Outcome C → Result Reply Refusal → Standing C → List Entry → ℕ → Type 0
ComesTo o a st es n = (a ≡ o.answer) × (st ≡ o.standing) × (es ≡ o.entries) × (n ≡ o.room)

-- a call's step on a line: the answer, the standing and the book after it are the defined ones, the regime stays, and a refusal leaves the whole line as it was
pub record Does {R B C : Type 0} (entries : B → List Entry) (room : B → ℕ) (step : Standing C → List Entry → ℕ → Outcome C) (before : Line R B C) (answer : Result Reply Refusal) (after : Line R B C) : Type 0 where
  pub call : ComesTo (step before.standing (entries before.book) (room before.book)) answer after.standing (entries after.book) (room after.book)
  pub same : is_err answer ≡ true → after ≡ before
  pub regime : after.regime ≡ before.regime

-- the same of a call by rules, with sheets scored as the worksheet does
abbrev pub DoesCall : {R B C : Type 0} → (B → List Entry) → (B → ℕ) → Rules C → Call → Line R B C → Result Reply Refusal → Line R B C → Type 0
DoesCall entries room r c before answer after = Does entries room (step r sheet_score c) before answer after

module _ {C : Type 0} (r : Rules C) (c : Call) (st : Standing C) (es : List Entry) where
  -- whether rules let the call pass, with so much room
  abbrev pub checked : ℕ → Result (Unit {0}) Refusal
  checked n = answered (refuses r sheet_score c st es n)

  -- what it comes to where they do
  abbrev pub taken_by : Taken C
  taken_by = takes r sheet_score c st es

-- what a book refuses to write
abbrev pub add_refusal : ℕ → Option Entry → Option Refusal
add_refusal n None = None
add_refusal n (Some e) = refusal n e

-- a call that no rule refuses, as the book takes its entry
abbrev pub booked : {C : Type 0} → Taken C → Standing C → List Entry → ℕ → Outcome C
booked k st es n = settled (add_refusal n k.writes) k st es n

-- so many units, unless one of the refusals holds
abbrev pub units_unless : Option Refusal → ℕ → Result ℕ Refusal
units_unless None u = Ok u
units_unless (Some x) u = Err x

-- an unsound book refuses everything
abbrev pub unsound_refusal : Option ℕ → Option Refusal
unsound_refusal None = None
unsound_refusal (Some k) = Some (BookUnsound k)

module _ {C : Type 0} (r : Rules C) (st : Standing C) (n : ℕ) where
  abbrev pub if_sound : Option Refusal → Option Refusal
  if_sound o = elim st.unsound [ Some k ↦ Some (BookUnsound k) | None ↦ o ]

  -- the units of the sample that a portion's sheet, a lot's or a second sample's is about, or what refuses the call before its sheet is looked at
  abbrev pub portion_sample : Result ℕ Refusal
  portion_sample =
      units_unless (if_sound (first ((not (is_some st.period), NoPeriodOpen) ∷ (nat_le n 0, NoRoom) ∷ (not (is_some (sample r st 0)), LotSizeOutOfRange) ∷ []) None)) (or_zero (sample r st 0))

  abbrev pub lot_sample : ℕ → Result ℕ Refusal
  lot_sample z =
      units_unless (if_sound (first ((is_some st.waiting, LotAwaits) ∷ (nat_le n 0, NoRoom) ∷ (not (is_some (sample r st z)), LotSizeOutOfRange) ∷ []) None)) (or_zero (sample r st z))

  abbrev pub second_sample : ℕ → Result ℕ Refusal
  second_sample k =
      units_unless
      (if_sound (first ((not (has_slip k st.waiting), NoLotAwaits) ∷ (nat_le n 0, NoRoom) ∷ (not (is_some (sample r st (due_size st.waiting))), LotSizeOutOfRange) ∷ []) None))
      (or_zero (sample r st (due_size st.waiting)))

abbrev pub without_lot : {C : Type 0} → Standing C → Standing C
without_lot st = record st { waiting = None }

-- the entry of a sample and the judge's new numbers, by what the judge answered
abbrev pub judged_entry : {C : Type 0} → Kind → ℕ → Sample → Verdict × C → Standing C → Entry × C
judged_entry k z a x st = (record { kind = k; status = st.status; verdict = x.0; lot_size = z; units = a.units; tally = a.tally }, x.1)

module _ {C : Type 0} (r : Rules C) where
  -- the standing after an article that was rejected or not
  abbrev pub article_noted : Standing C → List Entry → Bool → C → Standing C
  article_noted st es rejected c =
      after_article r st es (record { rejected = rejected; units = 0; tally = no_defects }) st.period st.waiting c

  abbrev pub turned_by : Kind → Status → Standing C → Taken C
  turned_by k s st = record { reply = told Undecided s None; standing = turned_to r s st; writes = Some (bare k st.status Undecided) }

  -- a lot's first sample, and the lot answered W among such
  abbrev pub lot_awaited : ℕ → C → Option Entry → Standing C → List Entry → Taken C
  lot_awaited z c writes st es =
      record { reply = told Awaited st.status (Some (length es + 1)); standing = awaiting (length es + 1) z c st; writes = writes }

  -- a lot judged by the entry, of which the article is rejected or not; nothing waits after it
  abbrev pub lot_decided : Entry → C → Standing C → List Entry → Taken C
  lot_decided e c st es =
      let noted = article_noted st es (is_rejected e.verdict) c in
      record { reply = told e.verdict noted.status None; standing = without_lot noted; writes = Some e }

  abbrev pub lot_judged_at : ℕ → ℕ → Tally → Verdict × C → Standing C → List Entry → Taken C
  lot_judged_at z u t x st es =
      let entry : Entry = record { kind = kind.Lot; status = st.status; verdict = x.0; lot_size = z; units = u; tally = t } in
      cond (is_awaited x.0) (lot_awaited z x.1 (Some entry) st es) (lot_decided entry x.1 st es)

  abbrev pub lot_taken_at : ℕ → ℕ → Tally → Standing C → List Entry → Taken C
  lot_taken_at z u t st es = lot_judged_at z u t (r.judged st.status z t st.carried) st es

  -- a second sample of the waiting lot
  abbrev pub second_judged_at : ℕ → Tally → Verdict × C → Standing C → List Entry → Taken C
  second_judged_at u t x st es =
      lot_decided (record { kind = kind.SecondSample; status = st.status; verdict = x.0; lot_size = due_size st.waiting; units = u; tally = t }) x.1 st es

  abbrev pub second_taken_at : ℕ → Tally → Standing C → List Entry → Taken C
  second_taken_at u t st es = second_judged_at u t (r.judged st.status (due_size st.waiting) t st.carried) st es
