-- What a line does with a call, written once for any kind C of carried numbers. A call looks at the line's standing, the entries of its book
-- and the book's room, and at nothing else.
use Rattle.std.specs.Prelude.{ℕ, ◌+◌, ◌-◌, min, Bool, true, false, cond, not, List, [], ◌∷◌, ◌++◌, length, drop, is_some, Some, None, Ok, Err, Option, Result, ◌==◌, nat_le, nat_lt}
use Rattle.inspection.specs.declared.status.Status.{Status}
use Rattle.inspection.specs.declared.status.Status.TheVariants.{Normal, Reduced}
use Rattle.inspection.specs.declared.verdict.Verdict.{Verdict}
use Rattle.inspection.specs.declared.verdict.Verdict.TheVariants.{Full, Brief, Undecided}
use Rattle.inspection.specs.declared.kind.Kind.{Kind}
use Rattle.inspection.specs.declared.kind.Kind.TheVariants as kind
use Rattle.inspection.specs.declared.tally.Tally.{Tally}
use Rattle.entries.specs.declared.entry.Entry.{Entry}
use Rattle.inspection.specs.declared.refusal.Refusal.{Refusal}
use Rattle.inspection.specs.declared.refusal.Refusal.TheVariants.{NoPeriodOpen, PeriodOpenAlready, LotAwaits, NoLotAwaits, SlipIsOut, LotSizeOutOfRange, ReliefOffNormal, SpellTooShort, TooManyRejected, TooFewUnits, DefectsAboveLimit, NoticeOffReduced, NoRoom, BookUnsound}
use Rattle.runs.specs.Spells.{rejections, turned}
use Rattle.regimes.specs.Rules.{Rules}
use Rattle.runs.specs.declared.standing.Standing.{Standing}
use Rattle.runs.specs.declared.standing.Taken.{Taken}
use Rattle.runs.specs.declared.standing.WaitingLot.{WaitingLot}
use Rattle.runs.specs.Spells.{breaks}
use Rattle.inspection.specs.Statuses.{same_status}
use Rattle.regimes.specs.Lots.{added}
use Rattle.runs.specs.declared.standing.Reply.{Reply}
use Rattle.runs.specs.History.{Call, open_period, enter_portion, end_period, enter_lot, enter_second, hand_in, reissue, grant_relief, report_irregular, Article, no_defects, scored, is_awaited, is_rejected, first, fault, verdicts, units_of, above}

-- what any call comes to
pub record Outcome (C : Type 0) : Type 0 where
  pub answer : Result Reply Refusal
  pub standing : Standing C
  pub entries : List Entry
  pub room : ℕ

-- the articles that entries tell of, oldest first. A lot whose first sample was answered W is one article with its second sample, with the
-- units and the tallies of both
pub record Sample : Type 0 where
  pub units : ℕ
  pub tally : Tally

pub record Reading : Type 0 where
  pub articles : List Article
  pub first_sample : Option Sample

abbrev pub sole : Entry → Article
sole e = record { rejected = is_rejected e.verdict; units = e.units; tally = e.tally }

abbrev pub both : Option Sample → Entry → List Article → Reading
both None e xs = record { articles = xs; first_sample = None }
both (Some a) e xs = record { articles = xs ++ record { rejected = is_rejected e.verdict; units = a.units + e.units; tally = added a.tally e.tally } ∷ []; first_sample = None }

abbrev pub read_by : Kind → Entry → Reading → Reading
read_by kind.PeriodOpened e x = x
read_by kind.Portion e x = record { articles = x.articles ++ sole e ∷ []; first_sample = x.first_sample }
read_by kind.PeriodEnded e x = x
read_by kind.Lot e x = cond (is_awaited e.verdict) (record { articles = x.articles; first_sample = Some (record { units = e.units; tally = e.tally }) }) (record { articles = x.articles ++ sole e ∷ []; first_sample = None })
read_by kind.SecondSample e x = both x.first_sample e x.articles
read_by kind.Relief e x = x
read_by kind.IrregularNotice e x = x
read_by kind.Spoiled e x = x

abbrev pub reading_on : Reading → List Entry → Reading
reading_on x [] = x
reading_on x (e ∷ es) = reading_on (read_by e.kind e x) es

abbrev pub reading : List Entry → Reading
reading es = reading_on (record { articles = []; first_sample = None }) es

abbrev pub articles : List Entry → List Article
articles es = (reading es).articles

-- the last n articles, or all where there are fewer
abbrev pub last_articles : ℕ → List Article → List Article
last_articles n xs = drop (length xs - n) xs

abbrev pub or_zero : Option ℕ → ℕ
or_zero None = 0
or_zero (Some n) = n

abbrev pub due_size : Option WaitingLot → ℕ
due_size None = 0
due_size (Some l) = l.size

abbrev pub due_number : Option WaitingLot → ℕ
due_number None = 0
due_number (Some l) = l.number

abbrev pub slip_of : Option WaitingLot → Option ℕ
slip_of None = None
slip_of (Some l) = Some l.number

-- whether the waiting lot's slip is out, and whether it is out under the number k
abbrev pub is_out : Option WaitingLot → Bool
is_out None = false
is_out (Some l) = l.slip_out

abbrev pub has_slip : ℕ → Option WaitingLot → Bool
has_slip k None = false
has_slip k (Some l) = cond l.slip_out (k == l.number) false

-- the waiting lot, where one waits, with its slip out or not
abbrev pub slip_moved : Bool → Option WaitingLot → Option WaitingLot
slip_moved o None = None
slip_moved o (Some l) = Some (record l { slip_out = o })

abbrev pub fullness : Option ℕ → Verdict
fullness None = Brief
fullness (Some n) = cond (nat_le 6 n) Full Brief

-- a count goes on as far as 32 bits do, and no book has so many entries
abbrev pub counted_on : ℕ → ℕ
counted_on n = min (n + 1) 4294967295

abbrev pub one_more : Option ℕ → Option ℕ
one_more None = None
one_more (Some n) = Some (counted_on n)

-- an entry with no numbers
abbrev pub bare : Kind → Status → Verdict → Entry
bare k s v = record { kind = k; status = s; verdict = v; lot_size = 0; units = 0; tally = no_defects }

-- the answer of an accepted call
abbrev pub told : Verdict → Status → Option ℕ → Reply
told v s o = record { verdict = v; status = s; slip = o }

abbrev pub sample_units : Option Sample → ℕ
sample_units None = 0
sample_units (Some a) = a.units

abbrev pub sample_tally : Option Sample → Tally
sample_tally None = no_defects
sample_tally (Some a) = a.tally

-- the book after a call that writes an entry or none
abbrev pub put : Option Entry → List Entry → List Entry
put None es = es
put (Some e) es = es ++ e ∷ []

abbrev pub left : Option Entry → ℕ → ℕ
left None n = n
left (Some e) n = n - 1

module _ {C : Type 0} where
  abbrev pub with_slip : Bool → Standing C → Standing C
  with_slip o st = record st { waiting = slip_moved o st.waiting }

  abbrev pub in_period : Option ℕ → C → Standing C → Standing C
  in_period p c st = record st { period = p; carried = c }

  -- a lot's first sample is answered W: the lot waits under its entry number, and its slip is out
  abbrev pub awaiting : ℕ → ℕ → C → Standing C → Standing C
  awaiting n z c st = record st { waiting = Some (record { number = n; size = z; slip_out = true }); carried = c }

  abbrev pub settled : Option Refusal → Taken C → Standing C → List Entry → ℕ → Outcome C
  settled (Some x) k st es n = record { answer = Err x; standing = st; entries = es; room = n }
  settled None k st es n = record { answer = Ok k.reply; standing = k.standing; entries = put k.writes es; room = left k.writes n }

module _ {C : Type 0} (r : Rules C) where
  -- the articles of the present spell
  abbrev pub in_spell : Standing C → List Entry → List Article
  in_spell st es = last_articles st.spell (articles es)

  -- the articles that relief looks at
  abbrev pub in_window : Standing C → List Entry → List Article
  in_window st es = last_articles r.window (in_spell st es)

  -- the units of the sample that the next sheet is about
  abbrev pub sample : Standing C → ℕ → Option ℕ
  sample st z = r.units st.status z st.carried

  -- whether the new article breaks the rule of the spell
  abbrev pub turns : Standing C → List Entry → Article → Bool
  turns st es a = breaks r.window r.most_rejected st.status (verdicts (in_spell st es)) a.rejected

  abbrev pub status_then : Standing C → List Entry → Article → Status
  status_then st es a = cond (turns st es a) (turned st.status) st.status

  -- the standing after the article a, with the period, the waiting lot and the judge's new numbers as given
  abbrev pub after_article : Standing C → List Entry → Article → Option ℕ → Option WaitingLot → C → Standing C
  after_article st es a p w c = record {
    status = status_then st es a;
    spell = cond (turns st es a) 0 (counted_on st.spell);
    period = p;
    waiting = w;
    carried = cond (turns st es a) (r.starts (turned st.status)) c;
    unsound = st.unsound;
  }

  -- the status turned by relief or notice
  abbrev pub turned_to : Status → Standing C → Standing C
  turned_to s st = record st { status = s; spell = 0; carried = r.starts s }

  -- a portion of u units with the tally t, and the judge's verdict and new numbers
  abbrev pub portion_taken : ℕ → Tally → Verdict × C → Standing C → List Entry → Taken C
  portion_taken u t x st es =
      let a : Article = record { rejected = is_rejected x.0; units = u; tally = t } in
      record {
        reply = told x.0 (status_then st es a) None;
        standing = after_article st es a (one_more st.period) st.waiting x.1;
        writes = Some (record { kind = kind.Portion; status = st.status; verdict = x.0; lot_size = 0; units = u; tally = t });
      }

  -- a lot's first sample
  abbrev pub lot_taken : ℕ → ℕ → Tally → Verdict × C → Standing C → List Entry → Taken C
  lot_taken z u t x st es =
      let a : Article = record { rejected = is_rejected x.0; units = u; tally = t } in
      record {
        reply = cond (is_awaited x.0) (told x.0 st.status (Some (length es + 1))) (told x.0 (status_then st es a) None);
        standing = cond (is_awaited x.0) (awaiting (length es + 1) z x.1 st) (after_article st es a st.period None x.1);
        writes = Some (record { kind = kind.Lot; status = st.status; verdict = x.0; lot_size = z; units = u; tally = t });
      }

  -- its second sample, y being its first one; the article has both
  abbrev pub second_taken : ℕ → ℕ → Tally → Verdict × C → Option Sample → Standing C → List Entry → Taken C
  second_taken z u t x y st es =
      let a : Article = record { rejected = is_rejected x.0; units = sample_units y + u; tally = added (sample_tally y) t } in
      record {
        reply = told x.0 (status_then st es a) None;
        standing = after_article st es a st.period None x.1;
        writes = Some (record { kind = kind.SecondSample; status = st.status; verdict = x.0; lot_size = z; units = u; tally = t });
      }

  module _ (score : ℕ → List ℕ → Result Tally Refusal) where
    -- the refusal of a call on a sound book. A portion always has units, and so has a lot that waits, since its first sample was taken on the
    -- same status: for these the test of the units never refuses
    abbrev pub refuses_sound : Call → Standing C → List Entry → ℕ → Option Refusal
    refuses_sound open_period st es n = first ((is_some st.period, PeriodOpenAlready) ∷ (nat_le n 0, NoRoom) ∷ []) None
    refuses_sound (enter_portion b) st es n = first ((not (is_some st.period), NoPeriodOpen) ∷ (nat_le n 0, NoRoom) ∷ (not (is_some (sample st 0)), LotSizeOutOfRange) ∷ []) (fault (score (or_zero (sample st 0)) b))
    refuses_sound end_period st es n = first ((not (is_some st.period), NoPeriodOpen) ∷ (nat_le n 0, NoRoom) ∷ []) None
    refuses_sound (enter_lot z b) st es n = first ((is_some st.waiting, LotAwaits) ∷ (nat_le n 0, NoRoom) ∷ (not (is_some (sample st z)), LotSizeOutOfRange) ∷ []) (fault (score (or_zero (sample st z)) b))
    refuses_sound (enter_second k b) st es n = first ((not (has_slip k st.waiting), NoLotAwaits) ∷ (nat_le n 0, NoRoom) ∷ (not (is_some (sample st (due_size st.waiting))), LotSizeOutOfRange) ∷ []) (fault (score (or_zero (sample st (due_size st.waiting))) b))
    refuses_sound (hand_in k) st es n = first ((not (has_slip k st.waiting), NoLotAwaits) ∷ []) None
    refuses_sound reissue st es n = first ((not (is_some st.waiting), NoLotAwaits) ∷ (is_out st.waiting, SlipIsOut) ∷ []) None
    refuses_sound grant_relief st es n = first ((is_some st.waiting, LotAwaits) ∷ (nat_le n 0, NoRoom) ∷ (not (same_status st.status Normal), ReliefOffNormal) ∷ (nat_lt st.spell r.window, SpellTooShort) ∷ (nat_lt r.most_rejected (rejections (verdicts (in_window st es))), TooManyRejected) ∷ (not (is_some (r.limits (units_of (in_window st es)))), TooFewUnits) ∷ (above (in_window st es) (r.limits (units_of (in_window st es))), DefectsAboveLimit) ∷ []) None
    refuses_sound report_irregular st es n = first ((is_some st.waiting, LotAwaits) ∷ (nat_le n 0, NoRoom) ∷ (not (same_status st.status Reduced), NoticeOffReduced) ∷ []) None

    -- whether and how a call is refused; an unsound book refuses everything
    abbrev pub refuses : Call → Standing C → List Entry → ℕ → Option Refusal
    refuses c st es n = elim st.unsound [ Some k ↦ Some (BookUnsound k) | None ↦ refuses_sound c st es n ]

    -- what a call comes to where it is not refused
    abbrev pub takes : Call → Standing C → List Entry → Taken C
    takes open_period st es = record { reply = told Undecided st.status None; standing = in_period (Some 0) (r.starts st.status) st; writes = Some (bare kind.PeriodOpened st.status Undecided) }
    takes (enter_portion b) st es =
        let t = scored (score (or_zero (sample st 0)) b) in
        portion_taken (or_zero (sample st 0)) t (r.judged st.status 0 t st.carried) st es
    takes end_period st es = record { reply = told (fullness st.period) st.status None; standing = in_period None st.carried st; writes = Some (bare kind.PeriodEnded st.status (fullness st.period)) }
    takes (enter_lot z b) st es =
        let t = scored (score (or_zero (sample st z)) b) in
        lot_taken z (or_zero (sample st z)) t (r.judged st.status z t st.carried) st es
    takes (enter_second k b) st es =
        let z = due_size st.waiting in
        let t = scored (score (or_zero (sample st z)) b) in
        second_taken z (or_zero (sample st z)) t (r.judged st.status z t st.carried) (reading es).first_sample st es
    takes (hand_in k) st es = record { reply = told Undecided st.status None; standing = with_slip false st; writes = None }
    takes reissue st es = record { reply = told Undecided st.status (slip_of st.waiting); standing = with_slip true st; writes = None }
    takes grant_relief st es = record { reply = told Undecided Reduced None; standing = turned_to Reduced st; writes = Some (bare kind.Relief st.status Undecided) }
    takes report_irregular st es = record { reply = told Undecided Normal None; standing = turned_to Normal st; writes = Some (bare kind.IrregularNotice st.status Undecided) }

    abbrev pub step : Call → Standing C → List Entry → ℕ → Outcome C
    step c st es n = settled (refuses c st es n) (takes c st es) st es n
