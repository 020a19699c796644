-- What is promised of every portion and every lot, over the definitions of this folder.
use Rattle.std.specs.Prelude.{◌≡◌, ℕ, ◌+◌, ◌<◌, ◌≤◌, true, ◌↔◌, List, length, Some, None, ◌≢◌, slice_index_or}
use Rattle.inspection.specs.declared.status.Status.{Status}
use Rattle.inspection.specs.declared.tally.Tally.{Tally}
use Rattle.inspection.specs.declared.verdict.Verdict.{Verdict}
use Rattle.inspection.specs.declared.verdict.Verdict.TheVariants.{Accepted, Rejected, Awaited, Undecided}
use Rattle.plans.specs.Plans.{lot_row_kept}
use Rattle.plans.specs.declared.rows.LotRow.{LotRow}
use Rattle.inspection.specs.Classes.{count_of, at_class}
use Rattle.regimes.specs.Portions.{Values, cusum_of, portion_judged, values_after, verdicts_of}
use Rattle.regimes.specs.Lots.{lot_judged}
use Rattle.regimes.specs.Rows.{JudgedByRows}
use Rattle.inspection.specs.declared.class.JudgedClass.{JudgedClass}

abbrev pub StartsWithin : Type 0
StartsWithin = (c : JudgedClass) (s : Status) → (cusum_of c s).start ≤ (cusum_of c s).limit

abbrev pub AllJudgedByRows : Type 0
AllJudgedByRows = (s : Status) (tallies : List Tally) → JudgedByRows s tallies (verdicts_of s tallies)

-- after any portion from any values, and so all through a stretch
pub record ValuesWithin : Type 0 where
  pub after_a_portion : (s : Status) (t : Tally) (v : Values) (c : JudgedClass) → at_class (portion_judged s t v).1 c ≤ (cusum_of c s).limit
  pub in_a_stretch : (s : Status) (tallies : List Tally) (c : JudgedClass) → at_class (values_after s tallies) c ≤ (cusum_of c s).limit

-- a first sample within the accepted numbers of a row, and at the rejected number of some class
abbrev pub AllAccepted : LotRow → Tally → Type 0
AllAccepted r t = (c : JudgedClass) → count_of c t ≤ (at_class r.numbers c).accept_first

abbrev pub SomeRejected : LotRow → Tally → Type 0
SomeRejected r t = (c : JudgedClass) × ((at_class r.numbers c).reject_first ≤ count_of c t)

-- both samples together within the accepted numbers
abbrev pub BothAccepted : LotRow → Tally → Tally → Type 0
BothAccepted r first second = (c : JudgedClass) → count_of c first + count_of c second ≤ (at_class r.numbers c).accept_both

pub record FirstJudged (r : LotRow) (t : Tally) (v : Verdict) : Type 0 where
  pub accepts : (v ≡ Accepted) ↔ AllAccepted r t
  pub rejects : (v ≡ Rejected) ↔ SomeRejected r t
  pub awaits : (v ≡ Awaited) ↔ ((AllAccepted r t → ⊥) × (SomeRejected r t → ⊥))

pub record BothJudged (r : LotRow) (first second : Tally) (v : Verdict) : Type 0 where
  pub accepts : (v ≡ Accepted) ↔ BothAccepted r first second
  pub rejects : (v ≡ Rejected) ↔ (BothAccepted r first second → ⊥)

-- by a row that a plan book keeps
pub record JudgedByNumbers (r : LotRow) : Type 0 where
  pub first : (t : Tally) → FirstJudged r t (lot_judged (Some r) t None).0
  pub carried : (t : Tally) → (lot_judged (Some r) t None).0 ≡ Awaited → (lot_judged (Some r) t None).1 ≡ Some t
  pub not_carried : (t : Tally) → ((lot_judged (Some r) t None).0 ≢ Awaited) → (lot_judged (Some r) t None).1 ≡ None
  pub single_decides : r.first_sample ≡ r.total_sample → (t : Tally) → (lot_judged (Some r) t None).0 ≢ Awaited
  pub both : (a t : Tally) → BothJudged r a t (lot_judged (Some r) t (Some a)).0
  pub both_done : (a t : Tally) → (lot_judged (Some r) t (Some a)).1 ≡ None

abbrev pub AllJudgedByNumbers : Type 0
AllJudgedByNumbers = (r : LotRow) → lot_row_kept r ≡ true → JudgedByNumbers r

pub record NoMore (t u : Tally) : Type 0 where
  pub critical : t.critical ≤ u.critical
  pub major : t.major ≤ u.major
  pub minor : t.minor ≤ u.minor

abbrev pub NoHigher : Values → Values → Type 0
NoHigher v w = (c : JudgedClass) → at_class v c ≤ at_class w c

-- portion by portion
abbrev pub NoMoreEach : List Tally → List Tally → Type 0
NoMoreEach ts us = (length ts ≡ length us) × ((k : ℕ) (d : Tally) → k < length ts → NoMore (slice_index_or ts k d) (slice_index_or us k d))

-- where t has no more defects than u, and v is no higher than w
pub record MoreIsNoBetter : Type 0 where
  pub portions : (s : Status) (t u : Tally) (v w : Values) → NoMore t u → NoHigher v w → (portion_judged s t v).0 ≡ Rejected → (portion_judged s u w).0 ≡ Rejected
  pub values : (s : Status) (t u : Tally) (v w : Values) → NoMore t u → NoHigher v w → NoHigher (portion_judged s t v).1 (portion_judged s u w).1
  pub stretches : (s : Status) (ts us : List Tally) → NoMoreEach ts us → (k : ℕ) → k < length ts → slice_index_or (verdicts_of s ts) k Undecided ≡ Rejected → slice_index_or (verdicts_of s us) k Undecided ≡ Rejected
  pub first_rejected : (r : LotRow) (t u : Tally) → NoMore t u → (lot_judged (Some r) t None).0 ≡ Rejected → (lot_judged (Some r) u None).0 ≡ Rejected
  pub first_accepted : (r : LotRow) (t u : Tally) → NoMore t u → (lot_judged (Some r) u None).0 ≡ Accepted → (lot_judged (Some r) t None).0 ≡ Accepted
  pub both_rejected : (r : LotRow) (a b t u : Tally) → NoMore a b → NoMore t u → (lot_judged (Some r) t (Some a)).0 ≡ Rejected → (lot_judged (Some r) u (Some b)).0 ≡ Rejected
