-- Lots by the numbers of their row.
use Rattle.std.proofs.Common.{◌≡◌, ◌+◌, ◌<◌, Bool, true, false, cond, ◌&&◌, ◌↔◌, Some, None, Option, refl, inl, inr, arith}
use Rattle.std.proofs.lemmas.Bool.{and_parts, leb-true, le-leb, both_ways, cases_lt}
use Rattle.std.proofs.lemmas.Bool.Decides.{nat_tests}
use Rattle.inspection.specs.declared.tally.Tally.{Tally}
use Rattle.inspection.specs.declared.verdict.Verdict.{Verdict}
use Rattle.inspection.specs.declared.verdict.Verdict.TheVariants.{Accepted, Rejected, Awaited}
use Rattle.plans.specs.Plans.{lot_row_kept, in_width, samples_kept, class_kept}
use Rattle.plans.specs.declared.rows.LotRow.{LotRow}
use Rattle.inspection.specs.Classes.{count_of, some_class, each_class, at_class}
use Rattle.regimes.specs.Lots.{added, accepts_first, rejects_first, accepts_both, lot_judged}
use Rattle.regimes.specs.Promises.{AllAccepted, SomeRejected, BothAccepted, FirstJudged, BothJudged, AllJudgedByNumbers}
use Rattle.inspection.specs.declared.class.JudgedClass.{JudgedClass}
use Rattle.inspection.specs.declared.class.JudgedClass.TheVariants.{Critical, Major, Total}
use Rattle.regimes.proofs.Tried.{some_true, some_from, each_true, each_from}

pub count_added : (c : JudgedClass) (a b : Tally) → count_of c (added a b) ≡ count_of c a + count_of c b
count_added Critical a b = refl
count_added Major a b = refl
count_added Total a b = omega arith

-- the answer on a first sample by whether all classes accept it and some class rejects it
abbrev pub by_tests : Bool → Bool → Tally → Verdict × Option Tally
by_tests a b t = cond a (Accepted, None) (cond b (Rejected, None) (Awaited, Some t))

-- the tests of a row, as facts
module _ (r : LotRow) (t : Tally) where
  pub all_accepted : (each_class (accepts_first r t) ≡ true) ↔ AllAccepted r t
  all_accepted = (
    (λ e c. leb-true _ _ (each_true (accepts_first r t) e c)),
    (λ all. each_from (accepts_first r t) (λ c. le-leb _ _ (all c))),
  )

  pub some_rejected : (some_class (rejects_first r t) ≡ true) ↔ SomeRejected r t
  some_rejected = (
    (λ e. let w = some_true (rejects_first r t) e in (w.0, leb-true _ _ w.1)),
    (λ w. some_from (rejects_first r t) w.0 (le-leb _ _ w.1)),
  )

pub both_accepted : (r : LotRow) (a t : Tally) → (each_class (accepts_both r (added a t)) ≡ true) ↔ BothAccepted r a t
both_accepted r a t = (
  (λ e c. omega (arith, leb-true (count_of c (added a t)) (at_class r.numbers c).accept_both (each_true (accepts_both r (added a t)) e c), count_added c a t)),
  (λ all. each_from (accepts_both r (added a t)) (λ c. le-leb (count_of c (added a t)) (at_class r.numbers c).accept_both (omega (arith, all c, count_added c a t)))),
)

-- what a kept row has for each class
module _ (r : LotRow) (kept : lot_row_kept r ≡ true) where
  class_is_kept : (c : JudgedClass) → class_kept r (at_class r.numbers c) ≡ true
  class_is_kept = each_true (λ c. class_kept r (at_class r.numbers c)) (and_parts (in_width r.lowest_size && samples_kept r) _ kept).1

  in_order : (c : JudgedClass) → (at_class r.numbers c).accept_first < (at_class r.numbers c).reject_first
  in_order c = grind (arith, nat_tests, class_is_kept c)

  -- a single plan rejects from one more than it accepts
  one_more : r.first_sample ≡ r.total_sample → (c : JudgedClass) → (at_class r.numbers c).reject_first ≡ (at_class r.numbers c).accept_first + 1
  one_more same c = grind (arith, nat_tests, class_is_kept c)

  not_both_ways : (t : Tally) → AllAccepted r t → SomeRejected r t → ⊥
  not_both_ways t all w = omega (arith, all w.0, in_order w.0, w.1)

  -- the verdict by the two tests
  module _ (t : Tally) where
    verdict : (a b : Bool) → each_class (accepts_first r t) ≡ a → some_class (rejects_first r t) ≡ b
        → FirstJudged r t (by_tests a b t).0
    verdict true b x y =
        let all = (all_accepted r t).0 x in
        record {
          accepts = ((λ _. all), (λ _. refl));
          rejects = ((λ e. cc), (λ w. absurd (not_both_ways t all w)));
          awaits = ((λ e. cc), (λ w. absurd (w.0 all)));
        }
    verdict false true x y =
        let some = (some_rejected r t).0 y in
        record {
          accepts = ((λ e. cc), (λ all. absurd (not_both_ways t all some)));
          rejects = ((λ _. some), (λ _. refl));
          awaits = ((λ e. cc), (λ w. absurd (w.1 some)));
        }
    verdict false false x y =
        let none : AllAccepted r t → ⊥ = λ all. both_ways _ x ((all_accepted r t).1 all) in
        let quiet : SomeRejected r t → ⊥ = λ w. both_ways _ y ((some_rejected r t).1 w) in
        record {
          accepts = ((λ e. cc), (λ all. absurd (none all)));
          rejects = ((λ e. cc), (λ w. absurd (quiet w)));
          awaits = ((λ _. (none, quiet)), (λ _. refl));
        }

    first : FirstJudged r t (lot_judged (Some r) t None).0
    first = verdict (each_class (accepts_first r t)) (some_class (rejects_first r t)) refl refl

    -- with all numbers next to each other, what is not accepted is rejected
    never_awaited : r.first_sample ≡ r.total_sample → (lot_judged (Some r) t None).0 ≡ Awaited → ⊥
    never_awaited same e =
        let open-ways = first.awaits.0 e in
        open-ways.0
        (λ c.
        elim (cases_lt (at_class r.numbers c).accept_first (count_of c t)) [
          | inl above ↦ absurd (open-ways.1 (c, omega (arith, one_more same c)))
          | inr within ↦ within
        ])

-- what is carried, by the two tests
module _ (r : LotRow) (t : Tally) where
  carried : (lot_judged (Some r) t None).0 ≡ Awaited → (lot_judged (Some r) t None).1 ≡ Some t
  carried e = by (each_class (accepts_first r t)) (some_class (rejects_first r t)) e
    where
      by : (a b : Bool) → (by_tests a b t).0 ≡ Awaited → (by_tests a b t).1 ≡ Some t
      by a b e = grind arith

  not_carried : ((lot_judged (Some r) t None).0 ≡ Awaited → ⊥) → (lot_judged (Some r) t None).1 ≡ None
  not_carried n = by (each_class (accepts_first r t)) (some_class (rejects_first r t)) n
    where
      by : (a b : Bool) → ((by_tests a b t).0 ≡ Awaited → ⊥) → (by_tests a b t).1 ≡ None
      by a b n = grind arith

both : (r : LotRow) (a t : Tally) → BothJudged r a t (lot_judged (Some r) t (Some a)).0
both r a t = by (each_class (accepts_both r (added a t))) refl
  where
    by : (b : Bool) → each_class (accepts_both r (added a t)) ≡ b → BothJudged r a t (cond b Accepted Rejected)
    by true x =
        let all = (both_accepted r a t).0 x in
        record { accepts = ((λ _. all), (λ _. refl)); rejects = ((λ e. cc), (λ n. absurd (n all))) }
    by false x =
        let none : BothAccepted r a t → ⊥ = λ all. both_ways _ x ((both_accepted r a t).1 all) in
        record { accepts = ((λ e. cc), (λ all. absurd (none all))); rejects = ((λ _. none), (λ _. refl)) }

pub judged_by_numbers : AllJudgedByNumbers
judged_by_numbers r kept = record {
  first = first r kept;
  carried = carried r;
  not_carried = not_carried r;
  single_decides = λ same t. never_awaited r kept t same;
  both = both r;
  both_done = λ a t. refl;
}
