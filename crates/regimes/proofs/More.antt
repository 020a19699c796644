-- More defects, or higher values, never turn a rejection into an acceptance.
use Rattle.std.proofs.Common.{◌≡◌, ℕ, zero, suc, ◌<◌, ◌≤◌, Bool, true, cond, List, [], ◌∷◌, length, get_or, Some, None, suc-le-suc, zero-le, le_of_suc-le-suc, not-suc-le-zero, arith}
use Rattle.std.proofs.lemmas.Bool.Decides.{nat_tests}
use Rattle.inspection.specs.declared.status.Status.{Status}
use Rattle.inspection.specs.declared.tally.Tally.{Tally}
use Rattle.inspection.specs.declared.verdict.Verdict.TheVariants.{Accepted, Rejected, Undecided}
use Rattle.plans.specs.declared.rows.LotRow.{LotRow}
use Rattle.inspection.specs.Classes.{count_of, some_class, each_class}
use Rattle.regimes.specs.Portions.{Values, value_reached, is_over, value_held, portion_judged, starting_values, verdicts_on, verdicts_of}
use Rattle.regimes.specs.Lots.{added, accepts_first, rejects_first, accepts_both, lot_judged}
use Rattle.regimes.specs.Promises.{NoMore, NoMoreEach, NoHigher, MoreIsNoBetter}
use Rattle.inspection.specs.declared.class.JudgedClass.{JudgedClass}
use Rattle.inspection.specs.declared.class.JudgedClass.TheVariants.{Critical, Major, Total}
use Rattle.regimes.proofs.Samples.{by_tests, count_added}
use Rattle.regimes.proofs.Stretches.{rejected_exactly}
use Rattle.regimes.proofs.Tried.{some_more, each_more}

no_more_of : (t u : Tally) → NoMore t u → (c : JudgedClass) → count_of c t ≤ count_of c u
no_more_of t u m Critical = m.critical
no_more_of t u m Major = m.major
no_more_of t u m Total = omega arith

module _ (s : Status) (t u : Tally) (v w : Values) (m : NoMore t u) (h : NoHigher v w) where
  reached_more : (c : JudgedClass) → value_reached s t v c ≤ value_reached s u w c
  reached_more c = omega (arith, no_more_of t u m c, h c)

  over_more : (c : JudgedClass) → is_over s t v c ≡ true → is_over s u w c ≡ true
  over_more c e = grind (arith, nat_tests, reached_more c)

  portions : (portion_judged s t v).0 ≡ Rejected → (portion_judged s u w).0 ≡ Rejected
  portions e =
      (rejected_exactly (some_class (is_over s u w))).1
      (some_more (is_over s t v) (is_over s u w) over_more ((rejected_exactly (some_class (is_over s t v))).0 e))

  held_more : (c : JudgedClass) → value_held s t v c ≤ value_held s u w c
  held_more c = omega (arith, reached_more c)

  values : NoHigher (portion_judged s t v).1 (portion_judged s u w).1
  values Critical = held_more Critical
  values Major = held_more Major
  values Total = held_more Total

-- from values that are no higher, portion by portion
all_along : (s : Status) (v w : Values) (ts us : List Tally) → NoHigher v w → NoMoreEach ts us → (k : ℕ) → k < length ts → get_or (verdicts_on s v ts) k Undecided ≡ Rejected → get_or (verdicts_on s w us) k Undecided ≡ Rejected
all_along s v w [] us h m k l e = absurd (not-suc-le-zero l)
all_along s v w (t ∷ ts) [] h m k l e = absurd (omega (arith, m.0))
all_along s v w (t ∷ ts) (u ∷ us) h m zero l e = portions s t u v w (m.1 0 t l) h e
all_along s v w (t ∷ ts) (u ∷ us) h m (suc k) l e =
    all_along s (portion_judged s t v).1 (portion_judged s u w).1 ts us (values s t u v w (m.1 0 t (suc-le-suc zero-le)) h)
    (omega (arith, m.0), λ i d li. m.1 (suc i) d (suc-le-suc li)) k (le_of_suc-le-suc l) e

stretches : (s : Status) (ts us : List Tally) → NoMoreEach ts us → (k : ℕ) → k < length ts → get_or (verdicts_of s ts) k Undecided ≡ Rejected → get_or (verdicts_of s us) k Undecided ≡ Rejected
stretches s ts us m = all_along s (starting_values s) (starting_values s) ts us (λ c. omega arith) m

module _ (r : LotRow) (t u : Tally) (m : NoMore t u) where
  accepts_fewer : each_class (accepts_first r u) ≡ true → each_class (accepts_first r t) ≡ true
  accepts_fewer = each_more (accepts_first r u) (accepts_first r t) (λ c e. grind (arith, nat_tests, no_more_of t u m c))

  rejects_more : some_class (rejects_first r t) ≡ true → some_class (rejects_first r u) ≡ true
  rejects_more = some_more (rejects_first r t) (rejects_first r u) (λ c e. grind (arith, nat_tests, no_more_of t u m c))

  first_rejected : (lot_judged (Some r) t None).0 ≡ Rejected → (lot_judged (Some r) u None).0 ≡ Rejected
  first_rejected = by (each_class (accepts_first r t)) (some_class (rejects_first r t)) (each_class (accepts_first r u)) (some_class (rejects_first r u)) accepts_fewer rejects_more
    where
      by : (a b x y : Bool) → (x ≡ true → a ≡ true) → (b ≡ true → y ≡ true) → (by_tests a b t).0 ≡ Rejected → (by_tests x y u).0 ≡ Rejected
      by a b x y f g e = grind arith

  first_accepted : (lot_judged (Some r) u None).0 ≡ Accepted → (lot_judged (Some r) t None).0 ≡ Accepted
  first_accepted = by (each_class (accepts_first r t)) (some_class (rejects_first r t)) (each_class (accepts_first r u)) (some_class (rejects_first r u)) accepts_fewer
    where
      by : (a b x y : Bool) → (x ≡ true → a ≡ true) → (by_tests x y u).0 ≡ Accepted → (by_tests a b t).0 ≡ Accepted
      by a b x y f e = grind arith

module _ (r : LotRow) (a b t u : Tally) (first : NoMore a b) (second : NoMore t u) where
  both_fewer : each_class (accepts_both r (added b u)) ≡ true → each_class (accepts_both r (added a t)) ≡ true
  both_fewer =
      each_more (accepts_both r (added b u)) (accepts_both r (added a t))
      (λ c e. grind (arith, nat_tests, count_added c a t, count_added c b u, no_more_of a b first c, no_more_of t u second c))

  both_rejected : (lot_judged (Some r) t (Some a)).0 ≡ Rejected → (lot_judged (Some r) u (Some b)).0 ≡ Rejected
  both_rejected = by (each_class (accepts_both r (added a t))) (each_class (accepts_both r (added b u))) both_fewer
    where
      by : (x y : Bool) → (y ≡ true → x ≡ true) → cond x Accepted Rejected ≡ Rejected → cond y Accepted Rejected ≡ Rejected
      by x y f e = grind arith

pub more_is_no_better : MoreIsNoBetter
more_is_no_better = record {
  portions = portions;
  values = values;
  stretches = stretches;
  first_rejected = first_rejected;
  first_accepted = first_accepted;
  both_rejected = both_rejected;
}
