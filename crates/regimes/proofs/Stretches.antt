-- Verdicts on the portions of a stretch, by the flags of the three values.
use Rattle.std.proofs.Common.{◌≡◌, ℕ, zero, suc, ◌<◌, ◌≤◌, Bool, true, false, cond, ◌↔◌, List, [], ◌∷◌, map, length, get_or, sym, refl, ap, ◌∙◌, le_of_suc-le-suc, not-suc-le-zero, arith}
use Rattle.inspection.specs.declared.status.Status.{Status}
use Rattle.inspection.specs.declared.tally.Tally.{Tally}
use Rattle.inspection.specs.declared.verdict.Verdict.TheVariants.{Accepted, Rejected, Undecided}
use Rattle.inspection.specs.Classes.{count_of, some_class, at_class}
use Rattle.regimes.specs.Portions.{Values, cusum_of, portion_judged, starting_values, values_on, verdicts_on, verdicts_of}
use Rattle.regimes.specs.Promises.{AllJudgedByRows, ValuesWithin}
use Rattle.inspection.specs.declared.class.JudgedClass.{JudgedClass}
use Rattle.inspection.specs.declared.class.JudgedClass.TheVariants.{Critical, Major, Total}
use Rattle.regimes.proofs.Overrun.{flags, overruns_by_value, marked_by_value}
use Rattle.regimes.proofs.Table.{starts_within}
use Rattle.regimes.proofs.Tried.{some_true, some_from, none_true, none_from}

-- a verdict by one test
pub rejected_exactly : (b : Bool) → (cond b Rejected Accepted ≡ Rejected) ↔ (b ≡ true)
rejected_exactly true = ((λ _. refl), (λ _. refl))
rejected_exactly false = ((λ e. cc), (λ e. cc))

pub accepted_exactly : (b : Bool) → (cond b Rejected Accepted ≡ Accepted) ↔ (b ≡ false)
accepted_exactly true = ((λ e. cc), (λ e. cc))
accepted_exactly false = ((λ _. refl), (λ _. refl))

-- whether the value of a class, gone on from v, is flagged at place k
abbrev flag : Status → Values → List Tally → ℕ → JudgedClass → Bool
flag s v ts k c = get_or (flags (cusum_of c s) (at_class v c) (map (count_of c) ts)) k false

verdict_at : (s : Status) (v : Values) (ts : List Tally) (k : ℕ) → k < length ts → get_or (verdicts_on s v ts) k Undecided ≡ cond (some_class (flag s v ts k)) Rejected Accepted
verdict_at s v [] k h = absurd (not-suc-le-zero h)
verdict_at s v (t ∷ ts) zero h = refl
verdict_at s v (t ∷ ts) (suc k) h = verdict_at s (portion_judged s t v).1 ts k (le_of_suc-le-suc h)

pub verdicts_each : (s : Status) (v : Values) (ts : List Tally) → length (verdicts_on s v ts) ≡ length ts
verdicts_each s v [] = refl
verdicts_each s v (t ∷ ts) = ap suc (verdicts_each s (portion_judged s t v).1 ts)

pub judged_by_rows : AllJudgedByRows
judged_by_rows s ts = record {
  over = over;
  marks = λ c. overruns_by_value (cusum_of c s) (starts_within c s) (map (count_of c) ts);
  only = λ c other o. marked_by_value (cusum_of c s) (starts_within c s) (map (count_of c) ts) other o;
  each = verdicts_each s (starting_values s) ts;
  rejected = λ k h. (
    (λ e. some_true (λ c. get_or (over c) k false) ((rejected_exactly (here k)).0 (sym (at k h) ∙ e))),
    (λ w. at k h ∙ (rejected_exactly (here k)).1 (some_from (λ c. get_or (over c) k false) w.0 w.1)),
  );
  accepted = λ k h. (
    (λ e. none_true (λ c. get_or (over c) k false) ((accepted_exactly (here k)).0 (sym (at k h) ∙ e))),
    (λ all. at k h ∙ (accepted_exactly (here k)).1 (none_from (λ c. get_or (over c) k false) all)),
  );
}
  where
    over : JudgedClass → List Bool
    over c = flags (cusum_of c s) (cusum_of c s).start (map (count_of c) ts)

    here : ℕ → Bool
    here k = some_class (λ c. get_or (over c) k false)

    at : (k : ℕ) → k < length ts → get_or (verdicts_of s ts) k Undecided ≡ cond (here k) Rejected Accepted
    at k h = verdict_at s (starting_values s) ts k h

after_a_portion : (s : Status) (t : Tally) (v : Values) (c : JudgedClass) → at_class (portion_judged s t v).1 c ≤ (cusum_of c s).limit
after_a_portion s t v Critical = omega arith
after_a_portion s t v Major = omega arith
after_a_portion s t v Total = omega arith

stays : (s : Status) (v : Values) (ts : List Tally) (c : JudgedClass) → ((d : JudgedClass) → at_class v d ≤ (cusum_of d s).limit) → at_class (values_on s v ts) c ≤ (cusum_of c s).limit
stays s v [] c h = h c
stays s v (t ∷ ts) c h = stays s (portion_judged s t v).1 ts c (after_a_portion s t v)

starts_stay : (s : Status) (c : JudgedClass) → at_class (starting_values s) c ≤ (cusum_of c s).limit
starts_stay s Critical = starts_within Critical s
starts_stay s Major = starts_within Major s
starts_stay s Total = starts_within Total s

pub values_within : ValuesWithin
values_within = record { after_a_portion = after_a_portion; in_a_stretch = λ s ts c. stays s (starting_values s) ts c (starts_stay s) }
