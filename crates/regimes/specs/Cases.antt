-- Eight cases that mark the rules: values, and verdicts on whole stretches and samples.
use Rattle.std.specs.Prelude.{◌≡◌, ℕ, List, [], ◌∷◌, ◌++◌, replicate, Some, None}
use Rattle.inspection.specs.declared.status.Status.{Status}
use Rattle.inspection.specs.declared.status.Status.TheVariants.{Normal, Tightened}
use Rattle.inspection.specs.declared.tally.Tally.{Tally}
use Rattle.inspection.specs.declared.verdict.Verdict.{Verdict}
use Rattle.inspection.specs.declared.verdict.Verdict.TheVariants.{Accepted, Rejected, Awaited}
use Rattle.plans.specs.declared.rows.LotRow.{LotRow}
use Rattle.regimes.specs.Portions.{value_reached, values_after, verdicts_of}
use Rattle.regimes.specs.Lots.{lot_judged}
use Rattle.inspection.specs.declared.class.JudgedClass.{JudgedClass}
use Rattle.inspection.specs.declared.class.JudgedClass.TheVariants.{Critical, Major}

abbrev pub critical_alone : ℕ → Tally
critical_alone n = record { critical = n; major = 0; minor = 0 }

abbrev pub major_alone : ℕ → Tally
major_alone n = record { critical = 0; major = n; minor = 0 }

-- portions without a defect
abbrev pub clean : ℕ → List Tally
clean n = replicate n (critical_alone 0)

abbrev pub accepted : ℕ → List Verdict
accepted n = replicate n Accepted

-- the value of the class that a portion reaches after the portions of a stretch
abbrev pub reaches : Status → List Tally → Tally → JudgedClass → ℕ
reaches s before t c = value_reached s t (values_after s before) c

-- a row whose numbers are 0, 3, 3 for critical defects and 5, 7, 8 for major ones and the total
abbrev pub marked_row : Status → ℕ → ℕ → ℕ → LotRow
marked_row s lowest first whole =
    record {
      status = s;
      lowest_size = lowest;
      first_sample = first;
      total_sample = whole;
      numbers = record {
        critical = record { accept_first = 0; reject_first = 3; accept_both = 3 };
        major = record { accept_first = 5; reject_first = 7; accept_both = 8 };
        total = record { accept_first = 5; reject_first = 7; accept_both = 8 };
      };
    }

pub record EightCases : Type 0 where
  pub after_six_clean : (reaches Normal (clean 6) (critical_alone 1) Critical ≡ 100) × (verdicts_of Normal (clean 6 ++ critical_alone 1 ∷ []) ≡ accepted 6 ++ Rejected ∷ [])
  pub after_seven_clean : (reaches Normal (clean 7) (critical_alone 1) Critical ≡ 95) × (verdicts_of Normal (clean 7 ++ critical_alone 1 ∷ []) ≡ accepted 7 ++ Accepted ∷ [])
  pub one_critical_first : (reaches Normal [] (critical_alone 1) Critical ≡ 130) × (verdicts_of Normal (critical_alone 1 ∷ []) ≡ Rejected ∷ [])
  pub and_another : (reaches Normal (critical_alone 1 ∷ []) (critical_alone 1) Critical ≡ 190) × (verdicts_of Normal (critical_alone 1 ∷ critical_alone 1 ∷ []) ≡ Rejected ∷ Rejected ∷ [])
  pub two_major : (reaches Tightened [] (major_alone 2) Major ≡ 160) × (verdicts_of Tightened (major_alone 2 ∷ []) ≡ Accepted ∷ [])
  pub three_major : (reaches Tightened [] (major_alone 3) Major ≡ 260) × (verdicts_of Tightened (major_alone 3 ∷ []) ≡ Rejected ∷ [])
  pub one_critical_of_a_lot : (s : Status) (lowest first whole : ℕ) → lot_judged (Some (marked_row s lowest first whole)) (critical_alone 1) None ≡ (Awaited, Some (critical_alone 1))
  pub three_critical_of_a_lot : (s : Status) (lowest first whole : ℕ) → lot_judged (Some (marked_row s lowest first whole)) (critical_alone 3) None ≡ (Rejected, None)
