-- Portions: the table, and the value that is carried from portion to portion.
use Rattle.std.specs.Prelude.{ℕ, ◌+◌, ◌-◌, ◌*◌, min, Bool, true, cond, List, [], ◌∷◌, Some, nat_lt, slice_index_or}
use Rattle.inspection.specs.Statuses.{rank}
use Rattle.inspection.specs.declared.status.Status.{Status}
use Rattle.inspection.specs.declared.status.Status.TheVariants.{Normal, Tightened, Reduced}
use Rattle.inspection.specs.declared.tally.Tally.{Tally}
use Rattle.inspection.specs.declared.verdict.Verdict.{Verdict}
use Rattle.inspection.specs.declared.verdict.Verdict.TheVariants.{Accepted, Rejected}
use Rattle.inspection.specs.Classes.{count_of, some_class, at_class, by_class}
use Rattle.regimes.specs.Rules.{Rules}
use Rattle.inspection.specs.declared.class.PerClass.{PerClass}
use Rattle.inspection.specs.declared.class.JudgedClass.{JudgedClass}
use Rattle.regimes.specs.declared.cusum.Cusum.{Cusum}

abbrev pub cusum : ℕ → ℕ → ℕ → Cusum
cusum t l s = record { tolerance = t; limit = l; start = s }

-- in hundredths of a defect: tolerance, limit and start. A row for each class, in it the statuses normal, tightened, reduced
abbrev pub table : PerClass (List Cusum)
table = record {
  critical = cusum 5 95 35 ∷ cusum 10 90 30 ∷ cusum 0 0 0 ∷ [];
  major = cusum 50 200 100 ∷ cusum 80 160 40 ∷ cusum 50 50 0 ∷ [];
  total = cusum 200 300 100 ∷ cusum 250 300 100 ∷ cusum 200 100 0 ∷ [];
}

abbrev pub cusum_of : JudgedClass → Status → Cusum
cusum_of c s = slice_index_or (at_class table c) (rank s) (cusum 0 0 0)

-- the running value of each class
abbrev pub Values : Type 0
Values = PerClass ℕ

-- the value v after a portion with n defects, before it is held. The subtraction stops at 0, and gives the same verdicts and values as one that
-- goes below it: a value below 0 would become 0, and no limit is below 0
abbrev pub reached : Cusum → ℕ → ℕ → ℕ
reached q v n = (v + 100 * n) - q.tolerance

-- a value above the limit becomes the limit, once it has been compared
abbrev pub held : Cusum → ℕ → ℕ
held q r = min r q.limit

abbrev pub value_reached : Status → Tally → Values → JudgedClass → ℕ
value_reached s t v c = reached (cusum_of c s) (at_class v c) (count_of c t)

abbrev pub is_over : Status → Tally → Values → JudgedClass → Bool
is_over s t v c = nat_lt (cusum_of c s).limit (value_reached s t v c)

abbrev pub value_held : Status → Tally → Values → JudgedClass → ℕ
value_held s t v c = held (cusum_of c s) (value_reached s t v c)

-- rejected if any value exceeds its limit
abbrev pub portion_judged : Status → Tally → Values → Verdict × Values
portion_judged s t v = (cond (some_class (is_over s t v)) Rejected Accepted, by_class (value_held s t v))

abbrev pub starting_values : Status → Values
starting_values s = by_class (λ c. (cusum_of c s).start)

abbrev pub portion_units : Status → ℕ
portion_units Normal = 25
portion_units Tightened = 50
portion_units Reduced = 13

abbrev pub on_line_rules : Rules Values
on_line_rules = record {
  portions = true;
  judged = λ s size t v. portion_judged s t v;
  starts = starting_values;
  units = λ s size v. Some (portion_units s);
  limits = λ u. Some (record { critical = 0; major = 9; total = 54 });
  window = 40;
  most_rejected = 1;
}

-- the values after the portions of a stretch that goes on from v, and the verdicts on them
abbrev pub values_on : Status → Values → List Tally → Values
values_on s v [] = v
values_on s v (t ∷ ts) = values_on s (portion_judged s t v).1 ts

abbrev pub verdicts_on : Status → Values → List Tally → List Verdict
verdicts_on s v [] = []
verdicts_on s v (t ∷ ts) = (portion_judged s t v).0 ∷ verdicts_on s (portion_judged s t v).1 ts

-- of a whole stretch
abbrev pub values_after : Status → List Tally → Values
values_after s ts = values_on s (starting_values s) ts

abbrev pub verdicts_of : Status → List Tally → List Verdict
verdicts_of s ts = verdicts_on s (starting_values s) ts
