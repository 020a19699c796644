-- Lots: the row that is for one, and how its samples are judged by it.
use Rattle.std.specs.Prelude.{ℕ, ◌+◌, ◌-◌, Bool, false, cond, List, Some, None, Option, option_map, nat_le}
use Rattle.inspection.specs.declared.status.Status.{Status}
use Rattle.inspection.specs.declared.tally.Tally.{Tally}
use Rattle.inspection.specs.declared.verdict.Verdict.{Verdict}
use Rattle.inspection.specs.declared.verdict.Verdict.TheVariants.{Accepted, Rejected, Awaited}
use Rattle.plans.specs.Finding.{row_for, limits_for}
use Rattle.plans.specs.declared.rows.LotRow.{LotRow}
use Rattle.plans.specs.declared.rows.LimitRow.{LimitRow}
use Rattle.inspection.specs.Classes.{count_of, some_class, each_class, at_class}
use Rattle.regimes.specs.Rules.{Rules}
use Rattle.inspection.specs.declared.class.JudgedClass.{JudgedClass}

-- the row for a lot: none for a lot of more than 9,999,999
abbrev pub row_of_lot : Status → ℕ → List LotRow → Option LotRow
row_of_lot s size rows = cond (nat_le size 9999999) (row_for s size rows) None

abbrev pub added : Tally → Tally → Tally
added a b = record { critical = a.critical + b.critical; major = a.major + b.major; minor = a.minor + b.minor }

abbrev pub accepts_first : LotRow → Tally → JudgedClass → Bool
accepts_first r t c = nat_le (count_of c t) (at_class r.numbers c).accept_first

abbrev pub rejects_first : LotRow → Tally → JudgedClass → Bool
rejects_first r t c = nat_le (at_class r.numbers c).reject_first (count_of c t)

abbrev pub accepts_both : LotRow → Tally → JudgedClass → Bool
accepts_both r t c = nat_le (count_of c t) (at_class r.numbers c).accept_both

-- the first sample's tally is carried while the second is awaited
abbrev pub first_judged : LotRow → Tally → Verdict × Option Tally
first_judged r t =
    cond (each_class (accepts_first r t)) (Accepted, None) (cond (some_class (rejects_first r t)) (Rejected, None) (Awaited, Some t))

-- by the tally of both samples together
abbrev pub both_judged : LotRow → Tally → Verdict × Option Tally
both_judged r t = (cond (each_class (accepts_both r t)) Accepted Rejected, None)

-- a lot with no row has no units, so it is never judged
abbrev pub lot_judged : Option LotRow → Tally → Option Tally → Verdict × Option Tally
lot_judged None t first = (Rejected, None)
lot_judged (Some r) t None = first_judged r t
lot_judged (Some r) t (Some first) = both_judged r (added first t)

abbrev pub lot_units : Option LotRow → Option Tally → Option ℕ
lot_units None first = None
lot_units (Some r) None = Some r.first_sample
lot_units (Some r) (Some first) = Some (r.total_sample - r.first_sample)

-- by the lot rows and the limit rows of a plan
abbrev pub stationary_rules : List LotRow → List LimitRow → Rules (Option Tally)
stationary_rules rows limits = record {
  portions = false;
  judged = λ s size t first. lot_judged (row_of_lot s size rows) t first;
  starts = λ s. None;
  units = λ s size first. lot_units (row_of_lot s size rows) first;
  limits = λ units. option_map (λ r. r.limits) (limits_for units limits);
  window = 10;
  most_rejected = 0;
}
