-- What every plan book keeps.
use Rattle.std.specs.Prelude.{ℕ, ◌+◌, Bool, true, not, ◌&&◌, ◌||◌, List, [], ◌∷◌, length, count_by, ◌==◌, nat_le, nat_lt}
use Rattle.inspection.specs.Classes.{at_class, each_class}
use Rattle.inspection.specs.Statuses.{rank, same_status}
use Rattle.inspection.specs.declared.status.Status.{Status}
use Rattle.inspection.specs.declared.status.Status.TheVariants.{Normal, Tightened, Reduced}
use Rattle.plans.specs.declared.rows.ClassNumbers.{ClassNumbers}
use Rattle.plans.specs.declared.rows.LotRow.{LotRow}
use Rattle.plans.specs.declared.rows.LimitRow.{LimitRow}

-- no number of a plan is larger than 9,999,999
abbrev pub in_width : ℕ → Bool
in_width n = nat_le n 9999999

abbrev pub class_in_width : ClassNumbers → Bool
class_in_width n = (in_width n.accept_first && in_width n.reject_first) && in_width n.accept_both

-- a first sample is not both accepted and rejected, and whatever it leaves open both samples together decide
abbrev pub class_order : ClassNumbers → Bool
class_order n =
    (nat_lt n.accept_first n.reject_first && nat_le n.accept_first n.accept_both) && nat_le n.reject_first (n.accept_both + 1)

-- a single plan decides at once
abbrev pub class_single : ClassNumbers → Bool
class_single n = n.reject_first == n.accept_first + 1 && n.accept_both == n.accept_first

abbrev pub single : LotRow → Bool
single r = r.first_sample == r.total_sample

abbrev pub class_kept : LotRow → ClassNumbers → Bool
class_kept r n = (class_in_width n && class_order n) && (not (single r) || class_single n)

-- the first sample has a unit at least, both at most 2,000 and no more than the smallest lot
abbrev pub samples_kept : LotRow → Bool
samples_kept r =
    (nat_le 1 r.first_sample && nat_le r.first_sample r.total_sample) && (nat_le r.total_sample 2000 && nat_le r.total_sample r.lowest_size)

abbrev pub lot_row_kept : LotRow → Bool
lot_row_kept r =
    (in_width r.lowest_size && samples_kept r) && each_class (λ c. class_kept r (at_class r.numbers c))

abbrev pub limit_row_kept : LimitRow → Bool
limit_row_kept r = in_width r.lowest_units && each_class (λ c. in_width (at_class r.limits c))

abbrev pub each : {X : Type 0} → (X → Bool) → List X → Bool
each p [] = true
each p (x ∷ xs) = p x && each p xs

-- rows of a status together, in the order normal, tightened, reduced, each for larger lots than the one before
abbrev pub lot_row_follows : LotRow → LotRow → Bool
lot_row_follows a b = nat_lt (rank a.status) (rank b.status) || (same_status a.status b.status && nat_lt a.lowest_size b.lowest_size)

abbrev pub limit_row_follows : LimitRow → LimitRow → Bool
limit_row_follows a b = nat_lt a.lowest_units b.lowest_units

-- each follows the one before it
abbrev pub in_order : {X : Type 0} → (X → X → Bool) → List X → Bool
in_order follows [] = true
in_order follows (x ∷ []) = true
in_order follows (x ∷ y ∷ xs) = follows x y && in_order follows (y ∷ xs)

abbrev pub between : ℕ → ℕ → Bool
between most n = nat_le 1 n && nat_le n most

abbrev pub rows_of : Status → List LotRow → ℕ
rows_of s rows = count_by (λ r. same_status r.status s) rows

abbrev pub each_status : (Status → Bool) → Bool
each_status p = (p Normal && p Tightened) && p Reduced

-- 1 to 32 rows for each status, 1 to 16 limit rows
abbrev pub counts_kept : List LotRow → List LimitRow → Bool
counts_kept rows limits = each_status (λ s. between 32 (rows_of s rows)) && between 16 (length limits)

abbrev pub keeps : List LotRow → List LimitRow → Bool
keeps rows limits =
    ((each lot_row_kept rows && each limit_row_kept limits) && (in_order lot_row_follows rows && in_order limit_row_follows limits)) && counts_kept rows limits
