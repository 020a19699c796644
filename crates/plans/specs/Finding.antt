-- Which row is for a lot, and which limits for so many units.
use Rattle.std.specs.Prelude.{ℕ, Bool, ◌&&◌, List, [], ◌∷◌, None, Option, nat_le}
use Rattle.std.specs.Bool.{then_some}
use Rattle.std.specs.Option.{option_or}
use Rattle.inspection.specs.Statuses.{same_status}
use Rattle.inspection.specs.declared.status.Status.{Status}
use Rattle.plans.specs.declared.rows.LotRow.{LotRow}
use Rattle.plans.specs.declared.rows.LimitRow.{LimitRow}

-- the last of the rows that p fits
abbrev pub last_of : {X : Type 0} → (X → Bool) → List X → Option X
last_of p [] = None
last_of p (x ∷ xs) = option_or (last_of p xs) (then_some (p x) x)

-- a row of the status whose lowest size is not above the lot's
abbrev pub row_fits : Status → ℕ → LotRow → Bool
row_fits s size r = same_status r.status s && nat_le r.lowest_size size

-- the last such row
abbrev pub row_for : Status → ℕ → List LotRow → Option LotRow
row_for s size rows = last_of (row_fits s size) rows

-- limits whose lowest units are not above the units
abbrev pub limits_fit : ℕ → LimitRow → Bool
limits_fit units r = nat_le r.lowest_units units

-- the last such limits
abbrev pub limits_for : ℕ → List LimitRow → Option LimitRow
limits_for units limits = last_of (limits_fit units) limits
