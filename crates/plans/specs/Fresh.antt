-- The plan book that there is before any text is read: one container of every lot, and not one defect.
use Rattle.std.specs.Prelude.{List, [], ◌∷◌}
use Rattle.inspection.specs.declared.status.Status.{Status}
use Rattle.inspection.specs.declared.status.Status.TheVariants.{Normal, Tightened, Reduced}
use Rattle.plans.specs.declared.rows.ClassNumbers.{ClassNumbers}
use Rattle.plans.specs.declared.rows.LotRow.{LotRow}
use Rattle.plans.specs.declared.rows.LimitRow.{LimitRow}

abbrev pub none_accepted : ClassNumbers
none_accepted = record { accept_first = 0; reject_first = 1; accept_both = 0 }

abbrev pub fresh_row : Status → LotRow
fresh_row s =
    record { status = s; lowest_size = 1; first_sample = 1; total_sample = 1; numbers = record { critical = none_accepted; major = none_accepted; total = none_accepted } }

abbrev pub fresh_lots : List LotRow
fresh_lots = fresh_row Normal ∷ fresh_row Tightened ∷ fresh_row Reduced ∷ []

abbrev pub fresh_limits : List LimitRow
fresh_limits = record { lowest_units = 1; limits = record { critical = 0; major = 0; total = 0 } } ∷ []
