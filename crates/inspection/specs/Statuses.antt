-- Statuses compared.
use Rattle.std.specs.Prelude.{ℕ, Bool, List, ◌==◌, codes}
use Rattle.inspection.specs.declared.status.Status.{Status}
use Rattle.inspection.specs.declared.status.Status.TheVariants.{Normal, Tightened, Reduced}

-- the order in which a plan has them
abbrev pub rank : Status → ℕ
rank Normal = 0
rank Tightened = 1
rank Reduced = 2

abbrev pub same_status : Status → Status → Bool
same_status a b = rank a == rank b

-- the name by which people know it
abbrev pub status_name : Status → List ℕ
status_name Normal = codes "normal"
status_name Tightened = codes "tightened"
status_name Reduced = codes "reduced"
