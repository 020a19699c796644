-- Classes by how serious they are, and what a tally sums up to.
use Rattle.std.specs.Prelude.{ℕ, ◌+◌}
use Rattle.inspection.specs.declared.class.DefectClass.{DefectClass}
use Rattle.inspection.specs.declared.class.DefectClass.TheVariants.{Critical, Major, Minor}
use Rattle.inspection.specs.declared.tally.Tally.{Tally}

-- the more serious of two: critical, then major, then minor
abbrev pub worse : DefectClass → DefectClass → DefectClass
worse Critical b = Critical
worse Major Critical = Critical
worse Major Major = Major
worse Major Minor = Major
worse Minor b = b

abbrev pub total_of : Tally → ℕ
total_of t = t.critical + t.major + t.minor
