-- Scoring as far as it has come: the tally of the pairs that are done, and the pair of the last line with its worst class so far.
use Rattle.std.specs.Prelude.{◌+◌, cond, Some, None, Option}
use Rattle.inspection.specs.Tallies.{worse}
use Rattle.inspection.specs.declared.class.DefectClass.{DefectClass}
use Rattle.inspection.specs.declared.class.DefectClass.TheVariants.{Critical, Major, Minor}
use Rattle.inspection.specs.declared.tally.Tally.{Tally}
use Rattle.worksheet.specs.declared.defect.Defect.{Defect}
use Rattle.worksheet.specs.declared.scoring.Running.{Running}
use Rattle.worksheet.specs.Defects.{related}

abbrev pub counted : Tally → DefectClass → Tally
counted t Critical = record t { critical = t.critical + 1 }
counted t Major = record t { major = t.major + 1 }
counted t Minor = record t { minor = t.minor + 1 }

-- a line of the last pair may worsen its class, and any other closes that pair
abbrev pub next_line : Tally → Defect → Defect → Running
next_line t last d = cond (related last d) (record { tally = t; last = Some (record last { class = worse last.class d.class }) }) (record { tally = counted t last.class; last = Some d })

abbrev pub entered : Tally → Option Defect → Defect → Running
entered t None d = record { tally = t; last = Some d }
entered t (Some last) d = next_line t last d

abbrev pub closed : Tally → Option Defect → Tally
closed t None = t
closed t (Some last) = counted t last.class
