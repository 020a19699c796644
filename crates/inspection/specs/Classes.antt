-- The three counts that are judged, one of something for each, and tests over all three.
use Rattle.std.specs.Prelude.{ℕ, Bool, ◌&&◌, ◌||◌}
use Rattle.inspection.specs.Tallies.{total_of}
use Rattle.inspection.specs.declared.tally.Tally.{Tally}
use Rattle.inspection.specs.declared.class.JudgedClass.{JudgedClass}
use Rattle.inspection.specs.declared.class.JudgedClass.TheVariants.{Critical, Major, Total}
use Rattle.inspection.specs.declared.class.PerClass.{PerClass}

abbrev pub count_of : JudgedClass → Tally → ℕ
count_of Critical t = t.critical
count_of Major t = t.major
count_of Total t = total_of t

abbrev pub some_class : (JudgedClass → Bool) → Bool
some_class p = (p Critical || p Major) || p Total

abbrev pub each_class : (JudgedClass → Bool) → Bool
each_class p = (p Critical && p Major) && p Total

abbrev pub at_class : {X : Type 0} → PerClass X → JudgedClass → X
at_class v Critical = v.critical
at_class v Major = v.major
at_class v Total = v.total

abbrev pub by_class : {X : Type 0} → (JudgedClass → X) → PerClass X
by_class f = record { critical = f Critical; major = f Major; total = f Total }
