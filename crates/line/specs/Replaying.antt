-- Replaying an entry, in the steps that the code takes.
use Rattle.std.specs.Prelude.{ℕ, ◌*◌, false, cond, List, Some, None, Option, nat_le}
use Rattle.inspection.specs.declared.refusal.Refusal.{Refusal}
use Rattle.inspection.specs.Tallies.{total_of}
use Rattle.inspection.specs.declared.tally.Tally.{Tally}
use Rattle.line.specs.declared.sample.Sample.{Sample}
use Rattle.entries.specs.declared.entry.Entry.{Entry}
use Rattle.regimes.specs.Rules.{Rules}
use Rattle.runs.specs.declared.standing.Standing.{Standing}
use Rattle.runs.specs.declared.standing.Taken.{Taken}
use Rattle.runs.specs.History.{Call}
use Rattle.runs.specs.Lines.{due_number, with_slip, refuses, takes}
use Rattle.runs.specs.Writing.{sheet_score}
use Rattle.runs.specs.Runs.{is_entry, call_for, showing}

-- a sample of so many units that showed the tally, if some sheet could: at most nine defects to a unit
abbrev pub sample_showing : ℕ → Tally → Option Sample
sample_showing u t = cond (nat_le (total_of t) (9 * u)) (Some (record { units = u; tally = t })) None

module _ {C : Type 0} where
  -- what a call comes to, where it is not refused
  abbrev pub taken_unless : Option Refusal → Taken C → Option (Taken C)
  taken_unless None k = Some k
  taken_unless (Some x) k = None

  -- the line as the call left it, with no slip out, if the call was taken and wrote the entry
  abbrev pub left_by : Entry → Option (Taken C) → Standing C → Standing C
  left_by e None bad = bad
  left_by e (Some k) bad = cond (is_entry e k.writes) (with_slip false k.standing) bad

module _ {C : Type 0} (r : Rules C) where
  -- what a call without a sheet comes to again, with room
  abbrev pub retaken_call : Call → Standing C → List Entry → Option (Taken C)
  retaken_call c st es = taken_unless (refuses r sheet_score c st es 1) (takes r sheet_score c st es)

  -- what the call comes to again, shown the entry's tally and with room
  abbrev pub retaken_by : Option Call → Entry → Standing C → List Entry → Option (Taken C)
  retaken_by None e st es = None
  retaken_by (Some c) e st es = taken_unless (refuses r (showing e.tally) c st es 1) (takes r (showing e.tally) c st es)

  abbrev pub retaken : Entry → Standing C → List Entry → Option (Taken C)
  retaken e st es = retaken_by (call_for r.portions e.kind e.lot_size (due_number st.waiting)) e st es
