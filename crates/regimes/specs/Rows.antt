-- Overruns by rows: neighbouring portions of a stretch with more defects than they are allowed. No running value stands in this file.
use Rattle.std.specs.Prelude.{◌≡◌, ℕ, ◌+◌, ◌-◌, ◌*◌, ◌<◌, ◌≤◌, Bool, true, false, cond, ◌↔◌, List, map, length, sum, take, drop, ◌==◌, slice_index_or}
use Rattle.inspection.specs.declared.status.Status.{Status}
use Rattle.inspection.specs.declared.tally.Tally.{Tally}
use Rattle.inspection.specs.declared.verdict.Verdict.{Verdict}
use Rattle.inspection.specs.declared.verdict.Verdict.TheVariants.{Accepted, Rejected, Undecided}
use Rattle.inspection.specs.Classes.{count_of}
use Rattle.regimes.specs.Portions.{cusum_of}
use Rattle.inspection.specs.declared.class.JudgedClass.{JudgedClass}
use Rattle.regimes.specs.declared.cusum.Cusum.{Cusum}

-- a class's defects in a row: n portions from place j on
abbrev pub defects : List ℕ → ℕ → ℕ → ℕ
defects counts j n = sum (take n (drop j counts))

-- what a row from place j on is allowed less: the start where it opens the stretch, the limit where it directly follows an overrun
abbrev pub less : Cusum → List Bool → ℕ → ℕ
less q over j = cond (j == 0) q.start (cond (slice_index_or over (j - 1) false) q.limit 0)

-- what it is allowed, in hundredths: the tolerance for each portion, and the limit. No start is above its limit, so all of `less` is taken off
abbrev pub allowance : Cusum → List Bool → ℕ → ℕ → ℕ
allowance q over j n = (q.tolerance * n + q.limit) - less q over j

-- some row that ends at place k, all of it after the last earlier overrun, has more defects than it is allowed
pub record RowAbove (q : Cusum) (counts : List ℕ) (over : List Bool) (k : ℕ) : Type 0 where
  pub begins : ℕ
  pub ends : begins ≤ k
  pub no_overrun_before : (i : ℕ) → begins ≤ i → i < k → slice_index_or over i false ≡ false
  pub above : allowance q over begins (k + 1 - begins) < 100 * defects counts begins (k + 1 - begins)

-- `over` marks the portions of a stretch at which a class with these counts overruns: exactly those where such a row ends
pub record Overruns (q : Cusum) (counts : List ℕ) (over : List Bool) : Type 0 where
  pub each : length over ≡ length counts
  pub exactly : (k : ℕ) → k < length counts → (slice_index_or over k false ≡ true) ↔ RowAbove q counts over k

-- of a class in a stretch of portions with these tallies
abbrev pub ClassOverruns : Status → List Tally → JudgedClass → List Bool → Type 0
ClassOverruns s tallies c over = Overruns (cusum_of c s) (map (count_of c) tallies) over

-- each portion is rejected exactly where some class overruns at it, and else accepted. The overruns are marked in one way only
pub record JudgedByRows (s : Status) (tallies : List Tally) (verdicts : List Verdict) : Type 0 where
  pub over : JudgedClass → List Bool
  pub marks : (c : JudgedClass) → ClassOverruns s tallies c (over c)
  pub only : (c : JudgedClass) (other : List Bool) → ClassOverruns s tallies c other → other ≡ over c
  pub each : length verdicts ≡ length tallies
  pub rejected : (k : ℕ) → k < length tallies → (slice_index_or verdicts k Undecided ≡ Rejected) ↔ ((c : JudgedClass) × (slice_index_or (over c) k false ≡ true))
  pub accepted : (k : ℕ) → k < length tallies → (slice_index_or verdicts k Undecided ≡ Accepted) ↔ ((c : JudgedClass) → slice_index_or (over c) k false ≡ false)
