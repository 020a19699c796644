-- What a regime rules, for any kind of carried numbers.
use Rattle.std.specs.Prelude.{ℕ, Bool, Option}
use Rattle.inspection.specs.declared.class.PerClass.{PerClass}
use Rattle.inspection.specs.declared.status.Status.{Status}
use Rattle.inspection.specs.declared.tally.Tally.{Tally}
use Rattle.inspection.specs.declared.verdict.Verdict.{Verdict}

-- the most defects that relief allows
abbrev pub Limits : Type 0
Limits = PerClass ℕ

pub record Rules (C : Type 0) : Type 0 where
  -- it judges portions, or else lots
  pub portions : Bool
  -- the verdict and the new numbers, by status, lot size (0 for a portion), tally and carried numbers
  pub judged : Status → ℕ → Tally → C → Verdict × C
  -- the numbers at the start of a stretch, or of a lot
  pub starts : Status → C
  -- the units of the next sample; none where no row of a plan is for the lot
  pub units : Status → ℕ → C → Option ℕ
  -- the most defects that relief allows in samples of so many units
  pub limits : ℕ → Option Limits
  -- relief and reduced inspection look at so many articles, of which so many may be rejected
  pub window : ℕ
  pub most_rejected : ℕ
