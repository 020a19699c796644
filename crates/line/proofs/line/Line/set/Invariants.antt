use Rattle.std.proofs.Common.{◌≡◌, take, drop}
use Rattle.runs.specs.Runs.{replay, replay_on}
use Rattle.line.proofs.line.Line.set.Given as goal

-- what is left, replayed from here, gives the answer
abbrev pub invariant-loop-before : goal.invariant-loop-before
invariant-loop-before g l =
    (replay_on (g.R.Regime.rules l.line.regime) l.line.standing (take l.before (g.B.Book.entries l.line.book)) (drop l.before (g.B.Book.entries l.line.book))
    ≡ replay (g.R.Regime.rules l.initial.line.regime) (g.B.Book.entries l.initial.line.book))
    × (l.line.regime ≡ l.initial.line.regime)
    × (l.line.book ≡ l.initial.line.book)
