use Rattle.std.proofs.Common.{◌≡◌, ℕ, ◌+◌, List, length}
use Rattle.texts.specs.Pieces.{pieces, after, to_come}
use Rattle.worksheet.specs.Scores.{score_of}
use Rattle.worksheet.proofs.Going.{going, Fits}
use Rattle.worksheet.proofs.scoring.read.Given as goal

-- what is left gives the sheet's score, the running tally fits the sample, and what is read and what is left are all the lines
abbrev pub invariant-loop-item : goal.invariant-loop-item
invariant-loop-item l =
    (goal.iterator-loop-item).can_next l.item-iterator
    × (goal.iterator-loop-item).is_finite l.item-iterator
    × Fits l.units l.running
    × (going l.units l.running (to_come l.item-iterator) ≡ score_of l.sheet l.units)
    × ((ls : List (List ℕ)) × (to_come l.item-iterator ≡ after l.lines ls))
    × (l.lines + length (to_come l.item-iterator) ≡ length (pieces l.sheet))
