-- The worked examples, by computing them.
use Rattle.std.proofs.Common.{refl}
use Rattle.decimals.specs.Digits.{numeral}
use Rattle.runs.specs.Examples.{WorkedDay, WorkedLot, WorkedTurns, WorkedLimits}

pub the_worked_day : WorkedDay
unfolding numeral
the_worked_day = record { told_so = refl; booked_so = refl; room_left = refl }

pub the_worked_lot : WorkedLot
unfolding numeral
the_worked_lot = record { told_so = refl; booked_so = refl; room_left = refl }

pub the_worked_turns : WorkedTurns
unfolding numeral
the_worked_turns = refl

pub the_worked_limits : WorkedLimits
unfolding numeral
the_worked_limits = (refl, refl)
