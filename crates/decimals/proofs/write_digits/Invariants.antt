use Rattle.std.proofs.Common.{◌≡◌, ◌++◌, length, drop}
use Rattle.decimals.specs.Digits.{padded}
use Rattle.decimals.proofs.write_digits.Given as goal

-- what is still to be written, before what is written, gives the whole number
abbrev pub invariant-loop-i : goal.invariant-loop-i
invariant-loop-i l = padded l.i l.left ++ drop l.i l.places ≡ padded (length l.initial.places) l.number
