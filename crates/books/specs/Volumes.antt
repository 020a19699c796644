-- Two books as the volumes of one.
use Rattle.std.specs.Prelude.{ℕ, ◌+◌, ◌-◌, min, cond, List, ◌++◌, length, take, ◌==◌}
use Rattle.entries.specs.declared.entry.Entry.{Entry}

-- the first volume's entries, then the second's, up to the 9,999,999th
abbrev pub bound : List Entry → List Entry → List Entry
bound es fs = take 9999999 (es ++ fs)

-- both rooms while the second volume is empty, else the second's; never more than a book may still come to hold
abbrev pub bound_room : List Entry → List Entry → ℕ → ℕ → ℕ
bound_room es fs r s = min (cond (length fs == 0) (r + s) s) (9999999 - length (bound es fs))
