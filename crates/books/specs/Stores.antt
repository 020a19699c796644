-- What a counted book holds, by what stands in the places of its memory and its count.
use Rattle.std.specs.Prelude.{ℕ, zero, suc, ◌+◌, ◌-◌, ◌*◌, ◌/◌, min, List, [], ◌∷◌, ◌++◌, map, length, take, drop, slice_set}
use Rattle.entries.specs.declared.entry.Entry.{Entry}
use Rattle.entries.specs.Entries.{or_spoiled}
use Rattle.entries.specs.Lines.{line_of, entry_in}

-- places beyond the largest number of entries are not used
abbrev pub usable : ℕ → ℕ
usable places = min places 9999999

-- a count is cut to the places that can be used
abbrev pub cut : ℕ → ℕ → ℕ
cut count places = min count (usable places)

-- places that can be used and are not
abbrev pub spare : ℕ → ℕ → ℕ
spare count places = usable places - count

-- records that are no writable entry read as spoiled
abbrev pub records_read : List Entry → List Entry
records_read records = map or_spoiled records

-- whole places of 37 bytes
abbrev pub lines_in : List ℕ → ℕ
lines_in bytes = length bytes / 37

-- the entries of the first n places
abbrev pub stored : ℕ → List ℕ → List Entry
stored zero bs = []
stored (suc n) bs = entry_in (take 37 bs) ∷ stored n (drop 37 bs)

abbrev pub lines_read : List ℕ → List Entry
lines_read bytes = stored (lines_in bytes) bytes

-- an entry that is written stands in its place, and every other record and byte is as it was
abbrev pub record_after : ℕ → Entry → List Entry → List Entry
record_after i e records = slice_set records i e

abbrev pub line_after : ℕ → Entry → List ℕ → List ℕ
line_after i e bytes = take (i * 37) bytes ++ (line_of e ++ drop (i * 37 + 37) bytes)
