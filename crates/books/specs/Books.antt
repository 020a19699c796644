-- What asking a book and adding to it mean, over its entries and its room.
use Rattle.std.specs.Prelude.{ℕ, zero, suc, ◌-◌, cond, List, [], ◌∷◌, ◌++◌, Some, None, Ok, Err, Option, Result, ◌==◌}
use Rattle.inspection.specs.declared.refusal.Refusal.{Refusal}
use Rattle.inspection.specs.declared.refusal.Refusal.TheVariants.{NoRoom, EntryUnwritable}
use Rattle.entries.specs.declared.entry.Entry.{Entry}
use Rattle.entries.specs.Entries.{writable}

-- the first entry has number 1; 0 and a number beyond the count have none
abbrev pub numbered : ℕ → List Entry → Option Entry
numbered n [] = None
numbered zero (e ∷ es) = None
numbered (suc zero) (e ∷ es) = Some e
numbered (suc (suc n)) (e ∷ es) = numbered (suc n) es

-- why an entry cannot be added: no room, and then that it is not writable
abbrev pub refusal : ℕ → Entry → Option Refusal
refusal room e = cond (room == 0) (Some NoRoom) (cond (writable e) None (Some EntryUnwritable))

abbrev pub answered : Option Refusal → Result (Unit {0}) Refusal
answered None = Ok tt
answered (Some r) = Err r

-- an entry that is added is put last, and takes one place
abbrev pub put : Option Refusal → List Entry → Entry → List Entry
put None es e = es ++ e ∷ []
put (Some r) es e = es

abbrev pub left : Option Refusal → ℕ → ℕ
left None n = n - 1
left (Some r) n = n
