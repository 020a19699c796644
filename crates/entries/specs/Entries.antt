-- Which entries can stand in a book.
use Rattle.std.specs.Prelude.{Bool, true, false, cond, ◌&&◌, ◌==◌, nat_le}
use Rattle.inspection.specs.declared.kind.Kind.{Kind}
use Rattle.inspection.specs.declared.kind.Kind.TheVariants.{PeriodOpened, Portion, PeriodEnded, Lot, SecondSample, Relief, IrregularNotice, Spoiled}
use Rattle.inspection.specs.declared.status.Status.TheVariants.{Normal}
use Rattle.inspection.specs.declared.verdict.Verdict.{Verdict}
use Rattle.inspection.specs.declared.verdict.Verdict.TheVariants.{Accepted, Rejected, Awaited, Full, Brief, Undecided}
use Rattle.entries.specs.declared.entry.Entry.{Entry}

abbrev pub no_numbers : Entry → Bool
no_numbers e =
    (e.lot_size == 0) && e.units == 0 && e.tally.critical == 0 && e.tally.major == 0 && e.tally.minor == 0

-- at most 7, 4, 5, 5 and 5 digits
abbrev pub fits_fields : Entry → Bool
fits_fields e =
    nat_le e.lot_size 9999999 && nat_le e.units 9999 && nat_le e.tally.critical 99999 && nat_le e.tally.major 99999 && nat_le e.tally.minor 99999

abbrev pub no_verdict : Verdict → Bool
no_verdict Accepted = false
no_verdict Rejected = false
no_verdict Awaited = false
no_verdict Full = false
no_verdict Brief = false
no_verdict Undecided = true

-- periods, relief and notices have no numbers and a portion no lot size; only periods that end, portions, lots and second samples have a verdict
abbrev pub writable_as : Kind → Entry → Bool
writable_as PeriodOpened e = no_numbers e && no_verdict e.verdict
writable_as Portion e = e.lot_size == 0 && fits_fields e
writable_as PeriodEnded e = no_numbers e
writable_as Lot e = fits_fields e
writable_as SecondSample e = fits_fields e
writable_as Relief e = no_numbers e && no_verdict e.verdict
writable_as IrregularNotice e = no_numbers e && no_verdict e.verdict
writable_as Spoiled e = false

abbrev pub writable : Entry → Bool
writable e = writable_as e.kind e

-- what is read where no writable entry stands
abbrev pub spoiled : Entry
spoiled = record { kind = Spoiled; status = Normal; verdict = Undecided; lot_size = 0; units = 0; tally = record { critical = 0; major = 0; minor = 0 } }

abbrev pub or_spoiled : Entry → Entry
or_spoiled e = cond (writable e) e spoiled
