-- What each refusal is told as: its fixed number, and the place that it names.
use Rattle.std.specs.Prelude.{◌≡◌, ℕ, Some, None}
use Rattle.inspection.specs.declared.refusal.Notice.{Notice}
use Rattle.inspection.specs.declared.refusal.Place.{Place}
use Rattle.inspection.specs.declared.refusal.Place.TheVariants.{SheetLine, BookEntry, PlanLine}
use Rattle.inspection.specs.declared.refusal.Refusal.{Refusal}
use Rattle.inspection.specs.declared.refusal.Refusal.TheVariants.{SheetLineNotOfForm, UnitAboveSample, PairFalls, CommandNotOfForm, NoPeriodOpen, PeriodOpenAlready, LotAwaits, NoLotAwaits, SlipIsOut, LotSizeOutOfRange, ReliefOffNormal, SpellTooShort, TooManyRejected, TooFewUnits, DefectsAboveLimit, NoticeOffReduced, NoRoom, BookUnsound, EntryUnwritable, PlanLineNotOfForm, PlanBoundBroken, PlanRowOutOfOrder, PlanRowCountsWrong}

abbrev pub plain : ℕ → Notice
plain n = record { number = n; place = None }

abbrev pub placed : ℕ → Place → Notice
placed n p = record { number = n; place = Some p }

abbrev pub notice_of : Refusal → Notice
notice_of (SheetLineNotOfForm line) = placed 11 (SheetLine line)
notice_of (UnitAboveSample line) = placed 12 (SheetLine line)
notice_of (PairFalls line) = placed 13 (SheetLine line)
notice_of CommandNotOfForm = plain 15
notice_of NoPeriodOpen = plain 21
notice_of PeriodOpenAlready = plain 22
notice_of LotAwaits = plain 23
notice_of NoLotAwaits = plain 24
notice_of SlipIsOut = plain 25
notice_of LotSizeOutOfRange = plain 26
notice_of ReliefOffNormal = plain 31
notice_of SpellTooShort = plain 32
notice_of TooManyRejected = plain 33
notice_of TooFewUnits = plain 34
notice_of DefectsAboveLimit = plain 35
notice_of NoticeOffReduced = plain 36
notice_of NoRoom = plain 41
notice_of (BookUnsound entry) = placed 42 (BookEntry entry)
notice_of EntryUnwritable = plain 43
notice_of (PlanLineNotOfForm line) = placed 51 (PlanLine line)
notice_of (PlanBoundBroken line) = placed 52 (PlanLine line)
notice_of (PlanRowOutOfOrder line) = placed 53 (PlanLine line)
notice_of PlanRowCountsWrong = plain 54

-- no two refusals are told alike
abbrev pub ToldApart : Type 0
ToldApart = (a b : Refusal) → notice_of a ≡ notice_of b → a ≡ b
