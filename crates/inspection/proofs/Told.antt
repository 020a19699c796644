-- A refusal can be told from its notice.
use Rattle.std.proofs.Common.{◌≡◌, ℕ, cond, eqb, Some, None, Option, sym, refl, ap, ◌∙◌}
use Rattle.inspection.specs.Notices.{notice_of, ToldApart}
use Rattle.inspection.specs.declared.refusal.Place.{Place}
use Rattle.inspection.specs.declared.refusal.Place.TheVariants.{SheetLine, BookEntry, PlanLine}
use Rattle.inspection.specs.declared.refusal.Refusal.{Refusal}
use Rattle.inspection.specs.declared.refusal.Refusal.TheVariants.{SheetLineNotOfForm, UnitAboveSample, PairFalls, CommandNotOfForm, NoPeriodOpen, PeriodOpenAlready, LotAwaits, NoLotAwaits, SlipIsOut, LotSizeOutOfRange, ReliefOffNormal, SpellTooShort, TooManyRejected, TooFewUnits, DefectsAboveLimit, NoticeOffReduced, NoRoom, BookUnsound, EntryUnwritable, PlanLineNotOfForm, PlanBoundBroken, PlanRowOutOfOrder, PlanRowCountsWrong}

abbrev known : ℕ → Option Place → Refusal
known n None = cond (eqb n 15) CommandNotOfForm (cond (eqb n 21) NoPeriodOpen (cond (eqb n 22) PeriodOpenAlready (cond (eqb n 23) LotAwaits (cond (eqb n 24) NoLotAwaits (cond (eqb n 25) SlipIsOut (cond (eqb n 26) LotSizeOutOfRange (cond (eqb n 31) ReliefOffNormal (cond (eqb n 32) SpellTooShort (cond (eqb n 33) TooManyRejected (cond (eqb n 34) TooFewUnits (cond (eqb n 35) DefectsAboveLimit (cond (eqb n 36) NoticeOffReduced (cond (eqb n 41) NoRoom (cond (eqb n 43) EntryUnwritable PlanRowCountsWrong))))))))))))))
known n (Some (SheetLine line)) = cond (eqb n 11) (SheetLineNotOfForm line) (cond (eqb n 12) (UnitAboveSample line) (PairFalls line))
known n (Some (BookEntry entry)) = BookUnsound entry
known n (Some (PlanLine line)) = cond (eqb n 51) (PlanLineNotOfForm line) (cond (eqb n 52) (PlanBoundBroken line) (PlanRowOutOfOrder line))

back : (r : Refusal) → known (notice_of r).number (notice_of r).place ≡ r
back (SheetLineNotOfForm line) = refl
back (UnitAboveSample line) = refl
back (PairFalls line) = refl
back CommandNotOfForm = refl
back NoPeriodOpen = refl
back PeriodOpenAlready = refl
back LotAwaits = refl
back NoLotAwaits = refl
back SlipIsOut = refl
back LotSizeOutOfRange = refl
back ReliefOffNormal = refl
back SpellTooShort = refl
back TooManyRejected = refl
back TooFewUnits = refl
back DefectsAboveLimit = refl
back NoticeOffReduced = refl
back NoRoom = refl
back (BookUnsound entry) = refl
back EntryUnwritable = refl
back (PlanLineNotOfForm line) = refl
back (PlanBoundBroken line) = refl
back (PlanRowOutOfOrder line) = refl
back PlanRowCountsWrong = refl

pub told_apart : ToldApart
told_apart a b e = sym (back a) ∙ ap (λ n. known n.number n.place) e ∙ back b
