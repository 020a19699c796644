-- The waiting lot with its slip moved: what stays, and what a slip that is out or not makes of the calls.
use Rattle.std.proofs.Common.{◌≡◌, ℕ, Bool, true, false, List, is_some, Some, None, Option, Result, sym, refl, ap}
use Rattle.std.proofs.lemmas.Bool.{eq-eqb}
use Rattle.inspection.specs.declared.refusal.Refusal.{Refusal}
use Rattle.inspection.specs.declared.tally.Tally.{Tally}
use Rattle.entries.specs.declared.entry.Entry.{Entry}
use Rattle.regimes.specs.Rules.{Rules}
use Rattle.runs.specs.declared.standing.Standing.{Standing}
use Rattle.runs.specs.declared.standing.WaitingLot.{WaitingLot}
use Rattle.runs.specs.History.{enter_lot, grant_relief, report_irregular}
use Rattle.runs.specs.Lines.{due_size, due_number, is_out, has_slip, slip_moved, with_slip, refuses_sound}

pub moved_waits : (o : Bool) (w : Option WaitingLot) → is_some (slip_moved o w) ≡ is_some w
moved_waits o None = refl
moved_waits o (Some l) = refl

pub moved_number : (o : Bool) (w : Option WaitingLot) → due_number (slip_moved o w) ≡ due_number w
moved_number o None = refl
moved_number o (Some l) = refl

pub moved_size : (o : Bool) (w : Option WaitingLot) → due_size (slip_moved o w) ≡ due_size w
moved_size o None = refl
moved_size o (Some l) = refl

pub moved_in : (w : Option WaitingLot) → is_out (slip_moved false w) ≡ false
moved_in None = refl
moved_in (Some l) = refl

-- the last move counts
pub moved_again : (o p : Bool) (w : Option WaitingLot) → slip_moved o (slip_moved p w) ≡ slip_moved o w
moved_again o p None = refl
moved_again o p (Some l) = refl

-- a slip that is there already is not moved
pub moved_there : (o : Bool) (w : Option WaitingLot) → is_out w ≡ o → slip_moved o w ≡ w
moved_there o None e = refl
moved_there o (Some l) e = ap (λ (q : Bool). (let x : Option WaitingLot = Some (record l { slip_out = q }) in x)) (sym e)

-- whoever has a slip, it is out and its lot waits
pub slip_waits : (k : ℕ) (w : Option WaitingLot) → has_slip k w ≡ true → is_some w ≡ true
slip_waits k None e = e
slip_waits k (Some l) e = refl

pub slip_given : (o : Bool) (k : ℕ) (w : Option WaitingLot) → has_slip k (slip_moved o w) ≡ true → o ≡ true
slip_given true k w e = refl
slip_given false k None e = e
slip_given false k (Some l) e = e

-- the waiting lot has the slip with its number, once that is out
pub slip_own : (k : ℕ) (w : Option WaitingLot) → has_slip k w ≡ true → has_slip (due_number w) (slip_moved true w) ≡ true
slip_own k None e = e
slip_own k (Some l) e = eq-eqb l.number l.number refl

module _ {C : Type 0} where
  pub with_again : (o p : Bool) (st : Standing C) → with_slip o (with_slip p st) ≡ with_slip o st
  with_again o p st = ap (λ w. (let s : Standing C = record st { waiting = w } in s)) (moved_again o p st.waiting)

  pub with_there : (o : Bool) (st : Standing C) → is_out st.waiting ≡ o → with_slip o st ≡ st
  with_there o st e = ap (λ w. (let s : Standing C = record st { waiting = w } in s)) (moved_there o st.waiting e)

  -- calls that ask whether a lot waits do not ask for its slip
  module _ (r : Rules C) (score : ℕ → List ℕ → Result Tally Refusal) (o : Bool) (st : Standing C) (es : List Entry) (n : ℕ) where
    pub lot_unmoved : (z : ℕ) (b : List ℕ) → refuses_sound r score (enter_lot z b) (with_slip o st) es n ≡ refuses_sound r score (enter_lot z b) st es n
    lot_unmoved z b = by st.waiting
      where
        by : (w : Option WaitingLot) → refuses_sound r score (enter_lot z b) (with_slip o (record st { waiting = w })) es n ≡ refuses_sound r score (enter_lot z b) (record st { waiting = w }) es n
        by None = refl
        by (Some l) = refl

    pub relief_unmoved : refuses_sound r score grant_relief (with_slip o st) es n ≡ refuses_sound r score grant_relief st es n
    relief_unmoved = by st.waiting
      where
        by : (w : Option WaitingLot) → refuses_sound r score grant_relief (with_slip o (record st { waiting = w })) es n ≡ refuses_sound r score grant_relief (record st { waiting = w }) es n
        by None = refl
        by (Some l) = refl

    pub notice_unmoved : refuses_sound r score report_irregular (with_slip o st) es n ≡ refuses_sound r score report_irregular st es n
    notice_unmoved = by st.waiting
      where
        by : (w : Option WaitingLot) → refuses_sound r score report_irregular (with_slip o (record st { waiting = w })) es n ≡ refuses_sound r score report_irregular (record st { waiting = w }) es n
        by None = refl
        by (Some l) = refl
