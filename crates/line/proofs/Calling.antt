-- A call that is not refused has room and a writable entry, so that the book takes it and the call comes to what it is defined to.
use Rattle.std.proofs.Common.{◌≡◌, ℕ, ◌<◌, Bool, true, false, cond, not, eqb, leb, List, [], is_some, Some, None, Ok, Option, Result, sym, refl, ap, ◌∙◌, subst, arith}
use Rattle.std.proofs.lemmas.Bool.{leb-false, ne_eqb}
use Rattle.books.specs.Books.{refusal, answered}
use Rattle.inspection.specs.declared.refusal.Refusal.{Refusal}
use Rattle.inspection.specs.declared.refusal.Refusal.TheVariants.{PeriodOpenAlready, NoPeriodOpen, LotAwaits, NoRoom, EntryUnwritable, BookUnsound}
use Rattle.entries.specs.declared.entry.Entry.{Entry}
use Rattle.entries.specs.Entries.{writable}
use Rattle.regimes.specs.Rules.{Rules}
use Rattle.runs.specs.declared.standing.Reply.{Reply}
use Rattle.runs.specs.declared.standing.Taken.{Taken}
use Rattle.runs.specs.History.{Call, open_period, end_period, grant_relief, report_irregular}
use Rattle.runs.specs.Lines.{settled, refuses, takes, step}
use Rattle.runs.specs.Writing.{sheet_score}
use Rattle.runs.proofs.Small.{passes}
use Rattle.line.specs.declared.line.Line.{Line}
use Rattle.line.specs.Doing.{ComesTo, Does, add_refusal, booked}
use Rattle.line.proofs.Settling.{passed_by}

abbrev pub unless_unsound : Option ℕ → Option Refusal → Option Refusal
unless_unsound u o = elim u [ Some k ↦ Some (BookUnsound k) | None ↦ o ]

none_some : {P : Type 0} (x : Refusal) → ◌≡◌ {A = Option Refusal} None (Some x) → P
none_some x e = let z : ◌≡◌ {A = ℕ} 0 1 = cc in absurd (omega arith)

-- a call whose second test is the room's, and that is not refused, has room
has_room : (u : Option ℕ) (q m : Bool) (x y : Refusal) (o : Option Refusal) → None ≡ unless_unsound u (cond q (Some x) (cond m (Some y) o)) → m ≡ false
has_room None q m x y o e = (passes m y o (passes q x _ (sym e)).1).0
has_room (Some k) q m x y o e = none_some (BookUnsound k) e

no_zero : (n : ℕ) → leb n 0 ≡ false → eqb n 0 ≡ false
no_zero n e = let h : 0 < n = leb-false n 0 e in ne_eqb n 0 (λ z. omega arith)

added : (n : ℕ) (e : Entry) → leb n 0 ≡ false → writable e ≡ true → refusal n e ≡ None
added n e q w = λ i. cond (no_zero n q i) (Some NoRoom) (cond (w i) None (Some EntryUnwritable))

module _ {R B C : Type 0} (entries : B → List Entry) (room : B → ℕ) (r : Rules C) (before after : Line R B C) (k : Taken C) (a : Result Reply Refusal) (done : Does entries room (booked k) before a after) where
  pub call_written : (c : Call) (x : Entry) → None ≡ refuses r sheet_score c before.standing (entries before.book) (room before.book) → k ≡ takes r sheet_score c before.standing (entries before.book)
      → (takes r sheet_score c before.standing (entries before.book)).writes ≡ Some x → leb (room before.book) 0 ≡ false → writable x ≡ true → Does entries room (step r sheet_score c) before a after
  call_written c x none same writes some fits =
      let st = before.standing in
      let es = entries before.book in
      let n = room before.book in
      let free : add_refusal n k.writes ≡ refuses r sheet_score c st es n = ap (λ t. add_refusal n t.writes) same ∙ ap (add_refusal n) writes ∙ added n x some fits ∙ none in
      record {
        call = subst (λ o. ComesTo o a after.standing (entries after.book) (room after.book)) (λ i. settled (free i) (same i) st es n) done.call;
        same = done.same;
        regime = done.regime;
      }

  -- the calls whose entries have no numbers, where `left` is the book's room
  module _ (left : ℕ) (left_is : left ≡ room before.book) where
    pub notice_does : Ok tt ≡ answered (refuses r sheet_score report_irregular before.standing [] left) → k ≡ takes r sheet_score report_irregular before.standing [] → Does entries room (step r sheet_score report_irregular) before a after
    notice_does passed same =
        let st = before.standing in
        let none = passed_by _ passed ∙ ap (λ m. refuses r sheet_score report_irregular st [] m) left_is in
        call_written report_irregular _ none same refl (has_room st.unsound (is_some st.waiting) (leb (room before.book) 0) LotAwaits NoRoom _ none) refl

    pub open_does : Ok tt ≡ answered (refuses r sheet_score open_period before.standing [] left) → k ≡ takes r sheet_score open_period before.standing [] → Does entries room (step r sheet_score open_period) before a after
    open_does passed same =
        let st = before.standing in
        let none = passed_by _ passed ∙ ap (λ m. refuses r sheet_score open_period st [] m) left_is in
        call_written open_period _ none same refl (has_room st.unsound (is_some st.period) (leb (room before.book) 0) PeriodOpenAlready NoRoom _ none) refl

    pub end_does : Ok tt ≡ answered (refuses r sheet_score end_period before.standing [] left) → k ≡ takes r sheet_score end_period before.standing [] → Does entries room (step r sheet_score end_period) before a after
    end_does passed same =
        let st = before.standing in
        let none = passed_by _ passed ∙ ap (λ m. refuses r sheet_score end_period st [] m) left_is in
        call_written end_period _ none same refl (has_room st.unsound (not (is_some st.period)) (leb (room before.book) 0) NoPeriodOpen NoRoom _ none) refl

    pub relief_does : (earlier : List Entry) → earlier ≡ entries before.book → Ok tt ≡ answered (refuses r sheet_score grant_relief before.standing earlier left)
        → k ≡ takes r sheet_score grant_relief before.standing [] → Does entries room (step r sheet_score grant_relief) before a after
    relief_does earlier whole passed same =
        let st = before.standing in
        let none = passed_by _ passed ∙ (λ i. refuses r sheet_score grant_relief st (whole i) (left_is i)) in
        call_written grant_relief _ none same refl (has_room st.unsound (is_some st.waiting) (leb (room before.book) 0) LotAwaits NoRoom _ none) refl
