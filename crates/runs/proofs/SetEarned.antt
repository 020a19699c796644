-- What a line does that is set on any sound book is the end of an earned run.
use Rattle.std.proofs.Common.{◌≡◌, ℕ, ◌+◌, ◌≤◌, Bool, true, false, cond, List, [], ◌∷◌, ◌++◌, length, Some, None, Option, Result, sym, refl, ap, ◌∙◌, subst, subst₂}
use Rattle.inspection.specs.declared.tally.Tally.{Tally}
use Rattle.entries.specs.declared.entry.Entry.{Entry}
use Rattle.inspection.specs.declared.refusal.Refusal.{Refusal}
use Rattle.runs.specs.History.{Call, Event, Fixed, slip_is_out}
use Rattle.runs.specs.Earned.{Earned}
use Rattle.regimes.specs.Rules.{Rules}
use Rattle.runs.specs.declared.standing.Standing.{Standing}
use Rattle.runs.specs.declared.standing.Taken.{Taken}
use Rattle.runs.specs.Lines.{is_out, with_slip, refuses, takes, due_number, step}
use Rattle.regimes.specs.Portions.{on_line_rules}
use Rattle.runs.specs.Regimes.{lots_rules, on_line_fixed, lots_fixed}
use Rattle.runs.specs.Runs.{Run, go, run, fresh, is_entry, call_for, showing, unsound_at, held_to, replayed_by, replay_one, replay_on, replay, Served, Each}
use Rattle.runs.specs.Setting.{Shows}
use Rattle.runs.proofs.Slips.{moved_in}
use Rattle.runs.proofs.Keeping.{ev}
use Rattle.runs.proofs.OnLine.{earned_on_line}
use Rattle.runs.proofs.Lots.{earned_lots}
use Rattle.runs.proofs.Books.{go_on, each_on, set_on_a_run}
use Rattle.runs.proofs.Stated.{SetEarned, SetEarnedOnLine, SetEarnedLots}

-- a line that is newly set has no slip out
module _ {C : Type 0} (r : Rules C) where
  held_in : (e : Entry) (o : Option Refusal) (k : Taken C) (bad : Standing C) → is_out bad.waiting ≡ false → is_out (held_to e o k bad).waiting ≡ false
  held_in e (Some x) k bad h = h
  held_in e None k bad h = by (is_entry e k.writes)
    where
      by : (b : Bool) → is_out (cond b (with_slip false k.standing) bad).waiting ≡ false
      by true = moved_in k.standing.waiting
      by false = h

  one_in : (st : Standing C) (es : List Entry) (e : Entry) → is_out st.waiting ≡ false → is_out (replay_one r st es e).waiting ≡ false
  one_in st es e h = by st.unsound (call_for r.portions e.kind e.lot_size (due_number st.waiting))
    where
      by : (o : Option ℕ) (c : Option Call) → is_out (let x : Standing C = elim o [ Some n ↦ st | None ↦ replayed_by r c e st es ] in x).waiting ≡ false
      by (Some n) c = h
      by None None = moved_in st.waiting
      by None (Some c) = held_in e (refuses r (showing e.tally) c (with_slip true st) es 1) (takes r (showing e.tally) c (with_slip true st) es) (unsound_at (length es + 1) st) (moved_in st.waiting)

  on_in : (later : List Entry) (st : Standing C) (es : List Entry) → is_out st.waiting ≡ false → is_out (replay_on r st es later).waiting ≡ false
  on_in [] st es h = h
  on_in (e ∷ later) st es h = on_in later (replay_one r st es e) (es ++ e ∷ []) (one_in st es e h)

  pub replay_in : (es : List Entry) → is_out (replay r es).waiting ≡ false
  replay_in es = on_in es (fresh r) [] refl

module _ {C : Type 0} (r : Rules C) (score : ℕ → List ℕ → Result Tally Refusal) where
  -- the history before a run does not matter to it
  over : (cs : List Call) (k h : List Event) (st : Standing C) (es : List Entry) (n : ℕ)
      → go r score cs (k ++ h) st es n ≡ record { events = (go r score cs k st es n).events ++ h; standing = (go r score cs k st es n).standing; entries = (go r score cs k st es n).entries; room = (go r score cs k st es n).room }
  over [] k h st es n = refl
  over (c ∷ cs) k h st es n =
      let o = step r score c st es n in
      over cs (ev c o.answer ∷ k) h o.standing o.entries o.room

  module _ (fixed : ℕ → Fixed) (shows : Shows r score)
      (earned : (room : ℕ) → room ≤ 9999999 → (calls : List Call) → Each (Served r) calls → Earned (fixed room) (run r score calls room).events (run r score calls room).entries (run r score calls room).room × (is_out (run r score calls room).standing.waiting ≡ slip_is_out (fixed room) (run r score calls room).events)) where
    pub set_earned : SetEarned r fixed score
    set_earned es room few h =
        let p = set_on_a_run r score shows es room h in
        let all = length es + room in
        let x = run r score p.0 all in (
          x.events,
          subst₂ (λ l m. Earned (fixed all) x.events l m) p.3 p.4 (earned all few p.0 p.1).0,
          sym (earned all few p.0 p.1).1 ∙ ap (λ (s : Standing C). is_out s.waiting) p.2 ∙ replay_in r es,
          λ calls sv.
              let q : run r score (p.0 ++ calls) all ≡ go r score calls x.events (replay r es) es room =
              go_on r score p.0 calls [] (fresh r) [] all ∙ (λ i. go r score calls x.events (p.2 i) (p.3 i) (p.4 i)) in
              let w = q ∙ over calls [] x.events (replay r es) es room in
              let e = (earned all few (p.0 ++ calls) (each_on r score (Served r) p.0 calls p.1 sv)).0 in
              subst (λ (u : Run C). Earned (fixed all) u.events u.entries u.room) w e,
        )

pub set_earned_on_line : SetEarnedOnLine
set_earned_on_line score shows = set_earned on_line_rules score (on_line_fixed score) shows (λ room few calls sv. earned_on_line score room few calls sv)

pub set_earned_lots : SetEarnedLots
set_earned_lots row limits kept score shows = set_earned (lots_rules row limits) score (lots_fixed row limits score) shows (λ room few calls sv. earned_lots row limits kept score room few calls sv)
