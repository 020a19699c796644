-- One entry more of a book is replayed.
use Rattle.std.proofs.Common.{◌≡◌, ℕ, suc, ◌+◌, ◌<◌, ◌≤◌, Bool, true, false, cond, ◌==◌, ◌&&◌, List, [], ◌∷◌, ◌++◌, length, get_or, take, drop, is_some, Some, None, Option, sym, refl, ap, ◌∙◌, arith}
use Rattle.std.proofs.lemmas.List.{take_more, drop_more, drop_all}
use Rattle.std.proofs.lemmas.Bool.{true≢false}
use denote.Enum.Declared.{tag_of}
use Rattle.std.specs.Option.{option_eq}
use Rattle.inspection.specs.Statuses.{rank}
use Rattle.inspection.specs.contracts.kind.Kind.{the_type as the_kinds}
use Rattle.inspection.specs.contracts.status.Status.{the_type as the_statuses}
use Rattle.inspection.specs.contracts.verdict.Verdict.{the_type as the_verdicts}
use Rattle.inspection.specs.declared.kind.Kind.{Kind}
use Rattle.inspection.specs.declared.kind.Kind.TheVariants as kind
use Rattle.inspection.specs.declared.status.Status.{Status}
use Rattle.inspection.specs.declared.status.Status.TheVariants.{Normal, Tightened, Reduced}
use Rattle.inspection.specs.declared.verdict.Verdict.{Verdict}
use Rattle.inspection.specs.declared.verdict.Verdict.TheVariants.{Accepted, Rejected, Awaited, Full, Brief, Undecided}
use Rattle.inspection.specs.declared.refusal.Refusal.{Refusal}
use Rattle.entries.specs.declared.entry.Entry.{Entry}
use Rattle.entries.specs.Entries.{spoiled}
use Rattle.books.specs.Books.{numbered}
use Rattle.books.proofs.Numbering.{numbered_at}
use Rattle.regimes.specs.Rules.{Rules}
use Rattle.runs.specs.declared.standing.Standing.{Standing}
use Rattle.runs.specs.declared.standing.Taken.{Taken}
use Rattle.runs.specs.History.{Call}
use Rattle.runs.specs.Lines.{due_number, with_slip, refuses, takes}
use Rattle.runs.specs.Runs.{is_entry, kind_code, verdict_code, same_tally, call_for, showing, unsound_at, held_to, replayed_by, replay_one, replay_on}
use Rattle.runs.proofs.Slips.{moved_number}
use Rattle.line.proofs.ReadBack.{some_same, some_not_none}
use Rattle.line.specs.Replaying.{taken_unless, left_by, retaken_by, retaken}

kind_tag : (k : Kind) → tag_of the_kinds k ≡ kind_code k
kind_tag kind.PeriodOpened = refl
kind_tag kind.Portion = refl
kind_tag kind.PeriodEnded = refl
kind_tag kind.Lot = refl
kind_tag kind.SecondSample = refl
kind_tag kind.Relief = refl
kind_tag kind.IrregularNotice = refl
kind_tag kind.Spoiled = refl

status_tag : (s : Status) → tag_of the_statuses s ≡ rank s
status_tag Normal = refl
status_tag Tightened = refl
status_tag Reduced = refl

verdict_tag : (v : Verdict) → tag_of the_verdicts v ≡ verdict_code v
verdict_tag Accepted = refl
verdict_tag Rejected = refl
verdict_tag Awaited = refl
verdict_tag Full = refl
verdict_tag Brief = refl
verdict_tag Undecided = refl

-- the derived equality of entries
abbrev pub tags_alike : Entry → Entry → Bool
tags_alike x e =
    tag_of the_kinds x.kind == tag_of the_kinds e.kind
    && (tag_of the_statuses x.status == tag_of the_statuses e.status
    && (tag_of the_verdicts x.verdict == tag_of the_verdicts e.verdict && (x.lot_size == e.lot_size && (x.units == e.units && same_tally x.tally e.tally))))

pub wrote_entry : (o : Option Entry) (e : Entry) → option_eq tags_alike o (Some e) ≡ is_entry e o
wrote_entry None e = refl
wrote_entry (Some x) e =
    λ i. kind_tag x.kind i == kind_tag e.kind i && (status_tag x.status i == status_tag e.status i && (verdict_tag x.verdict i == verdict_tag e.verdict i && (x.lot_size == e.lot_size && (x.units == e.units && same_tally x.tally e.tally))))

-- where the call wrote the entry, the line is left as it left it
pub left_written : {C : Type 0} (e : Entry) (o : Option (Taken C)) (k : Taken C) (bad : Standing C) → o ≡ Some k → true ≡ option_eq tags_alike k.writes (Some e) → with_slip false k.standing ≡ left_by e o bad
left_written e o k bad is wrote = ap (λ b. cond b (with_slip false k.standing) bad) (wrote ∙ wrote_entry k.writes e) ∙ ap (λ o. left_by e o bad) (sym is)

module _ {C : Type 0} (r : Rules C) (st : Standing C) (es : List Entry) (e : Entry) where
  left_held : (x : Option Refusal) (k : Taken C) (bad : Standing C) → left_by e (taken_unless x k) bad ≡ held_to e x k bad
  left_held None k bad = refl
  left_held (Some x) k bad = refl

  left_replayed : (o : Option Call) → left_by e (retaken_by r o e (with_slip true st) es) (unsound_at (length es + 1) st) ≡ replayed_by r o e st es
  left_replayed None = refl
  left_replayed (Some c) =
      left_held (refuses r (showing e.tally) c (with_slip true st) es 1) (takes r (showing e.tally) c (with_slip true st) es) (unsound_at (length es + 1) st)

  none_there : (o : Option ℕ) → false ≡ is_some o → None ≡ o
  none_there None f = refl
  none_there (Some n) f = absurd (true≢false (sym f))

  -- the code's way to the standing after the entry
  pub replayed : (n : ℕ) (k : Option (Taken C)) (bad : Standing C) → false ≡ is_some st.unsound → n ≡ length es + 1 → k ≡ retaken r e (with_slip true st) es → bad ≡ unsound_at n st
      → left_by e k bad ≡ replay_one r st es e
  replayed n k bad sound number taken unsound =
      let call = call_for r.portions e.kind e.lot_size (due_number st.waiting) in
      (λ i. left_by e (taken i) ((unsound ∙ ap (λ m. unsound_at m st) number) i))
      ∙ ap (λ m. left_by e (retaken_by r (call_for r.portions e.kind e.lot_size m) e (with_slip true st) es) (unsound_at (length es + 1) st)) (moved_number true st.waiting)
      ∙ left_replayed call
      ∙ ap (λ o. elim o [ Some m ↦ st | None ↦ replayed_by r call e st es ]) (none_there st.unsound sound)

module _ (i : ℕ) (es : List Entry) (there : i < length es) where
  numbered_there : (d : Entry) → Some (get_or es i d) ≡ numbered (i + 1) es
  numbered_there d = let next : suc i ≡ i + 1 = omega arith in numbered_at i es d there ∙ ap (λ k. numbered k es) next

  pub not_missing : None ≡ numbered (i + 1) es → ⊥
  not_missing none = some_not_none (numbered_there spoiled ∙ sym none)

  -- what is left gives the answer, also after one entry more
  pub replay_more : {C : Type 0} (r : Rules C) (st next answer : Standing C) (e : Entry) → Some e ≡ numbered (i + 1) es → next ≡ replay_one r st (take i es) e
      → replay_on r st (take i es) (drop i es) ≡ answer → replay_on r next (take (i + 1) es) (drop (i + 1) es) ≡ answer
  replay_more {C} r st next answer e found is so_far =
      let stands : get_or es i e ≡ e = some_same (numbered_there e ∙ sym found) in
      let taken : take (i + 1) es ≡ take i es ++ e ∷ [] = take_more es i e there ∙ ap (λ x. take i es ++ x ∷ []) stands in
      let left : drop i es ≡ e ∷ drop (i + 1) es = drop_more es i e there ∙ ap (λ x. x ∷ drop (i + 1) es) stands in
      (λ j. replay_on r (is j) (taken j) (drop (i + 1) es)) ∙ sym (ap (replay_on r st (take i es)) left) ∙ so_far

pub replay_done : {C : Type 0} (r : Rules C) (i : ℕ) (st answer : Standing C) (es : List Entry) → length es ≤ i → replay_on r st (take i es) (drop i es) ≡ answer → st ≡ answer
replay_done r i st answer es all so_far = sym (ap (replay_on r st (take i es)) (drop_all i es all)) ∙ so_far
