-- Reading a plan text row by row, and what a text that is taken keeps.
use Rattle.std.proofs.Common.{◌≡◌, ℕ, Bool, true, false, cond, List, [], ◌∷◌, ◌++◌, Some, None, Ok, Option, Result, sym, refl, ap, ◌∙◌, subst, rules}
use Rattle.std.specs.Option.{option_or}
use Rattle.std.proofs.lemmas.List.{append_assoc, append-nil}
use Rattle.std.proofs.lemmas.Bool.{and_from}
use Rattle.inspection.specs.declared.refusal.Refusal.{Refusal}
use Rattle.inspection.specs.declared.refusal.Refusal.TheVariants.{PlanBoundBroken, PlanRowOutOfOrder, PlanRowCountsWrong}
use Rattle.texts.specs.Pieces.{Piece, number_of, pieces}
use Rattle.plans.specs.declared.rows.LotRow.{LotRow}
use Rattle.plans.specs.declared.rows.LimitRow.{LimitRow}
use Rattle.plan_texts.specs.declared.row.Row.{Row}
use Rattle.plan_texts.specs.declared.row.Row.TheVariants.{Lot, Limit}
use Rattle.plans.specs.Plans.{lot_row_kept, limit_row_kept, lot_row_follows, limit_row_follows, each, in_order, counts_kept, keeps}
use Rattle.plan_texts.specs.PlanTexts.{Rows, row_kept, follows_after, fault_of, fault, first_bad, lot_of, limit_of, lot_said, limit_said, lots_said, limits_said, counted, unless, plan_of}
use Rattle.plan_texts.specs.RowLines.{row_of}

-- what comes of the lines ps after these rows, the last of them `last`
abbrev pub going : List LotRow → List LimitRow → Option Row → List Piece → Result Rows Refusal
going lots limits last ps =
    unless (option_or (first_bad last ps) (counted (lots ++ lots_said ps) (limits ++ limits_said ps))) (lots ++ lots_said ps, limits ++ limits_said ps)

-- one good line more
pub going_more : (lots : List LotRow) (limits : List LimitRow) (last : Option Row) (row : Row) (p : Piece) (ps qs : List Piece) (more : List LotRow) (further : List LimitRow) (now : Option Row) → qs ≡ p ∷ ps → fault last p ≡ None → row_of p ≡ Some row → more ≡ lots ++ lot_of row → further ≡ limits ++ limit_of row → now ≡ Some row → going lots limits last qs ≡ going more further now ps
going_more lots limits last row p ps qs more further now split good says is fur nw =
    let lotsNow : lots ++ lots_said (p ∷ ps) ≡ more ++ lots_said ps = ap (λ o. lots ++ lot_said o (lots_said ps)) says ∙ sym (append_assoc lots (lot_of row) (lots_said ps)) ∙ ap (λ l. l ++ lots_said ps) (sym is) in
    let limitsNow : limits ++ limits_said (p ∷ ps) ≡ further ++ limits_said ps = ap (λ o. limits ++ limit_said o (limits_said ps)) says ∙ sym (append_assoc limits (limit_of row) (limits_said ps)) ∙ ap (λ l. l ++ limits_said ps) (sym fur) in
    let bad : first_bad last (p ∷ ps) ≡ first_bad now ps = ap (λ o. option_or o (first_bad (row_of p) ps)) good ∙ ap (λ o. first_bad o ps) (says ∙ sym nw) in
    ap (going lots limits last) split ∙ (λ i. unless (option_or (bad i) (counted (lotsNow i) (limitsNow i))) (lotsNow i, limitsNow i))

-- the last line is read
pub going_end : (lots : List LotRow) (limits : List LimitRow) (last : Option Row) (qs : List Piece) → qs ≡ [] → going lots limits last qs ≡ unless (counted lots limits) (lots, limits)
going_end lots limits last qs none =
    ap (going lots limits last) none ∙ (λ i. unless (counted (append-nil lots i) (append-nil limits i)) (append-nil lots i, append-nil limits i))

-- no lot row comes after a limit row
abbrev lots_wait : Option Row → List LotRow → Type 0
lots_wait None rows = Unit {0}
lots_wait (Some (Lot r)) rows = Unit {0}
lots_wait (Some (Limit r)) rows = rows ≡ []

-- what holds of rows that were read after `last` without a bad line
record Kept (last : Option Row) (lots : List LotRow) (limits : List LimitRow) : Type 0 where
  lots_kept : each lot_row_kept lots ≡ true
  limits_kept : each limit_row_kept limits ≡ true
  lots_order : in_order lot_row_follows (lot_said last lots) ≡ true
  limits_order : in_order limit_row_follows (limit_said last limits) ≡ true
  no_lots : lots_wait last lots

kept_more : (last : Option Row) (r : Row) (lots : List LotRow) (limits : List LimitRow) → row_kept r ≡ true → follows_after last r ≡ true → Kept (Some r) lots limits → Kept last (lot_said (Some r) lots) (limit_said (Some r) limits)
kept_more None (Lot w) lots limits k f h = search (rules, and_from)
kept_more None (Limit m) lots limits k f h = search (rules, and_from)
kept_more (Some (Lot a)) (Lot w) lots limits k f h = search (rules, and_from)
kept_more (Some (Lot a)) (Limit m) lots limits k f h = search (rules, and_from)
kept_more (Some (Limit a)) (Lot w) lots limits k f h = cc
kept_more (Some (Limit a)) (Limit m) lots limits k f h = search (rules, and_from)

kept_said : (last : Option Row) (ps : List Piece) → first_bad last ps ≡ None → Kept last (lots_said ps) (limits_said ps)
kept_said None [] e = search rules
kept_said (Some (Lot r)) [] e = search rules
kept_said (Some (Limit r)) [] e = search rules
kept_said last (p ∷ ps) e = by (row_of p) (λ o. kept_said o ps) e
  where
    by_tests : (r : Row) (k : Bool) → row_kept r ≡ k → (f : Bool) → follows_after last r ≡ f → option_or (cond k (cond f None (Some (PlanRowOutOfOrder (number_of p)))) (Some (PlanBoundBroken (number_of p)))) (first_bad (Some r) ps) ≡ None → (first_bad (Some r) ps ≡ None → Kept (Some r) (lots_said ps) (limits_said ps)) → Kept last (lot_said (Some r) (lots_said ps)) (limit_said (Some r) (limits_said ps))
    by_tests r true k true f e h = kept_more last r (lots_said ps) (limits_said ps) k f (h e)
    by_tests r true k false f e h = cc
    by_tests r false k f g e h = cc

    by : (o : Option Row) → ((o : Option Row) → first_bad o ps ≡ None → Kept o (lots_said ps) (limits_said ps)) → option_or (fault_of last (number_of p) o) (first_bad o ps) ≡ None → Kept last (lot_said o (lots_said ps)) (limit_said o (limits_said ps))
    by None h e = cc
    by (Some r) h e = by_tests r (row_kept r) refl (follows_after last r) refl e (h (Some r))

-- the rows of a text that is taken keep all that is asked of a plan
pub plan_keeps : (text : List ℕ) (lots : List LotRow) (limits : List LimitRow) → plan_of text ≡ Ok (lots, limits) → keeps lots limits ≡ true
plan_keeps text lots limits e =
    by (first_bad None (pieces text)) refl (counts_kept (lots_said (pieces text)) (limits_said (pieces text))) refl e
  where
    by : (bad : Option Refusal) → first_bad None (pieces text) ≡ bad → (k : Bool) → counts_kept (lots_said (pieces text)) (limits_said (pieces text)) ≡ k → unless (option_or bad (cond k None (Some PlanRowCountsWrong))) (lots_said (pieces text), limits_said (pieces text)) ≡ Ok (lots, limits) → keeps lots limits ≡ true
    by None b true k e =
        let same : ◌≡◌ {A = Rows} (lots_said (pieces text), limits_said (pieces text)) (lots, limits) = cc in
        let h = kept_said None (pieces text) b in
        subst (λ q. keeps q.0 q.1 ≡ true) same (and_from _ _ (and_from _ _ (and_from _ _ h.lots_kept h.limits_kept) (and_from _ _ h.lots_order h.limits_order)) k)
    by None b false k e = cc
    by (Some r) b k g e = cc

-- so do the rows that are read when the last line is
pub plan_read : (text : List ℕ) (lots : List LotRow) (limits : List LimitRow) (last : Option Row) (qs : List Piece) → going lots limits last qs ≡ plan_of text → qs ≡ [] → counts_kept lots limits ≡ true → keeps lots limits ≡ true
plan_read text lots limits last qs h none k =
    plan_keeps text lots limits (sym h ∙ going_end lots limits last qs none ∙ ap (λ t. unless (cond t None (Some PlanRowCountsWrong)) (lots, limits)) k)
