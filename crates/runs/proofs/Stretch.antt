-- The values that a stretch leaves, and the verdict on its newest portion.
use Rattle.std.proofs.Common.{◌≡◌, ◌<◌, Bool, true, false, cond, List, [], ◌∷◌, ◌++◌, length, get_or, sym, refl, arith}
use Rattle.std.proofs.lemmas.List.{length-append}
use Rattle.inspection.specs.Statuses.{same_status}
use Rattle.inspection.specs.declared.status.Status.{Status}
use Rattle.inspection.specs.declared.status.Status.TheVariants.{Normal, Tightened, Reduced}
use Rattle.inspection.specs.declared.tally.Tally.{Tally}
use Rattle.inspection.specs.declared.verdict.Verdict.TheVariants.{Undecided}
use Rattle.regimes.specs.Portions.{portion_judged, starting_values, values_on, verdicts_on, values_after, verdicts_of}
use Rattle.regimes.specs.Portions.{Values}
use Rattle.runs.specs.Spells.{turned}

values_push : (s : Status) (v : Values) (xs : List Tally) (t : Tally) → values_on s v (xs ++ t ∷ []) ≡ (portion_judged s t (values_on s v xs)).1
values_push s v [] t = refl
values_push s v (x ∷ xs) t = values_push s (portion_judged s x v).1 xs t

verdict_last : (s : Status) (v : Values) (xs : List Tally) (t : Tally) → get_or (verdicts_on s v (xs ++ t ∷ [])) (length xs) Undecided ≡ (portion_judged s t (values_on s v xs)).0
verdict_last s v [] t = refl
verdict_last s v (x ∷ xs) t = verdict_last s (portion_judged s x v).1 xs t

-- the verdict on the portion after a stretch is the one that rows give it
pub newest_verdict : (s : Status) (xs : List Tally) (t : Tally) → get_or (verdicts_of s (xs ++ t ∷ [])) (length xs) Undecided ≡ (portion_judged s t (values_after s xs)).0
newest_verdict s xs t = verdict_last s (starting_values s) xs t

pub newest_within : (xs : List Tally) (t : Tally) → length xs < length (xs ++ t ∷ [])
newest_within xs t = omega (arith, length-append xs (t ∷ []))

-- the carried values after a portion, which turns the status or not
pub carry_then : (b : Bool) (s : Status) (xs : List Tally) (t : Tally)
    → cond b (starting_values (turned s)) (portion_judged s t (values_after s xs)).1 ≡ values_after (cond b (turned s) s) (cond (same_status (cond b (turned s) s) s) (xs ++ t ∷ []) [])
carry_then true Normal xs t = refl
carry_then true Tightened xs t = refl
carry_then true Reduced xs t = refl
carry_then false Normal xs t = sym (values_push Normal (starting_values Normal) xs t)
carry_then false Tightened xs t = sym (values_push Tightened (starting_values Tightened) xs t)
carry_then false Reduced xs t = sym (values_push Reduced (starting_values Reduced) xs t)
