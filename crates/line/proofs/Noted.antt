-- What calls come to, as the code finds it.
use Rattle.std.proofs.Common.{◌≡◌, ℕ, ◌-◌, min, Bool, true, false, cond, List, length, drop, ap, ◌∙◌, arith}
use Rattle.std.proofs.lemmas.List.{length-drop, drop-drop}
use Rattle.entries.specs.declared.entry.Entry.{Entry}
use Rattle.inspection.specs.declared.status.Status.{Status}
use Rattle.regimes.specs.Rules.{Rules}
use Rattle.runs.specs.declared.standing.Standing.{Standing}
use Rattle.runs.specs.History.{Article, verdicts}
use Rattle.runs.specs.Lines.{counted_on, in_spell, last_articles, turned_to}
use Rattle.runs.specs.Spells.{breaks, turned}
use Rattle.line.specs.Doing.{article_noted}

module _ {C : Type 0} (r : Rules C) (st : Standing C) (entries : List Entry) (rejected : Bool) (c : C) where
  abbrev turning : Bool
  turning = breaks r.window r.most_rejected st.status (verdicts (in_spell r st entries)) rejected

  -- the standing by the answer to the one question
  abbrev pub noted_by : Bool → Standing C
  noted_by b = record st { status = cond b (turned st.status) st.status; spell = cond b 0 (counted_on st.spell); carried = cond b (r.starts (turned st.status)) c }

  pub noted_turned : (s : Status) (after : Standing C) → s ≡ turned st.status → after ≡ turned_to r s st → true ≡ turning → after ≡ article_noted r st entries rejected c
  noted_turned s after es is e = is ∙ ap (λ s. turned_to r s st) es ∙ ap noted_by e

  pub noted_kept : (n : ℕ) → n ≡ counted_on st.spell → false ≡ turning → (let x : Standing C = record st { spell = n; carried = c } in x) ≡ article_noted r st entries rejected c
  noted_kept n en e = ap (λ m. (let x : Standing C = record st { spell = m; carried = c } in x)) en ∙ ap noted_by e

-- the last of the last are the last of all
pub last_last : (n m : ℕ) (xs : List Article) → last_articles n (last_articles m xs) ≡ last_articles (min n m) xs
last_last n m xs =
    let len = length-drop (length xs - m) xs in
    drop-drop (length (last_articles m xs) - n) (length xs - m) xs ∙ ap (λ k. drop k xs) (omega (arith, len))
