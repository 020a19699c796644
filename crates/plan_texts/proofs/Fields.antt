-- Fields of a plan line, one after another.
use Rattle.std.proofs.Common.{◌≡◌, ℕ, ◌+◌, ◌-◌, ◌≤◌, Bool, eqb, ne_eqb, List, [], ◌∷◌, length, get_or, take, drop, Some, None, Option, sym, ap, ◌∙◌, add-one, arith}
use Rattle.std.proofs.lemmas.List.{take_rest}
use Rattle.std.proofs.lemmas.Bool.{eq-eqb, cond-true}
use Rattle.std.specs.Bool.{then_some}
use Rattle.std.specs.Option.{option_map, option_and_then}
use Rattle.decimals.specs.Digits.{number, clipped}
use Rattle.inspection.specs.Letters.{status_of}
use Rattle.inspection.specs.declared.status.Status.{Status}
use Rattle.texts.specs.Texts.{Free, FirstAt}
use Rattle.texts.proofs.Cuts.{parted_cut, parted_none}
use Rattle.plans.specs.declared.rows.LotRow.{LotRow}
use Rattle.plan_texts.specs.RowLines.{with_rest, number_to, at_end, lot_row_in, lot_in}

-- a number that is parted off, with what follows it
abbrev numbered : Option (List ℕ × List ℕ) → Option (ℕ × List ℕ)
numbered = option_and_then (λ p. with_rest p.1 (number p.0))

pub no_end : (x : ℕ) (bs : List ℕ) → Free x (length bs) bs → number_to x bs ≡ None
unfolding number_to
no_end x bs f = ap numbered (parted_none x bs f)

number_cut : (x : ℕ) (bs : List ℕ) (i : ℕ) → FirstAt x i bs → number_to x bs ≡ with_rest (drop (i + 1) bs) (number (take i bs))
unfolding number_to
number_cut x bs i f = ap numbered (parted_cut x bs i f.0 f.1 f.2) ∙ ap (λ k. with_rest (drop k bs) (number (take i bs))) (sym (add-one i))

-- what the clipped number says of the number itself
with_rest_by : (rest : List ℕ) (o : Option ℕ) (r : Option ℕ) → r ≡ option_map clipped o → with_rest rest o ≡ elim r [ Some n ↦ Some (n, rest) | None ↦ None ]
with_rest_by rest None r e = ap (λ q. elim q [ Some n ↦ Some (n, rest) | None ↦ None ]) (sym e)
with_rest_by rest (Some n) r e = ap (λ q. elim q [ Some n ↦ Some (n, rest) | None ↦ None ]) (sym e)

pub no_number : (x : ℕ) (bs : List ℕ) (i : ℕ) → FirstAt x i bs → None ≡ option_map clipped (number (take i bs)) → number_to x bs ≡ None
no_number x bs i f e = number_cut x bs i f ∙ with_rest_by (drop (i + 1) bs) (number (take i bs)) None e

pub one_number : (x : ℕ) (bs : List ℕ) (i n : ℕ) → FirstAt x i bs → Some n ≡ option_map clipped (number (take i bs)) → number_to x bs ≡ Some (n, take (length bs - (i + 1)) (drop (i + 1) bs))
one_number x bs i n f e = rw (take_rest bs (i + 1)) (number_cut x bs i f ∙ with_rest_by (drop (i + 1) bs) (number (take i bs)) (Some n) e)

-- what is read where nothing follows
pub at_end_then : {X : Type 0} (bs : List ℕ) (x : X) (t : Bool) → t ≡ eqb (length bs) 0 → then_some t x ≡ at_end bs x
at_end_then [] x t e = ap (λ b. then_some b x) e
at_end_then (b ∷ bs) x t e = ap (λ b. then_some b x) (e ∙ ne_eqb (length (b ∷ bs)) 0 (omega arith))

-- a status letter and a tab stand before the row
pub lot_in_by : (bs : List ℕ) (s : Status) (r : Option LotRow) → 2 ≤ length bs → get_or bs 1 0 ≡ 9 → Some s ≡ status_of (get_or bs 0 0) → r ≡ lot_row_in s (take (length bs - 2) (drop 2 bs)) → r ≡ lot_in bs
lot_in_by [] s r le tab e f = absurd (omega arith)
lot_in_by (a ∷ []) s r le tab e f = absurd (omega arith)
lot_in_by (a ∷ b ∷ bs) s r le tab e f =
    f ∙ ap (lot_row_in s) (take_rest (a ∷ b ∷ bs) 2) ∙ ap (option_and_then (λ status. lot_row_in status bs)) e ∙ sym (cond-true (eqb b 9) (option_and_then (λ status. lot_row_in status bs) (status_of a)) None (eq-eqb b 9 tab))
