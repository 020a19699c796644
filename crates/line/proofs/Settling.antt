-- A call settled by what the book answered, and calls put together from what refuses them and what they come to.
use Rattle.std.proofs.Common.{◌≡◌, ℕ, true, false, List, Some, None, Ok, Err, Option, Result, sym, refl, ap, ◌∙◌, subst, arith}
use Rattle.std.proofs.lemmas.Result.{err_from_is_err_and}
use Rattle.std.specs.Result.{IsErrAnd}
use Rattle.books.specs.Books as books
use Rattle.inspection.specs.declared.refusal.Refusal.{Refusal}
use Rattle.entries.specs.declared.entry.Entry.{Entry}
use Rattle.regimes.specs.Rules.{Rules}
use Rattle.runs.specs.declared.standing.Reply.{Reply}
use Rattle.runs.specs.declared.standing.Standing.{Standing}
use Rattle.runs.specs.declared.standing.Taken.{Taken}
use Rattle.runs.specs.History.{Call}
use Rattle.runs.specs.Lines.{settled, put, left, refuses, step}
use Rattle.runs.specs.Writing.{sheet_score}
use Rattle.line.specs.declared.line.Line.{Line}
use Rattle.line.specs.Doing.{ComesTo, Does, add_refusal, booked}

pub never : {P : Type 0} → false ≡ true → P
never e = let z : ◌≡◌ {A = ℕ} 0 1 = cc in absurd (omega arith)

-- what an answer says of the refusals
pub refused_by : (o : Option Refusal) (x : Refusal) → Err x ≡ books.answered o → Some x ≡ o
refused_by None x e = let z : ◌≡◌ {A = ℕ} 0 1 = cc in absurd (omega arith)
refused_by (Some y) x e = let same : x ≡ y = cc in ap {B = Option Refusal} (λ t. Some t) same

pub passed_by : (o : Option Refusal) → Ok tt ≡ books.answered o → None ≡ o
passed_by None e = refl
passed_by (Some y) e = let z : ◌≡◌ {A = ℕ} 0 1 = cc in absurd (omega arith)

-- what the exit of a `?` answers
pub failed_with : {T : Type 0} (x : Refusal) (a : Result T Refusal) → IsErrAnd a (λ y. y ≡ x) → a ≡ Err x
failed_with x a failed = let err = err_from_is_err_and a failed in err.1 ∙ ap (λ t. Err t) err.2

module _ {R B C : Type 0} (entries : B → List Entry) (room : B → ℕ) (line : Line R B C) where
  abbrev with_book : B → Standing C → Line R B C
  with_book b st = record { regime = line.regime; book = b; standing = st }

  -- a refused call leaves all as it was
  pub refused_does : (r : Rules C) (c : Call) (x : Refusal) (a : Result Reply Refusal) → IsErrAnd a (λ y. y ≡ x) → Some x ≡ refuses r sheet_score c line.standing (entries line.book) (room line.book) → Does entries room (step r sheet_score c) line a line
  refused_does r c x a failed why = let is = failed_with x a failed in record { call = search (is, why); same = λ _. refl; regime = refl }

  -- as the check before it found, where `found` is the book's room
  pub check_does : (r : Rules C) (c : Call) (found : ℕ) (x : Refusal) (a : Result Reply Refusal) → IsErrAnd a (λ y. y ≡ x) → found ≡ room line.book → Err x ≡ books.answered (refuses r sheet_score c line.standing (entries line.book) found)
      → Does entries room (step r sheet_score c) line a line
  check_does r c found x a failed is why = refused_does r c x a failed (refused_by _ x why ∙ ap (refuses r sheet_score c line.standing (entries line.book)) is)

  module _ (k : Taken C) where
    pub book_refused : (e : Entry) (x : Refusal) (a : Result Reply Refusal) (b : B) → k.writes ≡ Some e → Err x ≡ books.answered (books.refusal (room line.book) e) → b ≡ line.book → IsErrAnd a (λ y. y ≡ x) → Does entries room (booked k) line a (with_book b line.standing)
    book_refused e x a b w q s failed =
        let st = line.standing in
        let es = entries line.book in
        let n = room line.book in
        let refused : add_refusal n k.writes ≡ Some x = ap (add_refusal n) w ∙ sym (refused_by (books.refusal n e) x q) in
        subst (λ t. Does entries room (booked k) line a (with_book t st)) (sym s) (record {
          call = subst (λ o. ComesTo (settled o k st es n) a st es n) (sym refused) (failed_with x a failed, refl, refl, refl);
          same = λ _. refl;
          regime = refl;
        })

    pub book_wrote : (e : Entry) (b : B) → k.writes ≡ Some e → Ok tt ≡ books.answered (books.refusal (room line.book) e) → entries b ≡ books.put (books.refusal (room line.book) e) (entries line.book) e → room b ≡ books.left (books.refusal (room line.book) e) (room line.book)
        → Does entries room (booked k) line (Ok k.reply) (with_book b k.standing)
    book_wrote e b w q r s =
        let st = line.standing in
        let es = entries line.book in
        let n = room line.book in
        let free : None ≡ books.refusal n e = passed_by (books.refusal n e) q in
        record {
          call = subst (λ o. ComesTo (settled o k st es n) (Ok k.reply) k.standing (entries b) (room b)) (free ∙ ap (add_refusal n) (sym w)) (refl, refl, r ∙ ap (λ o. books.put o es e) (sym free) ∙ ap (λ o. put o es) (sym w), s ∙ ap (λ o. books.left o n) (sym free) ∙ ap (λ o. left o n) (sym w));
          same = never;
          regime = refl;
        }

    pub wrote_none : k.writes ≡ None → Does entries room (booked k) line (Ok k.reply) (with_book line.book k.standing)
    wrote_none w =
        let st = line.standing in
        let es = entries line.book in
        let n = room line.book in
        record {
          call = subst (λ o. ComesTo (settled (add_refusal n o) k st es n) (Ok k.reply) k.standing es n) (sym w) (refl, refl, ap (λ o. put o es) (sym w), ap (λ o. left o n) (sym w));
          same = never;
          regime = refl;
        }
