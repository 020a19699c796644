-- Soundness entry by entry: a book is sound where the line could have written each of its entries after those before it.
use Rattle.std.specs.Prelude.{◌≡◌, ℕ, ◌+◌, Bool, ◌↔◌, List, ◌∷◌, ◌++◌, length, Some, None, Result}
use Rattle.inspection.specs.declared.refusal.Refusal.{Refusal}
use Rattle.inspection.specs.declared.tally.Tally.{Tally}
use Rattle.entries.specs.declared.entry.Entry.{Entry}
use Rattle.plans.specs.declared.plan_book.PlanBook.{PlanBook}
use Rattle.regimes.specs.Portions.{on_line_rules}
use Rattle.regimes.specs.Rules.{Rules}
use Rattle.runs.specs.History.{Call}
use Rattle.runs.specs.Lines.{with_slip, refuses, takes}
use Rattle.runs.specs.Runs.{replay, Served, Bounded}
use Rattle.runs.specs.Setting.{Shows}
use Rattle.runs.specs.Writing.{sheet_score, plan_rules}

-- some call that the line serves, made on the line as the entries es leave it, with its slip out or not and with some room, is accepted and
-- writes the entry e
pub record CouldWrite {C : Type 0} (r : Rules C) (score : ℕ → List ℕ → Result Tally Refusal) (es : List Entry) (e : Entry) : Type 0 where
  pub call : Call
  pub slip_out : Bool
  pub room : ℕ
  pub served : Served r call
  pub accepted : refuses r score call (with_slip slip_out (replay r es)) es room ≡ None
  pub written : (takes r score call (with_slip slip_out (replay r es)) es).writes ≡ Some e

-- each of the entries could be written after those before it
abbrev pub EachCouldBeWritten : {C : Type 0} → Rules C → (ℕ → List ℕ → Result Tally Refusal) → List Entry → Type 0
EachCouldBeWritten r score es = (a : List Entry) (e : Entry) (z : List Entry) → es ≡ a ++ e ∷ z → CouldWrite r score a e

-- the entry with the number k is the first that could not
abbrev pub FirstThatCouldNot : {C : Type 0} → Rules C → (ℕ → List ℕ → Result Tally Refusal) → List Entry → ℕ → Type 0
FirstThatCouldNot r score es k =
    (a : List Entry) × (e : Entry) × (z : List Entry) × (es ≡ a ++ e ∷ z) × (k ≡ length a + 1) × EachCouldBeWritten r score a × (CouldWrite r score a e → ⊥)

-- a book is sound exactly where each of its entries could, and unsound exactly at the first that could not
abbrev pub SoundWhereWritten : {C : Type 0} → Rules C → (ℕ → List ℕ → Result Tally Refusal) → Type 0
SoundWhereWritten r score =
    ((es : List Entry) → ((replay r es).unsound ≡ None) ↔ EachCouldBeWritten r score es)
    × ((es : List Entry) (k : ℕ) → ((replay r es).unsound ≡ Some k) ↔ FirstThatCouldNot r score es k)

abbrev pub SoundByEntries : {C : Type 0} → Rules C → (ℕ → List ℕ → Result Tally Refusal) → Type 0
SoundByEntries r score = Bounded score → Shows r score → SoundWhereWritten r score

-- with the worksheet's scoring, of each kind of line
abbrev pub SoundBySheets : Type 0
SoundBySheets = SoundWhereWritten on_line_rules sheet_score × ((p : PlanBook) → SoundWhereWritten (plan_rules p) sheet_score)
