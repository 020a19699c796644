-- What ends a spell: the rule of each status over neighbouring articles, and a test of the newest article that is this rule.
use Rattle.std.specs.Prelude.{◌≡◌, ℕ, ◌+◌, ◌-◌, ◌<◌, ◌≤◌, Bool, true, false, ◌&&◌, ◌↔◌, List, [], ◌∷◌, ◌++◌, length, drop, ◌==◌, nat_le, nat_lt}
use Rattle.inspection.specs.declared.status.Status.{Status}
use Rattle.inspection.specs.declared.status.Status.TheVariants.{Normal, Tightened, Reduced}

-- verdicts of neighbouring articles: true where one was rejected
abbrev pub rejections : List Bool → ℕ
rejections [] = 0
rejections (true ∷ vs) = 1 + rejections vs
rejections (false ∷ vs) = rejections vs

-- what ends a spell on each status: two rejected among five neighbours or fewer; five neighbours accepted; more than the cap rejected among
-- a window of neighbours or fewer
abbrev pub Broken : ℕ → ℕ → Status → List Bool → Type 0
Broken window most_rejected Normal vs = (a : List Bool) × (m : List Bool) × (z : List Bool) × (vs ≡ a ++ m ++ z) × (length m ≤ 5) × (1 < rejections m)
Broken window most_rejected Tightened vs = (a : List Bool) × (m : List Bool) × (z : List Bool) × (vs ≡ a ++ m ++ z) × (length m ≡ 5) × (rejections m ≡ 0)
Broken window most_rejected Reduced vs = (a : List Bool) × (m : List Bool) × (z : List Bool) × (vs ≡ a ++ m ++ z) × (length m ≤ window) × (most_rejected < rejections m)

abbrev pub turned : Status → Status
turned Normal = Tightened
turned Tightened = Normal
turned Reduced = Normal

-- the last n of the list, and all of it where there are fewer
abbrev pub last_of : ℕ → List Bool → List Bool
last_of n vs = drop (length vs - n) vs

-- whether a new article breaks the rule of a spell with these verdicts, where the spell kept it so far. Its own verdict says what is looked at: a rejected one counts with the four before it on
-- normal, and with the rest of its window on reduced; an accepted one is the fifth in a row on tightened
abbrev pub breaks : ℕ → ℕ → Status → List Bool → Bool → Bool
breaks window most_rejected Normal vs true = nat_lt 1 (1 + rejections (last_of 4 vs))
breaks window most_rejected Normal vs false = false
breaks window most_rejected Tightened vs true = false
breaks window most_rejected Tightened vs false = nat_le 4 (length vs) && rejections (last_of 4 vs) == 0
breaks window most_rejected Reduced vs true = nat_lt most_rejected (1 + rejections (last_of (window - 1) vs))
breaks window most_rejected Reduced vs false = false

-- after a spell that keeps its rule, the test passes exactly where the new article breaks it
abbrev pub BreaksExactly : Type 0
BreaksExactly =
    (window most_rejected : ℕ) (s : Status) (vs : List Bool) (v : Bool) → 0 < window → (Broken window most_rejected s vs → ⊥)
    → (breaks window most_rejected s vs v ≡ true) ↔ Broken window most_rejected s (vs ++ v ∷ [])

-- where the test fails, the spell with the new article keeps its rule
abbrev pub Kept : Type 0
Kept =
    (window most_rejected : ℕ) (s : Status) (vs : List Bool) (v : Bool) → 0 < window → (Broken window most_rejected s vs → ⊥)
    → breaks window most_rejected s vs v ≡ false → Broken window most_rejected s (vs ++ v ∷ []) → ⊥

-- a spell with no article keeps its rule
abbrev pub NewSpellKeeps : Type 0
NewSpellKeeps = (window most_rejected : ℕ) (s : Status) → Broken window most_rejected s [] → ⊥
