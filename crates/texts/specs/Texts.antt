-- A text: its lines, and a line's first field and the rest.
use Rattle.std.specs.Prelude.{◌≡◌, ℕ, ◌+◌, ◌<◌, cond, ◌⊎◌, List, [], ◌∷◌, length, Some, None, Option, ◌==◌, ◌≢◌, slice_index}

-- b put before the first of the lines, or alone where there is none
abbrev pub onto : ℕ → List (List ℕ) → List (List ℕ)
onto b [] = (b ∷ []) ∷ []
onto b (l ∷ ls) = (b ∷ l) ∷ ls

-- the text cut after each line feed; what follows the last line feed is a line too, unless it is empty
abbrev pub lines : List ℕ → List (List ℕ)
lines [] = []
lines (b ∷ bs) = cond (b == 10) ((b ∷ []) ∷ lines bs) (onto b (lines bs))

abbrev pub before : ℕ → Option (List ℕ × List ℕ) → Option (List ℕ × List ℕ)
before b None = None
before b (Some p) = Some (b ∷ p.0, p.1)

-- what stands before the first x, and what follows it
abbrev pub parted_by : ℕ → List ℕ → Option (List ℕ × List ℕ)
parted_by x [] = None
parted_by x (b ∷ bs) = cond (b == x) (Some ([], bs)) (before b (parted_by x bs))

-- what stands before the line's first tab, and what follows it
abbrev pub parted : List ℕ → Option (List ℕ × List ℕ)
parted bs = parted_by 9 bs

-- x stands at no place before n
abbrev pub Free : ℕ → ℕ → List ℕ → Type 0
Free x n bs = (k : ℕ) → k < n → slice_index bs k ≢ x

-- x stands first at the place i
abbrev pub FirstAt : ℕ → ℕ → List ℕ → Type 0
FirstAt x i bs = (i < length bs) × (slice_index bs i ≡ x) × Free x i bs

-- no tab and no line feed stands before n
abbrev pub Unmarked : ℕ → List ℕ → Type 0
Unmarked n bs = Free 9 n bs × Free 10 n bs

-- a tab or a line feed stands first at the place i
abbrev pub MarkAt : ℕ → List ℕ → Type 0
MarkAt i bs = (i < length bs) × Unmarked i bs × ((slice_index bs i ≡ 9) ⊎ (slice_index bs i ≡ 10))

-- the line that bs begins with ends at e: after the first line feed, or with bs
abbrev pub LineEnd : List ℕ → ℕ → Type 0
LineEnd bs e = ((i : ℕ) × (e ≡ i + 1) × FirstAt 10 i bs) ⊎ ((e ≡ length bs) × Free 10 (length bs) bs)
