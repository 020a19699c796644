-- What is read of a text: its lines in order, each as its first field and the rest, with its number.
use Rattle.std.specs.Prelude.{◌≡◌, ℕ, ◌+◌, ◌<◌, List, [], ◌∷◌, ◌++◌, length, Some, None, Option, slice_index_or}
use Rattle.std.specs.List.{flat_map}
use Rattle.texts.specs.declared.lines.Item.{Item}
use Rattle.texts.specs.declared.lines.Item.TheVariants.{Fields, Bare}
use Rattle.texts.specs.declared.lines.Lines.{Lines}
use Rattle.texts.specs.Texts.{lines, parted}

-- a line with its number: parted by its first tab, or without one
pub data Piece : Type 0 where
  fields : ℕ → List ℕ → List ℕ → Piece
  bare : ℕ → List ℕ → Piece

abbrev pub number_of : Piece → ℕ
number_of (fields n first rest) = n
number_of (bare n text) = n

abbrev pub text_of : Piece → List ℕ
text_of (fields n first rest) = first ++ 9 ∷ rest
text_of (bare n text) = text

abbrev pub by_tab : ℕ → List ℕ → Option (List ℕ × List ℕ) → Piece
by_tab n l None = bare n l
by_tab n l (Some p) = fields n p.0 p.1

abbrev pub piece : ℕ → List ℕ → Piece
piece n l = by_tab n l (parted l)

-- the lines as pieces, where n lines stand before them
abbrev pub after : ℕ → List (List ℕ) → List Piece
after n [] = []
after n (l ∷ ls) = piece (n + 1) l ∷ after (n + 1) ls

abbrev pub pieces : List ℕ → List Piece
pieces text = after 0 (lines text)

-- what an item of the reader shows, and what the reader has yet to show
abbrev pub shown : Item → Piece
shown (Fields line first rest) = fields line first.now rest.now
shown (Bare line text) = bare line text.now

abbrev pub to_come : Lines → List Piece
to_come s = after s.line (lines s.rest.now)

-- the pieces put together again are the text
abbrev pub Whole : List ℕ → Type 0
Whole text = flat_map text_of (pieces text) ≡ text

-- the first line has number 1, and each the next number
abbrev pub Numbered : List ℕ → Type 0
Numbered text = (k : ℕ) (p : Piece) → k < length (pieces text) → number_of (slice_index_or (pieces text) k p) ≡ k + 1
