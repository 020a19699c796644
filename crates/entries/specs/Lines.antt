-- The line of text of an entry: eight fields parted by tabs, numbers zero-filled, and a line feed. 37 bytes.
use Rattle.std.specs.Prelude.{◌≡◌, ℕ, ◌+◌, Bool, true, cond, ◌&&◌, List, [], ◌∷◌, ◌++◌, length, take, drop, Some, None, Option, ◌==◌, ◌≢◌, nat_lt, slice_index}
use Rattle.decimals.specs.Digits.{numeral, padded}
use Rattle.inspection.specs.Letters.{kind_letter, kind_of, status_letter, status_of, verdict_letter, verdict_of}
use Rattle.inspection.specs.declared.kind.Kind.{Kind}
use Rattle.inspection.specs.declared.status.Status.{Status}
use Rattle.inspection.specs.declared.verdict.Verdict.{Verdict}
use Rattle.inspection.specs.declared.tally.Tally.{Tally}
use Rattle.entries.specs.declared.entry.Entry.{Entry}
use Rattle.entries.specs.declared.line.Numbers.{Numbers}
use Rattle.entries.specs.Entries.{writable, spoiled, or_spoiled}

-- a number in w digits, and the byte that ends its field
abbrev pub number_field : ℕ → ℕ → ℕ → List ℕ
number_field w n end = padded w n ++ end ∷ []

abbrev pub numbers_text : ℕ → ℕ → Tally → List ℕ
numbers_text lot units t =
    number_field 7 lot 9
    ++ (number_field 4 units 9
    ++ (number_field 5 t.critical 9
    ++ (number_field 5 t.major 9
    ++ number_field 5 t.minor 10)))

abbrev pub letters_text : Entry → List ℕ
letters_text e = kind_letter e.kind ∷ 9 ∷ status_letter e.status ∷ 9 ∷ verdict_letter e.verdict ∷ 9 ∷ []

abbrev pub line_of : Entry → List ℕ
line_of e = letters_text e ++ numbers_text e.lot_size e.units e.tally

-- what is read of the front of a text, and the rest of it
abbrev pub Read : Type 0 → Type 0
Read X = Option (X × List ℕ)

abbrev pub then : {X Y : Type 0} → Read X → (X → List ℕ → Option Y) → Option Y
then None f = None
then (Some p) f = f p.0 p.1

-- a number in w digits that `end` follows
abbrev pub closed_by : ℕ → ℕ → List ℕ → Bool
closed_by w end bs = nat_lt w (length bs) && slice_index bs w == end

abbrev pub with_rest : List ℕ → Option ℕ → Read ℕ
with_rest bs None = None
with_rest bs (Some n) = Some (n, bs)

abbrev pub number_at : ℕ → ℕ → List ℕ → Read ℕ
number_at w end bs = cond (closed_by w end bs) (with_rest (drop (w + 1) bs) (numeral (take w bs))) None

-- what is read, if nothing follows it
abbrev pub ended : {X : Type 0} → X → List ℕ → Option X
ended x [] = Some x
ended x (b ∷ bs) = None

abbrev pub numbers_in : List ℕ → Option Numbers
numbers_in bs =
    then (number_at 7 9 bs) (λ lot bs.
    then (number_at 4 9 bs) (λ units bs.
    then (number_at 5 9 bs) (λ critical bs.
    then (number_at 5 9 bs) (λ major bs.
    then (number_at 5 10 bs) (λ minor bs.
    ended (record { lot_size = lot; units = units; tally = record { critical = critical; major = major; minor = minor } }) bs)))))

-- an entry of these letters and numbers
abbrev pub joint : Option Kind → Option Status → Option Verdict → Option Numbers → Option Entry
joint None s v n = None
joint (Some k) None v n = None
joint (Some k) (Some s) None n = None
joint (Some k) (Some s) (Some v) None = None
joint (Some k) (Some s) (Some v) (Some n) =
    Some (record { kind = k; status = s; verdict = v; lot_size = n.lot_size; units = n.units; tally = n.tally })

abbrev pub tabs : ℕ → ℕ → ℕ → Bool
tabs a b c = a == 9 && b == 9 && c == 9

-- the entry whose fields the bytes are: three letters, each with its tab, and the numbers
abbrev pub fields_in : List ℕ → Option Entry
fields_in [] = None
fields_in (k ∷ []) = None
fields_in (k ∷ a ∷ []) = None
fields_in (k ∷ a ∷ s ∷ []) = None
fields_in (k ∷ a ∷ s ∷ b ∷ []) = None
fields_in (k ∷ a ∷ s ∷ b ∷ v ∷ []) = None
fields_in (k ∷ a ∷ s ∷ b ∷ v ∷ c ∷ bs) = cond (tabs a b c) (joint (kind_of k) (status_of s) (verdict_of v) (numbers_in bs)) None

abbrev pub read_as : Option Entry → Entry
read_as None = spoiled
read_as (Some e) = or_spoiled e

-- bytes read as the writable entry whose line they are, and anything else as spoiled
abbrev pub entry_in : List ℕ → Entry
entry_in bs = read_as (fields_in bs)

-- a line has 37 bytes
abbrev pub Long : Type 0
Long = (e : Entry) → length (line_of e) ≡ 37

-- a writable entry's line reads back as that entry
abbrev pub ReadsBack : Type 0
ReadsBack = (e : Entry) → writable e ≡ true → entry_in (line_of e) ≡ e

-- no other bytes do: what reads as a writable entry is that entry's line
abbrev pub NoOther : Type 0
NoOther = (bs : List ℕ) → writable (entry_in bs) ≡ true → bs ≡ line_of (entry_in bs)

-- everything else reads as spoiled
abbrev pub ElseSpoiled : Type 0
ElseSpoiled = (bs : List ℕ) → ((e : Entry) → writable e ≡ true → bs ≢ line_of e) → entry_in bs ≡ spoiled
