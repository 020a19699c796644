-- Two volumes as one book.
use Rattle.std.proofs.Common.{◌≡◌, ℕ, ◌+◌, ◌-◌, ◌<◌, ◌≤◌, true, min, List, [], ◌∷◌, ◌++◌, length, take, None, sym, ap, ◌∙◌, ⊎_elim, append_assoc, arith}
use Rattle.std.proofs.lemmas.List.{append-nil, length-append, take_all, nil_from_length}
use Rattle.std.proofs.lemmas.Bool.{eq-eqb, ne_eqb, cond-true, cond-false, cases_eq}
use Rattle.entries.specs.declared.entry.Entry.{Entry}
use Rattle.entries.specs.Entries.{writable}
use Rattle.books.specs.Books.{numbered, refusal, put, left}
use Rattle.books.specs.Bounds.{length_bound, bound_few}
use Rattle.books.specs.Volumes.{bound, bound_room}
use Rattle.books.proofs.Refusing.{open_to}
use Rattle.books.proofs.Numbering.{numbered_beyond, numbered_take, numbered_left, numbered_right}

pub in_first : (n : ℕ) (es fs : List Entry) → n ≤ length es → length es ≤ 9999999 → numbered n es ≡ numbered n (bound es fs)
in_first n es fs within few = sym (numbered_take n 9999999 (es ++ fs) (omega arith) ∙ numbered_left n es fs within)

pub in_second : (n : ℕ) (es fs : List Entry) → length es < n → n ≤ 9999999 → numbered (n - length es) fs ≡ numbered n (bound es fs)
in_second n es fs beyond few = sym (numbered_take n 9999999 (es ++ fs) few ∙ numbered_right n es fs beyond)

pub in_none : (n : ℕ) (es fs : List Entry) → 9999999 < n → None ≡ numbered n (bound es fs)
in_none n es fs beyond = numbered_beyond n (bound es fs) (omega (arith, length_bound es fs))

-- the room while the second volume is empty, and once it is not
pub room_empty : (es fs : List Entry) (r s : ℕ) → length fs ≡ 0 → bound_room es fs r s ≡ min (r + s) (9999999 - length (bound es fs))
room_empty es fs r s h = ap (λ n. min n (9999999 - length (bound es fs))) (cond-true _ _ _ (eq-eqb (length fs) 0 h))

pub room_begun : (es fs : List Entry) (r s : ℕ) → (length fs ≡ 0 → ⊥) → bound_room es fs r s ≡ min s (9999999 - length (bound es fs))
room_begun es fs r s h = ap (λ n. min n (9999999 - length (bound es fs))) (cond-false _ _ _ (ne_eqb (length fs) 0 h))

-- an entry that goes to a volume with room goes to the book
pub record Goes (es fs es2 fs2 : List Entry) (r s r2 s2 : ℕ) (e : Entry) : Type 0 where
  pub entries : bound es2 fs2 ≡ put (refusal (bound_room es fs r s) e) (bound es fs) e
  pub room : bound_room es2 fs2 r2 s2 ≡ left (refusal (bound_room es fs r s) e) (bound_room es fs r s)

room_left : (es fs : List Entry) (r s : ℕ) → 0 < bound_room es fs r s → length es + length fs < 9999999
room_left es fs r s some = omega (arith, some, bound_few es fs r s, length_bound es fs)

whole : (es : List Entry) → length es ≤ 9999999 → take 9999999 es ≡ es
whole es h = take_all 9999999 es h

-- an entry that is not refused is put last, and takes one place
put_last : (room : ℕ) (es es2 : List Entry) (e : Entry) → 0 < room → writable e ≡ true → es2 ≡ put (refusal room e) es e → es2 ≡ es ++ e ∷ []
put_last room es es2 e some fine is = is ∙ ap (λ o. put o es e) (sym (open_to room e (λ z. omega arith) fine))

one_less : (room room2 : ℕ) (e : Entry) → 0 < room → writable e ≡ true → room2 ≡ left (refusal room e) room → room2 ≡ room - 1
one_less room room2 e some fine is = is ∙ ap (λ o. left o room) (sym (open_to room e (λ z. omega arith) fine))

pub to_first : (es fs es2 : List Entry) (r s r2 : ℕ) (e : Entry) → 0 < bound_room es fs r s → writable e ≡ true → length fs ≡ 0 → 0 < r → es2 ≡ put (refusal r e) es e → r2 ≡ left (refusal r e) r → Goes es fs es2 fs r s r2 s e
to_first es fs es2 r s r2 e some fine empty has goes less =
    let is = put_last r es es2 e has fine goes in
    let one = one_less r r2 e has fine less in
    let takes = open_to (bound_room es fs r s) e (λ z. omega arith) fine in
    let few = room_left es fs r s some in
    let none = nil_from_length fs empty in
    let long : length es2 ≡ length es + 1 = ap length is ∙ length-append es (e ∷ []) in
    let all : bound es fs ≡ es = ap (bound es) none ∙ ap (take 9999999) (append-nil es) ∙ whole es (omega arith) in
    let all2 : bound es2 fs ≡ es2 = ap (bound es2) none ∙ ap (take 9999999) (append-nil es2) ∙ whole es2 (omega arith) in
    let last : bound_room es2 fs r2 s ≡ bound_room es fs r s - 1 = omega (arith, room_empty es2 fs r2 s empty, room_empty es fs r s empty, ap length all, ap length all2) in
    record {
      entries = all2 ∙ is ∙ ap (λ l. l ++ e ∷ []) (sym all) ∙ ap (λ o. put o (bound es fs) e) takes;
      room = last ∙ ap (λ o. left o (bound_room es fs r s)) takes;
    }

-- where the first volume takes no entry, room is room in the second
pub second_has : (es fs : List Entry) (r s : ℕ) → 0 < bound_room es fs r s → (length fs ≡ 0 → r ≡ 0) → 0 < s
second_has es fs r s some full =
    ⊎_elim
    (λ empty. let none = full empty in omega (arith, room_empty es fs r s empty))
    (λ begun. omega (arith, room_begun es fs r s begun))
    (cases_eq (length fs) 0)

pub to_second : (es fs fs2 : List Entry) (r s s2 : ℕ) (e : Entry) → 0 < bound_room es fs r s → writable e ≡ true → (length fs ≡ 0 → r ≡ 0) → fs2 ≡ put (refusal s e) fs e → s2 ≡ left (refusal s e) s → Goes es fs es fs2 r s r s2 e
to_second es fs fs2 r s s2 e some fine full goes less =
    let has = second_has es fs r s some full in
    let is = put_last s fs fs2 e has fine goes in
    let one = one_less s s2 e has fine less in
    let takes = open_to (bound_room es fs r s) e (λ z. omega arith) fine in
    let few = room_left es fs r s some in
    let long : length fs2 ≡ length fs + 1 = ap length is ∙ length-append fs (e ∷ []) in
    let all : bound es fs ≡ es ++ fs = whole (es ++ fs) (omega (arith, length-append es fs)) in
    let all2 : bound es fs2 ≡ es ++ fs2 = whole (es ++ fs2) (omega (arith, length-append es fs2)) in
    let last : min s2 (9999999 - length (bound es fs2)) ≡ bound_room es fs r s - 1 =
    ⊎_elim
    (λ empty. let none = full empty in omega (arith, room_empty es fs r s empty, ap length all, ap length all2, length-append es fs, length-append es fs2))
    (λ begun. omega (arith, room_begun es fs r s begun, ap length all, ap length all2, length-append es fs, length-append es fs2))
    (cases_eq (length fs) 0) in
    record {
      entries = all2 ∙ ap (λ l. es ++ l) is ∙ sym (append_assoc es fs (e ∷ [])) ∙ ap (λ l. l ++ e ∷ []) (sym all) ∙ ap (λ o. put o (bound es fs) e) takes;
      room = room_begun es fs2 r s2 (λ z. omega arith) ∙ last ∙ ap (λ o. left o (bound_room es fs r s)) takes;
    }
