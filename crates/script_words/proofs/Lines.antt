-- The first line of a text.
use Rattle.std.proofs.Common.{◌≡◌, ℕ, suc, ◌+◌, ◌<◌, ◌==◌, Bool, true, false, not, cond, List, [], ◌∷◌, length, take, drop, refl, sym, ap, ◌∙◌, arith, length-take, length-drop}
use Rattle.std.proofs.lemmas.Bool.Decides.{nat_tests}
use Rattle.std.specs.List.{prefix_len, slice_split, onto_first}
use Rattle.std.specs.Str.Lines.{lines, lines_of_parts, strip_carriage_return}

abbrev is_end : ℕ → Bool
is_end byte = byte == 10

abbrev parts_behind : List ℕ → List (List ℕ)
parts_behind [] = []
parts_behind (y ∷ ys) = slice_split is_end ys

abbrev front : List ℕ → ℕ
front text = prefix_len (λ byte. not (byte == 10)) text

split_step : (b : Bool) (x : ℕ) (xs : List ℕ) (n : ℕ) → slice_split is_end xs ≡ take n xs ∷ parts_behind (drop n xs) → cond b ([] ∷ slice_split is_end xs) (onto_first x (slice_split is_end xs)) ≡ take (cond (not b) (1 + n) 0) (x ∷ xs) ∷ parts_behind (drop (cond (not b) (1 + n) 0) (x ∷ xs))
split_step true x xs n h = refl
split_step false x xs n h = let e : 1 + n ≡ suc n = omega arith in rw e (ap (onto_first x) h)

split_first : (xs : List ℕ) → slice_split is_end xs ≡ take (front xs) xs ∷ parts_behind (drop (front xs) xs)
split_first [] = refl
split_first (x ∷ xs) = split_step (x == 10) x xs (front xs) (split_first xs)

onto_more : (t : List ℕ) (x : ℕ) (parts : List (List ℕ)) → lines_of_parts (t ∷ onto_first x parts) ≡ strip_carriage_return t ∷ lines_of_parts (onto_first x parts)
onto_more t x [] = refl
onto_more t x (p ∷ ps) = refl

more_step : (b : Bool) (t : List ℕ) (x : ℕ) (parts : List (List ℕ)) → lines_of_parts (t ∷ cond b ([] ∷ parts) (onto_first x parts)) ≡ strip_carriage_return t ∷ lines_of_parts (cond b ([] ∷ parts) (onto_first x parts))
more_step true t x parts = refl
more_step false t x parts = onto_more t x parts

-- the line before a newline, and those behind it
pub more_lines : (t ys : List ℕ) → lines_of_parts (t ∷ slice_split is_end ys) ≡ strip_carriage_return t ∷ lines ys
more_lines t [] = refl
more_lines t (y ∷ ys) = more_step (y == 10) t y (slice_split is_end ys)

-- a newline ends the first line
line_ended : (text : List ℕ) (y : ℕ) (ys : List ℕ) → drop (front text) text ≡ y ∷ ys → lines text ≡ strip_carriage_return (take (front text) text) ∷ lines ys
line_ended text y ys h = ap lines_of_parts (split_first text ∙ ap (λ rest. take (front text) text ∷ parts_behind rest) h) ∙ more_lines (take (front text) text) ys

last_line : (t : List ℕ) → 0 < length t → lines_of_parts (t ∷ []) ≡ t ∷ []
last_line [] h = absurd (omega arith)
last_line (x ∷ t) h = grind (arith, nat_tests)

-- without one the text is the last line
line_open : (text : List ℕ) → 0 < length (take (front text) text) → drop (front text) text ≡ [] → lines text ≡ take (front text) text ∷ []
line_open text some h = ap lines_of_parts (split_first text ∙ ap (λ rest. take (front text) text ∷ parts_behind rest) h) ∙ last_line (take (front text) text) some

ended : (text rest : List ℕ) → drop (front text) text ≡ rest → 0 < length rest → lines text ≡ strip_carriage_return (take (front text) text) ∷ lines (drop 1 rest)
ended text [] h some = absurd (omega arith)
ended text (y ∷ ys) h some = line_ended text y ys h

open_end : (text rest : List ℕ) → drop (front text) text ≡ rest → length rest ≡ 0 → 0 < length text → lines text ≡ take (front text) text ∷ lines rest
open_end text [] h none some = line_open text (omega (arith, ap (length {A = ℕ}) h, length-take {A = ℕ}, length-drop {A = ℕ})) h
open_end text (y ∷ ys) h none some = absurd (omega arith)

-- a newline ends the first line
pub first_line : (text line rest after bare : List ℕ) (n : ℕ) → n ≡ front text → line ≡ take n text → rest ≡ drop n text → 0 < length rest → after ≡ drop 1 rest → bare ≡ strip_carriage_return line → lines text ≡ bare ∷ lines after
first_line text line rest after bare n hn hl hr some ha hb =
    let hd : drop (front text) text ≡ rest = cc in
    let e : lines text ≡ strip_carriage_return (take (front text) text) ∷ lines (drop 1 rest) = ended text rest hd some in
    let same : take (front text) text ≡ line = cc in
    e ∙ ap (λ t. strip_carriage_return t ∷ lines (drop 1 rest)) same ∙ ap (λ t. strip_carriage_return line ∷ lines t) (sym ha) ∙ ap (λ t. t ∷ lines after) (sym hb)

-- a text without one is its only line
pub only_line : (text line rest : List ℕ) (n : ℕ) → n ≡ front text → line ≡ take n text → rest ≡ drop n text → length rest ≡ 0 → 0 < length text → lines text ≡ line ∷ lines rest
only_line text line rest n hn hl hr none some =
    let hd : drop (front text) text ≡ rest = cc in
    let same : take (front text) text ≡ line = cc in
    open_end text rest hd none some ∙ ap (λ t. t ∷ lines rest) same
