-- The lines of a text that begins with one that stands open, and what is kept of that.
use Rattle.std.proofs.Common.{◌≡◌, ◌∙◌, ap, sym, subst, refl, ℕ, ◌+◌, ◌-◌, ◌<◌, ◌≤◌, ◌==◌, ◌⊎◌, inl, inr, Bool, true, false, cond, List, [], ◌∷◌, ◌++◌, length, take, drop, get_or, arith, length-take, append-nil, Some, None, position}
use Rattle.std.proofs.Math.Seq.{take_all, take-append-le, take-append-add, get_or-take}
use Rattle.std.proofs.lemmas.Bool.{cases_lt}
use Rattle.std.proofs.lemmas.Bool.Decides.{nat_tests}
use Rattle.std.proofs.lemmas.List.{take-append-drop, drop_more}
use Rattle.std.proofs.lemmas.List.Elements.{All-append, All-from_get_or}
use Rattle.std.proofs.lemmas.List.Quantifiers.{position-Some}
use Rattle.std.proofs.lemmas.List.Splits.{slice_split_none, slice_split_at}
use Rattle.std.proofs.lemmas.List.Sums.{fails_before_first}
use Rattle.std.specs.List.{slice_split, onto_first}
use Rattle.std.specs.Str.Lines.{lines, lines_of_parts, strip_carriage_return}
use Rattle.tool_live.specs.declared.answerer.TheConstants.{MOST_LINE}
use Rattle.tool_live.specs.Answers.{Told, Called}
use Rattle.tool_live.specs.Hearing.{HasNoEnd, IsOpen, most_kept, kept_with}

abbrev is_end : ℕ → Bool
is_end byte = byte == 10

onto_more : (t : List ℕ) (x : ℕ) (parts : List (List ℕ)) → lines_of_parts (t ∷ onto_first x parts) ≡ strip_carriage_return t ∷ lines_of_parts (onto_first x parts)
onto_more t x [] = refl
onto_more t x (p ∷ ps) = refl

more_step : (b : Bool) (t : List ℕ) (x : ℕ) (parts : List (List ℕ)) → lines_of_parts (t ∷ cond b ([] ∷ parts) (onto_first x parts)) ≡ strip_carriage_return t ∷ lines_of_parts (cond b ([] ∷ parts) (onto_first x parts))
more_step true t x parts = refl
more_step false t x parts = onto_more t x parts

more_lines : (t ys : List ℕ) → lines_of_parts (t ∷ slice_split is_end ys) ≡ strip_carriage_return t ∷ lines ys
more_lines t [] = refl
more_lines t (y ∷ ys) = more_step (y == 10) t y (slice_split is_end ys)

-- a newline ends the open line
pub line_ends : (part rest : List ℕ) → HasNoEnd part → lines (part ++ 10 ∷ rest) ≡ strip_carriage_return part ∷ lines rest
line_ends part rest none = ap lines_of_parts (slice_split_at is_end part 10 rest none refl) ∙ more_lines part rest

last_line : (t : List ℕ) → 0 < length t → lines_of_parts (t ∷ []) ≡ t ∷ []
last_line [] some = absurd (omega arith)
last_line (x ∷ t) some = grind (arith, nat_tests)

-- the end of all ends it too, where it has a byte
pub line_stays : (part : List ℕ) → HasNoEnd part → 0 < length part → lines part ≡ part ∷ []
line_stays part none some = ap lines_of_parts (slice_split_none is_end part none) ∙ last_line part some

stripped_by : (b : Bool) (l : List ℕ) → length l ≤ length (cond b (take (length l - 1) l) l) + 1
stripped_by true l = omega (arith, length-take {A = ℕ})
stripped_by false l = omega arith

strip_length : (l : List ℕ) → length l ≤ length (strip_carriage_return l) + 1
strip_length l = stripped_by _ l

-- two lines are both too long, or one
abbrev pub AreAlike : List ℕ → List ℕ → Type 0
AreAlike line other = ((MOST_LINE < length line) × (MOST_LINE < length other)) ⊎ (other ≡ line)

kept_long : (part kept : List ℕ) → IsOpen part kept → most_kept < length part → length kept ≡ most_kept
kept_long part kept h long = ap (λ (l : List ℕ). length l) h.cut ∙ omega (arith, length-take {A = ℕ})

-- what is kept of a line is answered as the line
pub stripped_alike : (part kept : List ℕ) → IsOpen part kept → AreAlike (strip_carriage_return kept) (strip_carriage_return part)
stripped_alike part kept h = elim (cases_lt most_kept (length part)) [
  | inl long ↦ inl (omega (arith, kept_long part kept h long, strip_length kept), omega (arith, strip_length part))
  | inr short ↦ inr (ap strip_carriage_return (sym (h.cut ∙ take_all most_kept part short)))
]

pub open_alike : (part kept : List ℕ) → IsOpen part kept → AreAlike kept part
open_alike part kept h = elim (cases_lt most_kept (length part)) [
  | inl long ↦ inl (omega (arith, kept_long part kept h long), omega arith)
  | inr short ↦ inr (sym (h.cut ∙ take_all most_kept part short))
]

pub alike_told : (told : Told) (called : Called) (line other : List ℕ)
    → (MOST_LINE < length line → (other : List ℕ) (rest : List (List ℕ)) → MOST_LINE < length other
    → (told (other ∷ rest) ≡ told (line ∷ rest)) × (called (other ∷ rest) ≡ called (line ∷ rest)))
    → AreAlike line other → (rest : List (List ℕ)) → (told (other ∷ rest) ≡ told (line ∷ rest)) × (called (other ∷ rest) ≡ called (line ∷ rest))
alike_told told called line other long (inl both) rest = long both.0 other rest both.1
alike_told told called line other long (inr is) rest = (ap (λ (l : List ℕ). told (l ∷ rest)) is, ap (λ (l : List ℕ). called (l ∷ rest)) is)

kept_by : (most : ℕ) (part kept bytes : List ℕ) → kept ≡ take most part
    → kept ++ take (most - length kept) bytes ≡ take most (part ++ bytes)
kept_by most part kept bytes cut = elim (cases_lt most (length part)) [
  | inl long ↦
      let full : most - length kept ≡ 0 = omega (arith, long, ap (λ (l : List ℕ). length l) cut, length-take {A = ℕ}) in
      ap (λ (n : ℕ). kept ++ take n bytes) full ∙ append-nil kept ∙ cut ∙ sym (take-append-le most part bytes (omega (arith, long)))
  | inr short ↦
      let whole : kept ≡ part = cut ∙ take_all most part short in
      let room : length part + (most - length part) ≡ most = omega (arith, short) in
      ap (λ (l : List ℕ). l ++ take (most - length l) bytes) whole ∙ sym (take-append-add part bytes (most - length part))
      ∙ ap (λ (n : ℕ). take n (part ++ bytes)) room
]

-- bytes more
pub open_more : (part kept bytes : List ℕ) → IsOpen part kept → HasNoEnd bytes → IsOpen (part ++ bytes) (kept_with kept bytes)
open_more part kept bytes h none = record {
  unended = All-append (λ (b : ℕ). (b == 10) ≡ false) part bytes h.unended none;
  cut = kept_by most_kept part kept bytes h.cut;
}

-- the first newline among bytes, or none
pub ends_nowhere : (bytes : List ℕ) → position is_end bytes ≡ None → HasNoEnd bytes
ends_nowhere bytes none = λ k d within. fails_before_first is_end bytes k d (grind (arith, nat_tests, none, within))

pub ends_at : (bytes : List ℕ) (at : ℕ) → position is_end bytes ≡ Some at → (at < length bytes) × HasNoEnd (take at bytes)
    × (bytes ≡ take at bytes ++ 10 ∷ drop (at + 1) bytes)
ends_at bytes at found =
    let first = position-Some is_end bytes at 0 found in
    let newline : get_or bytes at 0 ≡ 10 = grind (arith, nat_tests, first.1) in (
      first.0,
      All-from_get_or (λ (b : ℕ). (b == 10) ≡ false) (take at bytes) 0
          (λ k within. let below : k < at = omega (arith, within, length-take at bytes) in
          subst (λ (b : ℕ). (b == 10) ≡ false) (sym (get_or-take at bytes k 0 below)) (first.2 k below)),
      sym (take-append-drop at bytes) ∙ ap (λ (l : List ℕ). take at bytes ++ l)
          (drop_more bytes at 0 first.0 ∙ ap (λ (b : ℕ). b ∷ drop (at + 1) bytes) newline),
    )
