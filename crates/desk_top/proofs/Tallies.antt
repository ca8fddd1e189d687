-- What is kept of a text grows with it.
use Rattle.std.proofs.Common.{◌≡◌, ◌∙◌, ℕ, suc, ◌+◌, ◌-◌, ◌≤◌, Bool, true, false, not, ◌&&◌, ◌==◌, if◌then◌else◌, List, [], ◌∷◌, ◌++◌, length, slice_index_or, refl, sym, ap, arith, true≢false, append_assoc, length-append}
use Rattle.std.proofs.lemmas.List.{append-nil}
use Rattle.std.specs.List.{filter}
use Rattle.desk_top.specs.Summary.{Tally, tally_of, line_count, is_one_line, last_line, ends_line, with_byte, with_bytes}

and_true : (a : Bool) → (a && true) ≡ a
and_true true = refl
and_true false = refl

and_assoc : (a b c : Bool) → (a && (b && c)) ≡ ((a && b) && c)
and_assoc true b c = refl
and_assoc false b c = refl

one_line_push : (text : List ℕ) (b : ℕ) → is_one_line (text ++ b ∷ []) ≡ (is_one_line text && not (ends_line text))
one_line_push [] b = refl
one_line_push (x ∷ []) b = and_true (not (x == 10))
one_line_push (x ∷ y ∷ text) b =
    ap (λ (one : Bool). not (x == 10) && one) (one_line_push (y ∷ text) b)
    ∙ and_assoc (not (x == 10)) (is_one_line (y ∷ text)) (not (ends_line (y ∷ text)))

-- the last line ends as the text does
ends_by : (x : ℕ) (text : List ℕ) (one : Bool) → is_one_line (x ∷ text) ≡ one → ends_line (last_line text) ≡ ends_line text
    → ends_line (if one then x ∷ text else last_line text) ≡ ends_line (x ∷ text)
ends_by x text true is later = refl
ends_by x [] false is later = absurd (true≢false is)
ends_by x (y ∷ text) false is later = later

last_ends : (text : List ℕ) → ends_line (last_line text) ≡ ends_line text
last_ends [] = refl
last_ends (x ∷ text) = ends_by x text (is_one_line (x ∷ text)) refl (last_ends text)

-- the last line of a text with a byte behind it
module _ (x b : ℕ) (text : List ℕ) where
  chosen : (one : Bool) → is_one_line (x ∷ (text ++ b ∷ [])) ≡ one
      → last_line (x ∷ (text ++ b ∷ [])) ≡ (if one then x ∷ (text ++ b ∷ []) else last_line (text ++ b ∷ []))
  chosen one is = ap (λ (o : Bool). if o then x ∷ (text ++ b ∷ []) else last_line (text ++ b ∷ [])) is

  pushed : (one ends : Bool) → is_one_line (x ∷ text) ≡ one → ends_line (x ∷ text) ≡ ends
      → is_one_line (x ∷ (text ++ b ∷ [])) ≡ (one && not ends)
  pushed one ends is ended =
      one_line_push (x ∷ text) b
      ∙ (ap (λ (o : Bool). o && not (ends_line (x ∷ text))) is ∙ ap (λ (e : Bool). one && not e) ended)

push_by : (x b : ℕ) (text : List ℕ) (one ends : Bool) → is_one_line (x ∷ text) ≡ one → ends_line (x ∷ text) ≡ ends
    → last_line (text ++ b ∷ []) ≡ (if ends_line text then [] else last_line text) ++ b ∷ []
    → last_line (x ∷ (text ++ b ∷ [])) ≡ (if ends then [] else (if one then x ∷ text else last_line text)) ++ b ∷ []
push_by x b text true false is ended later = chosen x b text true (pushed x b text true false is ended)
push_by x b [] true true is ended later = chosen x b [] false (pushed x b [] true true is ended) ∙ later
push_by x b (y ∷ text) true true is ended later =
    chosen x b (y ∷ text) false (pushed x b (y ∷ text) true true is ended)
    ∙ (later ∙ ap (λ (e : Bool). (if e then [] else last_line (y ∷ text)) ++ b ∷ []) ended)
push_by x b [] false ends is ended later = absurd (true≢false is)
push_by x b (y ∷ text) false ends is ended later =
    chosen x b (y ∷ text) false (pushed x b (y ∷ text) false ends is ended)
    ∙ (later ∙ ap (λ (e : Bool). (if e then [] else last_line (y ∷ text)) ++ b ∷ []) ended)

last_push : (text : List ℕ) (b : ℕ)
    → last_line (text ++ b ∷ []) ≡ (if ends_line text then [] else last_line text) ++ b ∷ []
last_push [] b = refl
last_push (x ∷ text) b = push_by x b text (is_one_line (x ∷ text)) (ends_line (x ∷ text)) refl refl (last_push text b)

-- its lines
count_by : (p : Bool) (b : ℕ) → length (if p then b ∷ [] else []) ≡ (if p then 0 + 1 else 0)
count_by true b = refl
count_by false b = refl

longer_by : (p q : Bool) (x : ℕ) (more less : List ℕ) → length more ≡ (if q then length less + 1 else length less)
    → length (if p then x ∷ more else more) ≡ (if q then length (if p then x ∷ less else less) + 1 else length (if p then x ∷ less else less))
longer_by true true x more less is = omega (arith, is)
longer_by true false x more less is = omega (arith, is)
longer_by false q x more less is = is

count_push : (text : List ℕ) (b : ℕ) → line_count (text ++ b ∷ []) ≡ (if b == 10 then line_count text + 1 else line_count text)
count_push [] b = count_by (b == 10) b
count_push (x ∷ text) b =
    longer_by (x == 10) (b == 10) x (filter (λ byte. byte == 10) (text ++ b ∷ [])) (filter (λ byte. byte == 10) text)
    (count_push text b)

-- all of it
tally_push : (text : List ℕ) (b : ℕ) → with_byte (tally_of text) b ≡ tally_of (text ++ b ∷ [])
tally_push text b =
    let lines = sym (count_push text b) in
    let bytes : length text + 1 ≡ length (text ++ b ∷ []) = sym (length-append text (b ∷ [])) in
    let last : (if ends_line (last_line text) then [] else last_line text) ++ b ∷ [] ≡ last_line (text ++ b ∷ [])
    = ap (λ (e : Bool). (if e then [] else last_line text) ++ b ∷ []) (last_ends text) ∙ sym (last_push text b) in
    ap (λ (n : ℕ). record { lines = n; bytes = length text + 1; last = (if ends_line (last_line text) then [] else last_line text) ++ b ∷ [] }) lines
    ∙ (ap (λ (n : ℕ). record { lines = line_count (text ++ b ∷ []); bytes = n; last = (if ends_line (last_line text) then [] else last_line text) ++ b ∷ [] }) bytes
    ∙ ap (λ (l : List ℕ). record { lines = line_count (text ++ b ∷ []); bytes = length (text ++ b ∷ []); last = l }) last)

pub tally_more : (text piece : List ℕ) → with_bytes (tally_of text) piece ≡ tally_of (text ++ piece)
unfolding with_bytes
tally_more text [] = ap tally_of (sym (append-nil text))
tally_more text (b ∷ piece) =
    ap (λ (t : Tally). with_bytes t piece) (tally_push text b)
    ∙ (tally_more (text ++ b ∷ []) piece ∙ ap tally_of (append_assoc text (b ∷ []) piece))

-- the byte at its end
pub ends_at : (text : List ℕ) → 1 ≤ length text → (slice_index_or text (length text - 1) 0 == 10) ≡ ends_line text
ends_at [] some = absurd (omega (arith, some))
ends_at (x ∷ []) some = refl
ends_at (x ∷ y ∷ text) some =
    let at : length (x ∷ y ∷ text) - 1 ≡ suc (length (y ∷ text) - 1) = omega arith in
    ap (λ (i : ℕ). slice_index_or (x ∷ y ∷ text) i 0 == 10) at ∙ ends_at (y ∷ text) (omega arith)

-- a step of the loop over a piece
pub bytes_more : (t : Tally) (piece : List ℕ) (b : ℕ) → with_byte (with_bytes t piece) b ≡ with_bytes t (piece ++ b ∷ [])
unfolding with_bytes
bytes_more t [] b = refl
bytes_more t (x ∷ piece) b = bytes_more (with_byte t x) piece b

pub bytes_long : (t : Tally) (piece : List ℕ) → (with_bytes t piece).bytes ≡ t.bytes + length piece
unfolding with_bytes
bytes_long t [] = omega arith
bytes_long t (x ∷ piece) = bytes_long (with_byte t x) piece ∙ omega arith
