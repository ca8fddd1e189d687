-- The words of a line, from its first byte on.
use Rattle.std.proofs.Common.{◌≡◌, ℕ, suc, ◌+◌, ◌-◌, ◌<◌, ◌≤◌, get_or, Bool, true, false, not, ◌&&◌, ◌==◌, cond, nat_lt, nat_le, List, [], ◌∷◌, ◌++◌, length, filter, take, drop, refl, sym, ap, ◌∙◌, arith, append_assoc, take_all, All}
use Rattle.std.specs.List.{list_all, prefix_len, slice_split}
use Rattle.std.proofs.lemmas.Bool.{and_parts, and_from}
use Rattle.std.proofs.lemmas.Bool.Decides.{nat_tests}
use Rattle.std.proofs.lemmas.List.{append-nil, take-append-drop}
use Rattle.std.proofs.lemmas.List.Elements.{All-nil, All-cons}
use Rattle.std.proofs.lemmas.List.Folds.{list_all-append}
use Rattle.std.proofs.lemmas.List.Splits.{slice_split_at, slice_split_none}
use Rattle.std.proofs.lemmas.List.Sums.{take_while-cons}
use Rattle.script_words.specs.Line.{is_good, is_blank, before_comment, words_of}

-- a byte that stands in a word: printable, no blank, no comment's mark
abbrev pub is_word_byte : ℕ → Bool
is_word_byte byte = nat_le 33 byte && nat_le byte 126 && not (byte == 35)

no_mark : (byte : ℕ) → is_word_byte byte ≡ true → not (byte == 35) ≡ true
no_mark byte h = grind (arith, nat_tests)

no_blank : (byte : ℕ) → is_word_byte byte ≡ true → is_blank byte ≡ false
no_blank byte h = grind (arith, nat_tests)

word_good : (byte : ℕ) → is_word_byte byte ≡ true → is_good byte ≡ true
word_good byte h = grind (arith, nat_tests)

blank_good : (byte : ℕ) → is_blank byte ≡ true → is_good byte ≡ true
blank_good byte h = grind (arith, nat_tests)

blank_no_mark : (byte : ℕ) → is_blank byte ≡ true → not (byte == 35) ≡ true
blank_no_mark byte h = grind (arith, nat_tests)

mark_good : (byte : ℕ) → (byte == 35) ≡ true → is_good byte ≡ true
mark_good byte h = grind (arith, nat_tests)

else_bad : (byte : ℕ) → is_word_byte byte ≡ false → is_blank byte ≡ false → (byte == 35) ≡ false → is_good byte ≡ false
else_bad byte h k m = grind (arith, nat_tests)

-- what holds of each byte, and what follows from it
pub all_weaker : (p q : ℕ → Bool) → ((b : ℕ) → p b ≡ true → q b ≡ true) → (bytes : List ℕ) → list_all p bytes ≡ true → list_all q bytes ≡ true
all_weaker p q more [] h = refl
all_weaker p q more (b ∷ bytes) h =
    let parts = and_parts (p b) (list_all p bytes) h in
    and_from (q b) (list_all q bytes) (more b parts.0) (all_weaker p q more bytes parts.1)

pub all_false : (p q : ℕ → Bool) → ((b : ℕ) → p b ≡ true → q b ≡ false) → (bytes : List ℕ) → list_all p bytes ≡ true → All (λ b. q b ≡ false) bytes
all_false p q more [] h = All-nil (λ b. q b ≡ false)
all_false p q more (b ∷ bytes) h =
    let parts = and_parts (p b) (list_all p bytes) h in
    All-cons (λ b. q b ≡ false) b bytes (more b parts.0) (all_false p q more bytes parts.1)

before_all : (w rest : List ℕ) → list_all is_word_byte w ≡ true → before_comment (w ++ rest) ≡ w ++ before_comment rest
before_all [] rest h = refl
before_all (b ∷ w) rest h =
    let parts = and_parts (is_word_byte b) (list_all is_word_byte w) h in
    take_while-cons (λ byte. not (byte == 35)) b (w ++ rest)
    ∙ ap (λ t. cond t (b ∷ before_comment (w ++ rest)) []) (no_mark b parts.0)
    ∙ ap (λ t. b ∷ t) (before_all w rest parts.1)

-- a word, where it has a byte, before others
abbrev pub some_word : List ℕ → List (List ℕ) → List (List ℕ)
some_word w others = cond (nat_lt 0 (length w)) (w ∷ others) others

before_blank : (b : ℕ) (rest : List ℕ) → is_blank b ≡ true → before_comment (b ∷ rest) ≡ b ∷ before_comment rest
before_blank b rest h =
    take_while-cons (λ byte. not (byte == 35)) b rest ∙ ap (λ t. cond t (b ∷ before_comment rest) []) (blank_no_mark b h)

-- a blank ends a word
pub words_blank : (w : List ℕ) (b : ℕ) (rest : List ℕ) → list_all is_word_byte w ≡ true → is_blank b ≡ true → words_of (w ++ b ∷ rest) ≡ some_word w (words_of rest)
unfolding words_of
words_blank w b rest h k =
    ap (λ t. filter (λ word. nat_lt 0 (length word)) (slice_split is_blank t)) (before_all w (b ∷ rest) h ∙ ap (λ t. w ++ t) (before_blank b rest k))
    ∙ ap (filter (λ word. nat_lt 0 (length word))) (slice_split_at is_blank w b (before_comment rest) (all_false is_word_byte is_blank no_blank w h) k)

words_alone : (w : List ℕ) → list_all is_word_byte w ≡ true → filter (λ word. nat_lt 0 (length word)) (slice_split is_blank w) ≡ some_word w []
words_alone w h = ap (filter (λ word. nat_lt 0 (length word))) (slice_split_none is_blank w (all_false is_word_byte is_blank no_blank w h))

-- and so does the line's end
pub words_end : (w : List ℕ) → list_all is_word_byte w ≡ true → words_of w ≡ some_word w []
unfolding words_of
words_end w h =
    ap (λ t. filter (λ word. nat_lt 0 (length word)) (slice_split is_blank t)) (ap before_comment (sym (append-nil w)) ∙ before_all w [] h ∙ append-nil w)
    ∙ words_alone w h

before_mark : (b : ℕ) (rest : List ℕ) → (b == 35) ≡ true → before_comment (b ∷ rest) ≡ []
before_mark b rest h =
    take_while-cons (λ byte. not (byte == 35)) b rest ∙ ap (λ t. cond (not t) (b ∷ before_comment rest) []) h

-- and a comment
pub words_comment : (w : List ℕ) (b : ℕ) (rest : List ℕ) → list_all is_word_byte w ≡ true → (b == 35) ≡ true → words_of (w ++ b ∷ rest) ≡ some_word w []
unfolding words_of
words_comment w b rest h m =
    ap (λ t. filter (λ word. nat_lt 0 (length word)) (slice_split is_blank t)) (before_all w (b ∷ rest) h ∙ ap (λ t. w ++ t) (before_mark b rest m) ∙ append-nil w)
    ∙ words_alone w h

-- the bytes of a word are good
good_behind : (w rest : List ℕ) → list_all is_word_byte w ≡ true → list_all is_good (w ++ rest) ≡ list_all is_good rest
good_behind w rest h = list_all-append is_good w rest ∙ ap (λ b. b && list_all is_good rest) (all_weaker is_word_byte is_good word_good w h)

-- the words before a part of the line, and what is left to be said of that part
pub record Cut (line : List ℕ) (words : List (List ℕ)) (rest : List ℕ) : Type 0 where
  pub good : list_all is_good line ≡ list_all is_good rest
  pub whole : words ++ words_of rest ≡ words_of line

-- the words that stand with one more, where that has a byte
abbrev pub words_with : List (List ℕ) → List ℕ → List (List ℕ)
words_with words w = words ++ some_word w []

with_more : (words : List (List ℕ)) (w : List ℕ) (others : List (List ℕ)) → words_with words w ++ others ≡ words ++ some_word w others
with_more words w others = append_assoc words (some_word w []) others ∙ ap (λ t. words ++ t) (front (nat_lt 0 (length w)))
  where
    front : (b : Bool) → cond b (w ∷ []) [] ++ others ≡ cond b (w ∷ others) others
    front true = refl
    front false = refl

front_all : (p : ℕ → Bool) (xs : List ℕ) → list_all p (take (prefix_len p xs) xs) ≡ true
front_all p [] = refl
front_all p (x ∷ xs) = by (p x) refl (front_all p xs)
  where
    by : (b : Bool) → p x ≡ b → list_all p (take (prefix_len p xs) xs) ≡ true → list_all p (take (cond b (1 + prefix_len p xs) 0) (x ∷ xs)) ≡ true
    by true h more = let e : 1 + prefix_len p xs ≡ suc (prefix_len p xs) = omega arith in rw e (and_from (p x) (list_all p (take (prefix_len p xs) xs)) h more)
    by false h more = refl

behind_stops : (p : ℕ → Bool) (xs : List ℕ) (b : ℕ) (after : List ℕ) → drop (prefix_len p xs) xs ≡ b ∷ after → p b ≡ false
behind_stops p [] b after h = absurd (cc)
behind_stops p (x ∷ xs) b after h = by (p x) refl (behind_stops p xs b after) h
  where
    by : (t : Bool) → p x ≡ t → (drop (prefix_len p xs) xs ≡ b ∷ after → p b ≡ false) → drop (cond t (1 + prefix_len p xs) 0) (x ∷ xs) ≡ b ∷ after → p b ≡ false
    by true k more d = let e : 1 + prefix_len p xs ≡ suc (prefix_len p xs) = omega arith in more (sym (ap (λ n. drop n (x ∷ xs)) e) ∙ d)
    by false k more d = cc

no_byte : (text : List ℕ) → length text < 1 → text ≡ []
no_byte [] h = refl
no_byte (x ∷ xs) h = absurd (omega arith)

first_and_rest : (text : List ℕ) → 1 ≤ length text → text ≡ get_or text 0 0 ∷ take (length text - 1) (drop 1 text)
first_and_rest [] h = absurd (omega arith)
first_and_rest (x ∷ xs) h = let e : suc (length xs) - 1 ≡ length xs = omega arith in ap (λ t. x ∷ t) (sym (ap (λ n. take n xs) e ∙ take_all (length xs) xs (omega arith)))

-- a text with the first word cut off
module _ (line : List ℕ) (words more : List (List ℕ)) (text word behind : List ℕ) (n : ℕ)
    (count : n ≡ prefix_len is_word_byte text) (front : word ≡ take n text) (back : behind ≡ drop n text)
    (kept : more ≡ words_with words word) (cut : Cut line words text) where
  bytes : list_all is_word_byte word ≡ true
  bytes = ap (list_all is_word_byte) (front ∙ ap (λ k. take k text) count) ∙ front_all is_word_byte text

  joined : text ≡ word ++ behind
  joined = sym (take-append-drop n text) ∙ ap (λ t. t ++ drop n text) (sym front) ∙ ap (λ t. word ++ t) (sym back)

  good_rest : list_all is_good line ≡ list_all is_good behind
  good_rest = cut.good ∙ ap (list_all is_good) joined ∙ good_behind word behind bytes

  stops : (b : ℕ) (after : List ℕ) → behind ≡ b ∷ after → is_word_byte b ≡ false
  stops b after e = behind_stops is_word_byte text b after (ap (λ k. drop k text) (sym count) ∙ sym back ∙ e)

  all_words : (others : List (List ℕ)) → words_of (word ++ behind) ≡ some_word word others → more ++ others ≡ words_of line
  all_words others e =
      ap (λ t. t ++ others) kept ∙ with_more words word others
      ∙ ap (λ t. words ++ t) (sym (ap words_of joined ∙ e)) ∙ cut.whole

  last_words : words_of (word ++ behind) ≡ some_word word [] → more ≡ words_of line
  last_words e = sym (append-nil more) ∙ all_words [] e

  -- behind a blank the line goes on
  cut_blank_at : (b : ℕ) (after : List ℕ) → behind ≡ b ∷ after → is_blank b ≡ true → Cut line more after
  cut_blank_at b after e h = record {
    good = good_rest ∙ ap (list_all is_good) e ∙ ap (λ t. t && list_all is_good after) (blank_good b h);
    whole = all_words (words_of after) (ap (λ t. words_of (word ++ t)) e ∙ words_blank word b after bytes h);
  }

  -- it ends behind its last word
  cut_end_at : behind ≡ [] → (true ≡ list_all is_good line) × (more ≡ words_of line)
  cut_end_at e = (
    sym (good_rest ∙ ap (list_all is_good) e),
    last_words (ap (λ t. words_of (word ++ t)) e ∙ ap words_of (append-nil word) ∙ words_end word bytes),
  )

  -- or with a comment; any other byte is bad
  cut_last_at : (b : ℕ) (after : List ℕ) → behind ≡ b ∷ after → is_blank b ≡ false
      → ((b == 35 && list_all is_good after) ≡ list_all is_good line) × ((b == 35 && list_all is_good after) ≡ true → more ≡ words_of line)
  cut_last_at b after e h = by (b == 35) refl
    where
      by : (m : Bool) → (b == 35) ≡ m → ((m && list_all is_good after) ≡ list_all is_good line) × ((m && list_all is_good after) ≡ true → more ≡ words_of line)
      by true m = (
        sym (good_rest ∙ ap (list_all is_good) e ∙ ap (λ t. t && list_all is_good after) (mark_good b m)),
        λ _. last_words (ap (λ t. words_of (word ++ t)) e ∙ words_comment word b after bytes m),
      )
      by false m = (
        sym (good_rest ∙ ap (list_all is_good) e ∙ ap (λ t. t && list_all is_good after) (else_bad b (stops b after e) h m)),
        λ k. absurd (cc),
      )

  -- the same, as the code sees what stands behind the word
  pub cut_blank : 1 ≤ length behind → is_blank (get_or behind 0 0) ≡ true → Cut line more (take (length behind - 1) (drop 1 behind))
  cut_blank some h = cut_blank_at (get_or behind 0 0) (take (length behind - 1) (drop 1 behind)) (first_and_rest behind some) h

  pub cut_end : length behind < 1 → (true ≡ list_all is_good line) × (more ≡ words_of line)
  cut_end none = cut_end_at (no_byte behind none)

  pub cut_last : 1 ≤ length behind → is_blank (get_or behind 0 0) ≡ false
      → ((get_or behind 0 0 == 35 && list_all is_good (take (length behind - 1) (drop 1 behind))) ≡ list_all is_good line)
      × ((get_or behind 0 0 == 35 && list_all is_good (take (length behind - 1) (drop 1 behind))) ≡ true → more ≡ words_of line)
  cut_last some h = cut_last_at (get_or behind 0 0) (take (length behind - 1) (drop 1 behind)) (first_and_rest behind some) h

-- nothing is left to say of no byte
pub cut_done : (line : List ℕ) (words : List (List ℕ)) (rest : List ℕ) → length rest < 1 → Cut line words rest → (true ≡ list_all is_good line) × (words ≡ words_of line)
unfolding words_of
cut_done line words rest none cut = let e = no_byte rest none in (
  sym (cut.good ∙ ap (list_all is_good) e),
  sym (append-nil words) ∙ ap (λ t. words ++ words_of t) (sym e) ∙ cut.whole,
)
