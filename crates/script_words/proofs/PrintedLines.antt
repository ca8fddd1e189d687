-- The lines of a printed text, and the words of a printed line.
use Rattle.std.proofs.Common.{◌≡◌, ℕ, zero, suc, ◌-◌, Bool, true, false, ◌&&◌, ◌==◌, cond, List, [], ◌∷◌, ◌++◌, length, nat_le, refl, ap, ◌∙◌, arith, All, slice_index, take}
use Rattle.std.specs.List.{list_all}
use Rattle.std.specs.Str.Lines.{lines, lines_of_parts, strip_carriage_return}
use Rattle.std.proofs.lemmas.Bool.{and_parts, and_from, lt-ltb}
use Rattle.std.proofs.lemmas.Bool.Decides.{nat_tests}
use Rattle.std.proofs.lemmas.List.{append-nil}
use Rattle.std.proofs.lemmas.List.Elements.{All-head, All-tail}
use Rattle.std.proofs.lemmas.List.Folds.{list_all-append}
use Rattle.std.proofs.lemmas.List.Splits.{slice_split_at}
use Rattle.script_words.specs.Line.{is_good, words_of}
use Rattle.script_words.proofs.Lines.{more_lines}
use Rattle.script_words.proofs.LineWords.{is_word_byte, all_weaker, all_false, words_blank, words_end}
use Rattle.script_words.proofs.WordBytes.{IsWord}

-- a printable byte of ASCII
abbrev pub is_printable : ℕ → Bool
is_printable byte = nat_le 32 byte && nat_le byte 126

-- words, each with a space before it
abbrev pub spaced : List (List ℕ) → List ℕ
spaced [] = []
spaced (w ∷ ws) = 32 ∷ (w ++ spaced ws)

no_newline : (byte : ℕ) → is_printable byte ≡ true → (byte == 10) ≡ false
no_newline byte h = grind (arith, nat_tests)

no_return : (byte : ℕ) → is_printable byte ≡ true → (byte == 13) ≡ false
no_return byte h = grind (arith, nat_tests)

word_printable : (byte : ℕ) → is_word_byte byte ≡ true → is_printable byte ≡ true
word_printable byte h = grind (arith, nat_tests)

printable_good : (byte : ℕ) → is_printable byte ≡ true → is_good byte ≡ true
printable_good byte h = grind (arith, nat_tests)

no_return_at : (line : List ℕ) (at : ℕ) → list_all is_printable line ≡ true → (slice_index line at == 13) ≡ false
no_return_at [] at h = refl
no_return_at (b ∷ line) zero h = no_return b (and_parts (is_printable b) (list_all is_printable line) h).0
no_return_at (b ∷ line) (suc at) h = no_return_at line at (and_parts (is_printable b) (list_all is_printable line) h).1

no_strip : (line : List ℕ) → list_all is_printable line ≡ true → strip_carriage_return line ≡ line
no_strip line h = ap (λ t. cond t (take (length line - 1) line) line) (no_return_at line (length line - 1) h)

-- a printed line is a line
pub line_first : (line rest : List ℕ) → list_all is_printable line ≡ true → lines (line ++ 10 ∷ rest) ≡ line ∷ lines rest
line_first line rest h =
    ap lines_of_parts (slice_split_at (λ b. b == 10) line 10 rest (all_false is_printable (λ b. b == 10) no_newline line h) refl)
    ∙ more_lines line rest ∙ ap (λ t. t ∷ lines rest) (no_strip line h)

words_front : (w rest : List ℕ) → IsWord w → words_of (w ++ 32 ∷ rest) ≡ w ∷ words_of rest
words_front w rest h = words_blank w 32 rest h.bytes refl ∙ ap (λ t. cond t (w ∷ words_of rest) (words_of rest)) (lt-ltb 0 (length w) h.some)

words_last : (w : List ℕ) → IsWord w → words_of w ≡ w ∷ []
words_last w h = words_end w h.bytes ∙ ap (λ t. cond t (w ∷ []) []) (lt-ltb 0 (length w) h.some)

-- the words of words with one space between
pub words_read : (w : List ℕ) (ws : List (List ℕ)) → IsWord w → All IsWord ws → words_of (w ++ spaced ws) ≡ w ∷ ws
words_read w [] h all = ap words_of (append-nil w) ∙ words_last w h
words_read w (x ∷ ws) h all = words_front w (x ++ spaced ws) h ∙ ap (λ t. w ∷ t) (words_read x ws (All-head IsWord x ws all) (All-tail IsWord x ws all))

-- their bytes are printable
pub words_printable : (w : List ℕ) (ws : List (List ℕ)) → IsWord w → All IsWord ws → list_all is_printable (w ++ spaced ws) ≡ true
words_printable w [] h all = ap (list_all is_printable) (append-nil w) ∙ all_weaker is_word_byte is_printable word_printable w h.bytes
words_printable w (x ∷ ws) h all =
    list_all-append is_printable w (32 ∷ (x ++ spaced ws))
    ∙ and_from (list_all is_printable w) (list_all is_printable (x ++ spaced ws)) (all_weaker is_word_byte is_printable word_printable w h.bytes) (words_printable x ws (All-head IsWord x ws all) (All-tail IsWord x ws all))

-- and good
pub printable_line : (line : List ℕ) → list_all is_printable line ≡ true → list_all is_good line ≡ true
printable_line line h = all_weaker is_printable is_good printable_good line h
