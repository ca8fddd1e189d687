-- Lines whose names are all known: what they say, by the places of the names.
use Rattle.std.proofs.Common.{◌≡◌, ℕ, suc, ◌-◌, ◌≤◌, Bool, true, false, cond, nat_le, List, [], ◌∷◌, ◌++◌, length, take, drop, get_or, slice_get, Some, None, Result, Ok, Err, ℤ, unsigned_abs, codes, refl, sym, subst, ap, ◌∙◌, append_assoc, length-append, take_all, arith, All}
use Rattle.std.specs.List.{list_all}
use Rattle.std.specs.Char.{is_ascii_digit}
use Rattle.std.specs.Fmt.{sign_text}
use Rattle.std.proofs.lemmas.Bool.{and_from}
use Rattle.std.proofs.lemmas.Bool.Decides.{nat_tests}
use Rattle.std.proofs.lemmas.List.Folds.{list_all-append}
use Rattle.std.proofs.lemmas.List.{append-nil, take-append-drop}
use Rattle.std.proofs.lemmas.List.Elements.{All-nil, All-cons}
use Rattle.desk_names.specs.Names.{has_text, place_of, IsNames}
use Rattle.desk_names.proofs.NameLaws.{slice_get-place_of, IsName-at}
use Rattle.session_commands.specs.declared.table.Verb.TheVariants as verb
use Rattle.session_commands.specs.declared.table.Kind.TheVariants as kind
use Rattle.session_commands.specs.declared.field.Field.TheVariants.{Nothing, Name, Number, Weight}
use Rattle.session_commands.specs.declared.command.Command.{Command}
use Rattle.session_commands.specs.declared.command.Command.TheVariants as command
use Rattle.session_commands.specs.Table.{row_of}
use Rattle.session_commands.specs.Parts.{command_of, parts_of, together}
use Rattle.fixed_amount.specs.declared.decimal.DecimalFault.{DecimalFault}
use Rattle.fixed_amount.specs.Decimal.{decimal_value, point_text, all_digits, WritesUnits}
use Rattle.fixed_amount.proofs.DecimalLaws.{value_law}
use Rattle.script_words.specs.Word.{within, number_within, weight_of}
use Rattle.script_words.proofs.LineWords.{is_word_byte, all_weaker}
use Rattle.script_words.proofs.WordBytes.{IsWord, name_word}
use Rattle.script_words.proofs.PrintedLines.{spaced, words_printable, line_first}
use Rattle.script_words.proofs.Fields.{Back, nothing_back, name_said, number_said, weight_said}
use Rattle.session_lang.specs.declared.statement.Statement.TheVariants.{Run}
use Rattle.session_lang.specs.Statement.{word, command_meaning, words_meaning}
use Rattle.session_lang.specs.Reading.{action_of, IsSaidFirst}
use Rattle.session_lang.proofs.RowFacts.{row_is}
use Rattle.session_lang.proofs.CommandLines.{command_read, row_said, words_line}

-- a word that is found among the names is read as its place
pub name_found : (names : List (List ℕ)) → IsNames names → (here there : List ℕ) (place : ℕ) → here ≡ there
    → true ≡ has_text names there → place ≡ place_of names there → Back names [] kind.Name (Name place) here
name_found names sound here there place same found is =
    let at = ap (slice_get names) is ∙ slice_get-place_of names there (sym found) in
    subst (Back names [] kind.Name (Name place)) (sym same) (name_said names [] sound place there at)

-- a number that was read
pub number_found : (names : List (List ℕ)) (here there : List ℕ) (units : ℤ) → here ≡ there
    → Some units ≡ number_within 9 1_000_000_000_000_000_000 there → Back names [] kind.Number (Number units) here
number_found names here there units same is =
    subst (Back names [] kind.Number (Number units)) (sym same) (number_said names [] there units (sym is))

-- a weight that was read
pub weight_found : (names : List (List ℕ)) (here there : List ℕ) (weight : ℤ) → here ≡ there → Some weight ≡ weight_of there
    → Back names [] kind.Weight (Weight weight) here
weight_found names here there weight same is =
    subst (Back names [] kind.Weight (Weight weight)) (sym same) (weight_said names [] there weight (sym is))

module _ (names begun words : List (List ℕ)) where
  -- an ask of a name that is known
  pub ask_said : (name : ℕ) → length words ≡ 1 → Back names [] kind.Name (Name name) (word words 0)
      → command_meaning (record { names = names; begun = begun }) (Some verb.Ask) words
      ≡ Ok (Run (command.Ask name), record { names = names; begun = begun })
  unfolding row_of command_of
  ask_said name count first =
      command_read names begun [] verb.Ask (together verb.Ask (Name name) Nothing Nothing) (command.Ask name) words
      (record { count = count; first = first; second = nothing_back names [] (word words 1); third = nothing_back names [] (word words 2) })
      refl

  -- a set of a name that is known
  pub set_said : (name : ℕ) (units : ℤ) → length words ≡ 2 → Back names [] kind.Name (Name name) (word words 0)
      → Back names [] kind.Number (Number units) (word words 1)
      → command_meaning (record { names = names; begun = begun }) (Some verb.Set) words
      ≡ Ok (Run (command.Set name units), record { names = names; begun = begun })
  unfolding row_of command_of
  set_said name units count first second =
      command_read names begun [] verb.Set (together verb.Set (Name name) (Number units) Nothing) (command.Set name units) words
      (record { count = count; first = first; second = second; third = nothing_back names [] (word words 2) })
      refl

  -- a member whose names are known
  pub member_said : (name other : ℕ) (weight : ℤ) → length words ≡ 3 → Back names [] kind.Name (Name name) (word words 0)
      → Back names [] kind.Name (Name other) (word words 1) → Back names [] kind.Weight (Weight weight) (word words 2)
      → command_meaning (record { names = names; begun = begun }) (Some verb.Member) words
      ≡ Ok (Run (command.Member name other weight), record { names = names; begun = begun })
  unfolding row_of command_of
  member_said name other weight count first second third =
      command_read names begun [] verb.Member (together verb.Member (Name name) (Name other) (Weight weight))
      (command.Member name other weight) words
      (record { count = count; first = first; second = second; third = third })
      refl

digit_byte : (byte : ℕ) → is_ascii_digit byte ≡ true → is_word_byte byte ≡ true
digit_byte byte h = grind (arith, nat_tests)

sign_bytes : (negative : Bool) → list_all is_word_byte (sign_text negative) ≡ true
sign_bytes true = refl
sign_bytes false = refl

point_bytes : (digits : List ℕ) → all_digits digits ≡ true → list_all is_word_byte (point_text digits) ≡ true
point_bytes [] h = refl
point_bytes (d ∷ digits) h = all_weaker is_ascii_digit is_word_byte digit_byte (d ∷ digits) h

join_bytes : (a b : List ℕ) → list_all is_word_byte a ≡ true → list_all is_word_byte b ≡ true → list_all is_word_byte (a ++ b) ≡ true
join_bytes a b h k = list_all-append is_word_byte a b ∙ and_from (list_all is_word_byte a) (list_all is_word_byte b) h k

-- a text that is read as a decimal is a word
decimal_word : (text : List ℕ) (places : ℕ) (units : ℤ) → decimal_value text places ≡ Ok units → IsWord text
decimal_word text places units h =
    let w : WritesUnits text places units = (value_law text places units).0 h in
    record {
      some = omega (arith, w.shape.nonempty, simp length-append at (ap length w.shape.written));
      bytes = ap (list_all is_word_byte) w.shape.written
          ∙ join_bytes (sign_text w.negative) (w.whole ++ point_text w.fraction) (sign_bytes w.negative)
          (join_bytes w.whole (point_text w.fraction) (all_weaker is_ascii_digit is_word_byte digit_byte w.whole w.shape.whole_digits)
          (point_bytes w.fraction w.shape.fraction_digits));
    }

the_units : (fits : Bool) (units other : ℤ) → cond fits (Some units) None ≡ Some other → units ≡ other
the_units true units other h = cc
the_units false units other h = absurd (cc)

read_within : (limit : ℕ) (read : Result ℤ DecimalFault) (units : ℤ) → within limit read ≡ Some units → read ≡ Ok units
read_within limit (Err e) units h = absurd (cc)
read_within limit (Ok z) units h = ap Ok (the_units (nat_le (unsigned_abs z) limit) z units h)

-- and so is one that is read within a limit
number_word : (places limit : ℕ) (text : List ℕ) (units : ℤ) → number_within places limit text ≡ Some units → IsWord text
number_word places limit text units h = decimal_word text places units (read_within limit (decimal_value text places) units h)

first_and_rest : (text : List ℕ) → 1 ≤ length text → text ≡ get_or text 0 0 ∷ take (length text - 1) (drop 1 text)
first_and_rest [] h = absurd (omega arith)
first_and_rest (x ∷ xs) h = let e : suc (length xs) - 1 ≡ length xs = omega arith in ap (λ t. x ∷ t) (sym (ap (λ n. take n xs) e ∙ take_all (length xs) xs (omega arith)))

-- the first words of a text, where they are a line
said_first : (names : List (List ℕ)) (command : Command) (w : List ℕ) (ws : List (List ℕ)) (text behind : List ℕ)
    → IsWord w → All IsWord ws → action_of command ≡ None
    → ((begun : List (List ℕ)) (inside : Bool) → words_meaning (record { names = names; begun = begun }) inside (w ∷ ws)
    ≡ Ok (Run command, record { names = names; begun = begun }))
    → text ≡ (w ++ spaced ws) ++ behind → IsSaidFirst names text command behind
said_first names command w ws text behind word words unlinked says whole = record {
  line = w ++ spaced ws;
  whole = whole;
  alone = λ after. line_first (w ++ spaced ws) after (words_printable w ws word words);
  says = λ begun inside. words_line (record { names = names; begun = begun }) inside w ws word words ∙ says begun inside;
  unlinked = unlinked;
}

ask_text : (name behind : List ℕ) → codes "ask " ++ (name ++ behind) ≡ (codes "ask" ++ spaced (name ∷ [])) ++ behind
ask_text name behind = simp append-nil

set_text : (name value behind : List ℕ) → codes "set " ++ (name ++ 32 ∷ (value ++ behind)) ≡ (codes "set" ++ spaced (name ∷ value ∷ [])) ++ behind
set_text name value behind = simp (append_assoc, append-nil)

module _ (names : List (List ℕ)) (sound : IsNames names) (name : List ℕ) (place : ℕ) (at : slice_get names place ≡ Some name) where
  is_word : IsWord name
  is_word = name_word name (IsName-at names name sound place at)

  -- an ask of a known name
  pub ask_first : (text behind : List ℕ) → text ≡ name ++ behind → IsSaidFirst names (codes "ask " ++ text) (command.Ask place) behind
  unfolding row_of parts_of
  ask_first text behind whole =
      said_first names (command.Ask place) (codes "ask") (name ∷ []) (codes "ask " ++ text) behind (row_is verb.Ask).word
      (All-cons IsWord name [] is_word (All-nil IsWord)) refl
      (λ begun inside. row_said (record { names = names; begun = begun }) inside verb.Ask (name ∷ [])
      ∙ ask_said names begun (name ∷ []) place refl (name_said names [] sound place name at))
      (ap (λ t. codes "ask " ++ t) whole ∙ ask_text name behind)

  -- a set of a known name
  pub set_first : (value : List ℕ) (units : ℤ) (text behind : List ℕ) → Some units ≡ number_within 9 1_000_000_000_000_000_000 value
      → text ≡ name ++ 32 ∷ (value ++ behind) → IsSaidFirst names (codes "set " ++ text) (command.Set place units) behind
  unfolding row_of parts_of
  set_first value units text behind read whole =
      said_first names (command.Set place units) (codes "set") (name ∷ value ∷ []) (codes "set " ++ text) behind (row_is verb.Set).word
      (All-cons IsWord name (value ∷ []) is_word
      (All-cons IsWord value [] (number_word 9 1_000_000_000_000_000_000 value units (sym read)) (All-nil IsWord))) refl
      (λ begun inside. row_said (record { names = names; begun = begun }) inside verb.Set (name ∷ value ∷ [])
      ∙ set_said names begun (name ∷ value ∷ []) place units refl (name_said names [] sound place name at)
      (number_found names value value units refl read))
      (ap (λ t. codes "set " ++ t) whole ∙ set_text name value behind)

-- the parts of a text
pub joined : (text word behind : List ℕ) (n : ℕ) → word ≡ take n text → behind ≡ drop n text → text ≡ word ++ behind
joined text word behind n front back =
    sym (take-append-drop n text) ∙ ap (λ t. t ++ drop n text) (sym front) ∙ ap (λ t. word ++ t) (sym back)

-- the parts of a text that a byte parts
pub parted : (text word behind : List ℕ) (n byte : ℕ) → word ≡ take n text → behind ≡ drop n text → 1 ≤ length behind → get_or behind 0 0 ≡ byte
    → text ≡ word ++ byte ∷ take (length behind - 1) (drop 1 behind)
parted text word behind n byte front back some first =
    joined text word behind n front back
    ∙ ap (λ t. word ++ t) (first_and_rest behind some) ∙ ap (λ b. word ++ b ∷ take (length behind - 1) (drop 1 behind)) first
