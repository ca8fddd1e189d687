-- A printed script is read back.
use Rattle.std.proofs.Common.{◌≡◌, ℕ, ◌+◌, ◌<◌, ◌≤◌, true, false, not, ◌||◌, cond, List, [], ◌∷◌, ◌++◌, length, map, nat_lt, slice_get, Some, None, Ok, Err, codes, refl, sym, ap, subst, ◌∙◌, ⊎_elim, append_assoc, length-append, All, arith, get_or, lit<}
use Rattle.std.specs.List.{find, list_all}
use Rattle.std.specs.Str.Lines.{lines}
use Rattle.std.proofs.lemmas.Bool.{cases_Bool, lt-ltb, le-ltb}
use Rattle.std.proofs.lemmas.Option.{slice_get-get_or, get_or_from_slice_get}
use Rattle.std.proofs.lemmas.List.{append-nil, map-append, length_push, get_or_at, get_or_append_left}
use Rattle.std.proofs.lemmas.List.Elements.{All-nil, All-cons, All-head, All-tail, All-get_or}
use Rattle.desk_names.specs.Name.{is_name}
use Rattle.desk_names.specs.Names.{has_text, with_text, place_of, most_names, IsNames}
use Rattle.desk_names.proofs.NameLaws.{IsName-at, place_of-lt, place_of-at, slice_get-place_of, new_goes_last}
use Rattle.session_commands.specs.declared.script_kind.ScriptKind.TheVariants as fault
use Rattle.session_commands.specs.declared.command.Command.{Command}
use Rattle.session_lang.specs.declared.statement.Statement.TheVariants.{Begin, End}
use Rattle.session_lang.specs.declared.steps.Step.{Step}
use Rattle.session_commands.specs.declared.script.Script.{Script}
use Rattle.script_words.specs.Given.{◌>>=◌}
use Rattle.script_words.specs.Word.{numbered}
use Rattle.session_lang.specs.Statement.{Known, begin_meaning, words_meaning, line_meaning}
use Rattle.session_lang.specs.Reading.{Said, lines_meaning, lacks, actions_of, action_names_of, commands_of, line_of, script_of, unless_lacking, together_of, most_bytes, script_meaning}
use Rattle.session_commands.specs.Whole.{name_text}
use Rattle.script_words.specs.WordText.{action_text}
use Rattle.session_lang.specs.Printing.{commands_text, block_text, blocks_text, script_text}
use Rattle.session_commands.specs.Whole.{IsCommand, IsScript}
use Rattle.script_words.proofs.Words.{name_again}
use Rattle.script_words.proofs.WordBytes.{IsWord, name_word}
use Rattle.script_words.proofs.PrintedLines.{is_printable, spaced, words_printable, line_first}
use Rattle.session_lang.proofs.CommandLines.{words_line}
use Rattle.session_lang.proofs.Tells.{Tells, tells_none, tells_begin, tells_end, retell, all_known, after, after_inside, after_outside, commands_tell}

-- a text behind others is not among them
fresh : (front back : List (List ℕ)) (text : List ℕ) → IsNames (front ++ text ∷ back) → has_text front text ≡ false
fresh front back text sound = ⊎_elim clash (λ no. no) (cases_Bool (has_text front text))
  where
    clash : has_text front text ≡ true → has_text front text ≡ false
    clash h =
        let lt = place_of-lt front text h in
        let one : slice_get (front ++ text ∷ back) (place_of front text) ≡ Some text =
        slice_get-get_or (front ++ text ∷ back) (place_of front text) text (simp length-append (omega (arith, lt)))
        ∙ ap Some (get_or_append_left front (text ∷ back) text (place_of front text) lt ∙ get_or_from_slice_get front (place_of front text) text text (slice_get-place_of front text h)) in
        let other : slice_get (front ++ text ∷ back) (length front) ≡ Some text =
        slice_get-get_or (front ++ text ∷ back) (length front) text (simp length-append (omega arith))
        ∙ ap Some (get_or_at front text back text (length front) refl) in
        let same : place_of front text ≡ length front = sym (place_of-at (front ++ text ∷ back) text sound.distinct (place_of front text) one) ∙ place_of-at (front ++ text ∷ back) text sound.distinct (length front) other in
        absurd (omega (arith, lt, same))

-- a new name goes behind the others
new_numbered : (front back : List (List ℕ)) (text : List ℕ) → IsNames (front ++ text ∷ back) → is_name text ≡ true → numbered front text ≡ Ok (place_of front text, front ++ text ∷ [])
unfolding numbered
new_numbered front back text sound named =
    let new = fresh front back text sound in
    let room : nat_lt (length front) most_names ≡ true = lt-ltb (length front) most_names (omega (arith, simp length-append at sound.room)) in
    ap (λ b. cond (not b) (Err fault.Name) (cond (has_text front text || nat_lt (length front) most_names) (Ok (place_of front text, with_text front text)) (Err fault.Names))) named
    ∙ ap (λ b. cond (b || nat_lt (length front) most_names) (Ok (place_of front text, with_text front text)) (Err fault.Names)) new
    ∙ ap (λ b. cond b (Ok (place_of front text, with_text front text)) (Err fault.Names)) room
    ∙ ap (λ all. Ok (place_of front text, all)) (new_goes_last front text new)

begin_said : (names front back : List (List ℕ)) (name : ℕ) (text : List ℕ) → IsNames names → slice_get names name ≡ Some text → is_name text ≡ true → IsNames (front ++ text ∷ back) → begin_meaning (record { names = names; begun = front }) false (text ∷ []) ≡ Ok (Begin name, record { names = names; begun = front ++ text ∷ [] })
unfolding begin_meaning
begin_said names front back name text sound at named behind =
    rw (named, fresh front back text behind, new_numbered front back text behind named, name_again names name text sound at) refl

-- the line of a block's name
begin_line : (names front back : List (List ℕ)) (name : ℕ) (text : List ℕ) → IsNames names → slice_get names name ≡ Some text → is_name text ≡ true → IsNames (front ++ text ∷ back) → line_meaning (record { names = names; begun = front }) false (codes "action" ++ spaced (text ∷ [])) ≡ Ok (Begin name, record { names = names; begun = front ++ text ∷ [] })
unfolding words_meaning
begin_line names front back name text sound at named behind =
    words_line (record { names = names; begun = front }) false (codes "action") (text ∷ []) (record { some = lit< tt; bytes = refl }) (All-cons IsWord text [] (name_word text named) (All-nil IsWord))
    ∙ begin_said names front back name text sound at named behind

begin_printable : (text : List ℕ) → is_name text ≡ true → list_all is_printable (codes "action" ++ spaced (text ∷ [])) ≡ true
begin_printable text named = words_printable (codes "action") (text ∷ []) (record { some = lit< tt; bytes = refl }) (All-cons IsWord text [] (name_word text named) (All-nil IsWord))

-- the line of a block's end
end_line : (known : Known) → line_meaning known true (codes "end") ≡ Ok (End, known)
unfolding words_meaning
end_line known = words_line known true (codes "end") [] (record { some = lit< tt; bytes = refl }) (All-nil IsWord)

block_lines : (text cs more rest : List ℕ) → codes "action " ++ text ++ 10 ∷ cs ++ codes "end" ++ 10 ∷ [] ++ more ++ rest ≡ codes "action" ++ spaced (text ∷ []) ++ 10 ∷ (cs ++ (codes "end" ++ 10 ∷ (more ++ rest)))
block_lines text cs more rest = simp (append_assoc, append-nil)

module _ (names : List (List ℕ)) (an : List ℕ) (sound : IsNames names) (known : All (λ name. name < length names) an) (actions_sound : IsNames (map (name_text names) an)) (rest : List ℕ) (last os : List Command) where
  -- the lines of blocks from here on
  Blocks : List (List ℕ) → ℕ → List (List Command) → List ℕ → ℕ → Type 0
  Blocks begun at blocks todo number = (b : List Command) × Tells (all_known names an) false (lines_meaning (record { names = names; begun = begun }) None number (lines (blocks_text names an at blocks ++ rest))) b blocks todo os

  one_block : (front back : List (List ℕ)) (at : ℕ) (block : List Command) (blocks : List (List Command)) (name : ℕ) (todo : List ℕ) → action_text names an at ≡ name_text names name → name < length names → IsNames (front ++ name_text names name ∷ back) → All (IsCommand (length names) (length an)) block → ((number : ℕ) → Blocks (front ++ name_text names name ∷ []) (at + 1) blocks todo number) → (number : ℕ) → Blocks front at (block ∷ blocks) (name ∷ todo) number
  unfolding Blocks blocks_text block_text
  one_block front back at block blocks name todo here lt behind fit more number =
      let place : slice_get names name ≡ Some (name_text names name) = slice_get-get_or names name [] lt in
      let named : is_name (name_text names name) ≡ true = IsName-at names (name_text names name) sound name place in
      let next : Known = record { names = names; begun = front ++ name_text names name ∷ [] } in
      let behind_end : List ℕ = blocks_text names an (at + 1) blocks ++ rest in
      let inner = λ (n : ℕ). subst (λ ls. Tells (all_known names an) true (lines_meaning next (Some number) n ls) [] blocks todo os) (sym (line_first (codes "end") behind_end refl))
      (tells_end (all_known names an) next number n (codes "end") (lines behind_end) (more (n + 1)).0 blocks todo os (end_line next) (more (n + 1)).1) in
      let body = commands_tell names an (front ++ name_text names name ∷ []) sound known actions_sound (Some number) block fit (codes "end" ++ 10 ∷ behind_end) [] blocks todo os inner (number + 1) in
      let whole = tells_begin (all_known names an) (record { names = names; begun = front }) next number (codes "action" ++ spaced (name_text names name ∷ [])) (lines (commands_text names an block ++ (codes "end" ++ 10 ∷ behind_end))) name (block ++ []) blocks todo (after true block os) (begin_line names front back name (name_text names name) sound place named behind) body in
      let e : lines (blocks_text names an at (block ∷ blocks) ++ rest) ≡ (codes "action" ++ spaced (name_text names name ∷ [])) ∷ lines (commands_text names an block ++ (codes "end" ++ 10 ∷ behind_end)) =
      ap lines (ap (λ a. codes "action " ++ a ++ 10 ∷ commands_text names an block ++ codes "end" ++ 10 ∷ [] ++ blocks_text names an (at + 1) blocks ++ rest) here ∙ block_lines (name_text names name) (commands_text names an block) (blocks_text names an (at + 1) blocks) rest)
      ∙ line_first (codes "action" ++ spaced (name_text names name ∷ [])) (commands_text names an block ++ (codes "end" ++ 10 ∷ behind_end)) (begin_printable (name_text names name) named) in (
        block,
        retell (all_known names an) false (lines_meaning (record { names = names; begun = front }) None number ((codes "action" ++ spaced (name_text names name ∷ [])) ∷ lines (commands_text names an block ++ (codes "end" ++ 10 ∷ behind_end)))) (lines_meaning (record { names = names; begun = front }) None number (lines (blocks_text names an at (block ∷ blocks) ++ rest))) (block ++ []) block ((block ++ []) ∷ blocks) (block ∷ blocks) (name ∷ todo) (name ∷ todo) (after true block os) os
            (ap (lines_meaning (record { names = names; begun = front }) None number) e) (append-nil block) (ap (λ x. x ∷ blocks) (append-nil block)) refl (after_inside block os) whole,
      )

  blocks_tell : (done todo : List ℕ) (blocks : List (List Command)) → an ≡ done ++ todo → length blocks ≡ length todo → All (λ block. All (IsCommand (length names) (length an)) block) blocks → ((number : ℕ) → Tells (all_known names an) false (lines_meaning (all_known names an) None number (lines rest)) last [] [] os) → (number : ℕ) → Blocks (map (name_text names) done) (length done) blocks todo number
  unfolding Blocks blocks_text
  blocks_tell done [] [] whole paired fit base number =
      let e : map (name_text names) an ≡ map (name_text names) done = ap (map (name_text names)) (whole ∙ append-nil done) in
      (last, subst (λ begun. Tells (all_known names an) false (lines_meaning (record { names = names; begun = begun }) None number (lines rest)) last [] [] os) e (base number))
  blocks_tell done [] (block ∷ blocks) whole paired fit base number = absurd (omega arith)
  blocks_tell done (x ∷ todo) [] whole paired fit base number = absurd (omega arith)
  blocks_tell done (x ∷ todo) (block ∷ blocks) whole paired fit base number =
      let here : get_or an (length done) (length names) ≡ x = ap (λ l. get_or l (length done) (length names)) whole ∙ get_or_at done x todo (length names) (length done) refl in
      let within : length done < length an = omega (arith, simp length-append at (ap length whole)) in
      let lt : x < length names = subst (λ n. n < length names) here (All-get_or (λ name. name < length names) an (length done) (length names) within known) in
      one_block (map (name_text names) done) (map (name_text names) todo) (length done) block blocks x todo (ap (name_text names) here) lt
      (subst IsNames (ap (map (name_text names)) whole ∙ map-append (name_text names) done (x ∷ todo)) actions_sound)
      (All-head (λ block. All (IsCommand (length names) (length an)) block) block blocks fit)
      (λ n. subst (λ begun. Blocks begun (length done + 1) blocks todo n) (map-append (name_text names) done (x ∷ []))
      (subst (λ i. Blocks (map (name_text names) (done ++ x ∷ [])) i blocks todo n) (length_push done x)
      (blocks_tell (done ++ x ∷ []) todo blocks (whole ∙ sym (append_assoc done (x ∷ []) todo)) (omega (arith, paired)) (All-tail (λ block. All (IsCommand (length names) (length an)) block) block blocks fit) base n)))
      number

  -- the lines of all blocks
  pub all_blocks_tell : (blocks : List (List Command)) → length blocks ≡ length an → All (λ block. All (IsCommand (length names) (length an)) block) blocks → ((number : ℕ) → Tells (all_known names an) false (lines_meaning (all_known names an) None number (lines rest)) last [] [] os) → (b : List Command) × Tells (all_known names an) false (lines_meaning (record { names = names; begun = [] }) None 1 (lines (blocks_text names an 0 blocks ++ rest))) b blocks an os
  unfolding Blocks
  all_blocks_tell blocks paired fit base = blocks_tell [] an blocks refl paired fit base 1

script_made : (K : Known) (steps : List Step) (s : Script) → actions_of K steps ≡ s.actions → commands_of K false steps ≡ s.commands → action_names_of steps ≡ s.action_names → script_of K steps ≡ s
script_made K steps s ha hc hn =
    ap (λ x. record { actions = x; commands = commands_of K false steps; action_names = action_names_of steps }) ha
    ∙ ap (λ x. record { actions = s.actions; commands = x; action_names = action_names_of steps }) hc
    ∙ ap (λ x. record { actions = s.actions; commands = s.commands; action_names = x }) hn

said_together : (K : Known) (said : Said) (s : Script) → said.known ≡ K → said.open_at ≡ None → find (λ step. lacks K step.what) said.steps ≡ None → script_of K said.steps ≡ s → together_of said.known said.steps said.open_at ≡ Ok (s, K.names)
said_together K said s known closed none made =
    ap (λ k. together_of k said.steps said.open_at) known
    ∙ ap (together_of K said.steps) closed
    ∙ ap (λ o. unless_lacking (line_of o) (script_of K said.steps, K.names)) none
    ∙ ap (λ made. Ok (made, K.names)) made

-- what is printed of a whole script reads back to it, over the same names
pub script_back : (names : List (List ℕ)) (s : Script) → IsScript names s → length (script_text names s) ≤ most_bytes → script_meaning names (script_text names s) ≡ Ok (s, names)
unfolding script_meaning script_text
script_back names s is short =
    let an : List ℕ = s.action_names in
    let K : Known = all_known names s.action_names in
    let text : List ℕ = commands_text names s.action_names s.commands in
    let commands : All (IsCommand (length names) (length s.action_names)) s.commands = subst (λ m. All (IsCommand (length names) m) s.commands) is.paired is.commands in
    let actions : All (λ block. All (IsCommand (length names) (length s.action_names)) block) s.actions = subst (λ m. All (λ block. All (IsCommand (length names) m) block) s.actions) is.paired is.actions in
    let base = λ (number : ℕ). retell K false (lines_meaning K None number (lines (text ++ []))) (lines_meaning K None number (lines text)) (s.commands ++ []) (s.commands ++ []) [] [] [] [] (after false s.commands []) s.commands
    (ap (λ t. lines_meaning K None number (lines t)) (sym (append-nil text))) refl refl refl (after_outside s.commands [] ∙ append-nil s.commands)
    (commands_tell names s.action_names K.begun is.named is.known is.action_names None s.commands commands [] [] [] [] [] (tells_none K) number) in
    let told = all_blocks_tell names s.action_names is.named is.known is.action_names text (s.commands ++ []) s.commands s.actions is.paired actions base in
    ap (λ b. cond b (Err (0, fault.TooLong)) (lines_meaning (record { names = names; begun = [] }) None 1 (lines (blocks_text names s.action_names 0 s.actions ++ text)) >>= (λ said. together_of said.known said.steps said.open_at))) (le-ltb most_bytes (length (script_text names s)) short)
    ∙ ap (λ r. r >>= (λ said. together_of said.known said.steps said.open_at)) told.1.is
    ∙ said_together K told.1.said s told.1.after told.1.closed told.1.found (script_made K told.1.said.steps s told.1.of_actions told.1.of_commands told.1.of_names)
