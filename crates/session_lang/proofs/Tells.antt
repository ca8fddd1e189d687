-- What printed lines say together.
use Rattle.std.proofs.Common.{◌≡◌, ℕ, ◌+◌, ◌<◌, Bool, true, false, cond, List, [], ◌∷◌, ◌++◌, length, map, slice_get, slice_index_or, Option, Some, None, is_some, Result, Ok, refl, sym, ap, subst, ◌∙◌, append_assoc, All}
use Rattle.std.specs.List.{find}
use Rattle.std.specs.Option.{option_map}
use Rattle.std.specs.Str.Lines.{lines}
use Rattle.std.proofs.lemmas.Option.{slice_get-get_or, slice_get-map}
use Rattle.std.proofs.lemmas.List.Elements.{All-head, All-tail}
use Rattle.desk_names.specs.Names.{IsNames}
use Rattle.desk_names.proofs.NameLaws.{has_text-at, place_of-at}
use Rattle.session_commands.specs.declared.script_kind.ScriptKind.{ScriptKind}
use Rattle.session_commands.specs.declared.command.Command.{Command}
use Rattle.session_commands.specs.declared.command.Command.TheVariants as command
use Rattle.session_lang.specs.declared.statement.Statement.{Statement}
use Rattle.session_lang.specs.declared.statement.Statement.TheVariants.{Begin, End, Run}
use Rattle.script_words.specs.Given.{◌>>=◌}
use Rattle.session_commands.specs.Table.{row_of}
use Rattle.session_commands.specs.Parts.{parts_of}
use Rattle.session_lang.specs.Statement.{Known, line_meaning}
use Rattle.session_lang.specs.Reading.{Said, said_before, opened, at_line, lines_meaning, lacks, linked, block_of, actions_of, action_names_of, command_with, commands_of}
use Rattle.session_commands.specs.Whole.{name_text}
use Rattle.session_lang.specs.Printing.{row_text, command_text, commands_text}
use Rattle.session_commands.specs.Whole.{IsCommand}
use Rattle.script_words.proofs.PrintedLines.{line_first}
use Rattle.session_lang.proofs.RowFacts.{command_as_read}
use Rattle.session_lang.proofs.CommandLines.{command_back}

-- the lines say these commands up to an end of a block, these blocks and their names, and these commands outside of blocks
pub record Tells (K : Known) (inside : Bool) (r : Result Said (ℕ × ScriptKind)) (block : List Command) (actions : List (List Command)) (an : List ℕ) (commands : List Command) : Type 0 where
  pub said : Said
  pub is : r ≡ Ok said
  pub after : said.known ≡ K
  pub closed : said.open_at ≡ None
  pub of_block : block_of K said.steps ≡ block
  pub of_actions : actions_of K said.steps ≡ actions
  pub of_names : action_names_of said.steps ≡ an
  pub of_commands : commands_of K inside said.steps ≡ commands
  pub found : find (λ step. lacks K step.what) said.steps ≡ None

lines_cons : (known next : Known) (open_at : Option ℕ) (number : ℕ) (st : Statement) (line : List ℕ) (rest : List (List ℕ)) (said : Said) → line_meaning known (is_some open_at) line ≡ Ok (st, next) → lines_meaning next (opened st number open_at) (number + 1) rest ≡ Ok said → lines_meaning known open_at number (line ∷ rest) ≡ Ok (said_before number st said)
unfolding lines_meaning
lines_cons known next open_at number st line rest said h k =
    ap (λ r. at_line number r >>= (λ said. lines_meaning said.1 (opened said.0 number open_at) (number + 1) rest >>= (λ others. Ok (said_before number said.0 others)))) h
    ∙ ap (λ r. r >>= (λ others. Ok (said_before number st others))) k

-- no line
pub tells_none : (K : Known) (number : ℕ) → Tells K false (lines_meaning K None number (lines [])) [] [] [] []
unfolding lines_meaning block_of actions_of action_names_of commands_of
tells_none K number = record { said = record { steps = []; known = K; open_at = None }; is = refl; after = refl; closed = refl; of_block = refl; of_actions = refl; of_names = refl; of_commands = refl; found = refl }

put : Bool → Command → List Command → List Command
put true c more = more
put false c more = c ∷ more

put_is : (K : Known) (inside : Bool) (read c : Command) (more : List Command) → linked K read ≡ c → command_with K inside (Run read) more ≡ put inside c more
unfolding put
put_is K true read c more h = refl
put_is K false read c more h = ap (λ d. d ∷ more) h

tells_run : (K known : Known) (open_at : Option ℕ) (number : ℕ) (line : List ℕ) (rest : List (List ℕ)) (read c : Command) (b : List Command) (a : List (List Command)) (n : List ℕ) (cs : List Command) → line_meaning known (is_some open_at) line ≡ Ok (Run read, known) → linked K read ≡ c → lacks K (Run read) ≡ false → Tells K (is_some open_at) (lines_meaning known open_at (number + 1) rest) b a n cs → Tells K (is_some open_at) (lines_meaning known open_at number (line ∷ rest)) (c ∷ b) a n (put (is_some open_at) c cs)
unfolding block_of actions_of action_names_of commands_of
tells_run K known open_at number line rest read c b a n cs said link there t = record {
  said = said_before number (Run read) t.said;
  is = lines_cons known known open_at number (Run read) line rest t.said said t.is;
  after = t.after;
  closed = t.closed;
  of_block = ap (λ d. d ∷ block_of K t.said.steps) link ∙ ap (λ more. c ∷ more) t.of_block;
  of_actions = t.of_actions;
  of_names = t.of_names;
  of_commands = put_is K (is_some open_at) read c (commands_of K (is_some open_at) t.said.steps) link ∙ ap (put (is_some open_at) c) t.of_commands;
  found = ap (λ x. cond x (Some (record { line = number; what = Run read })) (find (λ step. lacks K step.what) t.said.steps)) there ∙ t.found;
}

-- a block begins
pub tells_begin : (K known next : Known) (number : ℕ) (line : List ℕ) (rest : List (List ℕ)) (name : ℕ) (b : List Command) (a : List (List Command)) (n : List ℕ) (cs : List Command) → line_meaning known false line ≡ Ok (Begin name, next) → Tells K true (lines_meaning next (Some number) (number + 1) rest) b a n cs → Tells K false (lines_meaning known None number (line ∷ rest)) b (b ∷ a) (name ∷ n) cs
unfolding block_of actions_of action_names_of commands_of
tells_begin K known next number line rest name b a n cs said t = record {
  said = said_before number (Begin name) t.said;
  is = lines_cons known next None number (Begin name) line rest t.said said t.is;
  after = t.after;
  closed = t.closed;
  of_block = t.of_block;
  of_actions = ap (λ d. d ∷ actions_of K t.said.steps) t.of_block ∙ ap (λ more. b ∷ more) t.of_actions;
  of_names = ap (λ more. name ∷ more) t.of_names;
  of_commands = t.of_commands;
  found = t.found;
}

-- a block ends
pub tells_end : (K known : Known) (begun_at number : ℕ) (line : List ℕ) (rest : List (List ℕ)) (b : List Command) (a : List (List Command)) (n : List ℕ) (cs : List Command) → line_meaning known true line ≡ Ok (End, known) → Tells K false (lines_meaning known None (number + 1) rest) b a n cs → Tells K true (lines_meaning known (Some begun_at) number (line ∷ rest)) [] a n cs
unfolding block_of actions_of action_names_of commands_of
tells_end K known begun_at number line rest b a n cs said t = record {
  said = said_before number End t.said;
  is = lines_cons known known (Some begun_at) number End line rest t.said said t.is;
  after = t.after;
  closed = t.closed;
  of_block = refl;
  of_actions = t.of_actions;
  of_names = t.of_names;
  of_commands = t.of_commands;
  found = t.found;
}

-- the same said in other words
pub retell : (K : Known) (inside : Bool) (r q : Result Said (ℕ × ScriptKind)) (b d : List Command) (a e : List (List Command)) (n m : List ℕ) (cs ds : List Command) → q ≡ r → b ≡ d → a ≡ e → n ≡ m → cs ≡ ds → Tells K inside r b a n cs → Tells K inside q d e m ds
retell K inside r q b d a e n m cs ds hr hb ha hn hc t = record {
  said = t.said;
  is = hr ∙ t.is;
  after = t.after;
  closed = t.closed;
  of_block = t.of_block ∙ hb;
  of_actions = t.of_actions ∙ ha;
  of_names = t.of_names ∙ hn;
  of_commands = t.of_commands ∙ hc;
  found = t.found;
}

-- what a session knows behind all blocks
abbrev pub all_known : List (List ℕ) → List ℕ → Known
all_known names an = record { names = names; begun = map (name_text names) an }

-- a command is linked back
pub record LinkBack (names : List (List ℕ)) (an : List ℕ) (c : Command) : Type 0 where
  pub link : linked (all_known names an) (command_as_read names an c) ≡ c
  pub there : lacks (all_known names an) (Run (command_as_read names an c)) ≡ false

watch_back : (names : List (List ℕ)) (an : List ℕ) (watcher action : ℕ) → IsNames (map (name_text names) an) → action < length an → LinkBack names an (command.Watch watcher action)
unfolding parts_of
watch_back names an watcher action sound lt =
    let at : slice_get (map (name_text names) an) action ≡ Some (name_text names (slice_index_or an action (length names))) = slice_get-map (name_text names) an action ∙ ap (option_map (name_text names)) (slice_get-get_or an action (length names) lt) in
    record {
      link = ap (command.Watch watcher) (place_of-at (map (name_text names) an) (name_text names (slice_index_or an action (length names))) sound.distinct action at);
      there = ap (λ b. cond b false true) (has_text-at (map (name_text names) an) (name_text names (slice_index_or an action (length names))) action at);
    }

link_back : (names : List (List ℕ)) (an : List ℕ) → IsNames (map (name_text names) an) → (c : Command) → IsCommand (length names) (length an) c → LinkBack names an c
unfolding IsCommand row_of parts_of
link_back names an sound (command.Watch a b) fit = watch_back names an a b sound fit.second
link_back names an sound c fit = record { link = refl; there = refl }

-- commands outside of blocks, in front of others
pub after : Bool → List Command → List Command → List Command
after inside [] more = more
after inside (c ∷ cs) more = put inside c (after inside cs more)

pub after_inside : (cs more : List Command) → after true cs more ≡ more
unfolding after put
after_inside [] more = refl
after_inside (c ∷ cs) more = after_inside cs more

pub after_outside : (cs more : List Command) → after false cs more ≡ cs ++ more
unfolding after put
after_outside [] more = refl
after_outside (c ∷ cs) more = ap (λ x. c ∷ x) (after_outside cs more)

command_lines : (names : List (List ℕ)) (an : List ℕ) (c : Command) (cs : List Command) (rest : List ℕ) → commands_text names an (c ∷ cs) ++ rest ≡ row_text names an (row_of (parts_of c).verb) (parts_of c) ++ 10 ∷ (commands_text names an cs ++ rest)
unfolding command_text
command_lines names an c cs rest = simp append_assoc

module _ (names : List (List ℕ)) (an : List ℕ) (begun : List (List ℕ)) (sound : IsNames names) (known : All (λ name. name < length names) an) (actions_sound : IsNames (map (name_text names) an)) where
  -- the lines of commands
  pub commands_tell : (open_at : Option ℕ) (cs : List Command) → All (IsCommand (length names) (length an)) cs → (rest : List ℕ) (b : List Command) (a : List (List Command)) (n : List ℕ) (os : List Command) → ((number : ℕ) → Tells (all_known names an) (is_some open_at) (lines_meaning (record { names = names; begun = begun }) open_at number (lines rest)) b a n os) → (number : ℕ) → Tells (all_known names an) (is_some open_at) (lines_meaning (record { names = names; begun = begun }) open_at number (lines (commands_text names an cs ++ rest))) (cs ++ b) a n (after (is_some open_at) cs os)
  unfolding after
  commands_tell open_at [] all rest b a n os more number = more number
  commands_tell open_at (c ∷ cs) all rest b a n os more number =
      let fit = All-head (IsCommand (length names) (length an)) c cs all in
      let back = command_back names begun an sound known c fit in
      let link = link_back names an actions_sound c fit in
      let line : List ℕ = row_text names an (row_of (parts_of c).verb) (parts_of c) in
      let e : lines (commands_text names an (c ∷ cs) ++ rest) ≡ line ∷ lines (commands_text names an cs ++ rest) = ap lines (command_lines names an c cs rest) ∙ line_first line (commands_text names an cs ++ rest) back.printable in
      subst (λ ls. Tells (all_known names an) (is_some open_at) (lines_meaning (record { names = names; begun = begun }) open_at number ls) (c ∷ (cs ++ b)) a n (put (is_some open_at) c (after (is_some open_at) cs os))) (sym e)
      (tells_run (all_known names an) (record { names = names; begun = begun }) open_at number line (lines (commands_text names an cs ++ rest)) (command_as_read names an c) c (cs ++ b) a n (after (is_some open_at) cs os) (back.read (is_some open_at)) link.link link.there
      (commands_tell open_at cs (All-tail (IsCommand (length names) (length an)) c cs all) rest b a n os more (number + 1)))
