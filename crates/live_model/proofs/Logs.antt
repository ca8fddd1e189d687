-- A log is a script.
use Rattle.std.proofs.Common.{◌≡◌, ℕ, ◌<◌, ◌≤◌, Bool, true, false, ℤ, List, [], ◌∷◌, ◌++◌, length, map, nat_lt, Option, Some, None, is_some, Result, Ok, codes, refl, sym, ap, subst, ◌∙◌, append_assoc, arith}
use Rattle.std.specs.Prelude.{All}
use Rattle.std.specs.List.{find}
use Rattle.std.specs.Str.Lines.{lines}
use Rattle.std.specs.Str.{bytes_eq}
use Rattle.std.proofs.lemmas.Bool.{or_left}
use Rattle.std.proofs.lemmas.List.{length-append, length-map}
use Rattle.std.proofs.lemmas.List.Folds.{list_any-append}
use Rattle.std.proofs.lemmas.List.Elements.{All-nil, All-cons, All-head, All-tail}
use Rattle.desk_names.specs.Name.{IsName}
use Rattle.desk_names.specs.Names.{has_text, IsNames, most_names}
use Rattle.desk_terms.specs.declared.terms.Terms.{Terms}
use Rattle.session_commands.specs.declared.script_kind.ScriptKind.{ScriptKind}
use Rattle.session_commands.specs.declared.script_kind.ScriptKind.TheVariants as fault
use Rattle.session_commands.specs.declared.command.Command.{Command}
use Rattle.session_commands.specs.declared.script.Script.{Script}
use Rattle.session_commands.specs.Whole.{name_text, IsCommand, IsScript}
use Rattle.script_words.specs.Given.{◌>>=◌}
use Rattle.script_words.proofs.ReadFields.{bind_ok, went_on}
use Rattle.session_lang.specs.declared.steps.Step.{Step}
use Rattle.session_lang.specs.Statement.{Known}
use Rattle.session_lang.specs.Reading.{Said, lines_meaning, lacks, actions_of, action_names_of, commands_of, script_of, line_of, unless_lacking, together_of, most_bytes, script_meaning}
use Rattle.session_lang.proofs.ReadScript.{script_read}
use Rattle.session_model.specs.Standing.{Standing, start_with, with_objects}
use Rattle.session_model.specs.Course.{Running, Meaning, Course, running, round_of}
use Rattle.session_model.specs.Rounds.{rounds, lines_of, calls_in, transcript, calls_of}
use Rattle.session_model.specs.Ends.{IsPicking}
use Rattle.session_model.specs.Wider.{Later, wider, wider_in, AreNamed}
use Rattle.session_model.proofs.Given.{IsOf}
use Rattle.session_model.proofs.Holding.{Stands}
use Rattle.session_model.proofs.Names.{stands_first}
use Rattle.session_model.proofs.Ends.{round_over}
use Rattle.session_model.proofs.Wider.{IsNamed}
use Rattle.session_model.proofs.WiderRounds.{round_wider, round_named}
use Rattle.session_model.proofs.WiderSessions.{begins_wider, named_first, running_wider}
use Rattle.session_model.proofs.Kept.{round_names}
use Rattle.session_model.proofs.Growing.{up_to, is_of_all}
use Rattle.live_model.specs.Live.{Live, live_from, known_of}
use Rattle.live_model.specs.Log.{done, scripted, AreBegunFirst, AreShort, IsReplayed, LogsAreScripts}
use Rattle.live_model.proofs.Both.{inside_all, actions_both, commands_both, actions_same, commands_same, BothSay, both_say, open_behind}
use Rattle.live_model.proofs.Reading.{AreRead, are_read}
use Rattle.live_model.proofs.Following.{IsLive, Follows, follow, transcript_of, calls_are_of}

-- a script that was read, by its lines
record IsRead (names : List (List ℕ)) (ls : List (List ℕ)) (script : Script × List (List ℕ)) : Type 0 where
  said : Said
  means : lines_meaning (record { names = names; begun = [] }) None 1 ls ≡ Ok said
  closed : said.open_at ≡ None
  found : find (λ step. lacks said.known step.what) said.steps ≡ None
  whole : (script_of said.known said.steps, said.known.names) ≡ script
  read : AreRead (record { names = names; begun = [] }) said

abbrev answer : Script × List (List ℕ) → Result (Script × List (List ℕ)) (ℕ × ScriptKind)
answer x = Ok x

answer_is : (x y : Script × List (List ℕ)) → answer x ≡ answer y → x ≡ y
answer_is x y h = cc

lacking_is : (o : Option Step) (x y : Script × List (List ℕ)) → unless_lacking (line_of o) x ≡ answer y → (o ≡ None) × (x ≡ y)
lacking_is None x y h = (refl, answer_is x y h)
lacking_is (Some step) x y h = absurd (cc)

together_is : (K : Known) (steps : List Step) (open_at : Option ℕ) (y : Script × List (List ℕ)) → together_of K steps open_at ≡ answer y
    → (find (λ step. lacks K step.what) steps ≡ None) × ((script_of K steps, K.names) ≡ y)
together_is K steps (Some number) y h = absurd (cc)
together_is K steps None y h = lacking_is (find (λ step. lacks K step.what) steps) (script_of K steps, K.names) y h

no_names : IsNames []
no_names = record { distinct = λ i j d lt within. absurd (omega arith); named = All-nil IsName; room = omega arith }

closed_by : (K : Known) (said : Said) (y : Script × List (List ℕ)) → (o : Option ℕ) → together_of K said.steps o ≡ Ok y → o ≡ None
closed_by K said y None h = refl
closed_by K said y (Some number) h = absurd (cc)

is_read : (names : List (List ℕ)) (text : List ℕ) (script : Script × List (List ℕ)) → IsNames names → script_meaning names text ≡ Ok script
    → IsRead names (lines text) script
unfolding script_meaning
is_read names text script sound h =
    let start : Known = record { names = names; begun = [] } in
    let short = went_on (nat_lt most_bytes (length text)) (0, fault.TooLong) (lines_meaning start None 1 (lines text) >>= (λ said. together_of said.known said.steps said.open_at)) script h in
    let got = bind_ok (lines_meaning start None 1 (lines text)) (λ said. together_of said.known said.steps said.open_at) script short.1 in
    let end = together_is got.0.known got.0.steps got.0.open_at script got.2 in
    record {
      said = got.0;
      means = got.1;
      closed = closed_by got.0.known got.0 script got.0.open_at got.2;
      found = end.0;
      whole = end.1;
      read = are_read start None 1 (lines text) got.0 sound no_names got.1;
    }

all_of : (all n a : ℕ) → n ≤ all → (commands : List Command) → All (IsCommand n a) commands → All (IsOf (up_to all) n a) commands
all_of all n a le [] known = All-nil (IsOf (up_to all) n a)
all_of all n a le (c ∷ commands) known = All-cons (IsOf (up_to all) n a) c commands (is_of_all all n a le c (All-head (IsCommand n a) c commands known))
    (all_of all n a le commands (All-tail (IsCommand n a) c commands known))

blocks_all : (all n a : ℕ) → n ≤ all → (blocks : List (List Command)) → All (λ block. All (IsCommand n a) block) blocks → All (λ block. All (IsOf (up_to all) n a) block) blocks
blocks_all all n a le [] known = All-nil (λ block. All (IsOf (up_to all) n a) block)
blocks_all all n a le (block ∷ blocks) known = All-cons (λ b. All (IsOf (up_to all) n a) b) block blocks (all_of all n a le block (All-head (λ b. All (IsCommand n a) b) block blocks known))
    (blocks_all all n a le blocks (All-tail (λ b. All (IsCommand n a) b) block blocks known))

module _ {P : Type 0} (m : Meaning P) (picking : IsPicking m) (all n a : ℕ) where
  -- behind the commands of a script
  pub record Behind (r : Running P) (q : Running P) : Type 0 where
    pub named : IsNamed n a q.standing
    pub stands : Stands (up_to all) n a q.standing
    pub names : q.standing.names ≡ r.standing.names

  pub done_behind : (commands : List Command) (r : Running P) → IsNamed n a r.standing → Stands (up_to all) n a r.standing
      → All (IsOf (up_to all) n a) commands → Behind r (done m r commands)
  unfolding done
  done_behind [] r named s known = record { named = named; stands = s; names = refl }
  done_behind (c ∷ commands) r named s known =
      let is = All-head (IsOf (up_to all) n a) c commands known in
      let rest = done_behind commands (round_of m r c).next (round_named (record { names = []; actions = [] }) n a (up_to all) m r c named s is)
      (round_over (up_to all) n a m picking r c s is).1 (All-tail (IsOf (up_to all) n a) c commands known) in
      record { named = rest.named; stands = rest.stands; names = rest.names ∙ round_names m r c }

  -- commands, and then others, in a session with what comes later
  pub record Continues (later : Later) (r : Running P) (commands more : List Command) : Type 0 where
    pub lines : transcript m (wider_in later r) (commands ++ more)
        ≡ transcript m r commands ++ transcript m (running (done m r commands).picker (wider later (done m r commands).standing)) more
    pub calls : calls_of m (wider_in later r) (commands ++ more)
        ≡ calls_of m r commands ++ calls_of m (running (done m r commands).picker (wider later (done m r commands).standing)) more

  pub continues : (later : Later) (commands more : List Command) (r : Running P) → IsNamed n a r.standing → Stands (up_to all) n a r.standing
      → All (IsOf (up_to all) n a) commands → Continues later r commands more
  unfolding done rounds lines_of calls_in
  continues later [] more r named s known = record { lines = transcript_of m (wider_in later r) more; calls = calls_are_of m (wider_in later r) more }
  continues later (c ∷ commands) more r named s known =
      let is = All-head (IsOf (up_to all) n a) c commands known in
      let same = round_wider later n a (up_to all) m picking r c named s is in
      let rest = continues later commands more (round_of m r c).next (round_named later n a (up_to all) m r c named s is)
      (round_over (up_to all) n a m picking r c s is).1 (All-tail (IsOf (up_to all) n a) c commands known) in
      record {
        lines = ap (λ (x : Course P). x.lines ++ lines_of (rounds m x.next (commands ++ more))) same
            ∙ ap (λ (l : List ℕ). (round_of m r c).lines ++ l) rest.lines
            ∙ sym (append_assoc (round_of m r c).lines (lines_of (rounds m (round_of m r c).next commands)) _);
        calls = ap (λ (x : Course P). x.calls ++ calls_in (rounds m x.next (commands ++ more))) same
            ∙ ap (λ (l : List (ℕ × Bool)). (round_of m r c).calls ++ l) rest.calls
            ∙ sym (append_assoc (round_of m r c).calls (calls_in (rounds m (round_of m r c).next commands)) _);
      }

objects_names : (made : List (ℕ × Terms)) (p : Standing) → (with_objects made p).names ≡ p.names
unfolding with_objects
objects_names [] p = refl
objects_names (entry ∷ made) p = objects_names made _

has_more : (names more : List (List ℕ)) (text : List ℕ) → has_text names text ≡ true → has_text (names ++ more) text ≡ true
unfolding has_text
has_more names more text has = list_any-append (bytes_eq text) names more ∙ or_left _ _ has

named_more : (n more : ℕ) → n ≤ more → (made : List (ℕ × Terms)) → AreNamed n made → AreNamed more made
named_more n more le [] named = All-nil (λ (e : ℕ × Terms). e.0 < more)
named_more n more le (entry ∷ made) named = All-cons (λ (e : ℕ × Terms). e.0 < more) entry made
    (let low = All-head (λ (e : ℕ × Terms). e.0 < n) entry made named in omega arith)
    (named_more n more le made (All-tail (λ (e : ℕ × Terms). e.0 < n) entry made named))

-- a script of lines
abbrev script_in : Known → List Step → Script × List (List ℕ)
script_in known steps = (script_of known steps, known.names)

-- the lines of a text, and the lines of an input behind them
module _ {P : Type 0} (m : Meaning P) (picking : IsPicking m) (all : ℕ) (le : most_names ≤ all) (picker : P) (today : ℤ) (names : List (List ℕ))
    (made : List (ℕ × Terms)) (has : has_text names (codes "today") ≡ true) (named : AreNamed (length names) made)
    (one others : Said) (number : ℕ) (input : List (List ℕ)) where
  abbrev begun_of : List (List ℕ)
  begun_of = map (name_text one.known.names) (action_names_of one.steps)

  pub replayed : AreRead (record { names = names; begun = [] }) one → find (λ step. lacks one.known step.what) one.steps ≡ None
      → inside_all false one.steps ≡ false → IsScript one.known.names (script_of one.known one.steps)
      → lines_meaning one.known None number input ≡ Ok others → others.open_at ≡ None → AreShort input
      → AreBegunFirst (record { names = one.known.names; begun = begun_of }) false input
      → IsReplayed m picker today made (script_in one.known one.steps) (script_in others.known (one.steps ++ others.steps)) input
  replayed read found closed script behind ends short begun = record {
    lines = ap (λ (l : List ℕ). transcript m r commands ++ l) follows.lines ∙ sym rest.lines
        ∙ ap (λ (x : Running P). transcript m x (commands ++ more)) session ∙ ap (transcript m whole) (sym all_commands);
    calls = ap (λ (l : List (ℕ × Bool)). calls_of m r commands ++ l) follows.calls ∙ sym rest.calls
        ∙ ap (λ (x : Running P). calls_of m x (commands ++ more)) session ∙ ap (calls_of m whole) (sym all_commands);
  }
    where
      actions : List (List Command)
      actions = actions_of one.known one.steps

      commands : List Command
      commands = commands_of one.known false one.steps

      more : List Command
      more = commands_of others.known false others.steps

      n : ℕ
      n = length one.known.names

      a : ℕ
      a = length actions

      few : n ≤ all
      few = let room = read.names_kept.room in omega arith

      r : Running P
      r = scripted picker today made (script_in one.known one.steps)

      has_today : has_text one.known.names (codes "today") ≡ true
      has_today = ap (λ (l : List (List ℕ)). has_text l (codes "today")) read.grows.whole ∙ has_more names read.grows.more (codes "today") has

      longer : length names ≤ n
      longer = let long = ap (λ (l : List (List ℕ)). length l) read.grows.whole in let both = length-append names read.grows.more in omega arith

      first_named : IsNamed n a r.standing
      first_named = named_first today one.known.names made actions has_today (named_more (length names) n longer made named)

      first_stands : Stands (up_to all) n a r.standing
      first_stands = stands_first (up_to all) n a today one.known.names made actions refl (blocks_all all n a few actions script.actions)

      known : All (IsOf (up_to all) n a) commands
      known = all_of all n a few commands script.commands

      q : Running P
      q = done m r commands

      behind_all : Behind m picking all n a r q
      behind_all = done_behind m picking all n a commands r first_named first_stands known

      s : Live P
      s = live_from q begun_of

      q_names : q.standing.names ≡ one.known.names
      q_names = behind_all.names ∙ objects_names made _

      known_as : List (List ℕ) → List (List ℕ) → Known
      known_as names begun = record { names = names; begun = begun }

      s_known : known_of s ≡ one.known
      s_known = ap (λ (l : List (List ℕ)). known_as l begun_of) q_names ∙ ap (known_as one.known.names) (sym read.begun)

      live : IsLive m all n a s
      live = record {
        named = behind_all.named;
        stands = behind_all.stands;
        names = subst IsNames (sym q_names) read.names_kept;
        begun = subst IsNames read.begun read.begun_kept;
        paired = length-map (action_names_of one.steps) (name_text one.known.names) ∙ sym script.paired;
        block = tt;
      }

      follows : Follows m all s input others false
      follows = follow m all picking le input s n a number None others live refl (ap (λ (x : Known). lines_meaning x None number input) s_known ∙ behind) ends short
          (subst (λ (l : List (List ℕ)). AreBegunFirst (known_as l begun_of) false input) (sym q_names) begun)

      later : Later
      later = record { names = follows.later; actions = actions_of others.known others.steps }

      rest : Continues m picking all n a later r commands more
      rest = continues m picking all n a later commands more r first_named first_stands known

      grown : others.known.names ≡ one.known.names ++ follows.later
      grown = follows.names ∙ ap (λ (l : List (List ℕ)). l ++ follows.later) q_names

      acts : others.known.begun ≡ one.known.begun ++ follows.acts
      acts = follows.begun ∙ ap (λ (l : List (List ℕ)). l ++ follows.acts) (sym read.begun)

      whole : Running P
      whole = scripted picker today made (script_in others.known (one.steps ++ others.steps))

      all_actions : actions_of others.known (one.steps ++ others.steps) ≡ actions ++ actions_of others.known others.steps
      all_actions = actions_both others.known one.steps others.steps false closed
          ∙ ap (λ (l : List (List Command)). l ++ actions_of others.known others.steps) (actions_same one.known others.known follows.later follows.acts grown acts one.steps read.fits found)

      all_commands : commands_of others.known false (one.steps ++ others.steps) ≡ commands ++ more
      all_commands = commands_both others.known one.steps others.steps false
          ∙ ap (λ (l : List Command). l ++ commands_of others.known (inside_all false one.steps) others.steps) (commands_same one.known others.known follows.later follows.acts grown acts one.steps false read.fits found)
          ∙ ap (λ (b : Bool). commands ++ commands_of others.known b others.steps) closed

      session : wider_in later r ≡ whole
      session = sym (running_wider later picker (start_with today one.known.names made actions))
          ∙ ap (running picker) (sym (begins_wider later today one.known.names made actions has_today))
          ∙ ap (λ (l : List (List ℕ)). running picker (start_with today l made (actions ++ actions_of others.known others.steps))) (sym grown)
          ∙ ap (λ (l : List (List Command)). running picker (start_with today others.known.names made l)) (sym all_actions)

-- A LOG IS A SCRIPT
pub logs_are_scripts : {P : Type 0} → (m : Meaning P) → IsPicking m → LogsAreScripts m
logs_are_scripts {P} m picking picker today names made text input first whole sound has named means both splits short begun =
    subst (λ (x : Script × List (List ℕ)). IsReplayed m picker today made x whole (lines input)) one.whole
    (subst (λ (x : Script × List (List ℕ)). IsReplayed m picker today made (script_in one.said.known one.said.steps) x (lines input)) (sym (ap (λ (x : Said). script_in x.known x.steps) say.whole) ∙ two.whole)
    (replayed m picking most_names (omega arith) picker today names made has named one.said say.others say.number (lines input) one.read one.found
    (open_behind (lines text) (record { names = names; begun = [] }) None 1 one.said one.means ∙ ap (λ (o : Option ℕ). is_some o) one.closed)
    (subst (λ (x : Script × List (List ℕ)). IsScript x.1 x.0) (sym one.whole) (script_read names text first.0 first.1 sound means))
    (ap (λ (o : Option ℕ). lines_meaning one.said.known o say.number (lines input)) (sym one.closed) ∙ say.behind)
    (sym (ap (λ (x : Said). x.open_at) say.whole) ∙ two.closed) short
    (subst (λ (x : Script × List (List ℕ)). AreBegunFirst (record { names = x.1; begun = map (name_text x.1) x.0.action_names }) false (lines input)) (sym one.whole) begun)))
  where
    one : IsRead names (lines text) first
    one = is_read names text first sound means

    two : IsRead names (lines (text ++ input)) whole
    two = is_read names (text ++ input) whole sound both

    say : BothSay one.said two.said (lines input)
    say = both_say (lines text) (lines input) (record { names = names; begun = [] }) None 1 one.said two.said one.means
        (ap (λ (l : List (List ℕ)). lines_meaning (record { names = names; begun = [] }) None 1 l) (sym splits) ∙ two.means)
