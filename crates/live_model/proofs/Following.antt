-- A conversation writes what its lines write as a script.
use Rattle.std.proofs.Common.{◌≡◌, ℕ, suc, ◌+◌, ◌≤◌, Bool, true, false, List, [], ◌∷◌, ◌++◌, length, drop, replicate, Option, Some, None, is_some, Result, Ok, refl, sym, ap, subst, ◌∙◌, append_assoc, arith}
use Rattle.std.specs.Prelude.{All}
use Rattle.std.proofs.lemmas.List.{append-nil, length-append}
use Rattle.std.proofs.lemmas.List.Elements.{All-nil, All-head, All-tail, All-push}
use Rattle.std.proofs.Math.Seq.{drop-append_seam}
use Rattle.desk_names.specs.Names.{IsNames, most_names}
use Rattle.session_commands.specs.declared.script_kind.ScriptKind.{ScriptKind}
use Rattle.session_commands.specs.declared.command.Command.{Command}
use Rattle.session_commands.specs.Whole.{IsCommand}
use Rattle.session_lang.specs.declared.statement.Statement.{Statement}
use Rattle.session_lang.specs.declared.statement.Statement.TheVariants.{Blank, Begin, End, Run}
use Rattle.session_lang.specs.declared.steps.Step.{Step}
use Rattle.session_lang.specs.Statement.{Known, line_meaning}
use Rattle.session_lang.specs.Reading.{Said, said_before, opened, lines_meaning, lacks, linked, block_of, actions_of, inside_after, commands_of}
use Rattle.session_lang.proofs.Gathered.{opened_inside}
use Rattle.session_lang.proofs.ReadLines.{LineRead, line_is_read}
use Rattle.session_lang.proofs.RowLinks.{linked_fits}
use Rattle.session_model.specs.Standing.{Standing}
use Rattle.session_model.specs.Course.{Running, Meaning, Course, running, opened as round_opened, round_of}
use Rattle.session_model.specs.Rounds.{rounds, lines_of, calls_in, transcript, calls_of}
use Rattle.session_model.specs.Growing.{learn, with_action}
use Rattle.session_model.specs.Grown.{learn_in}
use Rattle.session_model.specs.Ends.{IsPicking}
use Rattle.session_model.specs.Wider.{Later, wider, wider_in, wider_course}
use Rattle.session_model.proofs.Given.{IsOf}
use Rattle.session_model.proofs.Holding.{Stands}
use Rattle.session_model.proofs.Ends.{round_over}
use Rattle.session_model.proofs.Wider.{IsNamed}
use Rattle.session_model.proofs.WiderRounds.{round_wider, round_named}
use Rattle.session_model.proofs.Kept.{round_names}
use Rattle.session_model.proofs.Growing.{up_to, is_of_all, is_of_more, stands_learn, named_learn, stands_action, named_action}
use Rattle.live_model.specs.declared.limits.TheConstants.{MOST_LINE}
use Rattle.live_model.specs.Live.{Block, Live, known_of, meaning, Saying, learnt, knowing, block_begun, block_ended, stated, counted, said, spoken, unclosed, conversation}
use Rattle.live_model.specs.Log.{OfMeaning, AreBegunFirst, AreShort}
use Rattle.live_model.proofs.Both.{told_is, OneMore, one_more}
use Rattle.live_model.proofs.Meanings.{line_begins, meaning_is, said_is, linked_on}

-- WHAT IS LEARNT stands behind what is known
pub learnt_names : {P : Type 0} → (texts : List (List ℕ)) (r : Running P) → (learnt texts r).standing.names ≡ r.standing.names ++ texts
unfolding learnt
learnt_names [] r = sym (append-nil r.standing.names)
learnt_names (text ∷ texts) r = learnt_names texts (learn_in text r) ∙ append_assoc r.standing.names (text ∷ []) texts

learnt_picker : {P : Type 0} → (texts : List (List ℕ)) (r : Running P) → (learnt texts r).picker ≡ r.picker
unfolding learnt
learnt_picker [] r = refl
learnt_picker (text ∷ texts) r = learnt_picker texts (learn_in text r)

abbrev pub later_of : List (List ℕ) → List (List Command) → Later
later_of names actions = record { names = names; actions = actions }

wider_learn : (text : List ℕ) (more : List (List ℕ)) (actions : List (List Command)) (p : Standing)
    → wider (later_of (text ∷ more) actions) p ≡ wider (later_of more actions) (learn text p)
wider_learn text more actions p =
    rw (append_assoc p.names (text ∷ []) more, append_assoc p.watching (None ∷ []) (replicate (length more) None)) refl

learnt_wider : {P : Type 0} → (texts more : List (List ℕ)) (actions : List (List Command)) (r : Running P)
    → wider (later_of (texts ++ more) actions) r.standing ≡ wider (later_of more actions) (learnt texts r).standing
unfolding learnt
learnt_wider [] more actions r = refl
learnt_wider (text ∷ texts) more actions r =
    wider_learn text (texts ++ more) actions r.standing ∙ learnt_wider texts more actions (learn_in text r)

module _ (all : ℕ) where
  learnt_stands : {P : Type 0} → (n a : ℕ) (texts : List (List ℕ)) (r : Running P) → Stands (up_to all) n a r.standing
      → Stands (up_to all) (n + length texts) a (learnt texts r).standing
  unfolding learnt
  learnt_stands n a [] r s = subst (λ (k : ℕ). Stands (up_to all) k a r.standing) (let e : n ≡ n + 0 = omega arith in e) s
  learnt_stands n a (text ∷ texts) r s =
      subst (λ (k : ℕ). Stands (up_to all) k a (learnt texts (learn_in text r)).standing) (let e : (n + 1) + length texts ≡ n + suc (length texts) = omega arith in e)
      (learnt_stands (n + 1) a texts (learn_in text r) (stands_learn (up_to all) n a text r.standing s))

learnt_named : {P : Type 0} → (n a : ℕ) (texts : List (List ℕ)) (r : Running P) → IsNamed n a r.standing
    → IsNamed (n + length texts) a (learnt texts r).standing
unfolding learnt
learnt_named n a [] r s = subst (λ (k : ℕ). IsNamed k a r.standing) (let e : n ≡ n + 0 = omega arith in e) s
learnt_named n a (text ∷ texts) r s =
    subst (λ (k : ℕ). IsNamed k a (learnt texts (learn_in text r)).standing) (let e : (n + 1) + length texts ≡ n + suc (length texts) = omega arith in e)
    (learnt_named (n + 1) a texts (learn_in text r) (named_learn n a text r.standing s))

-- a transcript begins with what stands between rounds
pub transcript_of : {P : Type 0} → (m : Meaning P) (r : Running P) (commands : List Command) → transcript m r commands ≡ transcript m (running r.picker r.standing) commands
unfolding rounds round_of round_opened
transcript_of m r [] = refl
transcript_of m r (c ∷ commands) = refl

pub calls_are_of : {P : Type 0} → (m : Meaning P) (r : Running P) (commands : List Command) → calls_of m r commands ≡ calls_of m (running r.picker r.standing) commands
unfolding rounds round_of round_opened
calls_are_of m r [] = refl
calls_are_of m r (c ∷ commands) = refl

-- the actions that an open block and the lines behind make
abbrev pub actions_behind : Known → Option Block → List Step → List (List Command)
actions_behind known None steps = actions_of known steps
actions_behind known (Some block) steps = (block.commands ++ block_of known steps) ∷ actions_of known steps

abbrev pub known_with : List (List ℕ) → List (List ℕ) → Known
known_with begun names = record { names = names; begun = begun }

module _ {P : Type 0} (m : Meaning P) (all : ℕ) where
  abbrev pub InBlock : ℕ → ℕ → Option Block → Type 0
  InBlock n a None = Unit {0}
  InBlock n a (Some block) = All (IsOf (up_to all) n (a + 1)) block.commands

  abbrev pub with_open : Option Block → ℕ → ℕ
  with_open None a = a
  with_open (Some block) a = a + 1

  -- a live session of n names and a actions
  pub record IsLive (n a : ℕ) (s : Live P) : Type 0 where
    pub named : IsNamed n a s.running.standing
    pub stands : Stands (up_to all) n a s.running.standing
    pub names : IsNames s.running.standing.names
    pub begun : IsNames s.begun
    pub paired : length s.begun ≡ with_open s.block a
    pub block : InBlock n a s.block

  -- WHAT LINES WRITE is the transcript of what they say, in the session with all that comes later
  pub record Follows (s : Live P) (rest : List (List ℕ)) (said : Said) (inside : Bool) : Type 0 where
    pub later : List (List ℕ)
    pub names : said.known.names ≡ s.running.standing.names ++ later
    pub acts : List (List ℕ)
    pub begun : said.known.begun ≡ s.begun ++ acts
    pub lines : conversation m false s rest
        ≡ transcript m (running s.running.picker (wider (later_of later (actions_behind said.known s.block said.steps)) s.running.standing)) (commands_of said.known inside said.steps)
    pub calls : (spoken m false s rest).calls
        ≡ calls_of m (running s.running.picker (wider (later_of later (actions_behind said.known s.block said.steps)) s.running.standing)) (commands_of said.known inside said.steps)

  conversation_more : (s : Live P) (line : List ℕ) (rest : List (List ℕ))
      → conversation m false s (line ∷ rest) ≡ (said m s line).lines ++ conversation m false (said m s line).next rest
  unfolding spoken
  conversation_more s line rest =
      ap (λ (l : List ℕ). (l ++ (spoken m false (said m s line).next rest).lines) ++ unclosed (spoken m false (said m s line).next rest).next.block) (append-nil (said m s line).lines)
      ∙ append_assoc (said m s line).lines (spoken m false (said m s line).next rest).lines (unclosed (spoken m false (said m s line).next rest).next.block)

  calls_more : (s : Live P) (line : List ℕ) (rest : List (List ℕ))
      → (spoken m false s (line ∷ rest)).calls ≡ (said m s line).calls ++ (spoken m false (said m s line).next rest).calls
  unfolding spoken
  calls_more s line rest = refl

  -- what is known after the names of a line were learnt
  record Learnt (s : Live P) (next : Known) (a : ℕ) (t : Live P) : Type 0 where
    n : ℕ
    texts : List (List ℕ)
    whole : next.names ≡ s.running.standing.names ++ texts
    now : known_of t ≡ next
    picker : t.running.picker ≡ s.running.picker
    named : IsNamed n a t.running.standing
    stands : Stands (up_to all) n a t.running.standing
    names : IsNames next.names
    begun : IsNames next.begun
    held : InBlock n a s.block
    wide : (more : List (List ℕ)) (actions : List (List Command))
        → wider (later_of (texts ++ more) actions) s.running.standing ≡ wider (later_of more actions) t.running.standing

  held_more : (n more a : ℕ) → n ≤ more → (block : Option Block) → InBlock n a block → InBlock more a block
  held_more n more a le None held = tt
  held_more n more a le (Some block) held = is_of_more n more (a + 1) (a + 1) le (omega arith) (up_to all) block.commands held

  learns : (n a : ℕ) (s : Live P) (st : Statement) (next : Known) → IsLive n a s → LineRead (known_of s) next st → Learnt s next a (knowing next (counted s))
  learns n a s st next live read =
      let texts = read.grows.more in
      let behind : drop (length s.running.standing.names) next.names ≡ texts =
      ap (drop (length s.running.standing.names)) read.grows.whole ∙ drop-append_seam s.running.standing.names texts in
      record {
        n = n + length texts;
        texts = texts;
        whole = read.grows.whole;
        now = ap (known_with next.begun) (ap (λ (l : List (List ℕ)). (learnt l s.running).standing.names) behind ∙ learnt_names texts s.running ∙ sym read.grows.whole);
        picker = learnt_picker (drop (length s.running.standing.names) next.names) s.running;
        named = subst (λ (l : List (List ℕ)). IsNamed (n + length texts) a (learnt l s.running).standing) (sym behind) (learnt_named n a texts s.running live.named);
        stands = subst (λ (l : List (List ℕ)). Stands (up_to all) (n + length texts) a (learnt l s.running).standing) (sym behind) (learnt_stands all n a texts s.running live.stands);
        names = read.names_kept;
        begun = read.begun_kept;
        held = held_more n (n + length texts) a (omega arith) s.block live.block;
        wide = λ more actions. learnt_wider texts more actions s.running
            ∙ ap (λ (l : List (List ℕ)). wider (later_of more actions) (learnt l s.running).standing) (sym behind);
      }

  -- so the session before the line's names is the one behind them
  begins_as : (s t : Live P) (next : Known) (a : ℕ) (got : Learnt s next a t) (more : List (List ℕ)) (actions : List (List Command))
      → running t.running.picker (wider (later_of more actions) t.running.standing)
      ≡ running s.running.picker (wider (later_of (got.texts ++ more) actions) s.running.standing)
  begins_as s t next a got more actions =
      ap (λ (picker : P). running picker (wider (later_of more actions) t.running.standing)) got.picker
      ∙ ap (λ (p : Standing). running s.running.picker p) (sym (got.wide more actions))

  names_as : (s t : Live P) (next : Known) (a : ℕ) (got : Learnt s next a t) (names more : List (List ℕ)) → names ≡ next.names ++ more
      → names ≡ s.running.standing.names ++ (got.texts ++ more)
  names_as s t next a got names more is =
      is ∙ ap (λ (l : List (List ℕ)). l ++ more) got.whole ∙ append_assoc s.running.standing.names got.texts more

  -- what a line does comes first
  lines_by : (s : Live P) (line : List ℕ) (rest : List (List ℕ)) (x : Saying P) (written : List ℕ) → said m s line ≡ x
      → x.lines ++ conversation m false x.next rest ≡ written → conversation m false s (line ∷ rest) ≡ written
  lines_by s line rest x written is h =
      conversation_more s line rest ∙ ap (λ (y : Saying P). y.lines ++ conversation m false y.next rest) is ∙ h

  calls_by : (s : Live P) (line : List ℕ) (rest : List (List ℕ)) (x : Saying P) (made : List (ℕ × Bool)) → said m s line ≡ x
      → x.calls ++ (spoken m false x.next rest).calls ≡ made → (spoken m false s (line ∷ rest)).calls ≡ made
  calls_by s line rest x made is h =
      calls_more s line rest ∙ ap (λ (y : Saying P). y.calls ++ (spoken m false y.next rest).calls) is ∙ h

  -- the lines behind
  abbrev Rest : List (List ℕ) → Known → Bool → Said → Type 0
  Rest rest next inside others = (t : Live P) (n a : ℕ) → IsLive n a t → known_of t ≡ next → inside ≡ is_some t.block → Follows t rest others inside

  wider_action : (names : List (List ℕ)) (commands : List Command) (actions : List (List Command)) (p : Standing)
      → wider (later_of names actions) (with_action commands p) ≡ wider (later_of names ((commands ++ []) ∷ actions)) p
  wider_action names commands actions p = rw (append-nil commands, append_assoc p.actions (commands ∷ []) actions) refl

  -- nothing is written, and no action comes
  silent_step : (s : Live P) (line : List ℕ) (rest : List (List ℕ)) (next : Known) (a : ℕ) (t u : Live P) (got : Learnt s next a t)
      (others whole : Said) (before inside : Bool) → said m s line ≡ record { lines = []; calls = []; next = u } → (front : List (List ℕ)) → u.begun ≡ s.begun ++ front
      → u.running.standing.names ≡ next.names → (ih : Follows u rest others inside) → whole.known ≡ others.known
      → running u.running.picker (wider (later_of ih.later (actions_behind others.known u.block others.steps)) u.running.standing)
      ≡ running t.running.picker (wider (later_of ih.later (actions_behind whole.known s.block whole.steps)) t.running.standing)
      → commands_of others.known inside others.steps ≡ commands_of whole.known before whole.steps
      → Follows s (line ∷ rest) whole before
  silent_step s line rest next a t u got others whole before inside is front begun names ih known session commands = record {
    later = got.texts ++ ih.later;
    names = ap (λ (k : Known). k.names) known ∙ names_as s t next a got others.known.names ih.later (ih.names ∙ ap (λ (l : List (List ℕ)). l ++ ih.later) names);
    acts = front ++ ih.acts;
    begun = ap (λ (k : Known). k.begun) known ∙ ih.begun ∙ ap (λ (l : List (List ℕ)). l ++ ih.acts) begun ∙ append_assoc s.begun front ih.acts;
    lines = lines_by s line rest (record { lines = []; calls = []; next = u }) _ is (ih.lines ∙ ap (λ (c : List Command). transcript m (running u.running.picker (wider (later_of ih.later (actions_behind others.known u.block others.steps)) u.running.standing)) c) commands
        ∙ ap (λ (r : Running P). transcript m r (commands_of whole.known before whole.steps)) (session ∙ begins_as s t next a got ih.later (actions_behind whole.known s.block whole.steps)));
    calls = calls_by s line rest (record { lines = []; calls = []; next = u }) _ is (ih.calls ∙ ap (λ (c : List Command). calls_of m (running u.running.picker (wider (later_of ih.later (actions_behind others.known u.block others.steps)) u.running.standing)) c) commands
        ∙ ap (λ (r : Running P). calls_of m r (commands_of whole.known before whole.steps)) (session ∙ begins_as s t next a got ih.later (actions_behind whole.known s.block whole.steps)));
  }

  abbrev live : Running P → List (List ℕ) → Option Block → ℕ → Live P
  live r begun block line = record { running = r; begun = begun; block = block; line = line }

  few : (s t : Live P) (next : Known) (a : ℕ) (got : Learnt s next a t) → length next.names ≡ got.n
  few s t next a got = sym (ap (λ (k : Known). length k.names) got.now) ∙ got.named.names

  fits : (s t : Live P) (next : Known) (a b : ℕ) (got : Learnt s next a t) (c : Command) → most_names ≤ all → length next.begun ≡ b
      → IsCommand (length next.names) (length next.names) c → lacks next (Run c) ≡ false → IsOf (up_to all) got.n b (linked next c)
  fits s t next a b got c le acts known has =
      is_of_all all got.n b (let room = got.names.room in let long = few s t next a got in omega arith) (linked next c)
      (subst (λ (k : ℕ). IsCommand k b (linked next c)) (few s t next a got)
      (subst (λ (k : ℕ). IsCommand (length next.names) k (linked next c)) acts (linked_fits next (length next.names) c known has)))

  module _ (picking : IsPicking m) (le : most_names ≤ all) (r : Running P) (g : List (List ℕ)) (k : ℕ) (line : List ℕ) (rest : List (List ℕ))
      (next : Known) (n a number : ℕ) (others : Said) where
    blank_step : (block : Option Block) (inside : Bool) → inside ≡ is_some block → IsLive n a (live r g block k)
        → LineRead (known_of (live r g block k)) next Blank → said m (live r g block k) line ≡ stated m next Blank (knowing next (counted (live r g block k)))
        → Rest rest next inside others → Follows (live r g block k) (line ∷ rest) (said_before number Blank others) inside
    blank_step block inside opens is read does go =
        let s = live r g block k in
        let t = knowing next (counted s) in
        let got = learns n a s Blank next is read in
        let ih = go t got.n a (record { named = got.named; stands = got.stands; names = subst (λ (x : Known). IsNames x.names) (sym got.now) got.names; begun = got.begun; paired = ap (λ (l : List (List ℕ)). length l) read.says ∙ is.paired; block = got.held }) got.now opens in
        silent_step s line rest next a t t got others (said_before number Blank others) inside inside does [] (read.says ∙ sym (append-nil g)) (ap (λ (x : Known). x.names) got.now) ih refl refl refl

    begin_step : (name : ℕ) → IsLive n a (live r g None k)
        → LineRead (known_of (live r g None k)) next (Begin name) → said m (live r g None k) line ≡ stated m next (Begin name) (knowing next (counted (live r g None k)))
        → Rest rest next true others → Follows (live r g None k) (line ∷ rest) (said_before number (Begin name) others) false
    unfolding actions_of commands_of
    begin_step name is read does go =
        let s = live r g None k in
        let t = knowing next (counted s) in
        let got = learns n a s (Begin name) next is read in
        let long = length-append g (read.says.0 ∷ []) in
        let was = is.paired in
        let begun : length next.begun ≡ a + 1 = ap (λ (l : List (List ℕ)). length l) read.says.2 ∙ omega arith in
        let ih = go (block_begun t) got.n a (record { named = got.named; stands = got.stands; names = subst (λ (x : Known). IsNames x.names) (sym got.now) got.names; begun = got.begun; paired = begun; block = All-nil (IsOf (up_to all) got.n (a + 1)) }) got.now refl in
        silent_step s line rest next a t (block_begun t) got others (said_before number (Begin name) others) false true does (read.says.0 ∷ []) read.says.2 (ap (λ (x : Known). x.names) got.now) ih refl refl refl

    end_step : (block : Block) → IsLive n a (live r g (Some block) k)
        → LineRead (known_of (live r g (Some block) k)) next End → said m (live r g (Some block) k) line ≡ stated m next End (knowing next (counted (live r g (Some block) k)))
        → Rest rest next false others → Follows (live r g (Some block) k) (line ∷ rest) (said_before number End others) true
    unfolding actions_of block_of commands_of
    end_step block is read does go =
        let s = live r g (Some block) k in
        let t = knowing next (counted s) in
        let got = learns n a s End next is read in
        let u = block_ended (Some block) t in
        let ih = go u got.n (a + 1) (record { named = named_action got.n a block.commands t.running.standing got.named; stands = stands_action (up_to all) got.n a block.commands t.running.standing got.stands got.held; names = subst (λ (x : Known). IsNames x.names) (sym got.now) got.names; begun = got.begun; paired = ap (λ (l : List (List ℕ)). length l) read.says ∙ is.paired; block = tt }) got.now refl in
        silent_step s line rest next a t u got others (said_before number End others) true false does [] (read.says ∙ sym (append-nil g)) (ap (λ (x : Known). x.names) got.now) ih refl
        (ap (running t.running.picker) (wider_action ih.later block.commands (actions_of others.known others.steps) t.running.standing)) refl

    bare_end_step : IsLive n a (live r g None k)
        → LineRead (known_of (live r g None k)) next End → said m (live r g None k) line ≡ stated m next End (knowing next (counted (live r g None k)))
        → Rest rest next false others → Follows (live r g None k) (line ∷ rest) (said_before number End others) false
    unfolding actions_of commands_of
    bare_end_step is read does go =
        let s = live r g None k in
        let t = knowing next (counted s) in
        let got = learns n a s End next is read in
        let ih = go t got.n a (record { named = got.named; stands = got.stands; names = subst (λ (x : Known). IsNames x.names) (sym got.now) got.names; begun = got.begun; paired = ap (λ (l : List (List ℕ)). length l) read.says ∙ is.paired; block = got.held }) got.now refl in
        silent_step s line rest next a t t got others (said_before number End others) false false does [] (read.says ∙ sym (append-nil g)) (ap (λ (x : Known). x.names) got.now) ih refl refl refl

    inner_step : (block : Block) (c : Command) → IsLive n a (live r g (Some block) k)
        → LineRead (known_of (live r g (Some block) k)) next (Run c) → lacks next (Run c) ≡ false
        → said m (live r g (Some block) k) line ≡ stated m next (Run c) (knowing next (counted (live r g (Some block) k)))
        → Rest rest next true others → Follows (live r g (Some block) k) (line ∷ rest) (said_before number (Run c) others) true
    unfolding actions_of block_of commands_of
    inner_step block c is read has does go =
        let s = live r g (Some block) k in
        let t = knowing next (counted s) in
        let got = learns n a s (Run c) next is read in
        let more = record block { commands = block.commands ++ linked next c ∷ [] } in
        let u = record t { block = Some more } in
        let known = fits s t next a (a + 1) got c le (ap (λ (l : List (List ℕ)). length l) read.says.0 ∙ is.paired) read.says.1 has in
        let ih = go u got.n a (record { named = got.named; stands = got.stands; names = subst (λ (x : Known). IsNames x.names) (sym got.now) got.names; begun = got.begun; paired = ap (λ (l : List (List ℕ)). length l) read.says.0 ∙ is.paired; block = All-push (IsOf (up_to all) got.n (a + 1)) block.commands (linked next c) got.held known }) got.now refl in
        silent_step s line rest next a t u got others (said_before number (Run c) others) true true does [] (read.says.0 ∙ sym (append-nil g)) (ap (λ (x : Known). x.names) got.now) ih refl
        (ap (λ (l : List Command). running t.running.picker (wider (later_of ih.later (l ∷ actions_of others.known others.steps)) t.running.standing))
        (append_assoc block.commands (linked next c ∷ []) (block_of others.known others.steps)
        ∙ ap (λ (x : Command). block.commands ++ x ∷ block_of others.known others.steps)
        (sym (linked_on next others.known ih.later ih.acts (ih.names ∙ ap (λ (x : Known). x.names ++ ih.later) got.now) ih.begun c read.says.1 has)))) refl

    outer_step : (c : Command) → IsLive n a (live r g None k)
        → LineRead (known_of (live r g None k)) next (Run c) → lacks next (Run c) ≡ false
        → said m (live r g None k) line ≡ stated m next (Run c) (knowing next (counted (live r g None k)))
        → Rest rest next false others → Follows (live r g None k) (line ∷ rest) (said_before number (Run c) others) false
    unfolding actions_of commands_of rounds lines_of calls_in
    outer_step c is read has does go = record {
      later = got.texts ++ ih.later;
      names = names_as s t next a got others.known.names ih.later names;
      acts = ih.acts;
      begun = ih.begun ∙ ap (λ (l : List (List ℕ)). l ++ ih.acts) read.says.0;
      lines = lines_by s line rest _ _ does (ap (λ (l : List ℕ). (round_of m t.running d).lines ++ l) (ih.lines ∙ sym (transcript_of m (wider_in later (round_of m t.running d).next) (commands_of others.known false others.steps)))
          ∙ ap (λ (x : Course P). x.lines ++ lines_of (rounds m x.next (commands_of others.known false others.steps))) (sym same)
          ∙ transcript_of m (wider_in later t.running) (d ∷ commands_of others.known false others.steps)
          ∙ ap (λ (x : Command). transcript m (running t.running.picker (wider later t.running.standing)) (x ∷ commands_of others.known false others.steps)) (sym link)
          ∙ ap (λ (x : Running P). transcript m x (linked others.known c ∷ commands_of others.known false others.steps)) (begins_as s t next a got ih.later (actions_of others.known others.steps)));
      calls = calls_by s line rest _ _ does (ap (λ (l : List (ℕ × Bool)). (round_of m t.running d).calls ++ l) (ih.calls ∙ sym (calls_are_of m (wider_in later (round_of m t.running d).next) (commands_of others.known false others.steps)))
          ∙ ap (λ (x : Course P). x.calls ++ calls_in (rounds m x.next (commands_of others.known false others.steps))) (sym same)
          ∙ calls_are_of m (wider_in later t.running) (d ∷ commands_of others.known false others.steps)
          ∙ ap (λ (x : Command). calls_of m (running t.running.picker (wider later t.running.standing)) (x ∷ commands_of others.known false others.steps)) (sym link)
          ∙ ap (λ (x : Running P). calls_of m x (linked others.known c ∷ commands_of others.known false others.steps)) (begins_as s t next a got ih.later (actions_of others.known others.steps)));
    }
      where
        s : Live P
        s = live r g None k

        t : Live P
        t = knowing next (counted s)

        got : Learnt s next a t
        got = learns n a s (Run c) next is read

        d : Command
        d = linked next c

        known : IsOf (up_to all) got.n a d
        known = fits s t next a a got c le (ap (λ (l : List (List ℕ)). length l) read.says.0 ∙ is.paired) read.says.1 has

        u : Live P
        u = record t { running = (round_of m t.running d).next }

        kept : known_of u ≡ next
        kept = ap (known_with next.begun) (round_names m t.running d) ∙ got.now

        ih : Follows u rest others false
        ih = go u got.n a (record {
          named = round_named (later_of [] []) got.n a (up_to all) m t.running d got.named got.stands known;
          stands = (round_over (up_to all) got.n a m picking t.running d got.stands known).1;
          names = subst (λ (x : Known). IsNames x.names) (sym kept) got.names;
          begun = got.begun;
          paired = ap (λ (l : List (List ℕ)). length l) read.says.0 ∙ is.paired;
          block = tt;
        }) kept refl

        names : others.known.names ≡ next.names ++ ih.later
        names = ih.names ∙ ap (λ (x : Known). x.names ++ ih.later) kept

        later : Later
        later = later_of ih.later (actions_of others.known others.steps)

        same : round_of m (wider_in later t.running) d ≡ wider_course later (round_of m t.running d)
        same = round_wider later got.n a (up_to all) m picking t.running d got.named got.stands known

        link : linked others.known c ≡ d
        link = linked_on next others.known ih.later ih.acts names ih.begun c read.says.1 has

  -- A CONVERSATION FOLLOWS its lines
  step_by : IsPicking m → most_names ≤ all → (r : Running P) (g : List (List ℕ)) (block : Option Block) (k : ℕ) (line : List ℕ) (rest : List (List ℕ))
      (st : Statement) (next : Known) (n a number : ℕ) (others : Said) (inside : Bool) → inside ≡ is_some block → IsLive n a (live r g block k)
      → LineRead (known_of (live r g block k)) next st → lacks next st ≡ false → line_meaning (known_of (live r g block k)) inside line ≡ Ok (st, next)
      → said m (live r g block k) line ≡ stated m next st (knowing next (counted (live r g block k)))
      → Rest rest next (inside_after st inside) others → Follows (live r g block k) (line ∷ rest) (said_before number st others) inside
  step_by picking le r g block k line rest Blank next n a number others inside opens is read has means does go =
      blank_step picking le r g k line rest next n a number others block inside opens is read does go
  step_by picking le r g None k line rest (Begin name) next n a number others true opens is read has means does go = absurd (cc)
  step_by picking le r g None k line rest (Begin name) next n a number others false opens is read has means does go =
      begin_step picking le r g k line rest next n a number others name is read does go
  step_by picking le r g (Some block) k line rest (Begin name) next n a number others inside opens is read has means does go =
      absurd (let out = line_begins (known_of (live r g (Some block) k)) next inside line name means in cc)
  step_by picking le r g None k line rest End next n a number others true opens is read has means does go = absurd (cc)
  step_by picking le r g None k line rest End next n a number others false opens is read has means does go =
      bare_end_step picking le r g k line rest next n a number others is read does go
  step_by picking le r g (Some block) k line rest End next n a number others false opens is read has means does go = absurd (cc)
  step_by picking le r g (Some block) k line rest End next n a number others true opens is read has means does go =
      end_step picking le r g k line rest next n a number others block is read does go
  step_by picking le r g None k line rest (Run c) next n a number others true opens is read has means does go = absurd (cc)
  step_by picking le r g None k line rest (Run c) next n a number others false opens is read has means does go =
      outer_step picking le r g k line rest next n a number others c is read has does go
  step_by picking le r g (Some block) k line rest (Run c) next n a number others false opens is read has means does go = absurd (cc)
  step_by picking le r g (Some block) k line rest (Run c) next n a number others true opens is read has means does go =
      inner_step picking le r g k line rest next n a number others block c is read has does go

  no_lines : (s : Live P) (open_at : Option ℕ) → open_at ≡ None → is_some open_at ≡ is_some s.block
      → Follows s [] (record { steps = []; known = known_of s; open_at = open_at }) (is_some open_at)
  unfolding spoken commands_of actions_of rounds lines_of calls_in
  no_lines s open_at none opens = record {
    later = [];
    names = sym (append-nil s.running.standing.names);
    acts = [];
    begun = sym (append-nil s.begun);
    lines = closed s.block (sym opens ∙ ap (λ (o : Option ℕ). is_some o) none);
    calls = refl;
  }
    where
      closed : (block : Option Block) → is_some block ≡ false → unclosed block ≡ []
      closed None e = refl
      closed (Some block) e = absurd (cc)

  pub follow : IsPicking m → most_names ≤ all → (rest : List (List ℕ)) (s : Live P) (n a number : ℕ) (open_at : Option ℕ) (said : Said) → IsLive n a s
      → is_some open_at ≡ is_some s.block → lines_meaning (known_of s) open_at number rest ≡ Ok said → said.open_at ≡ None
      → AreShort rest → AreBegunFirst (known_of s) (is_some open_at) rest → Follows s rest said (is_some open_at)
  unfolding lines_meaning
  follow picking le [] s n a number open_at said is opens read closed short begun =
      subst (λ (x : Said). Follows s [] x (is_some open_at)) same (no_lines s open_at (ap (λ (x : Said). x.open_at) same ∙ closed) opens)
    where
      same : record { steps = []; known = known_of s; open_at = open_at } ≡ said
      same = told_is (record { steps = []; known = known_of s; open_at = open_at }) said read
  follow picking le (line ∷ rest) s n a number open_at said is opens read closed short begun =
      subst (λ (x : Said). Follows s (line ∷ rest) x (is_some open_at)) one.whole
      (step_by picking le s.running s.begun s.block s.line line rest one.st one.next n a number one.others (is_some open_at) opens is line_read first.0 one.means
      (said_is m s line one.st one.next (subst (λ (b : Bool). meaning (known_of s) b line ≡ Ok (one.st, one.next)) opens
      (meaning_is (known_of s) one.next (is_some open_at) line one.st (All-head (λ (l : List ℕ). length l ≤ MOST_LINE) line rest short) one.means first.0)))
      (λ t k b live same inside. subst (λ (x : Bool). Follows t rest one.others x) (opened_inside one.st number open_at)
      (follow picking le rest t k b (number + 1) (opened one.st number open_at) one.others live (opened_inside one.st number open_at ∙ inside)
      (ap (λ (x : Known). lines_meaning x (opened one.st number open_at) (number + 1) rest) same ∙ one.behind)
      (ap (λ (x : Said). x.open_at) one.whole ∙ closed)
      (All-tail (λ (l : List ℕ). length l ≤ MOST_LINE) line rest short)
      (subst (λ (x : Known). AreBegunFirst x (is_some (opened one.st number open_at)) rest) (sym same)
      (subst (λ (x : Bool). AreBegunFirst one.next x rest) (sym (opened_inside one.st number open_at)) first.1)))))
    where
      one : OneMore (known_of s) open_at number line rest said
      one = one_more (known_of s) open_at number line rest said read

      line_read : LineRead (known_of s) one.next one.st
      line_read = line_is_read (known_of s) one.next (is_some open_at) line one.st is.names is.begun one.means

      first : (lacks one.next one.st ≡ false) × AreBegunFirst one.next (inside_after one.st (is_some open_at)) rest
      first = subst (λ (x : Result (Statement × Known) ScriptKind). OfMeaning (λ read. (lacks read.1 read.0 ≡ false) × AreBegunFirst read.1 (inside_after read.0 (is_some open_at)) rest) x) one.means begun
