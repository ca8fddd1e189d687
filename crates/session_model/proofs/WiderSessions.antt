-- A session does not depend on names and actions that come later.
use Rattle.std.proofs.Common.{◌≡◌, ℕ, zero, suc, ◌<◌, Bool, true, ℤ, List, [], ◌∷◌, ◌++◌, length, get_or, replicate, codes, Option, None, refl, sym, ◌∙◌, ap, subst, arith}
use Rattle.std.specs.Prelude.{slice_get, All}
use Rattle.std.proofs.lemmas.List.{length-append, length-replicate, replicate-append-replicate}
use Rattle.std.proofs.lemmas.List.Elements.{All-head, All-tail}
use Rattle.desk_names.specs.Names.{has_text, place_of}
use Rattle.desk_names.proofs.NameLaws.{position_or_len-longer, place_of-lt}
use Rattle.std.specs.Str.{bytes_eq}
use Rattle.desk_terms.specs.declared.terms.Terms.{Terms}
use Rattle.session_commands.specs.declared.command.Command.{Command}
use Rattle.watch_rounds.specs.Round.{blank}
use Rattle.session_model.specs.Standing.{Standing, start_of, start_with, with_objects}
use Rattle.session_model.specs.Course.{Running, Meaning, Course, running, round_of}
use Rattle.session_model.specs.Rounds.{rounds, lines_of, calls_in, transcript, calls_of}
use Rattle.session_model.specs.Ends.{IsPicking, names_in, names_in_all, names_of_watchers}
use Rattle.session_model.specs.Wider.{Later, wider, wider_in, AreNamed, LaterChangesNothing}
use Rattle.session_model.proofs.Given.{IsOf}
use Rattle.session_model.proofs.Holding.{Stands}
use Rattle.session_model.proofs.Names.{among_left, among_right, once_among, commands_of, blocks_of, stands_first}
use Rattle.session_model.proofs.Ends.{round_over}
use Rattle.session_model.proofs.Wider.{IsBelow, IsNamed, past_end, object_more}
use Rattle.session_model.proofs.WiderRounds.{counting, round_wider, round_named}

place_longer : (names more : List (List ℕ)) (text : List ℕ) → has_text names text ≡ true → place_of (names ++ more) text ≡ place_of names text
unfolding has_text place_of
place_longer names more text has = position_or_len-longer (bytes_eq text) names more has

objects_wider : (later : Later) (made : List (ℕ × Terms)) (p : Standing) → with_objects made (wider later p) ≡ wider later (with_objects made p)
unfolding with_objects
objects_wider later [] p = refl
objects_wider later (entry ∷ made) p = objects_wider later made _

-- as many names without an action
abbrev no_actions : ℕ → List (Option ℕ)
no_actions k = replicate k None

nothing_at : (w : ℕ) (o : Option ℕ) → get_or [] w o ≡ o
nothing_at zero o = refl
nothing_at (suc w) o = refl

-- a wider session begins as a session of more names and actions
pub begins_wider : (later : Later) (today : ℤ) (names : List (List ℕ)) (made : List (ℕ × Terms)) (actions : List (List Command))
    → has_text names (codes "today") ≡ true
    → start_with today (names ++ later.names) made (actions ++ later.actions) ≡ wider later (start_with today names made actions)
begins_wider later today names made actions has =
    ap (with_objects made) (first (place_longer names later.names (codes "today") has)
    (ap no_actions (length-append names later.names) ∙ sym (replicate-append-replicate (length names) (length later.names) None)))
    ∙ objects_wider later made (start_of today names actions)
  where
    first : place_of (names ++ later.names) (codes "today") ≡ place_of names (codes "today")
        → no_actions (length (names ++ later.names)) ≡ no_actions (length names) ++ no_actions (length later.names)
        → start_of today (names ++ later.names) (actions ++ later.actions) ≡ wider later (start_of today names actions)
    first place table = rw (place, table) refl

objects_named : (n a : ℕ) (made : List (ℕ × Terms)) (p : Standing) → IsNamed n a p → AreNamed n made → IsNamed n a (with_objects made p)
unfolding with_objects
objects_named n a [] p named all = named
objects_named n a (entry ∷ made) p named all = objects_named n a made _ (record {
  some = named.some;
  names = named.names;
  watching = named.watching;
  actions = named.actions;
  objects = λ o. object_more n entry.0 p.of_object o (All-head (λ (e : ℕ × Terms). e.0 < n) entry made all) named.objects;
  linked = named.linked;
}) (All-tail (λ (e : ℕ × Terms). e.0 < n) entry made all)

-- and a session begins with its names
pub named_first : (today : ℤ) (names : List (List ℕ)) (made : List (ℕ × Terms)) (actions : List (List Command))
    → has_text names (codes "today") ≡ true → AreNamed (length names) made
    → IsNamed (length names) (length actions) (start_with today names made actions)
named_first today names made actions has all =
    let low = place_of-lt names (codes "today") has in
    objects_named (length names) (length actions) made (start_of today names actions) (record {
      some = omega arith;
      names = refl;
      watching = length-replicate (length names) None;
      actions = refl;
      objects = one low;
      linked = λ w. subst (λ (o : Option ℕ). IsBelow (length actions) o) (sym (past_end [] (length names) w None ∙ nothing_at w None)) tt;
    }) all
  where
    one : place_of names (codes "today") < length names → (o : ℕ) → IsBelow (length names) (slice_get (place_of names (codes "today") ∷ []) o)
    one low zero = low
    one low (suc zero) = tt
    one low (suc (suc o)) = tt

-- two sessions write and compute the same
pub record IsAlike {P : Type 0} (m : Meaning P) (r other : Running P) (commands : List Command) : Type 0 where
  pub lines : transcript m other commands ≡ transcript m r commands
  pub calls : calls_of m other commands ≡ calls_of m r commands

module _ {P : Type 0} (later : Later) (n a : ℕ) (given : List ℕ) (m : Meaning P) (picking : IsPicking m) where
  pub rounds_wider : (commands : List Command) (r : Running P) → IsNamed n a r.standing → Stands given n a r.standing
      → All (IsOf given n a) commands → IsAlike m r (wider_in later r) commands
  unfolding rounds lines_of calls_in
  rounds_wider [] r named s all = record { lines = refl; calls = refl }
  rounds_wider (c ∷ commands) r named s all =
      let is = All-head (IsOf given n a) c commands all in
      let same = round_wider later n a given m picking r c named s is in
      let rest = rounds_wider commands (round_of m r c).next (round_named later n a given m r c named s is)
      (round_over given n a m picking r c s is).1 (All-tail (IsOf given n a) c commands all) in
      record {
        lines = ap (λ (x : Course P). x.lines ++ lines_of (rounds m x.next commands)) same ∙ ap (λ (l : List ℕ). (round_of m r c).lines ++ l) rest.lines;
        calls = ap (λ (x : Course P). x.calls ++ calls_in (rounds m x.next commands)) same ∙ ap (λ (l : List (ℕ × Bool)). (round_of m r c).calls ++ l) rest.calls;
      }

pub running_wider : {P : Type 0} → (later : Later) (picker : P) (p : Standing) → running picker (wider later p) ≡ wider_in later (running picker p)
running_wider later picker p =
    ap (counting (wider later p) picker)
    (ap (λ (k : ℕ). replicate k blank) (length-append p.names later.names)
    ∙ sym (replicate-append-replicate (length p.names) (length later.names) blank))

-- WHAT COMES LATER CHANGES NOTHING
pub later_nothing : {P : Type 0} → (m : Meaning P) → IsPicking m → LaterChangesNothing m
later_nothing {P} m picking later picker today names made actions commands has all blocks known =
    let inner = names_in_all actions in
    let outer = names_in commands in
    let given = names_of_watchers actions commands in
    let r : Running P = running picker (start_with today names made actions) in
    let begins = begins_running in
    let same = rounds_wider later (length names) (length actions) given m picking commands r (named_first today names made actions has all)
    (stands_first given (length names) (length actions) today names made actions refl
    (blocks_of given (length names) (length actions) actions
    (λ name among. once_among name (inner ++ outer) (among_left name inner outer among)) blocks))
    (commands_of given (length names) (length actions) commands
    (λ name among. once_among name (inner ++ outer) (among_right name inner outer among)) known) in
    record {
      lines = ap (λ (x : Running P). transcript m x commands) begins ∙ same.lines;
      calls = ap (λ (x : Running P). calls_of m x commands) begins ∙ same.calls;
    }
  where
    begins_running : running picker (start_with today (names ++ later.names) made (actions ++ later.actions))
        ≡ wider_in later (running picker (start_with today names made actions))
    begins_running =
        ap (running picker) (begins_wider later today names made actions has)
        ∙ running_wider later picker (start_with today names made actions)
