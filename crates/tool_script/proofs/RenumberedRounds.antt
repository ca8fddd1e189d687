-- A session without watchers does not depend on how it numbers its names.
use Rattle.std.proofs.Common.{◌≡◌, ◌≢◌, inl, inr, ℕ, zero, suc, ◌<◌, Bool, true, ℤ, List, [], ◌∷◌, ◌++◌, length, replicate, codes, Option, Some, None, Result, Ok, Err, refl, sym, ◌∙◌, ap, subst, arith}
use Rattle.std.specs.Prelude.{option_map, All, AllPairs}
use Rattle.std.proofs.lemmas.Bool.{false≢true}
use Rattle.std.proofs.lemmas.List.{map-append, append-nil}
use Rattle.std.proofs.lemmas.List.Elements.{All-nil, All-cons, All-head, All-tail, All-push, All-get_or}
use Rattle.std.proofs.lemmas.Option.{slice_get-get_or, get_or_from_slice_get}
use Rattle.walks.specs.Walk.{Among}
use Rattle.desk_names.specs.Names.{has_text, place_of}
use Rattle.desk_names.proofs.NameLaws.{place_of-lt, place_of-at, slice_get-place_of}
use Rattle.desk_terms.specs.declared.terms.Terms.{Terms}
use Rattle.desk_terms.specs.Reading.{Calc}
use Rattle.desk_model.specs.declared.slot.Slot.TheVariants.{Live}
use Rattle.desk_model.specs.Market.{slot_at, is_watcher}
use Rattle.desk_model.specs.Effect.{made, watching}
use Rattle.price_report.specs.Namer.{name_text}
use Rattle.session_commands.specs.declared.command.Command.{Command}
use Rattle.session_commands.specs.declared.refusal.Refusal.{Refusal}
use Rattle.session_commands.specs.Whole.{IsCommand}
use Rattle.watch_rounds.specs.declared.rounds.DueWatcher.{DueWatcher}
use Rattle.watch_rounds.specs.declared.picker.Order.{Order}
use Rattle.session_model.specs.declared.act.Act.{Act}
use Rattle.session_model.specs.declared.act.Act.TheVariants as act
use Rattle.session_model.specs.declared.place.Place.TheVariants.{Priced}
use Rattle.session_model.specs.Resolve.{find, resolve}
use Rattle.session_model.specs.Standing.{Standing, start_of, start_with, with_objects}
use Rattle.session_model.specs.Turn.{Turn, effect_of, step, done_as, turn}
use Rattle.session_model.specs.Course.{Running, Meaning, Course, quiet, before, and_then, taken, noticed, heard, all_handed_out, course_of, run, unless_none, runs_by, most_runs, opened, round_of}
use Rattle.session_model.specs.Rounds.{rounds, lines_of, calls_in, transcript, calls_of}
use Rattle.session_model.specs.Wider.{AreNamed}
use Rattle.session_model.proofs.Given.{IsOf, added_was, told_turn}
use Rattle.session_model.proofs.Live.{changed_shaped, grown_shaped, priced_shaped}
use Rattle.session_model.proofs.Holding.{Stands}
use Rattle.session_model.proofs.Names.{stands_first}
use Rattle.session_model.proofs.Wider.{IsBelow, Are, are_spoken}
use Rattle.tool_script.specs.Kinds.{asked_name}
use Rattle.tool_script.specs.Renumbered.{renumber, renumbered, renumbered_all, renumbered_made, basis_among, Hold}
use Rattle.tool_script.specs.Scenario.{Basis, ordered, first_of, money_of, money_shown, after, values_of}
use Rattle.tool_script.proofs.Renumbered.{Renumbers, AreBelow, IsTurn, found_as, found_same_name, said, standing_as, turn_same}

-- ---- nobody watches

abbrev IsLone : Standing → Type 0
IsLone p = (w : ℕ) → is_watcher (slot_at p.state.market w) ≡ true → ⊥

nobody : (ws : List ℕ) → ((w : ℕ) → Among w ws → ⊥) → ws ≡ []
nobody [] none = refl
nobody (w ∷ ws) none = absurd (none w (inl refl))

-- a command that names no action makes no watcher
lone_turn : (calc : Calc) (n : ℕ) (p : Standing) (c : Command) → IsCommand n 0 c → IsLone p → IsLone (turn calc p c).next
unfolding turn effect_of step made watching
lone_turn calc n p c known none w = by (resolve p c) (are_spoken n 0 p c known)
  where
    by : (r : Result Act Refusal) → Are n 0 r → is_watcher (slot_at (done_as calc p c r).next.state.market w) ≡ true → ⊥
    by (Err why) are is = none w is
    by (Ok (act.Make name t)) are is = elim (added_was p.state.market.objects (Live t) w is) [
      | inl was ↦ none w was
      | inr new ↦ false≢true new.1
    ]
    by (Ok (act.Watch name action)) are is = let low = are.1 in omega (arith, low)
    by (Ok (act.Quiet x)) are is = none w ((changed_shaped x p.state).fewer w is)
    by (Ok (act.Grow g)) are is = none w ((grown_shaped g p.state).fewer w is)
    by (Ok (act.Price name o h)) are is = none w ((priced_shaped calc o p.state h).fewer w is)

idle_runs : (m : Meaning Order) (k : ℕ) (r : Running Order) → r.round.due ≡ [] → runs_by m k r ≡ quiet r
unfolding runs_by
idle_runs m zero r none = refl
idle_runs m (suc k) r none = ap (λ (due : List DueWatcher). unless_none due r (and_then (run m r) (runs_by m k))) none

-- a round is then the turn of its command
module _ (calc : Calc) (r : Running Order) (c : Command) where
  abbrev turned : Turn
  turned = turn calc (all_handed_out r.standing) c

  record IsTurned : Type 0 where
    lines : (round_of (ordered calc) r c).lines ≡ turned.lines
    calls : (round_of (ordered calc) r c).calls ≡ turned.calls
    next : (round_of (ordered calc) r c).next.standing ≡ all_handed_out turned.next

  abbrev told : Running Order
  told = (taken turned (opened r)).next

  abbrev rest : Running Order
  rest = record told { standing = all_handed_out turned.next }

  abbrev answer : Course Order
  answer = record { lines = (turned.lines ++ []) ++ []; calls = (turned.calls ++ []) ++ []; next = rest }

  whole : IsLone turned.next → round_of (ordered calc) r c ≡ answer
  unfolding round_of course_of opened and_then heard noticed
  whole none =
      ap (λ (ws : List ℕ). and_then (and_then (taken turned (opened r)) (λ (s : Running Order). noticed ws (record s { standing = all_handed_out s.standing }))) (runs_by (ordered calc) (most_runs r)))
      (nobody turned.next.state.noticed (λ w among. none w (told_turn calc (all_handed_out r.standing) c refl w among)))
      ∙ ap (λ (x : Course Order). before (turned.lines ++ []) (turned.calls ++ []) x) (idle_runs (ordered calc) (most_runs r) rest refl)

  is_turned : IsLone turned.next → IsTurned
  is_turned none = let same = whole none in record {
    lines = ap (λ (x : Course Order). x.lines) same ∙ append-nil (turned.lines ++ []) ∙ append-nil turned.lines;
    calls = ap (λ (x : Course Order). x.calls) same ∙ append-nil (turned.calls ++ []) ∙ append-nil turned.calls;
    next = ap (λ (x : Course Order). x.next.standing) same;
  }

-- ---- two sessions that number the same names otherwise

module _ (names others : List (List ℕ)) (number : ℕ → ℕ) (is : Renumbers names others number) (calc : Calc) where
  abbrev in_others : List (Option ℕ) → Standing → Standing
  in_others watching p = standing_as names others number is watching p

  pub record AreBoth (r t : Running Order) : Type 0 where
    pub watching : List (Option ℕ)
    pub same : t.standing ≡ in_others watching r.standing
    pub below : AreBelow names others number is r.standing.of_object
    pub named : r.standing.names ≡ names
    pub none : IsLone r.standing

  abbrev AreKnown : List Command → Type 0
  AreKnown commands = All (IsCommand (length names) 0) commands

  record IsRound (r t : Running Order) (c : Command) : Type 0 where
    lines : (round_of (ordered calc) t (renumbered number c)).lines ≡ (round_of (ordered calc) r c).lines
    calls : (round_of (ordered calc) t (renumbered number c)).calls ≡ (round_of (ordered calc) r c).calls
    next : AreBoth (round_of (ordered calc) r c).next (round_of (ordered calc) t (renumbered number c)).next

  round_both : (r t : Running Order) (c : Command) → AreBoth r t → IsCommand (length names) 0 c → IsRound r t c
  round_both r t c both known = record {
    lines = second.lines ∙ ap (λ (x : Turn). x.lines) same_turn ∙ turns.lines ∙ sym first.lines;
    calls = second.calls ∙ ap (λ (x : Turn). x.calls) same_turn ∙ turns.calls ∙ sym first.calls;
    next = record {
      watching = turns.watching_then;
      same = second.next ∙ ap (λ (x : Turn). all_handed_out x.next) same_turn ∙ ap all_handed_out turns.next
          ∙ ap (in_others turns.watching_then) (sym first.next);
      below = subst (λ (p : Standing). AreBelow names others number is p.of_object) (sym first.next) turns.below_then;
      named = ap (λ (p : Standing). p.names) first.next ∙ turns.named both.named;
      none = subst IsLone (sym first.next) left;
    };
  }
    where
      p : Standing
      p = all_handed_out r.standing

      turns : IsTurn names others number is p both.watching both.below (turn calc p c) (turn calc (in_others both.watching p) (renumbered number c))
      turns = turn_same names others number is p both.watching both.below both.named 0 calc c known

      same_turn : turn calc (all_handed_out t.standing) (renumbered number c) ≡ turn calc (in_others both.watching p) (renumbered number c)
      same_turn = ap (λ (q : Standing). turn calc (all_handed_out q) (renumbered number c)) both.same

      left : IsLone (turn calc p c).next
      left = lone_turn calc (length names) p c known both.none

      first : IsTurned calc r c
      first = is_turned calc r c left

      second : IsTurned calc t (renumbered number c)
      second = is_turned calc t (renumbered number c) (subst IsLone (sym (ap (λ (x : Turn). x.next) same_turn ∙ turns.next)) left)

  -- what commands write and compute
  pub record AreSaid (r t : Running Order) (commands : List Command) : Type 0 where
    pub lines : transcript (ordered calc) t (renumbered_all number commands) ≡ transcript (ordered calc) r commands
    pub calls : calls_of (ordered calc) t (renumbered_all number commands) ≡ calls_of (ordered calc) r commands
    pub next : AreBoth (after calc commands r) (after calc (renumbered_all number commands) t)

  pub commands_both : (commands : List Command) (r t : Running Order) → AreBoth r t → AreKnown commands → AreSaid r t commands
  unfolding rounds lines_of calls_in after
  commands_both [] r t both known = record { lines = refl; calls = refl; next = both }
  commands_both (c ∷ commands) r t both known =
      let m = ordered calc in
      let one = round_both r t c both (All-head (IsCommand (length names) 0) c commands known) in
      let more = commands_both commands (round_of m r c).next (round_of m t (renumbered number c)).next one.next
      (All-tail (IsCommand (length names) 0) c commands known) in
      record {
        lines = ap (λ (l : List ℕ). l ++ lines_of (rounds m (round_of m t (renumbered number c)).next (renumbered_all number commands))) one.lines
            ∙ ap (λ (l : List ℕ). (round_of m r c).lines ++ l) more.lines;
        calls = ap (λ (l : List (ℕ × Bool)). l ++ calls_in (rounds m (round_of m t (renumbered number c)).next (renumbered_all number commands))) one.calls
            ∙ ap (λ (l : List (ℕ × Bool)). (round_of m r c).calls ++ l) more.calls;
        next = more.next;
      }

  -- what asks show
  shown_both : (p : Standing) (watching : List (Option ℕ)) (name : Option ℕ) → AreBelow names others number is p.of_object
      → IsBelow (length names) name → money_shown calc (in_others watching p) (option_map number name) ≡ money_shown calc p name
  shown_both p watching None below low = refl
  shown_both p watching (Some name) below low =
      ap (money_of calc (in_others watching p)) (found_same_name names others number is p watching below Priced name low) ∙ by (find Priced p name)
    where
      by : (found : Result ℕ Refusal) → money_of calc (in_others watching p) (found_as names others number is found) ≡ money_of calc p found
      by (Ok o) = refl
      by (Err why) = refl

  pub values_both : (asks : List Command) (r t : Running Order) → AreBoth r t → AreKnown asks
      → values_of calc (renumbered_all number asks) t ≡ values_of calc asks r
  unfolding values_of
  values_both [] r t both known = refl
  values_both (ask ∷ asks) r t both known =
      let m = ordered calc in
      let one = All-head (IsCommand (length names) 0) ask asks known in
      let asked = said names others number is r.standing both.watching both.below 0 ask one in
      ap (λ (shown : Option ℤ). shown ∷ values_of calc (renumbered_all number asks) (round_of m t (renumbered number ask)).next)
      (ap (money_shown calc t.standing) asked.2
      ∙ ap (λ (p : Standing). money_shown calc p (option_map number (asked_name ask))) both.same
      ∙ shown_both r.standing both.watching (asked_name ask) both.below asked.3)
      ∙ ap (λ (values : List (Option ℤ)). money_shown calc r.standing (asked_name ask) ∷ values)
      (values_both asks (round_of m r ask).next (round_of m t (renumbered number ask)).next (round_both r t ask both one).next
      (All-tail (IsCommand (length names) 0) ask asks known))

  -- ---- the session of a market

  objects_both : (entries : List (ℕ × Terms)) (watching : List (Option ℕ)) (p : Standing)
      → with_objects (renumbered_made number entries) (in_others watching p) ≡ in_others watching (with_objects entries p)
  unfolding with_objects
  objects_both [] watching p = refl
  objects_both (entry ∷ entries) watching p =
      ap (λ (of_object : List ℕ). with_objects (renumbered_made number entries) (record (in_others watching p) { state = made entry.1 p.state; of_object = of_object }))
      (sym (map-append number p.of_object (entry.0 ∷ [])))
      ∙ objects_both entries watching _

objects_below : (n : ℕ) (entries : List (ℕ × Terms)) (p : Standing) → All (λ name. name < n) p.of_object → AreNamed n entries
    → All (λ name. name < n) (with_objects entries p).of_object
unfolding with_objects
objects_below n [] p below named = below
objects_below n (entry ∷ entries) p below named =
    objects_below n entries _ (All-push (λ name. name < n) p.of_object entry.0 below (All-head (λ (e : ℕ × Terms). e.0 < n) entry entries named))
    (All-tail (λ (e : ℕ × Terms). e.0 < n) entry entries named)

objects_keep : (entries : List (ℕ × Terms)) (p : Standing) → (with_objects entries p).names ≡ p.names
unfolding with_objects
objects_keep [] p = refl
objects_keep (entry ∷ entries) p = objects_keep entries _

module _ (names others : List (List ℕ)) (distinct : AllPairs (λ one other. one ≢ other) names) (hold : Hold others names) where
  pub text_there : (text : List ℕ) → has_text others text ≡ true → name_text others (place_of others text) ≡ text
  text_there text has = get_or_from_slice_get others (place_of others text) text [] (slice_get-place_of others text has)

  here : (x : ℕ) → x < length names → place_of names (name_text names x) ≡ x
  here x low = place_of-at names (name_text names x) distinct x (slice_get-get_or names x [] low)

  -- the place of a text is another number of it
  pub places : Renumbers names others (renumber names others)
  places = record {
    text = there;
    apart = λ x y low below same.
        sym (here x low) ∙ ap (place_of names) (sym (there x low) ∙ ap (name_text others) same ∙ there y below) ∙ here y below;
  }
    where
      there : (x : ℕ) → x < length names → name_text others (renumber names others x) ≡ name_text names x
      there x low = text_there (name_text names x) (All-get_or (λ text. has_text others text ≡ true) names x [] low hold)

pub first_both : (basis : Basis) (others : List (List ℕ)) (distinct : AllPairs (λ one other. one ≢ other) basis.names)
    (hold : Hold others basis.names) (calc : Calc) → has_text basis.names (codes "today") ≡ true → AreNamed (length basis.names) basis.made
    → AreBoth basis.names others (renumber basis.names others) (places basis.names others distinct hold) calc (first_of basis) (first_of (basis_among others basis))
first_both basis others distinct hold calc has named = record {
  watching = replicate (length others) None;
  same = ap (λ (place : ℕ). with_objects (renumbered_made number basis.made) (record (start_of basis.today others []) { of_object = place ∷ [] })) today
      ∙ objects_both basis.names others number is calc basis.made (replicate (length others) None) (start_of basis.today basis.names []);
  below = objects_below (length basis.names) basis.made (start_of basis.today basis.names [])
      (All-cons (λ name. name < length basis.names) (place_of basis.names (codes "today")) [] (place_of-lt basis.names (codes "today") has) (All-nil (λ name. name < length basis.names))) named;
  named = objects_keep basis.made (start_of basis.today basis.names []);
  none = λ w watches. (first.watchers.named w watches).1;
}
  where
    number : ℕ → ℕ
    number = renumber basis.names others

    is : Renumbers basis.names others number
    is = places basis.names others distinct hold

    today : place_of others (codes "today") ≡ number (place_of basis.names (codes "today"))
    today = ap (place_of others) (sym (get_or_from_slice_get basis.names (place_of basis.names (codes "today")) (codes "today") [] (slice_get-place_of basis.names (codes "today") has)))

    first : Stands [] (length basis.names) 0 (start_with basis.today basis.names basis.made [])
    first = stands_first [] (length basis.names) 0 basis.today basis.names basis.made [] refl (All-nil (λ (block : List Command). All (IsOf [] (length basis.names) 0) block))
