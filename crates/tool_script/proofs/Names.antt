-- A scenario does not depend on names that it does not speak of.
use Rattle.std.proofs.Common.{◌≡◌, ℕ, ◌<◌, ◌≤◌, true, List, [], ◌∷◌, ◌++◌, length, codes, refl, sym, ap, ◌∙◌, arith, Option, Some, None, ℤ}
use Rattle.std.specs.Prelude.{All}
use Rattle.std.proofs.lemmas.List.Elements.{All-nil, All-cons, All-head, All-tail, All-append}
use Rattle.desk_names.specs.Names.{has_text}
use Rattle.desk_terms.specs.Reading.{Calc}
use Rattle.session_commands.specs.declared.command.Command.{Command}
use Rattle.session_commands.specs.Whole.{IsCommand}
use Rattle.watch_rounds.specs.declared.picker.Order.{Order}
use Rattle.watch_rounds.specs.declared.picker.Order.TheVariants.{First}
use Rattle.watch_rounds.specs.Order.{order_below}
use Rattle.session_model.specs.Resolve.{find}
use Rattle.session_model.specs.Standing.{Standing, start_with}
use Rattle.session_model.specs.Course.{Running, Course, running, round_of}
use Rattle.session_model.specs.Rounds.{transcript, calls_of}
use Rattle.session_model.specs.Wider.{Later, wider, wider_in, AreNamed}
use Rattle.session_model.proofs.Given.{IsOf}
use Rattle.session_model.proofs.Holding.{Stands}
use Rattle.session_model.proofs.Names.{stands_first}
use Rattle.session_model.proofs.Ends.{round_over}
use Rattle.session_model.proofs.Wider.{IsNamed}
use Rattle.session_model.proofs.WiderRounds.{round_wider, round_named}
use Rattle.session_model.proofs.WiderSessions.{IsAlike, rounds_wider, begins_wider, named_first, running_wider}
use Rattle.session_model.proofs.Growing.{up_to, is_of_all}
use Rattle.tool_script.specs.Kinds.{asked_name}
use Rattle.tool_script.specs.Scenario.{Basis, Scenario, ordered, first_of, money_shown, after, values_of}
use Rattle.tool_script.specs.GridLaws.{with_names, IsSame, OtherNamesChangeNothing}

of_names : (n : ℕ) (commands : List Command) → All (IsCommand n 0) commands → All (IsOf (up_to n) n 0) commands
of_names n [] known = All-nil (IsOf (up_to n) n 0)
of_names n (c ∷ commands) known = All-cons (IsOf (up_to n) n 0) c commands
    (is_of_all n n 0 (omega arith) c (All-head (IsCommand n 0) c commands known))
    (of_names n commands (All-tail (IsCommand n 0) c commands known))

module _ (calc : Calc) (later : Later) (n : ℕ) where
  abbrev Are : List Command → Type 0
  Are commands = All (IsOf (up_to n) n 0) commands

  -- a session between the rounds of a scenario
  record IsBetween (r : Running Order) : Type 0 where
    named : IsNamed n 0 r.standing
    stands : Stands (up_to n) n 0 r.standing

  same : (r : Running Order) (c : Command) → IsBetween r → IsOf (up_to n) n 0 c
      → (round_of (ordered calc) (wider_in later r) c).next ≡ wider_in later (round_of (ordered calc) r c).next
  same r c is known = ap (λ (x : Course Order). x.next) (round_wider later n 0 (up_to n) (ordered calc) order_below r c is.named is.stands known)

  behind : (r : Running Order) (c : Command) → IsBetween r → IsOf (up_to n) n 0 c → IsBetween (round_of (ordered calc) r c).next
  behind r c is known = record {
    named = round_named later n 0 (up_to n) (ordered calc) r c is.named is.stands known;
    stands = (round_over (up_to n) n 0 (ordered calc) order_below r c is.stands known).1;
  }

  after_wider : (moves : List Command) (r : Running Order) → IsBetween r → Are moves
      → after calc moves (wider_in later r) ≡ wider_in later (after calc moves r)
  unfolding after
  after_wider [] r is known = refl
  after_wider (c ∷ moves) r is known =
      let one = All-head (IsOf (up_to n) n 0) c moves known in
      ap (after calc moves) (same r c is one)
      ∙ after_wider moves (round_of (ordered calc) r c).next (behind r c is one) (All-tail (IsOf (up_to n) n 0) c moves known)

  after_between : (moves : List Command) (r : Running Order) → IsBetween r → Are moves → IsBetween (after calc moves r)
  unfolding after
  after_between [] r is known = is
  after_between (c ∷ moves) r is known =
      after_between moves (round_of (ordered calc) r c).next (behind r c is (All-head (IsOf (up_to n) n 0) c moves known))
      (All-tail (IsOf (up_to n) n 0) c moves known)

  money_wider : (p : Standing) (name : Option ℕ) → money_shown calc (wider later p) name ≡ money_shown calc p name
  unfolding find
  money_wider p None = refl
  money_wider p (Some name) = refl

  values_wider : (asks : List Command) (r : Running Order) → IsBetween r → Are asks → values_of calc asks (wider_in later r) ≡ values_of calc asks r
  unfolding values_of
  values_wider [] r is known = refl
  values_wider (ask ∷ asks) r is known =
      let one = All-head (IsOf (up_to n) n 0) ask asks known in
      ap (λ (x : Option ℤ). x ∷ values_of calc asks (round_of (ordered calc) (wider_in later r) ask).next) (money_wider r.standing (asked_name ask))
      ∙ ap (λ (l : List (Option ℤ)). money_shown calc r.standing (asked_name ask) ∷ l)
      (ap (values_of calc asks) (same r ask is one)
      ∙ values_wider asks (round_of (ordered calc) r ask).next (behind r ask is one) (All-tail (IsOf (up_to n) n 0) ask asks known))

-- A SCENARIO IS THE SAME whatever names stand behind those that it speaks of
module _ (calc : Calc) (basis : Basis) (asks : List Command) (scenario : Scenario) (has : has_text basis.names (codes "today") ≡ true)
    (named : AreNamed (length basis.names) basis.made) (moves_known : All (IsCommand (length basis.names) 0) scenario.moves)
    (asks_known : All (IsCommand (length basis.names) 0) asks) where
  as_alone : (more : List (List ℕ)) → IsSame calc (with_names basis more) basis asks scenario
  as_alone more = record {
    lines = ap (λ (x : Running Order). transcript (ordered calc) x (scenario.moves ++ asks)) begins ∙ alike.lines;
    calls = ap (λ (x : Running Order). calls_of (ordered calc) x (scenario.moves ++ asks)) begins ∙ alike.calls;
    values = ap (λ (x : Running Order). values_of calc asks (after calc scenario.moves x)) begins
        ∙ ap (values_of calc asks) (after_wider calc later n scenario.moves r between moves)
        ∙ values_wider calc later n asks (after calc scenario.moves r) (after_between calc later n scenario.moves r between moves)
        (of_names n asks asks_known);
  }
    where
      later : Later
      later = record { names = more; actions = [] }

      n : ℕ
      n = length basis.names

      r : Running Order
      r = first_of basis

      moves : All (IsOf (up_to n) n 0) scenario.moves
      moves = of_names n scenario.moves moves_known

      between : IsBetween calc later n r
      between = record {
        named = named_first basis.today basis.names basis.made [] has named;
        stands = stands_first (up_to n) n 0 basis.today basis.names basis.made [] refl (All-nil (λ (block : List Command). All (IsOf (up_to n) n 0) block));
      }

      begins : first_of (with_names basis more) ≡ wider_in later r
      begins = ap (running First) (begins_wider later basis.today basis.names basis.made [] has)
          ∙ running_wider later First (start_with basis.today basis.names basis.made [])

      alike : IsAlike (ordered calc) r (wider_in later r) (scenario.moves ++ asks)
      alike = rounds_wider later n 0 (up_to n) (ordered calc) order_below (scenario.moves ++ asks) r between.named between.stands
          (All-append (IsOf (up_to n) n 0) scenario.moves asks moves (of_names n asks asks_known))

pub other_names : OtherNamesChangeNothing
other_names calc basis one other asks scenario has named moves known =
    let first = as_alone calc basis asks scenario has named moves known one in
    let second = as_alone calc basis asks scenario has named moves known other in
    record {
      lines = first.lines ∙ sym second.lines;
      calls = first.calls ∙ sym second.calls;
      values = first.values ∙ sym second.values;
    }
