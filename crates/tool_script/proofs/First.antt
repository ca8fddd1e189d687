-- The session of a script of blocks before its first move.
use Rattle.std.proofs.Common.{◌≡◌, ℕ, List, [], length, sym, ◌∙◌, ap, subst, All}
use Rattle.std.proofs.lemmas.List.Elements.{All-nil}
use Rattle.desk_terms.specs.declared.terms.Terms.{Terms}
use Rattle.session_commands.specs.declared.command.Command.{Command}
use Rattle.session_commands.specs.Whole.{IsCommand}
use Rattle.market_file.specs.Standing.{IsReady}
use Rattle.desk_terms.specs.Reading.{Calc}
use Rattle.desk_model.specs.Sound.{IsSound}
use Rattle.desk_model.specs.Unheld.{HoldsNothing}
use Rattle.market_file.specs.declared.read.Market as read
use Rattle.session_model.specs.Course.{Running, running}
use Rattle.session_model.specs.Standing.{start_with}
use Rattle.session_model.proofs.Afresh.{begins_unheld}
use Rattle.market_session.proofs.Started.{starts_running, starts_actions}
use Rattle.watch_rounds.specs.declared.picker.Order.{Order}
use Rattle.watch_rounds.specs.declared.picker.Order.TheVariants.{First}
use Rattle.tool_script.specs.Scenario.{Basis, first_of}
use Rattle.tool_script.specs.Basis.{basis_in}
use Rattle.tool_script.specs.Going.{IsGoing}

-- the session goes on, and nothing in it is held back
pub first_going : (basis : Basis) (r : Running Order) → r ≡ first_of basis → ((calc : Calc) → IsSound calc r.standing.state)
    → (calc : Calc) → IsGoing calc r
first_going basis r is sound calc = record {
  running = starts_running basis.today basis.names basis.made [] r.standing (ap (λ (q : Running Order). q.standing) is);
  sound = sound calc;
  unheld = subst (λ (q : Running Order). HoldsNothing q.standing.state) (sym is)
      (begins_unheld basis.today basis.names basis.made []);
  actions = starts_actions basis.today basis.names basis.made [] r.standing (ap (λ (q : Running Order). q.standing) is);
}

-- it begins so
pub begins_is : (market : read.Market) (names own : List (List ℕ)) (made : List (ℕ × Terms)) (actions : List (List Command))
    → own ≡ names → made ≡ market.made.items → actions ≡ []
    → running First (start_with market.today own made actions) ≡ first_of (basis_in market names)
begins_is market names own made actions named same none =
    ap (λ (n : List (List ℕ)). running First (start_with market.today n made actions)) named
    ∙ ap (λ (m : List (ℕ × Terms)). running First (start_with market.today names m actions)) same
    ∙ ap (λ (a : List (List Command)). running First (start_with market.today names market.made.items a)) none

-- its objects can be made
pub ready_is : (names own : List (List ℕ)) (made all : List (ℕ × Terms)) → own ≡ names → made ≡ all → IsReady names all
    → IsReady own made
ready_is names own made all named same ready =
    subst (λ (n : List (List ℕ)). IsReady n made) (sym named) (subst (λ (m : List (ℕ × Terms)). IsReady names m) (sym same) ready)

-- and it has no action
pub none_act : (names : ℕ) (actions : List (List Command)) → actions ≡ []
    → All (λ block. All (IsCommand names (length actions)) block) actions
none_act names actions none =
    subst (λ (a : List (List Command)). All (λ block. All (IsCommand names (length a)) block) a) (sym none)
    (All-nil (λ block. All (IsCommand names 0) block))
