-- The moves of a block, and then its asks.
use Rattle.std.proofs.Common.{◌≡◌, ℕ, ℤ, Bool, List, [], ◌++◌, length, Option, sym, ◌∙◌, ap, subst, All}
use Rattle.desk_terms.specs.Reading.{Calc}
use Rattle.session_commands.specs.declared.command.Command.{Command}
use Rattle.session_commands.specs.Whole.{IsCommand}
use Rattle.watch_rounds.specs.declared.picker.Order.{Order}
use Rattle.session_model.specs.Course.{Running, Course}
use Rattle.session_model.specs.Rounds.{transcript, calls_of}
use Rattle.session_model.specs.Standing.{Standing, IsKnown}
use Rattle.market_session.proofs.Started.{starts_known, starts_names}
use Rattle.session_rounds.specs.Goes.{Output, Does, Halts, with_more}
use Rattle.session_rounds.proofs.Going.{does_both, halts_first, halts_second}
use Rattle.tool_script.specs.Scenario.{Basis, ordered, first_of, after, values_of}
use Rattle.tool_script.specs.Course.{course_of}
use Rattle.tool_script.proofs.Courses.{course_lines, course_calls, course_next, course_joined}

module _ (calc : Calc) (moves asks : List Command) (first : Running Order) where
  abbrev whole : Course Order
  whole = course_of calc (moves ++ asks) first

  pub play_does : (middle new : Running Order) (old now later : Output) → Does Order (course_of calc moves first) middle old now
      → Does Order (course_of calc asks middle) new now later
      → later ≡ with_more (transcript (ordered calc) first (moves ++ asks)) (calls_of (ordered calc) first (moves ++ asks)) old
  play_does middle new old now later one two =
      let does = does_both (course_of calc moves first) (course_of calc asks) middle new old now later one two in
      does.out
      ∙ ap (λ (t : Course Order). with_more t.lines t.calls old) (sym (course_joined calc moves asks first))
      ∙ ap (λ (lines : List ℕ). with_more lines whole.calls old) (course_lines calc (moves ++ asks) first)
      ∙ ap (λ (calls : List (ℕ × Bool)). with_more (transcript (ordered calc) first (moves ++ asks)) calls old)
      (course_calls calc (moves ++ asks) first)

  pub play_values : (middle : Running Order) (old now : Output) (before later : List (Option ℤ))
      → Does Order (course_of calc moves first) middle old now → later ≡ before ++ values_of calc asks middle
      → later ≡ before ++ values_of calc asks (after calc moves first)
  play_values middle old now before later one is =
      is ∙ ap (λ (r : Running Order). before ++ values_of calc asks r) (one.next ∙ course_next calc moves first)

  -- the session behind both
  pub play_next : (middle new : Running Order) (old now later : Output) → Does Order (course_of calc moves first) middle old now
      → Does Order (course_of calc asks middle) new now later → new ≡ after calc (moves ++ asks) first
  play_next middle new old now later one two =
      (does_both (course_of calc moves first) (course_of calc asks) middle new old now later one two).next
      ∙ ap (λ (t : Course Order). t.next) (sym (course_joined calc moves asks first))
      ∙ course_next calc (moves ++ asks) first

  pub halts_moving : (old later : Output) → Halts Order (course_of calc moves first) old later → Halts Order whole old later
  halts_moving old later halts =
      subst (λ (t : Course Order). Halts Order t old later) (sym (course_joined calc moves asks first))
      (halts_first (course_of calc moves first) (course_of calc asks) old later halts)

  pub halts_asking : (middle : Running Order) (old now later : Output) → Does Order (course_of calc moves first) middle old now
      → Halts Order (course_of calc asks middle) now later → Halts Order whole old later
  halts_asking middle old now later one halts =
      subst (λ (t : Course Order). Halts Order t old later) (sym (course_joined calc moves asks first))
      (halts_second (course_of calc moves first) (course_of calc asks) middle old now later one halts)

-- a session has the names with which it begins
pub first_named : (basis : Basis) (r : Running Order) → r ≡ first_of basis → r.standing.names ≡ basis.names
first_named basis r is =
    starts_names basis.today basis.names basis.made [] r.standing (ap (λ (q : Running Order). q.standing) is)

-- commands of the names of a market and a script are known to its session, at its beginning and behind its moves
pub first_known : (basis : Basis) (r : Running Order) (commands : List Command) → r ≡ first_of basis
    → All (IsCommand (length basis.names) 0) commands → All (IsKnown r.standing) commands
first_known basis r commands is fit =
    starts_known basis.today basis.names basis.made [] r.standing commands (ap (λ (q : Running Order). q.standing) is) fit

pub known_then : (old new : Standing) (commands : List Command) → new.names ≡ old.names → new.actions ≡ old.actions
    → All (IsKnown old) commands → All (IsKnown new) commands
known_then old new commands names actions known =
    subst (λ (n : List (List ℕ)). All (λ c. IsCommand (length n) (length new.actions) c) commands) (sym names)
    (subst (λ (a : List (List Command)). All (λ c. IsCommand (length old.names) (length a) c) commands) (sym actions) known)
