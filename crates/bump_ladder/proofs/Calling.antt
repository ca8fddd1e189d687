-- What the bench was called for, and what is written of it.
use Rattle.std.proofs.Common.{◌≡◌, ℕ, Bool, List, [], Option, Result, Ok, Err, ℤ, codes, sym, ◌∙◌, ap, subst}
use Rattle.desk_terms.specs.declared.kind.Wanted.TheVariants.{Member}
use Rattle.desk_terms.specs.declared.cause.Cause.{Cause}
use Rattle.desk_terms.specs.Reading.{Calc}
use Rattle.desk_model.specs.State.{State}
use Rattle.bump_model.specs.Asking.{Made, IsLadder, IsRefused, ladder_asking}
use Rattle.bump_model.specs.Sides.{rungs_of}
use Rattle.bump_model.specs.declared.ladder.Ladder.{Ladder}
use Rattle.bump_model.specs.declared.ladder.Rung.{Rung}
use Rattle.bump_model.specs.declared.ladder.Bump.{Bump}
use Rattle.market_desk.specs.declared.named.Unnamed.{Unnamed}
use Rattle.market_desk.specs.Standing.{Standing, object_named, unnamed_line}
use Rattle.bump_ladder.specs.Report.{ladder_lines, refused_lines}
use Rattle.bump_ladder.specs.declared.TheConstants.{BUMP}
use Rattle.bump_ladder.specs.Lines.{bumps_in, instrument_text, instrument_calls, text_by, text_for, calls_for, bump_text, bump_calls}

abbrev Log : Type 0
Log = Option (List (ℕ × Bool))

-- whichever way the bumps are given
pub made_over : (calc : Calc) (o : ℕ) (s : State) (bumps others : List Bump) (count now : ℕ) (log log_now : Log)
    → bumps ≡ others → Made (ladder_asking calc BUMP o bumps s).calls count now log log_now
    → Made (ladder_asking calc BUMP o others s).calls count now log log_now
made_over calc o s bumps others count now log log_now same made =
    subst (λ (l : List Bump). Made (ladder_asking calc BUMP o l s).calls count now log log_now) same made

module _ (calc : Calc) (p : Standing) (o : ℕ) where
  -- the lines of a ladder are those of the instrument
  pub ladder_text : (answer : Ladder) → IsLadder calc BUMP o (bumps_in p.state.market) p.state answer
      → ladder_lines p.names p.of_object o answer.base answer.rungs answer.runs ≡ instrument_text calc p o
  ladder_text answer is =
      ap (λ (rungs : List Rung). ladder_lines p.names p.of_object o answer.base rungs answer.runs) is.rungs
      ∙ ap (λ (runs : ℕ). ladder_lines p.names p.of_object o answer.base (rungs_of calc BUMP p.state.market o answer.base (bumps_in p.state.market)) runs) is.runs
      ∙ sym (ap (λ (r : Result ℤ Cause). text_by calc p o r) is.base)

  -- and so are those of a cause
  pub refused_text : (cause : Cause) (runs : ℕ) → IsRefused calc BUMP o (bumps_in p.state.market) p.state cause runs
      → refused_lines p.names p.of_object o cause runs ≡ instrument_text calc p o
  refused_text cause runs is =
      ap (λ (n : ℕ). refused_lines p.names p.of_object o cause n) is.runs
      ∙ sym (ap (λ (r : Result ℤ Cause). text_by calc p o r) is.base)

-- ---- a name

module _ (calc : Calc) (p : Standing) (name : List ℕ) where
  pub text_named : (o : ℕ) → Ok o ≡ object_named Member p.state.market p.names name
      → bump_text calc p name ≡ instrument_text calc p o
  unfolding bump_text
  text_named o is = ap (λ (r : Result ℕ Unnamed). text_for calc p name r) (sym is)

  pub text_unnamed : (why : Unnamed) → Err why ≡ object_named Member p.state.market p.names name
      → bump_text calc p name ≡ unnamed_line (codes "bump") why name
  unfolding bump_text
  text_unnamed why is = ap (λ (r : Result ℕ Unnamed). text_for calc p name r) (sym is)

  pub calls_named : (o : ℕ) → Ok o ≡ object_named Member p.state.market p.names name
      → bump_calls calc p name ≡ instrument_calls calc p o
  unfolding bump_calls
  calls_named o is = ap (λ (r : Result ℕ Unnamed). calls_for calc p r) (sym is)

  pub calls_unnamed : (why : Unnamed) → Err why ≡ object_named Member p.state.market p.names name → bump_calls calc p name ≡ []
  unfolding bump_calls
  calls_unnamed why is = ap (λ (r : Result ℕ Unnamed). calls_for calc p r) (sym is)
