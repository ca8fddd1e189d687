-- An ask and a discount factor write the lines of their turns.
use Rattle.std.proofs.Common.{◌≡◌, ◌≤◌, ◌∙◌, ℕ, ℤ, List, Option, None, Result, Ok, Err, refl, sym, ap, subst, arith, length}
use Rattle.std.proofs.lemmas.List.{take_all}
use Rattle.desk_terms.specs.declared.asked.Asked.{Asked}
use Rattle.desk_terms.specs.declared.asked.Mark.{Mark}
use Rattle.desk_terms.specs.declared.value.Value.{Value}
use Rattle.desk_terms.specs.Asked.{Shows}
use Rattle.desk_terms.specs.Reading.{Outcome, Calc}
use Rattle.desk_model.specs.Visit.{asked, stored}
use Rattle.price_report.specs.Line.{asked_line, df_line, refusal_line}
use Rattle.pricing_session.specs.Asking.{IsAsked, IsCutShort}
use Rattle.session_commands.specs.declared.command.Command.TheVariants.{Ask, Df}
use Rattle.session_commands.specs.declared.refusal.Refusal.{Refusal}
use Rattle.session_commands.specs.Parts.{command_word}
use Rattle.session_core.specs.Values.{value_of}
use Rattle.session_model.specs.declared.act.Act.TheVariants as act
use Rattle.session_model.specs.declared.act.How.TheVariants as how
use Rattle.session_model.specs.declared.place.Place.TheVariants.{Priced}
use Rattle.session_model.specs.Pricing.{asking, discount_in}
use Rattle.session_model.specs.Resolve.{find, with_found, curve, resolve}
use Rattle.session_model.specs.Standing.{Standing}
use Rattle.session_model.specs.Turn.{effect_of, done_as, turn}

module _ (calc : Calc) (name : ℕ) (p : Standing) where
  -- the lines where the name is found, or refused
  ask_lines : (r : Result ℕ Refusal) → find Priced p name ≡ r
      → (turn calc p (Ask name)).lines ≡ (done_as calc p (Ask name) (with_found r (λ x. Ok (act.Price name x how.Ask)))).lines
  unfolding turn resolve
  ask_lines r found = ap (λ (f : Result ℕ Refusal). (done_as calc p (Ask name) (with_found f (λ x. Ok (act.Price name x how.Ask)))).lines) found

  df_lines : (day : ℤ) (r : Result ℕ Refusal) → find curve p name ≡ r → (turn calc p (Df name day)).lines
      ≡ (done_as calc p (Df name day) (with_found r (λ x. Ok (act.Price name x (how.Df day))))).lines
  unfolding turn resolve
  df_lines day r found =
      ap (λ (f : Result ℕ Refusal). (done_as calc p (Df name day) (with_found f (λ x. Ok (act.Price name x (how.Df day))))).lines) found

  -- the line of one that is refused
  pub refused_line : (why : Refusal) → find Priced p name ≡ Err why
      → refusal_line p.names p.of_object (command_word (Ask name)) why ≡ (turn calc p (Ask name)).lines
  unfolding with_found
  refused_line why fails = sym (ask_lines (Err why) fails)

  pub df_refused_line : (day : ℤ) (why : Refusal) → find curve p name ≡ Err why
      → refusal_line p.names p.of_object (command_word (Df name day)) why ≡ (turn calc p (Df name day)).lines
  unfolding with_found
  df_refused_line day why fails = sym (df_lines day (Err why) fails)

  module _ (new : Standing) (answer : Asked) (count_old count_new : ℕ) (was : IsAsked calc name p new answer count_old count_new None None) where
    abbrev outcome : Outcome
    outcome = (asking calc was.object p.state).outcome

    -- what it shows
    pub shown : Shows answer.cause (value_of new name) outcome
    shown = subst (λ (v : Option Value). Shows answer.cause v outcome) (sym was.value) was.prices.shown

    -- the line of one that is answered
    pub answered_line : asked_line new.names new.of_object name outcome answer.mark answer.runs ≡ (turn calc p (Ask name)).lines
    unfolding with_found effect_of
    answered_line =
        ap (λ (s : Standing). asked_line s.names s.of_object name outcome answer.mark answer.runs) was.prices.next
        ∙ ap (λ (m : Mark). asked_line p.names p.of_object name outcome m answer.runs) was.prices.mark
        ∙ ap (λ (n : ℕ). asked_line p.names p.of_object name outcome (asking calc was.object p.state).mark n) was.prices.number
        ∙ sym (ask_lines (Ok was.object) was.found)

    pub df_answered_line : (day : ℤ) → find curve p name ≡ Ok was.object
        → df_line new.names new.of_object name day (discount_in was.object day outcome) answer.mark answer.runs
        ≡ (turn calc p (Df name day)).lines
    unfolding with_found effect_of
    df_answered_line day found =
        ap (λ (s : Standing). df_line s.names s.of_object name day (discount_in was.object day outcome) answer.mark answer.runs) was.prices.next
        ∙ ap (λ (m : Mark). df_line p.names p.of_object name day (discount_in was.object day outcome) m answer.runs) was.prices.mark
        ∙ ap (λ (n : ℕ). df_line p.names p.of_object name day (discount_in was.object day outcome) (asking calc was.object p.state).mark n)
        was.prices.number
        ∙ sym (df_lines day (Ok was.object) found)

    -- all of it was computed where its line found no memory
    pub answered_cut : IsCutShort calc name p new count_old count_new None None
    unfolding asked
    answered_cut = let w = asking calc was.object p.state in let all : length w.calls ≤ length w.calls = omega arith in record {
      object = was.object;
      found = was.found;
      stops = record {
        begun = length w.calls;
        ended = length w.calls;
        most = all;
        last = (all, omega arith);
        count = was.prices.count;
        log = refl;
        next = was.prices.next
            ∙ ap (λ (calls : List (ℕ × Outcome)). record p { state = stored p.state calls }) (sym (take_all (length w.calls) w.calls all));
      };
    }
