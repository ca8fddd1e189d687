-- How far the commands of a script are done.
use Rattle.std.proofs.Common.{◌≡◌, ℕ, ◌+◌, ◌<◌, ◌≤◌, true, false, true≢false, List, ◌∷◌, ◌++◌, length, drop, get_or, refl, sym, ◌∙◌, ap, subst, All}
use Rattle.std.proofs.lemmas.List.{append_assoc, append-nil, drop_more, drop_all}
use Rattle.desk_bench.specs.Pricing.{desk_calc}
use Rattle.live_model.specs.Live.{Live}
use Rattle.live_model.specs.Log.{done}
use Rattle.pricing_session.specs.declared.fault.StepFault.{StepFault}
use Rattle.pricing_session.specs.declared.fault.StepFault.TheVariants as step
use Rattle.pricing_session.specs.Taking.{Misses}
use Rattle.session_commands.specs.declared.command.Command.{Command}
use Rattle.session_commands.specs.Whole.{IsCommand}
use Rattle.session_model.specs.Course.{Running, round_of}
use Rattle.session_model.specs.Rounds.{rounds, lines_of, transcript}
use Rattle.session_model.specs.Standing.{IsKnown}
use Rattle.session_rounds.specs.Goes.{Output, Does, Stays}
use Rattle.watch_rounds.specs.declared.picker.Order.{Order}
use Rattle.desk_c.specs.Calls.{ordered}

module _ (commands : List Command) (first : Live Order) (start : List ℕ) where
  -- these commands are left, over this session
  pub record Progress (rest : List Command) (now : Live Order) (text : List ℕ) : Type 0 where
    pub same : now ≡ record first { running = now.running }
    pub next : done ordered first.running commands ≡ done ordered now.running rest
    pub lines : start ++ transcript ordered first.running commands ≡ text ++ transcript ordered now.running rest
    pub running : now.running.standing.stopped ≡ false
    pub names : now.running.standing.names ≡ first.running.standing.names
    pub actions : now.running.standing.actions ≡ first.running.standing.actions

  pub progress_none : first.running.standing.stopped ≡ false → Progress commands first start
  progress_none running = record { same = refl; next = refl; lines = refl; running = running; names = refl; actions = refl }

  -- the command at a place
  pub progress_next : (i : ℕ) (c : Command) (now : Live Order) (text : List ℕ) → i < length commands → c ≡ get_or commands i c
      → Progress (drop i commands) now text → Progress (c ∷ drop (i + 1) commands) now text
  progress_next i c now text within is p = subst (λ (rest : List Command). Progress rest now text)
      (drop_more commands i c within ∙ ap (λ (d : Command). d ∷ drop (i + 1) commands) (sym is)) p

  -- it is done
  pub progress_more : (c : Command) (rest : List Command) (now new : Live Order) (out later : Output) → Progress (c ∷ rest) now out.lines
      → Does Order (round_of ordered now.running c) new.running out later → new ≡ record now { running = new.running }
      → Stays desk_calc now.running.standing new.running.standing → new.running.standing.stopped ≡ false → Progress rest new later.lines
  unfolding done rounds lines_of
  progress_more c rest now new out later p does kept stays running =
      let round = round_of ordered now.running c in
      record {
        same = kept ∙ ap (λ (s : Live Order). record s { running = new.running }) p.same;
        next = p.next ∙ ap (λ (r : Running Order). done ordered r rest) (sym does.next);
        lines = p.lines
            ∙ ap (λ (r : Running Order). out.lines ++ (round.lines ++ transcript ordered r rest)) (sym does.next)
            ∙ sym (append_assoc out.lines round.lines (transcript ordered new.running rest))
            ∙ ap (λ (o : Output). o.lines ++ transcript ordered new.running rest) (sym does.out);
        running = running;
        names = stays.names ∙ p.names;
        actions = stays.actions ∙ p.actions;
      }

  -- all are done
  pub progress_done : (i : ℕ) (now : Live Order) (text : List ℕ) → length commands ≤ i → Progress (drop i commands) now text
      → now ≡ record first { running = done ordered first.running commands }
  unfolding done
  progress_done i now text past p =
      let none = subst (λ (rest : List Command). Progress rest now text) (drop_all i commands past) p in
      none.same ∙ ap (λ (r : Running Order). record first { running = r }) (sym none.next)

  pub progress_text : (i : ℕ) (now : Live Order) (text : List ℕ) → length commands ≤ i → Progress (drop i commands) now text
      → text ≡ start ++ transcript ordered first.running commands
  unfolding rounds lines_of
  progress_text i now text past p =
      let none = subst (λ (rest : List Command). Progress rest now text) (drop_all i commands past) p in
      sym (none.lines ∙ append-nil text)

  -- a command is one of the session all the way, so that it is not missed
  pub progress_fails : (rest : List Command) (c : Command) (now : Live Order) (text : List ℕ) → Progress rest now text
      → IsKnown first.running.standing c → (fault : StepFault) → (fault ≡ step.Stopped → now.running.standing.stopped ≡ true)
      → (fault ≡ step.Unknown → Misses now.running.standing c) → fault ≡ step.NoMemory
  progress_fails rest c now text p known step.NoMemory stopped unknown = refl
  progress_fails rest c now text p known step.Stopped stopped unknown =
      absurd (true≢false (sym (stopped refl) ∙ p.running))
  progress_fails rest c now text p known step.Unknown stopped unknown =
      absurd ((unknown refl).1
      (subst (λ (n : List (List ℕ)). IsCommand (length n) (length now.running.standing.actions) c) (sym p.names)
      (subst (λ (a : List (List Command)). IsCommand (length first.running.standing.names) (length a) c) (sym p.actions) known)))

-- the item at the place of a loop
pub item_of : {X : Type 0} (P : X → Type 0) (xs : List X) (i : ℕ) (x : X) → i < length xs → x ≡ get_or xs i x → All P xs → P x
item_of P xs i x within is all = subst P (sym is) (all i x within)
