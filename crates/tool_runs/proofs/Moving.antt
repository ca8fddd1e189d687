-- Moves and asks over two sessions that are alike.
use Rattle.std.proofs.Common.{◌≡◌, ℕ, ℤ, Bool, true, false, List, Result, Ok, Err, Option, Some, None, refl, sym, ◌∙◌, ap, subst, All}
use Rattle.std.proofs.lemmas.List.Elements.{All-nil}
use Rattle.desk_terms.specs.Reading.{Calc}
use Rattle.desk_model.specs.State.{State}
use Rattle.desk_model.specs.Visit.{stored, asked}
use Rattle.session_commands.specs.declared.command.Command.{Command}
use Rattle.session_commands.specs.declared.command.Command.TheVariants as command
use Rattle.session_commands.specs.declared.refusal.Refusal.{Refusal}
use Rattle.session_commands.specs.declared.refusal.Refusal.TheVariants.{Cycle}
use Rattle.watch_rounds.specs.declared.picker.Order.{Order}
use Rattle.session_model.specs.declared.act.Act.{Act}
use Rattle.session_model.specs.declared.act.Act.TheVariants as act
use Rattle.session_model.specs.declared.act.Change.{Change}
use Rattle.session_model.specs.declared.act.Change.TheVariants as change
use Rattle.session_model.specs.declared.act.Growth.{Growth}
use Rattle.session_model.specs.declared.act.Growth.TheVariants as growth
use Rattle.session_model.specs.declared.act.How.TheVariants as how
use Rattle.session_model.specs.declared.place.Place.TheVariants as place
use Rattle.session_model.specs.Afresh.{holds_nothing}
use Rattle.session_model.specs.Change.{changed, grown}
use Rattle.session_model.specs.Course.{Running, all_handed_out, round_of}
use Rattle.session_model.specs.Resolve.{find, with_found, unless, unless_kept, joins, closes, rate_at, engaging, target_of, member, index, engine, resolve}
use Rattle.session_model.specs.Standing.{Standing}
use Rattle.session_model.specs.Turn.{object_names, done_as, effect_of, step, turn}
use Rattle.session_model.proofs.Afresh.{round_unheld}
use Rattle.tool_script.specs.Kinds.{is_move, is_ask}
use Rattle.tool_script.specs.Scenario.{ordered}
use Rattle.tool_script.proofs.Moved.{move_holds, ask_holds}
use Rattle.tool_runs.proofs.Alike.{Alike, IsPlain, AreAlike, turn_actions, round_leaves, quote_same, link_same, engine_same, member_same, fixing_same, today_same}

-- an act that does the same to any two states of one market, and makes no object
record Moves (calc : Calc) (a : Act) : Type 0 where
  pub market : (s t : State) → s.market ≡ t.market → (step calc s a).market ≡ (step calc t a).market
  pub names : (l : List ℕ) → object_names a l ≡ l

abbrev Leads : Calc → Result Act Refusal → Type 0
Leads calc (Ok a) = Moves calc a
Leads calc (Err refusal) = Unit {0}

module _ (calc : Calc) where
  -- each act of a move
  moves_quiet : (x : Change) → ((s t : State) → s.market ≡ t.market → (changed x s).market ≡ (changed x t).market) → Moves calc (act.Quiet x)
  unfolding step
  moves_quiet x same = record { market = same; names = λ l. refl }

  moves_grow : (g : Growth) → ((s t : State) → s.market ≡ t.market → (grown g s).market ≡ (grown g t).market) → Moves calc (act.Grow g)
  unfolding step
  moves_grow g same = record { market = same; names = λ l. refl }

  leads_found : (found : Result ℕ Refusal) (rest : ℕ → Result Act Refusal) → ((x : ℕ) → Leads calc (rest x)) → Leads calc (with_found found rest)
  unfolding with_found
  leads_found (Ok x) rest each = each x
  leads_found (Err refusal) rest each = tt

  leads_unless : (b : Bool) (refusal : Refusal) (a : Act) → Moves calc a → Leads calc (unless b refusal a)
  unfolding unless
  leads_unless true refusal a moves = tt
  leads_unless false refusal a moves = moves

  leads_kept : (rate : Option ℤ) (a : Act) → Moves calc a → Leads calc (unless_kept rate a)
  unfolding unless_kept
  leads_kept (Some rate) a moves = tt
  leads_kept None a moves = moves

  leads_engine : (p : Standing) (x : ℕ) (e : Option ℕ) → Leads calc (engaging p x e)
  unfolding changed
  leads_engine p x None = moves_quiet (change.Engine x None) (λ s t same. engine_same s t same x None)
  leads_engine p x (Some e) =
      leads_found (find engine p e) (λ y. Ok (act.Quiet (change.Engine x (Some y))))
      (λ y. moves_quiet (change.Engine x (Some y)) (λ s t same. engine_same s t same x (Some y)))

  -- what a move resolves to
  leads : (p : Standing) (c : Command) → is_move c ≡ true → Leads calc (resolve p c)
  unfolding resolve changed grown
  leads p (command.Quote name value) is = absurd (cc)
  leads p (command.Sum name a b) is = absurd (cc)
  leads p (command.Difference name a b) is = absurd (cc)
  leads p (command.Handle name is_curve) is = absurd (cc)
  leads p (command.Stock name q) is = absurd (cc)
  leads p (command.Composite name) is = absurd (cc)
  leads p (command.Member k i weight) is =
      leads_found (find place.Composite p k) _ (λ x. leads_found (find member p i) _ (λ y.
      leads_unless (joins weight p.state.market x y) Cycle (act.Grow (growth.Member x y weight))
      (moves_grow (growth.Member x y weight) (λ s t same. member_same s t same x y weight))))
  leads p (command.Set q value) is =
      leads_found (find place.Quote p q) _
      (λ x. moves_quiet (change.Set x (Some value)) (λ s t same. quote_same s t same x (Some value)))
  leads p (command.Unset q) is =
      leads_found (find place.Quote p q) _ (λ x. moves_quiet (change.Set x None) (λ s t same. quote_same s t same x None))
  leads p (command.Link h t) is =
      leads_found (find place.Handle p h) _ (λ x. leads_found (find (target_of p.state.market x) p t) _ (λ y.
      leads_unless (closes p.state.market x y) Cycle (act.Quiet (change.Link x (Some y)))
      (moves_quiet (change.Link x (Some y)) (λ s u same. link_same s u same x (Some y)))))
  leads p (command.Unlink h) is =
      leads_found (find place.Handle p h) _ (λ x. moves_quiet (change.Link x None) (λ s t same. link_same s t same x None))
  leads p (command.Engine i e) is =
      leads_found (find place.Flows p i) _ (λ x. leads_engine p x e)
  leads p (command.Today day) is = moves_quiet (change.Today day) (λ s t same. today_same s t same day)
  leads p (command.Fixing x day rate) is =
      leads_found (find index p x) _ (λ y. leads_kept (rate_at p.state.market y day) (act.Grow (growth.Fixing y day rate))
      (moves_grow (growth.Fixing y day rate) (λ s t same. fixing_same s t same y day rate)))
  leads p (command.Freeze o) is = absurd (cc)
  leads p (command.Thaw o) is = absurd (cc)
  leads p (command.Recalc o) is = absurd (cc)
  leads p (command.Forward o is_on) is = absurd (cc)
  leads p command.Defer is = absurd (cc)
  leads p command.Resume is = absurd (cc)
  leads p (command.Watch w action) is = absurd (cc)
  leads p (command.Register w o) is = absurd (cc)
  leads p (command.Unregister w o) is = absurd (cc)
  leads p (command.Drop o) is = absurd (cc)
  leads p (command.Ask o) is = absurd (cc)
  leads p (command.Df c day) is = absurd (cc)

  same_resolve : (p u : Standing) (c : Command) → is_move c ≡ true → Alike p u → resolve p c ≡ resolve u c
  unfolding resolve find
  same_resolve p u (command.Quote name value) is alike = absurd (cc)
  same_resolve p u (command.Sum name a b) is alike = absurd (cc)
  same_resolve p u (command.Difference name a b) is alike = absurd (cc)
  same_resolve p u (command.Handle name is_curve) is alike = absurd (cc)
  same_resolve p u (command.Stock name q) is alike = absurd (cc)
  same_resolve p u (command.Composite name) is alike = absurd (cc)
  same_resolve p u (command.Member k i weight) is alike = rw (alike.market, alike.named) refl
  same_resolve p u (command.Set q value) is alike = rw (alike.market, alike.named) refl
  same_resolve p u (command.Unset q) is alike = rw (alike.market, alike.named) refl
  same_resolve p u (command.Link h t) is alike = rw (alike.market, alike.named) refl
  same_resolve p u (command.Unlink h) is alike = rw (alike.market, alike.named) refl
  same_resolve p u (command.Engine i e) is alike = engine_by e
    where
      engine_by : (e : Option ℕ) → resolve p (command.Engine i e) ≡ resolve u (command.Engine i e)
      engine_by None = rw (alike.market, alike.named) refl
      engine_by (Some e) = rw (alike.market, alike.named) refl
  same_resolve p u (command.Today day) is alike = refl
  same_resolve p u (command.Fixing x day rate) is alike = rw (alike.market, alike.named) refl
  same_resolve p u (command.Freeze o) is alike = absurd (cc)
  same_resolve p u (command.Thaw o) is alike = absurd (cc)
  same_resolve p u (command.Recalc o) is alike = absurd (cc)
  same_resolve p u (command.Forward o is_on) is alike = absurd (cc)
  same_resolve p u command.Defer is alike = absurd (cc)
  same_resolve p u command.Resume is alike = absurd (cc)
  same_resolve p u (command.Watch w action) is alike = absurd (cc)
  same_resolve p u (command.Register w o) is alike = absurd (cc)
  same_resolve p u (command.Unregister w o) is alike = absurd (cc)
  same_resolve p u (command.Drop o) is alike = absurd (cc)
  same_resolve p u (command.Ask o) is alike = absurd (cc)
  same_resolve p u (command.Df c day) is alike = absurd (cc)

  -- ---- a move over both

  same_done : (p q : Standing) (c : Command) (r : Result Act Refusal) → Leads calc r → Alike p q
      → Alike (done_as calc p c r).next (done_as calc q c r).next
  unfolding effect_of
  same_done p q c (Err refusal) same alike = alike
  same_done p q c (Ok a) same alike = record {
    market = same.market p.state q.state alike.market;
    named = same.names p.of_object ∙ alike.named ∙ sym (same.names q.of_object);
  }

  same_turn : (p q : Standing) (c : Command) → is_move c ≡ true → Alike p q → Alike (turn calc p c).next (turn calc q c).next
  unfolding turn
  same_turn p q c is alike =
      subst (λ (r : Result Act Refusal). Alike (done_as calc p c (resolve p c)).next (done_as calc q c r).next)
      (same_resolve p q c is alike) (same_done p q c (resolve p c) (leads p c is) alike)

  -- an ask leaves the market
  asked_done : (p : Standing) (name : ℕ) (found : Result ℕ Refusal)
      → Alike (done_as calc p (command.Ask name) (with_found found (λ o. Ok (act.Price name o how.Ask)))).next p
  unfolding with_found effect_of step asked stored
  asked_done p name (Ok o) = record { market = refl; named = refl }
  asked_done p name (Err refusal) = record { market = refl; named = refl }

  asked_turn : (p : Standing) (c : Command) → is_ask c ≡ true → Alike (turn calc p c).next p
  unfolding turn resolve
  asked_turn p (command.Quote name value) is = absurd (cc)
  asked_turn p (command.Sum name a b) is = absurd (cc)
  asked_turn p (command.Difference name a b) is = absurd (cc)
  asked_turn p (command.Handle name is_curve) is = absurd (cc)
  asked_turn p (command.Stock name q) is = absurd (cc)
  asked_turn p (command.Composite name) is = absurd (cc)
  asked_turn p (command.Member k i weight) is = absurd (cc)
  asked_turn p (command.Set q value) is = absurd (cc)
  asked_turn p (command.Unset q) is = absurd (cc)
  asked_turn p (command.Link h t) is = absurd (cc)
  asked_turn p (command.Unlink h) is = absurd (cc)
  asked_turn p (command.Engine i e) is = absurd (cc)
  asked_turn p (command.Today day) is = absurd (cc)
  asked_turn p (command.Fixing x day rate) is = absurd (cc)
  asked_turn p (command.Freeze o) is = absurd (cc)
  asked_turn p (command.Thaw o) is = absurd (cc)
  asked_turn p (command.Recalc o) is = absurd (cc)
  asked_turn p (command.Forward o is_on) is = absurd (cc)
  asked_turn p command.Defer is = absurd (cc)
  asked_turn p command.Resume is = absurd (cc)
  asked_turn p (command.Watch w action) is = absurd (cc)
  asked_turn p (command.Register w o) is = absurd (cc)
  asked_turn p (command.Unregister w o) is = absurd (cc)
  asked_turn p (command.Drop o) is = absurd (cc)
  asked_turn p (command.Ask o) is = asked_done p o (find place.Priced p o)
  asked_turn p (command.Df c day) is = absurd (cc)

  -- ---- rounds

  -- a session in which nothing is held back stays one
  plain_next : (r : Running Order) (c : Command) → holds_nothing c ≡ true → IsPlain r.standing
      → IsPlain (round_of (ordered calc) r c).next.standing
  plain_next r c is plain = record {
    unheld = round_unheld (ordered calc) r c is plain.unheld
        (subst (λ (actions : List (List Command)). All (λ action. All (λ d. holds_nothing d ≡ true) action) actions)
        (sym plain.actions) (All-nil (λ action. All (λ d. holds_nothing d ≡ true) action)));
    actions = ap (λ (p : Standing). p.actions) (round_leaves (ordered calc) r c plain.actions)
        ∙ turn_actions calc (all_handed_out r.standing) c ∙ plain.actions;
  }

  -- what both rounds leave
  alike_rounds : (r t : Running Order) (c d : Command) → AreAlike r t
      → Alike (turn calc (all_handed_out r.standing) c).next (turn calc (all_handed_out t.standing) d).next
      → Alike (round_of (ordered calc) r c).next.standing (round_of (ordered calc) t d).next.standing
  alike_rounds r t c d are turns = record {
    market = ap (λ (p : Standing). p.state.market) (round_leaves (ordered calc) r c are.first.actions)
        ∙ turns.market ∙ ap (λ (p : Standing). p.state.market) (sym (round_leaves (ordered calc) t d are.second.actions));
    named = ap (λ (p : Standing). p.of_object) (round_leaves (ordered calc) r c are.first.actions)
        ∙ turns.named ∙ ap (λ (p : Standing). p.of_object) (sym (round_leaves (ordered calc) t d are.second.actions));
  }

  -- a move over both
  pub move_both : (r t : Running Order) (c : Command) → is_move c ≡ true → AreAlike r t
      → AreAlike (round_of (ordered calc) r c).next (round_of (ordered calc) t c).next
  move_both r t c is are = record {
    alike = alike_rounds r t c c are
        (same_turn (all_handed_out r.standing) (all_handed_out t.standing) c is
        (record { market = are.alike.market; named = are.alike.named }));
    first = plain_next r c (move_holds c is) are.first;
    second = plain_next t c (move_holds c is) are.second;
  }

  -- an ask over the first alone
  pub ask_first : (r t : Running Order) (c : Command) → is_ask c ≡ true → AreAlike r t → AreAlike (round_of (ordered calc) r c).next t
  ask_first r t c is are =
      let turns = asked_turn (all_handed_out r.standing) c is in
      record {
        alike = record {
          market = ap (λ (p : Standing). p.state.market) (round_leaves (ordered calc) r c are.first.actions)
              ∙ turns.market ∙ are.alike.market;
          named = ap (λ (p : Standing). p.of_object) (round_leaves (ordered calc) r c are.first.actions)
              ∙ turns.named ∙ are.alike.named;
        };
        first = plain_next r c (ask_holds c is) are.first;
        second = are.second;
      }

  -- an ask over both
  pub ask_both : (r t : Running Order) (c : Command) → is_ask c ≡ true → AreAlike r t
      → AreAlike (round_of (ordered calc) r c).next (round_of (ordered calc) t c).next
  ask_both r t c is are = turned (ask_first t (round_of (ordered calc) r c).next c is (turned (ask_first r t c is are)))
    where
      turned : {r t : Running Order} → AreAlike r t → AreAlike t r
      turned are = record {
        alike = record { market = sym are.alike.market; named = sym are.alike.named };
        first = are.second;
        second = are.first;
      }
