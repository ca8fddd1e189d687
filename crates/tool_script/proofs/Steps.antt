-- How far commands are done.
use Rattle.std.proofs.Common.{◌≡◌, ℕ, ◌+◌, ◌<◌, ◌≤◌, ℤ, true, false, List, [], ◌∷◌, ◌++◌, length, drop, get_or, Option, Result, Ok, Err, refl, sym, ◌∙◌, ap, subst, All}
use Rattle.std.specs.Prelude.{OnOk, OnErr}
use Rattle.std.proofs.lemmas.List.{append_assoc, append-nil, drop_more, drop_all}
use Rattle.std.proofs.lemmas.List.Elements.{All-nil}
use Rattle.desk_terms.specs.Reading.{Calc}
use Rattle.desk_model.specs.Sound.{IsSound}
use Rattle.desk_model.specs.Unheld.{HoldsNothing}
use Rattle.session_commands.specs.declared.command.Command.{Command}
use Rattle.session_commands.specs.Whole.{IsCommand}
use Rattle.watch_rounds.specs.declared.picker.Order.{Order}
use Rattle.session_model.specs.Afresh.{holds_nothing}
use Rattle.session_model.specs.Course.{Running, round_of}
use Rattle.session_model.specs.Standing.{Standing, IsKnown}
use Rattle.session_model.proofs.Afresh.{round_unheld}
use Rattle.session_rounds.specs.Goes.{Output, Does, Halts, Goes, Stays}
use Rattle.session_rounds.proofs.Going.{goes_start, goes_on, goes_end, goes_halt}
use Rattle.tool_script.specs.Kinds.{asked_name}
use Rattle.tool_script.specs.Scenario.{ordered, money_shown, values_of}
use Rattle.tool_script.specs.Course.{course_of}
use Rattle.tool_script.specs.Going.{IsGoing, Extends}

module _ (calc : Calc) (commands : List Command) (first : Running Order) (start : Output) where
  -- these commands are left, over this session
  pub record Progress (rest : List Command) (r : Running Order) (now : Output) : Type 0 where
    pub goes : Goes Order (course_of calc commands first) (course_of calc rest r) start now
    pub running : r.standing.stopped ≡ false
    pub sound : IsSound calc r.standing.state
    pub names : r.standing.names ≡ first.standing.names
    pub actions : r.standing.actions ≡ first.standing.actions

  pub progress_none : first.standing.stopped ≡ false → IsSound calc first.standing.state → Progress commands first start
  progress_none running sound = record {
    goes = goes_start (course_of calc commands first) start;
    running = running;
    sound = sound;
    names = refl;
    actions = refl;
  }

  -- the next command at a place, or none
  pub progress_next : (i : ℕ) (c : Command) (r : Running Order) (now : Output) → i < length commands → c ≡ get_or commands i c
      → Progress (drop i commands) r now → Progress (c ∷ drop (i + 1) commands) r now
  progress_next i c r now within is p =
      subst (λ (rest : List Command). Progress rest r now)
      (drop_more commands i c within ∙ ap (λ (d : Command). d ∷ drop (i + 1) commands) (sym is)) p

  pub progress_last : (i : ℕ) (r : Running Order) (now : Output) → length commands ≤ i → Progress (drop i commands) r now
      → Progress [] r now
  progress_last i r now past p = subst (λ (rest : List Command). Progress rest r now) (drop_all i commands past) p

  -- one is done
  pub progress_more : (c : Command) (rest : List Command) (r new : Running Order) (now later : Output) → Progress (c ∷ rest) r now
      → Does Order (round_of (ordered calc) r c) new now later → Stays calc r.standing new.standing → new.standing.stopped ≡ false
      → Progress rest new later
  unfolding course_of
  progress_more c rest r new now later p does stays running = record {
    goes = goes_on (course_of calc commands first) (round_of (ordered calc) r c) (course_of calc rest) new start now later
        p.goes does;
    running = running;
    sound = stays.sound;
    names = stays.names ∙ p.names;
    actions = stays.actions ∙ p.actions;
  }

  -- memory runs out in it
  pub progress_halts : (c : Command) (rest : List Command) (r : Running Order) (now later : Output) → Progress (c ∷ rest) r now
      → Halts Order (round_of (ordered calc) r c) now later → Halts Order (course_of calc commands first) start later
  unfolding course_of
  progress_halts c rest r now later p halts =
      goes_halt (course_of calc commands first) (round_of (ordered calc) r c) (course_of calc rest) start now later p.goes halts

  -- all are done
  pub progress_done : (r : Running Order) (now : Output) → Progress [] r now → Does Order (course_of calc commands first) r start now
  unfolding course_of
  progress_done r now p = goes_end (course_of calc commands first) r start now p.goes

  -- a command is one of the session all the way
  pub progress_known : (rest : List Command) (c : Command) (r : Running Order) (now : Output) → Progress rest r now
      → IsKnown first.standing c → IsKnown r.standing c
  progress_known rest c r now p known =
      subst (λ (n : List (List ℕ)). IsCommand (length n) (length r.standing.actions) c) (sym p.names)
      (subst (λ (a : List (List Command)). IsCommand (length first.standing.names) (length a) c) (sym p.actions) known)

-- it goes on after a round that holds nothing back
pub going_more : (calc : Calc) (r new : Running Order) (c : Command) (now later : Output) → holds_nothing c ≡ true → IsGoing calc r
    → Does Order (round_of (ordered calc) r c) new now later → Stays calc r.standing new.standing → new.standing.stopped ≡ false
    → IsGoing calc new
going_more calc r new c now later plain going does stays running = record {
  running = running;
  sound = stays.sound;
  unheld = subst (λ (q : Running Order). HoldsNothing q.standing.state) (sym does.next)
      (round_unheld (ordered calc) r c plain going.unheld
      (subst (λ (actions : List (List Command)). All (λ action. All (λ d. holds_nothing d ≡ true) action) actions)
      (sym going.actions) (All-nil (λ action. All (λ d. holds_nothing d ≡ true) action))));
  actions = stays.actions ∙ going.actions;
}

-- ---- the values of the asks

module _ (calc : Calc) (asks : List Command) (first : Running Order) (start : List (Option ℤ)) where
  pub record Values (rest : List Command) (r : Running Order) (now : List (Option ℤ)) : Type 0 where
    pub shown : List (Option ℤ)
    pub is : now ≡ start ++ shown
    pub whole : values_of calc asks first ≡ shown ++ values_of calc rest r

  pub values_none : Values asks first start
  values_none = record { shown = []; is = sym (append-nil start); whole = refl }

  pub values_next : (i : ℕ) (c : Command) (r : Running Order) (now : List (Option ℤ)) → i < length asks → c ≡ get_or asks i c
      → Values (drop i asks) r now → Values (c ∷ drop (i + 1) asks) r now
  values_next i c r now within is v =
      subst (λ (rest : List Command). Values rest r now)
      (drop_more asks i c within ∙ ap (λ (d : Command). d ∷ drop (i + 1) asks) (sym is)) v

  pub values_more : (c : Command) (rest : List Command) (r new : Running Order) (now later : List (Option ℤ))
      → Values (c ∷ rest) r now → new ≡ (round_of (ordered calc) r c).next
      → later ≡ now ++ money_shown calc r.standing (asked_name c) ∷ [] → Values rest new later
  unfolding values_of
  values_more c rest r new now later v next more =
      let value = money_shown calc r.standing (asked_name c) in
      record {
        shown = v.shown ++ value ∷ [];
        is = more ∙ ap (λ (l : List (Option ℤ)). l ++ value ∷ []) v.is ∙ append_assoc start v.shown (value ∷ []);
        whole = v.whole
            ∙ ap (λ (q : Running Order). v.shown ++ (value ∷ values_of calc rest q)) (sym next)
            ∙ sym (append_assoc v.shown (value ∷ []) (values_of calc rest new));
      }

  pub values_done : (i : ℕ) (r : Running Order) (now : List (Option ℤ)) → length asks ≤ i → Values (drop i asks) r now
      → now ≡ start ++ values_of calc asks first
  unfolding values_of
  values_done i r now past v =
      v.is ∙ ap (λ (l : List (Option ℤ)). start ++ l)
      (sym (v.whole ∙ ap (λ (rest : List Command). v.shown ++ values_of calc rest r) (drop_all i asks past) ∙ append-nil v.shown))

  pub values_kept : (rest : List Command) (r : Running Order) (now : List (Option ℤ)) → Values rest r now → Extends start now
  values_kept rest r now v = record { more = v.shown; whole = v.is }

-- the item at the place of a loop
pub item_of : {X : Type 0} (P : X → Type 0) (xs : List X) (i : ℕ) (x : X) → i < length xs → x ≡ get_or xs i x → All P xs → P x
item_of P xs i x within is all = subst P (sym is) (all i x within)

-- the round of a command is that of the same calc
pub does_of : (calc other : Calc) (r new : Running Order) (c : Command) (now later : Output) → other ≡ calc
    → Does Order (round_of (ordered other) r c) new now later → Does Order (round_of (ordered calc) r c) new now later
does_of calc other r new c now later same does =
    subst (λ (k : Calc). Does Order (round_of (ordered k) r c) new now later) same does

pub halts_of : (calc other : Calc) (r : Running Order) (c : Command) (now later : Output) → other ≡ calc
    → Halts Order (round_of (ordered other) r c) now later → Halts Order (round_of (ordered calc) r c) now later
halts_of calc other r c now later same halts =
    subst (λ (k : Calc). Halts Order (round_of (ordered k) r c) now later) same halts

pub going_of : (calc other : Calc) (r : Running Order) → other ≡ calc → IsGoing calc r → IsGoing other r
going_of calc other r same going = subst (λ (k : Calc). IsGoing k r) (sym same) going

pub shown_of : (calc other : Calc) (p : Standing) (c : Command) (now later : List (Option ℤ)) → other ≡ calc
    → later ≡ now ++ money_shown other p (asked_name c) ∷ [] → later ≡ now ++ money_shown calc p (asked_name c) ∷ []
shown_of calc other p c now later same is =
    subst (λ (k : Calc). later ≡ now ++ money_shown k p (asked_name c) ∷ []) same is

-- where memory ran out, this holds whatever the answer
pub on_err : {A E P : Type 0} (r : Result A E) → P → OnErr r P
on_err (Ok x) p = tt
on_err (Err e) p = p

-- where it was found, too
pub on_ok : {A E P : Type 0} (r : Result A E) → P → OnOk r P
on_ok (Ok x) p = p
on_ok (Err e) p = tt

pub ok_more : {A E P Q : Type 0} (r : Result A E) → (P → Q) → OnOk r P → OnOk r Q
ok_more (Ok x) more p = more p
ok_more (Err e) more p = tt
