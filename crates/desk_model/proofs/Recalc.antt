-- A recalculation keeps a state sound, where the object is not late.
use Rattle.std.proofs.Common.{◌≡◌, ◌≢◌, ◌⊎◌, inl, inr, ℕ, ◌<◌, Bool, true, false, List, [], length, Option, Some, None, Result, Ok, Err, refl, sym, ◌∙◌, ap, subst, arith}
use Rattle.std.specs.Prelude.{◌||◌, ◌==◌}
use Rattle.std.proofs.lemmas.List.{get_or-set_same, get_or-set_other, length-set}
use Rattle.std.proofs.lemmas.Bool.{cases_eq, false≢true}
use Rattle.walks.specs.Walk.{Among}
use Rattle.desk_terms.specs.declared.terms.Terms.{Terms}
use Rattle.desk_terms.specs.declared.value.Value.{Value}
use Rattle.desk_terms.specs.declared.value.Input as input
use Rattle.desk_terms.specs.declared.cause.Cause.{Cause}
use Rattle.desk_terms.specs.Reading.{Outcome, Calc}
use Rattle.desk_model.specs.declared.kept.Kept.{Kept}
use Rattle.desk_model.specs.Market.{terms_at}
use Rattle.desk_model.specs.Uses.{uses, needs}
use Rattle.desk_model.specs.Fresh.{inputs_by, reading_over, priced, priced_by}
use Rattle.desk_model.specs.State.{State, kept_at, unpriced, last_of, last_answer, is_frozen, is_source, is_late, seen_outcome, now}
use Rattle.desk_model.specs.Told.{tell}
use Rattle.desk_model.specs.Sound.{has_source, is_ready, IsSoundAt, AreSound, HasNoSourceWhereOff, IsSound, IsAsBefore}
use Rattle.desk_model.specs.Laws.{AreValues}
use Rattle.desk_model.specs.Links.{is_lazy_at, IsValued, IsWhole, IsKinded}
use Rattle.desk_model.specs.Visit.{visit_by, stored}
use Rattle.desk_model.specs.Effect.{sourced, notified_as, notified}
use Rattle.desk_model.specs.Recalc.{inputs_walk, recalced_kept, recalced_bare, recalced}
use Rattle.desk_model.proofs.Stores.{kept_with}
use Rattle.desk_model.proofs.Locality.{Near, needs_near, needs_fall}
use Rattle.desk_model.proofs.Bounds.{ranks_of, same_price}
use Rattle.desk_model.proofs.Shown.{HoldsFit}
use Rattle.desk_model.proofs.Carried.{others_keep, sound_then}
use Rattle.desk_model.proofs.Watchers.{whole_registers}
use Rattle.desk_model.proofs.Tells.{DiffersAt, sources, tells, no_sources, notified_current, notified_last, near_apart, beneath_at, whole_with, whole_notified}
use Rattle.desk_model.proofs.Visits.{WalksOn, walks_on, visit_goes, visit_outcome, walk_refusal, refusal_of}
use Rattle.desk_model.proofs.Asked.{stored_length, ready_then, current_stored, sources_stored, whole_stored}
use Rattle.desk_model.proofs.Wants.{needs_lazy}
use Rattle.desk_model.proofs.Lazy.{inputs_lazy}
use Rattle.desk_model.proofs.Changes.{lazy_within}

-- the state with the inputs stored, and then the object itself
abbrev with_inputs : Calc → State → ℕ → State
with_inputs calc s x = stored s (inputs_walk calc s x).calls

abbrev with_itself : Calc → State → ℕ → State
with_itself calc s x = recalced_bare calc x s (with_inputs calc s x)

recalced_flags : (k : Kept) (r : Outcome)
    → ((recalced_kept k r).source ≡ k.source) × ((recalced_kept k r).frozen ≡ k.frozen)
recalced_flags k (Ok value) = (refl, refl)
recalced_flags k (Err cause) = (refl, refl)

cases_of : (r : Outcome) → ((v : Value) × (r ≡ Ok v)) ⊎ ((c : Cause) × (r ≡ Err c))
cases_of (Ok v) = inl (v, refl)
cases_of (Err c) = inr (c, refl)

abbrev as_outcome : Value → Outcome
as_outcome v = Ok v

some_is : (v w : Value) → Some v ≡ Some w → v ≡ w
some_is v w e = cc

module _ (calc : Calc) (s : State) (x : ℕ) (whole : IsWhole s) (kinds : IsKinded s.market) (lazy : is_lazy_at s.market x ≡ true) (fit : HoldsFit s) (sound : IsSound calc s) (early : is_late s x ≡ false) (values : AreValues s.market (seen_outcome calc s)) (own : (value : Value) → now calc s x ≡ Ok value → IsValued (terms_at s.market x) x value) where
  -- the inputs
  walk_on : WalksOn calc s [] (inputs_walk calc s x) (uses s.market x)
  unfolding inputs_walk
  walk_on = walks_on calc s (visit_by calc s (length s.market.objects)) [] (uses s.market x) (λ y e. absurd (cc))
      (λ y among calls closed. let fall = needs_fall s.market (ranks_of s.market whole.links).0 (ranks_of s.market whole.links).1 x y among in let low = (ranks_of s.market whole.links).2 x in visit_goes calc s whole.links (length s.market.objects) y (omega arith) calls closed)

  inputs_sound : AreSound calc (with_inputs calc s x)
  inputs_sound = current_stored calc s whole (inputs_walk calc s x).calls walk_on.closed fit sound.current

  inputs_whole : IsWhole (with_inputs calc s x)
  inputs_whole = whole_stored calc s whole (inputs_walk calc s x).calls walk_on.closed fit sound.current (λ y has. inputs_lazy calc s (λ o y among. needs_lazy s.market kinds o y among) x y has) values

  -- where it is priced, no input refused
  no_refusal : (value : Value) → now calc s x ≡ Ok value → (inputs_walk calc s x).refusal ≡ None
  unfolding inputs_walk now
  no_refusal value is = walk_refusal (visit_by calc s (length s.market.objects)) (seen_outcome calc s) (λ calls y. visit_outcome calc s whole.links (length s.market.objects) calls y) [] (uses s.market x)
      ∙ priced_ok (terms_at s.market x) (inputs_by (seen_outcome calc s) (uses s.market x)) is
    where
      priced_ok : (t : Option Terms) (r : Result (List input.Input) Cause)
          → priced calc (reading_over s.market x t r) ≡ Ok value → refusal_of r ≡ None
      priced_ok t (Ok inputs) e = refl
      priced_ok None (Err cause) e = absurd (cc)
      priced_ok (Some t) (Err cause) e = absurd (cc)

  within_then : x < length (with_inputs calc s x).kept
  within_then = let e = stored_length s (inputs_walk calc s x).calls in let l = lazy_within s.market x lazy in let w = whole.length in omega arith

  bare_there : (o : ℕ) → o ≢ x → kept_at (with_itself calc s x) o ≡ kept_at (with_inputs calc s x) o
  bare_there o other = get_or-set_other (with_inputs calc s x).kept x o (recalced_kept (kept_at (with_inputs calc s x) x) (now calc s x)) unpriced other

  bare_here : kept_at (with_itself calc s x) x ≡ recalced_kept (kept_at (with_inputs calc s x) x) (now calc s x)
  bare_here = get_or-set_same (with_inputs calc s x).kept x (recalced_kept (kept_at (with_inputs calc s x) x) (now calc s x)) unpriced within_then

  bare_long : x < length (with_itself calc s x).kept
  bare_long = let e = length-set (with_inputs calc s x).kept x (recalced_kept (kept_at (with_inputs calc s x) x) (now calc s x)) in let w = within_then in omega arith

  bare_differs : DiffersAt x (with_inputs calc s x) (with_itself calc s x)
  unfolding is_source is_frozen
  bare_differs = record {
    length = omega arith;
    same = λ o other. record { terms = refl; day = λ is. refl };
    kept = bare_there;
    source = kept_with (with_inputs calc s x) x (recalced_kept (kept_at (with_inputs calc s x) x) (now calc s x)) (λ a b. a.source ≡ b.source) (λ j. refl) (recalced_flags (kept_at (with_inputs calc s x) x) (now calc s x)).0;
    deferring = refl;
    frozen = λ o other. ap (λ (k : Kept). k.frozen) (bare_there o other);
  }

  bare_whole : IsWhole (with_itself calc s x)
  unfolding stored
  bare_whole = whole_with x (recalced_kept (kept_at (with_inputs calc s x) x) (now calc s x)) (with_inputs calc s x) inputs_whole (λ e. lazy) (λ e. lazy) (λ e. lazy) (λ value is. valued_then (now calc s x) refl value is)
    where
      valued_then : (r : Outcome) → now calc s x ≡ r → (value : Value) → (recalced_kept (kept_at (with_inputs calc s x) x) r).last ≡ Some value → IsValued (terms_at s.market x) x value
      valued_then (Ok v) e value is = own value (e ∙ ap (λ (w : Value). as_outcome w) (some_is v value is))
      valued_then (Err c) e value is = inputs_whole.valued x value is

  -- what is beneath x stays as it was with the inputs stored
  stays_beneath : (b : Bool) (y : ℕ) → Near s.market y x
      → kept_at (notified_as b x (with_itself calc s x)) y ≡ kept_at (with_inputs calc s x) y
  unfolding stored
  stays_beneath b y near = beneath_at (with_itself calc s x) x bare_whole.links (whole_registers (with_itself calc s x) bare_whole) b y near
      ∙ bare_there y (near_apart s.market x whole.links y near)

  input_then : (value : Value) → now calc s x ≡ Ok value → (y : ℕ) → Among y (needs s.market x)
      → (is_ready (with_inputs calc s x) y ≡ true) × (last_answer (with_inputs calc s x) y ≡ seen_outcome calc s y)
  input_then value is y among = ready_then calc s whole (inputs_walk calc s x).calls walk_on.closed fit sound.current x y early among (walk_on.idle (no_refusal value is) y among)

  -- the object itself, where it got a value
  self_valued : (b : Bool) (value : Value) → now calc s x ≡ Ok value
      → IsSoundAt calc (notified_as b x (with_itself calc s x)) x
  unfolding now is_frozen stored tell
  self_valued b value is = inr (record {
    value = value;
    last = notified_last x (with_itself calc s x) bare_long b x
        ∙ (ap (λ (k : Kept). k.last) bare_here ∙ ap (λ (r : Outcome). (recalced_kept (kept_at (with_inputs calc s x) x) r).last) is);
    price = price_at b;
    ready = ready_at b;
  })
    where
      price_at : (b : Bool)
          → priced_by calc (notified_as b x (with_itself calc s x)).market (last_answer (notified_as b x (with_itself calc s x))) x ≡ Ok value
      price_at true = same_price calc s.market (last_answer (notified_as true x (with_itself calc s x))) (seen_outcome calc s) x (λ y among. ap (λ (k : Kept). last_of y k.last) (stays_beneath true y (needs_near s.market x y among)) ∙ (input_then value is y among).1)
          ∙ is
      price_at false = same_price calc s.market (last_answer (notified_as false x (with_itself calc s x))) (seen_outcome calc s) x (λ y among. ap (λ (k : Kept). last_of y k.last) (stays_beneath false y (needs_near s.market x y among)) ∙ (input_then value is y among).1)
          ∙ is

      ready_at : (b : Bool) (y : ℕ) → Among y (needs (notified_as b x (with_itself calc s x)).market x)
          → is_ready (notified_as b x (with_itself calc s x)) y ≡ true
      ready_at true y among = ap (λ (k : Kept). k.frozen || k.current) (stays_beneath true y (needs_near s.market x y among))
          ∙ (input_then value is y among).0
      ready_at false y among = ap (λ (k : Kept). k.frozen || k.current) (stays_beneath false y (needs_near s.market x y among))
          ∙ (input_then value is y among).0

  refused : (cause : Cause) → now calc s x ≡ Err cause → (b : Bool)
      → (kept_at (notified_as b x (with_itself calc s x)) x).current ≡ true → ⊥
  refused cause is b current = false≢true (sym (ap (λ (k : Kept). k.current) bare_here ∙ ap (λ (r : Outcome). (recalced_kept (kept_at (with_inputs calc s x) x) r).current) is) ∙ notified_current x (with_itself calc s x) bare_long b x current)

  self_sound : (b : Bool) → (kept_at (notified_as b x (with_itself calc s x)) x).current ≡ true
      → IsSoundAt calc (notified_as b x (with_itself calc s x)) x
  self_sound b current = elim (cases_of (now calc s x)) [
    | inl valued ↦ self_valued b valued.0 valued.1
    | inr none ↦ absurd (refused none.0 none.1 b current)
  ]

  others_as_before : (b : Bool) (o : ℕ) → o ≢ x → (kept_at (notified_as b x (with_itself calc s x)) o).current ≡ true
      → has_source (notified_as b x (with_itself calc s x)) o ≡ false
      → IsAsBefore (with_inputs calc s x) (notified_as b x (with_itself calc s x)) o
  unfolding tell
  others_as_before true = others_keep x (with_inputs calc s x) (sourced x (with_itself calc s x)) inputs_whole.links bare_whole.links (sources x (with_inputs calc s x) (with_itself calc s x) bare_long bare_differs)
  others_as_before false = others_keep x (with_inputs calc s x) (tell (λ y. y == x) (with_itself calc s x)) inputs_whole.links bare_whole.links (tells x (with_inputs calc s x) (with_itself calc s x) inputs_whole bare_whole.links (whole_registers (with_itself calc s x) bare_whole) bare_differs)

  sources_then : (b : Bool) → (with_itself calc s x).deferring ≡ b
      → HasNoSourceWhereOff (notified_as b x (with_itself calc s x))
  sources_then true on off = absurd (false≢true (sym off ∙ on))
  sources_then false on off = no_sources x (with_inputs calc s x) (with_itself calc s x) bare_differs (sources_stored calc s whole (inputs_walk calc s x).calls walk_on.closed fit sound.current sound.sources) off

  sound_as : (b : Bool) → (with_itself calc s x).deferring ≡ b → IsSound calc (notified_as b x (with_itself calc s x))
  sound_as b on = record {
    sources = sources_then b on;
    current = λ o current. elim (cases_eq o x) [
      | inl same ↦ subst (IsSoundAt calc (notified_as b x (with_itself calc s x))) (sym same) (self_sound b (ap (λ (z : ℕ). (kept_at (notified_as b x (with_itself calc s x)) z).current) (sym same) ∙ current))
      | inr other ↦ sound_then calc (with_inputs calc s x) (notified_as b x (with_itself calc s x)) inputs_sound o (others_as_before b o other current)
    ];
  }

  -- A RECALCULATION KEEPS THE STATE SOUND, and its shape
  pub sound_recalced : IsSound calc (recalced calc x s)
  unfolding recalced notified
  sound_recalced = sound_as (with_itself calc s x).deferring refl

  pub whole_recalced : IsWhole (recalced calc x s)
  unfolding recalced notified
  whole_recalced = whole_notified x (with_itself calc s x) bare_whole (with_itself calc s x).deferring
