-- After an ask the state is sound: each object that got a value is current and priced over last values.
use Rattle.std.proofs.Common.{suc, ◌≡◌, inl, inr, ℕ, ◌+◌, ◌<◌, true, false, List, length, Option, Some, None, Result, Ok, Err, refl, sym, ◌∙◌, ap, arith}
use Rattle.std.specs.Prelude.{is_some}
use Rattle.std.proofs.lemmas.List.{get_or_past}
use Rattle.std.proofs.lemmas.Bool.{cases_Bool, cases_lt, or_cases, or_left, or_right, false≢true}
use Rattle.walks.specs.Walk.{Among}
use Rattle.walks.proofs.Ranks.{below_same}
use Rattle.desk_terms.specs.declared.terms.Terms.{Terms}
use Rattle.desk_terms.specs.declared.value.Value.{Value}
use Rattle.desk_terms.specs.declared.value.Input as input
use Rattle.desk_terms.specs.declared.cause.Cause.{Cause}
use Rattle.desk_terms.specs.Reading.{Outcome, Calc}
use Rattle.desk_model.specs.declared.kept.Kept.{Kept}
use Rattle.desk_model.specs.Market.{Market, terms_in, edges, is_forwarder, terms_at}
use Rattle.desk_model.specs.declared.slot.Slot.TheVariants.{Free}
use Rattle.desk_model.specs.Uses.{uses, needs}
use Rattle.desk_model.specs.Fresh.{inputs_by, reading_over, priced}
use Rattle.desk_model.specs.State.{State, kept_at, unpriced, last_of, last_answer, is_frozen, is_source, is_late, held_outcome, seen_outcome, now}
use Rattle.desk_model.specs.Sound.{has_source, is_ready, IsPriced, AreSound, HasNoSourceWhereOff, IsSound}
use Rattle.desk_model.specs.Links.{is_lazy_at, IsWhole}
use Rattle.desk_model.specs.Laws.{AreValues}
use Rattle.desk_model.specs.Visit.{value_among, has_value, is_idle, runs, with_value, stored, asked}
use Rattle.desk_model.proofs.Stores.{each_at, each_past, length-each}
use Rattle.desk_model.proofs.Bounds.{same_price}
use Rattle.desk_model.proofs.Shown.{HoldsFit, early_of, shows_last, seen_held, seen_free, or_false}
use Rattle.desk_model.proofs.Visits.{IsClosed, none_of, runs_closed, runs_idle}
use Rattle.desk_model.proofs.Locality.{needs_near}

module _ (s : State) (calls : List (ℕ × Outcome)) where
  -- what is stored of an object
  stored_within : (o : ℕ) → o < length s.kept
      → kept_at (stored s calls) o ≡ with_value (kept_at s o) (value_among calls o)
  unfolding stored
  stored_within o within = each_at (λ o kept. with_value kept (value_among calls o)) 0 o s.kept within ∙ ap (λ (n : ℕ). with_value (kept_at s o) (value_among calls n)) (let e : 0 + o ≡ o = omega arith in e)

  -- an object that got no value stays as it was
  pub stored_not : (o : ℕ) → has_value calls o ≡ false → kept_at (stored s calls) o ≡ kept_at s o
  unfolding stored
  stored_not o none = elim (cases_lt o (length s.kept)) [
    | inl within ↦ stored_within o within ∙ ap (with_value (kept_at s o)) (none_of (value_among calls o) none)
    | inr past ↦ each_past (λ o kept. with_value kept (value_among calls o)) 0 o s.kept past ∙ sym (get_or_past s.kept o unpriced past)
  ]

  -- one that got a value is current with it
  pub stored_has : (o : ℕ) (value : Value) → o < length s.kept → value_among calls o ≡ Some value
      → kept_at (stored s calls) o ≡ record (kept_at s o) { current = true; last = Some value }
  stored_has o value within is = stored_within o within ∙ ap (with_value (kept_at s o)) is

  pub stored_length : length (stored s calls).kept ≡ length s.kept
  unfolding stored
  stored_length = length-each (λ o kept. with_value kept (value_among calls o)) 0 s.kept

-- an object with a price has terms
priced_there : (calc : Calc) (m : Market) (o : ℕ) (terms : Option Terms) (r : Result (List input.Input) Cause) (value : Value)
    → priced calc (reading_over m o terms r) ≡ Ok value → terms ≡ None → ⊥
priced_there calc m o None (Ok inputs) value e is = cc
priced_there calc m o None (Err cause) value e is = cc
priced_there calc m o (Some t) r value e is = cc

-- an idle object that is not held and got no value is current
pub idle_current : (s : State) (calls : List (ℕ × Outcome)) (y : ℕ) → is_idle s calls y ≡ true → held_outcome s y ≡ None
    → has_value calls y ≡ false → (kept_at s y).current ≡ true
idle_current s calls y idle free none = elim (or_cases (kept_at s y).current (has_value calls y) (or_false (is_some (held_outcome s y)) _ idle (ap is_some free))) [
  | inl current ↦ current
  | inr has ↦ absurd (false≢true (sym none ∙ has))
]

abbrev as_outcome : Value → Outcome
as_outcome v = Ok v

some_is : (v w : Value) → Some v ≡ Some w → v ≡ w
some_is v w e = cc

module _ (calc : Calc) (s : State) (whole : IsWhole s) (calls : List (ℕ × Outcome)) (closed : IsClosed calc s calls) where
  -- an object that got a value is among the objects
  pub got_within : (o : ℕ) → has_value calls o ≡ true → o < length s.kept
  unfolding now
  got_within o has = elim (cases_lt o (length s.market.objects)) [
    | inl within ↦ let e = whole.length in omega arith
    | inr past ↦ let r = closed o has in absurd (priced_there calc s.market o (terms_at s.market o) (inputs_by (seen_outcome calc s) (uses s.market o)) r.value (sym (seen_free calc s whole.links o r.free) ∙ r.seen) (ap terms_in (get_or_past s.market.objects o Free past)))
  ]

  pub got : (o : ℕ) (has : has_value calls o ≡ true)
      → kept_at (stored s calls) o ≡ record (kept_at s o) { current = true; last = Some (closed o has).value }
  got o has = stored_has s calls o (closed o has).value (got_within o has) (closed o has).among

  same_flags : (o : ℕ)
      → ((kept_at (stored s calls) o).frozen ≡ (kept_at s o).frozen) × ((kept_at (stored s calls) o).source ≡ (kept_at s o).source)
  same_flags o = elim (cases_Bool (has_value calls o)) [
    | inl has ↦ (ap (λ (k : Kept). k.frozen) (got o has), ap (λ (k : Kept). k.source) (got o has))
    | inr none ↦ (ap (λ (k : Kept). k.frozen) (stored_not s calls o none), ap (λ (k : Kept). k.source) (stored_not s calls o none))
  ]

  same_frozen : (o : ℕ) → is_frozen (stored s calls) o ≡ is_frozen s o
  unfolding is_frozen
  same_frozen o = (same_flags o).0

  same_source : (o : ℕ) → has_source (stored s calls) o ≡ has_source s o
  unfolding is_source has_source stored
  same_source o = below_same (edges s.market) (is_source (stored s calls)) (is_source s) (is_forwarder s.market) (is_forwarder s.market) (λ x. (same_flags x).1) (λ x. refl) (suc (length s.market.objects)) o

  module _ (fit : HoldsFit s) (sound : AreSound calc s) where
    -- what is idle, beneath an object that is not held, is ready then, and has what is seen as its last value
    pub ready_then : (o y : ℕ) → is_late s o ≡ false → Among y (needs s.market o) → is_idle s calls y ≡ true
        → (is_ready (stored s calls) y ≡ true) × (last_answer (stored s calls) y ≡ seen_outcome calc s y)
    ready_then o y early among idle = elim (cases_Bool (has_value calls y)) [
      | inl has ↦ (or_right _ _ (ap (λ (k : Kept). k.current) (got y has)), ap (λ (k : Kept). last_of y k.last) (got y has) ∙ sym (closed y has).seen)
      | inr none ↦
          let stays = stored_not s calls y none in
          let last : last_answer (stored s calls) y ≡ last_answer s y = ap (λ (k : Kept). last_of y k.last) stays in
          elim (cases_Bool (is_frozen s y)) [
            | inl frozen ↦ (or_left _ _ (same_frozen y ∙ frozen), last ∙ sym (seen_held calc s whole.links y (last_answer s y) (fit.frozen y frozen)))
            | inr thawed ↦
                let not_held = fit.above o y early (needs_near s.market o y among) thawed in
                let current = idle_current s calls y idle not_held none in
                (or_right _ _ (ap (λ (k : Kept). k.current) stays ∙ current), last ∙ sym (shows_last calc s whole.links fit sound y current not_held))
          ]
    ]

    -- what was ready got no value
    ready_got_none : (y : ℕ) → is_ready s y ≡ true → has_value calls y ≡ false
    ready_got_none y ready = elim (cases_Bool (has_value calls y)) [
      | inr none ↦ none
      | inl has ↦
          let r = closed y has in
          elim (or_cases (is_frozen s y) _ ready) [
            | inl frozen ↦ absurd (none_some (sym r.free ∙ fit.frozen y frozen))
            | inr current ↦ absurd (false≢true (sym r.stale ∙ current))
          ]
    ]
      where
        none_some : {A : Type 0} {a : A} → None ≡ Some a → ⊥
        none_some e = cc

    stored_market : (stored s calls).market ≡ s.market
    unfolding stored
    stored_market = refl

    new_priced : (o : ℕ) → has_value calls o ≡ true → IsPriced calc (stored s calls) o
    unfolding stored now
    new_priced o has =
        let r = closed o has in
        record {
          value = r.value;
          last = ap (λ (k : Kept). k.last) (got o has);
          price = same_price calc s.market (last_answer (stored s calls)) (seen_outcome calc s) o (λ y among. (ready_then o y (early_of s o r.free) among (r.needs y among)).1)
              ∙ (sym (seen_free calc s whole.links o r.free) ∙ r.seen);
          ready = λ y among. (ready_then o y (early_of s o r.free) among (r.needs y among)).0;
        }

    old_priced : (o : ℕ) → kept_at (stored s calls) o ≡ kept_at s o → IsPriced calc s o
        → IsPriced calc (stored s calls) o
    unfolding stored
    old_priced o stays p = record {
      value = p.value;
      last = ap (λ (k : Kept). k.last) stays ∙ p.last;
      price = same_price calc s.market (last_answer (stored s calls)) (last_answer s) o (λ y among. ap (λ (k : Kept). last_of y k.last) (stored_not s calls y (ready_got_none y (p.ready y among))))
          ∙ p.price;
      ready = λ y among. ready_still y (p.ready y among);
    }
      where
        ready_still : (y : ℕ) → is_ready s y ≡ true → is_ready (stored s calls) y ≡ true
        ready_still y ready = elim (or_cases (is_frozen s y) _ ready) [
          | inl frozen ↦ or_left _ _ (same_frozen y ∙ frozen)
          | inr current ↦ or_right _ _ (ap (λ (k : Kept). k.current) (stored_not s calls y (ready_got_none y ready)) ∙ current)
        ]

    pub current_stored : AreSound calc (stored s calls)
    current_stored o current = elim (cases_Bool (has_value calls o)) [
      | inl has ↦ inr (new_priced o has)
      | inr none ↦
          let stays = stored_not s calls o none in
          elim (sound o (ap (λ (k : Kept). k.current) (sym stays) ∙ current)) [
            | inl source ↦ inl (same_source o ∙ source)
            | inr p ↦ inr (old_priced o stays p)
          ]
    ]

    -- other flags than current stay
    same_forward : (o : ℕ) → (kept_at (stored s calls) o).forward ≡ (kept_at s o).forward
    same_forward o = elim (cases_Bool (has_value calls o)) [
      | inl has ↦ ap (λ (k : Kept). k.forward) (got o has)
      | inr none ↦ ap (λ (k : Kept). k.forward) (stored_not s calls o none)
    ]

    pub sources_stored : HasNoSourceWhereOff s → HasNoSourceWhereOff (stored s calls)
    unfolding stored is_source
    sources_stored none off o = (same_flags o).1 ∙ none off o

    pub whole_stored : ((x : ℕ) → has_value calls x ≡ true → is_lazy_at s.market x ≡ true)
        → AreValues s.market (seen_outcome calc s) → IsWhole (stored s calls)
    unfolding stored
    whole_stored lazy values = record {
      length = stored_length s calls ∙ whole.length;
      today = whole.today;
      links = whole.links;
      lazy = λ o current. elim (cases_Bool (has_value calls o)) [
        | inl has ↦ lazy o has
        | inr none ↦ whole.lazy o (ap (λ (k : Kept). k.current) (sym (stored_not s calls o none)) ∙ current)
      ];
      frozen = λ o is. whole.frozen o (sym (same_flags o).0 ∙ is);
      forward = λ o is. whole.forward o (sym (same_forward o) ∙ is);
      valued = λ o value is. elim (cases_Bool (has_value calls o)) [
        | inl has ↦ values o value (lazy o has) ((closed o has).seen ∙ ap as_outcome (some_is (closed o has).value value (sym (ap (λ (k : Kept). k.last) (got o has)) ∙ is)))
        | inr none ↦ whole.valued o value (ap (λ (k : Kept). k.last) (sym (stored_not s calls o none)) ∙ is)
      ];
      registered = whole.registered;
      noticed = whole.noticed;
    }

-- AN ASK KEEPS THE STATE SOUND
pub sound_asked : (calc : Calc) (s : State) (o : ℕ) → IsWhole s → HoldsFit s → IsSound calc s
    → IsSound calc (asked calc o s)
unfolding asked
sound_asked calc s o whole fit sound = record {
  sources = sources_stored calc s whole (runs calc s o) (runs_closed calc s whole.links o) fit sound.current sound.sources;
  current = current_stored calc s whole (runs calc s o) (runs_closed calc s whole.links o) fit sound.current;
}

-- and so do the calls of any front of an ask, as long as each rests on earlier ones
pub sound_stored : (calc : Calc) (s : State) (calls : List (ℕ × Outcome)) → IsWhole s → IsClosed calc s calls
    → HoldsFit s → IsSound calc s → IsSound calc (stored s calls)
sound_stored calc s calls whole closed fit sound = record {
  sources = sources_stored calc s whole calls closed fit sound.current sound.sources;
  current = current_stored calc s whole calls closed fit sound.current;
}

-- an object that is asked for and seen with a value, and that is not held, has that value as its last one after the ask
pub asked_last : (calc : Calc) (s : State) (o : ℕ) (value : Value) → IsWhole s → HoldsFit s → AreSound calc s
    → held_outcome s o ≡ None → seen_outcome calc s o ≡ Ok value → (kept_at (asked calc o s) o).last ≡ Some value
unfolding asked
asked_last calc s o value whole fit sound free is = elim (cases_Bool (has_value (runs calc s o) o)) [
  | inl has ↦
      let r = runs_closed calc s whole.links o o has in
      ap (λ (k : Kept). k.last) (got calc s whole (runs calc s o) (runs_closed calc s whole.links o) o has)
      ∙ ap Some (ok_same r.value (sym r.seen ∙ is))
  | inr none ↦
      let current = idle_current s (runs calc s o) o (runs_idle calc s whole.links o value is) free none in
      ap (λ (k : Kept). k.last) (stored_not s (runs calc s o) o none)
      ∙ last_some (kept_at s o).last (sym (shows_last calc s whole.links fit sound o current free) ∙ is)
]
  where
    last_some : (l : Option Value) → last_of o l ≡ Ok value → l ≡ Some value
    last_some None e = absurd (cc)
    last_some (Some v) e = let same : v ≡ value = cc in ap Some same

    ok_same : (v : Value) → as_outcome v ≡ as_outcome value → v ≡ value
    ok_same v e = cc
