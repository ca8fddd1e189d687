-- From a sound state to what an ask shows: a current object that is not held shows its last value.
use Rattle.std.proofs.Common.{◌≡◌, ◌⊎◌, inl, inr, ℕ, zero, suc, ◌<◌, Bool, true, false, length, Some, None, sym, ◌∙◌, ap, arith}
use Rattle.std.specs.Prelude.{◌||◌, ◌==◌, not, if◌then◌else◌}
use Rattle.std.proofs.lemmas.Bool.{cases_Bool, or_cases, or_left, or_right, or_from, false_from_ne_true, false≢true}
use Rattle.walks.specs.Walk.{Among, Below}
use Rattle.walks.proofs.Walks.{only_below}
use Rattle.walks.proofs.Ranks.{below_wider, below_true, meets_below, meets_on}
use Rattle.desk_terms.specs.Reading.{Outcome, Calc}
use Rattle.desk_model.specs.Market.{edges, is_forwarder}
use Rattle.desk_model.specs.Uses.{needs}
use Rattle.desk_model.specs.Fresh.{or_priced}
use Rattle.desk_model.specs.State.{State, kept_at, last_of, last_answer, is_frozen, is_source, is_late, held_outcome, seen_outcome, now}
use Rattle.desk_model.specs.Sound.{has_source, is_ready, AreSound}
use Rattle.desk_model.specs.Links.{IsLinked}
use Rattle.desk_model.proofs.Locality.{Near, needs_near, needs_fall}
use Rattle.desk_model.proofs.Bounds.{same_price, ranks_of, seen_is}

-- What the laws ask of `held_outcome`: a source near an object holds it, a frozen object is held at its last value, and what is
-- near an object that is not held is frozen or not held either.
pub record HoldsFit (s : State) : Type 0 where
  pub source : (o : ℕ) → has_source s o ≡ true → held_outcome s o ≡ None → ⊥
  pub frozen : (x : ℕ) → is_frozen s x ≡ true → held_outcome s x ≡ Some (last_answer s x)
  pub above : (o x : ℕ) → is_late s o ≡ false → Near s.market x o → is_frozen s x ≡ false → held_outcome s x ≡ None

some_none : {A : Type 0} {a : A} → Some a ≡ None → ⊥
some_none e = cc

held_late : (s : State) (o : ℕ) → is_late s o ≡ true → held_outcome s o ≡ None → ⊥
unfolding held_outcome
held_late s o late none = some_none (sym (ap (λ (b : Bool). if b then Some (last_answer s o) else None) (or_right (is_frozen s o) (is_late s o) late)) ∙ none)

held_frozen : (s : State) (o : ℕ) → is_frozen s o ≡ true → held_outcome s o ≡ Some (last_answer s o)
unfolding held_outcome
held_frozen s o frozen = ap (λ (b : Bool). if b then Some (last_answer s o) else None) (or_left (is_frozen s o) (is_late s o) frozen)

-- what is not held is not late
pub early_of : (s : State) (o : ℕ) → held_outcome s o ≡ None → is_late s o ≡ false
early_of s o none = false_from_ne_true (is_late s o) (λ late. held_late s o late none)

pub free_held : (s : State) (o : ℕ) → is_frozen s o ≡ false → is_late s o ≡ false → held_outcome s o ≡ None
unfolding held_outcome
free_held s o thawed early = ap (λ (b : Bool). if b then Some (last_answer s o) else None) (or_from (is_frozen s o) (is_late s o) thawed early)

-- A source near an object makes it late, and a late object near another, not frozen, makes that one late.
module _ (s : State) (links : IsLinked s.market) (never : (x : ℕ) → is_forwarder s.market x ≡ true → is_frozen s x ≡ false) where
  open_forwarder : (x : ℕ) → is_forwarder s.market x ≡ true → not (is_frozen s x) ≡ true
  open_forwarder x is = ap not (never x is)

  late_below : (o : ℕ) → Below (edges s.market) (is_source s) (λ x. not (is_frozen s x)) o → is_late s o ≡ true
  unfolding is_late
  late_below o below = let r = ranks_of s.market links in or_right (is_source s o) _ (below_true (edges s.market) (is_source s) (λ x. not (is_frozen s x)) r.0 r.1 (suc (length s.market.objects)) o (r.2 o) below)

  near_late : (o : ℕ) → has_source s o ≡ true → is_late s o ≡ true
  unfolding has_source
  near_late o is = late_below o (below_wider (edges s.market) (is_source s) (is_source s) (is_forwarder s.market) (λ x. not (is_frozen s x)) (λ y e. e) open_forwarder o (only_below (edges s.market) (is_source s) (is_forwarder s.market) (suc (length s.market.objects)) o is))

  late_above : (o x : ℕ) → Near s.market x o → is_frozen s x ≡ false → is_late s x ≡ true → is_late s o ≡ true
  unfolding is_late
  late_above o x near thawed late =
      let path = below_wider (edges s.market) (λ y. y == x) (λ y. y == x) (is_forwarder s.market) (λ y. not (is_frozen s y)) (λ y e. e) open_forwarder o near in
      elim (or_cases (is_source s x) _ late) [
        | inl is ↦ late_below o (meets_below (edges s.market) (is_source s) (λ y. not (is_frozen s y)) x o is path)
        | inr deep ↦ late_below o (meets_on (edges s.market) (is_source s) (λ y. not (is_frozen s y)) x o (ap not thawed) (only_below (edges s.market) (is_source s) (λ y. not (is_frozen s y)) (suc (length s.market.objects)) x deep) path)
      ]

  pub holds_fit : HoldsFit s
  holds_fit = record {
    source = λ o is none. held_late s o (near_late o is) none;
    frozen = held_frozen s;
    above = λ o x none near thawed. free_held s x thawed (early o x none near thawed (cases_Bool (is_late s x)));
  }
    where
      early : (o x : ℕ) → is_late s o ≡ false → Near s.market x o → is_frozen s x ≡ false
          → ((is_late s x ≡ true) ⊎ (is_late s x ≡ false)) → is_late s x ≡ false
      early o x none near thawed (inl late) = absurd (false≢true (sym none ∙ late_above o x near thawed late))
      early o x none near thawed (inr is) = is

pub or_false : (a b : Bool) → (a || b) ≡ true → a ≡ false → b ≡ true
or_false true b e is = absurd (cc)
or_false false b e is = e

pub seen_held : (calc : Calc) (s : State) → IsLinked s.market → (o : ℕ) (outcome : Outcome) → held_outcome s o ≡ Some outcome
    → seen_outcome calc s o ≡ outcome
seen_held calc s links o outcome is = seen_is calc s links o ∙ ap (λ h. or_priced h (now calc s o)) is

pub seen_free : (calc : Calc) (s : State) → IsLinked s.market → (o : ℕ) → held_outcome s o ≡ None → seen_outcome calc s o ≡ now calc s o
seen_free calc s links o free = seen_is calc s links o ∙ ap (λ h. or_priced h (now calc s o)) free

module _ (calc : Calc) (s : State) (links : IsLinked s.market) (fit : HoldsFit s) (sound : AreSound calc s) where
  shows_by : (n o : ℕ) → (ranks_of s.market links).0 o < n → (kept_at s o).current ≡ true → held_outcome s o ≡ None
      → seen_outcome calc s o ≡ last_answer s o
  unfolding now
  shows_by zero o p current free = absurd (omega arith)
  shows_by (suc n) o p current free = elim (sound o current) [
    | inl source ↦ absurd (fit.source o source free)
    | inr priced ↦
        seen_free calc s links o free
        ∙ (same_price calc s.market (seen_outcome calc s) (last_answer s) o (λ x among. needed x among (λ current free. let fall = needs_fall s.market (ranks_of s.market links).0 (ranks_of s.market links).1 o x among in shows_by n x (omega arith) current free) (priced.ready x among)) ∙ (priced.price ∙ ap (last_of o) (sym priced.last)))
  ]
    where
      needed : (x : ℕ) → Among x (needs s.market o)
          → ((kept_at s x).current ≡ true → held_outcome s x ≡ None → seen_outcome calc s x ≡ last_answer s x) → is_ready s x ≡ true
          → seen_outcome calc s x ≡ last_answer s x
      needed x among more ready = elim (cases_Bool (is_frozen s x)) [
        | inl frozen ↦ seen_held calc s links x (last_answer s x) (fit.frozen x frozen)
        | inr thawed ↦
            more (or_false (is_frozen s x) _ ready thawed) (fit.above o x (early_of s o free) (needs_near s.market o x among) thawed)
      ]

  -- a current object that is not held shows its last value
  pub shows_last : (o : ℕ) → (kept_at s o).current ≡ true → held_outcome s o ≡ None → seen_outcome calc s o ≡ last_answer s o
  shows_last o current free = shows_by (suc ((ranks_of s.market links).0 o)) o (omega arith) current free

  -- and so does an object that is ready, beneath one that is not held
  pub ready_shows : (o x : ℕ) → held_outcome s o ≡ None → Among x (needs s.market o) → is_ready s x ≡ true
      → seen_outcome calc s x ≡ last_answer s x
  ready_shows o x free among ready = elim (cases_Bool (is_frozen s x)) [
    | inl frozen ↦ seen_held calc s links x (last_answer s x) (fit.frozen x frozen)
    | inr thawed ↦ shows_last x (or_false (is_frozen s x) _ ready thawed) (fit.above o x (early_of s o free) (needs_near s.market o x among) thawed)
  ]
