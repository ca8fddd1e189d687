-- A curve is priced, so that what is no curve is told of what is priced.
use Rattle.std.proofs.Common.{◌≡◌, ◌∙◌, ℕ, Bool, true, false, if◌then◌else◌, Option, Some, None, Result, Ok, Err, refl, sym, ap}
use Rattle.desk_model.specs.Market.{kind_at}
use Rattle.desk_terms.specs.declared.kind.Kind.{Kind}
use Rattle.desk_terms.specs.declared.kind.Kind.TheVariants as kind
use Rattle.session_commands.specs.declared.refusal.Refusal.{Refusal}
use Rattle.session_commands.specs.declared.refusal.Refusal.TheVariants as refusal
use Rattle.session_model.specs.Place.{takes_found}
use Rattle.session_model.specs.declared.place.Place.TheVariants.{Priced}
use Rattle.session_model.specs.Resolve.{object_or_refusal, find, curve}
use Rattle.session_model.specs.Standing.{Standing, object_named}

-- what is not priced is no curve
not_curve : (k : Option Kind) → takes_found Priced k ≡ false → takes_found curve k ≡ false
not_curve None e = refl
not_curve (Some kind.Today) e = refl
not_curve (Some kind.Quote) e = refl
not_curve (Some kind.Derived) e = refl
not_curve (Some kind.QuoteHandle) e = refl
not_curve (Some kind.CurveHandle) e = refl
not_curve (Some kind.Index) e = refl
not_curve (Some kind.Engine) e = refl
not_curve (Some kind.Curve) e = absurd (cc)
not_curve (Some kind.Implied) e = absurd (cc)
not_curve (Some kind.Stock) e = refl
not_curve (Some kind.Composite) e = refl
not_curve (Some kind.Flows) e = refl
not_curve (Some kind.Watcher) e = refl

-- an object that is found, or refused for its kind
abbrev pub told : ℕ → ℕ → Bool → Result ℕ Refusal
told name o is = if is then Ok o else Err (refusal.Kind name)

module _ (p : Standing) (name : ℕ) where
  -- where a name is that of what is priced, its kind decides
  pub curve_found : (o : ℕ) → find Priced p name ≡ Ok o → find curve p name ≡ told name o (takes_found curve (kind_at p.state.market o))
  unfolding find
  curve_found o found = by (object_named p name) found
    where
      pick : (x : ℕ) (b : Bool) → takes_found Priced (kind_at p.state.market x) ≡ b → told name x b ≡ Ok o
          → told name x (takes_found curve (kind_at p.state.market x)) ≡ told name o (takes_found curve (kind_at p.state.market o))
      pick x true t e = let same : x ≡ o = cc in
          ap (λ (y : ℕ). told name y (takes_found curve (kind_at p.state.market y))) same
      pick x false t e = absurd (cc)

      by : (r : Option ℕ) → object_or_refusal Priced p.state.market name r ≡ Ok o
          → object_or_refusal curve p.state.market name r ≡ told name o (takes_found curve (kind_at p.state.market o))
      by None e = absurd (cc)
      by (Some x) e = pick x (takes_found Priced (kind_at p.state.market x)) refl e

  -- where nothing that is priced has the name, no curve has it, for the same reason
  pub curve_refused : (why : Refusal) → find Priced p name ≡ Err why → find curve p name ≡ Err why
  unfolding find
  curve_refused why fails = by (object_named p name) fails
    where
      pick : (x : ℕ) (b : Bool) → takes_found Priced (kind_at p.state.market x) ≡ b → told name x b ≡ Err why
          → told name x (takes_found curve (kind_at p.state.market x)) ≡ Err why
      pick x true t e = absurd (cc)
      pick x false t e = ap (λ (b : Bool). told name x b) (not_curve (kind_at p.state.market x) t) ∙ e

      by : (r : Option ℕ) → object_or_refusal Priced p.state.market name r ≡ Err why
          → object_or_refusal curve p.state.market name r ≡ Err why
      by None e = e
      by (Some x) e = pick x (takes_found Priced (kind_at p.state.market x)) refl e

  -- a curve is priced
  pub no_refusal : (o : ℕ) (why : Refusal) → find curve p name ≡ Ok o → find Priced p name ≡ Err why → ⊥
  no_refusal o why found fails = let bad : Ok o ≡ Err why = sym found ∙ curve_refused why fails in cc

  -- and it is the same object
  pub curve_same : (o x : ℕ) → find Priced p name ≡ Ok o → find curve p name ≡ Ok x → x ≡ o
  unfolding find
  curve_same o x priced found = by (object_named p name) priced found
    where
      pick : (y : ℕ) (a b : Bool) → told name y a ≡ Ok o → told name y b ≡ Ok x → x ≡ o
      pick y true true e f = cc
      pick y true false e f = absurd (cc)
      pick y false b e f = absurd (cc)

      by : (r : Option ℕ) → object_or_refusal Priced p.state.market name r ≡ Ok o
          → object_or_refusal curve p.state.market name r ≡ Ok x → x ≡ o
      by None e f = absurd (cc)
      by (Some y) e f = pick y (takes_found Priced (kind_at p.state.market y)) (takes_found curve (kind_at p.state.market y)) e f
