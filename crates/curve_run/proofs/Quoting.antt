-- The quotes of a curve's helpers are objects of the market.
use Rattle.std.proofs.Common.{◌≡◌, inl, inr, ℕ, ◌<◌, Bool, true, false, List, [], ◌∷◌, length, Option, Some, None, refl, sym, ap, subst}
use Rattle.std.specs.Prelude.{if◌then◌else◌}
use Rattle.std.specs.List.{All}
use Rattle.std.proofs.lemmas.List.Elements.{All-nil, All-cons}
use Rattle.walks.specs.Walk.{Among}
use Rattle.curve_terms.specs.declared.terms.CurveTerms.{CurveTerms}
use Rattle.curve_terms.specs.declared.terms.Helper.{Helper}
use Rattle.desk_terms.specs.declared.terms.Terms.{Terms}
use Rattle.desk_terms.specs.declared.terms.Terms.TheVariants as terms
use Rattle.desk_terms.specs.Terms.{moves, helper_references}
use Rattle.desk_model.specs.Market.{Market, terms_at, named, each_once, edges_of}
use Rattle.object_store.specs.Objects.{bare}
use Rattle.desk_model.specs.Links.{IsLinked}
use Rattle.desk_model.proofs.Edges.{once_among}
use Rattle.curve_run.specs.Quoted.{built_in, helper_quotes, quotes_by, quotes_named}

all_within : (n : ℕ) (helpers : List Helper) → ((x : ℕ) → Among x (named (helper_references helpers)) → x < n)
    → All (λ quote. quote < n) (helper_quotes helpers)
all_within n [] each = All-nil (λ quote. quote < n)
all_within n (helper ∷ helpers) each =
    All-cons (λ quote. quote < n) helper.quote (helper_quotes helpers) (each helper.quote (inl refl))
    (all_within n helpers (λ x a. each x (inr a)))

-- they are among what the curve observes
quote_among : (held : CurveTerms) (x : ℕ) → Among x (named (helper_references held.helpers))
    → Among x (edges_of (Some (terms.Curve held)))
quote_among held x among = by (moves held.start)
  where
    by : (b : Bool)
        → Among x (each_once (if b then 0 ∷ named (helper_references held.helpers) else named (helper_references held.helpers)))
    by true = once_among x (0 ∷ named (helper_references held.helpers)) (inr among)
    by false = once_among x (named (helper_references held.helpers)) among

-- a quote without its value is no curve either
pub built_bare : (found : Option Terms) → built_in (bare found) ≡ built_in found
built_bare None = refl
built_bare (Some (terms.Quote value)) = refl
built_bare (Some (terms.Derived minus first second)) = refl
built_bare (Some (terms.Handle kind target)) = refl
built_bare (Some (terms.Curve held)) = refl
built_bare (Some (terms.Implied curve reference)) = refl
built_bare (Some (terms.Index index fixings)) = refl
built_bare (Some (terms.Engine curve)) = refl
built_bare (Some (terms.Stock quote)) = refl
built_bare (Some (terms.Composite parts)) = refl
built_bare (Some (terms.Flows flows engine)) = refl

built_curve : (found : Option Terms) (held : CurveTerms) → built_in found ≡ Some held → found ≡ Some (terms.Curve held)
built_curve None held is = absurd (cc)
built_curve (Some (terms.Quote value)) held is = absurd (cc)
built_curve (Some (terms.Derived minus first second)) held is = absurd (cc)
built_curve (Some (terms.Handle kind target)) held is = absurd (cc)
built_curve (Some (terms.Curve built)) held is = let same : built ≡ held = cc in ap (λ (t : CurveTerms). Some (terms.Curve t)) same
built_curve (Some (terms.Implied curve reference)) held is = absurd (cc)
built_curve (Some (terms.Index index fixings)) held is = absurd (cc)
built_curve (Some (terms.Engine curve)) held is = absurd (cc)
built_curve (Some (terms.Stock quote)) held is = absurd (cc)
built_curve (Some (terms.Composite parts)) held is = absurd (cc)
built_curve (Some (terms.Flows flows engine)) held is = absurd (cc)

module _ (m : Market) (o : ℕ) where
  abbrev n : ℕ
  n = length m.objects

  of_built : (found : Option CurveTerms) → built_in (terms_at m o) ≡ found → IsLinked m
      → All (λ quote. quote < n) (helper_quotes (quotes_by [] found).helpers)
  of_built None is links = All-nil (λ quote. quote < n)
  of_built (Some held) is links =
      all_within n held.helpers
      (λ x among. links.within o x (subst (λ (f : Option Terms). Among x (edges_of f)) (sym (built_curve (terms_at m o) held is)) (quote_among held x among)))

  pub quotes_within : IsLinked m → All (λ quote. quote < n) (quotes_named (terms_at m o))
  quotes_within links = of_built (built_in (terms_at m o)) refl links
