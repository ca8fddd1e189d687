-- What prices take, and that it is there.
use Rattle.std.proofs.Common.{◌≡◌, ◌<◌, inl, inr, subst, ℕ, zero, suc, Option, Some, List, [], ◌∷◌, length, refl, sym, ◌∙◌, ap, arith}
use Rattle.std.specs.Prelude.{if◌then◌else◌, slice_index_or}
use Rattle.desk_terms.specs.declared.terms.Terms.{Terms}
use Rattle.desk_terms.specs.declared.terms.Terms.TheVariants.{Stock, Composite, Curve}
use Rattle.curve_terms.specs.declared.terms.CurveStart.{CurveStart}
use Rattle.curve_terms.specs.declared.terms.CurveStart.TheVariants.{Moving, Fixed}
use Rattle.curve_terms.specs.declared.terms.CurveTerms.{CurveTerms}
use Rattle.curve_terms.specs.declared.terms.Helper.{Helper}
use Rattle.desk_terms.specs.Terms.{helper_references, moves}
use Rattle.desk_terms.specs.declared.terms.Part.{Part}
use Rattle.desk_model.specs.Market.{Market, terms_at, edges_of, named}
use Rattle.desk_model.specs.Uses.{input_at, uses_of, uses, member_entries}
use Rattle.desk_model.specs.Links.{IsLinked}
use Rattle.object_store.specs.Shape.{watched}
use Rattle.object_store.proofs.Joined.{watched_edges}
use Rattle.walks.specs.Walk.{Among}

pub composite_uses : (m : Market) (o : ℕ) (t : Terms) (parts : List Part) → Some t ≡ terms_at m o → t ≡ Composite parts → member_entries parts ≡ uses m o
composite_uses m o t parts here is = ap (uses_of (input_at m) m o) (ap Some (sym is) ∙ here)

pub stock_within : (m : Market) (o q : ℕ) (t : Terms) → IsLinked m → Some t ≡ terms_at m o → t ≡ Stock q → q < length m.objects
stock_within m o q t links here is = links.within o q (subst (λ (x : Option Terms). Among q (edges_of x)) (ap Some (sym is) ∙ here) (inl refl))

-- what an object observes is there
pub named_within : (m : Market) (o x : ℕ) (t : Terms) → IsLinked m → Some t ≡ terms_at m o → Among x (watched t) → x < length m.objects
named_within m o x t links here among = links.within o x (subst (λ (u : Option Terms). Among x (edges_of u)) here ((watched_edges t x).0 among))

-- a curve observes its quotes, whether it observes the evaluation date or not
among_start : (start : CurveStart) (x : ℕ) (quotes : List ℕ) → Among x quotes → Among x (if moves start then 0 ∷ quotes else quotes)
among_start (Moving settlement) x quotes among = inr among
among_start (Fixed day) x quotes among = among

pub helpers_within : (m : Market) (o : ℕ) (curve : CurveTerms) (t : Terms) → IsLinked m → Some t ≡ terms_at m o → t ≡ Curve curve → (x : ℕ) → Among x (named (helper_references curve.helpers)) → x < length m.objects
helpers_within m o curve t links here is x among = named_within m o x t links here (subst (λ (u : Terms). Among x (watched u)) (sym is) (among_start curve.start x (named (helper_references curve.helpers)) among))

-- each helper's quote is among those that a curve observes
pub helper_among : (helpers : List Helper) (at : ℕ) (other : Helper) → at < length helpers → Among (slice_index_or helpers at other).quote (named (helper_references helpers))
helper_among [] at other within = absurd (omega (arith, within))
helper_among (helper ∷ helpers) zero other within = inl refl
helper_among (helper ∷ helpers) (suc at) other within = inr (helper_among helpers at other (omega (arith, within)))
