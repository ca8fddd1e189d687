-- The sum over the parts, from a place on.
use Rattle.std.proofs.Common.{◌≡◌, ◌<◌, ◌+◌, ℕ, ℤ, ◌+ℤ◌, List, [], ◌∷◌, length, drop, Option, Some, None, arith, refl, sym, ◌∙◌, ap}
use Rattle.std.proofs.Math.ListN.{get_or}
use Rattle.std.proofs.Math.IntN.{+ℤ_assoc}
use Rattle.std.proofs.lemmas.List.{drop_more}
use Rattle.desk_terms.specs.declared.terms.Part.{Part}
use Rattle.desk_terms.specs.declared.value.Input as input
use Rattle.discount_engines.specs.Composite.{plus, product, weighted}

plus_none : (a : Option ℤ) → plus a None ≡ None
plus_none None = refl
plus_none (Some a) = refl

-- fewer inputs than parts
pub too_few : (parts : List Part) (inputs : List input.Input) → length inputs < length parts → weighted parts inputs ≡ None
too_few [] inputs few = absurd (omega (arith, few))
too_few (part ∷ parts) [] few = refl
too_few (part ∷ parts) (i ∷ inputs) few =
    ap (plus (product part i)) (too_few parts inputs (omega (arith, few))) ∙ plus_none (product part i)

pub one_more : (parts : List Part) (inputs : List input.Input) (at : ℕ) (part : Part) (i : input.Input) → at < length parts → part ≡ get_or parts at part → at < length inputs → i ≡ get_or inputs at i
    → weighted (drop at parts) (drop at inputs) ≡ plus (product part i) (weighted (drop (at + 1) parts) (drop (at + 1) inputs))
one_more parts inputs at part i within get inside is =
    rw (drop_more parts at part within ∙ ap (λ (p : Part). p ∷ drop (at + 1) parts) (sym get), drop_more inputs at i inside ∙ ap (λ (x : input.Input). x ∷ drop (at + 1) inputs) (sym is)) refl

pub plus_on : (a b : ℤ) (rest : Option ℤ) → plus (Some (a +ℤ b)) rest ≡ plus (Some a) (plus (Some b) rest)
plus_on a b None = refl
plus_on a b (Some c) = ap Some (+ℤ_assoc a b c)
