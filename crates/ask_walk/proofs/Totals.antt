-- What a turn does at a composite.
use Rattle.std.proofs.Common.{◌≡◌, ℕ, Bool, List, [], ◌∷◌, Option, Some, sym, ◌∙◌, ap, subst, arith, FitsSigned}
use Rattle.std.specs.Prelude.{ℤ, is_none}
use Rattle.std.specs.Int.{w128}
use Rattle.std.proofs.lemmas.Int.{fits_signed_from_abs}
use Rattle.desk_terms.specs.declared.terms.Terms.{Terms}
use Rattle.desk_terms.specs.declared.terms.Terms.TheVariants.{Composite}
use Rattle.desk_terms.specs.declared.terms.Part.{Part}
use Rattle.desk_terms.specs.declared.value.Input as input
use Rattle.desk_terms.specs.declared.cause.Cause.{Cause}
use Rattle.desk_terms.specs.Reading.{Calc, IsWellFormed}
use Rattle.desk_terms.specs.Bench.{counted, logged}
use Rattle.desk_terms.specs.Parts.{ArePartsInRange}
use Rattle.desk_terms.specs.Sums.{summed, composite_reading}
use Rattle.desk_model.specs.declared.kept.Kept.{Kept}
use Rattle.desk_model.specs.declared.entry.Next.TheVariants as next
use Rattle.desk_model.specs.Market.{Market, terms_at}
use Rattle.desk_model.specs.Links.{AreRanged, IsRanged}
use Rattle.desk_model.specs.Next.{next_of}
use Rattle.desk_model.specs.Uses.{member_entries, uses, reading_at}
use Rattle.object_store.specs.Slots.{answer_of, is_at_hand}
use Rattle.ask_walk.specs.declared.turning.Begun.{Begun}
use Rattle.ask_walk.specs.declared.turning.Step.{Step}
use Rattle.ask_walk.specs.declared.turning.Step.TheVariants as stepping
use Rattle.ask_walk.specs.declared.turning.Turn.TheVariants as turning
use Rattle.ask_walk.specs.Asks.{IsComputed}
use Rattle.ask_walk.specs.Begun.{HasRead, IsBegun}
use Rattle.ask_walk.specs.Steps.{NextMember}
use Rattle.ask_walk.specs.Turns.{HasTurned, MayRun}
use Rattle.ask_walk.proofs.Inputs.{composite_uses}
use Rattle.ask_walk.proofs.Summing.{read_within}

same_terms : (a b : Terms) → Some a ≡ Some b → a ≡ b
same_terms a b e = cc

-- the sum of what was read of a composite is within 128 bits
pub sum_fits : (kept : List Kept) (parts : List Part) (read : ℕ) (sum : ℤ) → ArePartsInRange parts → HasRead kept parts read sum → FitsSigned w128 sum
sum_fits kept parts read sum range has =
    let low = read_within kept has.inputs parts has.are in
    let few = range.count in
    let bound = has.bound in
    let count = has.count in fits_signed_from_abs w128 sum (omega (arith, low, few, bound, count))

-- a composite of these parts, which are listed
module _ (m : Market) (kept : List Kept) (o : ℕ) (t : Terms) (parts items : List Part) (there : terms_at m o ≡ Some t) (is : t ≡ Composite parts) (listed : items ≡ parts) where
  pub composite_there : terms_at m o ≡ Some (Composite parts)
  composite_there = there ∙ ap Some is

  pub items_ranged : AreRanged m → ArePartsInRange items
  items_ranged ranged = subst ArePartsInRange (sym listed) (subst IsRanged composite_there (ranged o))

  pub items_read : (b : Begun) → b.object ≡ o → IsBegun m kept b → HasRead kept items b.read b.sum
  items_read b same begun = subst (λ (l : List Part). HasRead kept l b.read b.sum) (sym listed) (begun parts (ap (terms_at m) same ∙ composite_there))

  entries_are : member_entries items ≡ uses m o
  entries_are = ap member_entries listed ∙ composite_uses m o t parts (sym there) is

  module _ (sum : ℤ) (step : Step) (n : NextMember kept items sum step) (at : step ≡ stepping.Ready) where
    ready : NextMember kept items sum stepping.Ready
    ready = subst (NextMember kept items sum) at n

    ready_is : next_of (is_at_hand kept) (answer_of kept) (uses m o) ≡ next.Ready ready.0
    ready_is = ap (next_of (is_at_hand kept) (answer_of kept)) (sym entries_are) ∙ ready.1

    reads : MayRun m kept o → IsWellFormed (composite_reading o parts ready.0)
    reads run = run ready.0 (Composite parts) ready_is composite_there

    -- the price of the sum is the price over the inputs
    pub totalled : (calc : Calc) (after : List Kept) (cause : Option Cause) (count count2 : ℕ) (log log2 : Option (List (ℕ × Bool))) → MayRun m kept o
        → ((ps : List Part) (inputs : List input.Input) → IsWellFormed (composite_reading o ps inputs) → sum ≡ summed ps inputs → IsComputed calc (composite_reading o ps inputs) o kept after cause)
        → count2 ≡ counted count 1 → log2 ≡ logged log ((o, is_none cause) ∷ []) → HasTurned calc m o kept after (turning.Ran cause) count count2 log log2
    totalled calc after cause count count2 log log2 run priced once logs = (
      ready.0,
      ready_is,
      record {
        price = λ terms here. subst (λ (u : Terms). IsComputed calc (reading_at m o u ready.0) o kept after cause) (same_terms (Composite parts) terms (sym composite_there ∙ here))
            (priced parts ready.0 (reads run) (ready.2 ∙ ap (λ (l : List Part). summed l ready.0) listed));
        count = once;
        log = logs;
      },
    )
