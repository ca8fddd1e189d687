-- What is proved of an answer.
use Rattle.std.specs.Prelude.{◌≡◌, ◌⊎◌, ◌==◌, ◌<◌, ℕ, ◌^◌, ℤ, true, false, List, [], length, Option, Some, Ok}
use Rattle.walks.specs.Walk.{Among, IsOnce, Below}
use Rattle.fixed_amount.specs.Rounding.{closest}
use Rattle.desk_terms.specs.declared.terms.Part.{Part}
use Rattle.desk_terms.specs.declared.terms.Terms.TheVariants.{Composite, Flows}
use Rattle.desk_terms.specs.declared.value.Input as input
use Rattle.desk_terms.specs.declared.value.Value.TheVariants.{Money}
use Rattle.desk_terms.specs.Reading.{Calc}
use Rattle.flow_terms.specs.declared.flows.FlowTerms.{FlowTerms}
use Rattle.flow_terms.specs.Flows.{is_expired}
use Rattle.desk_bench.specs.Pricing.{desk_calc}
use Rattle.desk_model.specs.Market.{terms_at}
use Rattle.desk_model.specs.Uses.{uses, needs}
use Rattle.desk_model.specs.Fresh.{inputs_by, priced_by}
use Rattle.desk_model.specs.State.{State, least_source, mark_of, shows}
use Rattle.desk_model.specs.Links.{IsLinked, IsWhole, is_lazy_at}
use Rattle.desk_model.specs.Visit.{asked}
use Rattle.why_model.specs.Listing.{shows_last, rests_on, with_object, listing}
use Rattle.why_model.specs.Workings.{part_products, sum_of_parts, FlowProduct, flows_at, sum_of_flows}

-- ---- which objects stand in an answer

-- x is o, or o rests on it by a path of which each object but x is neither frozen nor late
abbrev pub RestsOn : State → ℕ → ℕ → Type 0
RestsOn s o x = (x ≡ o) ⊎ Below (rests_on s) (λ y. y == x) (λ y. true) o

-- THE OBJECTS OF AN ANSWER stand there once, and are those on which it rests
pub record IsListing (s : State) (o : ℕ) : Type 0 where
  pub once : IsOnce (listing s o)
  pub only : (x : ℕ) → Among x (listing s o) → RestsOn s o x
  pub every : (x : ℕ) → RestsOn s o x → Among x (listing s o)

abbrev pub ListingsAreWhole : Type 0
ListingsAreWhole = (s : State) → IsLinked s.market → (o : ℕ) → IsListing s o

-- how long paths may be does not matter, once it is above the number of objects
abbrev pub ListingsHaveNoBound : Type 0
ListingsHaveNoBound = (s : State) → IsLinked s.market → (n o : ℕ) → length s.market.objects < n
    → with_object (rests_on s) n [] o ≡ listing s o

-- ---- what a listed object shows

-- A PRICED OBJECT that is neither frozen nor late shows its price over what is shown of the objects that it needs
abbrev pub ShownIsWorkedOut : Type 0
ShownIsWorkedOut = (calc : Calc) (s : State) → IsLinked s.market → (o : ℕ) → is_lazy_at s.market o ≡ true
    → shows_last s o ≡ false → shows calc s o ≡ priced_by calc s.market (shows calc s) o

-- and these stand in the answer in which it stands
abbrev pub NeedsAreListed : Type 0
NeedsAreListed = (s : State) → IsLinked s.market → (o x y : ℕ) → Among x (listing s o) → shows_last s x ≡ false
    → Among y (needs s.market x) → Among y (listing s o)

-- what an object shows, how that stands to the market, and what makes it late are the same in two states
pub record IsShownAlike (calc : Calc) (s t : State) (x : ℕ) : Type 0 where
  pub shown : shows calc t x ≡ shows calc s x
  pub mark : mark_of t x ≡ mark_of s x
  pub source : least_source t x ≡ least_source s x

-- AN ASK leaves what every object shows: an answer is of the session as it stood, whatever is computed for it
abbrev pub AsksShowAlike : Type 0
AsksShowAlike = (calc : Calc) (s : State) → IsWhole s → (o x : ℕ) → IsShownAlike calc s (asked calc o s) x

-- ---- sums

-- an amount is the sum of the products of flows, rounded once from eighteen places to six
pub record IsSumOfFlows (s : State) (o : ℕ) (flows : FlowTerms) (amount : ℤ) : Type 0 where
  pub inputs : List input.Input
  pub given : inputs_by (shows desk_calc s) (uses s.market o) ≡ Ok inputs
  pub products : List FlowProduct
  pub worked : flows_at s.market o flows inputs ≡ Ok products
  pub rounded : amount ≡ closest (sum_of_flows products) (10 ^ 12)

-- THE SUM IS THE PRICE of a bond, swap or forward rate agreement that shows one and is neither frozen, late nor expired
abbrev pub TheSumIsThePrice : Type 0
TheSumIsThePrice = (s : State) → IsLinked s.market → (o : ℕ) (flows : FlowTerms) (engine : Option ℕ) (amount : ℤ)
    → terms_at s.market o ≡ Some (Flows flows engine) → shows_last s o ≡ false
    → is_expired flows.flows s.market.today ≡ false → shows desk_calc s o ≡ Ok (Money amount)
    → IsSumOfFlows s o flows amount

-- an amount is the sum of the products of parts, each of which has one
pub record IsSumOfParts (s : State) (o : ℕ) (parts : List Part) (amount : ℤ) : Type 0 where
  pub inputs : List input.Input
  pub given : inputs_by (shows desk_calc s) (uses s.market o) ≡ Ok inputs
  pub count : length (part_products parts inputs) ≡ length parts
  pub exact : amount ≡ sum_of_parts (part_products parts inputs)

-- THE PRODUCTS ADD UP to the value of a composite that shows one and is neither frozen nor late
abbrev pub TheProductsAddUp : Type 0
TheProductsAddUp = (s : State) → IsLinked s.market → (o : ℕ) (parts : List Part) (amount : ℤ)
    → terms_at s.market o ≡ Some (Composite parts) → shows_last s o ≡ false → shows desk_calc s o ≡ Ok (Money amount)
    → IsSumOfParts s o parts amount
