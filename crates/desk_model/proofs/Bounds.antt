-- How far a recursion has to go does not matter, once it is above the ranks: prices, and what an ask shows.
use Rattle.std.proofs.Common.{◌≡◌, inl, inr, ℕ, zero, suc, ◌<◌, List, [], ◌∷◌, length, Option, None, refl, ◌∙◌, ap, arith}
use Rattle.walks.specs.Walk.{Among, Falls}
use Rattle.walks.proofs.Small.{small_ranks}
use Rattle.desk_terms.specs.declared.value.Input as input
use Rattle.desk_terms.specs.Reading.{Outcome, Calc}
use Rattle.desk_model.specs.declared.entry.Entry.{Entry}
use Rattle.desk_model.specs.Market.{Market, terms_at, edges}
use Rattle.desk_model.specs.Uses.{uses, needed, needs}
use Rattle.desk_model.specs.declared.entry.Entry.TheVariants.{Gives, Needs, Refuses}
use Rattle.desk_model.specs.Fresh.{and_inputs, and_value, inputs_by, reading_over, reading_by, priced, priced_by, or_priced, answer_by, fresh}
use Rattle.desk_model.specs.State.{State, held_outcome, seen_outcome, now}
use Rattle.desk_model.specs.Links.{IsLinked}
use Rattle.desk_model.proofs.Locality.{needs_fall}

-- the same answers of what is needed make the same inputs
pub same_inputs : (f g : ℕ → Outcome) (entries : List Entry) → ((x : ℕ) → Among x (needed entries) → f x ≡ g x)
    → inputs_by f entries ≡ inputs_by g entries
same_inputs f g [] same = refl
same_inputs f g (Gives i ∷ entries) same = ap (and_inputs (input.TheVariants.Rate i)) (same_inputs f g entries same)
same_inputs f g (Needs y ∷ entries) same = ap (λ (p : Outcome). and_value p (inputs_by f entries)) (same y (inl refl))
    ∙ ap (and_value (g y)) (same_inputs f g entries (λ x among. same x (inr among)))
same_inputs f g (Refuses cause ∷ entries) same = refl

pub same_reading : (m : Market) (f g : ℕ → Outcome) (o : ℕ) → ((x : ℕ) → Among x (needs m o) → f x ≡ g x)
    → reading_by m f o ≡ reading_by m g o
same_reading m f g o same = ap (reading_over m o (terms_at m o)) (same_inputs f g (uses m o) same)

pub same_price : (calc : Calc) (m : Market) (f g : ℕ → Outcome) (o : ℕ) → ((x : ℕ) → Among x (needs m o) → f x ≡ g x)
    → priced_by calc m f o ≡ priced_by calc m g o
same_price calc m f g o same = ap (priced calc) (same_reading m f g o same)

-- ranks of a market of which each is at most the number of objects
abbrev pub Ranks : Market → Type 0
Ranks m = (rank : ℕ → ℕ) × Falls (edges m) rank × ((o : ℕ) → rank o < suc (length m.objects))

pub ranks_of : (m : Market) → IsLinked m → Ranks m
ranks_of m links = small_ranks (edges m) (length m.objects) links.within links.acyclic

module _ (calc : Calc) (m : Market) (holds : ℕ → Option Outcome) (rank : ℕ → ℕ) (falls : Falls (edges m) rank) where
  -- an answer needs no more edges than the rank
  pub answer_steps : (n k o : ℕ) → rank o < n → rank o < k → answer_by calc m holds n o ≡ answer_by calc m holds k o
  unfolding answer_by
  answer_steps zero k o p q = absurd (omega arith)
  answer_steps (suc n) zero o p q = absurd (omega arith)
  answer_steps (suc n) (suc k) o p q =
      ap (or_priced (holds o)) (same_price calc m (answer_by calc m holds n) (answer_by calc m holds k) o
      (λ x among. let fall = needs_fall m rank falls o x among in answer_steps n k x (omega arith) (omega arith)))

-- any bound above the number of objects gives the same price
pub fresh_steps : (calc : Calc) (m : Market) → IsLinked m → (n o : ℕ) → length m.objects < n
    → answer_by calc m (λ x. None) n o ≡ fresh calc m o
unfolding fresh
fresh_steps calc m links n o more = let r = ranks_of m links in let low = r.2 o in answer_steps calc m (λ x. None) r.0 r.1 n (suc (length m.objects)) o (omega arith) low

-- the price of a moment is the price over the prices of that moment
pub fresh_is : (calc : Calc) (m : Market) → IsLinked m → (o : ℕ) → fresh calc m o ≡ priced_by calc m (fresh calc m) o
unfolding fresh answer_by
fresh_is calc m links o =
    let r = ranks_of m links in
    same_price calc m (answer_by calc m (λ x. None) (length m.objects)) (answer_by calc m (λ x. None) (suc (length m.objects))) o
    (λ x among. let fall = needs_fall m r.0 r.1 o x among in let low = r.2 o in answer_steps calc m (λ x. None) r.0 r.1 (length m.objects) (suc (length m.objects)) x (omega arith) (omega arith))

-- what is seen of an object is what it is held at, or its price over what is seen
pub seen_is : (calc : Calc) (s : State) → IsLinked s.market → (o : ℕ)
    → seen_outcome calc s o ≡ or_priced (held_outcome s o) (now calc s o)
unfolding seen_outcome now answer_by
seen_is calc s links o =
    let r = ranks_of s.market links in
    ap (or_priced (held_outcome s o)) (same_price calc s.market _ _ o
    (λ x among. let fall = needs_fall s.market r.0 r.1 o x among in let low = r.2 o in answer_steps calc s.market (held_outcome s) r.0 r.1 (length s.market.objects) (suc (length s.market.objects)) x (omega arith) (omega arith)))
