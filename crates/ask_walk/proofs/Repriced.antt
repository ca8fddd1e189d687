-- What one turn leaves of a recalculation.
use Rattle.std.proofs.Common.{◌≡◌, inl, inr, ℕ, ◌+◌, Bool, List, Option, Some, sym, ◌∙◌, ap, subst}
use Rattle.desk_terms.specs.declared.cause.Cause.{Cause}
use Rattle.desk_terms.specs.declared.asked.Asked.{Asked}
use Rattle.desk_terms.specs.declared.asked.Mark.TheVariants.{Recalc}
use Rattle.desk_terms.specs.Reading.{Calc}
use Rattle.desk_model.specs.declared.kept.Kept.{Kept}
use Rattle.desk_model.specs.declared.entry.Next.TheVariants as next
use Rattle.desk_model.specs.Market.{Market}
use Rattle.desk_model.specs.Next.{next_of}
use Rattle.desk_model.specs.State.{State}
use Rattle.desk_model.specs.Uses.{uses}
use Rattle.object_store.specs.Slots.{answer_of, is_at_hand}
use Rattle.ask_walk.specs.declared.turning.Turn.{Turn}
use Rattle.ask_walk.specs.declared.turning.Turn.TheVariants as turning
use Rattle.ask_walk.specs.Asks.{Stays}
use Rattle.ask_walk.specs.Recalcs.{Reprices, RecalcStops}
use Rattle.ask_walk.specs.Turns.{HasTurned, Turns, Fails, MayRun}
use Rattle.ask_walk.proofs.Settling.{Settling, settled_stays, stopped_before, settling_stops, settled_fits, stopped_at_price, settling_ends}

-- the bench computes as it did, and the object is the same
pub turns_of : (calc calc2 : Calc) (m : Market) (o o2 : ℕ) (old new : List Kept) (turn : Turn) (count count2 : ℕ) (log log2 : Option (List (ℕ × Bool)))
    → calc ≡ calc2 → o ≡ o2 → Turns calc m o old new turn count count2 log log2 → Turns calc2 m o2 old new turn count count2 log log2
turns_of calc calc2 m o o2 old new turn count count2 log log2 same is t =
    subst (λ (k : Calc). Turns k m o2 old new turn count count2 log log2) same (subst (λ (n : ℕ). Turns calc m n old new turn count count2 log log2) is t)

pub fails_of : (m : Market) (o o2 : ℕ) (old new : List Kept) (count count2 : ℕ) (log log2 : Option (List (ℕ × Bool)))
    → o ≡ o2 → Fails m o old new count count2 log log2 → Fails m o2 old new count count2 log log2
fails_of m o o2 old new count count2 log log2 is f = subst (λ (n : ℕ). Fails m n old new count count2 log log2) is f

-- nothing was computed
settling_same : (calc : Calc) (s : State) (o count0 : ℕ) (log0 : Option (List (ℕ × Bool))) (kept after : List Kept) (number count count2 : ℕ) (log log2 : Option (List (ℕ × Bool)))
    → after ≡ kept → count2 ≡ count → log2 ≡ log → Settling calc s o count0 log0 kept number count log → Settling calc s o count0 log0 after number count2 log2
settling_same calc s o count0 log0 kept after number count count2 log log2 same counts logs a =
    subst (λ (k : List Kept). Settling calc s o count0 log0 k number count2 log2) (sym same)
    (subst (λ (n : ℕ). Settling calc s o count0 log0 kept number n log2) (sym counts)
    (subst (λ (l : Option (List (ℕ × Bool))). Settling calc s o count0 log0 kept number count l) (sym logs) a))

module _ (calc : Calc) (s : State) (o count0 : ℕ) (log0 : Option (List (ℕ × Bool))) (kept : List Kept) (number count : ℕ) (log : Option (List (ℕ × Bool))) (a : Settling calc s o count0 log0 kept number count log) where
  -- where the price is ready, its reading is well formed
  pub settled_run : MayRun s.market kept o
  settled_run = λ inputs terms ready there. settled_fits calc s o count0 log0 kept number count log a inputs ready terms there

  module _ (after : List Kept) (turn : Turn) (count2 : ℕ) (log2 : Option (List (ℕ × Bool))) (t : Turns calc s.market o kept after turn count count2 log log2) where
    did : (u : Turn) → turn ≡ u → HasTurned calc s.market o kept after u count count2 log log2
    did u is = subst (λ (v : Turn). HasTurned calc s.market o kept after v count count2 log log2) is t.did

    then_same : after ≡ kept → count2 ≡ count → log2 ≡ log → Settling calc s o count0 log0 after number count2 log2
    then_same same counts logs = settling_same calc s o count0 log0 kept after number count count2 log log2 same counts logs a

    -- an entry refuses
    pub reprice_stops : (cause : Cause) (answer : Asked) → turn ≡ turning.Stops cause → answer ≡ record { cause = Some cause; mark = Recalc; runs = number } → Reprices calc o s after answer count0 count2 log0 log2
    reprice_stops cause answer is said =
        let d = did (turning.Stops cause) is in
        settling_stops calc s o count0 log0 after number count2 log2 (then_same d.1 d.2 d.3) cause answer
        (ap (λ (k : List Kept). next_of (is_at_hand k) (answer_of k) (uses s.market o)) d.1 ∙ d.0) said

    -- an input is asked for
    pub reprice_waits : (y : ℕ) → turn ≡ turning.Waits y → Settling calc s o count0 log0 after number count2 log2 × (next_of (is_at_hand after) (answer_of after) (uses s.market o) ≡ next.First y) × (after ≡ kept)
    reprice_waits y is =
        let d = did (turning.Waits y) is in
        (then_same d.1 d.2 d.3, ap (λ (k : List Kept). next_of (is_at_hand k) (answer_of k) (uses s.market o)) d.1 ∙ d.0, d.1)

    -- the object was computed
    pub reprice_ran : (cause : Option Cause) (answer : Asked) → turn ≡ turning.Ran cause → answer ≡ record { cause = cause; mark = Recalc; runs = number + 1 } → Reprices calc o s after answer count0 count2 log0 log2
    reprice_ran cause answer is said =
        let d = did (turning.Ran cause) is in
        settling_ends calc s o count0 log0 kept number count log a d.0 d.1 after cause answer count2 log2 d.2 said

  -- memory ran out
  module _ (after : List Kept) (count2 : ℕ) (log2 : Option (List (ℕ × Bool))) (f : Fails s.market o kept after count count2 log log2) where
    pub reprice_fails : RecalcStops calc o s (record s { kept = after }) count0 count2 log0 log2
    reprice_fails = elim f.count [
      | inl same ↦ stopped_before calc s o count0 log0 after number count2 log2 (settling_same calc s o count0 log0 kept after number count count2 log log2 f.kept same f.log a)
      | inr ready ↦ stopped_at_price calc s o count0 log0 kept number count log a ready.0 ready.1 after count2 log2 f.kept ready.2 f.log
    ]

    pub fails_stay : Stays calc (record s { kept = after })
    fails_stay = subst (λ (k : List Kept). Stays calc (record s { kept = k })) (sym f.kept) (settled_stays calc s o count0 log0 kept number count log a)
