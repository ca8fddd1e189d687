-- What one turn leaves of an ask.
use Rattle.std.proofs.Common.{◌≡◌, inl, inr, ℕ, ◌+◌, Bool, true, false, List, [], ◌∷◌, ◌++◌, Option, Some, sym, subst}
use Rattle.std.specs.Prelude.{is_some}
use Rattle.desk_terms.specs.declared.cause.Cause.{Cause}
use Rattle.desk_terms.specs.declared.asked.Asked.{Asked}
use Rattle.desk_terms.specs.declared.asked.Mark.{Mark}
use Rattle.desk_terms.specs.Reading.{Calc}
use Rattle.desk_model.specs.declared.kept.Kept.{Kept}
use Rattle.desk_model.specs.Market.{Market, terms_at}
use Rattle.desk_model.specs.State.{State}
use Rattle.ask_walk.specs.declared.turning.Turn.{Turn}
use Rattle.ask_walk.specs.declared.turning.Turn.TheVariants as turning
use Rattle.ask_walk.specs.Asks.{Walks, Stops, Stays}
use Rattle.ask_walk.specs.Begun.{Keeps}
use Rattle.ask_walk.specs.Turns.{HasTurned, Turns, Fails, MayRun}
use Rattle.ask_walk.proofs.Loop.{Asking, open_of, left, left_refused, top_lazy, top_busy, pushes, stops, fits, faulted, valued, lazy_terms}
use Rattle.ask_walk.proofs.Fronted.{stopped, stopped_in_bench}
use Rattle.ask_walk.proofs.Keeping.{keeps_same, keeps_valued}

-- the bench computes as it did
pub turns_with : (calc calc2 : Calc) (m : Market) (o : ℕ) (old new : List Kept) (turn : Turn) (count count2 : ℕ) (log log2 : Option (List (ℕ × Bool)))
    → calc ≡ calc2 → Turns calc m o old new turn count count2 log log2 → Turns calc2 m o old new turn count count2 log log2
turns_with calc calc2 m o old new turn count count2 log log2 same t = subst (λ (k : Calc). Turns k m o old new turn count count2 log log2) same t

-- an ask with the same stack
pub asking_on : (calc : Calc) (s : State) (o count0 : ℕ) (log0 : Option (List (ℕ × Bool))) (stack stack2 : List ℕ) (kept : List Kept) (number count : ℕ) (log : Option (List (ℕ × Bool)))
    → stack2 ≡ stack → Asking calc s o count0 log0 stack kept number count log → Asking calc s o count0 log0 stack2 kept number count log
asking_on calc s o count0 log0 stack stack2 kept number count log same a = subst (λ (l : List ℕ). Asking calc s o count0 log0 l kept number count log) (sym same) a

-- nothing was computed
asking_same : (calc : Calc) (s : State) (o count0 : ℕ) (log0 : Option (List (ℕ × Bool))) (stack : List ℕ) (kept after : List Kept) (number count count2 : ℕ) (log log2 : Option (List (ℕ × Bool)))
    → after ≡ kept → count2 ≡ count → log2 ≡ log → Asking calc s o count0 log0 stack kept number count log → Asking calc s o count0 log0 stack after number count2 log2
asking_same calc s o count0 log0 stack kept after number count count2 log log2 same counts logs a =
    subst (λ (k : List Kept). Asking calc s o count0 log0 stack k number count2 log2) (sym same)
    (subst (λ (n : ℕ). Asking calc s o count0 log0 stack kept number n log2) (sym counts)
    (subst (λ (l : Option (List (ℕ × Bool))). Asking calc s o count0 log0 stack kept number count l) (sym logs) a))

walks_same : (calc : Calc) (s : State) (o count0 : ℕ) (log0 : Option (List (ℕ × Bool))) (given : Mark) (answer : Asked) (kept after : List Kept) (count count2 : ℕ) (log log2 : Option (List (ℕ × Bool)))
    → after ≡ kept → count2 ≡ count → log2 ≡ log → Walks calc o s (record s { kept = kept }) given answer count0 count log0 log → Walks calc o s (record s { kept = after }) given answer count0 count2 log0 log2
walks_same calc s o count0 log0 given answer kept after count count2 log log2 same counts logs w =
    subst (λ (k : List Kept). Walks calc o s (record s { kept = k }) given answer count0 count2 log0 log2) (sym same)
    (subst (λ (n : ℕ). Walks calc o s (record s { kept = kept }) given answer count0 n log0 log2) (sym counts)
    (subst (λ (l : Option (List (ℕ × Bool))). Walks calc o s (record s { kept = kept }) given answer count0 count log0 l) (sym logs) w))

module _ (calc : Calc) (s : State) (o count0 : ℕ) (log0 : Option (List (ℕ × Bool))) (stack : List ℕ) (top : ℕ) (kept : List Kept) (number count : ℕ) (log : Option (List (ℕ × Bool))) (a : Asking calc s o count0 log0 (stack ++ top ∷ []) kept number count log) where
  -- where the price of the object on top is ready, its reading is well formed
  pub may_run : MayRun s.market kept top
  may_run = λ inputs terms next there. fits calc s o count0 log0 stack top kept number count log a inputs terms next there

  module _ (after : List Kept) (turn : Turn) (count2 : ℕ) (log2 : Option (List (ℕ × Bool))) (t : Turns calc s.market top kept after turn count count2 log log2) where
    did : (u : Turn) → turn ≡ u → HasTurned calc s.market top kept after u count count2 log log2
    did u is = subst (λ (v : Turn). HasTurned calc s.market top kept after v count count2 log log2) is t.did

    -- an entry refuses
    pub turn_stops : (cause : Cause) (given : Mark) (answer : Asked) → turn ≡ turning.Stops cause → answer ≡ record { cause = Some cause; mark = given; runs = number }
        → Walks calc o s (record s { kept = after }) given answer count0 count2 log0 log2
    turn_stops cause given answer is said =
        let d = did (turning.Stops cause) is in
        walks_same calc s o count0 log0 given answer kept after count count2 log log2 d.1 d.2 d.3 (stops calc s o count0 log0 stack top kept number count log a cause given answer d.0 said)

    pub turn_stopped : (cause : Cause) → turn ≡ turning.Stops cause → Asking calc s o count0 log0 (stack ++ top ∷ []) after number count2 log2 × (after ≡ kept)
    turn_stopped cause is =
        let d = did (turning.Stops cause) is in (asking_same calc s o count0 log0 (stack ++ top ∷ []) kept after number count count2 log log2 d.1 d.2 d.3 a, d.1)

    -- the object on top waits
    pub turn_waits : (y : ℕ) → turn ≡ turning.Waits y → Asking calc s o count0 log0 ((stack ++ top ∷ []) ++ y ∷ []) after number count2 log2 × (after ≡ kept)
    turn_waits y is =
        let d = did (turning.Waits y) is in (
          asking_same calc s o count0 log0 ((stack ++ top ∷ []) ++ y ∷ []) kept after number count count2 log log2 d.1 d.2 d.3 (pushes calc s o count0 log0 stack top kept number count log a y d.0),
          d.1,
        )

    -- it was refused
    pub turn_faulted : (cause : Option Cause) (number2 : ℕ) (given : Mark) (answer : Asked) → turn ≡ turning.Ran cause → is_some cause ≡ true → number2 ≡ number + 1 → answer ≡ record { cause = cause; mark = given; runs = number2 }
        → Walks calc o s (record s { kept = after }) given answer count0 count2 log0 log2
    turn_faulted cause number2 given answer is refused more said =
        let d = did (turning.Ran cause) is in
        faulted calc s o count0 log0 stack top kept number count log a d.0 after cause number2 count2 log2 given answer d.1 d.2 refused more said

    pub turn_refused : (cause : Option Cause) → turn ≡ turning.Ran cause → is_some cause ≡ true → Stays calc (record s { kept = after })
    turn_refused cause is refused =
        let d = did (turning.Ran cause) is in
        left_refused calc s top d.0 kept after cause count count2 log log2 (left calc s o count0 log0 (stack ++ top ∷ []) kept number count log a) (top_lazy calc s o count0 log0 stack top kept number count log a) d.2 refused

    -- it has a value
    pub turn_valued : (cause : Option Cause) (number2 : ℕ) → turn ≡ turning.Ran cause → is_some cause ≡ false → number2 ≡ number + 1
        → Asking calc s o count0 log0 stack after number2 count2 log2 × (open_of after + 1 ≡ open_of kept)
    turn_valued cause number2 is none more =
        let d = did (turning.Ran cause) is in
        valued calc s o count0 log0 stack top kept number count log a d.0 after cause number2 count2 log2 d.1 d.2 none more

    pub turn_keeps : (cause : Option Cause) → turn ≡ turning.Ran cause → Keeps kept after
    turn_keeps cause is =
        let d = did (turning.Ran cause) is in
        keeps_valued calc s.market top d.0 kept after cause count count2 log log2 (top_busy calc s o count0 log0 stack top kept number count log a) (top_lazy calc s o count0 log0 stack top kept number count log a) d.2

  -- memory ran out
  module _ (after : List Kept) (count2 : ℕ) (log2 : Option (List (ℕ × Bool))) (f : Fails s.market top kept after count count2 log log2) where
    pub turn_fails : Stops calc o s (record s { kept = after }) count0 count2 log0 log2
    turn_fails = elim f.count [
      | inl same ↦ stopped calc s o count0 log0 (stack ++ top ∷ []) after number count2 log2 (asking_same calc s o count0 log0 (stack ++ top ∷ []) kept after number count count2 log log2 f.kept same f.log a)
      | inr ready ↦
          let t = lazy_terms (terms_at s.market top) (top_lazy calc s o count0 log0 stack top kept number count log a) in
          stopped_in_bench calc s o count0 log0 stack top kept number count log a ready.0 t.0 after count2 log2 ready.1 t.1 f.kept ready.2 f.log
    ]

    pub fails_stays : Stays calc (record s { kept = after })
    fails_stays = subst (λ (k : List Kept). Stays calc (record s { kept = k })) (sym f.kept) (left calc s o count0 log0 (stack ++ top ∷ []) kept number count log a)

    pub fails_keeps : Keeps kept after
    fails_keeps = keeps_same kept after f.kept
