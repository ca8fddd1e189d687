-- The asks of a ladder leave the market as it was, and hold nothing back.
use Rattle.std.proofs.Common.{◌≡◌, ℕ, ◌+◌, inl, inr, Bool, true, false, List, [], ◌∷◌, length, ℤ, Option, Some, None, Result, Ok, Err, refl, sym, ◌∙◌, ap, subst}
use Rattle.std.specs.Prelude.{if◌then◌else◌, ◌||◌, neg_ℤ}
use Rattle.std.proofs.lemmas.Bool.{cases_lt}
use Rattle.desk_terms.specs.declared.cause.Cause.{Cause}
use Rattle.desk_terms.specs.declared.value.Value.{Value}
use Rattle.desk_terms.specs.Reading.{Outcome, Calc}
use Rattle.desk_model.specs.declared.kept.Kept.{Kept}
use Rattle.desk_model.specs.Market.{Market}
use Rattle.desk_model.specs.State.{State, kept_at, unpriced, is_frozen, is_source, is_held_back}
use Rattle.desk_model.specs.Visit.{value_among, with_value, stored, asked}
use Rattle.desk_model.specs.Unheld.{HoldsNothing}
use Rattle.desk_model.proofs.Unheld.{others_hold_nothing}
use Rattle.desk_model.proofs.Stores.{each_at, each_past}
use Rattle.std.proofs.lemmas.List.{get_or_past}
use Rattle.bump_model.specs.declared.moves.Quoted.{Quoted}
use Rattle.bump_model.specs.declared.ladder.Bump.{Bump}
use Rattle.bump_model.specs.declared.ladder.Bump.TheVariants.{One, Together}
use Rattle.bump_model.specs.declared.ladder.Missing.TheVariants.{Limit}
use Rattle.bump_model.specs.declared.ladder.Side.TheVariants.{NoPrice}
use Rattle.bump_model.specs.Moves.{moved, value_at, quoted, quoted_in, with_values, all_set, is_limit, AreQuoted, DifferAt, AreLive}
use Rattle.bump_model.specs.Sides.{worth, gain, side_of}
use Rattle.bump_model.specs.Asking.{none, ask_of, side_asking, sides_asking, rung_asking, asking_for, bump_asking, rungs_asking, behind_base, ladder_asking}
use Rattle.bump_model.proofs.Moving.{differ_none, moved_same, quoted_live, one_quoted, all_quoted, set_differ, set_back, set_unheld}

pub stored_market : (s : State) (calls : List (ℕ × Outcome)) → (stored s calls).market ≡ s.market
unfolding stored
stored_market s calls = refl

pub asked_market : (calc : Calc) (o : ℕ) (s : State) → (asked calc o s).market ≡ s.market
unfolding asked stored
asked_market calc o s = refl

-- ---- nothing is held back

flagged : Kept → Bool
flagged kept = kept.frozen || kept.source

value_flagged : (k : Kept) (value : Option Value) → flagged (with_value k value) ≡ flagged k
unfolding flagged
value_flagged k (Some value) = refl
value_flagged k None = refl

stored_flagged : (s : State) (calls : List (ℕ × Outcome)) (o : ℕ) → flagged (kept_at (stored s calls) o) ≡ flagged (kept_at s o)
unfolding stored
stored_flagged s calls o = elim (cases_lt o (length s.kept)) [
  | inl within ↦
      ap flagged (each_at (λ o kept. with_value kept (value_among calls o)) 0 o s.kept within)
      ∙ value_flagged (kept_at s o) (value_among calls (0 + o))
  | inr past ↦ ap flagged (each_past (λ o kept. with_value kept (value_among calls o)) 0 o s.kept past ∙ sym (get_or_past s.kept o unpriced past))
]

stored_off : (s : State) (calls : List (ℕ × Outcome)) → (stored s calls).deferring ≡ s.deferring
unfolding stored
stored_off s calls = refl

held_flagged : (s : State) (o : ℕ) → is_held_back s o ≡ flagged (kept_at s o)
unfolding is_frozen is_source flagged
held_flagged s o = refl

pub stored_unheld : (s : State) (calls : List (ℕ × Outcome)) → HoldsNothing s → HoldsNothing (stored s calls)
stored_unheld s calls free = record {
  off = stored_off s calls ∙ free.off;
  free = λ o. held_flagged (stored s calls) o ∙ stored_flagged s calls o ∙ sym (held_flagged s o) ∙ free.free o;
}

-- ---- sides

module _ (calc : Calc) (o : ℕ) (m : Market) (group : List Quoted) (live : AreLive m group) where
  pub side_differ : (shift : ℤ) (s : State) → DifferAt group m s.market → DifferAt group m (side_asking calc o shift group s).next.market
  side_differ shift s differ = by (is_limit shift group)
    where
      by : (b : Bool) → DifferAt group m (if b then none s else ask_of calc o (all_set (moved shift) group s)).next.market
      by true = differ
      by false =
          subst (λ (n : Market). DifferAt group m n) (sym (asked_market calc o (all_set (moved shift) group s)))
          (set_differ (moved shift) group m s live differ)

  -- a side is that of the market before any was moved
  pub side_same : (base shift : ℤ) (n : Market) → DifferAt group m n → side_of calc n o base shift group ≡ side_of calc m o base shift group
  side_same base shift n differ = by (is_limit shift group)
    where
      by : (b : Bool) → (if b then NoPrice Limit else gain base (worth calc (with_values (moved shift) group n) o)) ≡
          (if b then NoPrice Limit else gain base (worth calc (with_values (moved shift) group m) o))
      by true = refl
      by false = ap (λ (l : Market). gain base (worth calc l o)) (moved_same (moved shift) group m n live differ)

pub rung_leaves : (calc : Calc) (size : ℤ) (s : State) (o : ℕ) (group : List Quoted) → AreQuoted s.market group
    → (rung_asking calc size o group s).next.market ≡ s.market
unfolding rung_asking
rung_leaves calc size s o group are =
    let live = quoted_live s.market group are in
    let up = side_differ calc o s.market group live size s (differ_none group s.market) in
    let down = side_differ calc o s.market group live (neg_ℤ size) (side_asking calc o size group s).next up in
    set_back group s.market (sides_asking calc size o group s).next are down

one_leaves : (calc : Calc) (size : ℤ) (m : Market) (o q : ℕ) (found : Option ℤ) → value_at m q ≡ found → (s : State) → s.market ≡ m
    → (asking_for calc size o q found s).next.market ≡ m
one_leaves calc size m o q None is s e = e
one_leaves calc size m o q (Some v) is s e =
    rung_leaves calc size s o (quoted q v ∷ []) (subst (λ (n : Market). AreQuoted n (quoted q v ∷ [])) (sym e) (one_quoted m q v is)) ∙ e

-- what a group of quotes has for its values in a market that is the one before
group_leaves : (calc : Calc) (size : ℤ) (m : Market) (o : ℕ) (quotes : List ℕ) (s : State) → s.market ≡ m
    → (rung_asking calc size o (quoted_in m quotes) s).next.market ≡ m
group_leaves calc size m o quotes s e =
    rung_leaves calc size s o (quoted_in m quotes)
    (subst (λ (n : Market). AreQuoted n (quoted_in m quotes)) (sym e) (all_quoted m quotes)) ∙ e

bump_leaves : (calc : Calc) (size : ℤ) (m : Market) (o : ℕ) (bump : Bump) (s : State) → s.market ≡ m
    → (bump_asking calc size m o bump s).next.market ≡ m
bump_leaves calc size m o (One q) s e = one_leaves calc size m o q (value_at m q) refl s e
bump_leaves calc size m o (Together label quotes) s e = group_leaves calc size m o quotes s e

pub rungs_leave : (calc : Calc) (size : ℤ) (m : Market) (o : ℕ) (bumps : List Bump) (s : State) → s.market ≡ m
    → (rungs_asking calc size m o bumps s).next.market ≡ m
unfolding rungs_asking
rungs_leave calc size m o [] s e = e
rungs_leave calc size m o (bump ∷ bumps) s e =
    rungs_leave calc size m o bumps (bump_asking calc size m o bump s).next (bump_leaves calc size m o bump s e)

pub ladder_leaves : (calc : Calc) (size : ℤ) (s : State) (o : ℕ) (bumps : List Bump)
    → (ladder_asking calc size o bumps s).next.market ≡ s.market
unfolding ladder_asking
ladder_leaves calc size s o bumps = by (worth calc s.market o)
  where
    by : (base : Result ℤ Cause) → (behind_base calc size s.market o bumps base (asked calc o s)).next.market ≡ s.market
    by (Ok base) = rungs_leave calc size s.market o bumps (asked calc o s) (asked_market calc o s)
    by (Err cause) = asked_market calc o s

-- ---- a ladder holds nothing back

module _ (calc : Calc) (size : ℤ) (o : ℕ) where
  side_unheld : (shift : ℤ) (group : List Quoted) (s : State) → HoldsNothing s → HoldsNothing (side_asking calc o shift group s).next
  side_unheld shift group s free = by (is_limit shift group)
    where
      by : (b : Bool) → HoldsNothing (if b then none s else ask_of calc o (all_set (moved shift) group s)).next
      by true = free
      by false = (others_hold_nothing (all_set (moved shift) group s) (set_unheld (moved shift) group s free)).ask calc o

  rung_unheld : (group : List Quoted) (s : State) → HoldsNothing s → HoldsNothing (rung_asking calc size o group s).next
  unfolding rung_asking
  rung_unheld group s free =
      set_unheld (λ value. value) group (sides_asking calc size o group s).next
      (side_unheld (neg_ℤ size) group (side_asking calc o size group s).next (side_unheld size group s free))

  one_unheld : (q : ℕ) (found : Option ℤ) (s : State) → HoldsNothing s → HoldsNothing (asking_for calc size o q found s).next
  one_unheld q None s free = free
  one_unheld q (Some v) s free = rung_unheld (quoted q v ∷ []) s free

  bump_unheld : (m : Market) (bump : Bump) (s : State) → HoldsNothing s → HoldsNothing (bump_asking calc size m o bump s).next
  bump_unheld m (One q) s free = one_unheld q (value_at m q) s free
  bump_unheld m (Together label quotes) s free = rung_unheld (quoted_in m quotes) s free

  rungs_unheld : (m : Market) (bumps : List Bump) (s : State) → HoldsNothing s → HoldsNothing (rungs_asking calc size m o bumps s).next
  unfolding rungs_asking
  rungs_unheld m [] s free = free
  rungs_unheld m (bump ∷ bumps) s free =
      rungs_unheld m bumps (bump_asking calc size m o bump s).next (bump_unheld m bump s free)

  pub ladder_unheld : (bumps : List Bump) (s : State) → HoldsNothing s → HoldsNothing (ladder_asking calc size o bumps s).next
  unfolding ladder_asking
  ladder_unheld bumps s free = by (worth calc s.market o)
    where
      first : HoldsNothing (asked calc o s)
      first = (others_hold_nothing s free).ask calc o

      by : (base : Result ℤ Cause) → HoldsNothing (behind_base calc size s.market o bumps base (asked calc o s)).next
      by (Ok base) = rungs_unheld s.market bumps (asked calc o s) first
      by (Err cause) = first
