-- What the table by names says of watchers.
use Rattle.std.proofs.Common.{◌≡◌, ℕ, ◌<◌, true, List, [], ◌∷◌, Option, None, Some, sym, ◌∙◌, ap, subst, refl}
use Rattle.std.specs.Prelude.{IfSome, IfNone}
use Rattle.std.proofs.lemmas.Bool.{false≢true}
use Rattle.desk_model.specs.declared.slot.Slot.{Slot}
use Rattle.desk_model.specs.declared.slot.Slot.TheVariants.{Free, Today, Watcher, Live}
use Rattle.desk_model.specs.Market.{slot_at, is_given, is_watcher}
use Rattle.desk_model.specs.State.{State}
use Rattle.session_model.specs.Standing.{Standing, name_of}
use Rattle.session_core.specs.HasNames.{IsNamed, HasNames}
use Rattle.session_core.specs.Watchers.{IsAWatcher, AreWatchers}
use Rattle.session_core.proofs.Naming.{given_within, name_within}
use Rattle.session_core.proofs.Alike.{names_stay}

watcher_given : (slot : Slot) → is_watcher slot ≡ true → is_given slot ≡ true
watcher_given Free e = absurd (false≢true e)
watcher_given Today e = refl
watcher_given Watcher e = refl
watcher_given (Live terms) e = refl

nil_cons : {w : ℕ} {ws : List ℕ} → [] ≡ w ∷ ws → ⊥
nil_cons e = cc

some_same : {a b : ℕ} → Some a ≡ Some b → a ≡ b
some_same e = cc

pub are_watchers : (p : Standing) (of_name : List (Option ℕ)) (live : ℕ) → HasNames p of_name live → AreWatchers p
are_watchers p of_name live h w is = record {
  live = is;
  listed = subst (λ (n : ℕ). w < n) (sym h.objects) (given_within p.state.market w (given w is));
  named = subst (λ (n : ℕ). name_of p w < n) h.table (name_within p of_name live (name_of p w) w h (named w is));
  alone = λ v watches same. some_same (sym (h.all (name_of p w) v (given v watches, same)) ∙ h.all (name_of p w) w (named w is));
}
  where
    given : (o : ℕ) → is_watcher (slot_at p.state.market o) ≡ true → is_given (slot_at p.state.market o) ≡ true
    given o watches = watcher_given (slot_at p.state.market o) watches

    named : (o : ℕ) → is_watcher (slot_at p.state.market o) ≡ true → IsNamed p.state.market p.of_object (name_of p o) o
    named o watches = (given o watches, refl)

-- what is left where a watcher that was told is handed out, or none is left
module _ (s t : State) (told : Option ℕ) (none : IfNone told ((s.noticed ≡ []) × (t ≡ s)))
    (some : IfSome told (λ w. (s.noticed ≡ w ∷ t.noticed) × (t ≡ record s { noticed = t.noticed }))) where
  pub told_left : t ≡ record s { noticed = t.noticed }
  told_left = by told none some
    where
      by : (r : Option ℕ) → IfNone r ((s.noticed ≡ []) × (t ≡ s))
          → IfSome r (λ w. (s.noticed ≡ w ∷ t.noticed) × (t ≡ record s { noticed = t.noticed })) → t ≡ record s { noticed = t.noticed }
      by None n m = subst (λ (u : State). u ≡ record s { noticed = u.noticed }) (sym n.1) refl
      by (Some w) n m = m.1

  pub told_heard : s.noticed ≡ [] → t.noticed ≡ []
  told_heard empty = by told none some
    where
      by : (r : Option ℕ) → IfNone r ((s.noticed ≡ []) × (t ≡ s))
          → IfSome r (λ w. (s.noticed ≡ w ∷ t.noticed) × (t ≡ record s { noticed = t.noticed })) → t.noticed ≡ []
      by None n m = ap (λ (u : State). u.noticed) n.1 ∙ empty
      by (Some w) n m = absurd (nil_cons (sym empty ∙ m.0))

-- and what a session is whose desk handed a watcher out
module _ (p : Standing) (t : State) (left : t ≡ record p.state { noticed = t.noticed }) where
  pub handed_left : (q : Standing) → p ≡ q → (record p { state = t }) ≡ record q { state = record q.state { noticed = t.noticed } }
  handed_left q same = subst (λ (r : Standing). (record p { state = t }) ≡ record r { state = record r.state { noticed = t.noticed } }) same
      (ap (λ (s : State). let z : Standing = record p { state = s } in z) left)

  pub handed_watcher : (of_name : List (Option ℕ)) (live w : ℕ) → HasNames p of_name live → is_watcher (slot_at p.state.market w) ≡ true
      → IsAWatcher (record p { state = t }) w
  handed_watcher of_name live w h is = are_watchers (record p { state = t }) of_name live
      (names_stay p of_name live t (ap (λ (s : State). s.market) left) h) w
      (ap (λ (s : State). is_watcher (slot_at s.market w)) left ∙ is)
