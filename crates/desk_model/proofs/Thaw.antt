-- An object in the middle is no more frozen: it tells, or is a source, and all that is current is kept.
use Rattle.std.proofs.Common.{◌≡◌, ◌≢◌, ℕ, ◌<◌, Bool, true, false, length, refl, sym, ◌∙◌, ap, arith}
use Rattle.std.specs.Prelude.{if◌then◌else◌}
use Rattle.std.proofs.lemmas.List.{get_or-set_same, get_or-set_other, length-set}
use Rattle.desk_model.specs.declared.kept.Kept.{Kept}
use Rattle.desk_model.specs.State.{State, kept_at, unpriced, is_frozen, is_source}
use Rattle.desk_model.specs.Told.{tell}
use Rattle.desk_model.specs.Sound.{KeepsCurrent}
use Rattle.desk_model.specs.Links.{is_lazy_at, IsWhole}
use Rattle.desk_model.specs.Laws.{Keeps}
use Rattle.desk_model.specs.Effect.{unfrozen, notified, notified_as, thawed}
use Rattle.desk_model.proofs.Stores.{kept_with}
use Rattle.desk_model.proofs.Locality.{Near}
use Rattle.desk_model.proofs.Carried.{keeps_itself, self_before}
use Rattle.desk_model.proofs.Watchers.{whole_registers}
use Rattle.desk_model.proofs.Tells.{DiffersAt, keeps_notified_but, notified_current, notified_last, near_apart, beneath_at, whole_with, whole_notified}
use Rattle.desk_model.proofs.Changes.{lazy_within}

module _ (s : State) (x : ℕ) (whole : IsWhole s) (lazy : is_lazy_at s.market x ≡ true) where
  within_thaw : x < length s.kept
  within_thaw = let e = whole.length in let l = lazy_within s.market x lazy in omega arith

  thaw_there : (o : ℕ) → o ≢ x → kept_at (unfrozen x s) o ≡ kept_at s o
  thaw_there o other = get_or-set_other s.kept x o (record (kept_at s x) { frozen = false }) unpriced other

  thaw_here : kept_at (unfrozen x s) x ≡ record (kept_at s x) { frozen = false }
  thaw_here = get_or-set_same s.kept x (record (kept_at s x) { frozen = false }) unpriced within_thaw

  thaw_differs : DiffersAt x s (unfrozen x s)
  unfolding is_source is_frozen
  thaw_differs = record {
    length = omega arith;
    same = λ o other. record { terms = refl; day = λ is. refl };
    kept = thaw_there;
    source = kept_with s x (record (kept_at s x) { frozen = false }) (λ a b. a.source ≡ b.source) (λ j. refl) refl;
    deferring = refl;
    frozen = λ o other. ap (λ (k : Kept). k.frozen) (thaw_there o other);
  }

  whole_unfrozen : IsWhole (unfrozen x s)
  whole_unfrozen = whole_with x (record (kept_at s x) { frozen = false }) s whole (λ e. lazy) (λ e. lazy) (λ e. lazy) (whole.valued x)

  long : x < length (unfrozen x s).kept
  long = let e = length-set s.kept x (record (kept_at s x) { frozen = false }) in let w = within_thaw in omega arith

  -- what is beneath x stays as it was
  beneath : (b : Bool) (y : ℕ) → Near s.market y x → kept_at (notified_as b x (unfrozen x s)) y ≡ kept_at s y
  beneath b y near = beneath_at (unfrozen x s) x (record { within = whole.links.within; observed = whole.links.observed; acyclic = whole.links.acyclic }) (whole_registers (unfrozen x s) whole_unfrozen) b y near
      ∙ thaw_there y (near_apart s.market x whole.links y near)

  self_current : (b : Bool) → (kept_at (notified_as b x (unfrozen x s)) x).current ≡ true → (kept_at s x).current ≡ true
  self_current b current = ap (λ (k : Kept). k.current) (sym thaw_here)
      ∙ notified_current x (unfrozen x s) long b x current

  self_last : (b : Bool) → (kept_at (notified_as b x (unfrozen x s)) x).last ≡ (kept_at s x).last
  self_last b = notified_last x (unfrozen x s) long b x ∙ ap (λ (k : Kept). k.last) thaw_here

  notified_same : (b : Bool) → (notified_as b x (unfrozen x s)).market ≡ s.market
  unfolding tell
  notified_same true = refl
  notified_same false = refl

  thaw_others : (b : Bool) → s.deferring ≡ b → KeepsCurrent s (notified_as b x (unfrozen x s))
  thaw_others b on = keeps_notified_but x s (unfrozen x s) whole whole_unfrozen.links (whole_registers (unfrozen x s) whole_unfrozen) long thaw_differs b on
      (λ current none. self_before s x whole.links (notified_as b x (unfrozen x s)) (notified_same b) (beneath b) (self_last b) (self_current b current) none)

  pub thaw_keeps : Keeps s (thawed x s)
  unfolding thawed notified
  thaw_keeps = by_frozen (is_frozen s x)
    where
      by_frozen : (b : Bool) → Keeps s (if b then notified_as s.deferring x (unfrozen x s) else s)
      by_frozen true = record { whole = whole_notified x (unfrozen x s) whole_unfrozen s.deferring; current = thaw_others s.deferring refl }
      by_frozen false = keeps_itself s whole
