-- What is told of an object that is no watcher goes along edges alone: watchers have registrations, and pass nothing on.
use Rattle.std.proofs.Common.{◌≡◌, inl, ℕ, zero, suc, Bool, true, false, List, [], ◌∷◌, ◌++◌, length, refl, sym, ◌∙◌, ap}
use Rattle.std.specs.Prelude.{◌&&◌, ◌||◌}
use Rattle.std.proofs.lemmas.Bool.{false≢true, false_from_ne_true}
use Rattle.std.specs.List.{list_any}
use Rattle.walks.specs.Walk.{below_by, Among}
use Rattle.walks.proofs.Ranks.{same_any}
use Rattle.desk_terms.specs.Kind.{Role}
use Rattle.desk_terms.specs.Kind.Role.{Source, Forwarder, Lazy, Watching}
use Rattle.desk_model.specs.declared.kept.Kept.{Kept}
use Rattle.desk_model.specs.declared.slot.Slot.{Slot}
use Rattle.desk_model.specs.declared.slot.Slot.TheVariants.{Free, Today, Watcher, Live}
use Rattle.desk_model.specs.Market.{Market, slot_at, terms_in, terms_at, is_watcher, is_observable, is_lazy, is_forwarding, is_forwarder, role_of, edges}
use Rattle.desk_model.specs.State.{State, kept_at, is_frozen}
use Rattle.desk_model.specs.Told.{registered, subjects, forwards_as, forwards, told}
use Rattle.desk_model.specs.Links.{is_lazy_at, IsWhole, CanTell}
use Rattle.std.proofs.lemmas.List.{append-nil}

-- only watchers are registered
abbrev pub RegistersWatchers : State → Type 0
RegistersWatchers s = (w x : ℕ) → Among x (registered s.registrations w) → is_watcher (slot_at s.market w) ≡ true

pub whole_registers : (s : State) → IsWhole s → RegistersWatchers s
whole_registers s whole w x among = (whole.registered w x among).watcher

-- in a state that is whole a notice goes to the right places
pub whole_tells : (s : State) → IsWhole s → CanTell s.market s.registrations s.noticed
whole_tells s whole = record { links = whole.links; registered = whole.registered; watchers = whole.noticed }

-- an object that is no watcher
abbrev pub IsPlain : Market → ℕ → Type 0
IsPlain m o = is_watcher (slot_at m o) ≡ false

lazy_plain_in : (slot : Slot) → is_lazy (role_of (terms_in slot)) ≡ true → is_watcher slot ≡ false
lazy_plain_in Free is = refl
lazy_plain_in Today is = refl
lazy_plain_in Watcher is = absurd (cc)
lazy_plain_in (Live terms) is = refl

pub lazy_plain : (m : Market) (o : ℕ) → is_lazy_at m o ≡ true → IsPlain m o
lazy_plain m o is = lazy_plain_in (slot_at m o) is

observed_plain_in : (slot : Slot) → is_observable slot ≡ true → is_watcher slot ≡ false
observed_plain_in Free is = refl
observed_plain_in Today is = refl
observed_plain_in Watcher is = absurd (cc)
observed_plain_in (Live terms) is = refl

pub observed_plain : (m : Market) (o : ℕ) → is_observable (slot_at m o) ≡ true → IsPlain m o
observed_plain m o is = observed_plain_in (slot_at m o) is

passing_plain_in : (slot : Slot) (kept : Kept) → forwards_as (role_of (terms_in slot)) kept ≡ true
    → is_watcher slot ≡ false
passing_plain_in Free kept is = refl
passing_plain_in Today kept is = refl
passing_plain_in Watcher kept is = absurd (cc)
passing_plain_in (Live terms) kept is = refl

-- what passes a notice on is no watcher
pub passing_plain : (s : State) (o : ℕ) → forwards s o ≡ true → IsPlain s.market o
unfolding forwards
passing_plain s o is = passing_plain_in (slot_at s.market o) (kept_at s o) is

none_in : (xs : List ℕ) → ((x : ℕ) → Among x xs → ⊥) → xs ≡ []
none_in [] none = refl
none_in (x ∷ xs) none = absurd (none x (inl refl))

pub subjects_plain : (s : State) → RegistersWatchers s → (o : ℕ) → IsPlain s.market o → subjects s o ≡ edges s.market o
subjects_plain s only o plain = ap (λ (xs : List ℕ). edges s.market o ++ xs) (none_in (registered s.registrations o) (λ x among. false≢true (sym plain ∙ only o x among)))
    ∙ append-nil (edges s.market o)

module _ (s : State) (only : RegistersWatchers s) (from : ℕ → Bool) where
  below_plain : (n o : ℕ) → IsPlain s.market o
      → below_by (subjects s) from (forwards s) n o ≡ below_by (edges s.market) from (forwards s) n o
  unfolding below_by
  below_plain zero o plain = refl
  below_plain (suc n) o plain =
      ap (list_any (λ x. from x || (forwards s x && below_by (subjects s) from (forwards s) n x))) (subjects_plain s only o plain)
      ∙ same_any (λ x. from x || (forwards s x && below_by (subjects s) from (forwards s) n x)) (λ x. from x || (forwards s x && below_by (edges s.market) from (forwards s) n x)) (edges s.market o)
      (λ x among. ap (λ (b : Bool). from x || b) (by_passing (forwards s x) _ _ (λ on. below_plain n x (passing_plain s x on))))
    where
      by_passing : (b c d : Bool) → (b ≡ true → c ≡ d) → (b && c) ≡ (b && d)
      by_passing true c d same = same refl
      by_passing false c d same = refl

  pub told_plain : (o : ℕ) → IsPlain s.market o
      → told s from o ≡ below_by (edges s.market) from (forwards s) (suc (length s.market.objects)) o
  unfolding told
  told_plain o plain = below_plain (suc (length s.market.objects)) o plain

-- a forwarder is never frozen
not_both_roles : (role : Role) → is_forwarding role ≡ true → is_lazy role ≡ true → ⊥
not_both_roles Source is lazy = cc
not_both_roles Forwarder is lazy = cc
not_both_roles Lazy is lazy = cc
not_both_roles Watching is lazy = cc

pub thawed_forwarder : (s : State) → IsWhole s → (x : ℕ) → is_forwarder s.market x ≡ true → is_frozen s x ≡ false
unfolding is_frozen
thawed_forwarder s whole x is = false_from_ne_true (kept_at s x).frozen (λ frozen. not_both_roles (role_of (terms_at s.market x)) is (whole.frozen x frozen))
