-- The lines of objects that are not priced.
use Rattle.std.proofs.Common.{◌≡◌, ℕ, ℤ, true, List, [], ◌++◌, Option, Some, None, refl, sym, ◌∙◌, ap, subst}
use Rattle.std.specs.Prelude.{codes}
use Rattle.day_number.specs.Day.{day_text}
use Rattle.desk_terms.specs.declared.terms.Terms.{Terms}
use Rattle.desk_terms.specs.declared.terms.Terms.TheVariants.{Quote, Derived, Handle, Curve, Implied, Index, Engine}
use Rattle.desk_terms.specs.declared.terms.Terms.TheVariants.{Stock, Composite, Flows}
use Rattle.desk_terms.specs.declared.terms.HandleKind as handle
use Rattle.desk_terms.specs.declared.kind.Kind as kind
use Rattle.desk_terms.specs.Reading.{Calc}
use Rattle.desk_terms.specs.Terms.{kind_of}
use Rattle.desk_model.specs.declared.slot.Slot.{Slot}
use Rattle.desk_model.specs.declared.slot.Slot.TheVariants as slot
use Rattle.desk_model.specs.Market.{slot_at, terms_at, kind_in, kind_at, role_of, is_forwarding, without}
use Rattle.desk_model.specs.Market.{edges_of}
use Rattle.desk_model.specs.State.{State}
use Rattle.object_store.specs.Objects.{bare}
use Rattle.session_model.specs.Standing.{Standing}
use Rattle.why_model.specs.Answer.{named, each_named, terms_word, rate_text, quote_text, passing_text, terms_text}
use Rattle.why_model.specs.Answer.{slot_text, object_lines}
use Rattle.session_why.proofs.ByKind.{slot_live}
use Rattle.session_why.proofs.Lined.{short_pieces, passing_pieces}
use Rattle.session_why.proofs.Told.{forwarder_told}

live_today : (terms : Terms) → Some (kind_of terms) ≡ Some kind.TheVariants.Today → ⊥
live_today (Quote value) is = cc
live_today (Derived minus first second) is = cc
live_today (Handle handle.TheVariants.Quote target) is = cc
live_today (Handle handle.TheVariants.Curve target) is = cc
live_today (Curve terms) is = cc
live_today (Implied curve reference) is = cc
live_today (Index terms fixings) is = cc
live_today (Engine curve) is = cc
live_today (Stock quote) is = cc
live_today (Composite parts) is = cc
live_today (Flows flows engine) is = cc

today_slot : (s : Slot) → kind_in s ≡ Some kind.TheVariants.Today → s ≡ slot.Today
today_slot slot.Free is = absurd (cc)
today_slot slot.Today is = refl
today_slot slot.Watcher is = absurd (cc)
today_slot (slot.Live terms) is = absurd (live_today terms is)

-- ---- what is written of an object that is not priced

module _ (calc : Calc) (p : Standing) (o : ℕ) where
  pub today_lines : kind_at p.state.market o ≡ Some kind.TheVariants.Today
      → named p o ++ codes " day " ++ day_text p.state.market.today ++ codes "\n" ≡ object_lines calc p o
  unfolding object_lines
  today_lines is = sym (ap (slot_text calc p o) (today_slot (slot_at p.state.market o) is))

  pub quote_lines : (rate : Option ℤ) → terms_at p.state.market o ≡ Some (Quote rate)
      → quote_text p o rate ≡ object_lines calc p o
  unfolding object_lines
  quote_lines rate is = sym (ap (slot_text calc p o) (slot_live (slot_at p.state.market o) (Quote rate) is))

  passing : (terms : Terms) → is_forwarding (role_of (Some terms)) ≡ true
      → terms_text calc p o terms ≡ passing_text p o terms
  passing (Quote value) is = absurd (cc)
  passing (Derived minus first second) is = refl
  passing (Handle kind target) is = refl
  passing (Curve terms) is = absurd (cc)
  passing (Implied curve reference) is = absurd (cc)
  passing (Index terms fixings) is = refl
  passing (Engine curve) is = refl
  passing (Stock quote) is = absurd (cc)
  passing (Composite parts) is = absurd (cc)
  passing (Flows flows engine) is = absurd (cc)

  pub passing_lines : (terms : Terms) → terms_at p.state.market o ≡ Some terms
      → is_forwarding (role_of (terms_at p.state.market o)) ≡ true
      → passing_text p o terms ≡ object_lines calc p o
  unfolding object_lines
  passing_lines terms are is =
      sym (ap (slot_text calc p o) (slot_live (slot_at p.state.market o) terms are)
      ∙ passing terms (subst (λ (f : Option Terms). is_forwarding (role_of f) ≡ true) are is))

  -- nothing is written of a number that no live object has, nor of a watcher
  pub no_lines : kind_at p.state.market o ≡ None → object_lines calc p o ≡ []
  unfolding object_lines
  no_lines is = by (slot_at p.state.market o) is
    where
      by : (s : Slot) → kind_in s ≡ None → slot_text calc p o s ≡ []
      by slot.Free is = refl
      by slot.Today is = absurd (cc)
      by slot.Watcher is = absurd (cc)
      by (slot.Live terms) is = absurd (cc)

  pub watcher_lines : kind_at p.state.market o ≡ Some kind.TheVariants.Watcher → object_lines calc p o ≡ []
  unfolding object_lines
  watcher_lines is = by (slot_at p.state.market o) is
    where
      live : (terms : Terms) → Some (kind_of terms) ≡ Some kind.TheVariants.Watcher → ⊥
      live (Quote value) is = cc
      live (Derived minus first second) is = cc
      live (Handle handle.TheVariants.Quote target) is = cc
      live (Handle handle.TheVariants.Curve target) is = cc
      live (Curve terms) is = cc
      live (Implied curve reference) is = cc
      live (Index terms fixings) is = cc
      live (Engine curve) is = cc
      live (Stock quote) is = cc
      live (Composite parts) is = cc
      live (Flows flows engine) is = cc

      by : (s : Slot) → kind_in s ≡ Some kind.TheVariants.Watcher → slot_text calc p o s ≡ []
      by slot.Free is = absurd (cc)
      by slot.Today is = absurd (cc)
      by slot.Watcher is = refl
      by (slot.Live terms) is = absurd (live terms is)

-- ---- piece by piece

module _ (calc : Calc) (p : Standing) (o : ℕ) (s : State) (same : s ≡ p.state) (old a b : List ℕ) where
  pub today_line : (day : ℤ) → day ≡ s.market.today → kind_at p.state.market o ≡ Some kind.TheVariants.Today
      → a ≡ old ++ named p o ++ codes " day" → b ≡ a ++ codes " " ++ day_text day
      → b ++ codes "\n" ≡ old ++ object_lines calc p o
  today_line day is kinded heads days =
      short_pieces (named p o) (codes " day") (day_text p.state.market.today) old a b heads
      (days ∙ ap (λ (d : ℤ). a ++ codes " " ++ day_text d) (is ∙ ap (λ (t : State). t.market.today) same))
      ∙ ap (λ (l : List ℕ). old ++ l) (today_lines calc p o kinded)

  pub quote_line : (rate : Option ℤ) → terms_at s.market o ≡ Some (Quote rate) → a ≡ old ++ named p o ++ codes " quote"
      → b ≡ a ++ codes " " ++ rate_text rate → b ++ codes "\n" ≡ old ++ object_lines calc p o
  quote_line rate are heads rates =
      short_pieces (named p o) (codes " quote") (rate_text rate) old a b heads rates
      ∙ ap (λ (l : List ℕ). old ++ l)
      (quote_lines calc p o rate (sym (ap (λ (t : State). terms_at t.market o) same) ∙ are))

  -- the terms of a forwarder as they are told
  told_forwarder : (told : Terms) → Some told ≡ bare (terms_at s.market o)
      → is_forwarding (role_of (terms_at p.state.market o)) ≡ true
      → terms_at p.state.market o ≡ Some told
  told_forwarder told is passes =
      sym (is ∙ ap (λ (t : State). bare (terms_at t.market o)) same ∙ forwarder_told (terms_at p.state.market o) passes)

  pub passing_line : (told : Terms) (subjects word : List ℕ) → Some told ≡ bare (terms_at s.market o)
      → is_forwarding (role_of (terms_at p.state.market o)) ≡ true → subjects ≡ edges_of (Some told)
      → word ≡ codes " " ++ terms_word told → a ≡ old ++ named p o ++ word → b ≡ a ++ each_named p (without 0 subjects)
      → b ++ codes "\n" ≡ old ++ object_lines calc p o
  passing_line told subjects word is passes observed words heads names =
      let are = told_forwarder told is passes in
      passing_pieces (named p o) (terms_word told) (each_named p (without 0 subjects)) old a b
      (heads ∙ ap (λ (l : List ℕ). old ++ named p o ++ l) words) names
      ∙ ap (λ (l : List ℕ). old
      ++ (named p o ++ codes " " ++ terms_word told ++ each_named p (without 0 l) ++ codes "\n"))
      (observed ∙ ap edges_of (sym are))
      ∙ ap (λ (l : List ℕ). old ++ l) (passing_lines calc p o told are passes)
