-- Where nothing beneath an object is frozen or a source, an ask shows the price afresh.
use Rattle.std.proofs.Common.{◌≡◌, ℕ, zero, suc, ◌<◌, Bool, true, false, length, None, refl, sym, ◌∙◌, arith}
use Rattle.std.specs.Prelude.{◌==◌, not, if◌then◌else◌}
use Rattle.std.proofs.lemmas.Bool.{or_right, or_from, or_parts, not-true, not_from_false, false_from_ne_true, false≢true}
use Rattle.walks.specs.Walk.{below_by, Among, Below}
use Rattle.walks.proofs.Walks.{only_below}
use Rattle.walks.proofs.Ranks.{below_wider, below_true, meets_below, meets_on}
use Rattle.desk_terms.specs.Reading.{Calc}
use Rattle.desk_model.specs.Market.{edges, is_forwarder}
use Rattle.desk_model.specs.Uses.{needs}
use Rattle.desk_model.specs.Fresh.{fresh}
use Rattle.desk_model.specs.State.{State, is_frozen, is_source, is_late, is_held_back, is_clear, held_outcome, seen_outcome, now, shows}
use Rattle.desk_model.specs.Links.{IsLinked}
use Rattle.desk_model.proofs.Locality.{needs_near, needs_fall}
use Rattle.desk_model.proofs.Bounds.{same_price, ranks_of, fresh_is}
use Rattle.desk_model.proofs.Shown.{seen_free, free_held}

module _ (s : State) (links : IsLinked s.market) where
  below_back : (o : ℕ) → Below (edges s.market) (is_held_back s) (λ x. true) o → is_clear s o ≡ true → ⊥
  unfolding is_clear
  below_back o below clear =
      let r = ranks_of s.market links in
      let p = or_parts (is_held_back s o) _ (not-true _ clear) in
      false≢true (sym p.1 ∙ below_true (edges s.market) (is_held_back s) (λ x. true) r.0 r.1 (suc (length s.market.objects)) o (r.2 o) below)

  clear_free : (o : ℕ) → is_clear s o ≡ true → held_outcome s o ≡ None
  unfolding is_clear is_late
  clear_free o clear =
      let p = or_parts (is_held_back s o) _ (not-true _ clear) in
      let own = or_parts (is_frozen s o) (is_source s o) p.0 in
      free_held s o own.0 (or_from (is_source s o) _ own.1 (false_from_ne_true (below_by (edges s.market) (is_source s) (λ x. not (is_frozen s x)) (suc (length s.market.objects)) o)
      (λ late. below_back o (below_wider (edges s.market) (is_source s) (is_held_back s) (λ x. not (is_frozen s x)) (λ x. true) (λ x e. or_right (is_frozen s x) (is_source s x) e) (λ x e. refl) o (only_below (edges s.market) (is_source s) (λ x. not (is_frozen s x)) (suc (length s.market.objects)) o late)) clear)))

  clear_needs : (o y : ℕ) → is_clear s o ≡ true → Among y (needs s.market o) → is_clear s y ≡ true
  unfolding is_clear
  clear_needs o y clear among =
      let path = below_wider (edges s.market) (λ z. z == y) (λ z. z == y) (is_forwarder s.market) (λ z. true) (λ z e. e) (λ z e. refl) o (needs_near s.market o y among) in
      not_from_false _ (or_from (is_held_back s y) _
      (false_from_ne_true (is_held_back s y) (λ is. below_back o (meets_below (edges s.market) (is_held_back s) (λ z. true) y o is path) clear))
      (false_from_ne_true _ (λ deep. below_back o (meets_on (edges s.market) (is_held_back s) (λ z. true) y o refl (only_below (edges s.market) (is_held_back s) (λ z. true) (suc (length s.market.objects)) y deep) path) clear)))

  clear_by : (calc : Calc) (n o : ℕ) → (ranks_of s.market links).0 o < n → is_clear s o ≡ true
      → seen_outcome calc s o ≡ fresh calc s.market o
  unfolding now
  clear_by calc zero o p clear = absurd (omega arith)
  clear_by calc (suc n) o p clear =
      seen_free calc s links o (clear_free o clear)
      ∙ same_price calc s.market (seen_outcome calc s) (fresh calc s.market) o (λ y among. let fall = needs_fall s.market (ranks_of s.market links).0 (ranks_of s.market links).1 o y among in clear_by calc n y (omega arith) (clear_needs o y clear among))
      ∙ sym (fresh_is calc s.market links o)

  -- THE HEADLINE'S CLAUSE
  pub clear_fresh : (calc : Calc) (o : ℕ) → is_clear s o ≡ true → seen_outcome calc s o ≡ fresh calc s.market o
  clear_fresh calc o clear = clear_by calc (suc ((ranks_of s.market links).0 o)) o (omega arith) clear

  -- what an ask shows is what is seen
  pub shows_seen : (calc : Calc) (o : ℕ) → shows calc s o ≡ seen_outcome calc s o
  unfolding shows
  shows_seen calc o = by_clear (is_clear s o) (λ is. clear_fresh calc o is)
    where
      by_clear : (b : Bool) → (b ≡ true → seen_outcome calc s o ≡ fresh calc s.market o)
          → (if b then fresh calc s.market o else seen_outcome calc s o) ≡ seen_outcome calc s o
      by_clear true same = sym (same refl)
      by_clear false same = refl
