-- What a walk finds is what lies below, and no bound above the number of objects matters.
use Rattle.std.proofs.Common.{◌≡◌, inl, inr, ℕ, zero, suc, ◌<◌, Bool, true, false, List, [], ◌++◌, length, Option, Some, None, refl, sym, ◌∙◌, ap, subst, arith}
use Rattle.std.specs.Prelude.{◌↔◌, ◌==◌, not, if◌then◌else◌, is_some}
use Rattle.std.proofs.lemmas.Bool.{cases_Bool, cases_eq, cases_lt, or_cases, or_left, or_right, and_parts, and_from, eqb-true, eq-eqb, false≢true, false_from_ne_true}
use Rattle.std.proofs.lemmas.List.{get_or_past}
use Rattle.walks.specs.Walk.{below_by, Among, Below, IsWithin, IsAcyclic}
use Rattle.walks.proofs.Walks.{only_below}
use Rattle.walks.proofs.Ranks.{below_true, below_meets, meets_below}
use Rattle.walks.proofs.Small.{small_ranks}
use Rattle.desk_terms.specs.Reading.{Calc}
use Rattle.desk_model.specs.declared.kept.Kept.{Kept}
use Rattle.desk_model.specs.declared.slot.Slot.{Slot}
use Rattle.desk_model.specs.declared.slot.Slot.TheVariants.{Free, Today, Watcher, Live}
use Rattle.desk_model.specs.Market.{Market, slot_at, terms_in, is_watcher, is_forwarder, edges_of, edges, or_number, least_where}
use Rattle.desk_model.specs.Uses.{input_by, input_at}
use Rattle.desk_model.specs.Fresh.{answer_by}
use Rattle.desk_model.specs.State.{State, unpriced, is_frozen, is_source, is_late, is_late_of, is_held_back, least_source, held_outcome, seen_outcome}
use Rattle.desk_model.specs.Told.{registered, subjects, forwards, told}
use Rattle.desk_model.specs.Links.{IsLinked, IsWhole, CanTell, reaches}
use Rattle.desk_model.specs.Sound.{has_source}
use Rattle.desk_model.specs.Visit.{visit_by, runs}
use Rattle.desk_model.specs.Laws.{WalksFindPaths}
use Rattle.desk_model.proofs.Locality.{input_same}
use Rattle.desk_model.proofs.Bounds.{ranks_of, answer_steps}
use Rattle.desk_model.proofs.Visits.{visit_steps}
use Rattle.desk_model.proofs.Watchers.{RegistersWatchers, observed_plain, subjects_plain, whole_tells}
use Rattle.desk_model.proofs.Changes.{observed_within}

both : {P Q : Type 0} → (P → Q) → (Q → P) → P ↔ Q
both there back = (there, back)

-- a long walk over edges with ranks finds exactly what lies below
module _ (reads : ℕ → List ℕ) (n : ℕ) (within : IsWithin reads n) (acyclic : IsAcyclic reads) (found through : ℕ → Bool) where
  pub exactly_below : (o : ℕ) → (below_by reads found through (suc n) o ≡ true) ↔ Below reads found through o
  exactly_below o = both (only_below reads found through (suc n) o) (λ below. let r = small_ranks reads n within acyclic in below_true reads found through r.0 r.1 (suc n) o (r.2 o) below)

-- what objects and watchers observe has ranks too
no_edges_in : (slot : Slot) → is_watcher slot ≡ true → edges_of (terms_in slot) ≡ []
no_edges_in Free is = absurd (cc)
no_edges_in Today is = absurd (cc)
no_edges_in Watcher is = refl
no_edges_in (Live terms) is = absurd (cc)

module _ (s : State) (can : CanTell s.market s.registrations s.noticed) where
  only : RegistersWatchers s
  only w x among = (can.registered w x among).watcher

  watched_plain : (o x : ℕ) → is_watcher (slot_at s.market o) ≡ true → Among x (subjects s o)
      → is_watcher (slot_at s.market x) ≡ false
  watched_plain o x is among = observed_plain s.market x (can.registered o x (subst (λ (l : List ℕ). Among x (l ++ registered s.registrations o)) (no_edges_in (slot_at s.market o) is) among)).observed

  watched_within : (o x : ℕ) → Among x (subjects s o) → x < length s.market.objects
  watched_within o x among = elim (cases_Bool (is_watcher (slot_at s.market o))) [
    | inl is ↦ observed_within s.market x (can.registered o x (subst (λ (l : List ℕ). Among x (l ++ registered s.registrations o)) (no_edges_in (slot_at s.market o) is) among)).observed
    | inr plain ↦ can.links.within o x (subst (λ (l : List ℕ). Among x l) (subjects_plain s only o plain) among)
  ]

  rank_of : ℕ → ℕ
  rank_of o = if is_watcher (slot_at s.market o) then suc (length s.market.objects) else (ranks_of s.market can.links).0 o

  plain_rank : (o : ℕ) → is_watcher (slot_at s.market o) ≡ false → rank_of o ≡ (ranks_of s.market can.links).0 o
  unfolding rank_of
  plain_rank o plain = ap (λ (b : Bool). if b then suc (length s.market.objects) else (ranks_of s.market can.links).0 o) plain

  watcher_rank : (o : ℕ) → is_watcher (slot_at s.market o) ≡ true → rank_of o ≡ suc (length s.market.objects)
  unfolding rank_of
  watcher_rank o is = ap (λ (b : Bool). if b then suc (length s.market.objects) else (ranks_of s.market can.links).0 o) is

  subjects_fall : (o x : ℕ) → Among x (subjects s o) → rank_of x < rank_of o
  subjects_fall o x among = elim (cases_Bool (is_watcher (slot_at s.market o))) [
    | inl is ↦ let a = plain_rank x (watched_plain o x is among) in let b = watcher_rank o is in let c = (ranks_of s.market can.links).2 x in omega arith
    | inr plain ↦
        let edge = subst (λ (l : List ℕ). Among x l) (subjects_plain s only o plain) among in
        let a = plain_rank x (observed_plain s.market x (can.links.observed o x edge)) in
        let b = plain_rank o plain in
        let c = (ranks_of s.market can.links).1 o x edge in omega arith
  ]

  pub told_paths : (from : ℕ → Bool) (o : ℕ) → (told s from o ≡ true) ↔ Below (subjects s) from (forwards s) o
  unfolding told
  told_paths from o = exactly_below (subjects s) (length s.market.objects) watched_within (rank_of, subjects_fall) from (forwards s) o

module _ (s : State) (whole : IsWhole s) where
  -- WALKS FIND PATHS
  pub find_paths : WalksFindPaths s
  unfolding has_source reaches
  find_paths = record {
    late = exactly_below (edges s.market) (length s.market.objects) whole.links.within whole.links.acyclic (is_source s) (λ x. not (is_frozen s x));
    clear = exactly_below (edges s.market) (length s.market.objects) whole.links.within whole.links.acyclic (is_held_back s) (λ x. true);
    near = exactly_below (edges s.market) (length s.market.objects) whole.links.within whole.links.acyclic (is_source s) (is_forwarder s.market);
    reaches = λ o x. exactly_below (edges s.market) (length s.market.objects) whole.links.within whole.links.acyclic (λ y. y == x) (λ y. true) o;
    told = told_paths s (whole_tells s whole);
  }

-- no bound matters
pub seen_steps : (calc : Calc) (s : State) → IsLinked s.market → (n o : ℕ) → length s.market.objects < n
    → answer_by calc s.market (held_outcome s) n o ≡ seen_outcome calc s o
unfolding seen_outcome
seen_steps calc s links n o more = let r = ranks_of s.market links in let low = r.2 o in answer_steps calc s.market (held_outcome s) r.0 r.1 n (suc (length s.market.objects)) o (omega arith) low

pub input_steps : (m : Market) → IsLinked m → (n o : ℕ) → length m.objects < n → input_by m n o ≡ input_at m o
unfolding input_at
input_steps m links n o more =
    let r = ranks_of m links in let low = r.2 o in
    input_same m m r.0 r.1 n (suc (length m.objects)) o (omega arith) low (record { terms = refl; day = λ is. refl }) (λ is x near. record { terms = refl; day = λ is. refl })

pub runs_steps : (calc : Calc) (s : State) → IsLinked s.market → (n o : ℕ) → length s.market.objects < n
    → (visit_by calc s n [] o).calls ≡ runs calc s o
unfolding runs
runs_steps calc s links n o more = let r = ranks_of s.market links in let low = r.2 o in ap (λ v. v.calls) (visit_steps calc s r.0 r.1 n (suc (length s.market.objects)) o (omega arith) low [])

-- the least number that passes
pub least_none : (passes : ℕ → Bool) (n x : ℕ) → least_where passes n ≡ None → x < n → passes x ≡ false
least_none passes zero x none low = absurd (omega arith)
least_none passes (suc n) x none low = by_least (least_where passes n) refl (passes n) refl none (λ e l. least_none passes n x e l)
  where
    by_least : (r : Option ℕ) → least_where passes n ≡ r → (b : Bool) → passes n ≡ b
        → or_number r (if b then Some n else None) ≡ None → (least_where passes n ≡ None → x < n → passes x ≡ false)
        → passes x ≡ false
    by_least (Some y) is b here none more = absurd (cc)
    by_least None is true here none more = absurd (cc)
    by_least None is false here none more = elim (cases_eq x n) [
      | inl same ↦ ap passes same ∙ here
      | inr other ↦ more is (omega arith)
    ]

least_some : (passes : ℕ → Bool) (n x : ℕ) → least_where passes n ≡ Some x → passes x ≡ true
least_some passes zero x is = absurd (cc)
least_some passes (suc n) x is = by_least (least_where passes n) refl (passes n) refl is (λ e. least_some passes n x e)
  where
    same_some : (y : ℕ) → Some y ≡ Some x → y ≡ x
    same_some y e = cc

    by_least : (r : Option ℕ) → least_where passes n ≡ r → (b : Bool) → passes n ≡ b
        → or_number r (if b then Some n else None) ≡ Some x → (least_where passes n ≡ Some x → passes x ≡ true)
        → passes x ≡ true
    by_least (Some y) is b here found more = more (is ∙ found)
    by_least None is true here found more = ap passes (sym (same_some n found)) ∙ here
    by_least None is false here found more = absurd (cc)

-- LATE exactly where some source makes it late
module _ (s : State) (whole : IsWhole s) (o : ℕ) where
  source_within : (x : ℕ) → is_source s x ≡ true → x < length s.market.objects
  unfolding is_source
  source_within x is = elim (cases_lt x (length s.kept)) [
    | inl within ↦ let e = whole.length in omega arith
    | inr past ↦ absurd (false≢true (sym (ap (λ (k : Kept). k.source) (get_or_past s.kept x unpriced past)) ∙ is))
  ]

  late_by : is_late s o ≡ true → (x : ℕ) × (is_late_of s o x ≡ true) × (x < length s.market.objects)
  unfolding is_late is_late_of
  late_by late = elim (or_cases (is_source s o) _ late) [
    | inl own ↦ (o, and_from (is_source s o) _ own (or_left _ _ (eq-eqb o o refl)), source_within o own)
    | inr deep ↦
        let m = below_meets (edges s.market) (is_source s) (λ x. not (is_frozen s x)) o (only_below (edges s.market) (is_source s) (λ x. not (is_frozen s x)) (suc (length s.market.objects)) o deep) in
        let r = ranks_of s.market whole.links in
        (m.0, and_from (is_source s m.0) _ m.1 (or_right (m.0 == o) _ (below_true (edges s.market) (λ y. y == m.0) (λ y. not (is_frozen s y)) r.0 r.1 (suc (length s.market.objects)) o (r.2 o) m.2)), source_within m.0 m.1)
  ]

  of_late : (x : ℕ) → is_late_of s o x ≡ true → is_late s o ≡ true
  unfolding is_late is_late_of
  of_late x is =
      let p = and_parts (is_source s x) _ is in
      let r = ranks_of s.market whole.links in
      elim (or_cases (x == o) _ p.1) [
        | inl same ↦ or_left (is_source s o) _ (ap (is_source s) (sym (eqb-true x o same)) ∙ p.0)
        | inr deep ↦ or_right (is_source s o) _ (below_true (edges s.market) (is_source s) (λ y. not (is_frozen s y)) r.0 r.1 (suc (length s.market.objects)) o (r.2 o)
            (meets_below (edges s.market) (is_source s) (λ y. not (is_frozen s y)) x o p.0 (only_below (edges s.market) (λ y. y == x) (λ y. not (is_frozen s y)) (suc (length s.market.objects)) o deep)))
      ]

  pub late_least : is_late s o ≡ is_some (least_source s o)
  unfolding least_source
  late_least = by_least (least_where (is_late_of s o) (length s.market.objects)) refl
    where
      by_least : (r : Option ℕ) → least_where (is_late_of s o) (length s.market.objects) ≡ r → is_late s o ≡ is_some r
      by_least None none = false_from_ne_true (is_late s o) (λ late. let l = late_by late in false≢true (sym (least_none (is_late_of s o) (length s.market.objects) l.0 none l.2) ∙ l.1))
      by_least (Some x) is = of_late x (least_some (is_late_of s o) (length s.market.objects) x is)
