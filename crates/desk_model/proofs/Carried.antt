-- A change of one object's own terms keeps the others sound, where those that it is near are told, or it is a source.
use Rattle.std.proofs.Common.{◌≡◌, ◌≢◌, ◌⊎◌, inl, inr, ℕ, suc, ◌≤◌, true, false, List, length, refl, sym, ◌∙◌, ap, subst}
use Rattle.std.proofs.lemmas.Bool.{cases_Bool, cases_eq, false_from_ne_true, false≢true}
use Rattle.std.specs.Prelude.{◌||◌}
use Rattle.walks.specs.Walk.{below_by, Among}
use Rattle.desk_model.specs.declared.kept.Kept.{Kept}
use Rattle.walks.proofs.Walks.{only_below}
use Rattle.walks.proofs.Ranks.{below_true, below_meets, meets_below, meets_there}
use Rattle.desk_terms.specs.Reading.{Calc}
use Rattle.desk_model.specs.declared.entry.Entry.{Entry}
use Rattle.desk_model.specs.Market.{Market, terms_at, IsSame, role_of, is_forwarding, edges_of, edges, is_forwarder}
use Rattle.desk_model.specs.Uses.{uses, needed, needs}
use Rattle.desk_model.specs.Fresh.{inputs_by, reading_over, reading_by, priced}
use Rattle.desk_model.specs.State.{State, kept_at, last_of, last_answer, is_frozen, is_source}
use Rattle.desk_model.specs.Sound.{has_source, is_ready, IsSoundAt, AreSound, HasNoSourceWhereOff, IsSound, IsAsBefore, KeepsCurrent}
use Rattle.desk_model.specs.Links.{IsLinked, IsWhole}
use Rattle.desk_model.specs.Laws.{Keeps}
use Rattle.desk_model.proofs.Locality.{Near, uses_same, over_same, needs_near}
use Rattle.desk_model.proofs.Bounds.{same_inputs, same_reading, ranks_of}

-- A change at x: all else is as it was, an object that is still current was so before, and if x is near it, then x is a
-- source now. What such an object needs, and what was ready, is ready still.
pub record ChangesAt (x : ℕ) (s t : State) : Type 0 where
  pub length : length s.market.objects ≤ length t.market.objects
  pub same : (o : ℕ) → o ≢ x → IsSame s.market t.market o
  pub last : (o : ℕ) → o ≢ x → (kept_at t o).last ≡ (kept_at s o).last
  pub source : (o : ℕ) → o ≢ x → is_source s o ≡ true → is_source t o ≡ true
  pub current : (o : ℕ) → o ≢ x → (kept_at t o).current ≡ true → (kept_at s o).current ≡ true
  pub near : (o : ℕ) → o ≢ x → (kept_at t o).current ≡ true → Near t.market x o → is_source t x ≡ true
  pub ready : (o y : ℕ) → o ≢ x → y ≢ x → (kept_at t o).current ≡ true → Near t.market y o → is_ready s y ≡ true
      → is_ready t y ≡ true

module _ (x : ℕ) (s t : State) (before : IsLinked s.market) (after : IsLinked t.market) (change : ChangesAt x s t) where
  same_edges : (o : ℕ) → o ≢ x → edges t.market o ≡ edges s.market o
  same_edges o other = ap edges_of (change.same o other).terms

  same_passes : (o : ℕ) → o ≢ x → is_forwarder s.market o ≡ true → is_forwarder t.market o ≡ true
  same_passes o other is = ap (λ t. is_forwarding (role_of t)) (change.same o other).terms ∙ is

  -- what was near is near still, or x is
  near_there : (y o : ℕ) → o ≢ x → Near s.market y o → Near t.market y o ⊎ Near t.market x o
  near_there y o other near = meets_there (edges s.market) (edges t.market) (is_forwarder s.market) (is_forwarder t.market) x same_edges same_passes y o other near

  source_there : (y o : ℕ) → is_source t y ≡ true → Near t.market y o → has_source t o ≡ true
  unfolding has_source
  source_there y o is near = let r = ranks_of t.market after in
      below_true (edges t.market) (is_source t) (is_forwarder t.market) r.0 r.1 (suc (length t.market.objects)) o (r.2 o) (meets_below (edges t.market) (is_source t) (is_forwarder t.market) y o is near)

  -- a source near an object that is still current is near still
  keeps_source : (o : ℕ) → o ≢ x → (kept_at t o).current ≡ true → has_source s o ≡ true → has_source t o ≡ true
  unfolding has_source
  keeps_source o other current is =
      let m = below_meets (edges s.market) (is_source s) (is_forwarder s.market) o (only_below (edges s.market) (is_source s) (is_forwarder s.market) (suc (length s.market.objects)) o is) in
      elim (near_there m.0 o other m.2) [
        | inr near ↦ source_there x o (change.near o other current near) near
        | inl near ↦ elim (cases_eq m.0 x) [
          | inl same ↦ let at = subst (λ (z : ℕ). Near t.market z o) same near in source_there x o (change.near o other current at) at
          | inr apart ↦ source_there m.0 o (change.source m.0 apart m.1) near
        ]
      ]

  -- where x is not near, all that is near is as it was
  near_same : (o : ℕ) → o ≢ x → (Near t.market x o → ⊥) → (y : ℕ) → Near s.market y o → (y ≢ x) × Near t.market y o
  near_same o other apart y near = elim (near_there y o other near) [
    | inr at ↦ absurd (apart at)
    | inl there ↦ ((λ (same : y ≡ x). apart (subst (λ (z : ℕ). Near t.market z o) same there)), there)
  ]

  same_uses : (o : ℕ) → o ≢ x → (Near t.market x o → ⊥) → uses t.market o ≡ uses s.market o
  same_uses o other apart = let r = ranks_of s.market before in
      uses_same s.market t.market r.0 r.1 r.2 change.length o (change.same o other) (λ y near. change.same y (near_same o other apart y near).0)

  -- the reading of an object that x is not near, over last values, is as it was
  same_over : (o : ℕ) → o ≢ x → (Near t.market x o → ⊥)
      → reading_by t.market (last_answer t) o ≡ reading_by s.market (last_answer s) o
  same_over o other apart =
      ap (λ (u : List Entry). reading_over t.market o (terms_at t.market o) (inputs_by (last_answer t) u)) (same_uses o other apart)
      ∙ ap (reading_over t.market o (terms_at t.market o)) (same_inputs (last_answer t) (last_answer s) (uses s.market o) (λ y among. ap (last_of y) (change.last y (near_same o other apart y (needs_near s.market o y among)).0)))
      ∙ over_same s.market t.market o (change.same o other) (λ y near. change.same y (near_same o other apart y near).0) (inputs_by (last_answer s) (uses s.market o))

  -- THE GENERAL LAW, over data alone: an object that is current after the change with no source near it is as before
  pub others_keep : (o : ℕ) → o ≢ x → (kept_at t o).current ≡ true → has_source t o ≡ false → IsAsBefore s t o
  unfolding has_source
  others_keep o other current none = record {
    current = change.current o other current;
    source = false_from_ne_true (has_source s o) (λ is. clash (keeps_source o other current is));
    reading = same_over o other apart;
    last = change.last o other;
    ready = λ before y among.
        let was : Among y (needs s.market o) = subst (λ (u : List Entry). Among y (needed u)) (same_uses o other apart) among in
        let n = near_same o other apart y (needs_near s.market o y was) in
        change.ready o y other n.0 current n.1 (before y was);
  }
    where
      clash : has_source t o ≡ true → ⊥
      clash is = false≢true (sym none ∙ is)

      apart : Near t.market x o → ⊥
      apart near = clash (source_there x o (change.near o other current near) near)

  -- and x itself, where that is known
  pub all_keep_but : (HasNoSourceWhereOff s → HasNoSourceWhereOff t)
      → ((kept_at t x).current ≡ true → has_source t x ≡ false → IsAsBefore s t x) → KeepsCurrent s t
  all_keep_but sources itself = record {
    sources = sources;
    each = λ o current none. elim (cases_eq o x) [
      | inl same ↦ subst (IsAsBefore s t) (sym same) (itself (ap (λ (z : ℕ). (kept_at t z).current) (sym same) ∙ current) (ap (has_source t) (sym same) ∙ none))
      | inr other ↦ others_keep o other current none
    ];
  }

  -- and all are, where x is not current now
  pub all_keep : (HasNoSourceWhereOff s → HasNoSourceWhereOff t) → (kept_at t x).current ≡ false → KeepsCurrent s t
  all_keep sources stale = all_keep_but sources (λ current none. absurd (false≢true (sym stale ∙ current)))

-- an object that is as before is as sound as before, for every calc
pub sound_before : (calc : Calc) (s t : State) (o : ℕ) → IsSoundAt calc s o → IsAsBefore s t o → IsSoundAt calc t o
sound_before calc s t o (inl source) before = absurd (false≢true (sym before.source ∙ source))
sound_before calc s t o (inr p) before = inr (record {
  value = p.value;
  last = before.last ∙ p.last;
  price = ap (priced calc) before.reading ∙ p.price;
  ready = before.ready p.ready;
})

-- where there is no source near it
pub sound_then : (calc : Calc) (s t : State) → AreSound calc s → (o : ℕ) → (has_source t o ≡ false → IsAsBefore s t o)
    → IsSoundAt calc t o
sound_then calc s t sound o before = elim (cases_Bool (has_source t o)) [
  | inl source ↦ inl source
  | inr none ↦ let b = before none in sound_before calc s t o (sound o b.current) b
]

-- THE COROLLARY: what keeps data keeps a state sound for every bench
pub sound_kept : (calc : Calc) (s t : State) → KeepsCurrent s t → IsSound calc s → IsSound calc t
sound_kept calc s t keeps sound = record {
  sources = keeps.sources sound.sources;
  current = λ o current. sound_then calc s t sound.current o (keeps.each o current);
}

-- nothing changes
pub keeps_itself : (s : State) → IsWhole s → Keeps s s
keeps_itself s whole = record {
  whole = whole;
  current = record {
    sources = λ none. none;
    each = λ o current none. record { current = current; source = none; reading = refl; last = refl; ready = λ before. before };
  };
}

-- an object is as before where the market is, and all that is beneath it
pub self_before : (s : State) (x : ℕ) → IsLinked s.market → (t : State) → t.market ≡ s.market
    → ((y : ℕ) → Near s.market y x → kept_at t y ≡ kept_at s y) → (kept_at t x).last ≡ (kept_at s x).last
    → (kept_at s x).current ≡ true → has_source t x ≡ false → IsAsBefore s t x
unfolding has_source is_source is_frozen
self_before s x links t market beneath last current none = record {
  current = current;
  source = false_from_ne_true _ (λ source.
      let m = below_meets (edges s.market) (is_source s) (is_forwarder s.market) x (only_below (edges s.market) (is_source s) (is_forwarder s.market) (suc (length s.market.objects)) x source) in
      let r = ranks_of s.market links in
      false≢true (sym none ∙ (ap (λ (m : Market). below_by (edges m) (is_source t) (is_forwarder m) (suc (length m.objects)) x) market
      ∙ below_true (edges s.market) (is_source t) (is_forwarder s.market) r.0 r.1 (suc (length s.market.objects)) x (r.2 x) (meets_below (edges s.market) (is_source t) (is_forwarder s.market) m.0 x (ap (λ (k : Kept). k.source) (beneath m.0 m.2) ∙ m.1) m.2))));
  reading = ap (λ (m : Market). reading_by m (last_answer t) x) market
      ∙ same_reading s.market (last_answer t) (last_answer s) x (λ y among. ap (λ (k : Kept). last_of y k.last) (beneath y (needs_near s.market x y among)));
  last = last;
  ready = λ before y among.
      let was = subst (λ (m : Market). Among y (needs m x)) market among in
      ap (λ (k : Kept). k.frozen || k.current) (beneath y (needs_near s.market x y was)) ∙ before y was;
}
