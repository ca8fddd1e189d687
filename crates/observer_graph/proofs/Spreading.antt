-- A notice on its way, until no node waits.
use Rattle.std.proofs.Common.{◌≡◌, ◌⊎◌, inl, inr, ℕ, ◌<◌, Bool, true, false, List, [], ◌∷◌, length, refl, sym, ap, ◌∙◌, subst, Option, Some, None}
use Rattle.std.specs.Prelude.{◌↔◌, IfNone, IfSome, ◌&&◌, ◌||◌, not, is_some, slice_set, slice_index_or}
use Rattle.std.proofs.lemmas.Bool.{cases_eq, false≢true}
use Rattle.std.proofs.lemmas.List.{get_or-set_same, get_or-set_other}
use Rattle.walks.specs.Walk.{Among}
use Rattle.walks.specs.Walk.Below.{next, beyond}
use Rattle.edge_lists.specs.EdgesView.{EdgesView, IsPair, IsWhole, observers_from, subject_lists}
use Rattle.edge_lists.proofs.Listing.{observers_none}
use Rattle.wave_queue.specs.Thread.{WaveView, is_marked}
use Rattle.observer_graph.specs.declared.node.Role.{Role}
use Rattle.observer_graph.specs.declared.node.Role.TheVariants.{Source, Forwarder, Lazy, Watcher}
use Rattle.observer_graph.specs.declared.node.Flags.{Flags}
use Rattle.observer_graph.specs.declared.node.Node.{Node}
use Rattle.observer_graph.specs.GraphView.{IsWatcher}
use Rattle.observer_graph.specs.Lists.{list_at}
use Rattle.observer_graph.specs.Notice.{IsTold, passes_as, passes_of, unsettled}
use Rattle.observer_graph.specs.Noticed.{with_number}
use Rattle.observer_graph.specs.Puts.{Puts}
use Rattle.observer_graph.specs.Telling.{IsDone, Spreads}
use Rattle.observer_graph.specs.Turns.{IsFree}
use Rattle.observer_graph.specs.Walks.{graph_of}
use Rattle.observer_graph.proofs.Numbers.{among_with}
use Rattle.observer_graph.proofs.SubjectLists.{among_listed}

abbrev pub item_of : List (Option Node) → ℕ → Option Node
item_of nodes o = slice_index_or nodes o None

-- a node that is told twice
unsettled_again : (node : Option Node) → unsettled (unsettled node) ≡ unsettled node
unsettled_again None = refl
unsettled_again (Some node) = refl

watcher_from : (node : Option Node) → IsWatcher (unsettled node) → IsWatcher node
watcher_from None is = is
watcher_from (Some node) is = is

passes_lazy : (frozen current forward : Bool) → (not frozen && (false || forward)) ≡ true → (not frozen && (current || forward)) ≡ true
passes_lazy true current forward e = e
passes_lazy false true forward e = refl
passes_lazy false false forward e = e

passes_role : (role : Role) (flags : Flags) → passes_as role (record flags { current = false }) ≡ true → passes_as role flags ≡ true
passes_role Source flags e = e
passes_role Forwarder flags e = e
passes_role Lazy flags e = passes_lazy flags.frozen flags.current flags.forward e
passes_role Watcher flags e = e

passes_from : (node : Option Node) → passes_of (unsettled node) ≡ true → passes_of node ≡ true
passes_from None e = e
passes_from (Some node) e = passes_role node.role node.flags e

-- where a walk of observers has no first pair, nobody observes the node
pub none_observes : (v : EdgesView) (node : ℕ) (found : Option ℕ)
    → ((o : ℕ) → Among o (observers_from v found) ↔ IsPair v node o) → is_some found ≡ false → (o : ℕ) → IsPair v node o → ⊥
none_observes v node None given off o pair = observers_none v o ((given o).1 pair)
none_observes v node (Some k) given off o pair = absurd (cc)

module _ (v : EdgesView) (whole : IsWhole v) (nodes : List (Option Node)) (sources : List Bool) where
  -- who is told observes a source, or one that is told and passes the notice on
  pub told_first : (x o : ℕ) → IsPair v x o → is_marked sources x ≡ true → IsTold (graph_of nodes (subject_lists v) sources) o
  told_first x o pair source = next {x = x} ((among_listed v whole x o).1 pair) source

  pub told_on : (x o : ℕ) → IsPair v x o → passes_of (item_of nodes x) ≡ true
      → IsTold (graph_of nodes (subject_lists v) sources) x → IsTold (graph_of nodes (subject_lists v) sources) o
  told_on x o pair passes told = beyond {x = x} ((among_listed v whole x o).1 pair) passes told

  -- what holds of the observers of sources, and goes on where a notice does, holds of all who are told
  pub told_all : (P : ℕ → Type 0) → ((x o : ℕ) → IsPair v x o → is_marked sources x ≡ true → P o)
      → ((x o : ℕ) → P x → passes_of (item_of nodes x) ≡ true → IsPair v x o → P o)
      → (o : ℕ) → IsTold (graph_of nodes (subject_lists v) sources) o → P o
  told_all P first on o (next {x = x} a source) = first x o ((among_listed v whole x o).0 a) source
  told_all P first on o (beyond {x = x} a passes told) =
      on x o (told_all P first on x told) passes ((among_listed v whole x o).0 a)

-- what was looked at is so when one that waits is handed out
pub done_popped : (v : EdgesView) (first nodes : List (Option Node)) (w1 w2 : WaveView) (noticed : List ℕ) → w2.marks ≡ w1.marks
    → (o : ℕ) → IsDone v first nodes w1 noticed o → IsDone v first nodes w2 noticed o
done_popped v first nodes w1 w2 noticed same o d = record {
  settled = d.settled;
  noted = d.noted;
  passes = λ passes. elim (d.passes passes) [
    | inl on ↦ inl (ap (λ (m : List Bool). is_marked m o) same ∙ on)
    | inr none ↦ inr none
  ];
}

module _ (v : EdgesView) (sources : List Bool) (first : List (Option Node)) (noted : List ℕ) where
  -- nobody was looked at in a free wave
  pub spreads_none : (n : ℕ) (IsAhead : ℕ → ℕ → Type 0) (wave : WaveView) → IsFree n wave
      → Spreads v sources first noted IsAhead first wave noted
  spreads_none n IsAhead wave free = record {
    each = λ o. inl refl;
    told = λ o on. absurd (false≢true (sym (free.none o) ∙ on));
    kept = λ w a. a;
    from = λ w a. inl a;
    closed = λ x o on pair. absurd (false≢true (sym (free.none x) ∙ on));
  }

  -- the same, where others are ahead
  pub spreads_as : (P Q : ℕ → ℕ → Type 0) (nodes : List (Option Node)) (wave : WaveView) (noticed : List ℕ)
      → ((x o : ℕ) → IsPair v x o → P x o → IsDone v first nodes wave noticed o ⊎ Q x o)
      → Spreads v sources first noted P nodes wave noticed → Spreads v sources first noted Q nodes wave noticed
  spreads_as P Q nodes wave noticed there s = record {
    each = s.each;
    told = s.told;
    kept = s.kept;
    from = s.from;
    closed = λ x o on pair. elim (s.closed x o on pair) [
      | inl is ↦ inl is
      | inr later ↦ elim later [
        | inl waits ↦ inr (inl waits)
        | inr ahead ↦ elim (there x o pair ahead) [ inl is ↦ inl is | inr q ↦ inr (inr q) ]
      ]
    ];
  }

  -- one of those that wait is gone on from: its observers are ahead
  pub spreads_taken : (nodes : List (Option Node)) (w1 w2 : WaveView) (node : ℕ) (noticed : List ℕ)
      → ((x : ℕ) → Among x w1.waiting → (x ≡ node) ⊎ Among x w2.waiting) → w2.marks ≡ w1.marks
      → Spreads v sources first noted (λ x o. ⊥) nodes w1 noticed
      → Spreads v sources first noted (λ x o. x ≡ node) nodes w2 noticed
  spreads_taken nodes w1 w2 node noticed popped same s = record {
    each = λ o. elim (s.each o) [ inl is ↦ inl is | inr t ↦ inr (t.0, done_popped v first nodes w1 w2 noticed same o t.1) ];
    told = λ o on. s.told o (back o on);
    kept = s.kept;
    from = s.from;
    closed = λ x o on pair. elim (s.closed x o (back x on) pair) [
      | inl is ↦ inl (done_popped v first nodes w1 w2 noticed same o is)
      | inr later ↦ elim later [
        | inl waits ↦ elim (popped x waits) [
          | inl is ↦ inr (inr is)
          | inr rest ↦ inr (inl rest)
        ]
        | inr none ↦ absurd none
      ]
    ];
  }
    where
      back : (o : ℕ) → is_marked w2.marks o ≡ true → is_marked w1.marks o ≡ true
      back o on = ap (λ (m : List Bool). is_marked m o) (sym same) ∙ on

  -- the same, where there is such a node
  pub spreads_next : (nodes : List (Option Node)) (w1 w2 : WaveView) (next : Option ℕ) (noticed : List ℕ)
      → IfNone next ((w1 ≡ w2) × (w2.waiting ≡ []))
      → IfSome next (λ node. (x : ℕ) → Among x w1.waiting → (x ≡ node) ⊎ Among x w2.waiting) → w2.marks ≡ w1.marks
      → Spreads v sources first noted (λ x o. ⊥) nodes w1 noticed
      → Spreads v sources first noted (λ x o. next ≡ Some x) nodes w2 noticed
  spreads_next nodes w1 w2 None noticed end taken same s =
      spreads_as (λ x o. ⊥) (λ x o. None ≡ Some x) nodes w2 noticed (λ x o pair never. absurd never)
      (subst (λ (w : WaveView). Spreads v sources first noted (λ x o. ⊥) nodes w noticed) end.0 s)
  spreads_next nodes w1 w2 (Some node) noticed end taken same s =
      spreads_as (λ x o. x ≡ node) (λ x o. Some node ≡ Some x) nodes w2 noticed
      (λ x o pair is. inr (ap Some (sym is))) (spreads_taken nodes w1 w2 node noticed taken same s)

-- a node is remembered, if it is a watcher
abbrev pub Remembers : List (Option Node) → ℕ → List ℕ → List ℕ → Type 0
Remembers nodes node old new = (IsWatcher (item_of nodes node) × (new ≡ with_number node old))
    ⊎ ((IsWatcher (item_of nodes node) → ⊥) × (new ≡ old))

-- one is told: it is no longer current, is remembered if it is a watcher, and is marked if it passes the notice on to someone
module _ (v : EdgesView) (now after : List (Option Node)) (w1 w2 : WaveView) (node : ℕ) (goes_on : Bool)
    (noticed noticed2 : List ℕ) (within : node < length now)
    (puts : Puts w1 w2 (λ o. (o ≡ node) × (goes_on ≡ true)))
    (goes : goes_on ≡ passes_of (item_of now node))
    (done : goes_on ≡ true → (is_marked w2.marks node ≡ true) ⊎ ((p : ℕ) → IsPair v node p → ⊥))
    (set : after ≡ slice_set now node (unsettled (item_of now node)))
    (watches : Remembers now node noticed noticed2) where
  apart : (o : ℕ) → (o ≡ node → ⊥) → item_of after o ≡ item_of now o
  apart o other = ap (λ (l : List (Option Node)). item_of l o) set
      ∙ get_or-set_other now node o (unsettled (item_of now node)) None other

  here : item_of after node ≡ unsettled (item_of now node)
  here = ap (λ (l : List (Option Node)). item_of l node) set ∙ get_or-set_same now node (unsettled (item_of now node)) None within

  still_by : Remembers now node noticed noticed2 → (w : ℕ) → Among w noticed → Among w noticed2
  still_by (inl is) w a = subst (λ (xs : List ℕ). Among w xs) (sym is.1) ((among_with w node noticed).1 (inl a))
  still_by (inr never) w a = subst (λ (xs : List ℕ). Among w xs) (sym never.1) a

  from_by : Remembers now node noticed noticed2 → (w : ℕ) → Among w noticed2 → Among w noticed ⊎ ((w ≡ node) × IsWatcher (item_of now node))
  from_by (inl is) w a = elim ((among_with w node noticed).0 (subst (λ (xs : List ℕ). Among w xs) is.1 a)) [
    | inl before ↦ inl before
    | inr same ↦ inr (same, is.0)
  ]
  from_by (inr never) w a = inl (subst (λ (xs : List ℕ). Among w xs) never.1 a)

  now_by : Remembers now node noticed noticed2 → IsWatcher (item_of now node) → Among node noticed2
  now_by (inl is) watcher = subst (λ (xs : List ℕ). Among node xs) (sym is.1) ((among_with node node noticed).1 (inr refl))
  now_by (inr never) watcher = absurd (never.0 watcher)

  module _ (first : List (Option Node)) where
    -- what was looked at is so still
    pub stays_done : (o : ℕ) → IsDone v first now w1 noticed o → IsDone v first after w2 noticed2 o
    stays_done o d = record {
      settled = elim (cases_eq o node) [
        | inl same ↦ subst (λ (z : ℕ). item_of now z ≡ unsettled (item_of first z) → item_of after z ≡ unsettled (item_of first z))
            (sym same) (λ is. here ∙ ap unsettled is ∙ unsettled_again (item_of first node)) d.settled
        | inr other ↦ apart o other ∙ d.settled
      ];
      noted = λ watcher. still_by watches o (d.noted watcher);
      passes = λ passes. elim (d.passes passes) [ inl on ↦ inl (puts.kept_marks o on) | inr none ↦ inr none ];
    }

    -- and so is the node, where it was as at first
    first_done : item_of now node ≡ item_of first node → IsDone v first after w2 noticed2 node
    first_done is = record {
      settled = here ∙ ap unsettled is;
      noted = λ watcher. now_by watches (subst IsWatcher (sym is) watcher);
      passes = λ passes. done (goes ∙ ap passes_of is ∙ passes);
    }

    module _ (sources : List Bool) (noted : List ℕ) (P : ℕ → ℕ → Type 0)
        (told : IsTold (graph_of first (subject_lists v) sources) node)
        (s : Spreads v sources first noted P now w1 noticed) where
      pub told_done : IsDone v first after w2 noticed2 node
      told_done = elim (s.each node) [ inl is ↦ first_done is | inr t ↦ stays_done node t.1 ]

      at_first : (item_of now node ≡ item_of first node) ⊎ (item_of now node ≡ unsettled (item_of first node))
      at_first = elim (s.each node) [ inl is ↦ inl is | inr t ↦ inr t.1.settled ]

      passed : goes_on ≡ true → passes_of (item_of first node) ≡ true
      passed passing = elim at_first [
        | inl is ↦ ap passes_of (sym is) ∙ sym goes ∙ passing
        | inr is ↦ passes_from (item_of first node) (ap passes_of (sym is) ∙ sym goes ∙ passing)
      ]

      watching : IsWatcher (item_of now node) → IsWatcher (item_of first node)
      watching watcher = elim at_first [
        | inl is ↦ subst IsWatcher is watcher
        | inr is ↦ watcher_from (item_of first node) (subst IsWatcher is watcher)
      ]

      pub spreads_told : Spreads v sources first noted P after w2 noticed2
      spreads_told = record {
        each = λ o. elim (cases_eq o node) [
          | inl same ↦ inr (subst (λ (z : ℕ). IsTold (graph_of first (subject_lists v) sources) z × IsDone v first after w2 noticed2 z)
              (sym same) (told, told_done))
          | inr other ↦ elim (s.each o) [ inl is ↦ inl (apart o other ∙ is) | inr t ↦ inr (t.0, stays_done o t.1) ]
        ];
        told = λ o on. elim (puts.from o on) [
          | inl was ↦ s.told o was
          | inr p ↦ (
            subst (λ (z : ℕ). IsTold (graph_of first (subject_lists v) sources) z) (sym p.0) told,
            subst (λ (z : ℕ). passes_of (item_of first z) ≡ true) (sym p.0) (passed p.1),
          )
        ];
        kept = λ w a. still_by watches w (s.kept w a);
        from = λ w a. elim (from_by watches w a) [
          | inl before ↦ s.from w before
          | inr p ↦ inr (
            subst (λ (z : ℕ). IsWatcher (item_of first z)) (sym p.0) (watching p.1),
            subst (λ (z : ℕ). IsTold (graph_of first (subject_lists v) sources) z) (sym p.0) told,
          )
        ];
        closed = λ x o on pair. elim (puts.waits x on) [
          | inl was ↦ elim (s.closed x o was pair) [
            | inl is ↦ inl (stays_done o is)
            | inr later ↦ elim later [ inl waited ↦ inr (inl (puts.kept x waited)) | inr p ↦ inr (inr p) ]
          ]
          | inr waits ↦ inr (inl waits)
        ];
      }

-- whether one of a list passes a test
decide_any : (xs : List ℕ) (test : ℕ → Bool) → ((x : ℕ) × (Among x xs × (test x ≡ true))) ⊎ ((x : ℕ) → Among x xs → test x ≡ false)
decide_any [] test = inr (λ x a. absurd a)
decide_any (y ∷ ys) test = by (test y) refl (decide_any ys test)
  where
    by : (b : Bool) → test y ≡ b → ((x : ℕ) × (Among x ys × (test x ≡ true))) ⊎ ((x : ℕ) → Among x ys → test x ≡ false)
        → ((x : ℕ) × (Among x (y ∷ ys) × (test x ≡ true))) ⊎ ((x : ℕ) → Among x (y ∷ ys) → test x ≡ false)
    by true is rest = inl (y, (inl refl, is))
    by false is (inl found) = inl (found.0, (inr found.1.0, found.1.1))
    by false is (inr none) = inr (λ x a. elim a [
      | inl same ↦ subst (λ (z : ℕ). test z ≡ false) (sym same) is
      | inr later ↦ none x later
    ])

or_true : (a b : Bool) → (a || b) ≡ true → (a ≡ true) ⊎ (b ≡ true)
or_true true b e = inl refl
or_true false b e = inr e

or_false : (a b : Bool) → (a || b) ≡ false → (a ≡ false) × (b ≡ false)
or_false true b e = absurd (cc)
or_false false b e = (refl, e)

and_true : (a b : Bool) → (a && b) ≡ true → (a ≡ true) × (b ≡ true)
and_true true b e = (refl, e)
and_true false b e = absurd (cc)

and_false : (a b : Bool) → (a && b) ≡ false → a ≡ true → b ≡ true → ⊥
and_false true b e is on = false≢true (sym e ∙ on)
and_false false b e is on = false≢true is

-- whether a node tells its observers: it is a source, or a marked node that passes the notice on
abbrev tells_by : List Bool → WaveView → List (Option Node) → ℕ → Bool
tells_by sources wave first x = is_marked sources x || (is_marked wave.marks x && passes_of (item_of first x))

-- once none waits and none is ahead, those who are told were looked at
module _ (v : EdgesView) (whole : IsWhole v) (sources : List Bool) (first : List (Option Node)) (noted : List ℕ)
    (nodes : List (Option Node)) (wave : WaveView) (noticed : List ℕ)
    (s : Spreads v sources first noted (λ x o. ⊥) nodes wave noticed) (none : wave.waiting ≡ [])
    (starts : (x o : ℕ) → IsPair v x o → is_marked sources x ≡ true → IsDone v first nodes wave noticed o) where
  all_done : (o : ℕ) → IsTold (graph_of first (subject_lists v) sources) o → IsDone v first nodes wave noticed o
  all_done = told_all v whole first sources (λ o. IsDone v first nodes wave noticed o) starts
      (λ x o d passes pair. elim (d.passes passes) [
        | inl on ↦ elim (s.closed x o on pair) [
          | inl is ↦ is
          | inr later ↦ elim later [
            | inl waits ↦ absurd (subst (λ (xs : List ℕ). Among x xs) none waits)
            | inr never ↦ absurd never
          ]
        ]
        | inr nobody ↦ absurd (nobody o pair)
      ])

  is_told : (o : ℕ) → IsTold (graph_of first (subject_lists v) sources) o
      ⊎ (IsTold (graph_of first (subject_lists v) sources) o → ⊥)
  is_told o = elim (decide_any (list_at (subject_lists v) o) (tells_by sources wave first)) [
    | inl found ↦ elim (or_true (is_marked sources found.0) (is_marked wave.marks found.0 && passes_of (item_of first found.0))
        found.1.1) [
          | inl source ↦ inl (next {x = found.0} found.1.0 source)
          | inr both ↦ let p = and_true (is_marked wave.marks found.0) (passes_of (item_of first found.0)) both in
              inl (beyond {x = found.0} found.1.0 p.1 (s.told found.0 p.0).0)
        ]
    | inr nobody ↦ inr (λ told. not_told nobody told)
  ]
    where
      not_told : ((x : ℕ) → Among x (list_at (subject_lists v) o) → tells_by sources wave first x ≡ false)
          → IsTold (graph_of first (subject_lists v) sources) o → ⊥
      not_told nobody (next {x = x} a source) = false≢true (sym (or_false (is_marked sources x)
          (is_marked wave.marks x && passes_of (item_of first x)) (nobody x a)).0 ∙ source)
      not_told nobody (beyond {x = x} a passes told) = elim ((all_done x told).passes passes) [
        | inl on ↦ and_false (is_marked wave.marks x) (passes_of (item_of first x)) (or_false (is_marked sources x)
            (is_marked wave.marks x && passes_of (item_of first x)) (nobody x a)).1 on passes
        | inr alone ↦ alone o ((among_listed v whole x o).0 a)
      ]

  pub told_by : (o : ℕ) → (IsTold (graph_of first (subject_lists v) sources) o × (item_of nodes o ≡ unsettled (item_of first o)))
      ⊎ ((IsTold (graph_of first (subject_lists v) sources) o → ⊥) × (item_of nodes o ≡ item_of first o))
  told_by o = elim (is_told o) [
    | inl told ↦ inl (told, (all_done o told).settled)
    | inr never ↦ inr (never, elim (s.each o) [ inl is ↦ is | inr t ↦ absurd (never t.0) ])
  ]

  pub noted_by : (w : ℕ) → Among w noticed
      ↔ (Among w noted ⊎ (IsWatcher (item_of first w) × IsTold (graph_of first (subject_lists v) sources) w))
  noted_by w = (
    λ a. s.from w a,
    λ either. elim either [ inl f ↦ s.kept w f | inr on ↦ (all_done w on.1).noted on.0 ],
  )
