-- What holds of a round is kept.
use Rattle.std.proofs.Common.{◌≡◌, ◌≢◌, inl, inr, ℕ, zero, suc, ◌<◌, ◌≤◌, Bool, true, false, List, [], ◌∷◌, ◌++◌, length, refl, sym, ◌∙◌, ap, subst, arith, get_or, replicate, Option, Some, None}
use Rattle.std.specs.Prelude.{slice_set, slice_get, ◌==◌}
use Rattle.std.proofs.lemmas.List.{get_or_default}
use Rattle.std.specs.List.{remove, filter}
use Rattle.std.proofs.lemmas.Bool.{cases_eq, lt-ltb, le-ltb}
use Rattle.std.proofs.lemmas.List.{get_or-set_same, get_or-set_other, length-set, length-append}
use Rattle.watch_rounds.specs.declared.rounds.DueWatcher.{DueWatcher}
use Rattle.watch_rounds.specs.declared.tally.Tally.{Tally}
use Rattle.watch_rounds.specs.declared.notice.Notice.{Notice}
use Rattle.watch_rounds.specs.declared.notice.Notice.TheVariants as notices
use Rattle.watch_rounds.specs.Due.{with_due, without, is_at, AreAll, IsOnly}
use Rattle.watch_rounds.specs.Round.{Round, RoundsView, IsRound, IsRoundOf, MayRunIn, blank, one_more, with_run, run_of, with_notice, with_notice_as, notice_of, tally_at, watcher_at}
use Rattle.std.proofs.lemmas.Option.{slice_get_read, slice_get_within}
use Rattle.watch_rounds.proofs.Places.{is_there, place_there, stays_there, all_map, all_both, all_at, all_with, all_without, all_removed, all_filtered, order_without, order_filtered, order_removed, rising_with, unlike_with, removed_unlike, rising_room}
use Rattle.watch_rounds.proofs.Tallies.{tally_grown}

abbrev pub round_in : List DueWatcher → List Tally → Round
round_in due tallies = record { due = due; tallies = tallies }

abbrev pub view_of : List DueWatcher → List Tally → ℕ → RoundsView
view_of due tallies nodes = record { round = round_in due tallies; nodes = nodes; names = 0 }

pub round_empty : (n nodes : ℕ) → ((name : ℕ) → get_or (replicate n blank) name blank ≡ blank)
    → IsRound (view_of [] (replicate n blank) nodes)
round_empty n nodes each = record {
  rising = tt;
  unlike = tt;
  due = tt;
  most = λ name. rw (each name) (omega arith);
}

pub round_grown : (due : List DueWatcher) (tallies : List Tally) (nodes more_nodes more : ℕ) → nodes ≤ more_nodes
    → IsRound (view_of due tallies nodes) → IsRound (view_of due (tallies ++ replicate more blank) more_nodes)
round_grown due tallies nodes more_nodes more le round = record {
  rising = round.rising;
  unlike = round.unlike;
  due = all_map (MayRunIn (round_in due tallies) nodes) (MayRunIn (round_in due (tallies ++ replicate more blank)) more_nodes)
      (λ one may. (
        (let low = may.0 in omega arith),
        (let low = may.1 in let long = length-append tallies (replicate more blank) in omega arith),
        rw (tally_grown tallies more one.name) may.2,
      )) due round.due;
  most = λ name. rw (tally_grown tallies more name) (round.most name);
}

pub round_with : (due : List DueWatcher) (tallies : List Tally) (nodes : ℕ) (entry : DueWatcher)
    → IsOnly entry.watcher entry.name due → MayRunIn (round_in due tallies) nodes entry
    → IsRound (view_of due tallies nodes) → IsRound (view_of (with_due entry due) tallies nodes)
round_with due tallies nodes entry only may round = record {
  rising = rising_with entry due round.rising;
  unlike = unlike_with entry due round.rising only round.unlike;
  due = all_with (MayRunIn (round_in due tallies) nodes) entry due round.due may;
  most = round.most;
}

pub round_without : (due : List DueWatcher) (tallies : List Tally) (nodes watcher : ℕ)
    → IsRound (view_of due tallies nodes) → IsRound (view_of (without watcher due) tallies nodes)
round_without due tallies nodes watcher round = record {
  rising = order_without (λ one later. one.watcher < later.watcher) watcher due round.rising;
  unlike = order_without (λ one later. one.name ≢ later.name) watcher due round.unlike;
  due = all_without (MayRunIn (round_in due tallies) nodes) watcher due round.due;
  most = round.most;
}

pub round_filtered : (due : List DueWatcher) (tallies : List Tally) (nodes : ℕ) (test : DueWatcher → Bool)
    → IsRound (view_of due tallies nodes) → IsRound (view_of (filter test due) tallies nodes)
round_filtered due tallies nodes test round = record {
  rising = order_filtered (λ one later. one.watcher < later.watcher) test due round.rising;
  unlike = order_filtered (λ one later. one.name ≢ later.name) test due round.unlike;
  due = all_filtered (MayRunIn (round_in due tallies) nodes) (MayRunIn (round_in due tallies) nodes) test (λ one may e. may) due round.due;
  most = round.most;
}

-- there is more room
pub round_roomier : (due : List DueWatcher) (tallies : List Tally) (nodes more : ℕ) → nodes ≤ more
    → IsRound (view_of due tallies nodes) → IsRound (view_of due tallies more)
round_roomier due tallies nodes more le round = record {
  rising = round.rising;
  unlike = round.unlike;
  due = all_map (MayRunIn (round_in due tallies) nodes) (MayRunIn (round_in due tallies) more)
      (λ one may. ((let low = may.0 in omega arith), may.1, may.2)) due round.due;
  most = round.most;
}

-- a notice and a run count the same names, and what holds of who is due holds then
noted_long : (n : Notice) (watcher name : ℕ) (round : Round) → length (with_notice_as n watcher name round).tallies ≡ length round.tallies
noted_long notices.Due watcher name round = refl
noted_long notices.OverFirst watcher name round = length-set round.tallies name (record (tally_at round name) { over = true })
noted_long notices.OverAgain watcher name round = refl

pub notice_long : (watcher name : ℕ) (round : Round) → length (with_notice watcher name round).tallies ≡ length round.tallies
unfolding with_notice
notice_long watcher name round = noted_long (notice_of (tally_at round name)) watcher name round

noted_all : (Q : DueWatcher → Type 0) (n : Notice) (watcher name : ℕ) (round : Round) → AreAll Q round.due
    → (n ≡ notices.Due → Q (record { watcher = watcher; name = name })) → AreAll Q (with_notice_as n watcher name round).due
noted_all Q notices.Due watcher name round all one =
    all_with Q (record { watcher = watcher; name = name }) round.due all (one refl)
noted_all Q notices.OverFirst watcher name round all one = all
noted_all Q notices.OverAgain watcher name round all one = all

-- it need hold of who is told only where that makes it due
pub notice_all_if : (Q : DueWatcher → Type 0) (watcher name : ℕ) (round : Round) → AreAll Q round.due
    → (notice_of (tally_at round name) ≡ notices.Due → Q (record { watcher = watcher; name = name }))
    → AreAll Q (with_notice watcher name round).due
unfolding with_notice
notice_all_if Q watcher name round all one = noted_all Q (notice_of (tally_at round name)) watcher name round all one

pub notice_all : (Q : DueWatcher → Type 0) (watcher name : ℕ) (round : Round) → AreAll Q round.due
    → Q (record { watcher = watcher; name = name }) → AreAll Q (with_notice watcher name round).due
notice_all Q watcher name round all one = notice_all_if Q watcher name round all (λ due. one)

pub ran_long : (o : Option DueWatcher) (at : ℕ) (round : Round) → length (run_of o at round).tallies ≡ length round.tallies
ran_long None at round = refl
ran_long (Some entry) at round = length-set round.tallies entry.name (one_more (tally_at round entry.name))

pub ran_all : (Q : DueWatcher → Type 0) (o : Option DueWatcher) (at : ℕ) (round : Round) → slice_get round.due at ≡ o → AreAll Q round.due
    → AreAll Q (run_of o at round).due
ran_all Q None at round is all = all
ran_all Q (Some entry) at round is all = all_removed Q round.due at (slice_get_within round.due at entry is) all

-- another name is counted as before
tally_other : (tallies : List Tally) (name other : ℕ) (tally : Tally) → other ≢ name
    → get_or (slice_set tallies name tally) other blank ≡ get_or tallies other blank
tally_other tallies name other tally ne = get_or-set_other tallies name other tally blank ne

pub round_over : (due : List DueWatcher) (tallies : List Tally) (nodes name : ℕ) → name < length tallies
    → IsRound (view_of due tallies nodes)
    → IsRound (view_of due (slice_set tallies name (record (get_or tallies name blank) { over = true })) nodes)
round_over due tallies nodes name low round = record {
  rising = round.rising;
  unlike = round.unlike;
  due = all_map (MayRunIn (round_in due tallies) nodes)
      (MayRunIn (round_in due (slice_set tallies name (record (get_or tallies name blank) { over = true }))) nodes)
      (λ one may. (
        may.0,
        (let below = may.1 in
            let long = length-set tallies name (record (get_or tallies name blank) { over = true }) in omega arith),
        rw (same_runs one.name) may.2,
      )) due round.due;
  most = λ other. rw (same_runs other) (round.most other);
}
  where
    same_runs : (other : ℕ)
        → (get_or (slice_set tallies name (record (get_or tallies name blank) { over = true })) other blank).runs
        ≡ (get_or tallies other blank).runs
    same_runs other = elim (cases_eq other name) [
      | inl same ↦ rw same
          (ap (λ (t : Tally). t.runs)
          (get_or-set_same tallies name (record (get_or tallies name blank) { over = true }) blank low))
      | inr ne ↦ ap (λ (t : Tally). t.runs)
          (tally_other tallies name other (record (get_or tallies name blank) { over = true }) ne)
    ]

-- the run of a due watcher begins
pub round_ran : (due : List DueWatcher) (tallies : List Tally) (nodes at : ℕ) (d : DueWatcher) → at < length due
    → IsRound (view_of due tallies nodes)
    → IsRound
    (view_of (remove due at)
    (slice_set tallies (get_or due at d).name (one_more (get_or tallies (get_or due at d).name blank))) nodes)
round_ran due tallies nodes at d low round = record {
  rising = order_removed (λ one later. one.watcher < later.watcher) due at low round.rising;
  unlike = order_removed (λ one later. one.name ≢ later.name) due at low round.unlike;
  due = all_both (MayRunIn (round_in due tallies) nodes) (λ one. one.name ≢ (get_or due at d).name)
      (MayRunIn (round_in (remove due at)
      (slice_set tallies (get_or due at d).name (one_more (get_or tallies (get_or due at d).name blank)))) nodes)
      (λ one may ne. (
        may.0,
        (let below = may.1 in let long = length-set tallies (get_or due at d).name
            (one_more (get_or tallies (get_or due at d).name blank)) in omega arith),
        rw (tally_other tallies (get_or due at d).name one.name (one_more (get_or tallies (get_or due at d).name blank))
            ne) may.2,
      ))
      (remove due at) (all_removed (MayRunIn (round_in due tallies) nodes) due at low round.due)
      (removed_unlike due at d low round.unlike);
  most = λ other. elim (cases_eq other (get_or due at d).name) [
    | inl same ↦ rw (
      same,
      get_or-set_same tallies (get_or due at d).name
          (one_more (get_or tallies (get_or due at d).name blank)) blank may.1,
    ) (let left = may.2 in omega arith)
    | inr ne ↦ rw (tally_other tallies (get_or due at d).name other
        (one_more (get_or tallies (get_or due at d).name blank)) ne) (round.most other)
  ];
}
  where
    may : MayRunIn (round_in due tallies) nodes (get_or due at d)
    may = all_at (MayRunIn (round_in due tallies) nodes) due at d round.due low

pub may_run : (due : List DueWatcher) (tallies : List Tally) (nodes at : ℕ) (entry : DueWatcher) → at < length due
    → entry ≡ get_or due at entry → IsRound (view_of due tallies nodes) → MayRunIn (round_in due tallies) nodes entry
may_run due tallies nodes at entry low is round =
    subst (MayRunIn (round_in due tallies) nodes) (sym is)
    (all_at (MayRunIn (round_in due tallies) nodes) due at entry round.due low)

pub round_after : (due : List DueWatcher) (tallies : List Tally) (nodes at : ℕ) (entry : DueWatcher) → at < length due
    → entry ≡ get_or due at entry → IsRound (view_of due tallies nodes)
    → IsRound (view_of (remove due at) (slice_set tallies entry.name (one_more (get_or tallies entry.name blank)))
    nodes)
round_after due tallies nodes at entry low is round =
    subst (λ (z : DueWatcher). IsRound
    (view_of (remove due at) (slice_set tallies z.name (one_more (get_or tallies z.name blank))) nodes))
    (sym is) (round_ran due tallies nodes at entry low round)

pub watcher_is : (round : Round) (at : ℕ) (entry : DueWatcher) → at < length round.due
    → entry ≡ get_or round.due at entry
    → watcher_at at round ≡ Some entry.watcher
watcher_is round at entry low is = rw (slice_get_read round.due (length round.due) at entry refl low is) refl

pub ran_is : (round : Round) (at : ℕ) (entry : DueWatcher) → at < length round.due → entry ≡ get_or round.due at entry
    → with_run at round ≡ record {
      due = remove round.due at;
      tallies = slice_set round.tallies entry.name
          (one_more (tally_at round entry.name));
    }
unfolding with_run
ran_is round at entry low is = rw (slice_get_read round.due (length round.due) at entry refl low is) refl

none_at : (due : List DueWatcher) (at : ℕ) → length due ≡ 0 → slice_get due at ≡ None
none_at [] zero none = refl
none_at [] (suc at) none = refl
none_at (first ∷ rest) at none = absurd (omega arith)

pub nobody_ran : (round : Round) (at : ℕ) → length round.due ≡ 0 → with_run at round ≡ round
unfolding with_run
nobody_ran round at none = rw (none_at round.due at none) refl

pub told_due : (watcher name : ℕ) (round : Round) (tally : Tally) → tally ≡ tally_at round name → tally.runs < 8
    → with_notice watcher name round ≡ record round {
      due = with_due (record { watcher = watcher; name = name })
          round.due;
    }
unfolding with_notice
told_due watcher name round tally is left = rw (sym is, lt-ltb tally.runs 8 left) refl

-- a due watcher is told by its name
pub told_still : (round : Round) (nodes at watcher name : ℕ) → IsRoundOf round nodes → is_at round.due at watcher ≡ true
    → IsOnly watcher name round.due
    → (notice_of (tally_at round name) ≡ notices.Due) × (with_notice watcher name round ≡ round)
told_still round nodes at watcher name holds there only =
    let d : DueWatcher = record { watcher = watcher; name = name } in
    let is = is_there round.due at watcher there in
    let named = (all_at (λ one. (one.watcher ≡ watcher → one.name ≡ name) × (one.name ≡ name → one.watcher ≡ watcher))
    round.due at d only is.0).0 (is.1 d) in
    let left : (tally_at round name).runs < 8 = subst (λ (n : ℕ). (tally_at round n).runs < 8) named
    (all_at (MayRunIn round nodes) round.due at d holds.due is.0).2 in (
      rw (lt-ltb (tally_at round name).runs 8 left) refl,
      told_due watcher name round (tally_at round name) refl left
          ∙ ap (λ (due : List DueWatcher). round_in due round.tallies)
          (sym (stays_there d round.due at (place_there round.due at watcher holds.rising there) there)),
    )

pub told_again : (watcher name : ℕ) (round : Round) (tally : Tally) → tally ≡ tally_at round name → 8 ≤ tally.runs
    → tally.over ≡ true → with_notice watcher name round ≡ round
unfolding with_notice
told_again watcher name round tally is most over = rw (sym is, le-ltb tally.runs 8 most, over) refl

pub told_first : (watcher name : ℕ) (round : Round) (tally : Tally) → tally ≡ tally_at round name → 8 ≤ tally.runs
    → tally.over ≡ false
    → with_notice watcher name round ≡ record round {
      tallies = slice_set round.tallies name
          (record tally { over = true });
    }
unfolding with_notice
told_first watcher name round tally is most over =
    rw (
      le-ltb (tally_at round name).runs 8 (subst (λ (t : Tally). 8 ≤ t.runs) is most),
      ap (λ (t : Tally). t.over)
          (sym is) ∙ over,
    )
    (ap (λ (t : Tally). record round { tallies = slice_set round.tallies name (record t { over = true }) }) (sym is))

pub item_is : (tallies : List Tally) (i name : ℕ) (tally : Tally) → tally ≡ get_or tallies i tally → i ≡ name
    → name < length tallies → tally ≡ get_or tallies name blank
item_is tallies i name tally is same low =
    is ∙ ap (λ (k : ℕ). get_or tallies k tally) same ∙ get_or_default tallies name tally blank low

-- there is room for a watcher more
pub room_with : (due : List DueWatcher) (tallies : List Tally) (nodes : ℕ) (entry : DueWatcher) → entry.watcher < nodes
    → IsRound (view_of due tallies nodes) → length (with_due entry due) ≤ nodes
room_with due tallies nodes entry low round = rising_room nodes (with_due entry due)
    (all_with (λ one. one.watcher < nodes) entry due
    (all_map (MayRunIn (round_in due tallies) nodes) (λ one. one.watcher < nodes) (λ one may. may.0) due round.due) low)
    (rising_with entry due round.rising)

pub room_of : (due : List DueWatcher) (tallies : List Tally) (nodes : ℕ) → IsRound (view_of due tallies nodes)
    → length due ≤ nodes
room_of due tallies nodes round = rising_room nodes due
    (all_map (MayRunIn (round_in due tallies) nodes) (λ one. one.watcher < nodes) (λ one may. may.0) due round.due)
    round.rising

-- what a picker chose is a position
pub picked_is : (at : ℕ → ℕ) (n m r : ℕ) → r ≡ at n → n ≡ m → (n == 0) ≡ false → ((k : ℕ) → 1 ≤ k → at k < k)
    → (r < m) × (r ≡ at m)
picked_is at n m r is same some below = (
  subst (λ (k : ℕ). r < k) same (subst (λ (k : ℕ). k < n) (sym is) (below n (some_of n some))),
  is ∙ ap at same,
)
  where
    some_of : (n : ℕ) → (n == 0) ≡ false → 1 ≤ n
    some_of zero e = absurd (cc)
    some_of (suc n) e = omega arith
