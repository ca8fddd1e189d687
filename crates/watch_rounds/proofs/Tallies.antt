-- What is counted of each name, and which names are listed.
use Rattle.std.proofs.Common.{◌≡◌, ◌⊎◌, inl, inr, ℕ, zero, suc, ◌+◌, ◌-◌, ◌*◌, ◌<◌, ◌≤◌, true, false, List, [], ◌∷◌, ◌++◌, length, drop, refl, sym, ◌∙◌, ap, subst, arith, get_or, replicate}
use Rattle.std.specs.Prelude.{◌==◌, slice_set}
use Rattle.std.specs.List.{sum_by}
use Rattle.std.proofs.lemmas.Bool.{cond_both, cases_eq, cases_lt, eqb-true, eqb-false, ne_eqb}
use Rattle.std.proofs.lemmas.List.{get_or-set_same, get_or-set_other, length-set, length-append, length-replicate, get_or_past, get_or_append_left, get_or-append_right, append_assoc}
use Rattle.std.proofs.lemmas.List.Sums.{sum_by-set, sum_by-append, sum_by-cons}
use Rattle.std.proofs.lemmas.List.Folds.{sum_by-replicate}
use Rattle.watch_rounds.specs.declared.tally.Tally.{Tally}
use Rattle.std.proofs.lemmas.Option.{slice_get-get_or}
use Rattle.watch_rounds.specs.declared.rounds.DueWatcher.{DueWatcher}
use Rattle.watch_rounds.specs.declared.notice.Notice.{Notice}
use Rattle.watch_rounds.specs.declared.notice.Notice.TheVariants as notice
use Rattle.watch_rounds.specs.Round.{Round, blank, one_more, left_in, runs_left, tally_at, notice_of, with_notice, with_notice_as, with_run}
use Rattle.walks.specs.Walk.{Among}
use Rattle.watch_rounds.specs.Stands.{unrun, IsTracked}

pub among_end : (name : ℕ) (names : List ℕ) → Among name (names ++ name ∷ [])
among_end name [] = inl refl
among_end name (other ∷ names) = inr (among_end name names)

pub among_more : (name more : ℕ) (names : List ℕ) → Among name names → Among name (names ++ more ∷ [])
among_more name more [] among = absurd among
among_more name more (other ∷ names) among =
    elim among [ inl same ↦ inl same | inr later ↦ inr (among_more name more names later) ]

pub among_or : (name more : ℕ) (names : List ℕ) → Among name (names ++ more ∷ []) → Among name names ⊎ (name ≡ more)
among_or name more [] among = elim among [ inl same ↦ inr same | inr none ↦ absurd none ]
among_or name more (other ∷ names) among = elim among [
  | inl same ↦ inl (inl same)
  | inr later ↦ elim (among_or name more names later) [ inl was ↦ inl (inr was) | inr same ↦ inr same ]
]

-- what was read at a place of a list is listed
pub among_item : (names : List ℕ) (i name : ℕ) → i < length names → name ≡ get_or names i name → Among name names
among_item [] i name low is = absurd (omega arith)
among_item (other ∷ names) zero name low is = inl is
among_item (other ∷ names) (suc i) name low is = inr (among_item names i name (omega arith) is)

-- what is left of the names after one of them
more : (i : ℕ) → suc (i + 1) ≡ suc i + 1
more i = omega arith

pub among_rest : (names : List ℕ) (i name other : ℕ) → i < length names → name ≡ get_or names i name
    → Among other (drop i names)
    → (other ≡ name) ⊎ Among other (drop (i + 1) names)
among_rest [] i name other low is among = absurd (omega arith)
among_rest (first ∷ names) zero name other low is among = elim among [
  | inl same ↦ inl (same ∙ sym is)
  | inr later ↦
      inr later
]
among_rest (first ∷ names) (suc i) name other low is among =
    subst (λ (n : ℕ). (other ≡ name) ⊎ Among other (drop n (first ∷ names))) (more i)
    (among_rest names i name other (omega arith) is among)

not_past : (name : ℕ) (names : List ℕ) (i : ℕ) → length names ≤ i → Among name (drop i names) → ⊥
not_past name [] zero past among = among
not_past name [] (suc i) past among = among
not_past name (other ∷ names) zero past among = omega arith
not_past name (other ∷ names) (suc i) past among = not_past name names i (omega arith) among

pub read_blank : (n name : ℕ) → get_or (replicate n blank) name blank ≡ blank
read_blank zero name = refl
read_blank (suc n) zero = refl
read_blank (suc n) (suc name) = read_blank n name

pub all_blank : (tallies : List Tally) → ((name : ℕ) → get_or tallies name blank ≡ blank)
    → tallies ≡ replicate (length tallies) blank
all_blank [] each = refl
all_blank (tally ∷ tallies) each =
    ap (λ t. t ∷ tallies) (each 0) ∙ ap (λ l. blank ∷ l) (all_blank tallies (λ name. each (suc name)))

-- the names that are left to clear: each other is blank
pub cleared_more : (tallies : List Tally) (names : List ℕ) (i name : ℕ) → i < length names → name ≡ get_or names i name
    → name < length tallies
    → ((other : ℕ) → (Among other (drop i names) → ⊥) → get_or tallies other blank ≡ blank)
    → (other : ℕ) → (Among other (drop (i + 1) names) → ⊥) → get_or (slice_set tallies name blank) other blank ≡ blank
cleared_more tallies names i name low is within each other apart = elim (cases_eq other name) [
  | inl same ↦ subst (λ (z : ℕ). get_or (slice_set tallies name blank) z blank ≡ blank) (sym same)
      (get_or-set_same tallies name blank blank within)
  | inr ne ↦ get_or-set_other tallies name other blank blank ne
      ∙ each other
      (λ among. elim (among_rest names i name other low is among) [ inl same ↦ ne same | inr later ↦ apart later ])
]

pub cleared_all : (tallies : List Tally) (names : List ℕ) (i : ℕ) → length names ≤ i
    → ((other : ℕ) → (Among other (drop i names) → ⊥) → get_or tallies other blank ≡ blank)
    → tallies ≡ replicate (length tallies) blank
cleared_all tallies names i past each = all_blank tallies (λ name. each name (not_past name names i past))

grown_at : (tallies : List Tally) (more name : ℕ) → get_or (tallies ++ replicate more blank) name blank ≡ get_or
    tallies name blank
grown_at tallies more name = elim (cases_lt name (length tallies)) [
  | inl low ↦ get_or_append_left tallies (replicate more blank) blank name low
  | inr past ↦ get_or-append_right tallies (replicate more blank) (length tallies) name blank refl past
      ∙ read_blank more (name - length tallies) ∙ sym (get_or_past tallies name blank past)
]

pub tally_grown : (tallies : List Tally) (more name : ℕ)
    → get_or (tallies ++ replicate more blank) name blank ≡ get_or tallies name blank
tally_grown = grown_at

pub tracked_grown : (tallies : List Tally) (names : List ℕ) (more : ℕ) → IsTracked tallies names
    → IsTracked (tallies ++ replicate more blank) names
tracked_grown tallies names more tracked = record {
  within = λ name among. let low = tracked.within name among in
      let long = length-append tallies (replicate more blank) in
      omega arith;
  listed = λ name apart. grown_at tallies more name ∙ tracked.listed name apart;
  room = let long = length-append tallies (replicate more blank) in let n = length-replicate more blank in
      let total = sum_by-append unrun tallies (replicate more blank) in let ones = sum_by-replicate unrun more blank in
      let room = tracked.room in omega arith;
}

unrun_of : (tally : Tally) → tally.runs ≡ 0 → unrun tally ≡ 1
unrun_of tally none = rw none refl

run_of : (tally : Tally) → (tally.runs == 0) ≡ false → unrun tally ≡ 0
run_of tally some = rw some refl

run_more : (tally : Tally) → unrun (one_more tally) ≡ 0
run_more tally = cond_both (tally.runs + 1 == 0) 1 0 (λ n. n ≡ 0) (λ e. let none = eqb-true (tally.runs + 1) 0 e in
    absurd (omega arith)) (λ e. refl)

module _ (tallies : List Tally) (names : List ℕ) (name : ℕ) (low : name < length tallies)
    (tracked : IsTracked tallies names) where
  pub tracked_first : (get_or tallies name blank).runs ≡ 0
      → IsTracked (slice_set tallies name (one_more (get_or tallies name blank))) (names ++ name ∷ [])
  tracked_first none = record {
    within = λ other among. let long = length-set tallies name (one_more (get_or tallies name blank)) in
        elim (among_or other name names among) [
          | inl was ↦ (let below = tracked.within other was in omega arith)
          | inr same ↦ (omega arith)
        ];
    listed = λ other apart. get_or-set_other tallies name other (one_more (get_or tallies name blank)) blank
        (λ same. apart (subst (λ (z : ℕ). Among z (names ++ name ∷ [])) (sym same) (among_end name names)))
        ∙ tracked.listed other (λ among. apart (among_more other name names among));
    room = let total = sum_by-set unrun tallies name (one_more (get_or tallies name blank)) blank low in
        let one = unrun_of (get_or tallies name blank) none in let room = tracked.room in
        let more = run_more (get_or tallies name blank) in
        let long = length-set tallies name (one_more (get_or tallies name blank)) in
        let n = length-append names (name ∷ []) in omega arith;
  }

  pub tracked_again : ((get_or tallies name blank).runs == 0) ≡ false
      → IsTracked (slice_set tallies name (one_more (get_or tallies name blank))) names
  tracked_again some = record {
    within = λ other among. let long = length-set tallies name (one_more (get_or tallies name blank)) in
        let below = tracked.within other among in omega arith;
    listed = λ other apart. get_or-set_other tallies name other (one_more (get_or tallies name blank)) blank
        (λ same. eqb-false (get_or tallies name blank).runs 0 some
        (ap (λ (t : Tally). t.runs) (subst (λ (z : ℕ). get_or tallies z blank ≡ blank) same
        (tracked.listed other apart))))
        ∙ tracked.listed other apart;
    room = let total = sum_by-set unrun tallies name (one_more (get_or tallies name blank)) blank low in
        let one = run_of (get_or tallies name blank) some in let room = tracked.room in
        let more = run_more (get_or tallies name blank) in
        let long = length-set tallies name (one_more (get_or tallies name blank)) in omega arith;
  }

  -- a name is over once it has run 8 times: it is listed
  pub tracked_over : 8 ≤ (get_or tallies name blank).runs
      → IsTracked (slice_set tallies name (record (get_or tallies name blank) { over = true })) names
  tracked_over most = record {
    within = λ other among. let long = length-set tallies name (record (get_or tallies name blank) { over = true }) in
        let below = tracked.within other among in omega arith;
    listed = λ other apart. get_or-set_other tallies name other (record (get_or tallies name blank) { over = true })
        blank
        (λ same. let none = ap (λ (t : Tally). t.runs) (subst (λ (z : ℕ). get_or tallies z blank ≡ blank) same
        (tracked.listed other apart)) in
        absurd (omega arith))
        ∙ tracked.listed other apart;
    room = let total = sum_by-set unrun tallies name (record (get_or tallies name blank) { over = true }) blank low in
        let room = tracked.room in
        let long = length-set tallies name (record (get_or tallies name blank) { over = true }) in omega arith;
  }

  -- a run takes one of the runs that are left
  pub one_less : (get_or tallies name blank).runs < 8
      → sum_by left_in (slice_set tallies name (one_more (get_or tallies name blank))) + 1 ≡ sum_by left_in tallies
  one_less left =
      let total = sum_by-set left_in tallies name (one_more (get_or tallies name blank)) blank low in omega arith

pub counted_first : (tallies : List Tally) (names : List ℕ) (name : ℕ) (tally : Tally) → name < length tallies
    → IsTracked tallies names → tally ≡ get_or tallies name blank → tally.runs ≡ 0
    → IsTracked (slice_set tallies name (one_more tally)) (names ++ name ∷ [])
counted_first tallies names name tally low tracked is none =
    subst (λ (t : Tally). IsTracked (slice_set tallies name (one_more t)) (names ++ name ∷ [])) (sym is)
    (tracked_first tallies names name low tracked (ap (λ (t : Tally). t.runs) (sym is) ∙ none))

pub counted_again : (tallies : List Tally) (names : List ℕ) (name : ℕ) (tally : Tally) → name < length tallies
    → IsTracked tallies names → tally ≡ get_or tallies name blank → (tally.runs ≡ 0 → ⊥)
    → IsTracked (slice_set tallies name (one_more tally)) names
counted_again tallies names name tally low tracked is some =
    subst (λ (t : Tally). IsTracked (slice_set tallies name (one_more t)) names) (sym is)
    (tracked_again tallies names name low tracked
    (ne_eqb (get_or tallies name blank).runs 0 (λ none. some (ap (λ (t : Tally). t.runs) is ∙ none))))

pub over_tracked : (tallies : List Tally) (names : List ℕ) (name : ℕ) (tally : Tally) → name < length tallies
    → IsTracked tallies names → tally ≡ get_or tallies name blank → 8 ≤ tally.runs
    → IsTracked (slice_set tallies name (record tally { over = true })) names
over_tracked tallies names name tally low tracked is most =
    subst (λ (t : Tally). IsTracked (slice_set tallies name (record t { over = true })) names) (sym is)
    (tracked_over tallies names name low tracked (subst (λ (t : Tally). 8 ≤ t.runs) is most))

pub most_left : (tallies : List Tally) → sum_by left_in tallies ≤ 8 * length tallies
most_left [] = omega arith
most_left (tally ∷ tallies) = let more = most_left tallies in let total = sum_by-cons left_in tally tallies in
    omega arith

refill : (tallies : List Tally) (k n : ℕ) → k < n
    → (tallies ++ blank ∷ []) ++ replicate (n - (k + 1)) blank ≡ tallies ++ replicate (n - k) blank
refill tallies k n low = append_assoc tallies (blank ∷ []) (replicate (n - (k + 1)) blank)
    ∙ ap (λ (m : ℕ). tallies ++ replicate m blank) (same k n low)
  where
    same : (k n : ℕ) → k < n → suc (n - (k + 1)) ≡ n - k
    same k n low = omega arith

pub refilled : (old new first : List Tally) (tally : Tally) (k n : ℕ) → k < n → new ≡ old ++ tally ∷ [] → tally ≡ blank
    → old ++ replicate (n - k) blank ≡ first ++ replicate n blank
    → new ++ replicate (n - (k + 1)) blank ≡ first ++ replicate n blank
refilled old new first tally k n low is clear so = rw (is, clear) (refill old k n low ∙ so)

pub filled_room : (old first : List Tally) (k n : ℕ) → k < n
    → old ++ replicate (n - k) blank ≡ first ++ replicate n blank
    → length old < length first + n
filled_room old first k n low so =
    let long = ap length so in let a = length-append old (replicate (n - k) blank) in
    let b = length-append first (replicate n blank) in let c = length-replicate (n - k) blank in
    let d = length-replicate n blank in omega arith

nil_after : (tallies : List Tally) → tallies ++ [] ≡ tallies
nil_after [] = refl
nil_after (tally ∷ tallies) = ap (λ l. tally ∷ l) (nil_after tallies)

pub filled : (old first : List Tally) (n : ℕ) → old ++ replicate (n - n) blank ≡ first ++ replicate n blank
    → old ≡ first ++ replicate n blank
filled old first n so = sym (nil_after old) ∙ ap (λ (m : ℕ). old ++ replicate m blank) (none n) ∙ so
  where
    none : (n : ℕ) → 0 ≡ n - n
    none n = omega arith

pub zero_of : (n : ℕ) → (n == 0) ≡ true → n ≡ 0
zero_of n e = eqb-true n 0 e

-- a run takes one of the runs that are left, and a mark takes none
pub left_falls : (tallies : List Tally) (name : ℕ) → name < length tallies → (get_or tallies name blank).runs < 8
    → sum_by left_in (slice_set tallies name (one_more (get_or tallies name blank))) + 1 ≡ sum_by left_in tallies
left_falls tallies name low left =
    let total = sum_by-set left_in tallies name (one_more (get_or tallies name blank)) blank low in omega arith

pub left_marked : (tallies : List Tally) (name : ℕ)
    → sum_by left_in (slice_set tallies name (record (get_or tallies name blank) { over = true })) ≡ sum_by left_in
    tallies
left_marked tallies name = elim (cases_lt name (length tallies)) [
  | inl low ↦ (let total = sum_by-set left_in tallies name (record (get_or tallies name blank) { over = true }) blank
      low in omega arith)
  | inr past ↦ ap (λ (l : List Tally). sum_by left_in l)
      (set_past tallies name (record (get_or tallies name blank) { over = true }) past)
]
  where
    set_past : (tallies : List Tally) (name : ℕ) (tally : Tally) → length tallies ≤ name
        → slice_set tallies name tally ≡ tallies
    set_past [] name tally past = refl
    set_past (first ∷ tallies) zero tally past = absurd (omega arith)
    set_past (first ∷ tallies) (suc name) tally past = ap (λ l. first ∷ l) (set_past tallies name tally (omega arith))

-- whom a notice makes due, or whose name it marks: the runs that are left stay
pub left_noticed : (watcher name : ℕ) (round : Round) → runs_left (with_notice watcher name round) ≡ runs_left round
unfolding runs_left with_notice
left_noticed watcher name round = by_notice (notice_of (tally_at round name))
  where
    by_notice : (notice : Notice) → sum_by left_in (with_notice_as notice watcher name round).tallies ≡ sum_by left_in
        round.tallies
    by_notice notice.Due = refl
    by_notice notice.OverFirst = left_marked round.tallies name
    by_notice notice.OverAgain = refl

-- a run of a watcher that may run takes one of the runs that are left
pub left_ran : (at : ℕ) (round : Round) (d : DueWatcher) → at < length round.due
    → (get_or round.due at d).name < length round.tallies → (tally_at round (get_or round.due at d).name).runs < 8
    → runs_left (with_run at round) + 1 ≡ runs_left round
unfolding runs_left with_run
left_ran at round d within low left =
    rw (slice_get-get_or round.due at d within) (left_falls round.tallies (get_or round.due at d).name low left)
