-- In a round a name runs at most eight times.
use Rattle.std.proofs.Common.{◌≡◌, inl, inr, ℕ, ◌+◌, ◌<◌, ◌≤◌, true, List, [], ◌∷◌, length, refl, sym, ◌∙◌, ap, arith, get_or}
use Rattle.std.specs.Prelude.{◌==◌, slice_set, if◌then◌else◌}
use Rattle.std.proofs.lemmas.Bool.{cases_Bool, cases_eq, cases_lt, eq-eqb, ne_eqb}
use Rattle.std.proofs.lemmas.List.{get_or-set_same, get_or-set_other}
use Rattle.std.proofs.lemmas.Option.{slice_get_cases}
use Rattle.watch_rounds.specs.declared.tally.Tally.{Tally}
use Rattle.watch_rounds.specs.Round.{Round, IsRound, blank, one_more, no_round, tally_at, with_notice, with_run}
use Rattle.watch_rounds.specs.Course.{Happening, Tell, Start, Leave, after, MayHappen, AreACourse, starts, all_starts, AtMostEightRuns}
use Rattle.watch_rounds.proofs.Stays.{view_of, round_empty, round_with, round_without, round_over, round_after, may_run, told_due, told_first, told_again}
use Rattle.watch_rounds.proofs.Tallies.{read_blank}

abbrev pub AreRound : Round → ℕ → Type 0
AreRound round nodes = IsRound (view_of round.due round.tallies nodes)

unfoldable pub runs_at : Round → ℕ → ℕ
runs_at round name = (tally_at round name).runs

-- a change of one name's tally that keeps its runs
same_runs : (tallies : List Tally) (told name : ℕ) → told < length tallies
    → (get_or (slice_set tallies told (record (get_or tallies told blank) { over = true })) name blank).runs
    ≡ (get_or tallies name blank).runs
same_runs tallies told name low = elim (cases_eq name told) [
  | inl same ↦ rw same (ap (λ (t : Tally). t.runs)
      (get_or-set_same tallies told (record (get_or tallies told blank) { over = true }) blank low))
  | inr ne ↦ ap (λ (t : Tally). t.runs)
      (get_or-set_other tallies told name (record (get_or tallies told blank) { over = true }) blank ne)
]

-- what holds of a round holds after a notice too, and no run begins
pub told : (nodes watcher name : ℕ) (round : Round) → MayHappen nodes (Tell watcher name) round → AreRound round nodes
    → AreRound (with_notice watcher name round) nodes
    × ((other : ℕ) → runs_at (with_notice watcher name round) other ≡ runs_at round other)
unfolding runs_at
told nodes watcher name round may stands = elim (cases_lt (tally_at round name).runs 8) [
  | inl left ↦
      rw (told_due watcher name round (tally_at round name) refl left) (
        round_with round.due round.tallies nodes (record { watcher = watcher; name = name }) may.2
            (may.0, may.1, left) stands,
        λ other. refl,
      )
  | inr most ↦ elim (cases_Bool (tally_at round name).over) [
    | inl on ↦ rw (told_again watcher name round (tally_at round name) refl most on) (stands, λ other. refl)
    | inr off ↦ rw (told_first watcher name round (tally_at round name) refl most off)
        (round_over round.due round.tallies nodes name may.1 stands, λ other. same_runs round.tallies name other may.1)
  ]
]

-- one run more of the name that runs
one_run : (tallies : List Tally) (ran name : ℕ) → ran < length tallies
    → (get_or (slice_set tallies ran (one_more (get_or tallies ran blank))) name blank).runs
    ≡ (get_or tallies name blank).runs + (if ran == name then 1 else 0)
one_run tallies ran name low = elim (cases_eq ran name) [
  | inl same ↦ rw (eq-eqb ran name same, ← same)
      (ap (λ (t : Tally). t.runs) (get_or-set_same tallies ran (one_more (get_or tallies ran blank)) blank low))
  | inr ne ↦ rw (ne_eqb ran name ne) (ap (λ (t : Tally). t.runs)
      (get_or-set_other tallies ran name (one_more (get_or tallies ran blank)) blank (λ same. ne (sym same)))
      ∙ more (get_or tallies name blank).runs)
]
  where
    more : (n : ℕ) → n ≡ n + 0
    more n = omega arith

-- and after a run
pub ran : (nodes at : ℕ) (round : Round) → AreRound round nodes → AreRound (with_run at round) nodes
    × ((name : ℕ) → runs_at (with_run at round) name ≡ runs_at round name + starts (Start at) name round)
unfolding runs_at with_run
ran nodes at round stands = elim (slice_get_cases round.due at).1 [
  | inl found ↦
      let may = may_run round.due round.tallies nodes at found.0 found.1 (sym found.3) stands in
      rw (found.2) (
        round_after round.due round.tallies nodes at found.0 found.1 (sym found.3) stands,
        λ name. one_run round.tallies found.0.name name may.1,
      )
  | inr past ↦ rw (past.1) (stands, λ name. more (runs_at round name))
]
  where
    more : (n : ℕ) → n ≡ n + 0
    more n = omega arith

happened : (nodes : ℕ) (one : Happening) (round : Round) → MayHappen nodes one round → AreRound round nodes
    → AreRound (after one round) nodes
    × ((name : ℕ) → runs_at (after one round) name ≡ runs_at round name + starts one name round)
unfolding runs_at
happened nodes (Tell watcher name) round may stands =
    let so = told nodes watcher name round may stands in
    (so.0, λ other. let same = so.1 other in omega arith)
happened nodes (Start at) round may stands = ran nodes at round stands
happened nodes (Leave watcher) round may stands =
    (round_without round.due round.tallies nodes watcher stands, λ other. omega arith)

few_runs : (nodes name : ℕ) (course : List Happening) (round : Round) → AreACourse nodes course round
    → AreRound round nodes → runs_at round name + all_starts course name round ≤ 8
unfolding runs_at
few_runs nodes name [] round may stands = let most = stands.most name in omega arith
few_runs nodes name (one ∷ later) round may stands =
    let so = happened nodes one round may.0 stands in
    let few = few_runs nodes name later (after one round) may.1 so.0 in
    let more = so.1 name in omega arith

pub at_most_eight_runs : AtMostEightRuns
unfolding runs_at
at_most_eight_runs nodes names name course may =
    let few = few_runs nodes name course (no_round names) may (round_empty names nodes (read_blank names)) in omega arith
