-- What holds of a session with watchers stays while they are told and run.
use Rattle.std.proofs.Common.{◌≡◌, ℕ, zero, suc, ◌-◌, Option, Some, None, ◌<◌, ◌≤◌, ◌+◌, true, false, List, [], ◌∷◌, ◌++◌, append-nil, length, replicate, refl, sym, ap, subst, ◌∙◌, arith}
use Rattle.std.specs.Prelude.{slice_get, IfSome, IfNone, max}
use Rattle.std.proofs.lemmas.List.{length-replicate}
use Rattle.std.proofs.lemmas.Option.{slice_get-get_or}
use Rattle.watch_rounds.specs.declared.rounds.DueWatcher.{DueWatcher}
use Rattle.watch_rounds.specs.declared.tally.Tally.{Tally}
use Rattle.watch_rounds.specs.declared.notice.Notice.{Notice}
use Rattle.watch_rounds.specs.declared.notice.Notice.TheVariants as notices
use Rattle.watch_rounds.specs.Due.{AreAll, IsOnly}
use Rattle.watch_rounds.specs.Round.{Round, RoundsView, IsRound, blank, no_round, grown, notice_of, tally_at, with_notice, with_run, watcher_of}
use Rattle.watch_rounds.proofs.Places.{all_map}
use Rattle.watch_rounds.proofs.Stays.{nobody_ran, notice_long, notice_all, ran_long, ran_all}
use Rattle.desk_model.specs.Market.{Market, slot_at, is_watcher}
use Rattle.desk_model.specs.State.{State}
use Rattle.session_model.specs.Standing.{Standing, name_of}
use Rattle.session_model.specs.Course.{Running, notice, over_lines}
use Rattle.session_core.specs.Watchers.{IsAWatcher}
use Rattle.session_rounds.specs.Fits.{Fits, IsLive, IsDueOf, AreKnown}
use Rattle.session_rounds.specs.Goes.{Output, with_more, Does, HasEnded}
use Rattle.session_rounds.proofs.Going.{more_none}
use Rattle.session_rounds.proofs.Hearing.{with_noticed}
use Rattle.session_rounds.proofs.Known.{known_same}

-- a watcher was told
pub fits_notice : {P : Type 0} → (r : Running P) (nodes w name : ℕ) → Fits P r nodes → IsAWatcher r.standing w → name ≡ name_of r.standing w
    → Fits P (record r { round = with_notice w name r.round }) nodes
fits_notice r nodes w name fits watcher named = record {
  counted = notice_long w name r.round ∙ fits.counted;
  room = fits.room;
  spare = fits.spare;
  due = notice_all (IsDueOf r.standing) w name r.round fits.due (watcher.live, named);
  known = fits.known;
}

-- a watcher that is due already was told again: nothing changes
pub only_of : (p : Standing) (due : List DueWatcher) (w : ℕ) → AreAll (IsDueOf p) due → IsAWatcher p w
    → IsOnly w (name_of p w) due
only_of p due w all watcher =
    all_map (IsDueOf p)
    (λ one. (one.watcher ≡ w → one.name ≡ name_of p w) × (one.name ≡ name_of p w → one.watcher ≡ w))
    (λ one is. (λ same. is.1 ∙ ap (name_of p) same, λ named. watcher.alone one.watcher is.0 (sym is.1 ∙ named))) due all

pub told_still : {P : Type 0} → (r : Running P) (w : ℕ) (out : Output)
    → (notice_of (tally_at r.round (name_of r.standing w)) ≡ notices.Due)
    × (with_notice w (name_of r.standing w) r.round ≡ r.round) → Does P (notice w r) r out out
told_still {P} r w out still = record {
  next = ap (λ (round : Round). let q : Running P = record r { round = round } in q) (sym still.1);
  out = more_none out
      ∙ ap (λ (n : Notice). with_more (over_lines r.standing.names (name_of r.standing w) n) [] out) (sym still.0);
}

-- other notices are left
pub fits_leaving : {P : Type 0} → (r : Running P) (nodes : ℕ) (rest : List ℕ) (new : Standing) → Fits P r nodes
    → new ≡ with_noticed rest r.standing → Fits P (record r { standing = new }) nodes
fits_leaving {P} r nodes rest new fits is =
    subst (λ (p : Standing). Fits P (record r { standing = p }) nodes) (sym is)
    (record { counted = fits.counted; room = fits.room; spare = fits.spare; due = fits.due; known = fits.known })

-- a price leaves the market as it was
pub fits_priced : {P : Type 0} → (r : Running P) (nodes : ℕ) (new : Standing) (s : State) → Fits P r nodes
    → s.market ≡ r.standing.state.market → new ≡ record r.standing { state = s } → Fits P (record r { standing = new }) nodes
fits_priced {P} r nodes new s fits markets is =
    subst (λ (p : Standing). Fits P (record r { standing = p }) nodes) (sym is)
    (record {
      counted = fits.counted;
      room = fits.room;
      spare = fits.spare;
      due = subst (λ (m : Market). AreAll (λ (entry : DueWatcher). (is_watcher (slot_at m entry.watcher) ≡ true)
          × (entry.name ≡ name_of r.standing entry.watcher)) r.round.due) (sym markets) fits.due;
      known = known_same r.standing (record r.standing { state = s }) refl refl fits.known;
    })

-- a run begins
pub fits_ran : {P : Type 0} → (r : Running P) (nodes at : ℕ) (picker : P) → Fits P r nodes
    → Fits P (record r { round = with_run at r.round; picker = picker }) nodes
unfolding with_run
fits_ran r nodes at picker fits = record {
  counted = ran_long (slice_get r.round.due at) at r.round ∙ fits.counted;
  room = fits.room;
  spare = fits.spare;
  due = ran_all (IsDueOf r.standing) (slice_get r.round.due at) at r.round refl fits.due;
  known = fits.known;
}

-- who runs next is a live watcher
pub live_if : (p : Standing) (due : List DueWatcher) (at : ℕ) (result : Option ℕ) → AreAll (IsDueOf p) due
    → result ≡ watcher_of (slice_get due at) → IfSome result (IsLive p)
live_if p due at None all is = tt
live_if p due at (Some w) all is = by due at all is
  where
    same : (v : ℕ) → Some w ≡ Some v → w ≡ v
    same v e = cc

    by : (due : List DueWatcher) (at : ℕ) → AreAll (IsDueOf p) due → Some w ≡ watcher_of (slice_get due at) → IsLive p w
    by [] zero all is = absurd (cc)
    by [] (suc at) all is = absurd (cc)
    by (first ∷ rest) zero all is =
        subst (IsLive p) (sym (same first.watcher is)) all.0.0
    by (first ∷ rest) (suc at) all is = by rest at all.1 is

none_due : (due : List DueWatcher) (at : ℕ) → (1 ≤ length due → at < length due) → watcher_of (slice_get due at) ≡ None → length due ≡ 0
none_due [] at low is = refl
none_due (first ∷ rest) at low is =
    let some = slice_get-get_or (first ∷ rest) at first (low (omega arith)) in absurd (never (sym (ap watcher_of some) ∙ is))
  where
    never : {w : ℕ} → Some w ≡ None → ⊥
    never e = cc

pub none_if : (due : List DueWatcher) (at : ℕ) (result : Option ℕ) → result ≡ watcher_of (slice_get due at)
    → (1 ≤ length due → at < length due) → IfNone result (length due ≡ 0)
none_if due at None is low = none_due due at low (sym is)
none_if due at (Some w) is low = tt

-- no round runs
pub fits_opened : {P : Type 0} → (r : Running P) (nodes : ℕ) (new : Standing) → Fits P r nodes → new.names ≡ r.standing.names
    → new.of_object ≡ r.standing.of_object → (new.stopped ≡ false → r.standing.stopped ≡ false) → AreKnown new
    → Fits P (record r { standing = new; round = no_round (length r.round.tallies) }) nodes
fits_opened r nodes new fits names objects runs known = record {
  counted = length-replicate (length r.round.tallies) blank ∙ fits.counted ∙ sym (ap (λ (l : List (List ℕ)). length l) names);
  room = subst (λ (l : List ℕ). length l ≤ nodes) (sym objects) fits.room;
  spare = λ running. subst (λ (l : List ℕ). length l + 1 ≤ nodes) (sym objects) (fits.spare (runs running));
  due = tt;
  known = known;
}

-- room for more objects
no_names : (view : RoundsView) (nodes : ℕ) → grown 0 nodes view ≡ record view { nodes = max view.nodes nodes }
no_names view nodes =
    let e : 0 - length view.round.tallies ≡ 0 = omega arith in
    let same : max view.names 0 ≡ view.names = omega arith in
    λ i. record {
      round = record view.round { tallies = (ap (λ (n : ℕ). view.round.tallies ++ replicate n blank) e ∙ append-nil view.round.tallies) i };
      nodes = max view.nodes nodes;
      names = same i;
    }

pub grown_same : (old new : RoundsView) (nodes : ℕ) → new ≡ grown 0 nodes old
    → (new.round ≡ old.round) × (new.nodes ≡ max old.nodes nodes)
grown_same old new nodes is =
    let same = is ∙ no_names old nodes in
    (ap (λ (v : RoundsView). v.round) same, ap (λ (v : RoundsView). v.nodes) same)

-- a session with watchers begins
grown_blank : (names : ℕ) → (replicate 0 blank) ++ replicate (names - length (replicate 0 blank)) blank ≡ replicate names blank
grown_blank names = let e : names - 0 ≡ names = omega arith in ap (λ (n : ℕ). replicate n blank) e

pub begins : (names nodes : ℕ) (new : RoundsView) → new ≡ grown names nodes (record { round = no_round 0; nodes = 0; names = 0 })
    → (new.round ≡ no_round names) × (new.nodes ≡ max 0 nodes)
begins names nodes new is = (
  ap (λ (v : RoundsView). v.round) is ∙ ap (λ (l : List Tally). let r : Round = record { due = []; tallies = l } in r) (grown_blank names),
  ap (λ (v : RoundsView). v.nodes) is,
)

-- where nobody is due the round has ended
ended : (due : List DueWatcher) → length due ≡ 0 → due ≡ []
ended [] none = refl
ended (first ∷ rest) none = absurd (omega arith)

pub ends_if : (old : Round) (new : RoundsView) (at : ℕ) (result : Option ℕ) → IfNone result (length old.due ≡ 0)
    → new.round ≡ with_run at old → IsRound new → IfNone result (HasEnded new.round)
ends_if old new at None none is round = record {
  due = ap (λ (r : Round). r.due) (is ∙ nobody_ran old at none) ∙ ended old.due none;
  most = round.most;
}
ends_if old new at (Some w) none is round = tt
