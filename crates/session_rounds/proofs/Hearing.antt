-- Notices are handed out one at a time.
use Rattle.std.proofs.Common.{◌≡◌, ℕ, List, [], ◌∷◌, ◌++◌, refl, sym, ap, subst, ◌∙◌}
use Rattle.desk_model.specs.State.{State}
use Rattle.session_model.specs.Standing.{Standing}
use Rattle.session_model.specs.Course.{Running, Course, quiet, before, and_then, notice, noticed, heard, all_handed_out}
use Rattle.session_rounds.specs.Goes.{Output, Does, Halts, Goes}
use Rattle.session_rounds.proofs.Going.{goes_on, goes_halt, goes_end}

abbrev drained : {P : Type 0} → Running P → Running P
drained r = record r { standing = all_handed_out r.standing }

abbrev pub with_noticed : List ℕ → Standing → Standing
with_noticed ws p = record p { state = record p.state { noticed = ws } }

abbrev pub leaving : {P : Type 0} → List ℕ → Running P → Running P
leaving ws r = record r { standing = with_noticed ws r.standing }

-- a session whose desk stayed, and one whose desk forgot its notices
pub kept : (p q : Standing) (t : State) → p ≡ q → t ≡ p.state → (record p { state = t }) ≡ q
kept p q t same is = ap (λ (s : State). let z : Standing = record p { state = s } in z) is ∙ same

pub forgotten : (p q : Standing) (t : State) → p ≡ q → t ≡ record p.state { noticed = [] } → (record p { state = t }) ≡ all_handed_out q
forgotten p q t same is = ap (λ (s : State). let z : Standing = record p { state = s } in z) is ∙ ap all_handed_out same

heard_first : {P : Type 0} → (r : Running P) (w : ℕ) (rest : List ℕ) → r.standing.state.noticed ≡ w ∷ rest
    → heard r ≡ and_then (notice w (drained r)) (noticed rest)
unfolding heard noticed
heard_first r w rest is = ap (λ (ws : List ℕ). noticed ws (drained r)) is

heard_none : {P : Type 0} → (r : Running P) → r.standing.state.noticed ≡ [] → heard r ≡ quiet r
unfolding heard noticed
heard_none r is = ap (λ (ws : List ℕ). noticed ws (drained r)) is ∙ ap (λ (ws : List ℕ). quiet (leaving ws r)) (sym is)

heard_after : {P : Type 0} → (r : Running P) (w : ℕ) (rest : List ℕ)
    → heard (notice w (leaving rest r)).next ≡ noticed rest (notice w (drained r)).next
unfolding heard
heard_after r w rest = refl

module _ {P : Type 0} (total : Course P) (r q : Running P) (w : ℕ) (rest : List ℕ) (out_old out_now out_new : Output) where
  pub heard_more : (new : Running P) → Goes P total (heard r) out_old out_now → r.standing.state.noticed ≡ w ∷ rest → q ≡ leaving rest r
      → Does P (notice w q) new out_now out_new → Goes P total (heard new) out_old out_new
  heard_more new goes is same does =
      let now = subst (λ (z : Running P). Does P (notice w z) new out_now out_new) same does in
      subst (λ (t : Course P). Goes P total t out_old out_new) (sym (ap heard now.next ∙ heard_after r w rest))
      (goes_on total (notice w (drained r)) (noticed rest) (notice w (drained r)).next out_old out_now out_new
      (subst (λ (t : Course P). Goes P total t out_old out_now) (heard_first r w rest is) goes)
      (record { next = refl; out = now.out }))

  pub heard_halts : Goes P total (heard r) out_old out_now → r.standing.state.noticed ≡ w ∷ rest → q ≡ leaving rest r
      → Halts P (notice w q) out_now out_new → Halts P total out_old out_new
  heard_halts goes is same halts =
      let now = subst (λ (z : Running P). Halts P (notice w z) out_now out_new) same halts in
      goes_halt total (notice w (drained r)) (noticed rest) out_old out_now out_new
      (subst (λ (t : Course P). Goes P total t out_old out_now) (heard_first r w rest is) goes)
      (record {
        front = now.front;
        rest = now.rest;
        whole = now.whole;
        begun = now.begun;
        ended = now.ended;
        most = now.most;
        last = now.last;
        out = now.out;
      })

pub heard_ends : {P : Type 0} → (total : Course P) (r : Running P) (out_old out_new : Output)
    → Goes P total (heard r) out_old out_new → r.standing.state.noticed ≡ [] → Does P total r out_old out_new
heard_ends {P} total r out_old out_new goes is =
    goes_end total r out_old out_new (subst (λ (t : Course P). Goes P total t out_old out_new) (heard_none r is) goes)

pub no_front : (first second : List ℕ) → first ++ second ≡ [] → (first ≡ []) × (second ≡ [])
no_front [] second is = (refl, is)
no_front (byte ∷ first) second is = absurd (cc)

-- where no line is written in all, a notice on the way writes none
pub silent_notice : {P : Type 0} → (total : Course P) (r q : Running P) (w : ℕ) (rest : List ℕ) (out_old out_now : Output)
    → Goes P total (heard r) out_old out_now → r.standing.state.noticed ≡ w ∷ rest → q ≡ leaving rest r → total.lines ≡ []
    → (notice w q).lines ≡ []
unfolding and_then
silent_notice {P} total r q w rest out_old out_now goes is same silent =
    let whole = sym (ap (λ (t : Course P). t.lines) (goes.whole ∙ ap (before goes.lines goes.calls) (heard_first r w rest is))) ∙ silent in
    ap (λ (z : Running P). (notice w z).lines) same ∙ (no_front _ _ (no_front goes.lines _ whole).1).0
