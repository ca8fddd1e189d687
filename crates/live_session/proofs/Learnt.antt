-- Names behind others, learnt in order.
use Rattle.std.proofs.Common.{◌≡◌, ℕ, ◌+◌, ◌<◌, ◌≤◌, Bool, true, false, cond, List, [], ◌∷◌, ◌++◌, length, drop, get_or, Option, Some, refl, sym, ap, subst, ◌∙◌, append_assoc, arith, inl, inr}
use Rattle.std.specs.Prelude.{◌⊎◌, slice_get}
use Rattle.std.proofs.lemmas.Bool.{cases_Bool}
use Rattle.std.proofs.lemmas.List.{append-nil, length-append, get_or_append_left, drop_all, nil_from_length}
use Rattle.std.proofs.lemmas.Option.{slice_get-get_or, get_or_from_slice_get}
use Rattle.std.proofs.Math.Seq.{drop-append_seam, get_or-append_seam}
use Rattle.desk_names.specs.Names.{has_text, place_of, IsNames}
use Rattle.desk_names.proofs.NameLaws.{place_of-lt, slice_get-place_of, texts_differ}
use Rattle.script_words.specs.Given.{Grows}
use Rattle.desk_terms.specs.Reading.{Calc}
use Rattle.desk_model.specs.Sound.{IsSound}
use Rattle.session_model.specs.Course.{Running}
use Rattle.session_model.specs.Grown.{learn_in, interned_in}
use Rattle.live_model.specs.Live.{Block, learnt}
use Rattle.live_model.proofs.Following.{learnt_names}
use Rattle.live_session.specs.Saying.{HasLearnt}
use Rattle.live_session.specs.Standing.{IsCopy, BlockFits}
use Rattle.live_session.proofs.Done.{fits_wider}

-- the first of the names behind others
pub record Next (names all : List (List ℕ)) : Type 0 where
  pub text : List ℕ
  pub rest : List (List ℕ)
  pub whole : all ≡ names ++ text ∷ rest

pub next_of : (names all : List (List ℕ)) → Grows names all → length names < length all → Next names all
next_of names all g less = by g.more g.whole
  where
    by : (more : List (List ℕ)) → all ≡ names ++ more → Next names all
    by [] whole = absurd (let same = ap length whole ∙ ap length (append-nil names) in omega (arith, same, less))
    by (text ∷ rest) whole = record { text = text; rest = rest; whole = whole }

module _ (names all : List (List ℕ)) (next : Next names all) where
  pub next_at : get_or all (length names) [] ≡ next.text
  next_at = ap (λ (l : List (List ℕ)). get_or l (length names) []) next.whole ∙ get_or-append_seam names next.text next.rest []

  pub within : length names < length all
  within = let same = ap length next.whole ∙ length-append names (next.text ∷ next.rest) in omega (arith, same)

  pub next_drop : drop (length names) all ≡ next.text ∷ next.rest
  next_drop = ap (drop (length names)) next.whole ∙ drop-append_seam names (next.text ∷ next.rest)

  more_whole : all ≡ (names ++ next.text ∷ []) ++ next.rest
  more_whole = next.whole ∙ sym (append_assoc names (next.text ∷ []) next.rest)

  pub next_grows : Grows (names ++ next.text ∷ []) all
  next_grows = record { more = next.rest; whole = more_whole }

  pub next_dropped : drop (length (names ++ next.text ∷ [])) all ≡ next.rest
  next_dropped = ap (drop (length (names ++ next.text ∷ []))) more_whole ∙ drop-append_seam (names ++ next.text ∷ []) next.rest

  module _ (are : IsNames all) where
    known_at : (at : ℕ) → slice_get names at ≡ Some next.text → at < length names → slice_get all at ≡ Some next.text
    known_at at found low =
        let less = within in
        slice_get-get_or all at [] (omega (arith, less, low))
        ∙ ap (λ (t : List ℕ). Some t) (ap (λ (l : List (List ℕ)). get_or l at []) next.whole
        ∙ get_or_append_left names (next.text ∷ next.rest) [] at low ∙ get_or_from_slice_get names at next.text [] found)

    never : has_text names next.text ≡ true → ⊥
    never has =
        let low = place_of-lt names next.text has in
        texts_differ all are (place_of names next.text) (length names) next.text next.text
        (known_at (place_of names next.text) (slice_get-place_of names next.text has) low)
        (slice_get-get_or all (length names) [] within ∙ ap (λ (t : List ℕ). Some t) next_at)
        (λ same. omega (arith, low, same)) refl

    pub next_new : has_text names next.text ≡ false
    next_new = elim (cases_Bool (has_text names next.text)) [
      | inl has ↦ absurd (never has)
      | inr none ↦ none
    ]

-- names that grew and are as many as before are the same
pub grows_copy : (names all : List (List ℕ)) → Grows names all → IsCopy all names
grows_copy names all g same = by g.more g.whole
  where
    by : (more : List (List ℕ)) → all ≡ names ++ more → all ≡ names
    by [] whole = whole ∙ append-nil names
    by (text ∷ rest) whole = absurd (let long = ap length whole ∙ length-append names (text ∷ rest) in omega (arith, long, same))

-- WHAT A SESSION LEARNS leaves all but its names
pub learnt_more : {P : Type 0} → (more : List (List ℕ)) (text : List ℕ) (r : Running P) → learnt (more ++ text ∷ []) r ≡ learn_in text (learnt more r)
unfolding learnt
learnt_more [] text r = refl
learnt_more (one ∷ more) text r = learnt_more more text (learn_in one r)

pub learnt_state : {P : Type 0} → (more : List (List ℕ)) (r : Running P) → (learnt more r).standing.state ≡ r.standing.state
unfolding learnt
learnt_state [] r = refl
learnt_state (text ∷ more) r = learnt_state more (learn_in text r)

pub learnt_actions : {P : Type 0} → (more : List (List ℕ)) (r : Running P) → (learnt more r).standing.actions ≡ r.standing.actions
unfolding learnt
learnt_actions [] r = refl
learnt_actions (text ∷ more) r = learnt_actions more (learn_in text r)

pub learnt_stopped : {P : Type 0} → (more : List (List ℕ)) (r : Running P) → (learnt more r).standing.stopped ≡ r.standing.stopped
unfolding learnt
learnt_stopped [] r = refl
learnt_stopped (text ∷ more) r = learnt_stopped more (learn_in text r)

pub none_learnt : (P : Type 0) (names : List (List ℕ)) (r : Running P) → HasLearnt P names r r
unfolding learnt
none_learnt P names r = record { front = []; rest = names; all = refl; whole = refl }

pub one_learnt : (P : Type 0) (old new : Running P) (text : List ℕ) → new ≡ learn_in text old → HasLearnt P (text ∷ []) old new
unfolding learnt
one_learnt P old new text is = record { front = text ∷ []; rest = []; all = refl; whole = is }

-- the first of the names behind its own is learnt by a session that learnt the names in front of them
pub more_learnt : (P : Type 0) (names : List (List ℕ)) (old r new : Running P) → Grows r.standing.names names
    → length r.standing.names < length names → new ≡ learn_in (get_or names (length r.standing.names) []) r
    → HasLearnt P (drop (length old.standing.names) names) old r → HasLearnt P (drop (length old.standing.names) names) old new
more_learnt P names old r new g less is has =
    let n = next_of r.standing.names names g less in
    let behind : r.standing.names ≡ old.standing.names ++ has.front =
    ap (λ (x : Running P). x.standing.names) has.whole ∙ learnt_names has.front old in
    record {
      front = has.front ++ n.text ∷ [];
      rest = n.rest;
      all = ap (drop (length old.standing.names)) (n.whole ∙ ap (λ (l : List (List ℕ)). l ++ n.text ∷ n.rest) behind
          ∙ append_assoc old.standing.names has.front (n.text ∷ n.rest))
          ∙ drop-append_seam old.standing.names (has.front ++ n.text ∷ n.rest) ∙ sym (append_assoc has.front (n.text ∷ []) n.rest);
      whole = is ∙ ap (λ (t : List ℕ). learn_in t r) (next_at r.standing.names names n)
          ∙ ap (λ (x : Running P). learn_in n.text x) has.whole ∙ sym (learnt_more has.front n.text old);
    }

-- it is as it was then, or it is stopped
pub still_learnt : (P : Type 0) (names : List (List ℕ)) (old r new : Running P) → HasLearnt P names old r
    → (new ≡ r) ⊎ (new.standing.stopped ≡ true) → HasLearnt P names old new ⊎ (new.standing.stopped ≡ true)
still_learnt P names old r new has (inl same) = inl (subst (HasLearnt P names old) (sym same) has)
still_learnt P names old r new has (inr stops) = inr stops

-- a text that is new is learnt
pub interned_new : {P : Type 0} → (text : List ℕ) (r : Running P) → has_text r.standing.names text ≡ false → interned_in text r ≡ learn_in text r
interned_new text r new = ap (λ (b : Bool). cond b r (learn_in text r)) new

-- a session learnt the first of the names behind its own
pub record Step (P : Type 0) (r new : Running P) (names : List (List ℕ)) : Type 0 where
  pub text : List ℕ
  pub is : new ≡ learn_in text r
  pub grows : Grows new.standing.names names
  pub left : learnt (drop (length new.standing.names) names) new ≡ learnt (drop (length r.standing.names) names) r
  pub nearer : length new.standing.names ≡ length r.standing.names + 1

pub one_step : (P : Type 0) (r new : Running P) (names : List (List ℕ)) → Grows r.standing.names names → length r.standing.names < length names
    → new ≡ learn_in (get_or names (length r.standing.names) []) r → Step P r new names
unfolding learnt
one_step P r new names g less is =
    let n = next_of r.standing.names names g less in
    let said : new ≡ learn_in n.text r = is ∙ ap (λ (t : List ℕ). learn_in t r) (next_at r.standing.names names n) in
    let longer : new.standing.names ≡ r.standing.names ++ n.text ∷ [] = ap (λ (x : Running P). x.standing.names) said in
    record {
      text = n.text;
      is = said;
      grows = subst (λ (l : List (List ℕ)). Grows l names) (sym longer) (next_grows r.standing.names names n);
      left = ap (λ (x : Running P). learnt (drop (length x.standing.names) names) x) said
          ∙ ap (λ (l : List (List ℕ)). learnt l (learn_in n.text r)) (next_dropped r.standing.names names n)
          ∙ sym (ap (λ (l : List (List ℕ)). learnt l r) (next_drop r.standing.names names n));
      nearer = ap length longer ∙ length-append r.standing.names (n.text ∷ []);
    }

-- a session that has as many names as those that it learns has them
pub all_learnt : (P : Type 0) (r : Running P) (names : List (List ℕ)) → Grows r.standing.names names → length names ≤ length r.standing.names
    → (names ≡ r.standing.names) × (learnt (drop (length r.standing.names) names) r ≡ r)
unfolding learnt
all_learnt P r names g most =
    let few = ap length g.whole ∙ length-append r.standing.names g.more in
    let same = grows_copy r.standing.names names g (omega (arith, few, most)) in
    (same, ap (λ (l : List (List ℕ)). learnt l r) (drop_all (length r.standing.names) names most))

-- names of which there is one more
pub one_behind : (names all : List (List ℕ)) (n : Next names all) → length all ≡ length names + 1 → names ++ n.text ∷ [] ≡ all
one_behind names all n one =
    sym (grows_copy (names ++ n.text ∷ []) all (next_grows names all n) (one ∙ sym (length-append names (n.text ∷ []))))

-- no names yet
pub empty_copy : (copy names : List (List ℕ)) → copy ≡ [] → IsCopy copy names
empty_copy copy names none = λ same. none ∙ sym (nil_from_length names (sym same ∙ ap length none))

-- WHAT STAYS of a session that learnt names
module _ (P : Type 0) (names : List (List ℕ)) (old new : Running P) (has : HasLearnt P names old new) where
  pub still_sound : (calc : Calc) → IsSound calc old.standing.state → IsSound calc new.standing.state
  still_sound calc sound = subst (IsSound calc) (sym (ap (λ (r : Running P). r.standing.state) has.whole ∙ learnt_state has.front old)) sound

  pub still_running : old.standing.stopped ≡ false → new.standing.stopped ≡ false
  still_running goes = ap (λ (r : Running P). r.standing.stopped) has.whole ∙ learnt_stopped has.front old ∙ goes

  pub still_fits : (block : Option Block) (begun : ℕ) → BlockFits block (length old.standing.names) begun (length old.standing.actions)
      → BlockFits block (length new.standing.names) begun (length new.standing.actions)
  still_fits block begun fits =
      let longer = ap (λ (r : Running P). length r.standing.names) has.whole ∙ ap length (learnt_names has.front old) ∙ length-append old.standing.names has.front in
      let same : length new.standing.actions ≡ length old.standing.actions = ap (λ (r : Running P). length r.standing.actions) has.whole ∙ ap length (learnt_actions has.front old) in
      subst (λ (n : ℕ). BlockFits block (length new.standing.names) begun n) (sym same)
      (fits_wider (length old.standing.names) (length new.standing.names) begun (omega (arith, longer)) block (length old.standing.actions) fits)
