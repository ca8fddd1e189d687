-- What was said stands beside its session.
use Rattle.std.proofs.Common.{◌≡◌, ◌∙◌, ℕ, Bool, true, cond, List, [], ◌∷◌, ◌++◌, length, None, refl, sym, ap, subst, inl, inr}
use Rattle.std.proofs.lemmas.Bool.{cases_Bool}
use Rattle.desk_names.specs.Names.{has_text, with_text}
use Rattle.session_model.specs.Course.{Running}
use Rattle.session_model.specs.Grown.{learn_in, interned_in}
use Rattle.live_session.specs.Lines.{Lines, StandBy, IsFollowed}
use Rattle.live_session.specs.Standing.{IsCopy, BlockFits}
use Rattle.live_session.proofs.Learnt.{empty_copy, one_learnt, interned_new, still_fits}

-- nothing was said yet
pub begins_beside : (P : Type 0) (r : Running P) (begun : List (List ℕ)) (l : Lines)
    → l ≡ record { begun = begun; block = None; line = 0; names = []; actions = [] } → length begun ≡ length r.standing.actions → StandBy P r l
begins_beside P r begun l is paired = subst (StandBy P r) (sym is) (record {
  copied = empty_copy [] r.standing.names refl;
  begun = empty_copy [] begun refl;
  block = paired;
})

-- a session keeps its names and its actions
pub stays_beside : (P : Type 0) (r new : Running P) (l : Lines) → new.standing.names ≡ r.standing.names
    → new.standing.actions ≡ r.standing.actions → StandBy P r l → StandBy P new l
stays_beside P r new l names actions stands =
    record { copied = rw names stands.copied; begun = stands.begun; block = rw (names, actions) stands.block }

-- a session that interned a text has it among its names
interned_names : {P : Type 0} → (text : List ℕ) (r : Running P) → (interned_in text r).standing.names ≡ with_text r.standing.names text
unfolding with_text has_text
interned_names text r = elim (cases_Bool (has_text r.standing.names text)) [
  | inl has ↦ ap (λ (b : Bool). (cond b r (learn_in text r)).standing.names) has
      ∙ sym (ap (λ (b : Bool). cond b r.standing.names (r.standing.names ++ text ∷ [])) has)
  | inr none ↦ ap (λ (b : Bool). (cond b r (learn_in text r)).standing.names) none
      ∙ sym (ap (λ (b : Bool). cond b r.standing.names (r.standing.names ++ text ∷ [])) none)
]

module _ (P : Type 0) (r new : Running P) (text : List ℕ) (is : new ≡ interned_in text r) where
  interned_fits : (l : Lines) → BlockFits l.block (length r.standing.names) (length l.begun) (length r.standing.actions)
      → BlockFits l.block (length new.standing.names) (length l.begun) (length new.standing.actions)
  interned_fits l fits = elim (cases_Bool (has_text r.standing.names text)) [
    | inl has ↦ subst (λ (x : Running P). BlockFits l.block (length x.standing.names) (length l.begun) (length x.standing.actions))
        (sym (is ∙ ap (λ (b : Bool). cond b r (learn_in text r)) has)) fits
    | inr none ↦ still_fits P (text ∷ []) r new (one_learnt P r new text (is ∙ interned_new text r none)) l.block (length l.begun) fits
  ]

  -- it stands beside a session that interned a text, where what lines are read over followed it
  pub interned_beside : (l : Lines) (copy : List (List ℕ)) (is_copy : Bool) → (is_copy ≡ true → length l.names ≡ length r.standing.names)
      → IsFollowed r.standing.names text is_copy l.names copy → StandBy P r l → StandBy P new (record l { names = copy })
  interned_beside l copy is_copy long followed stands = record {
    copied = subst (IsCopy copy) (sym (ap (λ (x : Running P). x.standing.names) is ∙ interned_names text r))
        (followed (λ same. stands.copied (long same)));
    begun = stands.begun;
    block = interned_fits l stands.block;
  }
