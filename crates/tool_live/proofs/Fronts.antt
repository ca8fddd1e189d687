-- What is put step by step is a front of what is to be put.
use Rattle.std.proofs.Common.{◌≡◌, ◌∙◌, ap, sym, refl, ℕ, List, [], ◌∷◌, ◌++◌, append_assoc, take, drop, Option, None, Some}
use Rattle.std.proofs.lemmas.List.{take-append-drop}
use Rattle.desk_edge.specs.Sink.{appended}
use Rattle.desk_edge.proofs.SinkLemmas.{appended-appended, appended-nil}
use Rattle.tool_live.specs.Answers.{Told, Called, Answers, IsFrontOf, PutsFront}

same_bytes : (a b : List ℕ) → Some a ≡ Some b → a ≡ b
same_bytes a b is = cc

append_cancel : (front a b : List ℕ) → front ++ a ≡ front ++ b → a ≡ b
append_cancel [] a b is = is
append_cancel (x ∷ front) a b is = append_cancel front a b (cc)

-- nothing was put
pub put_none : (whole : List ℕ) (taken : Option (List ℕ)) → PutsFront whole taken taken
put_none whole taken = ([], (whole, refl), sym (appended-nil taken))

-- so many bytes were put
pub put_some : (n : ℕ) (whole : List ℕ) (old new : Option (List ℕ)) → new ≡ appended (take n whole) old → PutsFront whole old new
put_some n whole old new is = (take n whole, (drop n whole, sym (take-append-drop n whole)), is)

-- a front of a front
pub front_whole : (front whole : List ℕ) (old new : Option (List ℕ)) → IsFrontOf front whole → PutsFront front old new → PutsFront whole old new
front_whole front whole old new is puts =
    (puts.0, (puts.1.0 ++ is.0, is.1 ∙ ap (λ (l : List ℕ). l ++ is.0) puts.1.1 ∙ append_assoc puts.0 puts.1.0 is.0), puts.2)

-- one after the other
pub put_both : (a b : List ℕ) (old mid new : Option (List ℕ)) → mid ≡ appended a old → new ≡ appended b mid → new ≡ appended (a ++ b) old
put_both a b old mid new first second = second ∙ ap (appended b) first ∙ appended-appended a b old

-- a front of what is left, behind what was put
pub front_on : (old mid new : Option (List ℕ)) (said left whole : List ℕ) → mid ≡ appended said old → appended left mid ≡ appended whole old
    → PutsFront left mid new → PutsFront whole old new
front_on None mid new said left whole is same front = ([], (whole, refl), front.2 ∙ ap (appended front.0) is)
front_on (Some xs) mid new said left whole is same front =
    let all : said ++ left ≡ whole =
    append_cancel xs (said ++ left) whole (sym (append_assoc xs said left) ∙ same_bytes _ _ (sym (ap (appended left) is) ∙ same)) in (
      said ++ front.0,
      (front.1.0, sym all ∙ ap (λ (l : List ℕ). said ++ l) front.1.1 ∙ sym (append_assoc said front.0 front.1.0)),
      put_both said front.0 (Some xs) mid new is front.2,
    )

-- what was put is behind what a sink took, and nothing waits
pub after_put : (answers now : List ℕ) (old new : Option (List ℕ)) → now ≡ [] → new ≡ appended answers old → appended now new ≡ appended answers old
after_put answers now old new none put = ap (λ (l : List ℕ). appended l new) none ∙ appended-nil new ∙ put

-- a line was answered, and nothing put
pub answered : (line answers_old answers_new : List ℕ) (told told_now : Told) (called called_now : Called) (taken : Option (List ℕ))
    → ((rest : List (List ℕ)) → answers_new ++ told_now rest ≡ answers_old ++ told (line ∷ rest)) → ((rest : List (List ℕ)) → called_now rest ≡ called (line ∷ rest))
    → Answers line told told_now called called_now (appended answers_old taken) (appended answers_new taken)
answered line answers_old answers_new told told_now called called_now taken writes calls = record {
  bytes = λ rest. appended-appended answers_new (told_now rest) taken ∙ ap (λ (l : List ℕ). appended l taken) (writes rest)
      ∙ sym (appended-appended answers_old (told (line ∷ rest)) taken);
  calls = calls;
}
