-- An answer: the line of the ask, and each object behind it.
use Rattle.std.proofs.Common.{◌≡◌, ℕ, Bool, true, false, List, [], ◌∷◌, ◌++◌, Result, Err, sym, ◌∙◌, ap, append_assoc}
use Rattle.std.specs.Prelude.{codes, if◌then◌else◌, OnOk}
use Rattle.std.proofs.lemmas.List.{append-nil}
use Rattle.std.proofs.lemmas.Result.{on_ok_weaker}
use Rattle.desk_names.specs.Names.{has_text, place_of}
use Rattle.desk_terms.specs.Reading.{Calc}
use Rattle.desk_model.specs.Links.{IsWhole}
use Rattle.desk_model.specs.Visit.{asked}
use Rattle.session_commands.specs.declared.refusal.Refusal.{Refusal}
use Rattle.session_commands.specs.declared.refusal.Refusal.TheVariants.{Unknown}
use Rattle.session_commands.specs.Refusal.{refusal_word}
use Rattle.session_model.specs.declared.place.Place.TheVariants.{Priced}
use Rattle.session_model.specs.Course.{Running}
use Rattle.session_model.specs.Resolve.{find}
use Rattle.session_model.specs.Standing.{Standing}
use Rattle.bump_model.specs.Asking.{none}
use Rattle.why_model.specs.Answer.{answer_for, object_lines, lines_of_each, priced_object, refused_text, why_text}
use Rattle.session_why.specs.Computed.{ask_if, asks_for, why_asking}
use Rattle.session_why.proofs.Alike.{with_state, each_alike, each_after}

-- the session is the same but for its state, over two steps
pub stays_more : {P : Type 0} (a b c : Running P)
    → b ≡ record a { standing = record a.standing { state = b.standing.state } }
    → c ≡ record b { standing = record b.standing { state = c.standing.state } }
    → c ≡ record a { standing = record a.standing { state = c.standing.state } }
stays_more {P} a b c first second =
    second ∙ ap (λ (r : Running P). record r { standing = record r.standing { state = c.standing.state } }) first

pub standing_stays : {P : Type 0} (a b : Running P)
    → b ≡ record a { standing = record a.standing { state = b.standing.state } }
    → b.standing ≡ with_state a.standing b.standing.state
standing_stays {P} a b stays = ap (λ (r : Running P). r.standing) stays

-- ---- what is written of each object

module _ (calc : Calc) (p q : Standing) (x : ℕ) (all rest : List ℕ) (steps : all ≡ x ∷ rest) where
  lines_first : lines_of_each calc p all ≡ object_lines calc p x ++ lines_of_each calc p rest
  unfolding lines_of_each
  lines_first = ap (lines_of_each calc p) steps

  -- the next object is written, and what is written of the others is as it was
  pub lines_step : (old new whole : List ℕ) → IsWhole p.state → q ≡ with_state p q.state
      → q.state ≡ (ask_if calc x p.state).next
      → new ≡ old ++ object_lines calc p x → old ++ lines_of_each calc p all ≡ whole
      → new ++ lines_of_each calc q rest ≡ whole
  lines_step old new whole shape stays next wrote so_far =
      ap (λ (l : List ℕ). l ++ lines_of_each calc q rest) wrote
      ∙ append_assoc old (object_lines calc p x) (lines_of_each calc q rest)
      ∙ ap (λ (r : Standing). old ++ (object_lines calc p x ++ lines_of_each calc r rest))
      (stays ∙ ap (with_state p) next)
      ∙ ap (λ (l : List ℕ). old ++ (object_lines calc p x ++ l)) (each_after calc p shape x rest)
      ∙ ap (λ (l : List ℕ). old ++ l) (sym lines_first)
      ∙ so_far

-- all are written
pub lines_all : (calc : Calc) (q : Standing) (rest old whole : List ℕ) → rest ≡ []
    → old ++ lines_of_each calc q rest ≡ whole → old ≡ whole
unfolding lines_of_each
lines_all calc q rest old whole none so_far =
    sym (append-nil old) ∙ ap (λ (l : List ℕ). old ++ lines_of_each calc q l) (sym none) ∙ so_far

-- behind the ask of an object
pub lines_behind : {A E : Type 0} (calc : Calc) (p q : Standing) (o : ℕ) (list old middle new line : List ℕ)
    (r : Result A E)
    → IsWhole p.state → q ≡ with_state p q.state → q.state ≡ asked calc o p.state → middle ≡ old ++ line
    → OnOk r (new ≡ middle ++ lines_of_each calc q list) → OnOk r (new ≡ old ++ line ++ lines_of_each calc p list)
lines_behind calc p q o list old middle new line r shape stays next wrote two =
    on_ok_weaker r (λ (e : new ≡ middle ++ lines_of_each calc q list).
    e ∙ ap (λ (l : List ℕ). l ++ lines_of_each calc q list) wrote
    ∙ ap (λ (s : Standing). (old ++ line) ++ lines_of_each calc s list) (stays ∙ ap (with_state p) next)
    ∙ ap (λ (l : List ℕ). (old ++ line) ++ l) (each_alike calc p shape o list)) two

-- ---- the name

module _ (calc : Calc) (p : Standing) (text : List ℕ) where
  pub none_named : has_text p.names text ≡ false → priced_object p text ≡ Err (Unknown (place_of p.names text))
  none_named is =
      ap (λ (b : Bool). if b then find Priced p (place_of p.names text) else Err (Unknown (place_of p.names text))) is

  pub one_named : (name : ℕ) (r : Result ℕ Refusal) → has_text p.names text ≡ true → name ≡ place_of p.names text
      → r ≡ find Priced p name → priced_object p text ≡ r
  one_named name r is named found =
      ap (λ (b : Bool). if b then find Priced p (place_of p.names text) else Err (Unknown (place_of p.names text))) is
      ∙ ap (find Priced p) (sym named) ∙ sym found

  module _ (r : Result ℕ Refusal) (is : priced_object p text ≡ r) where
    pub answered : why_text calc p text ≡ answer_for calc p text r
    unfolding why_text
    answered = ap (answer_for calc p text) is

    pub asking_is : why_asking calc p text ≡ asks_for calc p.state r
    unfolding why_asking
    asking_is = ap (asks_for calc p.state) is

-- a refusal, piece by piece
regrouped : (old a word b text c : List ℕ)
    → ((((old ++ a) ++ word) ++ b) ++ text) ++ c ≡ old ++ ((((a ++ word) ++ b) ++ text) ++ c)
regrouped old a word b text c = simp append_assoc

pub refused_is : {A E : Type 0} (refusal : Refusal) (text word old new : List ℕ) (r : Result A E)
    → word ≡ refusal_word refusal
    → OnOk r (new ≡ old ++ codes "refused why " ++ word ++ codes " " ++ text ++ codes "\n")
    → OnOk r (new ≡ old ++ refused_text refusal text)
refused_is refusal text word old new r is wrote =
    on_ok_weaker r (λ (e : new ≡ old ++ codes "refused why " ++ word ++ codes " " ++ text ++ codes "\n").
    e ∙ regrouped old (codes "refused why ") word (codes " ") text (codes "\n")
    ∙ ap (λ (w : List ℕ). old ++ (codes "refused why " ++ w ++ codes " " ++ text ++ codes "\n")) is) wrote
