-- What an ask of a session for C gives, from what the session's own ask gives.
use Rattle.std.proofs.Common.{◌≡◌, ◌<◌, ◌≤◌, ◌++◌, ◌∙◌, length, get_or, true≢false, Some, inl, inr, ℕ, ℤ, true, false, List, [], None, Result, Ok, Err, ◌⊎◌, refl, sym, ap, subst}
use Rattle.std.specs.Prelude.{OnOk, OnErr, IfOk, IfErr, is_err, nat_eq, slice_get}
use Rattle.std.proofs.lemmas.Option.{slice_get_cases}
use Rattle.desk_bench.specs.Pricing.{desk_calc}
use Rattle.desk_bench.specs.declared.bench.DeskBench.{DeskBench}
use Rattle.desk_terms.specs.declared.asked.Asked.{Asked}
use Rattle.desk_terms.specs.declared.cause.Cause.{Cause}
use Rattle.desk_terms.specs.declared.value.Value.TheVariants.{Money}
use Rattle.desk_terms.specs.Reading.{Outcome}
use Rattle.live_session.specs.Lines.{Lines, live_of}
use Rattle.price_report.specs.Line.{asked_line, df_line, refusal_line}
use Rattle.pricing_session.specs.Asking.{IsAsked, IsCutShort}
use Rattle.pricing_session.specs.Pricing.{Pricing}
use Rattle.session_commands.specs.Parts.{command_word}
use Rattle.session_commands.specs.declared.command.Command.TheVariants.{Ask, Df}
use Rattle.session_commands.specs.declared.refusal.Refusal.{Refusal}
use Rattle.session_model.specs.Course.{Running}
use Rattle.session_model.specs.Pricing.{asking, discount_in}
use Rattle.session_model.specs.Resolve.{find, curve}
use Rattle.session_model.specs.declared.place.Place.TheVariants.{Priced}
use Rattle.watch_rounds.specs.declared.picker.Order.{Order}
use Rattle.desk_c.specs.declared.kept.Kept.{Kept}
use Rattle.desk_c.specs.Calls.{money_parts, standing_of, number_of, lines_of, KeepsRest, Asks, IsNotAsked, IsAskCut}
use Rattle.desk_c.specs.Curves.{Discounts, IsNoCurve, IsDiscountCut}
use Rattle.desk_c.specs.declared.status.TheConstants.{UNPRICED, NOT_MONEY}
use Rattle.desk_c.proofs.AskLines.{refused_line, df_refused_line, answered_line, df_answered_line, answered_cut}

abbrev pub Session : Type 0
Session = Pricing Order DeskBench Lines

pub when_ok : {A E : Type 0} (r : Result A E) (X : Type 0) → is_err r ≡ false → OnOk r X → X
when_ok (Ok a) X is x = x
when_ok (Err e) X is x = absurd (cc)

pub when_err : {A E : Type 0} (r : Result A E) (X : Type 0) → is_err r ≡ true → OnErr r X → X
when_err (Ok a) X is x = absurd (cc)
when_err (Err e) X is x = x

pub in_ok : {A E : Type 0} (P : A → Type 0) (r : Result A E) (a : A) → r ≡ Ok a → IfOk r P → P a
in_ok P r a is p = subst (λ (s : Result _ _). IfOk s P) is p

pub in_err : {A E : Type 0} (P : E → Type 0) (r : Result A E) (e : E) → r ≡ Err e → IfErr r P → P e
in_err P r e is p = subst (λ (s : Result _ _). IfErr s P) is p

-- of two cases told by a number, the one of that number
pub first_of : {A B : Type 0} (status a b : ℕ) → (a ≡ b → ⊥) → status ≡ a → ((status ≡ a) × A) ⊎ ((status ≡ b) × B) → A
first_of status a b differ is (inl p) = p.1
first_of status a b differ is (inr p) = absurd (differ (sym is ∙ p.0))

pub second_of : {A B : Type 0} (status a b : ℕ) → (a ≡ b → ⊥) → status ≡ b → ((status ≡ a) × A) ⊎ ((status ≡ b) × B) → B
second_of status a b differ is (inl p) = absurd (differ (sym p.0 ∙ is))
second_of status a b differ is (inr p) = p.1

-- values by their constructors
abbrev pub money : ℤ → ℤ → Outcome
money high low = Ok (Money (money_parts high low))

abbrev pub found_is : ℕ → Result ℕ Refusal
found_is o = Ok o

abbrev pub factor_is : ℤ → Result ℤ Cause
factor_is units = Ok units

pub unequal : UNPRICED ≡ NOT_MONEY → ⊥
unequal e = true≢false (ap (λ (n : ℕ). nat_eq n UNPRICED) e)

-- what has no element at a place is no longer
pub past_of : {X : Type 0} (xs : List X) (i : ℕ) → slice_get xs i ≡ None → length xs ≤ i
past_of {X} xs i none = by (slice_get_cases xs i).1
  where
    by : ((x : X) × (i < length xs) × (slice_get xs i ≡ Some x) × (get_or xs i x ≡ x)) ⊎ ((length xs ≤ i) × (slice_get xs i ≡ None)) → length xs ≤ i
    by (inl w) = let bad : Some w.0 ≡ None = sym w.2 ∙ none in absurd (cc)
    by (inr p) = p.0

pub ok_of : {A E : Type 0} (r : Result A E) → is_err r ≡ false → (a : A) × (r ≡ Ok a)
ok_of (Ok a) is = (a, refl)
ok_of (Err e) is = absurd (cc)

module _ (bytes : List ℕ) (old : Kept) (name : ℕ) (place : name ≡ number_of bytes old) (items : List ℕ) (none : items ≡ []) where
  -- an ask that is refused
  module _ (why : Refusal) (new : Kept) (same : new.session ≡ old.session) where
    refused_text : (word line : List ℕ) → new.text.items ≡ items ++ line → line ≡ word → new.text.items ≡ word
    refused_text word line text is = text ∙ ap (λ (xs : List ℕ). xs ++ line) none ∙ is

    pub not_asked : find Priced (standing_of old) name ≡ Err why
        → new.text.items ≡ items ++ refusal_line (standing_of old).names (standing_of old).of_object (command_word (Ask name)) why
        → IsNotAsked bytes old new
    not_asked fails text = record {
      refusal = why;
      fails = subst (λ (n : ℕ). find Priced (standing_of old) n ≡ Err why) place fails;
      same = same;
      text = subst (λ (n : ℕ). new.text.items ≡ lines_of (Ask n) old) place
          (refused_text _ _ text (refused_line desk_calc name (standing_of old) why fails));
    }

    pub no_curve : (day : ℤ) → find curve (standing_of old) name ≡ Err why
        → new.text.items ≡ items ++ refusal_line (standing_of old).names (standing_of old).of_object (command_word (Df name day)) why
        → IsNoCurve bytes day old new
    no_curve day fails text = record {
      refusal = why;
      fails = subst (λ (n : ℕ). find curve (standing_of old) n ≡ Err why) place fails;
      same = same;
      text = subst (λ (n : ℕ). new.text.items ≡ lines_of (Df n day) old) place
          (refused_text _ _ text (df_refused_line desk_calc name (standing_of old) day why fails));
    }

  -- one that is answered
  module _ (mid new : Kept) (same : new.session ≡ mid.session)
      (running : mid.session.running ≡ record old.session.running { standing = standing_of mid })
      (beside : mid.session.beside ≡ old.session.beside) (answer : Asked)
      (was : IsAsked desk_calc name (standing_of old) (standing_of mid) answer old.session.bench.calls mid.session.bench.calls None None) where
    abbrev outcome : Outcome
    outcome = (asking desk_calc was.object (standing_of old).state).outcome

    rest : KeepsRest old mid
    rest = ap (λ (r : Running Order). live_of r mid.session.beside) running
        ∙ ap (λ (l : Lines). live_of (record old.session.running { standing = standing_of mid }) l) beside

    pub asks : (Told : Outcome → Asked → Type 0) → Told outcome answer
        → new.text.items ≡ items ++ asked_line (standing_of mid).names (standing_of mid).of_object name outcome answer.mark answer.runs
        → Asks bytes Told old new
    asks Told told text = subst (λ (s : Session). Asks bytes Told old (record { session = s; text = new.text })) (sym same)
        (subst (λ (n : ℕ). (a : IsAsked desk_calc n (standing_of old) (standing_of mid) answer old.session.bench.calls mid.session.bench.calls None None)
        → Told (asking desk_calc a.object (standing_of old).state).outcome answer → new.text.items ≡ lines_of (Ask n) old
        → Asks bytes Told old (record { session = mid.session; text = new.text })) (sym place)
        (λ a t line. record { answer = answer; asked = a; told = t; rest = rest; text = line }) was told
        (text ∙ ap (λ (xs : List ℕ). xs ++ asked_line (standing_of mid).names (standing_of mid).of_object name outcome answer.mark answer.runs) none
        ∙ answered_line desk_calc name (standing_of old) (standing_of mid) answer old.session.bench.calls mid.session.bench.calls was))

    pub discounts : (day : ℤ) (Told : Result ℤ Cause → Asked → Type 0) → find curve (standing_of old) name ≡ Ok was.object
        → Told (discount_in was.object day outcome) answer
        → new.text.items ≡ items ++ df_line (standing_of mid).names (standing_of mid).of_object name day (discount_in was.object day outcome) answer.mark answer.runs
        → Discounts bytes day Told old new
    discounts day Told found told text = subst (λ (s : Session). Discounts bytes day Told old (record { session = s; text = new.text })) (sym same)
        (subst (λ (n : ℕ). (a : IsAsked desk_calc n (standing_of old) (standing_of mid) answer old.session.bench.calls mid.session.bench.calls None None)
        → find curve (standing_of old) n ≡ Ok a.object
        → Told (discount_in a.object day (asking desk_calc a.object (standing_of old).state).outcome) answer → new.text.items ≡ lines_of (Df n day) old
        → Discounts bytes day Told old (record { session = mid.session; text = new.text })) (sym place)
        (λ a f t line. record { answer = answer; asked = a; found = f; told = t; rest = rest; text = line }) was found told
        (text ∙ ap (λ (xs : List ℕ). xs ++ df_line (standing_of mid).names (standing_of mid).of_object name day (discount_in was.object day outcome) answer.mark answer.runs) none
        ∙ df_answered_line desk_calc name (standing_of old) (standing_of mid) answer old.session.bench.calls mid.session.bench.calls was day found))

    cut : IsCutShort desk_calc (number_of bytes old) (standing_of old) (standing_of mid) old.session.bench.calls mid.session.bench.calls None None
    cut = subst (λ (n : ℕ). IsCutShort desk_calc n (standing_of old) (standing_of mid) old.session.bench.calls mid.session.bench.calls None None) place
        (answered_cut desk_calc name (standing_of old) (standing_of mid) answer old.session.bench.calls mid.session.bench.calls was)

    -- memory ran out in its line
    pub ask_cut : new.text.items ≡ items → IsAskCut bytes old new
    ask_cut text = subst (λ (s : Session). IsAskCut bytes old (record { session = s; text = new.text })) (sym same)
        (record { stops = inr cut; rest = rest; text = text ∙ none })

    pub discount_cut : new.text.items ≡ items → IsDiscountCut bytes old new
    discount_cut text = subst (λ (s : Session). IsDiscountCut bytes old (record { session = s; text = new.text })) (sym same)
        (record { stops = inr cut; rest = rest; text = text ∙ none })
