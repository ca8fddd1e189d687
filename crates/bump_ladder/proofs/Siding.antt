-- The sides of a rung: quotes that are moved one by one, and the asks between.
use Rattle.std.proofs.Common.{◌≡◌, ℕ, ◌+◌, ◌<◌, Bool, true, false, List, ◌∷◌, length, get_or, drop, Option, Some, Result, Ok, Err, ℤ, refl, sym, ◌∙◌, ap, subst, arith}
use Rattle.std.specs.Prelude.{not, if◌then◌else◌}
use Rattle.std.proofs.lemmas.List.{drop_more, length-append}
use Rattle.std.proofs.lemmas.List.Elements.{All-head}
use Rattle.std.proofs.lemmas.Bool.{or_parts}
use Rattle.desk_terms.specs.declared.cause.Cause.{Cause}
use Rattle.desk_terms.specs.declared.kind.Kind.TheVariants.{Quote}
use Rattle.desk_terms.specs.declared.terms.Terms.TheVariants as terms
use Rattle.desk_terms.specs.Reading.{Calc}
use Rattle.desk_model.specs.Market.{Market, kind_at, terms_at}
use Rattle.desk_model.specs.Changeable.{changeable}
use Rattle.desk_model.specs.State.{State}
use Rattle.desk_model.specs.Effect.{quote_set}
use Rattle.bump_model.specs.declared.moves.Quoted.{Quoted}
use Rattle.bump_model.specs.declared.ladder.Side.{Side}
use Rattle.bump_model.specs.declared.ladder.Missing.TheVariants.{Limit}
use Rattle.bump_model.specs.declared.ladder.Side.TheVariants.{NoPrice}
use Rattle.bump_model.specs.Moves.{is_rate, moved, value_of, value_at, with_values, all_set, is_limit, AreLive, DifferAt}
use Rattle.bump_model.specs.Sides.{worth, gain, side_of}
use Rattle.bump_model.specs.Asking.{Asking, Asks, Made, MadeFront, none, ask_of, then_ask, side_asking, sides_asking, rung_asking}
use Rattle.bump_model.proofs.Calls.{Log, Did, made_none, made_more, front_first, front_more}
use Rattle.bump_model.proofs.Moving.{differ_none, set_moves, set_live, set_differ, set_unheld}
use Rattle.desk_model.specs.Unheld.{HoldsNothing}

-- ---- quotes set one by one

pub next_quoted : (group : List Quoted) (i : ℕ) (h : Quoted) → i < length group → h ≡ get_or group i h
    → drop i group ≡ h ∷ drop (i + 1) group
next_quoted group i h within is =
    drop_more group i h within ∙ ap (λ (x : Quoted). x ∷ drop (i + 1) group) (sym is)

module _ (all rest : List Quoted) (h : Quoted) (steps : all ≡ h ∷ rest) where
  pub first_quote : (m : Market) → AreLive m all → kind_at m h.quote ≡ Some Quote
  first_quote m live =
      All-head (λ h. kind_at m h.quote ≡ Some Quote) h rest (subst (λ (l : List Quoted). AreLive m l) steps live)

  pub others_live : (s t : State) (v : ℤ) → t ≡ quote_set h.quote (Some v) s → AreLive s.market all → AreLive t.market rest
  others_live s t v is live =
      subst (λ (u : State). AreLive u.market rest) (sym is)
      (set_live s h v rest (subst (λ (l : List Quoted). AreLive s.market l) steps live))

  pub set_step : (change : ℤ → ℤ) (s t : State) (v : ℤ) → v ≡ change h.value → t ≡ quote_set h.quote (Some v) s
      → all_set change rest t ≡ all_set change all s
  unfolding all_set
  set_step change s t v value is =
      ap (all_set change rest) (is ∙ ap (λ (z : ℤ). quote_set h.quote (Some z) s) value)
      ∙ ap (λ (l : List Quoted). all_set change l s) (sym steps)

  pub within_first : (shift : ℤ) → is_limit shift all ≡ false → is_rate (moved shift h.value) ≡ true
  within_first shift fits =
      not_not (is_rate (moved shift h.value))
      (or_parts (not (is_rate (moved shift h.value))) (is_limit shift rest) (ap (is_limit shift) (sym steps) ∙ fits)).0
    where
      not_not : (b : Bool) → not b ≡ false → b ≡ true
      not_not true e = refl
      not_not false e = absurd (let none : true ≡ false = e in cc)

  pub within_rest : (shift : ℤ) → is_limit shift all ≡ false → is_limit shift rest ≡ false
  within_rest shift fits =
      (or_parts (not (is_rate (moved shift h.value))) (is_limit shift rest) (ap (is_limit shift) (sym steps) ∙ fits)).1

-- ---- one side

module _ (calc : Calc) (o : ℕ) (shift : ℤ) (group : List Quoted) (s : State) where
  pub limit_side : (base : ℤ) → is_limit shift group ≡ true → NoPrice Limit ≡ side_of calc s.market o base shift group
  limit_side base is = rw is refl

  limit_asking : is_limit shift group ≡ true → side_asking calc o shift group s ≡ none s
  limit_asking is = rw is refl

  pub limit_runs : is_limit shift group ≡ true → 0 ≡ length (side_asking calc o shift group s).calls
  limit_runs is = ap (λ (a : Asking). length a.calls) (sym (limit_asking is))

  pub limit_asks : (count : ℕ) (log : Log) → is_limit shift group ≡ true
      → Did (side_asking calc o shift group s) s count count log log
  limit_asks count log is =
      subst (λ (a : Asking). Did a s count count log log) (sym (limit_asking is)) (refl, made_none count log)

  pub moved_asking : (t : State) → is_limit shift group ≡ false → t ≡ all_set (moved shift) group s
      → ask_of calc o t ≡ side_asking calc o shift group s
  moved_asking t fits is = ap (ask_of calc o) is ∙ by (is_limit shift group) fits
    where
      by : (b : Bool) → b ≡ false → ask_of calc o (all_set (moved shift) group s) ≡ (if b then none s else ask_of calc o (all_set (moved shift) group s))
      by false e = refl
      by true e = absurd (let none : true ≡ false = e in cc)

  pub moved_side : (base : ℤ) (t : State) (amount : Result ℤ Cause) → AreLive s.market group → is_limit shift group ≡ false
      → t ≡ all_set (moved shift) group s → amount ≡ worth calc t.market o
      → gain base amount ≡ side_of calc s.market o base shift group
  moved_side base t amount live fits is priced =
      ap (gain base) (priced ∙ ap (λ (m : Market). worth calc m o) (ap (λ (u : State). u.market) is ∙ set_moves (moved shift) group s live))
      ∙ by (is_limit shift group) fits
    where
      at : Side
      at = gain base (worth calc (with_values (moved shift) group s.market) o)

      by : (b : Bool) → b ≡ false → at ≡ (if b then NoPrice Limit else at)
      by false e = refl
      by true e = absurd (let none : true ≡ false = e in cc)

-- ---- asks behind asks

module _ (a : Asking) (others : State → Asking) (t u : State) (count now later : ℕ) (log log_now log_end : Log) where
  pub then_ok : Did a t count now log log_now → Did (others t) u now later log_now log_end
      → Did (then_ask a others) u count later log log_end
  then_ok first second = (
    second.0 ∙ ap (λ (v : State). (others v).next) first.0,
    made_more a.calls (others a.next).calls count now later log log_now log_end first.1
        (subst (λ (v : State). Made (others v).calls now later log_now log_end) first.0 second.1),
  )

  pub then_runs : Did a t count now log log_now → (n m : ℕ) → n ≡ length a.calls → m ≡ length (others t).calls
      → n + m ≡ length (then_ask a others).calls
  then_runs first n m front back =
      let e = length-append a.calls (others a.next).calls in
      let there = ap (λ (v : State). length (others v).calls) first.0 in
      omega (arith, front, back, there)

  pub then_front : Did a t count now log log_now → MadeFront (others t).calls now later log_now log_end
      → MadeFront (then_ask a others).calls count later log log_end
  then_front first second =
      front_more a.calls (others a.next).calls count now later log log_now log_end first.1
      (subst (λ (v : State). MadeFront (others v).calls now later log_now log_end) first.0 second)

pub first_front : (a : Asking) (others : State → Asking) (count now : ℕ) (log log_now : Log)
    → MadeFront a.calls count now log log_now → MadeFront (then_ask a others).calls count now log log_now
first_front a others count now log log_now made = front_first a.calls (others a.next).calls count now log log_now made

-- ---- a rung, set back

pub rung_asks : {A E : Type 0} (calc : Calc) (size : ℤ) (o : ℕ) (group : List Quoted) (s t u : State) (result : Result A E) (count now : ℕ)
    (log log_now : Log) → u ≡ all_set (λ value. value) group t → Asks (sides_asking calc size o group s) result t count now log log_now
    → Asks (rung_asking calc size o group s) result u count now log log_now
unfolding rung_asking
rung_asks calc size o group s t u (Ok x) count now log log_now is does =
    (is ∙ ap (all_set (λ value. value) group) does.0, does.1)
rung_asks calc size o group s t u (Err e) count now log log_now is does = does

-- ---- the value of a quote

pub quoted_value : (m : Market) (q : ℕ) (value : Option ℤ) → terms_at m q ≡ Some (terms.Quote value) → value_at m q ≡ value
quoted_value m q value is = ap (λ t. value_of (changeable t)) is

-- ---- quotes that were moved

pub moved_differs : (change : ℤ → ℤ) (group : List Quoted) (s t : State) → AreLive s.market group → t ≡ all_set change group s
    → DifferAt group s.market t.market
moved_differs change group s t live is =
    subst (λ (u : State). DifferAt group s.market u.market) (sym is)
    (set_differ change group s.market s live (differ_none group s.market))

pub moved_unheld : (change : ℤ → ℤ) (group : List Quoted) (s t : State) → t ≡ all_set change group s → HoldsNothing s → HoldsNothing t
moved_unheld change group s t is free = subst (λ (u : State). HoldsNothing u) (sym is) (set_unheld change group s free)

pub differ_then : (group : List Quoted) (l m n : Market) → DifferAt group l m → n ≡ m → DifferAt group l n
differ_then group l m n differ is = subst (λ (k : Market). DifferAt group l k) (sym is) differ
