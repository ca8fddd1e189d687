-- Values that are the days of a kind, where there is one.
use Rattle.std.proofs.Common.{◌≡◌, ◌↔◌, Bool, true, false, if◌then◌else◌, Option, Some, None, Result, Ok, Err, refl, sym, ap, ◌∙◌, ℤ}
use Rattle.std.proofs.lemmas.Option.{none-some, same_Some}
use Rattle.std.proofs.lemmas.Bool.Decides.{not_from_Decides}
use Rattle.std.specs.Bool.{Decides}
use Rattle.day_shift.specs.declared.faults.ShiftFault.{ShiftFault}
use Rattle.day_shift.specs.declared.faults.ShiftFault.TheVariants.{DateRange}
use Rattle.day_shift.specs.Adjusted.{IsKeptOr, kept_or, day_or_fault}
use Rattle.day_shift.specs.Advanced.{and_then}
use Rattle.day_shift.proofs.SetLemmas.{by_test}

-- a value is there exactly where a day is of a kind, and is that day
abbrev pub Names : Option ℤ → (ℤ → Type 0) → Type 0
Names value Is = (x : ℤ) → (value ≡ Some x) ↔ Is x

-- the day of one kind where it passes, else that of another kind
pub kept_or-names : (passes : ℤ → Bool) (value other : Option ℤ) (Passes IsOne IsOther : ℤ → Type 0) → Names value IsOne → Names other IsOther → ((x : ℤ) → IsOne x → Decides (passes x) (Passes x)) → Names (kept_or passes value other) (IsKeptOr Passes IsOne IsOther)
kept_or-names passes None other Passes IsOne IsOther n m d x =
    (λ e. absurd (none-some x e), λ k. absurd (none-some k.0 ((n k.0).1 k.1)))
kept_or-names passes (Some one) other Passes IsOne IsOther n m d x =
    let is = (n one).0 refl in
    by_test (passes one)
    (λ holds.
    let here : kept_or passes (Some one) other ≡ Some one = ap (λ b. if b then Some one else other) holds in (
      λ e. (one, is, λ p. sym (same_Some one x (sym here ∙ e)), λ fails. absurd (fails ((d one is).0 holds))),
      λ k.
          let at = same_Some one k.0 ((n k.0).1 k.1) in
          here ∙ ap Some (at ∙ sym (k.2 ((d k.0 k.1).0 (ap passes (sym at) ∙ holds)))),
    ))
    (λ fails.
    let there : kept_or passes (Some one) other ≡ other = ap (λ b. if b then Some one else other) fails in (
      λ e. (one, is, λ p. absurd (not_from_Decides (passes one) (d one is) fails p), λ _. (m x).0 (sym there ∙ e)),
      λ k.
          let at = same_Some one k.0 ((n k.0).1 k.1) in
          there ∙ (m x).1 (k.3 (not_from_Decides (passes k.0) (d k.0 k.1) (ap passes (sym at) ∙ fails))),
    ))

-- what a step makes of a day that is there where a test holds
pub step-names : (b : Bool) (P : Type 0) (there : ℤ) (step : ℤ → Option ℤ) (Is : ℤ → Type 0) → Decides b P → (P → Names (step there) Is) → Names (and_then (if b then Some there else None) step) (λ x. P × Is x)
step-names true P there step Is d n x =
    let p = d.0 refl in
    (λ e. (p, (n p x).0 e), λ k. (n p x).1 k.1)
step-names false P there step Is d n x =
    (λ e. absurd (none-some x e), λ k. absurd (not_from_Decides false d refl k.0))

-- the answer of a call, and its fault
pub record Answers (answer : Result ℤ ShiftFault) (Is : ℤ → Type 0) : Type 0 where
  pub found : (x : ℤ) → (answer ≡ Ok x) ↔ Is x
  pub fault : (answer ≡ Err DateRange) ↔ ((x : ℤ) → ¬ (Is x))

pub answers : (answer : Result ℤ ShiftFault) (value : Option ℤ) (Is : ℤ → Type 0) → answer ≡ day_or_fault value → Names value Is → Answers answer Is
answers answer None Is e n = record {
  found = λ x. (λ f. absurd (cc), λ is. absurd (none-some x ((n x).1 is)));
  fault = (λ _ x is. none-some x ((n x).1 is), λ _. e);
}
answers answer (Some day) Is e n = record {
  found = λ x. (λ f. let same : day ≡ x = cc in (n x).0 (ap Some same), λ is. e ∙ ap Ok (same_Some day x ((n x).1 is)));
  fault = (λ f. absurd (cc), λ no. absurd (no day ((n day).0 refl)));
}
