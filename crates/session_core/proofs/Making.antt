-- When an object is made, and when it is refused.
use Rattle.std.proofs.Common.{◌≡◌, ℕ, Bool, true, false, if◌then◌else◌, Result, Ok, Err, refl, sym, ◌∙◌, ap}
use Rattle.std.specs.Prelude.{IsOk, IsErrAnd, is_some}
use Rattle.desk_terms.specs.declared.terms.Terms.{Terms}
use Rattle.session_commands.specs.declared.refusal.Refusal.{Refusal}
use Rattle.session_commands.specs.declared.refusal.Refusal.TheVariants.{Taken, TooMany}
use Rattle.session_model.specs.declared.act.Act.{Act}
use Rattle.session_model.specs.declared.act.Act.TheVariants as act
use Rattle.session_model.specs.Standing.{Standing, object_named, is_full}
use Rattle.session_model.specs.Resolve.{unless, making, unless_taken}
use Rattle.session_core.specs.declared.fault.MakeFault.{MakeFault}
use Rattle.session_core.specs.declared.fault.MakeFault.TheVariants.{Refused, NoMemory}
use Rattle.session_core.specs.Steps.{AnswersMake}

abbrev refused : Refusal → Result Act Refusal
refused r = Err r

same_refusal : (s r : Refusal) → s ≡ r → refused s ≡ refused r
same_refusal s r e = ap refused e

-- what tells whether a name is free, and whether there is room
abbrev free_of : Bool → ℕ → Result (Unit {0}) Refusal
free_of b name = if b then Err (Taken name) else Ok tt

abbrev room_of : Bool → Result (Unit {0}) Refusal
room_of f = if f then Err TooMany else Ok tt

pub answers_refused : (wanted : Result Act Refusal) (result : Result ℕ MakeFault) (r : Refusal)
    → IsErrAnd result (λ e. e ≡ Refused r) → wanted ≡ Err r → AnswersMake wanted result
answers_refused wanted (Ok x) r e is = absurd e
answers_refused wanted (Err (Refused s)) r e is = is ∙ sym (same_refusal s r (let same : s ≡ r = cc in same))
answers_refused wanted (Err NoMemory) r e is = cc

pub answers_memory : (wanted : Result Act Refusal) (result : Result ℕ MakeFault) → IsErrAnd result (λ e. e ≡ NoMemory)
    → IsOk wanted → AnswersMake wanted result
answers_memory wanted (Ok x) e is = absurd e
answers_memory wanted (Err (Refused s)) e is = cc
answers_memory wanted (Err NoMemory) e is = is

module _ (p : Standing) (name : ℕ) (t : Terms) where
  pub taken_refuses : (r : Refusal) → free_of (is_some (object_named p name)) name ≡ Err r
      → unless_taken p name (making p name t) ≡ Err r
  unfolding unless_taken
  taken_refuses r e = by (is_some (object_named p name)) e
    where
      by : (b : Bool) → free_of b name ≡ Err r → (if b then Err (Taken name) else making p name t) ≡ Err r
      by true e = let same : Taken name ≡ r = cc in cc
      by false e = absurd (cc)

  pub full_refuses : (r : Refusal) → free_of (is_some (object_named p name)) name ≡ Ok tt
      → room_of (is_full p.state.market) ≡ Err r → unless_taken p name (making p name t) ≡ Err r
  unfolding unless_taken unless
  full_refuses r free e = by (is_some (object_named p name)) (is_full p.state.market) free e
    where
      by : (b f : Bool) → free_of b name ≡ Ok tt → room_of f ≡ Err r
          → (if b then Err (Taken name) else (if f then Err TooMany else Ok (act.Make name t))) ≡ Err r
      by true f free e = absurd (cc)
      by false true free e = let same : TooMany ≡ r = cc in cc
      by false false free e = absurd (cc)

  pub is_made : free_of (is_some (object_named p name)) name ≡ Ok tt → room_of (is_full p.state.market) ≡ Ok tt
      → IsOk (unless_taken p name (making p name t))
  unfolding unless_taken unless
  is_made free room = by (is_some (object_named p name)) (is_full p.state.market) free room
    where
      by : (b f : Bool) → free_of b name ≡ Ok tt → room_of f ≡ Ok tt
          → IsOk (if b then Err (Taken name) else (if f then Err TooMany else Ok (act.Make name t)))
      by true f free room = absurd (cc)
      by false true free room = absurd (cc)
      by false false free room = refl
