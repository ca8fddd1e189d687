-- A ladder: its base, and the rungs behind it.
use Rattle.std.proofs.Common.{◌≡◌, ℕ, ◌+◌, true, false, List, length, Result, Ok, Err, ℤ, refl, sym, ◌∙◌, ap, subst}
use Rattle.std.proofs.lemmas.List.{append-nil}
use Rattle.desk_terms.specs.declared.cause.Cause.{Cause}
use Rattle.desk_terms.specs.declared.kind.Kind.{Kind}
use Rattle.desk_terms.specs.declared.kind.Kind.TheVariants as kind
use Rattle.desk_terms.specs.declared.kind.Wanted.TheVariants.{Member}
use Rattle.desk_terms.specs.Kind.{serves, role}
use Rattle.desk_terms.specs.Terms.{kind_of}
use Rattle.desk_terms.specs.Reading.{Outcome, Calc}
use Rattle.desk_model.specs.declared.slot.Slot.{Slot}
use Rattle.desk_model.specs.declared.slot.Slot.TheVariants.{Free, Today, Watcher, Live}
use Rattle.desk_model.specs.Market.{Market, slot_at, kind_in, kind_at, terms_in, is_lazy, role_of}
use Rattle.desk_model.specs.State.{State}
use Rattle.desk_model.specs.Visit.{runs}
use Rattle.desk_model.specs.Links.{is_lazy_at, serves_as}
use Rattle.bump_model.specs.declared.ladder.Bump.{Bump}
use Rattle.bump_model.specs.declared.ladder.Rung.{Rung}
use Rattle.bump_model.specs.Sides.{worth, rungs_of}
use Rattle.bump_model.specs.Asking.{Asking, Made, MadeFront, none, ask_of, then_ask, rungs_asking, behind_base, ladder_asking}
use Rattle.bump_model.proofs.Calls.{Log, Did}
use Rattle.bump_ladder.proofs.Siding.{then_ok, then_runs, then_front, first_front}

-- ---- an instrument is priced

kind_lazy : (k : Kind) → serves k Member ≡ true → is_lazy (role k) ≡ true
kind_lazy kind.Today e = absurd (let none : false ≡ true = e in cc)
kind_lazy kind.Quote e = absurd (let none : false ≡ true = e in cc)
kind_lazy kind.Derived e = absurd (let none : false ≡ true = e in cc)
kind_lazy kind.QuoteHandle e = absurd (let none : false ≡ true = e in cc)
kind_lazy kind.CurveHandle e = absurd (let none : false ≡ true = e in cc)
kind_lazy kind.Index e = absurd (let none : false ≡ true = e in cc)
kind_lazy kind.Engine e = absurd (let none : false ≡ true = e in cc)
kind_lazy kind.Curve e = refl
kind_lazy kind.Implied e = refl
kind_lazy kind.Stock e = refl
kind_lazy kind.Composite e = refl
kind_lazy kind.Flows e = refl
kind_lazy kind.Watcher e = absurd (let none : false ≡ true = e in cc)

slot_lazy : (slot : Slot) → serves_as (kind_in slot) Member ≡ true → is_lazy (role_of (terms_in slot)) ≡ true
slot_lazy Free e = absurd (let none : false ≡ true = e in cc)
slot_lazy Today e = absurd (let none : false ≡ true = e in cc)
slot_lazy Watcher e = absurd (let none : false ≡ true = e in cc)
slot_lazy (Live terms) e = kind_lazy (kind_of terms) e

pub instrument_lazy : (m : Market) (o : ℕ) → serves_as (kind_at m o) Member ≡ true → is_lazy_at m o ≡ true
instrument_lazy m o is = slot_lazy (slot_at m o) is

-- ---- the whole

module _ (calc : Calc) (size : ℤ) (o : ℕ) (bumps : List Bump) (s t : State) (count now : ℕ) (log log_now : Log) where
  -- the base is refused
  refused_asking : (cause : Cause) → worth calc s.market o ≡ Err cause
      → ladder_asking calc size o bumps s ≡ then_ask (ask_of calc o s) none
  unfolding ladder_asking
  refused_asking cause is =
      ap (λ (r : Result ℤ Cause). then_ask (ask_of calc o s) (behind_base calc size s.market o bumps r)) is

  refused_calls : (cause : Cause) → worth calc s.market o ≡ Err cause
      → (ladder_asking calc size o bumps s).calls ≡ (ask_of calc o s).calls
  refused_calls cause is = ap (λ (a : Asking). a.calls) (refused_asking cause is) ∙ append-nil (ask_of calc o s).calls

  pub refused_ends : (cause : Cause) → worth calc s.market o ≡ Err cause → Did (ask_of calc o s) t count now log log_now
      → Did (ladder_asking calc size o bumps s) t count now log log_now
  refused_ends cause is does = (
    does.0 ∙ sym (ap (λ (a : Asking). a.next) (refused_asking cause is)),
    subst (λ (l : List (ℕ × Outcome)). Made l count now log log_now) (sym (refused_calls cause is)) does.1,
  )

  pub refused_runs : (cause : Cause) (number : ℕ) → worth calc s.market o ≡ Err cause → number ≡ length (runs calc s o)
      → number ≡ length (ladder_asking calc size o bumps s).calls
  refused_runs cause number is counted =
      counted ∙ ap (λ (l : List (ℕ × Outcome)). length l) (sym (refused_calls cause is))

  -- memory ran out in the base
  pub base_front : MadeFront (ask_of calc o s).calls count now log log_now
      → MadeFront (ladder_asking calc size o bumps s).calls count now log log_now
  unfolding ladder_asking
  base_front made =
      first_front (ask_of calc o s) (behind_base calc size s.market o bumps (worth calc s.market o)) count now log log_now made

  -- the rungs follow
  module _ (base : ℤ) (is : worth calc s.market o ≡ Ok base) (u : State) (later : ℕ) (log_end : Log) where
    climbed_asking : ladder_asking calc size o bumps s ≡ then_ask (ask_of calc o s) (rungs_asking calc size s.market o bumps)
    unfolding ladder_asking
    climbed_asking =
        ap (λ (r : Result ℤ Cause). then_ask (ask_of calc o s) (behind_base calc size s.market o bumps r)) is

    pub climbed_ends : Did (ask_of calc o s) t count now log log_now
        → Did (rungs_asking calc size s.market o bumps t) u now later log_now log_end
        → Did (ladder_asking calc size o bumps s) u count later log log_end
    climbed_ends first second =
        subst (λ (a : Asking). Did a u count later log log_end) (sym climbed_asking)
        (then_ok (ask_of calc o s) (rungs_asking calc size s.market o bumps) t u count now later log log_now log_end first second)

    pub climbed_runs : Did (ask_of calc o s) t count now log log_now → (n k : ℕ)
        → n ≡ length (runs calc s o) → k ≡ length (rungs_asking calc size s.market o bumps t).calls
        → n + k ≡ length (ladder_asking calc size o bumps s).calls
    climbed_runs first n k front back =
        then_runs (ask_of calc o s) (rungs_asking calc size s.market o bumps) t u count now later log log_now log_end first n k front back
        ∙ ap (λ (a : Asking). length a.calls) (sym climbed_asking)

    pub climbed_front : Did (ask_of calc o s) t count now log log_now
        → MadeFront (rungs_asking calc size s.market o bumps t).calls now later log_now log_end
        → MadeFront (ladder_asking calc size o bumps s).calls count later log log_end
    climbed_front first made =
        subst (λ (a : Asking). MadeFront a.calls count later log log_end) (sym climbed_asking)
        (then_front (ask_of calc o s) (rungs_asking calc size s.market o bumps) t u count now later log log_now log_end first made)

-- facts of the rungs over the bench and the market of that moment, told of those at the start
module _ (calc : Calc) (size : ℤ) (k : Calc) (m n : Market) (o : ℕ) (bumps : List Bump) (s : State) (same : k ≡ calc) (market : n ≡ m) where
  pub rungs_did : (t : State) (count now : ℕ) (log log_now : Log) → Did (rungs_asking k size n o bumps s) t count now log log_now
      → Did (rungs_asking calc size m o bumps s) t count now log log_now
  rungs_did t count now log log_now does =
      subst (λ (l : Market). Did (rungs_asking calc size l o bumps s) t count now log log_now) market
      (subst (λ (h : Calc). Did (rungs_asking h size n o bumps s) t count now log log_now) same does)

  pub rungs_front : (count now : ℕ) (log log_now : Log) → MadeFront (rungs_asking k size n o bumps s).calls count now log log_now
      → MadeFront (rungs_asking calc size m o bumps s).calls count now log log_now
  rungs_front count now log log_now made =
      subst (λ (l : Market). MadeFront (rungs_asking calc size l o bumps s).calls count now log log_now) market
      (subst (λ (h : Calc). MadeFront (rungs_asking h size n o bumps s).calls count now log log_now) same made)

  pub rungs_runs : (number : ℕ) → number ≡ length (rungs_asking k size n o bumps s).calls
      → number ≡ length (rungs_asking calc size m o bumps s).calls
  rungs_runs number is =
      is ∙ ap (λ (h : Calc). length (rungs_asking h size n o bumps s).calls) same
      ∙ ap (λ (l : Market). length (rungs_asking calc size l o bumps s).calls) market

  pub rungs_are : (base : ℤ) (rungs : List Rung) → rungs ≡ rungs_of k size n o base bumps → rungs ≡ rungs_of calc size m o base bumps
  rungs_are base rungs is =
      is ∙ ap (λ (h : Calc). rungs_of h size n o base bumps) same ∙ ap (λ (l : Market). rungs_of calc size l o base bumps) market
