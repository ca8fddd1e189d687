-- What the bench was called for, and what is written of names.
use Rattle.std.proofs.Common.{◌≡◌, ℕ, Bool, List, [], Option, Result, Ok, Err, sym, ap, subst}
use Rattle.desk_terms.specs.Reading.{Outcome, Calc}
use Rattle.bump_model.specs.Asking.{Calls}
use Rattle.bump_model.proofs.Calls.{front_none, calls_front}
use Rattle.market_desk.specs.Standing.{Standing}
use Rattle.curve_run.specs.Lines.{Sheet, priced_text, text_for, calls_for, curve_text, curve_calls, IsFound, AreNamed}
use Rattle.curve_run.specs.Named.{named_of}
use Rattle.curve_run.specs.Pricing.{curves_asking}

abbrev Log : Type 0
Log = Option (List (ℕ × Bool))

-- memory ran out before anything was computed
pub calls_begun : {A E : Type 0} (calls : List (ℕ × Outcome)) (result : Result A E) (count : ℕ) (log : Log) (e : E)
    → result ≡ Err e → Calls calls result count count log log
calls_begun calls result count log e is = calls_front calls result count count log log e is (front_none calls count log)

-- ---- what names stand for

module _ (calc : Calc) (p : Standing) (texts : List (List ℕ)) where
  pub text_found : (sheet : Sheet) (objects : List ℕ) → named_of p.state.market p.names texts ≡ Ok objects
      → curve_text calc p sheet texts ≡ priced_text calc p sheet objects
  unfolding curve_text
  text_found sheet objects is = ap (text_for calc p sheet) is

  pub text_lines : (sheet : Sheet) (lines : List ℕ) → named_of p.state.market p.names texts ≡ Err lines
      → curve_text calc p sheet texts ≡ Err lines
  unfolding curve_text
  text_lines sheet lines is = ap (text_for calc p sheet) is

  pub calls_found : (objects : List ℕ) → named_of p.state.market p.names texts ≡ Ok objects
      → curve_calls calc p texts ≡ (curves_asking calc objects p.state).calls
  unfolding curve_calls
  calls_found objects is = ap (calls_for calc p) is

  pub calls_lines : (lines : List ℕ) → named_of p.state.market p.names texts ≡ Err lines → curve_calls calc p texts ≡ []
  unfolding curve_calls
  calls_lines lines is = ap (calls_for calc p) is

  pub found_named : (objects : List ℕ) → named_of p.state.market p.names texts ≡ Ok objects → AreNamed p texts
  found_named objects is = subst IsFound (sym is) tt
