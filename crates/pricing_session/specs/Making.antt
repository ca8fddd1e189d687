-- When an object is made of terms.
use Rattle.std.specs.Prelude.{◌≡◌, ◌<◌, ◌≤◌, ℕ, true, false, length, Some, Result, Ok, Err, IsOk}
use Rattle.desk_terms.specs.declared.terms.Terms.{Terms}
use Rattle.desk_terms.specs.Reading.{AreInRange}
use Rattle.desk_model.specs.Links.{AreOfKind}
use Rattle.session_model.specs.Standing.{Standing}
use Rattle.session_model.specs.Resolve.{making, unless_taken}
use Rattle.pricing_session.specs.declared.fault.ObjectFault.{ObjectFault}
use Rattle.pricing_session.specs.declared.fault.ObjectFault.TheVariants as fault

-- the session goes on and has the name, the terms are in range, and what they name is live and of the kinds that are wanted there
pub record MayTry (p : Standing) (name : ℕ) (terms : Terms) : Type 0 where
  pub running : p.stopped ≡ false
  pub named : name < length p.names
  pub ranged : AreInRange terms
  pub inputs : AreOfKind p.state.market (Some terms)

-- THE FIRST of these that does not hold is told
abbrev pub IsUnmade : Standing → ℕ → Terms → ObjectFault → Type 0
IsUnmade p name terms fault.Stopped = p.stopped ≡ true
IsUnmade p name terms fault.Unknown = (p.stopped ≡ false) × (length p.names ≤ name)
IsUnmade p name terms fault.Limits = (p.stopped ≡ false) × (name < length p.names) × (AreInRange terms → ⊥)
IsUnmade p name terms fault.Inputs =
    (p.stopped ≡ false) × (name < length p.names) × AreInRange terms × (AreOfKind p.state.market (Some terms) → ⊥)
IsUnmade p name terms (fault.Refused refusal) = MayTry p name terms × (unless_taken p name (making p name terms) ≡ Err refusal)
IsUnmade p name terms fault.NoMemory = MayTry p name terms × IsOk (unless_taken p name (making p name terms))

-- an object is made where all of them hold and the definition makes it
abbrev pub AnswersMake : Standing → ℕ → Terms → Result ℕ ObjectFault → Type 0
AnswersMake p name terms (Ok object) = MayTry p name terms × IsOk (unless_taken p name (making p name terms))
AnswersMake p name terms (Err why) = IsUnmade p name terms why
