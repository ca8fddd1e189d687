-- Statuses that are worked through by hand.
use Rattle.std.specs.Prelude.{◌≡◌, ◌==◌, ℕ, List, codes, Option, None, Some, Result, Ok, Err}
use Rattle.tool_frame.specs.declared.status.MarketStatus.{MarketStatus}
use Rattle.tool_frame.specs.declared.status.MarketStatus.TheVariants.{Done, Usage, NoMemory}
use Rattle.tool_frame.specs.Status as market
use Rattle.tool_frame.specs.declared.named_run_status.NamedStatus.{NamedStatus}
use Rattle.tool_frame.specs.declared.named_run_status.NamedStatus.TheVariants.{Of, Refused}
use Rattle.tool_frame.specs.Named_runRun.{ending_of}
use Rattle.tool_frame.specs.Named_runStatus.{code_of, said_of}

-- a code, and the line on standard error after the program's name
abbrev pub Tells : NamedStatus MarketStatus → ℕ → Option (List ℕ) → Type 0
Tells status code said = (code_of market.code_of status ≡ code) × (said_of market.said_of status ≡ said)

-- a number is wanted, and 0 is no name
abbrev pub ends_of : Result ℕ MarketStatus → NamedStatus MarketStatus
ends_of verdict = ending_of Done (λ n. n == 0) verdict

pub record AreTold : Type 0 where
  pub done : Tells (Of Done) 0 None
  pub usage : Tells (Of Usage) 2 (Some (codes "usage"))
  pub no_memory : Tells (Of NoMemory) 7 (Some (codes "no memory"))
  pub refused : Tells Refused 10 (Some (codes "refused"))
  pub right : ends_of (Ok 1) ≡ Of Done
  pub wrong : ends_of (Ok 0) ≡ Refused
  pub unread : ends_of (Err Usage) ≡ Of Usage
