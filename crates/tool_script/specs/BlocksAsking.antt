-- Whether words and files are a script of blocks over a market (this project's profile).
use Rattle.std.specs.Prelude.{ℕ, Option, None, Some, Result, Ok, Err}
use Rattle.tool_script.specs.Asking.{script_asks}
use Rattle.tool_script.specs.Verdict.{ScriptRun}
use Rattle.tool_script.specs.Scenario.{Basis}
use Rattle.tool_script.specs.declared.shape.Blocks.{Blocks}
use Rattle.tool_script.specs.Shape.{shape_of}
use Rattle.tool_frame.specs.Tool.{Asking, asks_then}
use Rattle.tool_frame.specs.Words.{Pair, pair_of}
use Rattle.tool_script.specs.declared.blocks_status.BlocksStatus.{BlocksStatus}
use Rattle.tool_script.specs.declared.blocks_status.BlocksStatus.TheVariants.{Of, Shape}

abbrev pub unless_shape : ScriptRun → Option ℕ → Result ScriptRun BlocksStatus
unless_shape run None = Ok run
unless_shape run (Some fault) = Err (Shape fault)

-- a script over a market, where its blocks are such
abbrev pub in_shape : Blocks → ScriptRun → Result ScriptRun BlocksStatus
in_shape blocks run = unless_shape run (shape_of blocks run.names run.script)

-- WHAT IS ASKED OF FILES by the words `MARKET SCRIPT`: the market, then the script, then its shape
abbrev pub blocks_asks : Blocks → Asking Pair ScriptRun BlocksStatus
blocks_asks blocks = asks_then (script_asks pair_of (λ pair. pair.market) (λ pair. pair.other)) Of (λ wanted. in_shape blocks wanted.run)

-- what a session of it begins with
abbrev pub basis_of : ScriptRun → Basis
basis_of run = record { names = run.names; today = run.today; made = run.made }
