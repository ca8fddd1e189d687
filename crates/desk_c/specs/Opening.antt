-- What a session for C is opened with.
use Rattle.std.specs.Prelude.{◌≡◌, ℕ, List, Option, Some, Ok, Err}
use Rattle.session_commands.specs.declared.command.Command.{Command}
use Rattle.session_commands.specs.declared.script_kind.ScriptKind.{ScriptKind}
use Rattle.market_file.specs.Market.{Market, read_market}
use Rattle.watch_rounds.specs.declared.picker.Order.{Order}
use Rattle.session_model.specs.Rounds.{transcript}
use Rattle.live_model.specs.Live.{Live}
use Rattle.live_model.specs.Log.{done}
use Rattle.pricing_session.specs.Speaking.{as_live, live_opened}
use Rattle.tool_script.specs.declared.status.Status.{Status}
use Rattle.tool_script.specs.declared.status.Status.TheVariants as status
use Rattle.tool_script.specs.Status.{code_of, words_of}
use Rattle.desk_c.specs.declared.kept.Kept.{Kept}
use Rattle.desk_c.specs.Calls.{ordered}
use Rattle.desk_c.specs.Tables.{fault_numbers}
use Rattle.desk_c.specs.Texts.{laid}

-- A SESSION IS OPENED: that of the market behind the script, whose commands are done, and their lines
pub record Opens (order : Order) (market quotes fixings script : List ℕ) (kept : Kept) : Type 0 where
  pub read : Market
  pub is_read : read_market market quotes fixings ≡ Ok read
  pub begun : Live Order
  pub commands : List Command
  pub begins : live_opened order read.names read.today read.made script ≡ Ok (begun, commands)
  pub live : as_live kept.session ≡ record begun { running = done ordered begun.running commands }
  pub text : kept.text.items ≡ transcript ordered begun.running commands

-- the script of a market that is read has this fault
pub record IsNoScript (order : Order) (market quotes fixings script : List ℕ) (line : ℕ) (why : ScriptKind) : Type 0 where
  pub read : Market
  pub is_read : read_market market quotes fixings ≡ Ok read
  pub fails : live_opened order read.names read.today read.made script ≡ Err (line, why)

-- why none is
abbrev pub FailsToOpen : Order → List ℕ → List ℕ → List ℕ → List ℕ → Status → Type 0
FailsToOpen order market quotes fixings script (status.Market section entry why) = read_market market quotes fixings ≡ Err (section, entry, why)
FailsToOpen order market quotes fixings script (status.Script line why) = IsNoScript order market quotes fixings script line why
FailsToOpen order market quotes fixings script status.NoMemory = Unit {0}
FailsToOpen order market quotes fixings script status.Done = ⊥
FailsToOpen order market quotes fixings script status.Usage = ⊥
FailsToOpen order market quotes fixings script status.ReadFault = ⊥
FailsToOpen order market quotes fixings script status.WriteFault = ⊥
FailsToOpen order market quotes fixings script (status.Absent role) = ⊥

-- the order is one, and opens a session
pub record IsOpen (order : Option Order) (market quotes fixings script : List ℕ) (kept : Kept) : Type 0 where
  pub known : Order
  pub is_known : order ≡ Some known
  pub opens : Opens known market quotes fixings script kept

-- the order is one, and this is why none is opened, as the message tells it
pub record IsTold (order : Option Order) (market quotes fixings script : List ℕ) (code : ℕ) (numbers : ℕ × ℕ × ℕ) (message_old message_new : List ℕ) : Type 0 where
  pub known : Order
  pub is_known : order ≡ Some known
  pub told : Status
  pub fails : FailsToOpen known market quotes fixings script told
  pub number : code ≡ code_of told
  pub fault : Some numbers ≡ fault_numbers told
  pub message : message_new ≡ laid (words_of told) message_old
