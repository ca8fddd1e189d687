-- The files that a market names, and the numbers of a fault.
use Rattle.std.specs.Prelude.{◌≡◌, ◌+◌, ℕ, if◌then◌else◌, List, [], length, Option, Some, None, is_some, Ok, Err}
use Rattle.tool_script.specs.Status.{words_of}
use Rattle.tool_script.specs.declared.status.Status.{Status}
use Rattle.tool_script.specs.declared.status.Status.TheVariants as status
use Rattle.market_file.specs.Fault.{Fault}
use Rattle.market_file.specs.Paths.{market_paths}
use Rattle.market_file.specs.declared.paths.Paths.{Paths}
use Rattle.desk_c.specs.Numbers.{section_number, market_number, script_number}
use Rattle.desk_c.specs.Texts.{laid}

-- section, entry and kind of a fault; of a script the line is the entry
abbrev pub fault_numbers : Status → Option (ℕ × ℕ × ℕ)
fault_numbers (status.Market section entry why) = Some (section_number section, entry, market_number why)
fault_numbers (status.Script line why) = Some (0, line, script_number why)
fault_numbers status.Done = None
fault_numbers status.Usage = None
fault_numbers status.ReadFault = None
fault_numbers status.WriteFault = None
fault_numbers status.NoMemory = None
fault_numbers (status.Absent role) = None

-- the numbers of a fault, or those that stood there
abbrev pub numbers_after : Option (ℕ × ℕ × ℕ) → ℕ × ℕ × ℕ → ℕ × ℕ × ℕ
numbers_after (Some numbers) old = numbers
numbers_after None old = old

-- the bytes of a path, and none where no file is named
abbrev pub path_text : Option (List ℕ) → List ℕ
path_text None = []
path_text (Some path) = path

-- 1 where quotes are named, 2 where fixings are, 3 where both are
abbrev pub named_number : Paths → ℕ
named_number paths = (if is_some paths.quotes then 1 else 0) + (if is_some paths.fixings then 2 else 0)

-- THE FILES THAT A MARKET NAMES: which they are, and their paths
pub record NamesTables (market : List ℕ) (named : ℕ) (quotes_old quotes_new : List ℕ) (quotes_size : ℕ)
    (fixings_old fixings_new : List ℕ) (fixings_size : ℕ) : Type 0 where
  pub paths : Paths
  pub are_named : market_paths market ≡ Ok paths
  pub which : named ≡ named_number paths
  pub quotes : quotes_new ≡ laid (path_text paths.quotes) quotes_old
  pub quotes_length : quotes_size ≡ length (path_text paths.quotes)
  pub fixings : fixings_new ≡ laid (path_text paths.fixings) fixings_old
  pub fixings_length : fixings_size ≡ length (path_text paths.fixings)

-- the market names none, for this fault
pub record NamesNone (market : List ℕ) (numbers : ℕ × ℕ × ℕ) (message_old message_new : List ℕ) : Type 0 where
  pub fault : Fault
  pub fails : market_paths market ≡ Err fault
  pub told : numbers ≡ (section_number fault.0, fault.1, market_number fault.2)
  pub message : message_new ≡ laid (words_of (status.Market fault.0 fault.1 fault.2)) message_old
