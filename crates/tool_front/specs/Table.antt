-- The table of commands: one row for each (this project's profile).
use Rattle.std.specs.Prelude.{ℕ, List, [], ◌∷◌, codes, Option}
use Rattle.std.specs.List.{find}
use Rattle.std.specs.Str.{bytes_eq}
use Rattle.tool_front.specs.declared.command.Command.{Command}
use Rattle.tool_front.specs.declared.command.Command.TheVariants as command
use Rattle.tool_front.specs.declared.table.Row as given

-- what a user reads of a command: its name, its arguments, what it does in one line and in a few, a call of it
pub record Row : Type 0 where
  pub name : List ℕ
  pub arguments : List ℕ
  pub summary : List ℕ
  pub about : List ℕ
  pub example : List ℕ

-- a row of the code, as the definition sees it
abbrev pub row_in : given.Row → Row
row_in row = record {
  name = row.name.now;
  arguments = row.arguments.now;
  summary = row.summary.now;
  about = row.about.now;
  example = row.example.now;
}

unfoldable pub row_of : Command → Row
row_of command.Run = record {
  name = codes "run";
  arguments = codes "MARKET SCRIPT [--order ORDER]";
  summary = codes "Runs a session script over a market and writes the transcript.";
  about = codes "Reads a market file and a script, does its commands in order and writes a line for\neach value that is asked for. ORDER is first, last or a seed from 0 to 18446744073709551615:\nthe order in which due watchers run.";
  example = codes "doqs run market.toml script.txt";
}
row_of command.Check = record {
  name = codes "check";
  arguments = codes "MARKET";
  summary = codes "Checks a market file and its tables.";
  about = codes "Reads a market file and the tables that it names, and writes how many objects and\nfixings they hold, or where the first fault is.";
  example = codes "doqs check market.toml";
}
row_of command.Load = record {
  name = codes "load";
  arguments = codes "N";
  summary = codes "Runs a generated session of size N and writes its summary.";
  about = codes "Generates a market and a script of size N, from 1 to 1000, runs them, and writes how\nmany lines and bytes the transcript has, and its last line.";
  example = codes "doqs load 100";
}
row_of command.Live = record {
  name = codes "live";
  arguments = codes "MARKET [SCRIPT] [--order ORDER] [--ready]";
  summary = codes "Answers commands from standard input, line by line.";
  about = codes "Does the commands of SCRIPT, where one is named, and then each line of standard input\nas it comes. A line with a fault changes nothing. With --ready each line ends with ready N.";
  example = codes "doqs live market.toml < commands.txt";
}
row_of command.Why = record {
  name = codes "why";
  arguments = codes "MARKET SCRIPT NAME";
  summary = codes "Shows what a value was computed from, down to the quotes.";
  about = codes "Runs a script and then writes the inputs, flows and curve points from which the value of\nNAME is computed, in numbers that add up.";
  example = codes "doqs why market.toml script.txt book";
}
row_of command.Explain = record {
  name = codes "explain";
  arguments = codes "MARKET SCRIPT";
  summary = codes "Explains the gain of each step of a script.";
  about = codes "Runs the blocks of a script one after another in one session, and writes for each object\nthat is asked for what it gained in each step.";
  example = codes "doqs explain market.toml steps.txt";
}
row_of command.Grid = record {
  name = codes "grid";
  arguments = codes "MARKET SCRIPT";
  summary = codes "Prices scenarios: each block of a script over the same market.";
  about = codes "Runs each block of a script over the market as it is read, writes the lines of its asks,\nand for each ask the scenario with the least money.";
  example = codes "doqs grid market.toml scenarios.txt";
}
row_of command.Bump = record {
  name = codes "bump";
  arguments = codes "MARKET NAME";
  summary = codes "Shows how a price moves when each quote moves by one basis point.";
  about = codes "Prices NAME with each quote of the market moved up and down by one basis point, and\nthen with all of them moved together.";
  example = codes "doqs bump market.toml book";
}
row_of command.Risk = record {
  name = codes "risk";
  arguments = codes "MARKET SIZE NAME..";
  summary = codes "Shows delta, gamma, cross gamma and theta of prices.";
  about = codes "Prices each NAME with its quotes and curves moved by SIZE either way, and on the next\nbusiness day.";
  example = codes "doqs risk market.toml 0.0001 book";
}
row_of command.Curve = record {
  name = codes "curve";
  arguments = codes "[--csv] [--zero | --forward | --par] MARKET NAME [CURVE..]";
  summary = codes "Draws curves, or writes their points.";
  about = codes "Draws discount factors, or with an option zero, forward or par rates, as an SVG picture.\nWith --csv it writes their points as a table.";
  example = codes "doqs curve --zero market.toml euro > euro.svg";
}
row_of command.Graph = record {
  name = codes "graph";
  arguments = codes "MARKET SCRIPT";
  summary = codes "Draws what depends on what, as Graphviz text.";
  about = codes "Runs a script and then writes the objects of the session, what each depends on, and\nwhich of them are current, frozen or deferred.";
  example = codes "doqs graph market.toml script.txt | dot -Tsvg > graph.svg";
}
row_of command.Yield = record {
  name = codes "yield";
  arguments = codes "MARKET NAME DAY PRICE";
  summary = codes "Shows the yield of a bond at a clean price.";
  about = codes "Writes the accrued interest, the full price and the yield of the bond NAME on the\nsettlement day DAY at the clean price PRICE.";
  example = codes "doqs yield market.toml state 2024-01-17 990000";
}
row_of command.Measure = record {
  name = codes "measure";
  arguments = codes "MARKET NAME DAY PRICE";
  summary = codes "Shows yield, duration, convexity and spread of a bond.";
  about = codes "Writes what yield writes, and then the gain of a basis point, duration, convexity and\nthe spread over the curve of the bond's engine.";
  example = codes "doqs measure market.toml state 2024-01-17 990000";
}

-- all the commands, in the order in which they are listed
abbrev pub commands : List Command
commands =
    command.Run ∷ command.Check ∷ command.Load ∷ command.Live ∷ command.Why ∷ command.Explain ∷ command.Grid ∷ command.Bump ∷ command.Risk ∷ command.Curve ∷ command.Graph ∷ command.Yield ∷ command.Measure ∷ []

-- the command with this name
unfoldable pub command_of : List ℕ → Option Command
command_of word = find (λ c. bytes_eq (row_of c).name word) commands
