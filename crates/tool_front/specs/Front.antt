-- What the words of a command line ask for (this project's profile).
use Rattle.std.specs.Prelude.{ℕ, Bool, false, ◌||◌, if◌then◌else◌, List, [], ◌∷◌, map, codes, Option, None, Some}
use Rattle.std.specs.Str.{bytes_eq}
use Rattle.std.specs.String.{string_bytes}
use Rattle.tool_front.specs.declared.command.Command.{Command}
use Rattle.tool_front.specs.declared.front.Front as given
use Rattle.tool_front.specs.Table.{command_of}

-- the list of commands; the version; how a command is used; nothing, since there are no words; a word that is no command; a command
-- over the words after it
pub data Front : Type 0 where
  Listing : Front
  Version : Front
  Help : Command → Front
  Nothing : Front
  Unknown : List ℕ → Front
  Run : Command → List (List ℕ) → Front

-- what the code found, as the definition sees it
abbrev pub front_in : given.Front → Front
front_in given.TheVariants.List = Listing
front_in given.TheVariants.Version = Version
front_in (given.TheVariants.Help c) = Help c
front_in given.TheVariants.Nothing = Nothing
front_in (given.TheVariants.Unknown word) = Unknown word.now
front_in (given.TheVariants.Run c words) = Run c (map string_bytes words.now)

abbrev pub is_help_option : List ℕ → Bool
is_help_option word = bytes_eq word (codes "--help") || bytes_eq word (codes "-h")

abbrev pub is_help : List ℕ → Bool
is_help word = bytes_eq word (codes "help") || is_help_option word

abbrev pub is_version : List ℕ → Bool
is_version word = bytes_eq word (codes "--version") || bytes_eq word (codes "-V")

-- an option for help is among the words
abbrev pub asks_help : List (List ℕ) → Bool
asks_help [] = false
asks_help (word ∷ words) = is_help_option word || asks_help words

-- a command, where the word is one
abbrev pub help_for : List ℕ → Option Command → Front
help_for word (Some c) = Help c
help_for word None = Unknown word

abbrev pub named_help : List ℕ → Front
named_help word = if is_help word then Listing else help_for word (command_of word)

-- `help`, and the words after it: the first names a command
abbrev pub help_of : List (List ℕ) → Front
help_of [] = Listing
help_of (word ∷ words) = named_help word

-- a command, and the words after it: help wins over all else
abbrev pub command_front : Command → List (List ℕ) → Front
command_front c words = if asks_help words then Help c else Run c words

abbrev pub found_front : List ℕ → List (List ℕ) → Option Command → Front
found_front word words (Some c) = command_front c words
found_front word words None = Unknown word

abbrev pub word_front : List ℕ → List (List ℕ) → Front
word_front word words =
    if is_help word then help_of words else if is_version word then Version else found_front word words (command_of word)

abbrev pub front_of : List (List ℕ) → Front
front_of [] = Nothing
front_of (word ∷ words) = word_front word words
