-- The command by which `clap` reads the words of a run.
use Rattle.std.specs.Prelude.{◌≡◌, true, List, [], ◌∷◌, codes, Some, is_some}
use Rattle.clap.specs.Words.{App, Rule, Text, first_value, found_of, new_app, new_rule, with_rule}
use Rattle.clap.specs.Simple.{on_top}
use Rattle.clap.specs.declared.parser.matches.ArgMatches.{ArgMatches}
use Rattle.desk_words.specs.Words.{is_path, joined_order}

-- an argument that is required
abbrev required : Text → Rule
required name = record (new_rule name) { required = true }

-- an option by a long name
abbrev long_option : Text → Rule
long_option name = record (new_rule name) { long = Some name }

-- a command that is passed no word for the program
abbrev bare : Text → App
bare name = on_top (λ s. record s { no_binary_name = true }) (new_app name)

-- two required positionals and one option, and no word for the program
abbrev pub run_app : App
run_app =
    with_rule (with_rule (with_rule (bare (codes "run")) (required (codes "market"))) (required (codes "script")))
    (long_option (codes "order"))

-- two words that may be paths, and before them an option or none
abbrev pub AreRun : List Text → Type 0
AreRun (market ∷ script ∷ []) = (is_path market ≡ true) × (is_path script ≡ true)
AreRun (option ∷ market ∷ script ∷ []) =
    (is_some (joined_order option) ≡ true) × (is_path market ≡ true) × (is_path script ≡ true)
AreRun words = ⊥

-- the market and the script are found where they stand, and the text of the option
abbrev pub Finds : ArgMatches → List Text → Type 0
Finds matches (market ∷ script ∷ []) =
    (first_value (found_of matches) (codes "market") ≡ Some market)
    × (first_value (found_of matches) (codes "script") ≡ Some script)
Finds matches (option ∷ market ∷ script ∷ []) =
    (first_value (found_of matches) (codes "market") ≡ Some market)
    × (first_value (found_of matches) (codes "script") ≡ Some script)
    × (first_value (found_of matches) (codes "order") ≡ joined_order option)
Finds matches words = ⊥
