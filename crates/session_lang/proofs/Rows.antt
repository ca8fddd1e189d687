-- The definition at small scripts whose reading is known from outside the program.
use Rattle.std.proofs.Common.{◌≡◌, ◌++◌, pos, neg_ℤ, Ok, Err, [], ◌∷◌, codes, refl}
use Rattle.std.specs.Fmt.{digits}
use Rattle.fixed_amount.specs.Decimal.{decimal_value, decimal_text}
use Rattle.desk_names.specs.Name.{is_name, has_form, is_name_byte, is_reserved}
use Rattle.desk_names.specs.Names.{has_text, with_text, place_of}
use Rattle.session_commands.specs.declared.script_kind.ScriptKind.TheVariants as fault
use Rattle.session_commands.specs.declared.command.Command.TheVariants.{Set, Watch, Ask, Member}
use Rattle.script_words.specs.Line.{words_of}
use Rattle.session_commands.specs.Table.{row_of, verb_of}
use Rattle.script_words.specs.Word.{fault_of, numbered, plain_field, field_of}
use Rattle.session_commands.specs.Parts.{command_of, parts_of}
use Rattle.session_lang.specs.Statement.{fields_meaning, command_meaning, begin_meaning, words_meaning, line_meaning}
use Rattle.session_lang.specs.Reading.{lines_meaning, block_of, actions_of, action_names_of, commands_of, script_meaning}
use Rattle.script_words.specs.WordText.{word_text}
use Rattle.session_lang.specs.Printing.{command_text}

-- one command, among blanks and before a comment
reads_a_set : script_meaning [] (codes "  set q  1.50  # x") ≡ Ok (record { actions = []; commands = Set 0 (pos 1_500_000_000) ∷ []; action_names = [] }, codes "q" ∷ [])
unfolding script_meaning lines_meaning line_meaning words_meaning words_of command_meaning fields_meaning field_of plain_field numbered fault_of verb_of row_of command_of parts_of decimal_value has_text with_text place_of is_name has_form is_name_byte is_reserved block_of actions_of action_names_of commands_of
reads_a_set = refl

-- an action named before its block
reads_a_watch : script_meaning [] (codes "watch w b" ++ 10 ∷ codes "action b" ++ 10 ∷ codes "ask w" ++ 10 ∷ codes "end") ≡ Ok (record { actions = (Ask 0 ∷ []) ∷ []; commands = Watch 0 0 ∷ []; action_names = 1 ∷ [] }, codes "w" ∷ codes "b" ∷ [])
unfolding script_meaning lines_meaning line_meaning words_meaning words_of begin_meaning command_meaning fields_meaning field_of plain_field numbered fault_of verb_of row_of command_of parts_of has_text with_text place_of is_name has_form is_name_byte is_reserved block_of actions_of action_names_of commands_of
reads_a_watch = refl

-- the first faulty line, a return that ends no line, an open block, an action that no block defines
tells_faults : (script_meaning [] (codes "ask q" ++ 13 ∷ 10 ∷ codes "sell q" ++ 10 ∷ codes "ask") ≡ Err (2, fault.Word))
    × (script_meaning [] (codes "ask q" ++ 13 ∷ []) ≡ Err (1, fault.Byte))
    × (script_meaning [] (codes "ask q" ++ 10 ∷ codes "action a" ++ 10 ∷ codes "ask q") ≡ Err (2, fault.Unclosed))
    × (script_meaning [] (codes "ask q" ++ 10 ∷ codes "watch w a") ≡ Err (2, fault.NoAction))
unfolding script_meaning lines_meaning line_meaning words_meaning words_of begin_meaning command_meaning fields_meaning field_of plain_field numbered fault_of verb_of row_of command_of parts_of has_text with_text place_of is_name has_form is_name_byte is_reserved block_of actions_of action_names_of commands_of
tells_faults = (refl, refl, refl, refl)

-- a weight keeps its sign
prints_a_weight : command_text (codes "k" ∷ codes "i" ∷ []) [] (Member 0 1 (neg_ℤ (pos 7))) ≡ codes "member k i -7" ++ 10 ∷ []
unfolding command_text word_text row_of parts_of decimal_text digits
prints_a_weight = refl
