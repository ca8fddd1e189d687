-- The words of the faults of a script (this project's profile).
use Rattle.std.specs.Prelude.{ℕ, List, codes}
use Rattle.session_commands.specs.declared.script_kind.ScriptKind.{ScriptKind}
use Rattle.session_commands.specs.declared.script_kind.ScriptKind.TheVariants.{TooLong, Byte, Word, Count, Nested, End, Name, Twice, Number, Date, Choice, Names, Unclosed, NoAction}

-- the word that a fault prints as
abbrev pub kind_text : ScriptKind → List ℕ
kind_text TooLong = codes "toolong"
kind_text Byte = codes "byte"
kind_text Word = codes "word"
kind_text Count = codes "count"
kind_text Nested = codes "nested"
kind_text End = codes "end"
kind_text Name = codes "name"
kind_text Twice = codes "twice"
kind_text Number = codes "number"
kind_text Date = codes "date"
kind_text Choice = codes "choice"
kind_text Names = codes "names"
kind_text Unclosed = codes "unclosed"
kind_text NoAction = codes "noaction"
