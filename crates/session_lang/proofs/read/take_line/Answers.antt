use Rattle.std.proofs.Common.{ℕ, ◌+◌, List, Option, is_some, ◌∷◌, sym, subst, Err}
use Rattle.session_lang.specs.declared.fault.ScriptFault.{ScriptFault}
use Rattle.session_lang.specs.Given.{FailsAt}
use Rattle.session_lang.specs.Statement.{Known}
use Rattle.session_lang.specs.Reading.{lines_meaning, Leaves, names_left}
use Rattle.session_lang.specs.Gathered.{gathered_behind}
use Rattle.session_lang.proofs.Walk.{took_line, lost_line}
use Rattle.session_lang.proofs.LeftNames.{left_more, left_here}
use Rattle.session_lang.proofs.AddedNames.{adds_all, any_err}
use Rattle.session_lang.proofs.AddedLines.{line_adds, line_read}
use Rattle.session_lang.proofs.read.take_line.Goals as goal

pub returns-in_ok-add-in-Ok-clause-takes : goal.returns-in_ok-add-in-Ok-clause-takes
returns-in_ok-add-in-Ok-clause-takes c = took_line c.args.steps.now.items c.add.new.steps.items c.args.commands.now c.add.new.commands _ _ c.args.open_at c.in_ok-add-in-Ok.field-0 c.args.number c.in-Ok.statement c.args.line.now c.is_open.result c.is_open.ensures c.in-Ok.ensures.gives c.in_ok-add-in-Ok.ensures.later c.in_ok-add-in-Ok.ensures.outside c.in_ok-add-in-Ok.ensures.open_at

pub returns-in-Err-clause-takes : goal.returns-in-Err-clause-takes
returns-in-Err-clause-takes c = λ rest.
    let known : Known = record { names = c.args.names.now; begun = c.args.begun.now } in
    subst (λ (e : ScriptFault). FailsAt e (gathered_behind c.args.steps.now.items c.args.commands.now (is_some c.args.open_at) (lines_meaning known c.args.open_at c.args.number (c.args.line.now ∷ rest)))) (sym c.at_number.ensures)
    (lost_line c.args.steps.now.items c.args.commands.now known c.args.open_at c.args.number c.in-Err.fault c.args.line.now c.is_open.result c.is_open.ensures c.in-Err.ensures.gives rest)

pub returns-in_ok-add-in-Ok-clause-leaves : goal.returns-in_ok-add-in-Ok-clause-leaves
returns-in_ok-add-in-Ok-clause-leaves c = left_more _ _ c.args.open_at c.in_ok-add-in-Ok.field-0 c.args.number c.in-Ok.statement c.args.line.now c.is_open.result c.is_open.ensures c.in-Ok.ensures.gives c.in_ok-add-in-Ok.ensures.open_at

pub returns-in-Err-clause-leaves : goal.returns-in-Err-clause-leaves
returns-in-Err-clause-leaves c = λ rest.
    let known : Known = record { names = c.args.names.now; begun = c.args.begun.now } in
    let new : Known = record { names = c.read_words.new.names; begun = c.read_words.new.begun } in
    let next : Option ℕ → List (List ℕ) = λ o. names_left new o (c.args.number + 1) rest in
    subst (λ (e : ScriptFault). Leaves (Err e) new.names next (names_left known c.args.open_at c.args.number (c.args.line.now ∷ rest))) (sym c.at_number.ensures)
    (left_here known c.args.open_at c.args.number c.in-Err.fault c.args.line.now c.is_open.result new.names c.is_open.ensures c.in-Err.ensures.gives c.in-Err.ensures.kept next rest)

pub returns-in_ok-add-in-Ok-clause-read : goal.returns-in_ok-add-in-Ok-clause-read
returns-in_ok-add-in-Ok-clause-read c = λ sound begun.
    line_read (record { names = c.args.names.now; begun = c.args.begun.now })
    (record { names = c.read_words.new.names; begun = c.read_words.new.begun }) c.is_open.result c.args.line.now c.in-Ok.statement sound begun
    c.in-Ok.ensures.gives

pub returns-in_err-add-in-Ok-clause-added : goal.returns-in_err-add-in-Ok-clause-added
returns-in_err-add-in-Ok-clause-added c = λ sound begun.
    any_err _ (adds_all c.args.names.now _ _
    (line_adds (record { names = c.args.names.now; begun = c.args.begun.now })
    (record { names = c.read_words.new.names; begun = c.read_words.new.begun }) c.is_open.result c.args.line.now c.in-Ok.statement sound
    c.in-Ok.ensures.gives))
