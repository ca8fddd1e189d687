use Rattle.std.proofs.Common.{refl, sym}
use Rattle.tool_front.specs.Help.{help_text, list_text, unknown_text, version_text}
use Rattle.tool_front.proofs.running.run_doqs.Goals as goal

pub returns-in-List-clause-shown : goal.returns-in-List-clause-shown
returns-in-List-clause-shown g c =
    rw (sym c.in-List.ensures) (c.shown.ensures list_text c.list_text.ensures, refl, refl, refl, refl)

pub returns-in-Version-clause-shown : goal.returns-in-Version-clause-shown
returns-in-Version-clause-shown g c =
    rw (sym c.in-Version.ensures) (c.shown-in-Version.ensures version_text c.version_text.ensures, refl, refl, refl, refl)

pub returns-in-Help-clause-shown : goal.returns-in-Help-clause-shown
returns-in-Help-clause-shown g c =
    rw (sym c.in-Help.ensures) (c.shown-in-Help.ensures (help_text c.in-Help.command) c.help_text.ensures, refl, refl, refl, refl)

pub returns-in-Nothing-clause-refused : goal.returns-in-Nothing-clause-refused
returns-in-Nothing-clause-refused g c =
    rw (sym c.in-Nothing.ensures) (c.refused.ensures list_text c.list_text-in-Nothing.ensures, refl, refl, refl, refl)

pub returns-in-Unknown-clause-refused : goal.returns-in-Unknown-clause-refused
returns-in-Unknown-clause-refused g c =
    rw (sym c.in-Unknown.ensures) (c.refused-in-Unknown.ensures (unknown_text c.in-Unknown.word.now) c.unknown_text.ensures, refl, refl, refl, refl)
