use Rattle.std.proofs.Common.{◌≡◌, ◌∙◌, Some, None}
use Rattle.session_commands.proofs.RowMakes.{row_makes}
use Rattle.session_commands.proofs.parts.Parts.command.Goals as goal

pub unreachable-requires : goal.unreachable-requires
unreachable-requires c =
    let made = row_makes c.args.self.verb c.args.self.first c.args.self.second c.args.self.third c.requires.first c.requires.second c.requires.third in
    let none : c.made.result ≡ None = c.in-None.is in
    let some : c.made.result ≡ Some made.0 = c.made.ensures ∙ made.1 in
    cc
