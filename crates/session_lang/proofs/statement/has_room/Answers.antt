use Rattle.std.proofs.Common.{ℕ, List, map, Bor, sym, arith}
use Rattle.std.proofs.lemmas.Bool.{le-leb}
use Rattle.session_commands.specs.Table.{row_of}
use Rattle.session_lang.proofs.NewNames.{at_most_three}
use Rattle.session_lang.proofs.statement.has_room.Goals as goal

pub returns-then-len-le-MOST_NAMES-clause-room : goal.returns-then-len-le-MOST_NAMES-clause-room
returns-then-len-le-MOST_NAMES-clause-room c =
    let ws : List (List ℕ) = map (λ (w : Bor (List ℕ)). w.now) c.args.words.now in
    sym (le-leb _ _ (omega (arith, at_most_three (row_of c.args.verb) ws c.args.names.now)))
