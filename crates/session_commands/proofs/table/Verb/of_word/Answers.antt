use Rattle.std.proofs.Common.{refl, sym, ◌∙◌}
use Rattle.std.proofs.lemmas.Slice.Eq.{bytes_eq-Decides}
use Rattle.session_commands.specs.Table.{row_of, verb_of}
use Rattle.session_commands.proofs.table.Verb.of_word.Goals as goal

pub returns-then-eq : goal.returns-then-eq
unfolding verb_of row_of
returns-then-eq c =
    let same = (bytes_eq-Decides c.args.word.now c.row.result.0.now).0 (sym c.eq.ensures ∙ c.if-eq.true) in
    rw (same, c.row.ensures.word) refl

pub returns-then-eq-2 : goal.returns-then-eq-2
unfolding verb_of row_of
returns-then-eq-2 c =
    let same = (bytes_eq-Decides c.args.word.now c.row-2.result.0.now).0 (sym c.eq-2.ensures ∙ c.if-eq-2.true) in
    rw (same, c.row-2.ensures.word) refl
