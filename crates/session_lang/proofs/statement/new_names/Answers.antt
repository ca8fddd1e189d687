use Rattle.std.proofs.Common.{ℕ, List, Bool, map, Bor, not, ◌&&◌, ap, ◌∙◌}
use Rattle.std.specs.Str.{bytes_eq}
use Rattle.session_commands.specs.Table.{row_of}
use Rattle.session_lang.proofs.NewNames.{counted_here}
use Rattle.session_lang.proofs.statement.new_names.Goals as goal

pub returns-clause-count : goal.returns-clause-count
returns-clause-count c =
    let ws : List (List ℕ) = map (λ (w : Bor (List ℕ)). w.now) c.args.words.now in
    let one = c.word_at-one.result.now in
    let two = c.word_at-two.result.now in
    let three = c.word_at-three.result.now in
    let first = c.names_new-first.result in
    counted_here (row_of c.args.verb) ws c.args.names.now _ _ _ one two three first c.new_behind-second.result c.new_behind-third.result c.new_behind.result c.count_of.result
    c.row-kind1.ensures.kinds.0 c.row-kind1.ensures.kinds.1 c.row-kind1.ensures.kinds.2 c.word_at-one.ensures c.word_at-two.ensures c.word_at-three.ensures c.names_new-first.ensures
    (c.new_behind-second.ensures ∙ ap (λ (b : Bool). b && not (first && bytes_eq two one)) c.names_new.ensures)
    (c.new_behind-third.ensures ∙ ap (λ (b : Bool). b && not (first && bytes_eq three one)) c.names_new-2.ensures)
    c.new_behind.ensures c.count_of.ensures.count
