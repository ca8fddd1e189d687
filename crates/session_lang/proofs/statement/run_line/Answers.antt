use Rattle.std.proofs.Common.{rules, ◌≡◌, ◌∙◌, ℕ, List, map, Bor, sym, length}
use Rattle.std.proofs.lemmas.Bool.{eq-eqb}
use Rattle.std.proofs.lemmas.List.{length-map}
use Rattle.session_commands.specs.Table.{row_of, words_in}
use Rattle.session_lang.proofs.FaultWords.{no_room_line}
use Rattle.session_lang.proofs.statement.run_line.Goals as goal

pub returns-in-Ok-2-clause-gives : goal.returns-in-Ok-2-clause-gives
returns-in-Ok-2-clause-gives c =
    let ws : List (List ℕ) = map (λ (w : Bor (List ℕ)). w.now) c.args.words.now in
    let counted : length c.args.words.now ≡ words_in (row_of c.in-Some.verb) = search rules in
    no_room_line c.args.names.now c.args.begun.now _ c.in-Some.verb ws c.in-Ok.plain c.has_room.ensures.names (sym c.of_word.ensures ∙ c.in-Some.is) (eq-eqb (length ws) (words_in (row_of c.in-Some.verb)) (length-map _ _ ∙ counted)) c.in-Ok.ensures (sym c.if-has_room.ensures.room)
