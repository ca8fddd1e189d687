use Rattle.std.proofs.Common.{◌≡◌, ◌∙◌, ℕ, List, map, Bor, length, arith}
use Rattle.std.proofs.Math.ListN.{get_or-map}
use Rattle.std.proofs.lemmas.List.{length-map}
use Rattle.session_lang.proofs.KnownLines.{name_found, number_found, set_said}
use Rattle.session_lang.proofs.statement.known_set.Goals as goal

pub returns-in_ok-number_of_word-in-len2 : goal.returns-in_ok-number_of_word-in-len2
returns-in_ok-number_of_word-in-len2 c = λ begun.
    let names = c.args.names.now in
    let now : Bor (List ℕ) → List ℕ = λ w. w.now in
    let found = c.in_ok-find-in-len2.ensures in
    let counted : length c.args.words.now ≡ 2 = omega (arith, c.in-len2.len_at_least, c.in-len2.len_below) in
    set_said names begun (map now c.args.words.now) _ _ (length-map _ _ ∙ counted)
    (name_found names found.names _ _ _ (get_or-map now c.args.words.now 0 _) found.found found.place)
    (number_found names _ _ _ (get_or-map now c.args.words.now 1 _) c.in_ok-number_of_word-in-len2.ensures)
