use Rattle.std.proofs.Common.{◌≡◌, ◌∙◌, ap, refl, List, ℕ, [], ◌∷◌}
use Rattle.std.specs.Prelude.{codes}
use Rattle.desk_names.specs.Name.{is_name, has_form, is_name_byte, is_reserved}
use Rattle.desk_names.specs.Names.{has_text, with_text}
use Rattle.market_objects.proofs.board.Board.start.Goals as goal

pub number_of-requires-clause-named : goal.number_of-requires-clause-named
unfolding is_name has_form is_name_byte is_reserved
number_of-requires-clause-named c = refl

pub returns : goal.returns
unfolding has_text with_text
returns c =
    let first : c.number_of.new.names ≡ codes "today" ∷ [] = c.in_ok-number_of.ensures.kept ∙ ap (λ (names : List (List ℕ)). with_text names (codes "today")) c.new-names.ensures in
    rw (first, c.in_ok-push.ensures.items, c.new-kinds.ensures.items, c.new-made.ensures.items) refl
