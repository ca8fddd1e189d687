use Rattle.std.proofs.Common.{◌≡◌, ◌<◌, [], ◌∷◌, ◌++◌, length, map, ap, sym, ◌∙◌, subst, arith}
use Rattle.std.specs.List.{position_or_len}
use Rattle.std.specs.Str.{bytes_eq}
use Rattle.desk_names.specs.Names.{has_text, place_of, most_names, IsNames}
use Rattle.desk_names.proofs.NameLaws.{place_of-map, inserted-map, IsNames-new, new_goes_last}
use Rattle.desk_names.proofs.names.Names.intern.Goals as goal

-- the text was not among the names, and goes last
grown : (c : goal.In_ok-place) → map (λ text. text.items) c.insert_full.new.self.keys ≡ c.args.self.now ++ c.args.text.now ∷ []
grown c =
    let text = c.args.text.now in
    let same = c.in_ok-to_vec.ensures.items_if_clones_equal (λ _ _ e. e) in
    let absent = ap (λ names. has_text names text) c.self.view_is ∙ sym c.in_default.ensures.found in
    ap (map (λ text. text.items)) c.in_ok-place.ensures.keys
    ∙ inserted-map (λ text. text.items) c.self.inside.texts.keys text c.in_ok-to_vec.field-0 same absent
    ∙ ap (λ names. names ++ text ∷ []) c.self.view_is

pub invariant_of-self-2 : goal.invariant_of-self-2
invariant_of-self-2 c =
    let room : length c.args.self.now < most_names = omega (arith, c.len.ensures.names.room) in
    subst IsNames (sym (grown c)) (IsNames-new _ _ c.len.ensures.names (sym c.is_name.ensures ∙ c.if-not-is_name.false) (sym c.in_default.ensures.found) room)

pub returns-clause-place : goal.returns-clause-place
returns-clause-place c =
    let text = c.args.text.now in
    let same = c.in_ok-to_vec.ensures.items_if_clones_equal (λ _ _ e. e) in
    c.in_ok-place.ensures.index
    ∙ ap (λ t. position_or_len (λ y. bytes_eq t y.items) c.self.inside.texts.keys) same
    ∙ place_of-map _ _ text
    ∙ ap (λ names. place_of names text) c.self.view_is

pub returns-clause-kept : goal.returns-clause-kept
returns-clause-kept c = grown c ∙ sym (new_goes_last _ _ (sym c.in_default.ensures.found))

pub returns-clause-names : goal.returns-clause-names
returns-clause-names c = invariant_of-self-2 c
