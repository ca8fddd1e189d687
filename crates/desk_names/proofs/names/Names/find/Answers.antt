use Rattle.std.proofs.Common.{ap, is_some, subst, sym, ◌∙◌}
use Rattle.std.specs.Str.{bytes_eq}
use Rattle.desk_names.specs.Names.{has_text, place_of, IsNames}
use Rattle.desk_names.proofs.NameLaws.{has_text-map, place_of-map, position-Some_first, IsName-known}
use Rattle.desk_names.proofs.names.Names.find.Goals as goal

pub returns-in_err-place-clause-found : goal.returns-in_err-place-clause-found
returns-in_err-place-clause-found c =
    ap is_some c.from_residual.ensures ∙ c.in_err-place.ensures.found ∙ has_text-map _ _ c.args.text.now ∙ ap (λ names. has_text names c.args.text.now) c.self.view_is

pub returns-clause-found : goal.returns-clause-found
returns-clause-found c = c.in_ok-place.ensures.found ∙ has_text-map _ _ c.args.text.now ∙ ap (λ names. has_text names c.args.text.now) c.self.view_is

pub returns-clause-place : goal.returns-clause-place
returns-clause-place c =
    let text = c.args.text.now in
    sym (position-Some_first (λ v. bytes_eq text v.items) c.self.inside.texts.keys c.in_ok-place.place (sym c.in_ok-place.ensures.index)) ∙ place_of-map _ _ text ∙ ap (λ names. place_of names text) c.self.view_is

pub returns-clause-named : goal.returns-clause-named
returns-clause-named c = λ _. IsName-known _ _ (subst IsNames c.self.view_is c.self.invariant) (sym (returns-clause-found c))
