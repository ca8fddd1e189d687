use Rattle.std.proofs.Common.{◌≡◌, ◌<◌, length, get_or, slice_get, ap, sym, subst, ◌∙◌, arith}
use Rattle.std.proofs.lemmas.List.{length-map}
use Rattle.desk_names.specs.Names.{IsNames}
use Rattle.desk_names.proofs.NameLaws.{slice_get-map_read, IsName-at}
use Rattle.desk_names.proofs.names.Names.text.Goals as goal

pub returns-clause-text : goal.returns-clause-text
returns-clause-text c =
    let keys = c.self.inside.texts.keys in
    let found = c.index-as_slice-place.result in
    let lt : c.args.name < length keys = omega (arith, c.requires, ap length c.self.view_is, length-map keys (λ text. text.items)) in
    let read : found ≡ get_or keys c.args.name found = cc in
    ap (λ names. slice_get names c.args.name) (sym c.self.view_is) ∙ slice_get-map_read (λ text. text.items) keys _ c.args.name found lt read (sym c.as_slice-2.ensures.value)

pub returns-clause-named : goal.returns-clause-named
returns-clause-named c = IsName-at _ _ (subst IsNames c.self.view_is c.self.invariant) _ (returns-clause-text c)
