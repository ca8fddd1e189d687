use Rattle.std.proofs.Common.{◌≡◌, ◌<◌, ◌++◌, ℕ, length, Option, [], ◌∷◌, List, sym, ◌∙◌, ap, subst, arith, rules}
use Rattle.std.proofs.lemmas.List.{length-replicate}
use Rattle.std.specs.Prelude.{codes}
use Rattle.desk_names.specs.Names.{place_of}
use Rattle.desk_names.proofs.NameLaws.{place_of-lt}
use Rattle.session_core.proofs.Naming.{names_start}
use Rattle.session_core.proofs.session.Session.new.Goals as goal

pub index_mut-requires : goal.index_mut-requires
index_mut-requires c =
    let known : place_of c.args.names (codes "today") < length c.args.names =
    place_of-lt c.args.names (codes "today") c.requires in
    let within : c.in-Some.name < length c.args.names =
    subst (λ (n : ℕ). n < length c.args.names) (sym c.in-Some.ensures.place) known in
    let empty : length c.in_ok-of_name.of_name.items ≡ c.len.result =
    ap (λ (t : List (Option ℕ)). length t) c.in_ok-of_name.ensures ∙ length-replicate c.len.result _ in
    let below : c.place.result < length c.in_ok-of_name.of_name.items =
    omega (arith, within, empty, c.place.ensures, c.len.ensures.len) in
    search (rules, below)

pub invariant_of-result : goal.invariant_of-result
invariant_of-result c =
    let known : place_of c.args.names (codes "today") < length c.args.names =
    place_of-lt c.args.names (codes "today") c.requires in
    let within : c.in-Some.name < length c.args.names =
    subst (λ (n : ℕ). n < length c.args.names) (sym c.in-Some.ensures.place) known in
    names_start _ c.in_ok-of_name.of_name.items c.place.result c.len.result c.args.today c.in_ok-new.ensures.start
    (c.in_ok-push.ensures.ok ∙ ap (λ (l : List ℕ). l ++ c.in-Some.name ∷ []) c.new-of_object.ensures
    ∙ ap (λ (n : ℕ). n ∷ []) (sym c.place.ensures))
    c.in_ok-of_name.ensures (omega (arith, within, c.place.ensures, c.len.ensures.len)) c.len.ensures.len
    (ap (λ (t : List (Option ℕ)). length t) c.in_ok-watching.ensures ∙ length-replicate c.len-2.result _ ∙ c.len-2.ensures.len)
