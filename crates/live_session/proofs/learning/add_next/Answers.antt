use Rattle.std.proofs.Common.{rules, ◌≡◌, [], ◌∷◌, ◌++◌, false, length, ℕ, List, Some, get_or, sym, ap, ◌∙◌, subst, arith}
use Rattle.std.specs.Prelude.{slice_get}
use Rattle.std.proofs.lemmas.Option.{get_or_from_slice_get}
use Rattle.std.proofs.lemmas.Result.{on_ok_weaker}
use Rattle.desk_names.specs.Names.{has_text}
use Rattle.live_session.proofs.Learnt.{Next, next_of, next_at, next_new, one_behind}
use Rattle.live_session.proofs.learning.add_next.Goals.{After-text}
use Rattle.live_session.proofs.learning.add_next.Goals as goal

-- the one name more
next : (c : After-text) → Next c.args.names.now c.args.more.now
next c = let one = c.requires.one in next_of c.args.names.now c.args.more.now c.requires.more (omega (arith, one))

same : (c : After-text) → get_or c.args.more.now (length c.args.names.now) [] ≡ c.text.result.now
same c =
    let here : slice_get c.args.more.now (length c.args.names.now) ≡ Some c.text.result.now = search rules in
    get_or_from_slice_get c.args.more.now (length c.args.names.now) c.text.result.now [] here

pub add_new-requires-clause-new : goal.add_new-requires-clause-new
add_new-requires-clause-new c =
    let t = (goal.at.add_new-requires-clause-new c).After-text in
    subst (λ (t : List ℕ). has_text c.args.names.now t ≡ false) (sym (next_at c.args.names.now c.args.more.now (next t)) ∙ same t)
    (next_new c.args.names.now c.args.more.now (next t) c.len.ensures.names)

pub add_new-requires-clause-room : goal.add_new-requires-clause-room
add_new-requires-clause-room c = let one = c.requires.one in let room = c.len.ensures.names.room in omega (arith, one, room)

pub returns-clause-ok : goal.returns-clause-ok
returns-clause-ok c =
    let t = (goal.at.returns-clause-ok c).After-text in
    on_ok_weaker c.add_new.result
    (λ grown. grown ∙ ap (λ (t : List ℕ). c.args.names.now ++ t ∷ []) (sym (same t) ∙ next_at c.args.names.now c.args.more.now (next t))
    ∙ one_behind c.args.names.now c.args.more.now (next t) c.requires.one) c.add_new.ensures.ok
