use Rattle.std.proofs.Common.{rules, ◌≡◌, [], false, length, ℕ, List, Some, sym, ap, ◌∙◌, subst}
use Rattle.std.specs.Prelude.{slice_get}
use Rattle.std.proofs.lemmas.Option.{get_or_from_slice_get}
use Rattle.desk_names.specs.Names.{has_text}
use Rattle.session_model.specs.Grown.{learn_in}
use Rattle.live_session.proofs.Learnt.{next_of, next_at, next_new, interned_new}
use Rattle.live_session.proofs.learning.learn_next.Goals as goal

pub returns-in-Ok-clause-ok : goal.returns-in-Ok-clause-ok
returns-in-Ok-clause-ok g c =
    let s = c.args.session.now in
    let text = c.text.result.now in
    let n = next_of s.standing.names c.args.names.now c.requires.more c.requires.left in
    let here : slice_get c.args.names.now (length s.standing.names) ≡ Some text = search rules in
    let same = get_or_from_slice_get c.args.names.now (length s.standing.names) text [] here in
    let new = subst (λ (t : List ℕ). has_text s.standing.names t ≡ false) (sym (next_at s.standing.names c.args.names.now n) ∙ same)
    (next_new s.standing.names c.args.names.now n c.requires.names) in
    c.in-Ok.ensures.kept ∙ interned_new text s new ∙ ap (λ (t : List ℕ). learn_in t s) (sym same)
