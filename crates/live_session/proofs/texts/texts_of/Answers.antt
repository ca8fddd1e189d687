use Rattle.std.proofs.Common.{rules, ◌≡◌, ◌≤◌, [], ◌∷◌, ◌++◌, false, length, ℕ, List, map, sym, ap, ◌∙◌, subst, arith}
use Rattle.std.proofs.lemmas.Option.{get_or_from_slice_get}
use Rattle.desk_names.specs.Names.{has_text}
use Rattle.session_commands.specs.Whole.{name_text}
use Rattle.live_session.proofs.Learnt.{Next, next_new, within}
use Rattle.live_session.proofs.Told.{told_all, told_next, told_more}
use Rattle.live_session.proofs.texts.texts_of.Goals.{After-text}
use Rattle.live_session.proofs.texts.texts_of.Goals as goal

pub loop-number-init : goal.loop-number-init
loop-number-init c = ap (λ (l : List (List ℕ)). l ++ map (name_text c.args.names.now) c.args.numbers.now) c.new-texts.ensures

-- the text of the number at hand
here : (c : After-text) → name_text c.args.names.now c.number-item.result ≡ c.text.result.now
here c = get_or_from_slice_get c.args.names.now c.number-item.result c.text.result.now [] c.text.ensures.text

abbrev next : (c : After-text) → Next c.loop-number.texts (map (name_text c.args.names.now) c.args.numbers.now)
next c = told_next (name_text c.args.names.now) c.args.numbers.now c.loop-number.texts c.loop-number.number-index c.loop-number.invariant
    c.number-item.result c.number-item.is c.loop-number-test.true

pub add_new-requires-clause-new : goal.add_new-requires-clause-new
add_new-requires-clause-new c =
    let t = (goal.at.add_new-requires-clause-new c).After-text in
    subst (λ (t : List ℕ). has_text c.loop-number.texts t ≡ false) (here t)
    (next_new c.loop-number.texts (map (name_text c.args.names.now) c.args.numbers.now) (next t) c.requires.named)

pub add_new-requires-clause-room : goal.add_new-requires-clause-room
add_new-requires-clause-room c =
    let t = (goal.at.add_new-requires-clause-room c).After-text in
    let less = within c.loop-number.texts (map (name_text c.args.names.now) c.args.numbers.now) (next t) in
    let room = c.requires.named.room in omega (arith, less, room)

pub loop-number-preserved : goal.loop-number-preserved
loop-number-preserved c =
    let t = (goal.at.loop-number-preserved c).After-text in
    told_more (name_text c.args.names.now) c.args.numbers.now c.loop-number.texts c.loop-number.number-index c.loop-number.invariant
    c.number-item.result c.number-item.is c.loop-number-test.true c.add_new.new.names
    (c.in_ok-add_new.ensures.ok ∙ ap (λ (t : List ℕ). c.loop-number.texts ++ t ∷ []) (sym (here t)))

pub returns : goal.returns
returns c =
    let most : length c.args.numbers.now ≤ c.loop-number.number-index = search rules in
    told_all (name_text c.args.names.now) c.args.numbers.now c.loop-number.texts c.loop-number.number-index c.loop-number.invariant most
