use Rattle.std.proofs.Common.{◌≡◌, ℕ, false, List, [], ◌∷◌, ◌++◌, Option, None, ◌∙◌, ap}
use Rattle.desk_names.specs.Names.{has_text}
use Rattle.desk_names.proofs.NameLaws.{new_goes_last}
use Rattle.session_model.specs.Growing.{learn}
use Rattle.session_model.specs.Standing.{Standing}
use Rattle.session_core.proofs.Learning.{names_learnt}
use Rattle.session_core.proofs.session.Session.learn.Goals as goal

pub invariant_of-self-2 : goal.invariant_of-self-2
invariant_of-self-2 c =
    let p : Standing = record {
      state = c.self.inside.desk;
      names = c.self.inside.names;
      of_object = c.self.inside.of_object;
      actions = c.self.inside.actions;
      watching = c.self.inside.watching.items;
      stopped = c.self.inside.stopped;
    } in
    let lacks : has_text c.self.inside.names c.args.text.now ≡ false =
    ap (λ (q : Standing). has_text q.names c.args.text.now) c.self.view_is ∙ c.requires.new in
    names_learnt p c.self.inside.of_name.items c.push_reserved-2.new.self.items c.push_reserved.new.self.items
    c.self.inside.live c.args.text.now c.intern.new.self c.self.invariant
    (c.in_ok-name.ensures.kept ∙ new_goes_last c.self.inside.names c.args.text.now lacks)
    (c.push_reserved.ensures.items ∙ ap (λ (l : List (Option ℕ)). l ++ None ∷ []) c.room_for_name.ensures.watching)
    (c.push_reserved-2.ensures.items ∙ ap (λ (l : List (Option ℕ)). l ++ None ∷ []) c.room_for_name.ensures.of_name)

pub returns-clause-learnt : goal.returns-clause-learnt
returns-clause-learnt c =
    let p : Standing = record {
      state = c.self.inside.desk;
      names = c.self.inside.names;
      of_object = c.self.inside.of_object;
      actions = c.self.inside.actions;
      watching = c.self.inside.watching.items;
      stopped = c.self.inside.stopped;
    } in
    let lacks : has_text c.self.inside.names c.args.text.now ≡ false =
    ap (λ (q : Standing). has_text q.names c.args.text.now) c.self.view_is ∙ c.requires.new in
    let named = c.in_ok-name.ensures.kept ∙ new_goes_last c.self.inside.names c.args.text.now lacks in
    let acting = c.push_reserved.ensures.items ∙ ap (λ (l : List (Option ℕ)). l ++ None ∷ []) c.room_for_name.ensures.watching in
    let grown : (record p { names = c.intern.new.self; watching = c.push_reserved.new.self.items }) ≡ learn c.args.text.now p =
    (λ i. record p { names = named i; watching = acting i }) in
    grown ∙ ap (λ (q : Standing). learn c.args.text.now q) c.self.view_is
