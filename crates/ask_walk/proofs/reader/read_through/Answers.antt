use Rattle.std.proofs.Common.{ℕ, List, [], ◌∷◌, ◌++◌, length, Option, ◌+◌, sym, ◌∙◌, ap, subst, arith}
use Rattle.std.proofs.lemmas.List.{length-append}
use Rattle.desk_model.specs.declared.entry.Entry.{Entry}
use Rattle.desk_model.specs.Market.{Market}
use Rattle.ask_walk.proofs.Stacks.{measure_push, measure_value}
use Rattle.ask_walk.proofs.Remembered.{Works, unread_of, works_begin, works_push, works_known, works_less, works_bound, top_within}
use Rattle.object_store.specs.Market.{market_in}
use Rattle.ask_walk.proofs.reader.read_through.Goals as goal

pub loop-top-init : goal.loop-top-init
loop-top-init c =
    let m : Market = market_in c.args.market.now in
    subst (λ (st : List ℕ). Works m c.args.object st c.args.scratch.now.entries) (sym (c.in_ok-push.ensures.items ∙ ap (λ (l : List ℕ). l ++ c.args.object ∷ []) c.new-stack.ensures.items))
    (works_begin m c.args.object c.args.scratch.now.entries c.requires.linked c.requires.remembers c.requires.within c.requires.unread)

pub loop-top-smaller-in-Continue-branch-3 : goal.loop-top-smaller-in-Continue-branch-3
loop-top-smaller-in-Continue-branch-3 c =
    let m : Market = market_in c.args.market.now in
    let stack = c.pop.new.self.items in
    let w = subst (λ (st : List ℕ). Works m c.args.object st c.loop-top.scratch.entries) c.in-Some.ensures.items c.loop-top.invariant in
    measure_push (unread_of c.loop-top.scratch.entries) (length c.args.market.now.objects) (length c.loop-top.stack.items) (length c.push-in-First-2.new.self.items)
    (let e = ap length (c.in_ok-push-in-First-2.ensures.items ∙ ap (λ (l : List ℕ). l ++ c.in-First.needed ∷ []) c.in_ok-push-in-First.ensures.items) in
    let x = length-append (stack ++ c.in-Some.top ∷ []) (c.in-First.needed ∷ []) in let y = ap length c.in-Some.ensures.items in omega arith)
    (let b = works_bound m c.args.object stack c.in-Some.top c.loop-top.scratch.entries w in let y = ap length c.in-Some.ensures.items in let x = length-append stack (c.in-Some.top ∷ []) in omega arith)

pub loop-top-preserved-in-Continue-branch-3 : goal.loop-top-preserved-in-Continue-branch-3
loop-top-preserved-in-Continue-branch-3 c =
    let m : Market = market_in c.args.market.now in
    let stack = c.pop.new.self.items in
    let w = subst (λ (st : List ℕ). Works m c.args.object st c.loop-top.scratch.entries) c.in-Some.ensures.items c.loop-top.invariant in
    subst (λ (st : List ℕ). Works m c.args.object st c.loop-top.scratch.entries) (sym (c.in_ok-push-in-First-2.ensures.items ∙ ap (λ (l : List ℕ). l ++ c.in-First.needed ∷ []) c.in_ok-push-in-First.ensures.items))
    (works_push m c.args.object stack c.in-Some.top c.loop-top.scratch.entries w c.in-First.needed (sym c.look_at.ensures ∙ c.in-First.is))

pub remember-requires : goal.remember-requires
remember-requires c =
    let m : Market = market_in c.args.market.now in
    let stack = c.pop.new.self.items in
    let w = subst (λ (st : List ℕ). Works m c.args.object st c.loop-top.scratch.entries) c.in-Some.ensures.items c.loop-top.invariant in
    let low = top_within m c.args.object stack c.in-Some.top c.loop-top.scratch.entries w in
    omega (arith, low, w.remembers.same)

pub loop-top-smaller : goal.loop-top-smaller
loop-top-smaller c =
    let m : Market = market_in c.args.market.now in
    let stack = c.pop.new.self.items in
    let w = subst (λ (st : List ℕ). Works m c.args.object st c.loop-top.scratch.entries) c.in-Some.ensures.items c.loop-top.invariant in
    measure_value (unread_of c.loop-top.scratch.entries) (unread_of c.remember.new.self.entries) (length c.args.market.now.objects) (length c.loop-top.stack.items) (length stack)
    (ap (λ (l : List (Option Entry)). unread_of l + 1) c.in_ok-remember-in-Is.ensures.entries ∙ works_less m c.args.object stack c.in-Some.top c.loop-top.scratch.entries w c.in-Is.entry)

pub loop-top-preserved : goal.loop-top-preserved
loop-top-preserved c =
    let m : Market = market_in c.args.market.now in
    let stack = c.pop.new.self.items in
    let w = subst (λ (st : List ℕ). Works m c.args.object st c.loop-top.scratch.entries) c.in-Some.ensures.items c.loop-top.invariant in
    subst (λ (l : List (Option Entry)). Works m c.args.object stack l) (sym c.in_ok-remember-in-Is.ensures.entries)
    (works_known m c.args.object stack c.in-Some.top c.loop-top.scratch.entries w c.in-Is.entry (sym c.look_at.ensures ∙ c.in-Is.is))
