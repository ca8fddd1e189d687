use Rattle.std.proofs.Common.{◌≡◌, ◌∷◌, [], ◌++◌, List, ℕ, length, refl, ◌∙◌, ap, arith}
use Rattle.std.specs.Prelude.{reverse}
use Rattle.desk_model.specs.State.{State}
use Rattle.desk_model.specs.Links.{IsLinked}
use Rattle.why_model.specs.Listing.{rests_on}
use Rattle.session_why.proofs.Waiting.{walks_begin, walks_end, none_left, known_listed, new_listed, turn_known}
use Rattle.session_why.proofs.Waiting.{turn_new, known_less, new_less}
use Rattle.session_why.proofs.listing.list_beneath.Goals as goal

pub loop-next-init : goal.loop-next-init
loop-next-init c = record {
  same = refl;
  walks = walks_begin c.args.desk.now
      c.shape.ensures.whole.links
      c.args.object _ _ c.requires.empty
      (c.in_ok-push.ensures.items ∙ ap (λ (l : List ℕ). l ++ c.args.object ∷ []) c.new-waiting.ensures.items)
      c.requires.within;
}

pub loop-next-smaller-in-Continue-branch-3 : goal.loop-next-smaller-in-Continue-branch-3
loop-next-smaller-in-Continue-branch-3 c =
    let s : State = c.args.desk.now in
    let links : IsLinked s.market = c.shape.ensures.whole.links in
    let rest = c.pop.new.self.items in
    new_less s links c.args.object c.loop-next.list.keys c.loop-next.waiting.items rest c.in-Some.next
    c.in-Some.ensures.items
    c.loop-next.invariant.walks c.insert_full.new.self.keys c.push_rest.new.waiting.items
    (new_listed c.loop-next.list.keys c.insert_full.new.self.keys c.in-Some.next c.in_ok-is_new.is_new
    (rw c.next.view_is at c.in_ok-is_new.ensures.added)
    (rw c.next.view_is at c.in_ok-is_new.ensures.keys) c.if-is_new.true)
    (c.in_ok-push_rest.ensures.waiting
    ∙ ap (λ (z : State). rest ++ reverse (rests_on z c.in-Some.next)) c.loop-next.invariant.same)

pub loop-next-preserved-in-Continue-branch-3 : goal.loop-next-preserved-in-Continue-branch-3
loop-next-preserved-in-Continue-branch-3 c =
    let s : State = c.args.desk.now in
    let links : IsLinked s.market = c.shape.ensures.whole.links in
    let rest = c.pop.new.self.items in
    record {
      same = c.push_rest.ensures.same ∙ c.loop-next.invariant.same;
      walks =
          turn_new s links c.args.object c.loop-next.list.keys c.loop-next.waiting.items rest c.in-Some.next
          c.in-Some.ensures.items
          c.loop-next.invariant.walks c.insert_full.new.self.keys c.push_rest.new.waiting.items
          (new_listed c.loop-next.list.keys c.insert_full.new.self.keys c.in-Some.next c.in_ok-is_new.is_new
          (rw c.next.view_is at c.in_ok-is_new.ensures.added)
          (rw c.next.view_is at c.in_ok-is_new.ensures.keys) c.if-is_new.true)
          (c.in_ok-push_rest.ensures.waiting
          ∙ ap (λ (z : State). rest ++ reverse (rests_on z c.in-Some.next)) c.loop-next.invariant.same);
    }

pub loop-next-smaller : goal.loop-next-smaller
loop-next-smaller c =
    let s : State = c.args.desk.now in
    let links : IsLinked s.market = c.shape.ensures.whole.links in
    known_less s links c.args.object c.loop-next.list.keys c.loop-next.waiting.items c.pop.new.self.items c.in-Some.next
    c.in-Some.ensures.items c.loop-next.invariant.walks c.insert_full.new.self.keys
    (known_listed c.loop-next.list.keys c.insert_full.new.self.keys c.in-Some.next c.in_ok-is_new.is_new
    (rw c.next.view_is at c.in_ok-is_new.ensures.added)
    (rw c.next.view_is at c.in_ok-is_new.ensures.keys) c.if-is_new.false)

pub loop-next-preserved : goal.loop-next-preserved
loop-next-preserved c =
    let s : State = c.args.desk.now in
    let links : IsLinked s.market = c.shape.ensures.whole.links in
    record {
      same = c.loop-next.invariant.same;
      walks =
          turn_known s links c.args.object c.loop-next.list.keys c.loop-next.waiting.items c.pop.new.self.items
          c.in-Some.next
          c.in-Some.ensures.items c.loop-next.invariant.walks c.insert_full.new.self.keys
          (known_listed c.loop-next.list.keys c.insert_full.new.self.keys c.in-Some.next c.in_ok-is_new.is_new
          (rw c.next.view_is at c.in_ok-is_new.ensures.added)
          (rw c.next.view_is at c.in_ok-is_new.ensures.keys) c.if-is_new.false);
    }

pub returns-clause-list : goal.returns-clause-list
returns-clause-list c =
    let none : length c.loop-next.waiting.items ≡ 0 =
    omega (arith, c.loop-next.waiting.ok.0, c.in_default.ensures.cases.0) in
    walks_end c.args.desk.now c.args.object c.loop-next.list.keys c.loop-next.waiting.items
    (none_left c.loop-next.waiting.items none) c.loop-next.invariant.walks
