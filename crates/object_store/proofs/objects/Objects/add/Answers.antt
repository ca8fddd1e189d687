use Rattle.std.proofs.Common.{ℕ, ◌≡◌, List, ◌++◌, ◌∷◌, [], length, None, Option, sym, ◌∙◌, ap, subst, arith}
use Rattle.std.specs.Prelude.{ℤ}
use Rattle.quote_board.specs.Board.{entry, IsPut}
use Rattle.desk_terms.specs.declared.terms.Terms.{Terms}
use Rattle.desk_model.specs.declared.slot.Slot.{Slot}
use Rattle.desk_model.specs.declared.slot.Slot.TheVariants.{Live}
use Rattle.object_store.specs.Objects.{quoted, objects_of, IsBoarded}
use Rattle.object_store.proofs.Boarded.{length-objects, nothing_past, made_is, made_boarded}
use Rattle.object_store.proofs.objects.Objects.add.Goals as goal

pub overflow_cast-object : goal.overflow_cast-object
overflow_cast-object c = let e = length-objects c.self.inside.board c.self.inside.slots.items in let v = ap (λ (l : List Slot). length l) c.self.view_is in let r = c.len.ensures in let f = c.requires.fits in omega (arith, e, v, r, f)

pub invariant_of-object : goal.invariant_of-object
invariant_of-object c = let e = length-objects c.self.inside.board c.self.inside.slots.items in let v = ap (λ (l : List Slot). length l) c.self.view_is in let r = c.len.ensures in let f = c.requires.fits in omega (arith, e, v, r, f)

pub put_any-requires-clause-new : goal.put_any-requires-clause-new
put_any-requires-clause-new c = c.in_ok-make_room.ensures.same c.len.result ∙ (let r = c.len.ensures in let e : c.len.result ≡ length c.self.inside.slots.items = omega (arith, r) in subst (λ (n : ℕ). entry c.self.inside.board n ≡ None) (sym e) (nothing_past c.self.inside.board c.self.inside.slots.items c.self.invariant))

pub invariant_of-self : goal.invariant_of-self
invariant_of-self c = subst (IsBoarded c.self.inside.board) (sym c.in_err-reserve.ensures.items) c.self.invariant

pub invariant_of-self-2 : goal.invariant_of-self-2
invariant_of-self-2 c =
    let r = c.len.ensures in
    let e : c.len.result ≡ length c.self.inside.slots.items = omega (arith, r) in
    let items = c.push_reserved.ensures.items ∙ ap (λ (l : List Slot). l ++ Live c.bare.result ∷ []) c.in_ok-reserve.ensures.items ∙ ap (λ (t : Terms). c.self.inside.slots.items ++ Live t ∷ []) c.bare.ensures in
    let put = subst (λ (n : ℕ). IsPut n (quoted c.args.terms) c.make_room.new.board c.put_any.new.board) e (subst (λ (v : Option (Option ℤ)). IsPut c.len.result v c.make_room.new.board c.put_any.new.board) c.quoted-value.ensures c.put_any.ensures) in
    subst (IsBoarded c.put_any.new.board) (sym items)
    (made_boarded c.self.inside.board c.make_room.new.board c.put_any.new.board c.self.inside.slots.items c.args.terms c.self.invariant c.in_ok-make_room.ensures.same put)

pub returns-clause-made : goal.returns-clause-made
returns-clause-made c =
    let r = c.len.ensures in
    let e : c.len.result ≡ length c.self.inside.slots.items = omega (arith, r) in
    let items = c.push_reserved.ensures.items ∙ ap (λ (l : List Slot). l ++ Live c.bare.result ∷ []) c.in_ok-reserve.ensures.items ∙ ap (λ (t : Terms). c.self.inside.slots.items ++ Live t ∷ []) c.bare.ensures in
    let put = subst (λ (n : ℕ). IsPut n (quoted c.args.terms) c.make_room.new.board c.put_any.new.board) e (subst (λ (v : Option (Option ℤ)). IsPut c.len.result v c.make_room.new.board c.put_any.new.board) c.quoted-value.ensures c.put_any.ensures) in
    ap (objects_of c.put_any.new.board) items ∙ made_is c.self.inside.board c.make_room.new.board c.put_any.new.board c.self.inside.slots.items c.args.terms c.self.invariant c.in_ok-make_room.ensures.same put
    ∙ ap (λ (l : List Slot). l ++ Live c.args.terms ∷ []) c.self.view_is
