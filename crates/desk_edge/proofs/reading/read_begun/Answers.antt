use Rattle.std.proofs.Common.{ap, refl, Err, ◌+◌, length, arith}
use Rattle.std.proofs.lemmas.Result.{err_from_is_err_and}
use Rattle.desk_edge.specs.Shelf.{most_bytes}
use Rattle.desk_edge.specs.declared.reading.ReadFault.{ReadFault}
use Rattle.desk_edge.proofs.ShelfLemmas.{too_long, same_fault, passed_back, left_back}
use Rattle.desk_edge.proofs.reading.read_begun.Goals as goal

pub returns-in_err-take_more-clause-long : goal.returns-in_err-take_more-clause-long
returns-in_err-take_more-clause-long g c =
    let p = err_from_is_err_and c.from_residual.result c.from_residual.ensures.1 in
    let before = c.loop.invariant in
    rw (p.1, p.2) (λ is. too_long most_bytes c.loop.out.items _ _ _ before.most before.kept (c.in_err-take_more.ensures.long (ap (λ (f : ReadFault). Err f) (same_fault _ _ _ refl is))))

pub returns-in_err-take_more-clause-few : goal.returns-in_err-take_more-clause-few
returns-in_err-take_more-clause-few g c =
    let before = c.loop.invariant in
    let few = c.in_err-take_more.ensures.few in
    (length c.loop.out.items + few.0, omega (arith, few.2), passed_back c.loop.out.items few.0 _ _ _ before.kept few.3)

pub returns-in_err-take_more-clause-halts : goal.returns-in_err-take_more-clause-halts
returns-in_err-take_more-clause-halts g c =
    let p = err_from_is_err_and c.from_residual.result c.from_residual.ensures.1 in
    let before = c.loop.invariant in
    rw (p.1, p.2) (λ is.
    let halts = c.in_err-take_more.ensures.halts (ap (λ (f : ReadFault). Err f) (same_fault _ _ _ refl is)) in
    let left = left_back c.loop.out.items halts.0 _ _ before.kept halts.4 in
    let moved = passed_back c.loop.out.items halts.0 _ _ _ before.kept halts.5 in
    rw c.in_err-take_more.ensures.same (halts.0, halts.1, omega (arith, halts.2, before.piece), halts.3, left, moved))
