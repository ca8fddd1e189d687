use Rattle.std.proofs.Common.{ap, refl, Err, ◌+◌, length}
use Rattle.std.proofs.lemmas.Result.{err_from_is_err_and}
use Rattle.desk_edge.specs.declared.reading.ReadFault.{ReadFault}
use Rattle.desk_edge.proofs.ShelfLemmas.{reads_fault, leaves_fault, same_fault, left_begun, took}
use Rattle.desk_edge.proofs.reading.read_whole.Goals as goal

pub returns-in_err-read_begun-clause-reads : goal.returns-in_err-read_begun-clause-reads
returns-in_err-read_begun-clause-reads g c =
    let from = c.from_residual-in_err-read_begun in
    let p = err_from_is_err_and from.result from.ensures.1 in
    let rest = c.in_err-read_begun.ensures in
    rw (p.1, p.2) (reads_fault c.in_err-read_begun.field-0.0 c.args.path.now _ _ _ _ c.in_ok-find.ensures.begun rest.front (λ is. rest.long (ap (λ (e : ReadFault). Err e) is)))

pub returns-in_err-read_begun-clause-taken : goal.returns-in_err-read_begun-clause-taken
returns-in_err-read_begun-clause-taken g c =
    let from = c.from_residual-in_err-read_begun in
    let p = err_from_is_err_and from.result from.ensures.1 in
    let rest = c.in_err-read_begun.ensures in
    rw (p.1, p.2) (leaves_fault c.in_err-read_begun.field-0.0 c.args.path.now _ _ _ c.in_ok-find.ensures.begun rest.files (λ is. rest.long (ap (λ (e : ReadFault). Err e) is)))

pub returns-in_err-read_begun-clause-halts : goal.returns-in_err-read_begun-clause-halts
returns-in_err-read_begun-clause-halts g c =
    let from = c.from_residual-in_err-read_begun in
    let p = err_from_is_err_and from.result from.ensures.1 in
    let rest = c.in_err-read_begun.ensures in
    rw (p.1, p.2) (λ is.
    let halts = rest.halts (ap (λ (f : ReadFault). Err f) (same_fault _ _ _ refl is)) in
    let all = length c.read_begun.new.out.items + halts.0 in
    let left = left_begun all c.args.path.now _ _ c.in_ok-find.ensures.begun halts.4 in
    (halts.0, halts.1, halts.2, halts.3, left, took all c.args.path.now _ _ _ c.in_ok-find.ensures.begun halts.5))
