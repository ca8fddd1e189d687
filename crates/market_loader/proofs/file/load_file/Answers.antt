use Rattle.std.proofs.Common.{Err, ap}
use Rattle.desk_edge.specs.declared.reading.ReadFault.{ReadFault}
use Rattle.market_loader.proofs.FileEnds.{file_failed}
use Rattle.market_loader.proofs.There.{some_left, file_there}
use Rattle.market_loader.proofs.file.load_file.Goals as goal

pub returns-in-Err-clause-reads : goal.returns-in-Err-clause-reads
returns-in-Err-clause-reads g c =
    let r = c.in-Err.ensures in
    rw c.file_fault.ensures (file_failed (λ text. text.items) c.args.path.now c.in-Err.fault
    (g.H.Shelf.contents c.args.shelf.now) (g.H.Shelf.contents c.read_whole.new.shelf) c.read_whole.new.out.items
    (g.H.Shelf.faults c.args.shelf.now) (g.H.Shelf.faults c.read_whole.new.shelf) (g.H.Shelf.misses c.args.shelf.now)
    (g.H.Shelf.misses c.read_whole.new.shelf) (g.H.Shelf.calls c.args.shelf.now) (g.H.Shelf.calls c.read_whole.new.shelf)
    r.files r.reads r.calls r.most r.absent (λ is. r.failed (ap (λ (f : ReadFault). Err f) is)) r.counted r.faults r.misses)

pub returns-in-Err-clause-there : goal.returns-in-Err-clause-there
returns-in-Err-clause-there g c =
    rw c.file_fault.ensures (file_there _ (g.H.Shelf.contents c.args.shelf.now) c.args.path.now c.in-Err.fault
    (λ is. let halted = c.in-Err.ensures.halts (ap (λ (f : ReadFault). Err f) is) in
    some_left (g.H.Shelf.contents c.args.shelf.now) c.args.path.now _ halted.0 halted.1 halted.4))
