use Rattle.object_store.proofs.Touched.{touched_grown}
use Rattle.object_store.proofs.scratch.Scratch.grow.Goals as goal

pub invariant_of-self : goal.invariant_of-self
invariant_of-self c =
    let e = c.push_reserved.ensures.items in
    rw e (touched_grown c.self.inside.entries.items c.self.inside.touched.items c.self.invariant)
