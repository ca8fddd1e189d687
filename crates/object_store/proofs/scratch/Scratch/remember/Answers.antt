use Rattle.std.proofs.Common.{sym, subst, Some, ◌<◌, length, ℕ, List, ◌++◌, ◌∷◌, []}
use Rattle.std.specs.Prelude.{slice_set}
use Rattle.object_store.specs.Scratch.{AreTouched, ScratchView}
use Rattle.object_store.proofs.Touched.{touched_entry}
use Rattle.object_store.proofs.scratch.Scratch.remember.Goals as goal

pub invariant_of-self-2 : goal.invariant_of-self-2
invariant_of-self-2 c =
    subst (λ (t : List ℕ). AreTouched (slice_set c.self.inside.entries.items c.place.result (Some c.args.entry)) t) (sym c.in_ok-push.ensures.items)
    (subst (λ (n : ℕ). AreTouched (slice_set c.self.inside.entries.items n (Some c.args.entry)) (c.self.inside.touched.items ++ c.args.object ∷ [])) (sym c.place.ensures)
    (touched_entry c.self.inside.entries.items c.self.inside.touched.items c.args.object c.args.entry c.self.invariant within))
  where
    within : c.args.object < length c.self.inside.entries.items
    within = subst (λ (v : ScratchView). c.args.object < length v.entries) (sym c.self.view_is) c.requires
