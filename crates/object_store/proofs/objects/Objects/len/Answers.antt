use Rattle.std.proofs.Common.{List, length, ap, arith}
use Rattle.desk_model.specs.declared.slot.Slot.{Slot}
use Rattle.object_store.proofs.Boarded.{length-objects}
use Rattle.object_store.proofs.objects.Objects.len.Goals as goal

pub returns : goal.returns
returns c = let e = length-objects c.self.inside.board c.self.inside.slots.items in let v = ap (λ (l : List Slot). length l) c.self.view_is in let r = c.len.ensures in omega (arith, e, v, r)
