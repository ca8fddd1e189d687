use Rattle.std.proofs.Common.{◌≡◌, drop}
use Rattle.toml.specs.View.{items_view}
use Rattle.market_tables.specs.Arrays.{each}
use Rattle.market_tables.proofs.FieldLists.{onto}
use Rattle.market_tables.proofs.arrays.each.Given as goal

-- what was made so far and what the elements that are left say is what all say
abbrev pub invariant-loop-item : goal.invariant-loop-item
invariant-loop-item g l = onto l.made (each (g.E.Element.made l.reader) (items_view (drop l.item-index l.items))) ≡ each (g.E.Element.made l.reader) (items_view l.items)
