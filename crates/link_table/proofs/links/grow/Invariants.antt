use Rattle.std.proofs.Common.{◌≡◌, ◌+◌, ◌-◌, ℕ, vec_len}
use Rattle.link_table.specs.Links.{link_at}
use Rattle.link_table.proofs.links.grow.Given as goal

abbrev pub invariant-loop-holder : goal.invariant-loop-holder
invariant-loop-holder l = (h : ℕ) → link_at l.links.items h ≡ link_at l.initial.links.items h

abbrev pub decreases-loop-holder : goal.decreases-loop-holder
decreases-loop-holder l = l.holder + 1 - vec_len l.links
