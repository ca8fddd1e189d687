use Rattle.std.proofs.Common.{◌≡◌, ◌+◌, length}
use Rattle.why_model.specs.Listing.{rests_on}
use Rattle.session_why.proofs.Walked.{open_cost}
use Rattle.session_why.proofs.Waiting.{Walks}
use Rattle.session_why.proofs.listing.list_beneath.Given as goal

-- what is listed, and behind it what waits as it is put there, is the listing
abbrev pub invariant-loop-next : goal.invariant-loop-next
invariant-loop-next l = record {
  same : l.desk ≡ l.initial.desk;
  walks : Walks l.initial.desk l.fn.object l.list.keys l.waiting.items;
}

abbrev pub decreases-loop-next : goal.decreases-loop-next
decreases-loop-next l =
    open_cost (rests_on l.initial.desk) l.list.keys (length l.initial.desk.market.objects) + length l.waiting.items
