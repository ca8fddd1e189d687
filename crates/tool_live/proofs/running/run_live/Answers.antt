use Rattle.std.proofs.Common.{inr}
use Rattle.std.specs.Prelude.{map}
use Rattle.std.specs.String.{string_bytes}
use Rattle.desk_edge.specs.Shelf.{files_of}
use Rattle.tool_script.specs.declared.status.Status.TheVariants.{Usage}
use Rattle.tool_frame.proofs.Asking.{told_there}
use Rattle.tool_live.specs.Verdict.{live_in, wanted_of, verdict_of}
use Rattle.tool_live.specs.Words.{Request, request_of}
use Rattle.tool_live.proofs.Asked.{asked_there}
use Rattle.tool_live.proofs.running.run_live.Goals as goal

pub returns-in-Ok-converse-clause-carried : goal.returns-in-Ok-converse-clause-carried
returns-in-Ok-converse-clause-carried g c =
    inr (live_in c.in-Ok.wanted, c.in-Ok.ensures.tells, c.in-Ok.ensures.counted, c.in-Ok-converse.ensures.ends)

pub returns-in-Err-converse-clause-carried : goal.returns-in-Err-converse-clause-carried
returns-in-Err-converse-clause-carried g c =
    inr (live_in c.in-Ok.wanted, c.in-Ok.ensures.tells, c.in-Ok.ensures.counted, c.in-Err-converse.ensures.ends)

pub returns-in-Err-converse-clause-there : goal.returns-in-Err-converse-clause-there
unfolding verdict_of
returns-in-Err-converse-clause-there g c =
    told_there (λ (request : Request). request.market) Usage wanted_of asked_there _
    (files_of (g.H.Shelf.contents c.args.shelf.now)) (request_of (map string_bytes c.args.words.now)) (live_in c.in-Ok.wanted) c.in-Ok.ensures.tells
