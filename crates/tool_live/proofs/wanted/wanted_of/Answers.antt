use Rattle.std.proofs.Common.{sym, refl}
use Rattle.std.specs.Prelude.{map}
use Rattle.std.specs.String.{string_bytes}
use Rattle.desk_edge.specs.Shelf.{files_of}
use Rattle.tool_script.specs.declared.status.Status.TheVariants.{Usage}
use Rattle.tool_script.specs.Status.{stage_of}
use Rattle.tool_frame.proofs.Asking.{told_usage, told_calls}
use Rattle.tool_live.specs.Verdict.{live_in, wanted_of, wanted_calls, verdict_of, reading_calls}
use Rattle.tool_live.specs.Words.{request_of, request_in}
use Rattle.tool_live.proofs.Asked.{asked_found, asked_lost, halted_there}
use Rattle.tool_live.proofs.wanted.wanted_of.Goals as goal

pub returns-in_default-clause-tells : goal.returns-in_default-clause-tells
unfolding verdict_of
returns-in_default-clause-tells g c =
    told_usage stage_of live_in Usage wanted_of (files_of (g.H.Shelf.contents c.args.shelf.now))
    (request_of (map string_bytes c.args.words.now)) (sym c.in_default.ensures)

pub returns-in-Ok-clause-tells : goal.returns-in-Ok-clause-tells
unfolding verdict_of
returns-in-Ok-clause-tells g c =
    asked_found (files_of (g.H.Shelf.contents c.args.shelf.now)) (request_of (map string_bytes c.args.words.now))
    (request_in c.in-Some.request) (sym c.in-Some.ensures) c.in-Ok.run'
    (record { run = c.in-Ok.run'; order = c.in-Some.request.order; ready = c.in-Some.request.ready }) refl c.in-Ok.ensures.reads.tells

pub returns-in-Err-clause-tells : goal.returns-in-Err-clause-tells
unfolding verdict_of
returns-in-Err-clause-tells g c =
    asked_lost (files_of (g.H.Shelf.contents c.args.shelf.now)) (request_of (map string_bytes c.args.words.now))
    (request_in c.in-Some.request) (sym c.in-Some.ensures) c.in-Err.status c.in-Err.ensures.reads.tells

pub returns-in-Ok-clause-calls : goal.returns-in-Ok-clause-calls
unfolding reading_calls
returns-in-Ok-clause-calls g c =
    told_calls wanted_calls (files_of (g.H.Shelf.contents c.args.shelf.now)) (request_of (map string_bytes c.args.words.now))
    (request_in c.in-Some.request) _ _ (sym c.in-Some.ensures) c.in-Ok.ensures.reads.calls

pub returns-in-Err-clause-calls : goal.returns-in-Err-clause-calls
unfolding reading_calls
returns-in-Err-clause-calls g c =
    told_calls wanted_calls (files_of (g.H.Shelf.contents c.args.shelf.now)) (request_of (map string_bytes c.args.words.now))
    (request_in c.in-Some.request) _ _ (sym c.in-Some.ensures) c.in-Err.ensures.reads.calls

pub returns-in-Err-clause-there : goal.returns-in-Err-clause-there
returns-in-Err-clause-there g c =
    halted_there _ _ (files_of (g.H.Shelf.contents c.args.shelf.now)) (request_of (map string_bytes c.args.words.now))
    (request_in c.in-Some.request) c.in-Err.status (sym c.in-Some.ensures) c.in-Err.ensures.there
