use Rattle.std.specs.Prelude.{map}
use Rattle.std.specs.String.{string_bytes}
use Rattle.desk_edge.specs.Shelf.{files_of}
use Rattle.desk_words.specs.Answers.{request_in}
use Rattle.tool_script.proofs.Told.{asked_some, asked_none, asked_check, told_plan, told_refused, told_reading, told_idle}
use Rattle.tool_script.proofs.planning.plan_of.Goals as goal

pub returns-in-Ok-clause-plans : goal.returns-in-Ok-clause-plans
returns-in-Ok-clause-plans g c =
    told_plan (files_of (g.H.Shelf.contents c.args.shelf.now)) (map string_bytes c.args.words.now)
    (request_in c.in-Ok.request) c.plan_for.result (asked_some c.in-Ok.request _ c.in-Ok.ensures.answers) c.plan_for.ensures.reads.tells

pub returns-in-Err-Usage-clause-plans : goal.returns-in-Err-Usage-clause-plans
returns-in-Err-Usage-clause-plans g c =
    told_refused (files_of (g.H.Shelf.contents c.args.shelf.now)) (map string_bytes c.args.words.now)
    (asked_none _ (rw c.in-Err-Usage.field-0-is at c.in-Err-Usage.ensures.answers))

pub returns-in-Ok-clause-checked : goal.returns-in-Ok-clause-checked
returns-in-Ok-clause-checked g c =
    λ check. c.plan_for.ensures.checked (asked_check _ _ (asked_some c.in-Ok.request _ c.in-Ok.ensures.answers) check)

pub returns-in-Ok-clause-calls : goal.returns-in-Ok-clause-calls
returns-in-Ok-clause-calls g c =
    told_reading (files_of (g.H.Shelf.contents c.args.shelf.now)) (map string_bytes c.args.words.now)
    (request_in c.in-Ok.request) (g.H.Shelf.calls c.args.shelf.now) (g.H.Shelf.calls c.plan_for.new.shelf)
    (asked_some c.in-Ok.request _ c.in-Ok.ensures.answers) c.plan_for.ensures.reads.calls

pub returns-in-Err-Usage-clause-calls : goal.returns-in-Err-Usage-clause-calls
returns-in-Err-Usage-clause-calls g c =
    told_idle (files_of (g.H.Shelf.contents c.args.shelf.now)) (map string_bytes c.args.words.now)
    (g.H.Shelf.calls c.args.shelf.now)

pub returns-in-Err-NoMemory-clause-calls : goal.returns-in-Err-NoMemory-clause-calls
returns-in-Err-NoMemory-clause-calls g c =
    told_idle (files_of (g.H.Shelf.contents c.args.shelf.now)) (map string_bytes c.args.words.now)
    (g.H.Shelf.calls c.args.shelf.now)
