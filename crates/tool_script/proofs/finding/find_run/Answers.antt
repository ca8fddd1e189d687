use Rattle.std.proofs.Common.{refl, sym}
use Rattle.std.specs.Prelude.{map}
use Rattle.std.specs.String.{string_bytes}
use Rattle.desk_edge.specs.Shelf.{files_of}
use Rattle.tool_script.specs.Asking.{script_asks, found_in}
use Rattle.tool_script.specs.Found.{run_in}
use Rattle.tool_script.specs.Status.{script_ends, script_ends_sound}
use Rattle.tool_script.specs.Verdict.{ScriptRun, run_at}
use Rattle.tool_script.proofs.Refused.{refusal_before, refusal_usage}
use Rattle.tool_script.proofs.There.{run_there, halted_there}
use Rattle.tool_frame.proofs.Finds.{finds_none, finds_found, finds_lost}
use Rattle.tool_script.proofs.finding.find_run.Goals as goal

pub returns-in_default-clause-found : goal.returns-in_default-clause-found
returns-in_default-clause-found g c =
    let request = g.R.ScriptRequest in
    finds_none script_ends (script_asks request.request_of request.market request.script) (found_in request.meaning) (map string_bytes c.args.words.now)
    _ script_ends_sound (sym c.in_default.ensures)

pub returns-in-Ok-clause-found : goal.returns-in-Ok-clause-found
returns-in-Ok-clause-found g c =
    let request = g.R.ScriptRequest in
    let asked = request.meaning c.in-Some.request in
    finds_found script_ends (script_asks request.request_of request.market request.script) (found_in request.meaning) (map string_bytes c.args.words.now)
    _ _ asked (sym c.in-Some.ensures) run_in (run_at (request.market asked) (request.script asked))
    (λ (run : ScriptRun). record { run = run; request = asked }) (λ files. refl)
    c.in-Ok.run' _ refl (λ files run is. run_there (request.market asked) (request.script asked) files run is)
    (rw (c.market.ensures, c.script.ensures) at c.in-Ok.ensures.reads)

pub returns-in-Err-clause-found : goal.returns-in-Err-clause-found
returns-in-Err-clause-found g c =
    let request = g.R.ScriptRequest in
    let asked = request.meaning c.in-Some.request in
    let refusal = c.in-Err.ensures.refused in
    finds_lost script_ends (script_asks request.request_of request.market request.script) (found_in request.meaning) (map string_bytes c.args.words.now)
    _ _ asked (sym c.in-Some.ensures) run_in (run_at (request.market asked) (request.script asked))
    (λ (run : ScriptRun). record { run = run; request = asked }) (λ files. refl)
    c.in-Err.status (refusal_before c.in-Err.status refusal) (refusal_usage c.in-Err.status refusal)
    (halted_there (files_of (g.H.Shelf.contents c.args.shelf.now)) (request.market asked) c.in-Err.status
    (rw c.market.ensures at c.in-Err.ensures.there))
    (rw (c.market.ensures, c.script.ensures) at c.in-Err.ensures.reads)
