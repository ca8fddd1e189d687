use Rattle.std.proofs.Common.{◌≡◌, inl, Err, ap}
use Rattle.std.specs.Prelude.{map}
use Rattle.std.specs.String.{string_bytes}
use Rattle.desk_edge.specs.Count.{raised}
use Rattle.desk_edge.specs.Shelf.{files_of}
use Rattle.market_loader.proofs.Steps.{told_any}
use Rattle.tool_script.specs.Found.{plan_in}
use Rattle.tool_script.specs.declared.status.Status.{Status}
use Rattle.tool_script.specs.Verdict.{Check, verdict_of}
use Rattle.desk_top.specs.Early.{outside}
use Rattle.desk_top.proofs.Ahead.{told_before}
use Rattle.desk_top.proofs.Progress.{halted_before}
use Rattle.desk_top.proofs.Ended.{told_written, told_so_far}
use Rattle.desk_top.proofs.Headlines.{told_headline, no_headline, late_headline}
use Rattle.desk_top.proofs.running.run.Goals as goal

pub returns-in-Err-clause-halted : goal.returns-in-Err-clause-halted
returns-in-Err-clause-halted g c =
    told_any (files_of (g.H.Shelf.contents c.args.shelf.now)) (λ files. λ _. halted_before _ _)

-- want of memory before the first command is a front of any plan
pub returns-in-Err-clause-stopped : goal.returns-in-Err-clause-stopped
returns-in-Err-clause-stopped g c = λ _. (Check 0 0, halted_before _ _)

pub returns-in-Err-carry_out-clause-written : goal.returns-in-Err-carry_out-clause-written
returns-in-Err-carry_out-clause-written g c =
    told_written (files_of (g.H.Shelf.contents c.args.shelf.now)) (map string_bytes c.args.words.now)
    (g.B.Bench.calc c.args.bench.now) (plan_in c.in-Ok.plan) (g.K.Sink.bytes c.args.out.now) (g.K.Sink.bytes c.carry_out.new.out)
    c.in-Err-carry_out.status c.in-Ok.ensures.plans c.in-Err-carry_out.ensures.written

pub returns-in-Err-clause-headline : goal.returns-in-Err-clause-headline
returns-in-Err-clause-headline g c =
    no_headline (files_of (g.H.Shelf.contents c.args.shelf.now)) (map string_bytes c.args.words.now) (g.B.Bench.calc c.args.bench.now)
    (g.K.Sink.bytes c.args.out.now) (g.K.Sink.bytes c.args.out.now) c.in-Err.status c.in-Err.ensures.before

pub returns-in-Ok-carry_out-clause-headline : goal.returns-in-Ok-carry_out-clause-headline
returns-in-Ok-carry_out-clause-headline g c =
    told_headline (files_of (g.H.Shelf.contents c.args.shelf.now)) (map string_bytes c.args.words.now)
    (g.B.Bench.calc c.args.bench.now) c.in-Ok.plan (g.K.Sink.bytes c.args.out.now) (g.K.Sink.bytes c.carry_out.new.out) _
    c.in-Ok.ensures.can c.in-Ok.ensures.plans (λ done. c.in-Ok-carry_out.ensures.written)

pub returns-in-Err-carry_out-clause-headline : goal.returns-in-Err-carry_out-clause-headline
returns-in-Err-carry_out-clause-headline g c =
    told_headline (files_of (g.H.Shelf.contents c.args.shelf.now)) (map string_bytes c.args.words.now)
    (g.B.Bench.calc c.args.bench.now) c.in-Ok.plan (g.K.Sink.bytes c.args.out.now) (g.K.Sink.bytes c.carry_out.new.out)
    c.in-Err-carry_out.status c.in-Ok.ensures.can c.in-Ok.ensures.plans
    (late_headline c.in-Err-carry_out.status _ _ _ c.in-Err-carry_out.ensures.late)

pub returns-in-Err-clause-told : goal.returns-in-Err-clause-told
returns-in-Err-clause-told g c =
    told_any (files_of (g.H.Shelf.contents c.args.shelf.now))
    (λ files. λ _. inl (told_before (g.B.Bench.calc c.args.bench.now) (verdict_of files (map string_bytes c.args.words.now)) _))

pub returns-in-Err-carry_out-clause-told : goal.returns-in-Err-carry_out-clause-told
returns-in-Err-carry_out-clause-told g c =
    told_so_far (files_of (g.H.Shelf.contents c.args.shelf.now)) (map string_bytes c.args.words.now)
    (g.B.Bench.calc c.args.bench.now) (plan_in c.in-Ok.plan)
    (outside (g.K.Sink.bytes c.args.out.now) (g.B.Bench.count c.args.bench.now) (g.B.Bench.log c.args.bench.now))
    (outside (g.K.Sink.bytes c.carry_out.new.out) (g.B.Bench.count c.carry_out.new.bench) (g.B.Bench.log c.carry_out.new.bench))
    c.in-Err-carry_out.status (g.K.Sink.faults c.carry_out.new.out ≡ raised (g.K.Sink.faults c.args.out.now)) c.in-Ok.ensures.plans
    (λ is. c.in-Err-carry_out.ensures.told (ap (λ (s : Status). Err s) is))
