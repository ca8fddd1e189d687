use Rattle.std.proofs.Common.{◌≡◌, length, Option, Some, sym, ap, ◌∙◌, subst}
use Rattle.session_model.specs.Course.{Meaning}
use Rattle.live_model.specs.Live.{Block}
use Rattle.live_session.specs.Standing.{BlockFits}
use Rattle.live_session.proofs.Done.{pushed_fits, put_halts}
use Rattle.live_session.proofs.doing.do_command.Goals as goal

pub returns-in-Some-clause-err : goal.returns-in-Some-clause-err
returns-in-Some-clause-err g c =
    let m : Meaning g.row.P.Denot = record { calc = g.B.Bench.calc c.args.bench.now; at = g.P.Picker.at; after = g.P.Picker.after } in
    put_halts m c.args.session.now c.args.blocks.now.begun c.args.blocks.now.block c.args.command.now c.push.result
    (record { lines = c.args.out.now.items; count = g.B.Bench.count c.args.bench.now; log = g.B.Bench.log c.args.bench.now })

pub returns-in-Some-clause-block : goal.returns-in-Some-clause-block
returns-in-Some-clause-block g c =
    let block : Block = record { line = c.block.inside.line; commands = c.block.inside.commands } in
    let is : c.args.blocks.now.block ≡ Some block = c.in-Some.is ∙ ap (λ (b : Block). Some b) (sym c.block.view_is) in
    let fits = subst (λ (b : Option Block). BlockFits b (length c.args.session.now.standing.names) (length c.args.blocks.now.begun)
    (length c.args.session.now.standing.actions)) is c.requires.block in
    pushed_fits c.push.result block c.push.new.self (length c.args.session.now.standing.names) (length c.args.blocks.now.begun)
    (length c.args.session.now.standing.actions) c.args.command.now c.push.ensures.ok c.push.ensures.err fits c.requires.known
