use Rattle.std.specs.Prelude.{slice_index_or}
use Rattle.ask_walk.proofs.Inputs.{helper_among}
use Rattle.ask_walk.proofs.uses.helper_entries.Goals as goal

pub read-requires-clause-within : goal.read-requires-clause-within
read-requires-clause-within c = c.requires.within (slice_index_or c.args.helpers.now c.loop-at.at c.index-helpers-at.result).quote (helper_among c.args.helpers.now c.loop-at.at c.index-helpers-at.result c.loop-at-test.true)
