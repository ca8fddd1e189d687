use Rattle.live_model.specs.Live.{spoken}
use Rattle.tool_live.proofs.talk.TalkAnswerer.end.Goals as goal

pub returns-clause-ok : goal.returns-clause-ok
unfolding spoken
returns-clause-ok g c = c.answer_end.ensures.ok
