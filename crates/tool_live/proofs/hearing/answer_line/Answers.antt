use Rattle.std.proofs.Common.{sym, subst, ℕ, List}
use Rattle.tool_live.specs.Answers.{PutsFront}
use Rattle.tool_live.proofs.Fronts.{front_whole}
use Rattle.tool_live.proofs.FeedEnded.{err_then}
use Rattle.tool_live.proofs.hearing.answer_line.Goals as goal

pub returns-else-len-lt-BATCH-clause-err : goal.returns-else-len-lt-BATCH-clause-err
returns-else-len-lt-BATCH-clause-err g c =
    err_then c.put.result c.put.ensures.err (λ front rest.
    front_whole _ _ _ _ (g.A.Answerer.told c.answer.new.self rest, sym (c.in-Ok.ensures.ok rest)) front)

pub returns-in-Err-clause-err : goal.returns-in-Err-clause-err
returns-in-Err-clause-err g c = λ rest.
    front_whole c.answer.new.answers.items _ _ _ (c.in-Err.ensures.err rest)
    (subst (λ (l : List ℕ). PutsFront l (g.K.Sink.bytes c.args.out.now) (g.K.Sink.bytes c.put_front.new.out)) c.deref.ensures.value c.put_front.ensures.front)
