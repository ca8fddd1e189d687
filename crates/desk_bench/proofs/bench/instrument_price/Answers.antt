use Rattle.desk_terms.specs.Reading.{reading_of}
use Rattle.discount_engines.specs.Price.{instrument_price}
use Rattle.desk_bench.proofs.Answered.{gives_priced, wants_none}
use Rattle.desk_bench.proofs.bench.instrument_price.Goals as goal

pub returns-clause-price : goal.returns-clause-price
returns-clause-price c = rw c.priced_answer.ensures (gives_priced (instrument_price (reading_of c.args.job.now)) c.price.result c.price.ensures.answer)

pub returns-clause-memory : goal.returns-clause-memory
returns-clause-memory c = rw c.priced_answer.ensures (wants_none (instrument_price (reading_of c.args.job.now)) c.price.result c.price.ensures.answer)
