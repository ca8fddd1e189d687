use Rattle.desk_terms.specs.Reading.{reading_of}
use Rattle.discount_engines.specs.Fits.{price_fits}
use Rattle.discount_engines.proofs.prices.price.Goals as goal

pub returns-in-Ok-clause-fits : goal.returns-in-Ok-clause-fits
returns-in-Ok-clause-fits c = price_fits (reading_of c.args.job.now)

pub returns-in-Err-clause-fits : goal.returns-in-Err-clause-fits
returns-in-Err-clause-fits c = price_fits (reading_of c.args.job.now)
