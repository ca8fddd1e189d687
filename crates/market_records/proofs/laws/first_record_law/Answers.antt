use Rattle.market_records.proofs.FirstRecord.{records_faulty, faulty_records}
use Rattle.market_records.proofs.laws.first_record_law.Goals as goal

pub returns : goal.returns
returns g c = λ s rows n k. (records_faulty _ _ s rows n k, faulty_records _ _ s rows n k)
