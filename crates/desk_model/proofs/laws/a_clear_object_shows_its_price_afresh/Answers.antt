use Rattle.desk_model.proofs.Shown.{seen_free}
use Rattle.desk_model.proofs.Clear.{clear_fresh, shows_seen}
use Rattle.desk_model.proofs.laws.a_clear_object_shows_its_price_afresh.Goals as goal

pub returns-clause-clear : goal.returns-clause-clear
returns-clause-clear c = λ calc s links o clear. clear_fresh s links calc o clear

pub returns-clause-shown : goal.returns-clause-shown
returns-clause-shown c = λ calc s links o. shows_seen s links calc o

pub returns-clause-priced : goal.returns-clause-priced
returns-clause-priced c = seen_free
