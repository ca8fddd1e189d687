use Rattle.desk_bench.specs.Pricing.{desk_calc}
use Rattle.tick_service.proofs.desk.show_desk.Goals as goal

pub show_moves-requires : goal.show_moves-requires
show_moves-requires c = c.in_ok-desk.ensures.sound desk_calc
