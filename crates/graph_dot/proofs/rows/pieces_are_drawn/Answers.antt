use Rattle.std.proofs.Common.{refl}
use Rattle.std.specs.Fmt.{digits}
use Rattle.day_number.specs.Day.{civil_number, date_in_year, date_after, date_of}
use Rattle.fixed_amount.specs.Decimal.{decimal_text}
use Rattle.price_report.specs.Line.{point_text}
use Rattle.graph_dot.specs.Dot.{line, date_line, point_line, label_text, node_text, nodes_text, edge_text, edges_text, graph_text}
use Rattle.graph_dot.proofs.rows.pieces_are_drawn.Goals as goal

pub returns : goal.returns
unfolding digits civil_number date_in_year date_after date_of decimal_text point_text line date_line point_line label_text node_text nodes_text edge_text edges_text graph_text
returns c = record {
  today = refl;
  quote = refl;
  unset = refl;
  fresh = refl;
  unpriced = refl;
  bond = refl;
  swap = refl;
  agreement = refl;
  outdated = refl;
  forwarder = refl;
  watcher = refl;
  arrows = refl;
  light_arrows = refl;
  empty = refl;
}
