-- Names that stand for no instrument (this project's profile).
use Rattle.std.specs.Prelude.{ℕ, Bool, true, false, List, Result, Ok, Err}
use Rattle.std.specs.List.{list_any}
use Rattle.desk_terms.specs.declared.kind.Wanted.TheVariants.{Member}
use Rattle.desk_terms.specs.Reading.{Calc}
use Rattle.desk_model.specs.Market.{Market}
use Rattle.market_desk.specs.declared.named.Unnamed.{Unnamed}
use Rattle.market_desk.specs.Standing.{object_named, standing_of}
use Rattle.tool_frame.specs.Market.{Wanted}
use Rattle.tool_risk.specs.Words.{Request}

abbrev pub is_unnamed : Result ℕ Unnamed → Bool
is_unnamed (Ok o) = false
is_unnamed (Err why) = true

-- a name is unknown, or that of no instrument
abbrev pub is_refused : Market → List (List ℕ) → List ℕ → Bool
is_refused market names text = is_unnamed (object_named Member market names text)

-- one of these is
abbrev pub refuses_names : Market → List (List ℕ) → List (List ℕ) → Bool
refuses_names market names texts = list_any (is_refused market names) texts

-- the same of what is wanted
abbrev pub refuses_in : Calc → Wanted Request → Bool
refuses_in calc wanted = refuses_names (standing_of wanted.market).state.market wanted.market.names wanted.request.names
