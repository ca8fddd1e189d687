-- The files that a market names.
use Rattle.std.specs.Prelude.{ℕ, List, Result, Ok}
use Rattle.market_tables.specs.declared.fault.MarketKind.{MarketKind}
use Rattle.market_tables.specs.Given.{◌>>=◌}
use Rattle.market_file.specs.declared.fault.Section.TheVariants.{Top}
use Rattle.market_file.specs.declared.paths.Paths.{Paths}
use Rattle.market_file.specs.Fault.{Fault, at_entry}
use Rattle.market_file.specs.Document.{document_of}
use Rattle.market_file.specs.Top.{top_of}

abbrev pub paths_of : List ℕ → Result Paths MarketKind
paths_of text =
    document_of text >>= (λ document. top_of document >>= (λ top.
    Ok (record { quotes = top.quotes; fixings = top.fixings })))

-- the files that a market's text names, or the first fault of its top table
abbrev pub market_paths : List ℕ → Result Paths Fault
market_paths text = at_entry Top 0 (paths_of text)
