use Rattle.std.proofs.Common.{◌≡◌}
use Rattle.std.specs.Prelude.{◌++◌, codes}
use Rattle.load_maker.specs.Texts.{object_tables, for_each}
use Rattle.load_maker.proofs.market.market_text.Given as goal

abbrev pub invariant-loop-at : goal.invariant-loop-at
invariant-loop-at l =
    l.text.items ≡ codes "version = 1\ntoday = \"2024-01-02\"\nquotes = \"quotes.csv\"\n" ++ for_each object_tables l.at
