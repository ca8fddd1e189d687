-- Texts written by hand, and picks by Python's arithmetic.
use Rattle.std.specs.Prelude.{◌≡◌, ◌++◌, codes}
use Rattle.load_maker.specs.Texts.{market_text, quotes_text, script_text}

pub record AreTexts : Type 0 where
  pub market : market_text 2
      ≡ codes "version = 1\ntoday = \"2024-01-02\"\nquotes = \"quotes.csv\"\n"
      ++ codes "[[object]]\nkind = \"stock\"\nname = \"s1\"\nquote = \"q1\"\n"
      ++ codes "[[object]]\nkind = \"composite\"\nname = \"c1\"\nparts = [{ part = \"s1\", weight = 1 }]\n"
      ++ codes "[[object]]\nkind = \"stock\"\nname = \"s2\"\nquote = \"q2\"\n"
      ++ codes "[[object]]\nkind = \"composite\"\nname = \"c2\"\n"
      ++ codes "parts = [{ part = \"c1\", weight = 1 }, { part = \"s2\", weight = 2 }]\n"
  pub quotes : quotes_text 2 ≡ codes "name,value\nq1,1.5\nq2,2.5\n"
  pub one : script_text 1 ≡ codes "set q1 1\nask c1\n"
  pub two : script_text 2 ≡ codes "set q1 1\nask c2\nset q1 2\nask c2\n"
  pub five : script_text 5
      ≡ codes "set q3 1\nask c5\nset q4 2\nask c5\nset q5 3\nask c5\nset q1 4\nask c5\nset q1 5\nask c5\n"
