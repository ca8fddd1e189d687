-- The texts of the load n (this project's profile).
use Rattle.std.specs.Prelude.{ℕ, zero, suc, ◌+◌, ◌-◌, nat_lt, if◌then◌else◌, List, [], ◌++◌, codes, decimal}
use Rattle.watch_rounds.specs.Order.{order_at, order_after}
use Rattle.watch_rounds.specs.declared.picker.Order.{Order}
use Rattle.watch_rounds.specs.declared.picker.Order.TheVariants.{Seed}

-- a text for each number from 1 to n, in order
unfoldable pub for_each : (ℕ → List ℕ) → ℕ → List ℕ
for_each text zero = []
for_each text (suc n) = for_each text n ++ text (suc n)

-- the quote qk, worth k and a half
abbrev pub quote_record : ℕ → List ℕ
quote_record k = codes "q" ++ decimal k ++ codes "," ++ decimal k ++ codes ".5\n"

-- the table of quotes: q1 to qn
abbrev pub quotes_text : ℕ → List ℕ
quotes_text n = codes "name,value\n" ++ for_each quote_record n

-- the stock sk on qk
abbrev pub stock_name : ℕ → List ℕ
stock_name k = codes "[[object]]\nkind = \"stock\"\nname = \"s" ++ decimal k ++ codes "\"\n"

abbrev pub stock_quote : ℕ → List ℕ
stock_quote k = codes "quote = \"q" ++ decimal k ++ codes "\"\n"

abbrev pub stock_table : ℕ → List ℕ
stock_table k = stock_name k ++ stock_quote k

-- sk with weight k
abbrev pub part_name : ℕ → List ℕ
part_name k = codes "{ part = \"s" ++ decimal k ++ codes "\", "

abbrev pub part_weight : ℕ → List ℕ
part_weight k = codes "weight = " ++ decimal k ++ codes " }"

abbrev pub stock_part : ℕ → List ℕ
stock_part k = part_name k ++ part_weight k

-- ck with weight 1, before another part
abbrev pub chain_part : ℕ → List ℕ
chain_part k = codes "{ part = \"c" ++ decimal k ++ codes "\", weight = 1 }, "

-- the parts of ck: c(k-1), where there is one, and then sk
abbrev pub parts_text : ℕ → List ℕ
parts_text k = (if nat_lt 1 k then chain_part (k - 1) else []) ++ stock_part k

-- the composite ck up to its parts
abbrev pub composite_head : ℕ → List ℕ
composite_head k = codes "[[object]]\nkind = \"composite\"\nname = \"c" ++ decimal k ++ codes "\"\nparts = ["

-- the composite ck
abbrev pub composite_table : ℕ → List ℕ
composite_table k = composite_head k ++ parts_text k ++ codes "]\n"

-- the stock sk, and then ck
abbrev pub object_tables : ℕ → List ℕ
object_tables k = stock_table k ++ composite_table k

-- the market: for each k from 1 to n its stock and its composite
abbrev pub market_text : ℕ → List ℕ
market_text n =
    codes "version = 1\ntoday = \"2024-01-02\"\nquotes = \"quotes.csv\"\n" ++ for_each object_tables n

-- the generator, started at n, after so many picks among n
unfoldable pub generator : ℕ → ℕ → Order
generator n zero = Seed n
generator n (suc picks) = order_after (generator n picks) n

-- the quote that the pick after so many chooses
abbrev pub picked_quote : ℕ → ℕ → ℕ
picked_quote n picks = order_at (generator n picks) n + 1

-- a quote set to this value, and the end of the chain of n asked for
abbrev pub move_text : ℕ → ℕ → ℕ → List ℕ
move_text quote value n =
    codes "set q" ++ decimal quote ++ codes " " ++ decimal value ++ codes "\nask c" ++ decimal n ++ codes "\n"

-- for each j from 1 to n the quote of the j-th pick is set to j
abbrev pub script_text : ℕ → List ℕ
script_text n = for_each (λ j. move_text (picked_quote n (j - 1)) j n) n
