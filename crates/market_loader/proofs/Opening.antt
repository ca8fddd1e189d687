-- The reading of a market, step by step.
use Rattle.std.proofs.Common.{◌≡◌, ℕ, ◌≤◌, List, Result, Ok, Err, Vec, sym, ap, arith}
use Rattle.std.specs.declared.alloc.Global.{Global}
use Rattle.market_file.specs.Fault.{Fault, FailsWith}
use Rattle.market_file.specs.Market.{Market}
use Rattle.market_file.specs.Paths.{market_paths}
use Rattle.market_file.specs.declared.paths.Paths.{Paths}
use Rattle.market_file.specs.declared.fault.MarketFault.{MarketFault}
use Rattle.market_file.specs.declared.fault.MarketFault.TheVariants as refused
use Rattle.market_loader.specs.declared.faults.LoadFault.{LoadFault}
use Rattle.market_loader.specs.declared.faults.MarketRole.TheVariants as role
use Rattle.market_loader.specs.Ends.{load_end}
use Rattle.market_loader.specs.Faults.{load_fault}
use Rattle.market_loader.specs.Files.{file_calls}
use Rattle.market_loader.specs.Market.{Texts, texts, texts_in, part_of, table_of, table_calls, or_fault, and_then, with_fixings, with_quotes, tables_calls, with_text, text_calls, texts_of, market_said, market_of, market_calls}
use Rattle.market_loader.specs.declared.texts.MarketTexts.{MarketTexts}
use Rattle.market_loader.specs.Reads.{Seen, Says, IsRefusedAs, Reads}
use Rattle.market_loader.proofs.Steps.{reads_on, reads_text, reads_within}

abbrev Text : Type 0
Text = Vec ℕ Global

abbrev bytes_of : Text → List ℕ
bytes_of text = text.items

-- what the texts say, with their fault told as the market's
pub texts_ok : {Y : Type 0} (y : Y) (told : Result Y Fault) → told ≡ Ok y → or_fault told ≡ Ok y
texts_ok {Y} y told is = ap (λ (r : Result Y Fault). or_fault r) is

pub texts_err : {Y : Type 0} (e : MarketFault) (told : Result Y Fault) → FailsWith e told
    → IsRefusedAs (load_end (load_fault e)) (load_fault e) (or_fault told)
texts_err {Y} (refused.At section entry why) told is = ap (λ (r : Result Y Fault). or_fault r) is
texts_err refused.NoMemory told is = tt

-- a last step costs nothing more
no_more : {Y : Type 0} (calls : ℕ) (r : Result Y LoadFault) → and_then calls r (λ y. 0) ≤ calls
no_more calls (Ok y) = omega arith
no_more calls (Err e) = omega arith

module _ {X : Type 0} (view : X → Texts) {result : Result X LoadFault} where
  -- the market's file
  pub market_found : (path : List ℕ) {old mid new : Seen} {text : Text}
      → Reads load_end bytes_of (part_of role.Market path) (file_calls path) old mid (Ok text)
      → Reads load_end view (with_text text.items) (text_calls text.items) mid new result
      → Reads load_end view (texts_of path) (market_calls path) old new result
  market_found path {old = old} {mid = mid} {new = new} {text = text} r rest =
      reads_on load_end bytes_of view (part_of role.Market path) (λ files text. with_text text files) (file_calls path)
      (λ files text. text_calls text files) old mid new text result r rest

  -- what it names
  pub paths_found : (text : List ℕ) (paths : Paths) {s new : Seen}
      → Says {X = Paths} load_end (λ paths. paths) (Ok paths) (or_fault (market_paths text))
      → Reads load_end view (with_quotes text paths) (tables_calls paths) s new result
      → Reads load_end view (with_text text) (text_calls text) s new result
  paths_found text paths {s = s} {new = new} says rest =
      reads_on {X = Paths} load_end (λ paths. paths) view (λ files. or_fault (market_paths text))
      (λ files paths. with_quotes text paths files) (λ files. 0) (λ files paths. tables_calls paths files) s s new paths
      result (reads_text {X = Paths} load_end (λ paths. paths) (or_fault (market_paths text)) s (Ok paths) says) rest

  -- the quotes
  pub quotes_found : (text : List ℕ) (paths : Paths) {old mid new : Seen} {quotes : Text}
      → Reads load_end bytes_of (table_of role.Quotes paths.quotes) (table_calls paths.quotes) old mid (Ok quotes)
      → Reads load_end view (with_fixings text paths quotes.items) (table_calls paths.fixings) mid new result
      → Reads load_end view (with_quotes text paths) (tables_calls paths) old new result
  quotes_found text paths {old = old} {mid = mid} {new = new} {quotes = quotes} r rest =
      reads_on load_end bytes_of view (table_of role.Quotes paths.quotes)
      (λ files quotes. with_fixings text paths quotes files) (table_calls paths.quotes)
      (λ files quotes. table_calls paths.fixings files) old mid new quotes result r rest

-- the fixings, and then all the texts are there
pub fixings_found : (text : List ℕ) (paths : Paths) (quotes : List ℕ) (kept : MarketTexts) {old new : Seen}
    {fixings : Text} → Reads load_end bytes_of (table_of role.Fixings paths.fixings) (table_calls paths.fixings) old new (Ok fixings)
    → texts_in kept ≡ texts text quotes fixings.items
    → Reads load_end texts_in (with_fixings text paths quotes) (table_calls paths.fixings) old new (Ok kept)
fixings_found text paths quotes kept {old = old} {new = new} {fixings = fixings} r are =
    reads_within load_end texts_in (with_fixings text paths quotes) _ (table_calls paths.fixings) old new (Ok kept)
    (λ files. no_more (table_calls paths.fixings files) (table_of role.Fixings paths.fixings files))
    (reads_on load_end bytes_of texts_in (table_of role.Fixings paths.fixings)
    (λ files fixings. Ok (texts text quotes fixings)) (table_calls paths.fixings) (λ files fixings. 0) old new
    new fixings (Ok kept) r
    (reads_text load_end texts_in (Ok (texts text quotes fixings.items)) new (Ok kept) (ap as_answer (sym are))))
  where
    as_answer : Texts → Result Texts LoadFault
    as_answer all = Ok all

-- the texts, and then what they say
pub texts_found : {X : Type 0} (view : X → Market) (path : List ℕ) (kept : MarketTexts) {result : Result X LoadFault}
    {old new : Seen} → Reads load_end texts_in (texts_of path) (market_calls path) old new (Ok kept)
    → Says load_end view result (market_said (texts_in kept))
    → Reads load_end view (market_of path) (market_calls path) old new result
texts_found view path kept {result = result} {old = old} {new = new} r says =
    reads_within load_end view (market_of path) _ (market_calls path) old new result
    (λ files. no_more (market_calls path files) (texts_of path files))
    (reads_on load_end texts_in view (texts_of path) (λ files texts. market_said texts) (market_calls path)
    (λ files texts. 0) old new new kept result r
    (reads_text load_end view (market_said (texts_in kept)) new result says))
