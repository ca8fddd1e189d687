-- The words of the command line (this project's profile).
use Rattle.std.specs.Prelude.{ℕ, Bool, true, false, if◌then◌else◌, List, [], ◌∷◌, codes, unwrap_or, Option, None, Some}
use Rattle.std.specs.Option.{option_map}
use Rattle.std.specs.Str.{bytes_eq}
use Rattle.watch_rounds.specs.declared.picker.Order.{Order}
use Rattle.watch_rounds.specs.declared.picker.Order.TheVariants.{First}
use Rattle.desk_words.specs.Words.{is_path, joined_order, order_of}
use Rattle.tool_live.specs.declared.words.Given as given
use Rattle.tool_live.specs.declared.words.Request as request

-- what words ask for: a market, the script whose commands are done before the lines, where one is named, the order in
-- which due watchers run, and whether each line is told as done
pub record Request : Type 0 where
  pub market : List ℕ
  pub script : Option (List ℕ)
  pub order : Order
  pub ready : Bool

-- a request of the code, as the definition sees it
abbrev pub request_in : request.Request → Request
request_in r = record { market = r.market.now; script = option_map (λ script. script.now) r.script; order = r.order; ready = r.ready }

-- what words gave so far; it waits behind `--order` for the text of an order
pub record Given : Type 0 where
  pub waits : Bool
  pub market : Option (List ℕ)
  pub script : Option (List ℕ)
  pub order : Option Order
  pub ready : Bool

abbrev pub given_in : given.Given → Given
given_in g = record {
  waits = g.waits;
  market = option_map (λ market. market.now) g.market;
  script = option_map (λ script. script.now) g.script;
  order = g.order;
  ready = g.ready;
}

abbrev pub none_given : Given
none_given = record { waits = false; market = None; script = None; order = None; ready = false }

-- an order, of which there is one at most
abbrev pub ordered_once : Given → Option Order → Option Order → Option Given
ordered_once g None (Some order) = Some (record g { waits = false; order = Some order })
ordered_once g None None = None
ordered_once g (Some other) order = None

abbrev pub with_order : Given → List ℕ → Option Given
with_order g text = ordered_once g g.order (order_of text)

-- `--ready`, once at most
abbrev pub with_ready : Given → Option Given
with_ready g = if g.ready then None else Some (record g { ready = true })

-- a path: the market's, and then the script's
abbrev pub placed : Given → List ℕ → Option (List ℕ) → Option (List ℕ) → Option Given
placed g word None script = Some (record g { market = Some word })
placed g word (Some market) None = Some (record g { script = Some word })
placed g word (Some market) (Some script) = None

abbrev pub with_path : Given → List ℕ → Option Given
with_path g word = if is_path word then placed g word g.market g.script else None

-- a word that may begin with `--order=`
abbrev pub joined_or_not : Given → List ℕ → Option (List ℕ) → Option Given
joined_or_not g word (Some text) = with_order g text
joined_or_not g word None = if bytes_eq word (codes "--ready") then with_ready g else with_path g word

-- a word more
abbrev pub with_word : Given → List ℕ → Option Given
with_word g word =
    if g.waits then with_order g word
    else (if bytes_eq word (codes "--order") then Some (record g { waits = true }) else joined_or_not g word (joined_order word))

abbrev pub with_words : Option Given → List (List ℕ) → Option Given
with_words None words = None
with_words (Some g) [] = Some g
with_words (Some g) (word ∷ words) = with_words (with_word g word) words

abbrev pub asked_of : Given → Option (List ℕ) → Option Request
asked_of g None = None
asked_of g (Some market) =
    Some (record { market = market; script = g.script; order = unwrap_or g.order First; ready = g.ready })

-- what they ask for, where a market is named, and an order behind each `--order`
abbrev pub finished : Option Given → Option Request
finished None = None
finished (Some g) = if g.waits then None else asked_of g g.market

-- `MARKET [SCRIPT]`, and at any place `--ready` and an order, each once at most
abbrev pub request_of : List (List ℕ) → Option Request
request_of words = finished (with_words (Some none_given) words)
