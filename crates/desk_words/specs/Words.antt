-- The words of the command line (this project's profile).
use Rattle.std.specs.Prelude.{ℕ, ◌^◌, Bool, false, not, ◌&&◌, ◌||◌, ◌==◌, nat_lt, if◌then◌else◌, List, [], ◌∷◌, codes, drop, length, Option, None, Some}
use Rattle.std.specs.Int.{is_in_range}
use Rattle.std.specs.Char.{is_ascii_digit}
use Rattle.std.specs.List.{list_all, starts_with}
use Rattle.std.specs.Str.{bytes_eq}
use Rattle.std.specs.Str.Parse.{digits_value}
use Rattle.watch_rounds.specs.declared.picker.Order.{Order}
use Rattle.watch_rounds.specs.declared.picker.Order.TheVariants.{First, Last, Seed}

-- what the words ask for: a run of a script over a market, with the order in which due watchers run; a load of a size; or
-- a check of a market
pub data Request : Type 0 where
  Run : (market script : List ℕ) → Order → Request
  Load : (size : ℕ) → Request
  Check : (market : List ℕ) → Request

-- a word that may be a path: not empty, no option, and not `help`
abbrev pub is_path : List ℕ → Bool
is_path [] = false
is_path (byte ∷ word) = not (byte == 45) && not (bytes_eq (byte ∷ word) (codes "help"))

-- decimal digits, the first of several not a zero
abbrev pub is_number : List ℕ → Bool
is_number [] = false
is_number (digit ∷ word) = list_all is_ascii_digit (digit ∷ word) && (not (digit == 48) || length word == 0)

-- the number that a word writes, where it fits 64 bits
abbrev pub number_of : List ℕ → Option ℕ
number_of word =
    if is_number word && nat_lt (digits_value 10 word) (2 ^ 64) then Some (digits_value 10 word) else None

abbrev pub seeded : Option ℕ → Option Order
seeded None = None
seeded (Some seed) = Some (Seed seed)

-- the order that a text names: `first`, `last`, or the seed of a generator
abbrev pub order_of : List ℕ → Option Order
order_of text =
    if bytes_eq text (codes "first") then Some First
    else (if bytes_eq text (codes "last") then Some Last else seeded (number_of text))

-- the order of a run, of whose option this is the text; without one it is `first`
abbrev pub chosen_order : Option (List ℕ) → Option Order
chosen_order None = Some First
chosen_order (Some text) = order_of text

-- the text behind `--order=`
abbrev pub joined_order : List ℕ → Option (List ℕ)
joined_order word = if starts_with (λ a b. a == b) word (codes "--order=") then Some (drop 8 word) else None

abbrev pub with_order : List ℕ → List ℕ → Option Order → Option Request
with_order market script None = None
with_order market script (Some order) = Some (Run market script order)

-- `run MARKET SCRIPT`, with an option of this text or none
abbrev pub run_of : List ℕ → Option (List ℕ) → List ℕ → List ℕ → Option Request
run_of verb option market script =
    if bytes_eq verb (codes "run") && is_path market && is_path script
    then with_order market script (chosen_order option) else None

-- a run in three words, the first of which that begins with `--order=` is its option
abbrev pub joined_run : List ℕ → Option (List ℕ) → Option (List ℕ) → Option (List ℕ) → List ℕ → List ℕ → List ℕ → Option Request
joined_run verb (Some order) second third a b c = run_of verb (Some order) b c
joined_run verb None (Some order) third a b c = run_of verb (Some order) a c
joined_run verb None None (Some order) a b c = run_of verb (Some order) a b
joined_run verb None None None a b c = None

abbrev pub is_option : List ℕ → Bool
is_option word = bytes_eq word (codes "--order")

-- a run in four words, the first of which that is `--order` stands before the text of its option
abbrev pub split_run : List ℕ → List ℕ → List ℕ → List ℕ → List ℕ → Option Request
split_run verb a b c d =
    if is_option a then run_of verb (Some b) c d
    else (if is_option b then run_of verb (Some c) a d
    else (if is_option c then run_of verb (Some d) a b else None))

abbrev pub sized : Option ℕ → Option Request
sized None = None
sized (Some size) = if is_in_range 1 1_000 size then Some (Load size) else None

-- `check MARKET` and `load SIZE`
abbrev pub short_of : List ℕ → List ℕ → Option Request
short_of verb word =
    if bytes_eq verb (codes "check") && is_path word then Some (Check word)
    else (if bytes_eq verb (codes "load") then sized (number_of word) else None)

-- the lists that are taken, and what each asks for
abbrev pub request_of : List (List ℕ) → Option Request
request_of (verb ∷ word ∷ []) = short_of verb word
request_of (verb ∷ market ∷ script ∷ []) = run_of verb None market script
request_of (verb ∷ a ∷ b ∷ c ∷ []) = joined_run verb (joined_order a) (joined_order b) (joined_order c) a b c
request_of (verb ∷ a ∷ b ∷ c ∷ d ∷ []) = split_run verb a b c d
request_of words = None
