-- What the run command of `clap` makes of its words: a turn of its walk for each, and what the walk leaves.
use Rattle.std.proofs.Common.{◌≡◌, ◌∙◌, ℕ, Bool, true, false, not, ◌&&◌, ◌==◌, List, [], ◌∷◌, ◌++◌, codes, drop, Some, None, is_some, if◌then◌else◌, refl, sym, ap, true≢false}
use Rattle.std.specs.List.{starts_with}
use Rattle.clap.specs.Walk.{Held, Rule, Text, Walk, after_step, finished, first_of, idle, nothing_held, settled, value, walk, walk_from, walked, word_met}
use Rattle.clap.specs.Simple.{HasMatchesOf, built, matches_of}
use Rattle.clap.specs.Matches.{found_of}
use Rattle.clap.specs.Takes.{takes, walk_passes}
use Rattle.clap.specs.declared.parser.matches.ArgMatches.{ArgMatches}
use Rattle.clap.proofs.OnLiterals.{clap_on_literals}
use Rattle.clap.proofs.WalkLemmas.{first_value-rows}
use Rattle.std.proofs.lemmas.Bool.Decides.{Decides-eqb}
use Rattle.std.proofs.lemmas.Slice.Eq.{starts_is}
use Rattle.desk_words.specs.Words.{is_path, joined_order}
use Rattle.desk_words.specs.RunCommand.{run_app, AreRun, Finds}

-- the rules of the command as it is built
abbrev rules : List Rule
rules = (built run_app).top.rules

-- a path does not begin with `-`
no_dash : (x : ℕ) (xs : Text) → is_path (x ∷ xs) ≡ true → (x == 45) ≡ false
no_dash x xs = go (x == 45) _
  where
    go : (dash more : Bool) → (not dash && more) ≡ true → dash ≡ false
    go false more h = refl
    go true more h = absurd (true≢false (sym h))

-- a word that does not begin with `-` goes to a positional
plain : (position x : ℕ) (xs : Text) (h : Held) → (x == 45) ≡ false
    → word_met rules [] false idle position (x ∷ xs) h ≡ (h, value)
plain position x xs h e = simp e

-- where the walk stands before the market, where no option is given and where one is
abbrev at_first : Walk
at_first = walk_from nothing_held

abbrev after_option : Text → Walk
after_option order =
    walk_from (settled rules (record nothing_held { pending = Some (codes "order", order ∷ []) }))

option_turn : (order : Text) → walked rules [] at_first (codes "--order=" ++ order) ≡ after_option order
unfolding clap_on_literals
option_turn order = refl

-- where it stands after the market, and after the script
abbrev after_market : Walk → Text → Walk
after_market w market = after_step rules market w w.held value

abbrev after_script : Walk → Text → Text → Walk
after_script w market script = after_step rules script (after_market w market) (after_market w market).held value

module _ (x : ℕ) (xs : Text) (y : ℕ) (ys : Text) (e : (x == 45) ≡ false) (f : (y == 45) ≡ false) where
  market_turn : walked rules [] at_first (x ∷ xs) ≡ after_market at_first (x ∷ xs)
  unfolding walked
  market_turn = ap (λ met. after_step rules (x ∷ xs) at_first met.0 met.1) (plain 1 x xs nothing_held e)

  script_turn : walked rules [] (after_market at_first (x ∷ xs)) (y ∷ ys) ≡ after_script at_first (x ∷ xs) (y ∷ ys)
  unfolding walked
  script_turn =
      ap (λ met. after_step rules (y ∷ ys) (after_market at_first (x ∷ xs)) met.0 met.1)
      (plain 2 y ys (after_market at_first (x ∷ xs)).held f)

  -- the walk over both
  both_turns : walk rules [] nothing_held ((x ∷ xs) ∷ (y ∷ ys) ∷ []) ≡ after_script at_first (x ∷ xs) (y ∷ ys)
  both_turns = ap (λ w. walked rules [] w (y ∷ ys)) market_turn ∙ script_turn

  matches_are : matches_of run_app ((x ∷ xs) ∷ (y ∷ ys) ∷ [])
      ≡ finished rules (after_script at_first (x ∷ xs) (y ∷ ys)).held
  matches_are = ap (λ (w : Walk). finished rules w.held) both_turns

  takes_both : takes run_app ((x ∷ xs) ∷ (y ∷ ys) ∷ []) ≡ true
  unfolding walked walk_passes
  takes_both = simp (e, f)

  module _ (order : Text) where
    ordered_market_turn : walked rules [] (after_option order) (x ∷ xs) ≡ after_market (after_option order) (x ∷ xs)
    unfolding walked
    ordered_market_turn =
        ap (λ met. after_step rules (x ∷ xs) (after_option order) met.0 met.1)
        (plain 1 x xs (after_option order).held e)

    ordered_script_turn : walked rules [] (after_market (after_option order) (x ∷ xs)) (y ∷ ys)
        ≡ after_script (after_option order) (x ∷ xs) (y ∷ ys)
    unfolding walked
    ordered_script_turn =
        ap (λ met. after_step rules (y ∷ ys) (after_market (after_option order) (x ∷ xs)) met.0 met.1)
        (plain 2 y ys (after_market (after_option order) (x ∷ xs)).held f)

    all_turns : walk rules [] nothing_held ((codes "--order=" ++ order) ∷ (x ∷ xs) ∷ (y ∷ ys) ∷ [])
        ≡ after_script (after_option order) (x ∷ xs) (y ∷ ys)
    all_turns =
        ap (λ w. walked rules [] (walked rules [] w (x ∷ xs)) (y ∷ ys)) (option_turn order)
        ∙ ap (λ w. walked rules [] w (y ∷ ys)) ordered_market_turn ∙ ordered_script_turn

    ordered_matches : matches_of run_app ((codes "--order=" ++ order) ∷ (x ∷ xs) ∷ (y ∷ ys) ∷ [])
        ≡ finished rules (after_script (after_option order) (x ∷ xs) (y ∷ ys)).held
    ordered_matches = ap (λ (w : Walk). finished rules w.held) all_turns

    takes_ordered : takes run_app ((codes "--order=" ++ order) ∷ (x ∷ xs) ∷ (y ∷ ys) ∷ []) ≡ true
    unfolding clap_on_literals
    takes_ordered = simp (e, f)

market_found : (market script : Text)
    → first_of (codes "market") (finished rules (after_script at_first market script).held) ≡ Some market
market_found market script = refl

script_found : (market script : Text)
    → first_of (codes "script") (finished rules (after_script at_first market script).held) ≡ Some script
script_found market script = refl

ordered_market_found : (order market script : Text)
    → first_of (codes "market") (finished rules (after_script (after_option order) market script).held) ≡ Some market
ordered_market_found order market script = refl

ordered_script_found : (order market script : Text)
    → first_of (codes "script") (finished rules (after_script (after_option order) market script).held) ≡ Some script
ordered_script_found order market script = refl

order_found : (order market script : Text)
    → first_of (codes "order") (finished rules (after_script (after_option order) market script).held) ≡ Some order
order_found order market script = refl

-- an option is `--order=` and a text
option_is : (option : Text) → is_some (joined_order option) ≡ true
    → (option ≡ codes "--order=" ++ drop 8 option) × (joined_order option ≡ Some (drop 8 option))
option_is option = go (starts_with (λ a b. a == b) option (codes "--order=")) refl
  where
    go : (begins : Bool) → starts_with (λ a b. a == b) option (codes "--order=") ≡ begins
        → is_some (if begins then Some (drop 8 option) else None) ≡ true
        → (option ≡ codes "--order=" ++ drop 8 option) × (joined_order option ≡ Some (drop 8 option))
    go true begins h = (
      (starts_is Decides-eqb option (codes "--order=") true (sym begins)).0 refl,
      ap (λ (b : Bool). if b then Some (drop 8 option) else None) begins,
    )
    go false begins h = absurd (true≢false (sym h))

-- the command takes the words of a run
pub takes_run : (words : List Text) → AreRun words → takes run_app words ≡ true
takes_run [] h = absurd h
takes_run (market ∷ []) h = absurd h
takes_run ([] ∷ script ∷ []) h = absurd (true≢false (sym h.0))
takes_run ((x ∷ xs) ∷ [] ∷ []) h = absurd (true≢false (sym h.1))
takes_run ((x ∷ xs) ∷ (y ∷ ys) ∷ []) h = takes_both x xs y ys (no_dash x xs h.0) (no_dash y ys h.1)
takes_run (option ∷ [] ∷ script ∷ []) h = absurd (true≢false (sym h.1))
takes_run (option ∷ (x ∷ xs) ∷ [] ∷ []) h = absurd (true≢false (sym h.2))
takes_run (option ∷ (x ∷ xs) ∷ (y ∷ ys) ∷ []) h =
    ap (λ o. takes run_app (o ∷ (x ∷ xs) ∷ (y ∷ ys) ∷ [])) (option_is option h.0).0
    ∙ takes_ordered x xs y ys (no_dash x xs h.1) (no_dash y ys h.2) (drop 8 option)
takes_run (a ∷ b ∷ c ∷ word ∷ words) h = absurd h

-- and finds each where it stands
pub finds_run : (matches : ArgMatches) (words : List Text) → AreRun words → HasMatchesOf run_app words matches
    → Finds matches words
finds_run matches [] h m = absurd h
finds_run matches (market ∷ []) h m = absurd h
finds_run matches ([] ∷ script ∷ []) h m = absurd (true≢false (sym h.0))
finds_run matches ((x ∷ xs) ∷ [] ∷ []) h m = absurd (true≢false (sym h.1))
finds_run matches ((x ∷ xs) ∷ (y ∷ ys) ∷ []) h m =
    let rows = (m refl).0 ∙ matches_are x xs y ys (no_dash x xs h.0) (no_dash y ys h.1) in (
      first_value-rows (found_of matches) (codes "market")
          ∙ ap (first_of (codes "market")) rows ∙ market_found (x ∷ xs) (y ∷ ys),
      first_value-rows (found_of matches) (codes "script")
          ∙ ap (first_of (codes "script")) rows ∙ script_found (x ∷ xs) (y ∷ ys),
    )
finds_run matches (option ∷ [] ∷ script ∷ []) h m = absurd (true≢false (sym h.1))
finds_run matches (option ∷ (x ∷ xs) ∷ [] ∷ []) h m = absurd (true≢false (sym h.2))
finds_run matches (option ∷ (x ∷ xs) ∷ (y ∷ ys) ∷ []) h m =
    let order = drop 8 option in
    let is = option_is option h.0 in
    let rows = (m refl).0 ∙ ap (λ o. matches_of run_app (o ∷ (x ∷ xs) ∷ (y ∷ ys) ∷ [])) is.0
    ∙ ordered_matches x xs y ys (no_dash x xs h.1) (no_dash y ys h.2) order in (
      first_value-rows (found_of matches) (codes "market")
          ∙ ap (first_of (codes "market")) rows ∙ ordered_market_found order (x ∷ xs) (y ∷ ys),
      first_value-rows (found_of matches) (codes "script")
          ∙ ap (first_of (codes "script")) rows ∙ ordered_script_found order (x ∷ xs) (y ∷ ys),
      first_value-rows (found_of matches) (codes "order")
          ∙ ap (first_of (codes "order")) rows ∙ order_found order (x ∷ xs) (y ∷ ys) ∙ sym is.1,
    )
finds_run matches (a ∷ b ∷ c ∷ word ∷ words) h m = absurd h
