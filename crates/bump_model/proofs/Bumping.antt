-- Lists of bumps: what they move are live quotes, and how many they are.
use Rattle.std.proofs.Common.{◌≡◌, ◌≤◌, ◌+◌, ℕ, List, [], ◌∷◌, ◌++◌, length, Option, Some, None, arith}
use Rattle.std.specs.Prelude.{map}
use Rattle.std.proofs.lemmas.List.{length-map, length-append}
use Rattle.std.proofs.lemmas.List.Elements.{All-map, All-filter, All-push}
use Rattle.std.proofs.lemmas.List.Sums.{length-filter, count_by-le-length}
use Rattle.desk_terms.specs.declared.kind.Kind.TheVariants.{Quote}
use Rattle.desk_model.specs.Market.{Market, kind_at}
use Rattle.bump_model.specs.declared.ladder.Bump.{Bump}
use Rattle.bump_model.specs.declared.ladder.Bump.TheVariants.{One, Together}
use Rattle.bump_model.specs.Moves.{AreQuotes, IsBump, AreBumps}
use Rattle.bump_model.specs.Sides.{each_then_all}
use Rattle.bump_model.specs.Quotes.{stands_on, beneath}

module _ (m : Market) (quotes : List ℕ) where
  pub each_are : AreQuotes m quotes → AreBumps m (map One quotes)
  each_are are = All-map (IsBump m) One quotes are

  pub each_few : length (map One quotes) ≡ length quotes
  each_few = length-map quotes One

  pub then_are : (bumps : List Bump) (label : Option ℕ) → AreBumps m bumps → AreQuotes m quotes
      → AreBumps m (bumps ++ Together label quotes ∷ [])
  then_are bumps label are some = All-push (IsBump m) bumps (Together label quotes) are some

  pub all_are : AreQuotes m quotes → AreBumps m (each_then_all quotes)
  all_are are = then_are (map One quotes) None (each_are are) are

  pub all_few : length (each_then_all quotes) ≡ length quotes + 1
  all_few = let e = length-append (map One quotes) (Together None quotes ∷ []) in let f = each_few in omega (arith, e, f)

  module _ (o : ℕ) where
    pub beneath_are : AreQuotes m quotes → AreQuotes m (beneath m o quotes)
    beneath_are are = All-filter (stands_on m o) (λ q. kind_at m q ≡ Some Quote) quotes are

    pub beneath_few : length (beneath m o quotes) ≤ length quotes
    beneath_few =
        let e = length-filter (stands_on m o) quotes in let few = count_by-le-length (stands_on m o) quotes in omega (arith, e, few)
