-- A small market that is worked through by hand.
use Rattle.std.specs.Prelude.{◌≡◌, ℕ, List, [], ◌∷◌, codes, true, pos, None, Some}
use Rattle.desk_terms.specs.declared.terms.Terms.{Terms}
use Rattle.desk_terms.specs.declared.terms.Terms.TheVariants.{Quote, Stock}
use Rattle.desk_model.specs.Examples.{plain}
use Rattle.desk_model.specs.Visit.{log_of}
use Rattle.market_file.specs.Market.{Market}
use Rattle.market_desk.specs.Standing.{standing_of}
use Rattle.bump_ladder.specs.Lines.{bump_text, bump_calls}
use Rattle.bump_model.specs.Quotes.{quotes_in}

-- The quotes `a`, at 1.5, and `z`, without a value, and a stock `s` on the first. The bench is worth a stock its quote, in
-- the quote's own units.
abbrev pub entries : List (ℕ × Terms)
entries = (1, Quote (Some (pos 1_500_000_000))) ∷ (2, Quote None) ∷ (3, Stock 1) ∷ []

abbrev pub small : Market
small = record {
  today = pos 0;
  made = entries;
  names = codes "today" ∷ codes "a" ∷ codes "z" ∷ codes "s" ∷ [];
}

pub record IsWorked : Type 0 where
  pub quotes : quotes_in (standing_of small).state.market ≡ 1 ∷ 2 ∷ []
  pub stock : bump_text plain (standing_of small) (codes "s") ≡
      codes "s base 1500.000000\na up 0.100000 down -0.100000\nz unset\nall up 0.100000 down -0.100000\nruns 5\n"
  pub calls : log_of (bump_calls plain (standing_of small) (codes "s")) ≡
      (3, true) ∷ (3, true) ∷ (3, true) ∷ (3, true) ∷ (3, true) ∷ []
  pub quote : bump_text plain (standing_of small) (codes "z") ≡ codes "refused bump kind z\n"
  pub today : bump_text plain (standing_of small) (codes "today") ≡ codes "refused bump kind today\n"
  pub unknown : bump_text plain (standing_of small) (codes "b") ≡ codes "refused bump unknown b\n"
  pub nothing : bump_calls plain (standing_of small) (codes "z") ≡ []
