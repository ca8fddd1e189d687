-- A small market and words that are worked through by hand.
use Rattle.std.specs.Prelude.{◌≡◌, ℕ, List, [], ◌∷◌, codes, pos, neg_ℤ, ℤ, Option, None, Some}
use Rattle.desk_terms.specs.declared.terms.Terms.{Terms}
use Rattle.desk_terms.specs.declared.terms.Terms.TheVariants.{Quote, Flows}
use Rattle.bond_yield.specs.Rows.{hundred, two_years, floating}
use Rattle.market_file.specs.Market.{Market}
use Rattle.tool_bond.specs.Lines.{market_text}
use Rattle.tool_bond.specs.Wording.{Wording}
use Rattle.tool_bond.specs.Words.{Request, request_of}

-- the quote `r`, the bonds `b` and `c`, and `w` on an index, with today 2024-01-02
abbrev pub entries : List (ℕ × Terms)
entries = (1, Quote None)
    ∷ (2, Flows (record { flows = hundred; index = None }) None)
    ∷ (3, Flows (record { flows = two_years; index = None }) None)
    ∷ (4, Flows (record { flows = floating; index = Some 1 }) None) ∷ []

abbrev pub small : Market
small = record {
  today = pos 19_724;
  made = entries;
  names = codes "today" ∷ codes "r" ∷ codes "b" ∷ codes "c" ∷ codes "w" ∷ [];
}

-- a program that says nothing behind the yield, and what it writes of this market
abbrev pub plain : Wording
plain = record { word = codes "yield"; more = λ bond. [] }

abbrev pub shown : List ℕ → ℤ → ℤ → List ℕ
shown name settle clean = market_text plain small name settle clean

-- the days are 2024-01-02 (19,724), 2024-04-11 (19,824) and 2024-07-04 (19,908); a yield is found by halving and not by
-- these definitions, which would try each number
pub record IsWorked : Type 0 where
  pub above : shown (codes "b") (pos 19_724) (pos 101_000_000) ≡
      codes "b accrued 0.000000\nb full 101.000000\nb refused above 100.000000\n"
  pub below : shown (codes "b") (pos 19_724) (neg_ℤ (pos 1)) ≡
      codes "b accrued 0.000000\nb full -0.000001\nb refused below 26.739927\n"
  pub interest : shown (codes "c") (pos 19_908) (pos 2_000_000_000_000) ≡
      codes "c accrued 19892.512077\nc full 2019892.512077\nc refused above 1080111.111111\n"
  pub not_fixed : shown (codes "w") (pos 19_724) (pos 1) ≡ codes "w refused notfixed\n"
  pub no_flow : shown (codes "b") (pos 19_824) (pos 99_000_000) ≡ codes "b refused noflow\n"
  pub quote : shown (codes "r") (pos 19_724) (pos 1) ≡ codes "refused yield kind r\n"
  pub today : shown (codes "today") (pos 19_724) (pos 1) ≡ codes "refused yield kind today\n"
  pub unknown : shown (codes "z") (pos 19_724) (pos 1) ≡ codes "refused yield unknown z\n"

-- words with this day and price
abbrev pub asked : List ℕ → List ℕ → Option Request
asked day price = request_of (codes "m" ∷ codes "b" ∷ day ∷ price ∷ [])

abbrev pub taken : ℤ → ℤ → Option Request
taken settle clean = Some (record { market = codes "m"; name = codes "b"; settle = settle; clean = clean })

pub record AreTaken : Type 0 where
  pub four : asked (codes "2024-01-02") (codes "99.009901") ≡ taken (pos 19_724) (pos 99_009_901)
  pub below_zero : asked (codes "2024-01-02") (codes "-1") ≡ taken (pos 19_724) (neg_ℤ (pos 1_000_000))
  pub greatest : asked (codes "2024-01-02") (codes "1000000000000") ≡ taken (pos 19_724) (pos 1_000_000_000_000_000_000)
  pub too_large : asked (codes "2024-01-02") (codes "1000000000000.000001") ≡ None
  pub places : asked (codes "2024-01-02") (codes "1.0000001") ≡ None
  pub no_price : asked (codes "2024-01-02") (codes "par") ≡ None
  pub no_day : asked (codes "2024-02-30") (codes "1") ≡ None
  pub too_early : asked (codes "1900-12-31") (codes "1") ≡ None
  pub three : request_of (codes "m" ∷ codes "b" ∷ codes "2024-01-02" ∷ []) ≡ None
  pub option : request_of (codes "m" ∷ codes "-b" ∷ codes "2024-01-02" ∷ codes "1" ∷ []) ≡ None
  pub empty : request_of ([] ∷ codes "b" ∷ codes "2024-01-02" ∷ codes "1" ∷ []) ≡ None
