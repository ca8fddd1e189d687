-- A small market and words that are worked through by hand.
use Rattle.std.specs.Prelude.{◌≡◌, ◌^◌, ℕ, ℤ, neg_ℤ, int_le, if◌then◌else◌, List, [], ◌∷◌, ◌++◌, codes, true, pos, Option, None, Some, Ok, Err}
use Rattle.desk_terms.specs.declared.terms.Terms.{Terms}
use Rattle.desk_terms.specs.declared.cause.Cause.TheVariants.{TooLarge}
use Rattle.desk_terms.specs.declared.terms.Terms.TheVariants.{Quote, Derived, Handle, Curve, Implied, Index, Engine, Stock, Composite, Flows}
use Rattle.desk_terms.specs.declared.value.Value.TheVariants.{Money}
use Rattle.desk_terms.specs.declared.value.Value.TheVariants as value
use Rattle.desk_terms.specs.Reading.{Outcome, Calc}
use Rattle.flow_terms.specs.declared.flows.FlowTerm.TheVariants.{Known}
use Rattle.desk_model.specs.Examples.{plain, deposit, curve_of}
use Rattle.desk_model.specs.declared.slot.Slot.TheVariants as slot
use Rattle.desk_model.specs.Market as market
use Rattle.desk_model.specs.Visit.{log_of}
use Rattle.market_file.specs.Market.{Market}
use Rattle.market_desk.specs.Standing.{standing_of}
use Rattle.tool_risk.specs.Asking.{risk_calls}
use Rattle.tool_risk.specs.declared.theta.Gain.TheVariants as gain
use Rattle.tool_risk.specs.declared.theta.Theta.TheVariants as theta
use Rattle.tool_risk.specs.Dues.{settled, paid}
use Rattle.tool_risk.specs.Lines.{risk_text}
use Rattle.tool_risk.specs.Theta.{gain_of, span_at, theta_of}
use Rattle.tool_risk.specs.Tomorrow.{tomorrow_of}
use Rattle.tool_risk.specs.Words.{Request, request_of}

-- The quotes `a`, at 1.5, and `z`, without a value, and the stocks `s` and `t` on them. The bench is worth a stock its
-- quote, in the quote's own units.
abbrev pub entries : List (ℕ × Terms)
entries = (1, Quote (Some (pos 1_500_000_000))) ∷ (2, Quote None) ∷ (3, Stock 1) ∷ (4, Stock 2) ∷ []

abbrev pub small : Market
small = record {
  today = pos 0;
  made = entries;
  names = codes "today" ∷ codes "a" ∷ codes "z" ∷ codes "s" ∷ codes "t" ∷ [];
}

abbrev pub shown : List (List ℕ) → List ℕ
shown names = risk_text plain (standing_of small) (pos 100_000) names

-- The quotes `a`, at 1.5, and `y`, at 0.25, a curve `c` with a helper on each, an engine `e` on it, and a bond `b`; `z` lies beneath none. The bench is worth a curve and a bond the first of what they use.
abbrev pub sloped : Market
sloped = record {
  today = pos 0;
  made =
      (1, Quote (Some (pos 1_500_000_000))) ∷ (2, Quote (Some (pos 250_000_000))) ∷ (3, Quote None)
      ∷ (4, Curve (curve_of (deposit ∷ record deposit { quote = 2 } ∷ [])))
      ∷ (5, Engine 4) ∷ (6, Flows (record { flows = Known (pos 100) (pos 7) None ∷ []; index = None }) (Some 5)) ∷ [];
  names = codes "today" ∷ codes "a" ∷ codes "y" ∷ codes "z" ∷ codes "c" ∷ codes "e" ∷ codes "b" ∷ [];
}

pub record IsWorked : Type 0 where
  pub stock : shown (codes "s" ∷ []) ≡
      codes "name,measure,quote,value\ns,value,,1500.000000\ns,delta,a,0.100000\ns,gamma,a,0.000000\ns,theta,1970-01-02,0.000000\n"
  pub refused : shown (codes "t" ∷ []) ≡ codes "name,measure,quote,value\nt,value,,refused unset z\n"
  pub others : shown (codes "a" ∷ codes "b" ∷ []) ≡
      codes "name,measure,quote,value\na,value,,refused kind\nb,value,,refused unknown\n"
  pub shift : risk_text plain (standing_of sloped) (pos 100_000) (codes "b" ∷ []) ≡
      codes "name,measure,quote,value\nb,value,,1500.000000\nb,delta,a,0.100000\nb,gamma,a,0.000000\nb,delta,y,0.000000\nb,gamma,y,0.000000\n"
      ++ codes "b,delta,c,0.100000\nb,gamma,c,0.000000\nb,sum,c,0.100000\nb,cross,c,0.000000\n"
      ++ codes "b,theta,1970-01-02,paid refused unpriced b\n"
  pub calls : log_of (risk_calls plain (standing_of small) (pos 100_000) (codes "s" ∷ codes "s" ∷ [])) ≡
      (3, true) ∷ (3, true) ∷ (3, true) ∷ (3, true) ∷ (3, true) ∷ (3, true) ∷ (3, true) ∷ []
  pub nothing : risk_calls plain (standing_of small) (pos 100_000) (codes "a" ∷ []) ≡ []

-- ---- theta

-- a bench that is worth a curve one from today on, a bond 50 on day 0 and 45 behind it, all else 50
abbrev pub worth_on : ℤ → Outcome
worth_on today = if int_le today (pos 0) then Ok (Money (pos 50)) else Ok (Money (pos 45))

abbrev pub flat_price : ℕ → Option ℤ → Terms → Outcome
flat_price o None terms = Ok (Money (pos 50))
flat_price o (Some today) (Curve terms) = Ok (value.Curve (record { owner = o; reference = today; nodes = [] }))
flat_price o (Some today) (Flows flows engine) = worth_on today
flat_price o (Some today) (Quote rate) = Err (TooLarge o)
flat_price o (Some today) (Derived minus first second) = Err (TooLarge o)
flat_price o (Some today) (Handle kind target) = Err (TooLarge o)
flat_price o (Some today) (Implied curve reference) = Err (TooLarge o)
flat_price o (Some today) (Index terms fixings) = Err (TooLarge o)
flat_price o (Some today) (Engine curve) = Err (TooLarge o)
flat_price o (Some today) (Stock quote) = Err (TooLarge o)
flat_price o (Some today) (Composite parts) = Err (TooLarge o)

abbrev pub flat : Calc
flat reading = flat_price reading.object reading.today reading.terms

-- a quote, 1, a curve, 2, an engine on it, 3, a bond that pays 3 on day 1 and 7 on day 2, 4, a stock, 5, and a composite of twice the bond and
-- the stock, 6
abbrev pub dated : market.Market
dated = record {
  today = pos 0;
  objects = slot.Today ∷ slot.Live (Quote (Some (pos 5))) ∷ slot.Live (Curve (curve_of (deposit ∷ []))) ∷ slot.Live (Engine 2)
      ∷ slot.Live (Flows (record { flows = Known (pos 1) (pos 3) None ∷ Known (pos 2) (pos 7) None ∷ []; index = None }) (Some 3)) ∷ slot.Live (Stock 1)
      ∷ slot.Live (Composite (record { weight = pos 2; member = 4 } ∷ record { weight = pos 1; member = 5 } ∷ [])) ∷ [];
}

pub record IsTheta : Type 0 where
  pub day : tomorrow_of dated 4 ≡ Some (pos 1)
  pub paid_bond : paid dated 4 (span_at flat dated 4 (pos 1)) ≡ Ok (pos 3)
  pub paid_later : paid dated 4 (span_at flat dated 4 (pos 2)) ≡ Ok (pos 10)
  pub paid_stock : paid dated 5 (span_at flat dated 5 (pos 1)) ≡ Ok (pos 0)
  pub paid_composite : paid dated 6 (span_at flat dated 6 (pos 1)) ≡ Ok (pos 6)
  pub bond : theta_of flat dated 4 (pos 50) ≡ theta.On (pos 1) (gain.Is (neg_ℤ (pos 2)))
  pub refused : gain_of (pos 50) (Err (TooLarge 4)) (Ok (pos 3)) ≡ gain.Tomorrow (TooLarge 4)
  pub unpaid : gain_of (pos 50) (Ok (pos 45)) (Err (TooLarge 4)) ≡ gain.Paid (TooLarge 4)
  pub reference_day : settled (pos 1) (Some (record { owner = 2; reference = pos 3; nodes = [] })) ≡ pos 3
  pub last_day : tomorrow_of (record dated { today = pos 84_005 }) 5 ≡ None

-- words with this size
abbrev pub asked : List ℕ → Option Request
asked size = request_of (codes "m" ∷ size ∷ codes "b" ∷ [])

abbrev pub taken : ℤ → Option Request
taken size = Some (record { market = codes "m"; size = size; names = codes "b" ∷ [] })

pub record AreTaken : Type 0 where
  pub point : asked (codes "0.0001") ≡ taken (pos 100_000)
  pub least : asked (codes "0.000000001") ≡ taken (pos 1)
  pub most : asked (codes "1000000000") ≡ taken (pos (10 ^ 18))
  pub beyond : asked (codes "1000000000.000000001") ≡ None
  pub zero : asked (codes "0") ≡ None
  pub below : asked (codes "-0.0001") ≡ None
  pub places : asked (codes "0.0000000001") ≡ None
  pub word : asked (codes "bp") ≡ None
  pub no_name : request_of (codes "m" ∷ codes "0.0001" ∷ []) ≡ None
  pub no_size : request_of (codes "m" ∷ []) ≡ None
  pub comma : request_of (codes "m" ∷ codes "0.0001" ∷ codes "b" ∷ codes "a,b" ∷ []) ≡ None
  pub option : request_of (codes "-m" ∷ codes "0.0001" ∷ codes "b" ∷ []) ≡ None
