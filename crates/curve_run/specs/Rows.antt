-- Small markets, statuses and words that are worked through by hand.
use Rattle.std.specs.Prelude.{◌≡◌, ℕ, List, [], ◌∷◌, codes, true, false, pos, None, Some, Ok, Err}
use Rattle.curve_drawing.specs.declared.lines.Plot.{Plot}
use Rattle.curve_drawing.specs.declared.lines.Plot.TheVariants.{Factors, Zeros, Forwards, Pars}
use Rattle.desk_terms.specs.declared.cause.Cause.TheVariants.{TooLarge}
use Rattle.desk_terms.specs.declared.terms.Terms.{Terms}
use Rattle.desk_terms.specs.declared.terms.Terms.TheVariants.{Quote, Derived, Handle, Curve, Implied, Index, Engine, Stock, Composite, Flows}
use Rattle.desk_terms.specs.declared.value.Value.TheVariants as value
use Rattle.desk_terms.specs.Reading.{Outcome, Calc}
use Rattle.desk_model.specs.Examples.{curve_of}
use Rattle.desk_model.specs.Visit.{log_of}
use Rattle.market_file.specs.Market.{Market}
use Rattle.market_desk.specs.Standing.{standing_of}
use Rattle.tool_frame.specs.declared.status.MarketStatus.TheVariants as ended
use Rattle.curve_run.specs.declared.status.CurveStatus.{CurveStatus}
use Rattle.curve_run.specs.declared.status.CurveStatus.TheVariants.{Of, Refused}
use Rattle.curve_run.specs.Lines.{Shown, curve_text, curve_calls}
use Rattle.curve_run.specs.Status.{code_of, words_of, status_for}
use Rattle.curve_run.specs.Words.{request_of}

-- The quote `r`, without a value, a curve `c`, and `m`, which is `c` seen from a later day.
abbrev pub entries : List (ℕ × Terms)
entries = (1, Quote None) ∷ (2, Curve (curve_of [])) ∷ (3, Implied 2 (pos 19_774)) ∷ []

abbrev pub small : Market
small = record {
  today = pos 19_724;
  made = entries;
  names = codes "today" ∷ codes "r" ∷ codes "c" ∷ codes "m" ∷ [];
}

-- the quote alone
abbrev pub bare : Market
bare = record { today = pos 19_724; made = (1, Quote None) ∷ []; names = codes "today" ∷ codes "r" ∷ [] }

-- a way to price: each curve from 2024-01-02 with one node, all else is refused
abbrev pub straight_price : ℕ → Terms → Outcome
straight_price o (Curve terms) =
    Ok (value.Curve (record { owner = o; reference = pos 19_724; nodes = record { day = pos 19_824; factor = pos 990_099_009_901 } ∷ [] }))
straight_price o (Quote rate) = Err (TooLarge o)
straight_price o (Derived minus first second) = Err (TooLarge o)
straight_price o (Handle kind target) = Err (TooLarge o)
straight_price o (Implied curve reference) = Err (TooLarge o)
straight_price o (Index terms fixings) = Err (TooLarge o)
straight_price o (Engine curve) = Err (TooLarge o)
straight_price o (Stock quote) = Err (TooLarge o)
straight_price o (Composite parts) = Err (TooLarge o)
straight_price o (Flows flows engine) = Err (TooLarge o)

abbrev pub straight : Calc
straight reading = straight_price reading.object reading.terms

-- the table of these names
abbrev pub sheet_text : Plot → Market → List (List ℕ) → Shown
sheet_text plot market names =
    curve_text straight (standing_of market) (record { as_table = true; plot = plot; today = market.today }) names

abbrev pub table_of : Market → List (List ℕ) → Shown
table_of market names = sheet_text Factors market names

pub record IsWorked : Type 0 where
  pub curve : table_of small (codes "c" ∷ []) ≡
      Ok (codes "curve,day,discount\nc,2024-01-02,1.000000000000\nc,2024-04-11,0.990099009901\n")
  pub zeros : sheet_text Zeros small (codes "c" ∷ []) ≡
      Ok (codes "curve,day,zero\nc,2024-02-02,0.036249876\nc,2024-03-02,0.036354582\nc,2024-04-02,0.036467180\nc,2024-04-11,0.036500000\n")
  pub refused : table_of small (codes "c" ∷ codes "m" ∷ []) ≡ Err (codes "m refused toolarge m\n")
  pub unnamed : table_of small (codes "x" ∷ codes "c" ∷ codes "today" ∷ codes "r" ∷ []) ≡
      Err (codes "refused curve unknown x\nrefused curve kind today\nrefused curve kind r\n")
  pub none : table_of bare (codes "c" ∷ codes "r" ∷ []) ≡ Err (codes "refused curve none\n")
  pub drawn_so : status_for (table_of small (codes "c" ∷ [])) ≡ Of ended.Done
  pub unnamed_so : status_for (table_of small (codes "x" ∷ codes "c" ∷ [])) ≡ Refused
  pub valueless_so : status_for (table_of small (codes "m" ∷ [])) ≡ Refused
  pub calls : log_of (curve_calls straight (standing_of small) (codes "c" ∷ codes "m" ∷ codes "c" ∷ [])) ≡ (2, true) ∷ (3, false) ∷ []
  pub no_calls : curve_calls straight (standing_of small) (codes "c" ∷ codes "r" ∷ []) ≡ []

-- a code, and the words behind the program's name
abbrev pub Tells : CurveStatus → ℕ → List ℕ → Type 0
Tells status code words = (code_of status ≡ code) × (words_of status ≡ words)

pub record AreTold : Type 0 where
  pub done : Tells (Of ended.Done) 0 []
  pub no_memory : Tells (Of ended.NoMemory) 7 (codes "no memory")
  pub refused : Tells Refused 10 (codes "refused")

abbrev pub eight : List (List ℕ)
eight = codes "a" ∷ codes "b" ∷ codes "c" ∷ codes "d" ∷ codes "e" ∷ codes "f" ∷ codes "g" ∷ codes "a" ∷ []

pub record AreTaken : Type 0 where
  pub one : request_of (codes "m" ∷ codes "c" ∷ []) ≡
      Some (record { as_table = false; plot = Factors; market = codes "m"; curves = codes "c" ∷ [] })
  pub table : request_of (codes "--csv" ∷ codes "m" ∷ codes "c" ∷ codes "d" ∷ []) ≡
      Some (record { as_table = true; plot = Factors; market = codes "m"; curves = codes "c" ∷ codes "d" ∷ [] })
  pub zeros : request_of (codes "--zero" ∷ codes "m" ∷ codes "c" ∷ []) ≡
      Some (record { as_table = false; plot = Zeros; market = codes "m"; curves = codes "c" ∷ [] })
  pub forwards : request_of (codes "--csv" ∷ codes "--forward" ∷ codes "m" ∷ codes "c" ∷ []) ≡
      Some (record { as_table = true; plot = Forwards; market = codes "m"; curves = codes "c" ∷ [] })
  pub pars : request_of (codes "--par" ∷ codes "m" ∷ codes "c" ∷ []) ≡
      Some (record { as_table = false; plot = Pars; market = codes "m"; curves = codes "c" ∷ [] })
  pub both : request_of (codes "--zero" ∷ codes "--forward" ∷ codes "m" ∷ codes "c" ∷ []) ≡ None
  pub turned : request_of (codes "--zero" ∷ codes "--csv" ∷ codes "m" ∷ codes "c" ∷ []) ≡ None
  pub all : request_of (codes "m" ∷ eight) ≡ Some (record { as_table = false; plot = Factors; market = codes "m"; curves = eight })
  pub nine : request_of (codes "m" ∷ codes "z" ∷ eight) ≡ None
  pub nothing : request_of [] ≡ None
  pub no_name : request_of (codes "m" ∷ []) ≡ None
  pub no_name_of_a_table : request_of (codes "--csv" ∷ codes "m" ∷ []) ≡ None
  pub behind : request_of (codes "m" ∷ codes "c" ∷ codes "--csv" ∷ []) ≡ None
  pub twice : request_of (codes "--csv" ∷ codes "--csv" ∷ codes "m" ∷ codes "c" ∷ []) ≡ None
  pub option : request_of (codes "--svg" ∷ codes "m" ∷ codes "c" ∷ []) ≡ None
  pub empty : request_of (codes "m" ∷ [] ∷ []) ≡ None
