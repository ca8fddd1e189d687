-- Statuses and words that are worked through by hand.
use Rattle.std.specs.Prelude.{◌≡◌, ℕ, List, [], ◌∷◌, codes, None, Some}
use Rattle.market_file.specs.declared.fault.Section.TheVariants as section
use Rattle.market_tables.specs.declared.fault.MarketKind.TheVariants as kind
use Rattle.market_loader.specs.declared.faults.MarketRole.TheVariants as role
use Rattle.tool_frame.specs.declared.status.MarketStatus.{MarketStatus}
use Rattle.tool_frame.specs.declared.status.MarketStatus.TheVariants.{Done, Usage, Market, ReadFault, WriteFault, NoMemory, Absent}
use Rattle.tool_frame.specs.Status.{code_of, words_of}
use Rattle.tool_frame.specs.Words.{pair_of}

-- a code, and the words behind the program's name
abbrev pub Shows : MarketStatus → ℕ → List ℕ → Type 0
Shows status code words = (code_of status ≡ code) × (words_of status ≡ words)

pub record AreTold : Type 0 where
  pub done : Shows Done 0 []
  pub usage : Shows Usage 2 (codes "usage")
  pub market : Shows (Market section.Quotes 12 kind.TooLong) 3 (codes "market quotes 12 toolong")
  pub read_fault : Shows ReadFault 5 (codes "read fault")
  pub write_fault : Shows WriteFault 6 (codes "write fault")
  pub no_memory : Shows NoMemory 7 (codes "no memory")
  pub absent : Shows (Absent role.Fixings) 8 (codes "no file fixings")

pub record AreTaken : Type 0 where
  pub two : pair_of (codes "m" ∷ codes "b" ∷ []) ≡ Some (record { market = codes "m"; other = codes "b" })
  pub help : pair_of (codes "help" ∷ codes "b-" ∷ []) ≡ Some (record { market = codes "help"; other = codes "b-" })
  pub one : pair_of (codes "m" ∷ []) ≡ None
  pub three : pair_of (codes "m" ∷ codes "b" ∷ codes "c" ∷ []) ≡ None
  pub option : pair_of (codes "m" ∷ codes "-b" ∷ []) ≡ None
  pub first : pair_of (codes "-" ∷ codes "b" ∷ []) ≡ None
  pub empty : pair_of (codes "m" ∷ [] ∷ []) ≡ None
