-- Words that are taken and words that are not, by hand.
use Rattle.std.specs.Prelude.{◌≡◌, true, false, [], ◌∷◌, codes, None, Some}
use Rattle.watch_rounds.specs.declared.picker.Order.TheVariants.{First, Last, Seed}
use Rattle.tool_live.specs.Words.{request_of}

pub record AreTaken : Type 0 where
  pub market : request_of (codes "m" ∷ []) ≡ Some (record { market = codes "m"; script = None; order = First; ready = false })
  pub script : request_of (codes "m" ∷ codes "--ready" ∷ codes "s" ∷ [])
      ≡ Some (record { market = codes "m"; script = Some (codes "s"); order = First; ready = true })
  pub order : request_of (codes "--order" ∷ codes "last" ∷ codes "m" ∷ [])
      ≡ Some (record { market = codes "m"; script = None; order = Last; ready = false })
  pub joined : request_of (codes "m" ∷ codes "--order=7" ∷ codes "run" ∷ codes "--ready" ∷ [])
      ≡ Some (record { market = codes "m"; script = Some (codes "run"); order = Seed 7; ready = true })

pub record AreNotTaken : Type 0 where
  pub none : request_of [] ≡ None
  pub no_market : request_of (codes "--ready" ∷ []) ≡ None
  pub three : request_of (codes "m" ∷ codes "s" ∷ codes "t" ∷ []) ≡ None
  pub option : request_of (codes "m" ∷ codes "-s" ∷ []) ≡ None
  pub help : request_of (codes "help" ∷ []) ≡ None
  pub empty : request_of ([] ∷ []) ≡ None
  pub no_order : request_of (codes "m" ∷ codes "--order" ∷ []) ≡ None
  pub other_order : request_of (codes "m" ∷ codes "--order=middle" ∷ []) ≡ None
  pub ready_is_no_order : request_of (codes "m" ∷ codes "--order" ∷ codes "--ready" ∷ []) ≡ None
  pub two_orders : request_of (codes "--order=last" ∷ codes "m" ∷ codes "--order" ∷ codes "last" ∷ []) ≡ None
  pub twice_ready : request_of (codes "--ready" ∷ codes "m" ∷ codes "--ready" ∷ []) ≡ None
