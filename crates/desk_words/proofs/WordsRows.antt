-- What lists of words ask for.
use Rattle.std.proofs.Common.{◌≡◌, List, ℕ, [], ◌∷◌, refl}
use Rattle.std.specs.Prelude.{codes, Some, None}
use Rattle.watch_rounds.specs.declared.picker.Order.TheVariants.{First, Last, Seed}
use Rattle.desk_words.specs.Words.{Run, Load, Check, request_of}

abbrev m : List ℕ
m = codes "m"

abbrev s : List ℕ
s = codes "s"

abbrev run : List ℕ
run = codes "run"

abbrev option : List ℕ
option = codes "--order"

-- the lists without an option
taken_rows : (request_of (run ∷ m ∷ s ∷ []) ≡ Some (Run m s First))
    × (request_of (codes "check" ∷ m ∷ []) ≡ Some (Check m))
    × (request_of (codes "load" ∷ codes "1" ∷ []) ≡ Some (Load 1))
    × (request_of (codes "load" ∷ codes "1000" ∷ []) ≡ Some (Load 1_000))
taken_rows = (refl, refl, refl, refl)

-- an order stands at any place behind `run`
order_rows : (request_of (run ∷ m ∷ s ∷ option ∷ codes "first" ∷ []) ≡ Some (Run m s First))
    × (request_of (run ∷ codes "--order=last" ∷ m ∷ s ∷ []) ≡ Some (Run m s Last))
    × (request_of (run ∷ m ∷ option ∷ codes "0" ∷ s ∷ []) ≡ Some (Run m s (Seed 0)))
    × (request_of (run ∷ m ∷ codes "--order=7" ∷ s ∷ []) ≡ Some (Run m s (Seed 7)))
    × (request_of (run ∷ m ∷ s ∷ codes "--order=18446744073709551615" ∷ [])
    ≡ Some (Run m s (Seed 18_446_744_073_709_551_615)))
    × (request_of (run ∷ option ∷ codes "last" ∷ m ∷ s ∷ []) ≡ Some (Run m s Last))
order_rows = (refl, refl, refl, refl, refl, refl)

-- no order, one that is none, two orders, and an order where a path is missing
no_order_rows : (request_of (run ∷ m ∷ s ∷ option ∷ []) ≡ None)
    × (request_of (run ∷ m ∷ s ∷ option ∷ codes "01" ∷ []) ≡ None)
    × (request_of (run ∷ m ∷ s ∷ option ∷ codes "-1" ∷ []) ≡ None)
    × (request_of (run ∷ m ∷ s ∷ option ∷ codes "+1" ∷ []) ≡ None)
    × (request_of (run ∷ m ∷ s ∷ codes "--order=" ∷ []) ≡ None)
    × (request_of (run ∷ m ∷ s ∷ option ∷ codes "18446744073709551616" ∷ []) ≡ None)
    × (request_of (run ∷ m ∷ s ∷ codes "--order=First" ∷ []) ≡ None)
    × (request_of (run ∷ codes "--order=first" ∷ m ∷ s ∷ codes "--order=first" ∷ []) ≡ None)
    × (request_of (run ∷ m ∷ s ∷ option ∷ codes "1" ∷ option ∷ codes "1" ∷ []) ≡ None)
    × (request_of (run ∷ option ∷ codes "first" ∷ []) ≡ None)
    × (request_of (run ∷ m ∷ option ∷ codes "first" ∷ []) ≡ None)
    × (request_of (option ∷ codes "first" ∷ run ∷ m ∷ s ∷ []) ≡ None)
    × (request_of (codes "check" ∷ m ∷ codes "--order=first" ∷ []) ≡ None)
no_order_rows = (refl, refl, refl, refl, refl, refl, refl, refl, refl, refl, refl, refl, refl)

-- a size is from 1 to 1,000, without a sign and without leading zeros
size_rows : (request_of (codes "load" ∷ codes "0" ∷ []) ≡ None)
    × (request_of (codes "load" ∷ codes "01" ∷ []) ≡ None)
    × (request_of (codes "load" ∷ codes "1001" ∷ []) ≡ None)
    × (request_of (codes "load" ∷ codes "+1" ∷ []) ≡ None)
    × (request_of (codes "load" ∷ codes "1" ∷ codes "2" ∷ []) ≡ None)
    × (request_of (codes "load" ∷ []) ≡ None)
    × (request_of (codes "load" ∷ [] ∷ []) ≡ None)
    × (request_of (codes "load" ∷ codes "1k" ∷ []) ≡ None)
size_rows = (refl, refl, refl, refl, refl, refl, refl, refl)

-- no word, one word, and words of another number
count_rows : (request_of [] ≡ None) × (request_of (codes "help" ∷ []) ≡ None)
    × (request_of (codes "--help" ∷ []) ≡ None)
    × (request_of (codes "check" ∷ []) ≡ None) × (request_of (run ∷ m ∷ []) ≡ None)
    × (request_of (codes "check" ∷ m ∷ s ∷ []) ≡ None)
    × (request_of (run ∷ m ∷ s ∷ s ∷ []) ≡ None)
count_rows = (refl, refl, refl, refl, refl, refl, refl)

-- an empty word, an option and `help` are no paths
path_rows : (request_of (run ∷ m ∷ codes "help" ∷ []) ≡ None)
    × (request_of (run ∷ codes "-m" ∷ s ∷ []) ≡ None)
    × (request_of (run ∷ [] ∷ s ∷ []) ≡ None) × (request_of (run ∷ m ∷ [] ∷ []) ≡ None)
    × (request_of (codes "check" ∷ [] ∷ []) ≡ None) × (request_of (codes "check" ∷ codes "--help" ∷ []) ≡ None)
    × (request_of (run ∷ m ∷ codes "help" ∷ codes "--order=1" ∷ []) ≡ None)
path_rows = (refl, refl, refl, refl, refl, refl, refl)

-- another verb, or none
verb_rows : (request_of (codes "loads" ∷ codes "3" ∷ []) ≡ None) × (request_of ([] ∷ m ∷ s ∷ []) ≡ None)
    × (request_of (codes "Run" ∷ m ∷ s ∷ []) ≡ None)
verb_rows = (refl, refl, refl)
