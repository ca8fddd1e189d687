-- What holds of whatever a step gives.
use Rattle.std.proofs.Common.{◌≡◌, ℕ, Result, Ok, Err, subst}
use Rattle.market_tables.specs.Given.{◌>>=◌}
use Rattle.market_tables.specs.declared.fault.MarketKind.{MarketKind}
use Rattle.market_tables.specs.Entries.{at_entry}
use Rattle.market_tables.proofs.Sorted.{IfGiven}

abbrev pub Given : {X E : Type 0} → (X → Type 0) → Result X E → Type 0
Given Q (Ok x) = Q x
Given Q (Err e) = Unit {0}

pub bound : {X Y E : Type 0} (P : X → Type 0) (Q : Y → Type 0) (r : Result X E) (f : X → Result Y E) → Given P r → ((x : X) → P x → Given Q (f x)) → Given Q (r >>= f)
bound P Q (Ok x) f h g = g x h
bound P Q (Err e) f h g = tt

abbrev pub Any : {X : Type 0} → X → Type 0
Any x = Unit {0}

pub always : {X E : Type 0} (Q : X → Type 0) (r : Result X E) → ((x : X) → Q x) → Given Q r
always Q (Ok x) h = h x
always Q (Err e) h = tt

-- the same past a step of which nothing is known
pub past : {X Y E : Type 0} (Q : Y → Type 0) (r : Result X E) (f : X → Result Y E) → ((x : X) → Given Q (f x)) → Given Q (r >>= f)
past Q (Ok x) f g = g x
past Q (Err e) f g = tt

pub holds : {X E : Type 0} (Q : X → Type 0) (r : Result X E) (x : X) → r ≡ Ok x → Given Q r → Q x
holds Q r x is given = subst (λ r. Given Q r) is given

pub from_sorted : {X : Type 0} (Q : X → Type 0) (r : Result X MarketKind) → IfGiven Q r → Given Q r
from_sorted Q (Ok x) h = h
from_sorted Q (Err e) h = tt

pub to_sorted : {X : Type 0} (Q : X → Type 0) (r : Result X MarketKind) → Given Q r → IfGiven Q r
to_sorted Q (Ok x) h = h
to_sorted Q (Err e) h = tt

pub at_given : {X : Type 0} (Q : X → Type 0) (n : ℕ) (r : Result X MarketKind) → Given Q r → Given Q (at_entry n r)
at_given Q n (Ok x) h = h
at_given Q n (Err e) h = tt
