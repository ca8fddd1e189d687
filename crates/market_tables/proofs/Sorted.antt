-- Each field is of the sort of its place: so a default of a field's reader is never taken.
use Rattle.std.proofs.Common.{Bool, true, false, List, [], ◌∷◌, Option, Some, None, Result, Ok, Err}
use Rattle.toml.specs.Data.{Data, Members, get_member}
use Rattle.market_tables.specs.declared.fault.MarketKind.{MarketKind}
use Rattle.market_tables.specs.Given.{◌>>=◌}
use Rattle.market_tables.specs.Table.{Key, Required, field_at, field_in, fields_of}

-- the field, where there is one, is of the place's sort
abbrev pub IsOf : {P F : Type 0} → (P → F → Type 0) → P → Option F → Type 0
IsOf Of place None = Unit {0}
IsOf Of place (Some f) = Of place f

abbrev pub AreOf : {W P F : Type 0} → (P → F → Type 0) → List (Key W P) → List (Option F) → Type 0
AreOf Of [] [] = Unit {0}
AreOf Of [] (f ∷ fs) = ⊥
AreOf Of (k ∷ ks) [] = ⊥
AreOf Of (k ∷ ks) (f ∷ fs) = IsOf Of k.place f × AreOf Of ks fs

abbrev pub IfGiven : {X : Type 0} → (X → Type 0) → Result X MarketKind → Type 0
IfGiven Q (Ok x) = Q x
IfGiven Q (Err k) = Unit {0}

bound : {X Y : Type 0} (P : X → Type 0) (Q : Y → Type 0) (r : Result X MarketKind) (f : X → Result Y MarketKind) → IfGiven P r → ((x : X) → P x → IfGiven Q (f x)) → IfGiven Q (r >>= f)
bound P Q (Ok x) f h g = g x h
bound P Q (Err k) f h g = tt

at_key : {P F : Type 0} (Of : P → F → Type 0) (gives : P → Data → Result F MarketKind) → ((p : P) (d : Data) → IfGiven (Of p) (gives p d)) → (must : Bool) (p : P) (d : Option Data) → IfGiven (IsOf Of p) (field_at gives must p d)
at_key Of gives sorts true p None = tt
at_key Of gives sorts false p None = tt
at_key Of gives sorts must p (Some d) = bound (Of p) (IsOf Of p) (gives p d) (λ f. Ok (Some f)) (sorts p d) (λ f h. h)

anything : {X : Type 0} (r : Result X MarketKind) → IfGiven (λ _. Unit {0}) r
anything (Ok x) = tt
anything (Err k) = tt

-- what the keys of a table give is of their places' sorts
pub fields_fit : {W P F : Type 0} (Of : P → F → Type 0) (required : Required W) (gives : P → Data → Result F MarketKind) → ((p : P) (d : Data) → IfGiven (Of p) (gives p d))
    → (ks : List (Key W P)) (table : Members) → IfGiven (AreOf Of ks) (fields_of required gives ks table)
fields_fit Of required gives sorts [] table = tt
fields_fit Of required gives sorts (k ∷ ks) table =
    let more = fields_fit Of required gives sorts ks table in
    let first : IfGiven (IsOf Of k.place) (field_in required gives k table) =
    bound (λ _. Unit {0}) (IsOf Of k.place) (required k.presence table) (λ must. field_at gives must k.place (get_member k.word table)) (anything _) (λ must _. at_key Of gives sorts must k.place _) in
    bound (IsOf Of k.place) (AreOf Of (k ∷ ks)) (field_in required gives k table) (λ f. fields_of required gives ks table >>= (λ fs. Ok (f ∷ fs))) first
    (λ f h. bound (AreOf Of ks) (AreOf Of (k ∷ ks)) (fields_of required gives ks table) (λ fs. Ok (f ∷ fs)) more (λ fs hs. (h, hs)))
