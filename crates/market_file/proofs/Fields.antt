-- What a reader takes from a field is of the sort of the field's place.
use Rattle.std.proofs.Common.{Option, Some, None, Result, Ok, Err}
use Rattle.market_tables.specs.declared.fault.MarketKind.{MarketKind}
use Rattle.market_tables.proofs.Sorted.{IsOf}
use Rattle.market_fields.specs.declared.field.Field.{Field}
use Rattle.market_fields.specs.declared.field.Field.TheVariants as field
use Rattle.market_fields.specs.declared.keys.ObjectPlace.{ObjectPlace}
use Rattle.market_fields.specs.Field.{must, name_in, object_in, named_in, count_in, tenor_in, parts_in, helpers_in}
use Rattle.market_file.proofs.Given.{Given}

-- of what is there
abbrev pub IfThere : {X : Type 0} → (X → Type 0) → Option X → Type 0
IfThere Q None = Unit {0}
IfThere Q (Some x) = Q x

pub must_so : {X : Type 0} (Q : X → Type 0) (r : Result (Option X) MarketKind) → Given (IfThere Q) r → Given Q (must r)
must_so Q (Ok None) h = tt
must_so Q (Ok (Some x)) h = h
must_so Q (Err k) h = tt

module _ (Of : ObjectPlace → Field → Type 0) (p : ObjectPlace) where
  pub name_so : (f : Option Field) → IsOf Of p f → Given (IfThere (λ name. Of p (field.Name name))) (name_in f)
  name_so None h = tt
  name_so (Some (field.Name name)) h = h
  name_so (Some (field.Object object)) h = tt
  name_so (Some (field.Named named)) h = tt
  name_so (Some (field.Target target)) h = tt
  name_so (Some (field.Day day)) h = tt
  name_so (Some (field.Weight weight)) h = tt
  name_so (Some (field.Parts parts)) h = tt
  name_so (Some (field.Calendar calendar)) h = tt
  name_so (Some (field.Count count)) h = tt
  name_so (Some (field.Helpers helpers)) h = tt
  name_so (Some (field.Tenor tenor)) h = tt
  name_so (Some (field.Rule rule)) h = tt
  name_so (Some (field.Convention convention)) h = tt
  name_so (Some (field.Flag flag)) h = tt
  name_so (Some (field.Counter counter)) h = tt
  name_so (Some (field.Notional notional)) h = tt
  name_so (Some (field.Rate rate)) h = tt
  name_so (Some (field.Sign sign)) h = tt

  pub object_so : (f : Option Field) → IsOf Of p f → Given (IfThere (λ object. Of p (field.Object object))) (object_in f)
  object_so None h = tt
  object_so (Some (field.Name name)) h = tt
  object_so (Some (field.Object object)) h = h
  object_so (Some (field.Named named)) h = tt
  object_so (Some (field.Target target)) h = tt
  object_so (Some (field.Day day)) h = tt
  object_so (Some (field.Weight weight)) h = tt
  object_so (Some (field.Parts parts)) h = tt
  object_so (Some (field.Calendar calendar)) h = tt
  object_so (Some (field.Count count)) h = tt
  object_so (Some (field.Helpers helpers)) h = tt
  object_so (Some (field.Tenor tenor)) h = tt
  object_so (Some (field.Rule rule)) h = tt
  object_so (Some (field.Convention convention)) h = tt
  object_so (Some (field.Flag flag)) h = tt
  object_so (Some (field.Counter counter)) h = tt
  object_so (Some (field.Notional notional)) h = tt
  object_so (Some (field.Rate rate)) h = tt
  object_so (Some (field.Sign sign)) h = tt

  pub named_so : (f : Option Field) → IsOf Of p f → Given (IfThere (λ named. Of p (field.Named named))) (named_in f)
  named_so None h = tt
  named_so (Some (field.Name name)) h = tt
  named_so (Some (field.Object object)) h = tt
  named_so (Some (field.Named named)) h = h
  named_so (Some (field.Target target)) h = tt
  named_so (Some (field.Day day)) h = tt
  named_so (Some (field.Weight weight)) h = tt
  named_so (Some (field.Parts parts)) h = tt
  named_so (Some (field.Calendar calendar)) h = tt
  named_so (Some (field.Count count)) h = tt
  named_so (Some (field.Helpers helpers)) h = tt
  named_so (Some (field.Tenor tenor)) h = tt
  named_so (Some (field.Rule rule)) h = tt
  named_so (Some (field.Convention convention)) h = tt
  named_so (Some (field.Flag flag)) h = tt
  named_so (Some (field.Counter counter)) h = tt
  named_so (Some (field.Notional notional)) h = tt
  named_so (Some (field.Rate rate)) h = tt
  named_so (Some (field.Sign sign)) h = tt

  pub count_so : (f : Option Field) → IsOf Of p f → Given (IfThere (λ count. Of p (field.Count count))) (count_in f)
  count_so None h = tt
  count_so (Some (field.Name name)) h = tt
  count_so (Some (field.Object object)) h = tt
  count_so (Some (field.Named named)) h = tt
  count_so (Some (field.Target target)) h = tt
  count_so (Some (field.Day day)) h = tt
  count_so (Some (field.Weight weight)) h = tt
  count_so (Some (field.Parts parts)) h = tt
  count_so (Some (field.Calendar calendar)) h = tt
  count_so (Some (field.Count count)) h = h
  count_so (Some (field.Helpers helpers)) h = tt
  count_so (Some (field.Tenor tenor)) h = tt
  count_so (Some (field.Rule rule)) h = tt
  count_so (Some (field.Convention convention)) h = tt
  count_so (Some (field.Flag flag)) h = tt
  count_so (Some (field.Counter counter)) h = tt
  count_so (Some (field.Notional notional)) h = tt
  count_so (Some (field.Rate rate)) h = tt
  count_so (Some (field.Sign sign)) h = tt

  pub tenor_so : (f : Option Field) → IsOf Of p f → Given (IfThere (λ tenor. Of p (field.Tenor tenor))) (tenor_in f)
  tenor_so None h = tt
  tenor_so (Some (field.Name name)) h = tt
  tenor_so (Some (field.Object object)) h = tt
  tenor_so (Some (field.Named named)) h = tt
  tenor_so (Some (field.Target target)) h = tt
  tenor_so (Some (field.Day day)) h = tt
  tenor_so (Some (field.Weight weight)) h = tt
  tenor_so (Some (field.Parts parts)) h = tt
  tenor_so (Some (field.Calendar calendar)) h = tt
  tenor_so (Some (field.Count count)) h = tt
  tenor_so (Some (field.Helpers helpers)) h = tt
  tenor_so (Some (field.Tenor tenor)) h = h
  tenor_so (Some (field.Rule rule)) h = tt
  tenor_so (Some (field.Convention convention)) h = tt
  tenor_so (Some (field.Flag flag)) h = tt
  tenor_so (Some (field.Counter counter)) h = tt
  tenor_so (Some (field.Notional notional)) h = tt
  tenor_so (Some (field.Rate rate)) h = tt
  tenor_so (Some (field.Sign sign)) h = tt

  pub parts_so : (f : Option Field) → IsOf Of p f → Given (IfThere (λ parts. Of p (field.Parts parts))) (parts_in f)
  parts_so None h = tt
  parts_so (Some (field.Name name)) h = tt
  parts_so (Some (field.Object object)) h = tt
  parts_so (Some (field.Named named)) h = tt
  parts_so (Some (field.Target target)) h = tt
  parts_so (Some (field.Day day)) h = tt
  parts_so (Some (field.Weight weight)) h = tt
  parts_so (Some (field.Parts parts)) h = h
  parts_so (Some (field.Calendar calendar)) h = tt
  parts_so (Some (field.Count count)) h = tt
  parts_so (Some (field.Helpers helpers)) h = tt
  parts_so (Some (field.Tenor tenor)) h = tt
  parts_so (Some (field.Rule rule)) h = tt
  parts_so (Some (field.Convention convention)) h = tt
  parts_so (Some (field.Flag flag)) h = tt
  parts_so (Some (field.Counter counter)) h = tt
  parts_so (Some (field.Notional notional)) h = tt
  parts_so (Some (field.Rate rate)) h = tt
  parts_so (Some (field.Sign sign)) h = tt

  pub helpers_so : (f : Option Field) → IsOf Of p f → Given (IfThere (λ helpers. Of p (field.Helpers helpers))) (helpers_in f)
  helpers_so None h = tt
  helpers_so (Some (field.Name name)) h = tt
  helpers_so (Some (field.Object object)) h = tt
  helpers_so (Some (field.Named named)) h = tt
  helpers_so (Some (field.Target target)) h = tt
  helpers_so (Some (field.Day day)) h = tt
  helpers_so (Some (field.Weight weight)) h = tt
  helpers_so (Some (field.Parts parts)) h = tt
  helpers_so (Some (field.Calendar calendar)) h = tt
  helpers_so (Some (field.Count count)) h = tt
  helpers_so (Some (field.Helpers helpers)) h = h
  helpers_so (Some (field.Tenor tenor)) h = tt
  helpers_so (Some (field.Rule rule)) h = tt
  helpers_so (Some (field.Convention convention)) h = tt
  helpers_so (Some (field.Flag flag)) h = tt
  helpers_so (Some (field.Counter counter)) h = tt
  helpers_so (Some (field.Notional notional)) h = tt
  helpers_so (Some (field.Rate rate)) h = tt
  helpers_so (Some (field.Sign sign)) h = tt
