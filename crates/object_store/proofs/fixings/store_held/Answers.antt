use Rattle.std.proofs.Common.{◌≡◌, sym, ◌∙◌, subst}
use Rattle.std.specs.Prelude.{◌↔◌, Some, Err}
use Rattle.flow_terms.specs.declared.fixings.FixFault.TheVariants.{Exists}
use Rattle.flow_terms.specs.Fixings.{Stored, fixing_on}
use Rattle.object_store.proofs.Indexes.{same_fixings}
use Rattle.object_store.proofs.fixings.store_held.Goals as goal

pub returns-clause-exists : goal.returns-clause-exists
returns-clause-exists c index fixings is kept =
    subst (λ (f : Stored). (c.add.result ≡ Err (Exists kept)) ↔ (fixing_on f c.args.day ≡ Some kept)) (same_fixings c.in-Index.field-0 index c.in-Index.fixings fixings (sym c.in-Index.is ∙ is)) (c.add.ensures.exists kept)
