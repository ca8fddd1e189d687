-- The terms of an index and its stored rates.
use Rattle.std.proofs.Common.{◌≡◌, Some}
use Rattle.flow_terms.specs.declared.indexes.IndexTerms.{IndexTerms}
use Rattle.flow_terms.specs.Fixings.{Stored}
use Rattle.desk_terms.specs.declared.terms.Terms.{Terms}
use Rattle.desk_terms.specs.declared.terms.Terms.TheVariants as terms_of

pub same_terms : (a b : Terms) → Some a ≡ Some b → a ≡ b
same_terms a b e = cc

pub same_fixings : (a b : IndexTerms) (f g : Stored) → terms_of.Index a f ≡ terms_of.Index b g → f ≡ g
same_fixings a b f g e = cc
