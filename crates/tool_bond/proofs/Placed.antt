-- The lines of what a name stands for.
use Rattle.std.proofs.Common.{◌≡◌, ℕ, ◌<◌, ◌≤◌, true, false, nat_lt, arith, List, length, get_or, slice_get, Option, Some, None, ℤ, codes, refl, sym, ap, ◌∙◌}
use Rattle.std.proofs.lemmas.Option.{slice_get_read, slice_get_past}
use Rattle.desk_terms.specs.declared.terms.Terms.{Terms}
use Rattle.market_file.specs.Market.{Market}
use Rattle.tool_bond.specs.declared.named.Place.{Place}
use Rattle.tool_bond.specs.declared.named.Place.TheVariants.{Object}
use Rattle.tool_bond.specs.Lines.{terms_text, unnamed_line, entry_text, place_text, name_text}
use Rattle.tool_bond.specs.Named.{place_named}
use Rattle.tool_bond.specs.Wording.{Wording}

within : (at n : ℕ) → true ≡ nat_lt at n → at < n
within at n h = grind arith

beyond : (at n : ℕ) → false ≡ nat_lt at n → n ≤ at
beyond at n h = grind arith

module _ (said : Wording) (market : Market) (name : List ℕ) (settle clean : ℤ) (at : ℕ) (made : List (ℕ × Terms)) (same : made ≡ market.made) (named : place_named market.names name ≡ Object at) where
  by_entry : (entry : Option (ℕ × Terms)) → slice_get made at ≡ entry → entry_text said market entry name settle clean ≡ name_text said market name settle clean
  by_entry entry found =
      sym (ap (λ (place : Place). place_text said market place name settle clean) named
      ∙ ap (λ (l : List (ℕ × Terms)). entry_text said market (slice_get l at) name settle clean) (sym same)
      ∙ ap (λ (e : Option (ℕ × Terms)). entry_text said market e name settle clean) found)

  pub object_text : (entry : ℕ × Terms) → true ≡ nat_lt at (length made) → entry ≡ get_or made at entry → terms_text said market entry.1 name settle clean ≡ name_text said market name settle clean
  object_text entry h is = by_entry (Some entry) (slice_get_read made (length made) at entry refl (within at (length made) h) is)

  pub nothing_text : false ≡ nat_lt at (length made) → unnamed_line said (codes "unknown") name ≡ name_text said market name settle clean
  nothing_text h = by_entry None (slice_get_past made at (beyond at (length made) h))
