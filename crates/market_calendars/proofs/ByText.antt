-- Entries by the texts of their keys.
use Rattle.std.proofs.Common.{◌≡◌, ℕ, Bool, true, false, cond, List, [], ◌∷◌, map, Some, refl, ap}
use Rattle.std.specs.Map.{lookup}
use Rattle.std.specs.Str.{bytes_eq}
use Rattle.indexmap.specs.IndexMap.{insert_entry}

module _ {K X : Type 0} (text : K → List ℕ) where
  -- the entries with the texts of their keys
  abbrev pub by_text : List (K × X) → List (List ℕ × X)
  by_text es = map (λ e. (text e.0, e.1)) es

  pub lookup-by_text : (t : List ℕ) (es : List (K × X)) → lookup (λ k. bytes_eq t (text k)) es ≡ lookup (bytes_eq t) (by_text es)
  lookup-by_text t [] = refl
  lookup-by_text t (e ∷ es) = ap (λ found. cond (bytes_eq t (text e.0)) (Some e.1) found) (lookup-by_text t es)

  pub insert_entry-by_text : (k : K) (x : X) (es : List (K × X)) → by_text (insert_entry (λ a b. bytes_eq (text a) (text b)) es k x) ≡ insert_entry bytes_eq (by_text es) (text k) x
  insert_entry-by_text k x [] = refl
  insert_entry-by_text k x (e ∷ es) = step (bytes_eq (text k) (text e.0)) (insert_entry-by_text k x es)
    where
      step : (b : Bool) → by_text (insert_entry (λ a b. bytes_eq (text a) (text b)) es k x) ≡ insert_entry bytes_eq (by_text es) (text k) x
          → by_text (cond b ((e.0, x) ∷ es) (e ∷ insert_entry (λ a b. bytes_eq (text a) (text b)) es k x)) ≡ cond b ((text e.0, x) ∷ by_text es) ((text e.0, e.1) ∷ insert_entry bytes_eq (by_text es) (text k) x)
      step true h = refl
      step false h = ap (λ rest. (text e.0, e.1) ∷ rest) h
