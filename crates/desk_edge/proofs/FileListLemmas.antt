-- A look through the files of a list, place by place.
use Rattle.std.proofs.Common.{◌≡◌, ◌∙◌, ap, sym, refl, ℕ, ◌+◌, ◌<◌, ◌≤◌, true, false, List, ◌∷◌, length, get_or, drop, Some}
use Rattle.std.proofs.lemmas.List.{at_drop_more}
use Rattle.std.specs.Str.{bytes_eq}
use Rattle.desk_edge.specs.Shelf.{file_at}

module _ (files : List (List ℕ × List ℕ)) (at : ℕ) (path : List ℕ) (file : List ℕ × List ℕ) (within : at < length files) (is : file ≡ get_or files at file) where
  split : file_at (drop at files) path ≡ file_at (file ∷ drop (at + 1) files) path
  split = at_drop_more (λ (l : List (List ℕ × List ℕ)). file_at l path) files at file within ∙ ap (λ (f : List ℕ × List ℕ). file_at (f ∷ drop (at + 1) files) path) (sym is)

  -- the file at this place has the path
  pub file_here : bytes_eq file.0 path ≡ true → file_at (drop at files) path ≡ Some file.1
  file_here same = split ∙ rw same refl

  -- it has another one
  pub file_later : bytes_eq file.0 path ≡ false → file_at (drop at files) path ≡ file_at (drop (at + 1) files) path
  file_later other = split ∙ rw other refl
