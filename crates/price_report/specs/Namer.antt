-- The names of objects.
use Rattle.std.specs.Prelude.{ℕ, List, [], Option, Some, None, slice_get, slice_index_or}

-- the text of a name, by its number; a number that stands for no name has no bytes
abbrev pub name_text : List (List ℕ) → ℕ → List ℕ
name_text names name = slice_index_or names name []

abbrev pub some_text : List (List ℕ) → Option ℕ → List ℕ
some_text names None = []
some_text names (Some name) = name_text names name

-- the text of an object's name, where `of_object` lists the names of the objects by their numbers
abbrev pub object_text : List (List ℕ) → List ℕ → ℕ → List ℕ
object_text names of_object o = some_text names (slice_get of_object o)
