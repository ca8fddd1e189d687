-- Where an object stands among the parts of a composite.
use Rattle.std.specs.Prelude.{ℕ, ◌==◌, List, Option}
use Rattle.std.specs.List.{position}
use Rattle.desk_terms.specs.declared.terms.Part.{Part}

-- its place among them, counted from 0; none where it is no member
abbrev pub place_of : List Part → ℕ → Option ℕ
place_of parts member = position (λ part. part.member == member) parts
