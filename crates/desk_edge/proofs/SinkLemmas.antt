-- How pieces that a sink takes in turn make one.
use Rattle.std.proofs.Common.{◌≡◌, ◌∙◌, ap, sym, ℕ, ◌+◌, ◌-◌, List, [], ◌++◌, length, take, drop, append_assoc, refl, Option, None, Some}
use Rattle.std.proofs.Math.Seq.{take-add}
use Rattle.std.proofs.lemmas.List.{append-nil, take_rest}
use Rattle.desk_edge.specs.Sink.{appended}

-- one piece after another
pub appended-appended : (a b : List ℕ) (told : Option (List ℕ)) → appended b (appended a told) ≡ appended (a ++ b) told
appended-appended a b None = refl
appended-appended a b (Some bytes) = ap (λ (l : List ℕ). Some l) (append_assoc bytes a b)

-- no bytes change nothing
pub appended-nil : (told : Option (List ℕ)) → appended [] told ≡ told
appended-nil None = refl
appended-nil (Some bytes) = ap (λ (l : List ℕ). Some l) (append-nil bytes)

-- the next bytes of a text, after those before them
pub appended-take : (at count : ℕ) (bytes : List ℕ) (told mid new : Option (List ℕ)) → mid ≡ appended (take at bytes) told → new ≡ appended (take count (take (length bytes - at) (drop at bytes))) mid → new ≡ appended (take (at + count) bytes) told
appended-take at count bytes told mid new is_mid is_new =
    is_new
    ∙ ap (λ (l : List ℕ). appended (take count l) mid) (take_rest bytes at)
    ∙ ap (λ (o : Option (List ℕ)). appended (take count (drop at bytes)) o) is_mid
    ∙ appended-appended (take at bytes) (take count (drop at bytes)) told
    ∙ ap (λ (l : List ℕ). appended l told) (sym (take-add at count bytes))
