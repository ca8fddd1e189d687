-- What stays of a text where only some of a line was appended.
use Rattle.std.proofs.Common.{◌≡◌, ℕ, List, ◌++◌, length, take, drop, Result, Ok, Err, OnErr, sym, ◌∙◌, ap, append_assoc}
use Rattle.std.proofs.Math.Seq.{take-length, take-append_seam}
use Rattle.std.proofs.lemmas.List.{take-append-drop}
use Rattle.price_report.specs.Front.{KeepsFront}

-- a text that is as it was
pub front_same : (old new : List ℕ) → new ≡ old → KeepsFront old new
front_same old new e = rw e (take-length old)

-- one that grew, and then kept that
pub front_on : (old mid new more : List ℕ) → mid ≡ old ++ more → KeepsFront mid new → KeepsFront old new
front_on old mid new more e kept =
    let rest = drop (length mid) new in
    let whole : new ≡ old ++ (more ++ rest) = sym (take-append-drop (length mid) new) ∙ ap (λ front. front ++ rest) (kept ∙ e) ∙ append_assoc old more rest in
    ap (take (length old)) whole ∙ take-append_seam old (more ++ rest)

-- what holds anyhow holds of a fault
pub on_err : {T E P : Type 0} (r : Result T E) → P → OnErr r P
on_err (Ok x) p = tt
on_err (Err e) p = p
