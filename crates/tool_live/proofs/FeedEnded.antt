-- What the end of a feed and a failure give.
use Rattle.std.proofs.Common.{◌≡◌, ◌∙◌, ap, sym, subst, refl, ℕ, ◌==◌, true, false, ◌<◌, Result, Ok, Err, OnOk, OnErr, List, [], ◌∷◌, ◌++◌, length, take, append-nil, arith, Option, None, Some, IfSome}
use Rattle.std.proofs.lemmas.Bool.Decides.{nat_tests}
use Rattle.std.proofs.lemmas.List.{length-take}
use Rattle.std.proofs.lemmas.List.Elements.{All-nil}
use Rattle.std.proofs.Math.Seq.{take_all}
use Rattle.std.proofs.KnownBytes.{Consumes-all, Consumes-trans}
use Rattle.std.specs.Io.KnownBytes.{Consumes, IsAtEnd}
use Rattle.std.specs.Str.Lines.{lines}
use Rattle.desk_edge.specs.Sink.{appended}
use Rattle.desk_edge.proofs.SinkLemmas.{appended-appended, appended-nil}
use Rattle.tool_live.specs.Answers.{Told, Called, Answers, Hears, PutsFront}
use Rattle.tool_live.specs.Hearing.{IsOpen, most_kept}
use Rattle.tool_live.proofs.Lines.{line_stays, open_alike, alike_told}
use Rattle.tool_live.proofs.Fronts.{front_on, front_whole}
use Rattle.tool_live.proofs.Heard.{heard_then, heard_front}
use Rattle.tool_live.proofs.Pieces.{LongAsThis}

pub ok_then : {A E P Q : Type 0} (r : Result A E) → OnOk r P → (P → Q) → OnOk r Q
ok_then (Ok a) p f = f p
ok_then (Err e) p f = tt

pub err_then : {A E P Q : Type 0} (r : Result A E) → OnErr r P → (P → Q) → OnErr r Q
err_then (Ok a) p f = tt
err_then (Err e) p f = f p

pub err_with : {A E Q : Type 0} (r : Result A E) → Q → OnErr r Q
err_with (Ok a) q = tt
err_with (Err e) q = q

pub is_more : (n : ℕ) → (n == 0) ≡ false → 0 < n
is_more n some = grind (arith, nat_tests, some)

pub is_nil : (l : List ℕ) → (length l == 0) ≡ true → l ≡ []
is_nil [] none = refl
is_nil (x ∷ l) none = absurd (grind (arith, nat_tests, none))

-- what is kept of a line that is some is some
kept_some : (n : ℕ) (part kept : List ℕ) → kept ≡ take n part → 0 < n → (0 < length part → 0 < length kept) × (0 < length kept → 0 < length part)
kept_some n part kept cut some =
    let long = ap (λ (l : List ℕ). length l) cut ∙ length-take n part in
    ((λ h. omega (arith, long, h, some)), (λ h. omega (arith, long, h)))

-- no line stands open
pub open_none : (kept : List ℕ) → kept ≡ [] → IsOpen [] kept
open_none kept none = record { unended = All-nil (λ (b : ℕ). (b == 10) ≡ false); cut = none ∙ sym (take_all most_kept [] (omega arith)) }

pub open_some : (part kept : List ℕ) → IsOpen part kept → 0 < length kept → 0 < length part
open_some part kept h some = (kept_some most_kept part kept h.cut (omega arith)).1 some

-- a line of which nothing is kept is empty
pub open_empty : (part kept : List ℕ) → IsOpen part kept → kept ≡ [] → part ≡ []
open_empty [] kept h none = refl
open_empty (x ∷ part) kept h none =
    absurd (omega (arith, ap (λ (l : List ℕ). length l) none, (kept_some most_kept (x ∷ part) kept h.cut (omega arith)).0 (omega arith)))

-- the last line lacks its end
pub ended_line : (told : Told) (called : Called) (part kept : List ℕ) → IsOpen part kept → 0 < length kept
    → LongAsThis told called kept → (told (kept ∷ []) ≡ told (lines part)) × (called (kept ∷ []) ≡ called (lines part))
ended_line told called part kept h some long =
    let line = line_stays part h.unended (open_some part kept h some) in
    let alike = alike_told told called kept part long (open_alike part kept h) [] in
    (sym (ap told line ∙ alike.0), sym (ap called line ∙ alike.1))

-- what waits, and what the end calls for, is what is written for the open line and the end
pub record Ends (part : List ℕ) (told told_now : Told) (called called_now : Called) (waited waits : List ℕ) (old mid : Option (List ℕ)) : Type 0 where
  pub bytes : appended (waits ++ told_now []) mid ≡ appended (waited ++ told (lines part)) old
  pub calls : called_now [] ≡ called (lines part)
  pub grows : (said : List ℕ) × (mid ≡ appended said old)

-- no line stood open
pub ends_none : (told : Told) (called : Called) (part kept waited : List ℕ) (old : Option (List ℕ)) → IsOpen part kept → kept ≡ []
    → Ends part told told called called waited waited old old
ends_none told called part kept waited old begun none =
    let part_none = sym (open_empty part kept begun none) in record {
      bytes = ap (λ (l : List ℕ). appended (waited ++ told (lines l)) old) part_none;
      calls = ap (λ (l : List ℕ). called (lines l)) part_none;
      grows = ([], sym (appended-nil old));
    }

-- the open line was answered
pub ends_line : (told told_mid : Told) (called called_mid : Called) (part kept waited waits : List ℕ) (old mid : Option (List ℕ)) → IsOpen part kept
    → 0 < length kept → LongAsThis told called kept → Answers kept told told_mid called called_mid (appended waited old) (appended waits mid)
    → ((said : List ℕ) × (mid ≡ appended said old)) → Ends part told told_mid called called_mid waited waits old mid
ends_line told told_mid called called_mid part kept waited waits old mid begun some long answers grows =
    let line = ended_line told called part kept begun some long in record {
      bytes = sym (appended-appended waits (told_mid []) mid) ∙ answers.bytes [] ∙ appended-appended waited (told (kept ∷ [])) old
          ∙ ap (λ (l : List ℕ). appended (waited ++ l) old) line.0;
      calls = answers.calls [] ∙ line.1;
      grows = grows;
    }

-- a failure at the end
pub fails_end : (told told_now : Told) (called called_now : Called) (part waited waits : List ℕ) (old mid new : Option (List ℕ))
    → Ends part told told_now called called_now waited waits old mid → PutsFront (waits ++ told_now []) mid new → PutsFront (waited ++ told (lines part)) old new
fails_end told told_now called called_now part waited waits old mid new ends front =
    front_on old mid new ends.grows.0 (waits ++ told_now []) (waited ++ told (lines part)) ends.grows.1 ends.bytes front

-- all was heard
pub heard_all : (told told_now : Told) (called called_now : Called) (heard part waits : List ℕ) (before mid now : Option (List ℕ))
    → Hears [] heard part told told_now called called_now before mid → waits ≡ [] → now ≡ appended (waits ++ told_now (lines part)) mid
    → now ≡ appended (told (lines heard)) before
heard_all told told_now called called_now heard part waits before mid now hears none put =
    put ∙ ap (λ (l : List ℕ). appended (l ++ told_now (lines part)) mid) none
    ∙ ap (λ (l : List ℕ). appended (told_now (lines l)) mid) (sym (append-nil part)) ∙ hears.bytes []
    ∙ ap (λ (l : List ℕ). appended (told (lines l)) before) (append-nil heard)

pub called_all : (told told_now : Told) (called called_now : Called) (heard part : List ℕ) (before mid : Option (List ℕ))
    → Hears [] heard part told told_now called called_now before mid → called_now (lines part) ≡ called (lines heard)
called_all told told_now called called_now heard part before mid hears =
    ap (λ (l : List ℕ). called_now (lines l)) (sym (append-nil part)) ∙ hears.calls [] ∙ ap (λ (l : List ℕ). called (lines l)) (append-nil heard)

if_is : (content : Option (List ℕ)) (heard : List ℕ) (Q : List ℕ → Type 0) → IfSome content (λ c. heard ≡ c) → Q heard → IfSome content Q
if_is None heard Q is q = tt
if_is (Some c) heard Q is q = subst Q is q

-- at the end the content is what was heard, whatever is said of it
pub at_end : (content mid left : Option (List ℕ)) (heard more : List ℕ) (Q : List ℕ → Type 0) → Consumes content mid heard → Consumes mid left more
    → more ≡ [] → IsAtEnd left → Q heard → IfSome content Q
at_end content mid left heard more Q first then none end q =
    let all : Consumes content left heard = subst (Consumes content left) (ap (λ (l : List ℕ). heard ++ l) none ∙ append-nil heard) (Consumes-trans content mid left heard more first then) in
    if_is content heard Q (Consumes-all content left heard [] heard all end refl) q

-- the content begins with what was heard, whatever is said of it
pub begun_with : (content left : Option (List ℕ)) (heard : List ℕ) (Q : List ℕ → Type 0) → Consumes content left heard
    → ((rest : List ℕ) → Q (heard ++ rest)) → IfSome content Q
begun_with None left heard Q is q = tt
begun_with (Some xs) None heard Q is q = absurd is
begun_with (Some xs) (Some ys) heard Q is q = subst Q (sym is) (q ys)

module _ (told told_mid : Told) (called called_mid : Called) (heard part : List ℕ) (old mid : Option (List ℕ))
    (hears : Hears [] heard part told told_mid called called_mid old mid) (grew : (said : List ℕ) × (mid ≡ appended said old)) (new : Option (List ℕ)) where
  -- a failure at lines behind what was heard
  pub stops_at : (rest : List ℕ) → PutsFront (told_mid (lines (part ++ rest))) mid new → PutsFront (told (lines (heard ++ rest))) old new
  stops_at rest front =
      heard_front told called [] old told_mid called_mid heard part mid hears old mid new [] [] grew.0 (told_mid (lines (part ++ rest))) rest
      (sym (appended-nil old)) (sym (appended-nil mid)) grew.1 refl front

  -- a failure at the end
  pub stops_end : (waits : List ℕ) → waits ≡ [] → PutsFront (waits ++ told_mid (lines part)) mid new → PutsFront (told (lines heard)) old new
  stops_end waits none front =
      subst (λ (l : List ℕ). PutsFront (told (lines l)) old new) (append-nil heard)
      (stops_at [] (subst (λ (l : List ℕ). PutsFront l mid new)
      (ap (λ (l : List ℕ). l ++ told_mid (lines part)) none ∙ ap (λ (l : List ℕ). told_mid (lines l)) (sym (append-nil part))) front))

-- a piece more was heard
pub heard_piece : (told told_mid told_now : Told) (called called_mid called_now : Called) (heard part piece next waits : List ℕ) (old mid after : Option (List ℕ))
    → Hears [] heard part told told_mid called called_mid old mid → waits ≡ []
    → Hears part piece next told_mid told_now called_mid called_now (appended waits mid) after → Hears [] (heard ++ piece) next told told_now called called_now old after
heard_piece told told_mid told_now called called_mid called_now heard part piece next waits old mid after hears none then =
    heard_then told called [] old told_mid called_mid heard part mid hears told_now called_now piece next after
    (subst (λ (o : Option (List ℕ)). Hears part piece next told_mid told_now called_mid called_now o after) (ap (λ (l : List ℕ). appended l mid) none ∙ appended-nil mid) then)

-- a failure in which a front of what waits was put
pub stops_putting : (told told_now : Told) (called called_now : Called) (heard part waits : List ℕ) (old taken new : Option (List ℕ))
    → Hears [] heard part told told_now called called_now old (appended waits taken) → ((said : List ℕ) × (taken ≡ appended said old)) → PutsFront waits taken new
    → (rest : List ℕ) → PutsFront (told (lines (heard ++ rest))) old new
stops_putting told told_now called called_now heard part waits old taken new hears grew front rest =
    let left = told_now (lines (part ++ rest)) in
    heard_front told called [] old told_now called_now heard part (appended waits taken) hears old taken new waits [] grew.0 left rest
    (sym (appended-nil old)) refl grew.1 refl (front_whole waits (waits ++ left) taken new (left, refl) front)
