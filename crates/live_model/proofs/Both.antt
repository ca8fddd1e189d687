-- What lines say, and then the lines behind them.
use Rattle.std.proofs.Common.{◌≡◌, ℕ, ◌+◌, Bool, true, false, cond, List, [], ◌∷◌, ◌++◌, length, Option, Some, None, is_some, Result, Ok, Err, refl, sym, ap, ◌∙◌, subst}
use Rattle.std.specs.Prelude.{All}
use Rattle.std.specs.List.{find}
use Rattle.std.proofs.lemmas.List.Elements.{All-head, All-tail}
use Rattle.session_commands.specs.declared.script_kind.ScriptKind.{ScriptKind}
use Rattle.session_commands.specs.declared.command.Command.{Command}
use Rattle.script_words.specs.Given.{◌>>=◌}
use Rattle.script_words.proofs.ReadFields.{bind_ok, ok_is}
use Rattle.session_lang.specs.declared.statement.Statement.{Statement}
use Rattle.session_lang.specs.declared.statement.Statement.TheVariants.{Blank, Begin, End, Run}
use Rattle.session_lang.specs.declared.steps.Step.{Step}
use Rattle.session_lang.specs.Statement.{Known, line_meaning}
use Rattle.session_lang.specs.Reading.{Said, said_before, kept, opened, at_line, lines_meaning, lacks, linked, block_with, block_of, action_with, actions_of, inside_after, command_with, commands_of}
use Rattle.session_lang.proofs.Gathered.{opened_inside}
use Rattle.session_commands.specs.Whole.{IsCommand}
use Rattle.live_model.proofs.Meanings.{linked_on}

-- a statement of so many names
abbrev pub StepFits : ℕ → Statement → Type 0
StepFits n (Run c) = IsCommand n n c
StepFits n Blank = Unit {0}
StepFits n (Begin name) = Unit {0}
StepFits n End = Unit {0}

abbrev pub Fit : ℕ → Step → Type 0
Fit n step = StepFits n step.what

-- whether a block stands open behind steps
abbrev pub inside_all : Bool → List Step → Bool
inside_all inside [] = inside
inside_all inside (step ∷ steps) = inside_all (inside_after step.what inside) steps

module _ (K : Known) where
  block_both : (xs ys : List Step) → inside_all true xs ≡ false → block_of K (xs ++ ys) ≡ block_of K xs
  unfolding block_of
  block_both [] ys closed = absurd (cc)
  block_both (step ∷ xs) ys closed = by step.what closed (block_both xs ys)
    where
      by : (st : Statement) → inside_all (inside_after st true) xs ≡ false → (inside_all true xs ≡ false → block_of K (xs ++ ys) ≡ block_of K xs)
          → block_with K st (block_of K (xs ++ ys)) ≡ block_with K st (block_of K xs)
      by Blank closed rest = rest closed
      by (Begin name) closed rest = rest closed
      by End closed rest = refl
      by (Run c) closed rest = ap (λ (l : List Command). linked K c ∷ l) (rest closed)

  pub actions_both : (xs ys : List Step) (inside : Bool) → inside_all inside xs ≡ false → actions_of K (xs ++ ys) ≡ actions_of K xs ++ actions_of K ys
  unfolding actions_of
  actions_both [] ys inside closed = refl
  actions_both (step ∷ xs) ys inside closed = by step.what closed (λ i. actions_both xs ys i)
    where
      by : (st : Statement) → inside_all (inside_after st inside) xs ≡ false
          → ((i : Bool) → inside_all i xs ≡ false → actions_of K (xs ++ ys) ≡ actions_of K xs ++ actions_of K ys)
          → action_with st (block_of K (xs ++ ys)) (actions_of K (xs ++ ys)) ≡ action_with st (block_of K xs) (actions_of K xs) ++ actions_of K ys
      by Blank closed rest = rest inside closed
      by (Begin name) closed rest =
          ap (λ (l : List Command). l ∷ actions_of K (xs ++ ys)) (block_both xs ys closed) ∙ ap (λ (l : List (List Command)). block_of K xs ∷ l) (rest true closed)
      by End closed rest = rest false closed
      by (Run c) closed rest = rest inside closed

  pub commands_both : (xs ys : List Step) (inside : Bool) → commands_of K inside (xs ++ ys) ≡ commands_of K inside xs ++ commands_of K (inside_all inside xs) ys
  unfolding commands_of
  commands_both [] ys inside = refl
  commands_both (step ∷ xs) ys inside = by inside step.what (λ i. commands_both xs ys i)
    where
      by : (i : Bool) (st : Statement) → ((j : Bool) → commands_of K j (xs ++ ys) ≡ commands_of K j xs ++ commands_of K (inside_all j xs) ys)
          → command_with K i st (commands_of K (inside_after st i) (xs ++ ys))
          ≡ command_with K i st (commands_of K (inside_after st i) xs) ++ commands_of K (inside_all (inside_after st i) xs) ys
      by true Blank rest = rest true
      by true (Begin name) rest = rest true
      by true End rest = rest false
      by true (Run c) rest = rest true
      by false Blank rest = rest false
      by false (Begin name) rest = rest true
      by false End rest = rest false
      by false (Run c) rest = ap (λ (l : List Command). linked K c ∷ l) (rest false)

not_found : (b : Bool) (step : Step) (rest : Option Step) → cond b (Some step) rest ≡ None → (b ≡ false) × (rest ≡ None)
not_found true step rest h = absurd (cc)
not_found false step rest h = (refl, h)

-- steps whose actions are all begun are linked the same where more names and actions come later
module _ (one two : Known) (names begun : List (List ℕ)) (more : two.names ≡ one.names ++ names) (acts : two.begun ≡ one.begun ++ begun) where
  abbrev Are : List Step → Type 0
  Are steps = All (Fit (length one.names)) steps

  abbrev NoneLacks : List Step → Type 0
  NoneLacks steps = find (λ step. lacks one step.what) steps ≡ None

  block_with_same : (st : Statement) (l : List Command) → StepFits (length one.names) st → lacks one st ≡ false → block_with two st l ≡ block_with one st l
  block_with_same Blank l fit there = refl
  block_with_same (Begin name) l fit there = refl
  block_with_same End l fit there = refl
  block_with_same (Run c) l fit there = ap (λ (x : Command). x ∷ l) (linked_on one two names begun more acts c fit there)

  command_with_same : (inside : Bool) (st : Statement) (l : List Command) → StepFits (length one.names) st → lacks one st ≡ false
      → command_with two inside st l ≡ command_with one inside st l
  command_with_same true st l fit there = refl
  command_with_same false Blank l fit there = refl
  command_with_same false (Begin name) l fit there = refl
  command_with_same false End l fit there = refl
  command_with_same false (Run c) l fit there = ap (λ (x : Command). x ∷ l) (linked_on one two names begun more acts c fit there)

  block_same : (steps : List Step) → Are steps → NoneLacks steps → block_of two steps ≡ block_of one steps
  unfolding block_of
  block_same [] are none = refl
  block_same (step ∷ steps) are none =
      let found = not_found (lacks one step.what) step (find (λ s. lacks one s.what) steps) none in
      ap (block_with two step.what) (block_same steps (All-tail (Fit (length one.names)) step steps are) found.1)
      ∙ block_with_same step.what (block_of one steps) (All-head (Fit (length one.names)) step steps are) found.0

  pub actions_same : (steps : List Step) → Are steps → NoneLacks steps → actions_of two steps ≡ actions_of one steps
  unfolding actions_of
  actions_same [] are none = refl
  actions_same (step ∷ steps) are none =
      let found = not_found (lacks one step.what) step (find (λ s. lacks one s.what) steps) none in
      let all = All-tail (Fit (length one.names)) step steps are in
      ap (λ (l : List Command). action_with step.what l (actions_of two steps)) (block_same steps all found.1)
      ∙ ap (λ (l : List (List Command)). action_with step.what (block_of one steps) l) (actions_same steps all found.1)

  pub commands_same : (steps : List Step) (inside : Bool) → Are steps → NoneLacks steps → commands_of two inside steps ≡ commands_of one inside steps
  unfolding commands_of
  commands_same [] inside are none = refl
  commands_same (step ∷ steps) inside are none =
      let found = not_found (lacks one step.what) step (find (λ s. lacks one s.what) steps) none in
      ap (command_with two inside step.what) (commands_same steps (inside_after step.what inside) (All-tail (Fit (length one.names)) step steps are) found.1)
      ∙ command_with_same inside step.what (commands_of one (inside_after step.what inside) steps) (All-head (Fit (length one.names)) step steps are) found.0

abbrev told : Said → Result Said (ℕ × ScriptKind)
told said = Ok said

pub told_is : (a b : Said) → told a ≡ told b → a ≡ b
told_is a b h = cc

pub at_is : {A : Type 0} (number : ℕ) (r : Result A ScriptKind) (x : A) → at_line number r ≡ Ok x → r ≡ Ok x
at_is number (Ok y) x h = let same : y ≡ x = cc in ap (λ z. Ok z) same
at_is number (Err e) x h = absurd (cc)

-- a line in front of what the lines behind it say
pub record OneMore (known : Known) (open_at : Option ℕ) (number : ℕ) (line : List ℕ) (rest : List (List ℕ)) (said : Said) : Type 0 where
  pub st : Statement
  pub next : Known
  pub others : Said
  pub means : line_meaning known (is_some open_at) line ≡ Ok (st, next)
  pub behind : lines_meaning next (opened st number open_at) (number + 1) rest ≡ Ok others
  pub whole : said_before number st others ≡ said

pub one_more : (known : Known) (open_at : Option ℕ) (number : ℕ) (line : List ℕ) (rest : List (List ℕ)) (said : Said)
    → lines_meaning known open_at number (line ∷ rest) ≡ Ok said → OneMore known open_at number line rest said
unfolding lines_meaning
one_more known open_at number line rest said h =
    let s = bind_ok (at_line number (line_meaning known (is_some open_at) line)) (λ got. lines_meaning got.1 (opened got.0 number open_at) (number + 1) rest >>= (λ others. told (said_before number got.0 others))) said h in
    let o = bind_ok (lines_meaning s.0.1 (opened s.0.0 number open_at) (number + 1) rest) (λ others. told (said_before number s.0.0 others)) said s.2 in
    record {
      st = s.0.0;
      next = s.0.1;
      others = o.0;
      means = at_is number (line_meaning known (is_some open_at) line) s.0 s.1;
      behind = o.1;
      whole = told_is (said_before number s.0.0 o.0) said o.2;
    }

abbrev said_as : Said → List Step → Said
said_as said steps = record { steps = steps; known = said.known; open_at = said.open_at }

-- what lines say, and those behind them
pub record BothSay (one two : Said) (ys : List (List ℕ)) : Type 0 where
  pub others : Said
  pub number : ℕ
  pub behind : lines_meaning one.known one.open_at number ys ≡ Ok others
  pub whole : two ≡ record { steps = one.steps ++ others.steps; known = others.known; open_at = others.open_at }

kept_both : (number : ℕ) (st : Statement) (xs ys : List Step) → kept number st (xs ++ ys) ≡ kept number st xs ++ ys
kept_both number Blank xs ys = refl
kept_both number (Begin name) xs ys = refl
kept_both number End xs ys = refl
kept_both number (Run c) xs ys = refl

pub both_say : (xs ys : List (List ℕ)) (known : Known) (open_at : Option ℕ) (number : ℕ) (one two : Said)
    → lines_meaning known open_at number xs ≡ Ok one → lines_meaning known open_at number (xs ++ ys) ≡ Ok two → BothSay one two ys
unfolding lines_meaning
both_say [] ys known open_at number one two first second =
    let same : record { steps = []; known = known; open_at = open_at } ≡ one = told_is (record { steps = []; known = known; open_at = open_at }) one first in
    subst (λ (x : Said). BothSay x two ys) same (record { others = two; number = number; behind = second; whole = refl })
both_say (line ∷ xs) ys known open_at number one two first second =
    let a = one_more known open_at number line xs one first in
    let b = one_more known open_at number line (xs ++ ys) two second in
    let same : (a.st, a.next) ≡ (b.st, b.next) = ok_is (a.st, a.next) (b.st, b.next) (sym a.means ∙ b.means) in
    let more = both_say xs ys a.next (opened a.st number open_at) (number + 1) a.others b.others a.behind
    (ap (λ (x : Statement × Known). lines_meaning x.1 (opened x.0 number open_at) (number + 1) (xs ++ ys)) same ∙ b.behind) in
    subst (λ (x : Said). BothSay x two ys) a.whole (record {
      others = more.others;
      number = more.number;
      behind = more.behind;
      whole = sym b.whole ∙ ap (said_before number b.st) more.whole
          ∙ ap (λ (st : Statement). said_as more.others (kept number st (a.others.steps ++ more.others.steps))) (sym (ap (λ (x : Statement × Known). x.0) same))
          ∙ ap (said_as more.others) (kept_both number a.st a.others.steps more.others.steps);
    })

inside_kept : (inside : Bool) (number : ℕ) (st : Statement) (steps : List Step) → inside_all inside (kept number st steps) ≡ inside_all (inside_after st inside) steps
inside_kept inside number Blank steps = refl
inside_kept inside number (Begin name) steps = refl
inside_kept inside number End steps = refl
inside_kept inside number (Run c) steps = refl

-- whether a block stands open behind lines
pub open_behind : (xs : List (List ℕ)) (known : Known) (open_at : Option ℕ) (number : ℕ) (said : Said) → lines_meaning known open_at number xs ≡ Ok said
    → inside_all (is_some open_at) said.steps ≡ is_some said.open_at
unfolding lines_meaning
open_behind [] known open_at number said h =
    let same : record { steps = []; known = known; open_at = open_at } ≡ said = told_is (record { steps = []; known = known; open_at = open_at }) said h in
    subst (λ (x : Said). inside_all (is_some open_at) x.steps ≡ is_some x.open_at) same refl
open_behind (line ∷ xs) known open_at number said h =
    let a = one_more known open_at number line xs said h in
    subst (λ (x : Said). inside_all (is_some open_at) x.steps ≡ is_some x.open_at) a.whole
    (inside_kept (is_some open_at) number a.st a.others.steps ∙ ap (λ (i : Bool). inside_all i a.others.steps) (sym (opened_inside a.st number open_at))
    ∙ open_behind xs a.next (opened a.st number open_at) (number + 1) a.others a.behind)
