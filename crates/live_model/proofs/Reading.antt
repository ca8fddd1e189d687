-- What lines that have no fault leave: names and actions that grew, and commands of these names.
use Rattle.std.proofs.Common.{◌≡◌, ℕ, ◌+◌, List, [], ◌∷◌, ◌++◌, length, map, slice_get, get_or, Option, Some, is_some, Ok, sym, ap, subst, ◌∙◌, append_assoc}
use Rattle.std.specs.Prelude.{All}
use Rattle.std.proofs.lemmas.List.{append-nil, get_or_append_left}
use Rattle.std.proofs.lemmas.List.Elements.{All-nil, All-cons}
use Rattle.std.proofs.lemmas.Option.{slice_get_within, get_or_from_slice_get}
use Rattle.desk_names.specs.Names.{IsNames}
use Rattle.session_commands.specs.Whole.{name_text}
use Rattle.script_words.specs.Given.{Grows}
use Rattle.script_words.proofs.Interning.{grows_same, grows_on}
use Rattle.session_lang.specs.declared.statement.Statement.{Statement}
use Rattle.session_lang.specs.declared.statement.Statement.TheVariants.{Blank, Begin, End, Run}
use Rattle.session_lang.specs.Statement.{Known}
use Rattle.session_lang.specs.Reading.{Said, said_before, opened, lines_meaning, action_names_of}
use Rattle.session_lang.proofs.ReadLines.{LineRead, line_is_read, grows_length}
use Rattle.session_lang.proofs.RowLinks.{command_more}
use Rattle.live_model.proofs.Both.{Fit, told_is, one_more}

pub record AreRead (known : Known) (said : Said) : Type 0 where
  pub names_kept : IsNames said.known.names
  pub begun_kept : IsNames said.known.begun
  pub grows : Grows known.names said.known.names
  pub begun : said.known.begun ≡ known.begun ++ map (name_text said.known.names) (action_names_of said.steps)
  pub fits : All (Fit (length said.known.names)) said.steps

text_stays : (a b : List (List ℕ)) (n : ℕ) (text : List ℕ) → Grows a b → slice_get a n ≡ Some text → name_text b n ≡ text
text_stays a b n text g h =
    ap (λ (l : List (List ℕ)). get_or l n []) g.whole ∙ get_or_append_left a g.more [] n (slice_get_within a n text h) ∙ get_or_from_slice_get a n text [] h

joined : (known next : Known) (number : ℕ) (said : Said) (st : Statement) → LineRead known next st → AreRead next said → AreRead known (said_before number st said)
unfolding action_names_of
joined known next number said Blank one more = record {
  names_kept = more.names_kept;
  begun_kept = more.begun_kept;
  grows = grows_on known.names next.names said.known.names one.grows more.grows;
  begun = more.begun ∙ ap (λ (b : List (List ℕ)). b ++ map (name_text said.known.names) (action_names_of said.steps)) one.says;
  fits = more.fits;
}
joined known next number said End one more = record {
  names_kept = more.names_kept;
  begun_kept = more.begun_kept;
  grows = grows_on known.names next.names said.known.names one.grows more.grows;
  begun = more.begun ∙ ap (λ (b : List (List ℕ)). b ++ map (name_text said.known.names) (action_names_of said.steps)) one.says;
  fits = All-cons (Fit (length said.known.names)) (record { line = number; what = End }) said.steps tt more.fits;
}
joined known next number said (Run c) one more = record {
  names_kept = more.names_kept;
  begun_kept = more.begun_kept;
  grows = grows_on known.names next.names said.known.names one.grows more.grows;
  begun = more.begun ∙ ap (λ (b : List (List ℕ)). b ++ map (name_text said.known.names) (action_names_of said.steps)) one.says.0;
  fits = All-cons (Fit (length said.known.names)) (record { line = number; what = Run c }) said.steps
      (command_more (length next.names) (length said.known.names) (grows_length next.names said.known.names more.grows) c one.says.1) more.fits;
}
joined known next number said (Begin name) one more =
    let stays : name_text said.known.names name ≡ one.says.0 = text_stays next.names said.known.names name one.says.0 more.grows one.says.1 in
    record {
      names_kept = more.names_kept;
      begun_kept = more.begun_kept;
      grows = grows_on known.names next.names said.known.names one.grows more.grows;
      begun = more.begun ∙ ap (λ (b : List (List ℕ)). b ++ map (name_text said.known.names) (action_names_of said.steps)) one.says.2
          ∙ append_assoc known.begun (one.says.0 ∷ []) (map (name_text said.known.names) (action_names_of said.steps))
          ∙ ap (λ (t : List ℕ). known.begun ++ t ∷ map (name_text said.known.names) (action_names_of said.steps)) (sym stays);
      fits = All-cons (Fit (length said.known.names)) (record { line = number; what = Begin name }) said.steps tt more.fits;
    }

no_lines : (known : Known) (open_at : Option ℕ) → IsNames known.names → IsNames known.begun
    → AreRead known (record { steps = []; known = known; open_at = open_at })
unfolding action_names_of
no_lines known open_at sound begun = record {
  names_kept = sound;
  begun_kept = begun;
  grows = grows_same known.names;
  begun = sym (append-nil known.begun);
  fits = All-nil (Fit (length known.names));
}

pub are_read : (known : Known) (open_at : Option ℕ) (number : ℕ) (all : List (List ℕ)) (said : Said) → IsNames known.names → IsNames known.begun
    → lines_meaning known open_at number all ≡ Ok said → AreRead known said
unfolding lines_meaning
are_read known open_at number [] said sound begun h =
    subst (AreRead known) (told_is (record { steps = []; known = known; open_at = open_at }) said h) (no_lines known open_at sound begun)
are_read known open_at number (line ∷ rest) said sound begun h =
    let more = one_more known open_at number line rest said h in
    let one = line_is_read known more.next (is_some open_at) line more.st sound begun more.means in
    subst (AreRead known) more.whole (joined known more.next number more.others more.st one
    (are_read more.next (opened more.st number open_at) (number + 1) rest more.others one.names_kept one.begun_kept more.behind))
