-- Words that stand for names, and the names with them.
use Rattle.std.proofs.Common.{◌≡◌, ℕ, ◌<◌, ◌≤◌, Bool, true, false, not, ◌||◌, cond, List, [], ◌∷◌, ◌++◌, length, None, Some, codes, refl, ap, length-append, arith}
use Rattle.std.specs.Str.{bytes_eq}
use Rattle.desk_names.specs.Name.{is_name}
use Rattle.desk_names.specs.Names.{has_text, with_text, most_names}
use Rattle.desk_names.proofs.NameLaws.{new_goes_last}
use Rattle.session_commands.specs.declared.table.Kind.{Kind}
use Rattle.session_commands.specs.declared.table.Kind.TheVariants as kind
use Rattle.session_commands.specs.declared.script_kind.ScriptKind.{ScriptKind}
use Rattle.session_commands.specs.declared.script_kind.ScriptKind.TheVariants as fault
use Rattle.script_words.specs.Word.{fault_of, names_one, with_name}

none_named : (good : Bool) (e : ScriptKind) → cond good None (Some e) ≡ None → good ≡ true
none_named true e h = refl
none_named false e h = absurd (cc)

engine_named : (none name : Bool) → cond (none || name) None (Some fault.Name) ≡ None → not none ≡ true → name ≡ true
engine_named false true h n = refl
engine_named false false h n = absurd (cc)
engine_named true name h n = absurd (cc)

-- a word that stands for a name and has no fault is one
pub is_named : (k : Kind) (w : List ℕ) → fault_of k w ≡ None → names_one k w ≡ true → is_name w ≡ true
unfolding fault_of
is_named kind.Name w h n = none_named (is_name w) fault.Name h
is_named kind.Action w h n = none_named (is_name w) fault.Name h
is_named kind.Engine w h n = engine_named (bytes_eq w (codes "none")) (is_name w) h n
is_named kind.Nothing w h n = absurd (cc)
is_named kind.Value w h n = absurd (cc)
is_named kind.Number w h n = absurd (cc)
is_named kind.Rate w h n = absurd (cc)
is_named kind.Weight w h n = absurd (cc)
is_named kind.Day w h n = absurd (cc)
is_named kind.Target w h n = absurd (cc)
is_named kind.Switch w h n = absurd (cc)

longer_by : (one has : Bool) (N : List (List ℕ)) (w : List ℕ) → length N ≤ length (cond one (cond has N (N ++ w ∷ [])) N)
longer_by false has N w = omega arith
longer_by true true N w = omega arith
longer_by true false N w = simp length-append (omega arith)

-- names are no fewer with one more
pub longer : (k : Kind) (w : List ℕ) (N : List (List ℕ)) → length N ≤ length (with_name k w N)
unfolding with_text
longer k w N = longer_by (names_one k w) (has_text N w) N w

-- names that are full and do not have a text are too many with it
pub too_many : (names : List (List ℕ)) (text : List ℕ) → length names ≡ most_names → has_text names text ≡ false → most_names < length (with_text names text)
too_many names text full new = omega (arith, full, ap (λ l. length l) (new_goes_last names text new), length-append names (text ∷ []))
