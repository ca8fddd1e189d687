-- What the words of a row say apart from names, word by word.
use Rattle.std.proofs.Common.{◌≡◌, ℕ, List, Option, Some, None, Result, Ok, Err, refl, sym, ap, subst, ◌∙◌}
use Rattle.session_commands.specs.declared.table.Kind.{Kind}
use Rattle.session_commands.specs.declared.table.Verb.{Verb}
use Rattle.session_commands.specs.declared.field.Field.{Field}
use Rattle.session_commands.specs.declared.parts.Parts.{Parts}
use Rattle.session_commands.specs.declared.script_kind.ScriptKind.{ScriptKind}
use Rattle.session_commands.specs.Table.{row_of}
use Rattle.script_words.specs.Word.{fault_of, plain_field, said, word_said}
use Rattle.session_lang.specs.Statement.{or_fault, words_fault, ArePlain}

abbrev field_or : Field → Result Field ScriptKind → Field
field_or none (Ok field) = field
field_or none (Err e) = none

said_ok : (o : Option ScriptKind) (f g : Field) → said o f ≡ Ok g → (o ≡ None) × (g ≡ f)
said_ok None f g h = (refl, sym (ap (field_or f) h))
said_ok (Some e) f g h = absurd (cc)

said_err : (o : Option ScriptKind) (f : Field) (e : ScriptKind) → said o f ≡ Err e → o ≡ Some e
said_err None f e h = absurd (cc)
said_err (Some k) f e h = cc

said_here : (k j : Kind) (w u : List ℕ) (r : Result Field ScriptKind) → j ≡ k → u ≡ w → r ≡ word_said j u → r ≡ word_said k w
said_here k j w u r kind word is = is ∙ ap (λ z. word_said z u) kind ∙ ap (word_said k) word

-- a word that says a field
pub good_word : (k j : Kind) (w u : List ℕ) (r : Result Field ScriptKind) (g : Field) → j ≡ k → u ≡ w → r ≡ word_said j u → r ≡ Ok g → (fault_of k w ≡ None) × (g ≡ plain_field k w)
good_word k j w u r g kind word is was = said_ok (fault_of k w) (plain_field k w) g (sym (said_here k j w u r kind word is) ∙ was)

-- a word that has a fault
pub bad_word : (k j : Kind) (w u : List ℕ) (r : Result Field ScriptKind) (e : ScriptKind) → j ≡ k → u ≡ w → r ≡ word_said j u → r ≡ Err e → fault_of k w ≡ Some e
bad_word k j w u r e kind word is was = said_err (fault_of k w) (plain_field k w) e (sym (said_here k j w u r kind word is) ∙ was)

pub first_bad : (a b c : Option ScriptKind) (e : ScriptKind) → a ≡ Some e → or_fault a (or_fault b c) ≡ Some e
first_bad a b c e h = rw h refl

pub second_bad : (a b c : Option ScriptKind) (e : ScriptKind) → a ≡ None → b ≡ Some e → or_fault a (or_fault b c) ≡ Some e
second_bad a b c e h k = rw (h, k) refl

pub third_bad : (a b c : Option ScriptKind) (e : ScriptKind) → a ≡ None → b ≡ None → c ≡ Some e → or_fault a (or_fault b c) ≡ Some e
third_bad a b c e h k l = rw (h, k, l) refl

-- the fault that is returned
pub told_bad : (v : Verb) (words : List (List ℕ)) (e : ScriptKind) (out : Result Parts ScriptKind) → words_fault (row_of v) words ≡ Some e → out ≡ Err e → ArePlain v words out
told_bad v words e out h is = subst (ArePlain v words) (sym is) h
