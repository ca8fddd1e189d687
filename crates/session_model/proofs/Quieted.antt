-- What a command resolves to is quiet exactly where the command is.
use Rattle.std.proofs.Common.{◌≡◌, ℕ, Bool, true, false, if◌then◌else◌, Option, Some, None, Result, Ok, Err, ℤ, refl}
use Rattle.std.specs.Prelude.{IfOk, is_some}
use Rattle.desk_terms.specs.declared.terms.Terms.{Terms}
use Rattle.session_commands.specs.declared.command.Command.{Command}
use Rattle.session_commands.specs.declared.command.Command.TheVariants as command
use Rattle.session_commands.specs.declared.refusal.Refusal.{Refusal}
use Rattle.session_commands.specs.declared.refusal.Refusal.TheVariants as refusal
use Rattle.session_model.specs.declared.act.Act.{Act}
use Rattle.session_model.specs.declared.act.Act.TheVariants as act
use Rattle.session_model.specs.Standing.{Standing, object_named, is_full}
use Rattle.session_model.specs.Resolve.{with_found, unless, unless_used, unless_kept, unless_late, unless_taken, engaging, combining, making, resolve}
use Rattle.session_model.specs.Quiet.{is_quiet, is_quiet_act}

-- every act of this answer is quiet, or none is
abbrev pub AreAll : Bool → Result Act Refusal → Type 0
AreAll b r = IfOk r (λ a. is_quiet_act a ≡ b)

module _ (b : Bool) where
  found : (r : Result ℕ Refusal) (rest : ℕ → Result Act Refusal) → ((o : ℕ) → AreAll b (rest o)) → AreAll b (with_found r rest)
  unfolding with_found
  found (Ok o) rest all = all o
  found (Err why) rest all = tt

  unrefused : (refused : Bool) (why : Refusal) (a : Act) → is_quiet_act a ≡ b → AreAll b (unless refused why a)
  unfolding unless
  unrefused true why a is = tt
  unrefused false why a is = is

  untaken : (p : Standing) (name : ℕ) (rest : Result Act Refusal) → AreAll b rest → AreAll b (unless_taken p name rest)
  unfolding unless_taken
  untaken p name rest all = by (is_some (object_named p name))
    where
      by : (taken : Bool) → AreAll b (if taken then Err (refusal.Taken name) else rest)
      by true = tt
      by false = all

  unused : (user : Option ℕ) (a : Act) → is_quiet_act a ≡ b → AreAll b (unless_used user a)
  unfolding unless_used
  unused (Some user) a is = tt
  unused None a is = is

  unkept : (rate : Option ℤ) (a : Act) → is_quiet_act a ≡ b → AreAll b (unless_kept rate a)
  unfolding unless_kept
  unkept (Some rate) a is = tt
  unkept None a is = is

  early : (source : Option ℕ) (a : Act) → is_quiet_act a ≡ b → AreAll b (unless_late source a)
  unfolding unless_late
  early (Some source) a is = tt
  early None a is = is

module _ (p : Standing) where
  engaged : (x : ℕ) (e : Option ℕ) → AreAll true (engaging p x e)
  engaged x None = refl
  engaged x (Some e) = found true _ _ (λ y. refl)

  made : (name : ℕ) (t : Terms) → AreAll false (making p name t)
  made name t = unrefused false (is_full p.state.market) refusal.TooMany (act.Make name t) refl

  combined : (name a b : ℕ) (minus : Bool) → AreAll false (combining p name minus a b)
  combined name a b minus = found false _ _ (λ x. found false _ _ (λ y. made name _))

  -- A COMMAND RESOLVES to an act that is quiet exactly where the command is.
  pub quiet_as : (c : Command) → AreAll (is_quiet c) (resolve p c)
  unfolding resolve
  quiet_as (command.Quote name value) = untaken false p name _ (made name _)
  quiet_as (command.Sum name a b) = untaken false p name _ (combined name a b false)
  quiet_as (command.Difference name a b) = untaken false p name _ (combined name a b true)
  quiet_as (command.Handle name is_curve) = untaken false p name _ (made name _)
  quiet_as (command.Stock name q) = untaken false p name _ (found false _ _ (λ x. made name _))
  quiet_as (command.Composite name) = untaken false p name _ (made name _)
  quiet_as (command.Member k i weight) = found false _ _ (λ x. found false _ _ (λ y. unrefused false _ _ _ refl))
  quiet_as (command.Set q value) = found true _ _ (λ x. refl)
  quiet_as (command.Unset q) = found true _ _ (λ x. refl)
  quiet_as (command.Link h t) = found true _ _ (λ x. found true _ _ (λ y. unrefused true _ _ _ refl))
  quiet_as (command.Unlink h) = found true _ _ (λ x. refl)
  quiet_as (command.Engine i e) = found true _ _ (λ x. engaged x e)
  quiet_as (command.Today day) = refl
  quiet_as (command.Fixing x day rate) = found false _ _ (λ y. unkept false _ _ refl)
  quiet_as (command.Freeze o) = found true _ _ (λ x. refl)
  quiet_as (command.Thaw o) = found true _ _ (λ x. refl)
  quiet_as (command.Recalc o) = found false _ _ (λ x. early false _ _ refl)
  quiet_as (command.Forward o is_on) = found true _ _ (λ x. refl)
  quiet_as command.Defer = refl
  quiet_as command.Resume = refl
  quiet_as (command.Watch w action) = untaken false p w _ (unrefused false _ _ _ refl)
  quiet_as (command.Register w o) = found false _ _ (λ x. found false _ _ (λ y. unrefused false _ _ _ refl))
  quiet_as (command.Unregister w o) = found true _ _ (λ x. found true _ _ (λ y. unrefused true _ _ _ refl))
  quiet_as (command.Drop o) = found true _ _ (λ x. unused true _ _ refl)
  quiet_as (command.Ask o) = found false _ _ (λ x. refl)
  quiet_as (command.Df c day) = found false _ _ (λ x. refl)
