-- How a run of a tool that takes names ends.
use Rattle.std.proofs.Common.{◌≡◌, ◌⊎◌, inl, inr, Bool, true, false, Option, Result, Ok, Err, refl, sym, ◌∙◌, ap}
use Rattle.std.specs.Prelude.{IfSome}
use Rattle.market_loader.specs.Files.{Files}
use Rattle.market_loader.proofs.Steps.{told_map, told_any}
use Rattle.tool_frame.specs.Run.{Tells}
use Rattle.tool_frame.specs.Stage.{Stage, IsOutside}
use Rattle.tool_frame.specs.declared.named_run_status.NamedStatus.{NamedStatus}
use Rattle.tool_frame.specs.declared.named_run_status.NamedStatus.TheVariants.{Of}
use Rattle.tool_frame.specs.Named_runRun.{status_in, named_end, ending_of}

end_status : {Status : Type 0} (done : Status) (refuses : Bool) → status_in done (named_end done refuses) ≡ done
end_status done true = refl
end_status done false = refl

module _ {Found Wanted Status : Type 0} (stage : Status → Stage) (view : Found → Wanted) (done : Status) (refuses : Wanted → Bool) where
  -- a text was written: it is a run that is done
  pub written_is_done : (result : NamedStatus Status) (wrong : Bool) → result ≡ named_end done wrong → status_in done result ≡ done
  written_is_done result wrong is = ap (status_in done) is ∙ end_status done wrong

  -- and the wrong name is told
  pub written_is_told : (files : Option Files) (verdict : Files → Result Wanted Status) (x : Found) (result : NamedStatus Status) (wrong : Bool)
      → result ≡ named_end done wrong → wrong ≡ refuses (view x)
      → IfSome files (λ f. verdict f ≡ Ok (view x))
      → IfSome files (λ f. IsOutside (stage (status_in done result)) ⊎ (result ≡ ending_of done refuses (verdict f)))
  written_is_told files verdict x result wrong is same tells = told_map files (λ f found.
      inr (is ∙ ap (named_end done) same ∙ sym (ap (ending_of done refuses) found))) tells

  -- one that was not is a fault outside, or an allocation that failed
  pub outside_is_told : (files : Option Files) (verdict : Files → Result Wanted Status) (result : NamedStatus Status)
      → IsOutside (stage (status_in done result))
      → IfSome files (λ f. IsOutside (stage (status_in done result)) ⊎ (result ≡ ending_of done refuses (verdict f)))
  outside_is_told files verdict result outside = told_any files (λ f. inl outside)

  -- what was not read has its own status
  pub unread_is_told : (files : Option Files) (verdict : Files → Result Wanted Status) (s : Status)
      → IfSome files (λ f. Tells stage view (Err s) (verdict f))
      → IfSome files (λ f. IsOutside (stage s) ⊎ (Of s ≡ ending_of done refuses (verdict f)))
  unread_is_told files verdict s tells = told_map files (λ f t. by (verdict f) t) tells
    where
      by : (v : Result Wanted Status) → Tells stage view (Err s) v → IsOutside (stage s) ⊎ (Of s ≡ ending_of done refuses v)
      by v (inl outside) = inl outside
      by v (inr is) = inr (sym (ap (ending_of done refuses) is))
