-- The workings of flows, as they are read of a session.
use Rattle.std.proofs.Common.{◌≡◌, ℕ, List, ◌++◌, Option, Some, None, refl, sym, ◌∙◌, ap}
use Rattle.std.proofs.lemmas.List.{append-nil}
use Rattle.desk_terms.specs.declared.terms.Terms.{Terms}
use Rattle.desk_terms.specs.declared.terms.Terms.TheVariants.{Flows}
use Rattle.desk_terms.specs.declared.kind.Kind.TheVariants as kind
use Rattle.desk_terms.specs.Reading.{IsWellFormed}
use Rattle.flow_terms.specs.declared.flows.FlowTerms.{FlowTerms}
use Rattle.desk_model.specs.Market.{slot_at, terms_at, kind_at}
use Rattle.desk_model.specs.Uses.{uses, reading_at}
use Rattle.desk_model.specs.State.{kept_at}
use Rattle.desk_model.specs.Links.{IsWhole, IsKinded, AreRanged}
use Rattle.session_model.specs.Standing.{Standing}
use Rattle.why_model.specs.Answer.{named, sum_text}
use Rattle.session_why.specs.declared.curves.Curves.{Curves}
use Rattle.session_why.specs.declared.products.Over.{Over}
use Rattle.session_why.specs.Curves.{curves_in}
use Rattle.session_why.specs.Lasts.{CanWork, workings_in}
use Rattle.session_why.specs.Over.{IsFit, Reads, products_over, read_curves}
use Rattle.session_why.proofs.Flowing.{text_unread}
use Rattle.session_why.proofs.Reading.{fit_is, text_over}
use Rattle.session_why.proofs.Lasting.{reading_formed}
use Rattle.session_why.proofs.ByKind.{Working, working, terms_of_kind}

-- the terms of flows, with what there is
record Flowing (p : Standing) (o : ℕ) : Type 0 where
  flows : FlowTerms
  engine : Option ℕ
  are : terms_at p.state.market o ≡ Some (Flows flows engine)
  work : Working p o (Flows flows engine)

flowing : (p : Standing) (o : ℕ) → kind_at p.state.market o ≡ Some kind.Flows → CanWork p.state o → Flowing p o
flowing p o is can =
    let t = terms_of_kind (slot_at p.state.market o) kind.Flows is refl in
    let are : terms_at p.state.market o ≡ Some (Flows t.2.0 t.2.1) = t.1 ∙ ap Some t.2.2 in
    record { flows = t.2.0; engine = t.2.1; are = are; work = working p o (Flows t.2.0 t.2.1) are can }

module _ (p : Standing) (o : ℕ) (is : kind_at p.state.market o ≡ Some kind.Flows) (can : CanWork p.state o) where
  abbrev f : Flowing p o
  f = flowing p o is can

  -- the text of the workings, by terms that are given
  stored_text : workings_in p o (terms_at p.state.market o) (kept_at p.state o).last
      ≡ workings_in p o (Some (Flows f.flows f.engine)) (Some f.work.shown)
  stored_text =
      ap (λ (t : Option Terms). workings_in p o t (kept_at p.state o).last) f.are
      ∙ ap (workings_in p o (Some (Flows f.flows f.engine))) f.work.last

  module _ (curves : Curves) (some : curves_in (uses p.state.market o) ≡ Some curves) where
    -- one of them is no curve
    pub nothing_there : (old : List ℕ) → read_curves p.state curves ≡ None
        → old ≡ old ++ workings_in p o (terms_at p.state.market o) (kept_at p.state o).last
    nothing_there old none =
        sym (append-nil old)
        ∙ sym (ap (λ (l : List ℕ). old ++ l)
        (stored_text ∙ text_unread p o f.flows f.engine f.work.shown f.work.inputs f.are f.work.given curves some none))

    module _ (whole : IsWhole p.state) (kinds : IsKinded p.state.market) (ranged : AreRanged p.state.market)
        (over : Over) (reads : Reads p.state o curves over) where
      formed : IsWellFormed (reading_at p.state.market o (Flows over.terms.now reads.engine) f.work.inputs)
      formed =
          reading_formed p.state whole kinds ranged o (Flows over.terms.now reads.engine) f.work.inputs reads.terms refl
          f.work.given

      pub over_fits : IsFit over
      over_fits = fit_is p o curves over reads some formed.range formed.index

      pub over_text : sum_text (named p over.object) (products_over over)
          ≡ workings_in p o (terms_at p.state.market o) (kept_at p.state o).last
      over_text =
          sym (text_over p o curves over reads some formed.range formed.index f.work.shown f.work.inputs f.work.given)
          ∙ sym (ap (λ (t : Option Terms). workings_in p o t (Some f.work.shown)) reads.terms)
          ∙ sym (ap (workings_in p o (terms_at p.state.market o)) f.work.last)
