use Rattle.std.proofs.Common.{◌++◌, ◌∷◌, [], refl, sym, ap, subst, ◌∙◌}
use Rattle.std.specs.Arc.{arc_value}
use Rattle.std.specs.Option.{option_map}
use Rattle.frames.specs.Recorded.{AllFit}
use Rattle.cutoff.specs.Fitting.{Fits, RunFits, bare_run, steps_at}
use Rattle.cutoff.specs.Prefixes.{exit_or}
use Rattle.cutoff.proofs.Prefixes.{config_linked}
use Rattle.cutoff.proofs.FoundFits.{job, job_is}
use Rattle.cutoff.proofs.plan.fits_or_adds_job.Goals as goal

pub fitting-requires : goal.fitting-requires
fitting-requires g c = record {
  linked = (
    c.requires.linked.0,
    (config_linked g.R.PartialEq.eq g.met.R.Eq.laws g.met.R.PartialEq.laws g.R.Behaves.behaviour c.args.base.now.trie.now c.args.base.now.start.now c.requires.linked.0 c.requires.linked.1
        c.args.above _ (sym c.stored_at-above.ensures) c.entry_below-number.ensures.kept _ _ c.entry_below-number.ensures.entry c.entry_below-number.ensures.number).0,
  );
}

pub job_at-requires : goal.job_at-requires
job_at-requires g c =
    let came = config_linked g.R.PartialEq.eq g.met.R.Eq.laws g.met.R.PartialEq.laws g.R.Behaves.behaviour c.args.base.now.trie.now c.args.base.now.start.now c.requires.linked.0 c.requires.linked.1
    c.args.above _ (sym c.stored_at-above.ensures) c.entry_below-number.ensures.kept _ _ c.in_ok-entry.ensures c.entry_below-number.ensures.number in
    subst (λ b. AllFit b (steps_at c.args.base.now.trie.now c.args.key)) (sym (g.met.R.Register.alike _ _ came.1)) c.requires.fits

pub returns-in-Some : goal.returns-in-Some
returns-in-Some g c =
    let s = c.in-Some.field-0.now in (
      record {
        stored = s;
        noted = c.in-Some.ensures.0;
        true_run = c.in-Some.ensures.2;
        fits = subst (λ d. RunFits g.R.PartialEq.eq d (steps_at c.args.base.now.trie.now c.args.key) s.run)
            (c.entry_below-number.ensures.entry ∙ ap (λ o. exit_or c.args.base.now.start.now (option_map bare_run o)) c.stored_at-above.ensures) c.in-Some.ensures.1;
      },
      refl,
    )

pub returns : goal.returns
returns g c =
    let at = ap (λ o. exit_or c.args.base.now.start.now (option_map bare_run o)) c.stored_at-above.ensures in (
      λ f. c.in_default.ensures (subst (λ d. Fits g.R.PartialEq.eq c.args.base.now.trie.now d c.args.key) (sym (c.entry_below-number.ensures.entry ∙ at)) f),
      c.in_ok-push.ensures.items
          ∙ ap (λ j. c.args.jobs.now.items ++ j ∷ [])
          (job_is c.args.base.now.trie.now c.args.key (arc_value c.in_ok-entry.entry) c.in_ok-job.job c.in_ok-job.ensures ∙ ap (job c.args.base.now.trie.now c.args.key) (c.in_ok-entry.ensures ∙ at)),
    )
