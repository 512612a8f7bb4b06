use Rattle.std.proofs.Common.{◌≡◌, IsSome, refl, sym, subst, ◌∙◌, true≢false}
use Rattle.std.specs.Arc.{arc_value}
use Rattle.schedule_trie.specs.Trie.{segment_at, keys_in}
use Rattle.cutoff.specs.Charts.{Charted}
use Rattle.cutoff.specs.Plans.{FitsDown, CanInstall, CannotInstall, IsInstalled}
use Rattle.cutoff.specs.Fitting.{IsChecked}
use Rattle.cutoff.proofs.Installed.{charted_installed, noted_keeps}
use Rattle.cutoff.proofs.Checks.{charted_checked}
use Rattle.cutoff.proofs.SameBranches.{cut_kept}
use Rattle.cutoff.proofs.Noted.{noted_at}
use Rattle.cutoff.proofs.chart.Chart.install.Goals as goal

pub returns-then-not-fits : goal.returns-then-not-fits
returns-then-not-fits g c =
    let E = g.R.PartialEq.eq in
    let b = g.R.Behaves.behaviour c.self.inside.start.register in
    let was : Charted g.row.R.Denot g.row.R-Pending.Denot = record { trie = c.self.inside.trie; start = c.self.inside.start; value = c.self.inside.value } in
    let refused : CannotInstall E b was c.args.key (arc_value c.args.run) =
    λ i h f. true≢false (sym ((c.fits_down-fits.ensures.fits i h).1 (subst (λ r. FitsDown E b c.self.inside.trie c.args.key r c.self.inside.start (keys_in c.self.inside.trie.branches i)) (sym c.deref.ensures) f)) ∙ c.if-not-fits.true) in
    subst (λ v. IsSome (segment_at v.trie.segments c.args.key) × CannotInstall E (g.R.Behaves.behaviour v.start.register) v c.args.key (arc_value c.args.run) × (v ≡ v)) c.self.view_is
    (c.has_segment.ensures.yes c.if-not-has_segment.false, refused, refl)

pub check_above-requires : goal.check_above-requires
check_above-requires g c =
    cut_kept c.self.inside.trie c.set_note.new.self (λ k. Unit {0})
    (noted_keeps g.R.PartialEq.eq (g.R.Behaves.behaviour c.self.inside.start.register) c.self.inside.trie c.set_note.new.self c.args.key c.new.result c.set_note.ensures) c.self.invariant.cut

pub invariant_of-self : goal.invariant_of-self
invariant_of-self g c =
    let live = c.self.invariant.cut.live c.args.key (c.has_segment.ensures.yes c.if-not-has_segment.false) in
    rw c.or-self-inside.ensures
    (charted_checked g.R.PartialEq.eq g.R.Behaves.behaviour g.met.R.Register.alike c.take_number-id.new.next c.args.key (record { trie = c.set_note.new.self; start = c.self.inside.start; value = c.self.inside.value }) c.check_above.new.trie c.new.result
    (noted_at c.new.result (segment_at c.self.inside.trie.segments c.args.key) (segment_at c.set_note.new.self.segments c.args.key) c.set_note.ensures.here (c.has_segment.ensures.yes c.if-not-has_segment.false))
    (subst (λ n. IsChecked c.set_note.new.self c.check_above.new.trie n c.args.key) (sym c.new.ensures.checked) c.check_above.ensures) _
    (charted_installed g.R.PartialEq.eq g.met.R.PartialEq.laws g.R.Behaves.behaviour g.met.R.Register.alike c.self.inside.next c.take_number-id.new.next c.self.inside.fresh c.self.inside.mark _ c.set_note.new.self c.args.key c.new.result
    (arc_value c.args.run) c.deref.result.now (keys_in c.self.inside.trie.branches live.0) c.take_number-id.result c.self.invariant
    ((c.fits_down-fits.ensures.fits live.0 live.1).0 c.if-not-fits.false) (c.fits_down-fits.ensures.runs c.if-not-fits.false) (c.fits_down-fits.ensures.kept c.if-not-fits.false)
    (c.has_segment.ensures.yes c.if-not-has_segment.false) c.deref.ensures
    c.new.ensures.run c.new.ensures.id c.new.ensures.checked c.fits_down-fits.result.1 c.new.ensures.link (c.fits_down-fits.ensures.moved c.if-not-fits.false c.self.inside.next) c.set_note.ensures c.take_number-id.ensures))

pub returns : goal.returns
returns g c =
    let E = g.R.PartialEq.eq in
    let b = g.R.Behaves.behaviour c.self.inside.start.register in
    let was : Charted g.row.R.Denot g.row.R-Pending.Denot = record { trie = c.self.inside.trie; start = c.self.inside.start; value = c.self.inside.value } in
    let now : Charted g.row.R.Denot g.row.R-Pending.Denot = record { trie = c.check_above.new.trie; start = c.self.inside.start; value = c.self.inside.value } in
    let can : CanInstall E b was c.args.key (arc_value c.args.run) =
    λ i h. subst (λ r. FitsDown E b c.self.inside.trie c.args.key r c.self.inside.start (keys_in c.self.inside.trie.branches i)) c.deref.ensures ((c.fits_down-fits.ensures.fits i h).0 c.if-not-fits.false) in
    subst (λ v. IsSome (segment_at v.trie.segments c.args.key) × CanInstall E (g.R.Behaves.behaviour v.start.register) v c.args.key (arc_value c.args.run) × IsInstalled v now c.args.key (arc_value c.args.run)) c.self.view_is (
      c.has_segment.ensures.yes c.if-not-has_segment.false,
      can,
      record {
        noted = (c.new.result, c.set_note.new.self, c.new.ensures.run, c.set_note.ensures, subst (λ n. IsChecked c.set_note.new.self c.check_above.new.trie n c.args.key) (sym c.new.ensures.checked) c.check_above.ensures);
        start = refl;
        value = refl;
      },
    )
