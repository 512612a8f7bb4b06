-- The law of layers: if the programs, as they run in each step, keep an invariant, and each part
-- does as it promises, the invariant holds in each history of the layer.
use Rattle.std.proofs.Common.{◌≡◌, ℕ, ◌+◌, ◌*◌, ◌<◌, List, [], ◌∷◌, ◌++◌, length, get_or, refl, ap, sym, ◌∙◌, arith, true, None}
use Rattle.std.proofs.lemmas.List.{get_or-append-add}
use Rattle.safe_bit.specs.Memory.{word_at}
use Rattle.safe_bit.specs.Parts.{part, HasSize}
use Rattle.safe_bit.specs.laws.Parts.{same_memory}
use Rattle.safe_bit.specs.laws.Windows.{window-append}
use Rattle.frames.specs.declared.types.StepEvents.{StepEvents}
use Rattle.frames.specs.declared.types.Step.{Step}
use Rattle.layers.specs.declared.nested.Nested.{Nested}
use Rattle.frames.specs.Configuration.{running_at, history, events_of, fits_step, replayed}
use Rattle.frames.specs.Recorded.{LoneConfiguration, AllFit, first_configuration}
use Rattle.frames.proofs.Seen.{Seen, Returned, opening, Always, Allowed}
use Rattle.frames.specs.OneWriter.{HasOneWriter}
use Rattle.frames.specs.correctness.Verdicts.{Known}
use Rattle.frames.specs.correctness.Regularity.{AlwaysReads}
use Rattle.frames.proofs.Replayed.{replayed_at_first}
use Rattle.frames.proofs.KnownAndSeen.{Alike}
use Rattle.frames.proofs.OneWriterPromises.{always_known, always_seen}
use Rattle.layers.specs.Nested.{part_place, own_words_start, layered, layer_initial, gathered}
use Rattle.layers.specs.Sound.{LayerHolds, LayerReaches}
use Rattle.layers.specs.laws.Nested.{row_fits}
use Rattle.layers.specs.laws.Gathered.{length-gathered, window-gathered, get_or-gathered}
use Rattle.layers.specs.laws.Layered.{layer_lawful}
use Rattle.layers.specs.laws.Over.{LayerOver}
use Rattle.layers.proofs.Law.{View, Watch, Admission, Passes, IsKept, IsKeptUnder, IsUser, takes_all, kept_under}
use Rattle.layers.proofs.Admitted.{AlwaysAdmits, always_admits}
use Rattle.layers.proofs.Links.{pending_in_part}
pub use Rattle.frames.proofs.GoodHistories.{IsGoodStep, good_begun, good_gone, good_void, good_stop, good_refuses_none, good_reads}
use Rattle.frames.proofs.Pending.{none_pending_at, none_stopped_at, first_is_configuration}
use Rattle.layers.proofs.TaskRuns.{task_in_progress}
use Rattle.layers.proofs.LayerSteps.{Joint, steps_joint, step_joint, replayed_joint}

-- steps that do nothing, and those after which an operation stays at its task, are good, since they
-- refuse nothing and return no read
pub good_passes : {Task : Type 0} (w : Watch Task Seen) (Good : Returned → Type 0) → Passes w (IsGoodStep Good)
good_passes w Good = record { void = good_void Good; stop = good_stop Good; still = λ u j p chosen h. (u, (good_gone Good p chosen None u refl tt, h)) }

-- what is known in configuration c, before step s, and after the step
pub record NextStep {Task P U : Type 0} (l : LayerOver Task P) (w : Watch Task U) (Up : U → StepEvents → U → Type 0) (c : LoneConfiguration (Nested Task P)) (s : Step) : Type 0 where
  -- what is known of the layer's history, and the view, before the step
  pub u : U
  pub j : View Task
  pub inv : w.Inv u j
  pub tasks : (q : ℕ) → j.tasks q ≡ task_in_progress (running_at q c)
  -- what is known of the layer's history after the step
  pub z : U
  pub up : Up u (events_of (layered l.table l.below) c s) z

module _ {Task P : Type 0} (l : LayerOver Task P) (user : ℕ → ℕ → ℕ) (is_user : IsUser l.table l.MayBeAt user) where
  first_fits_below : (v k : ℕ) → v < l.table.values → k < l.table.parts → l.table.first v k < l.below.values
  first_fits_below v k lt lk = rw l.fit.same_values (l.sound.first_fits v k lt lk)

  -- part k of the layer's initial memory is at its initial value
  first_part : (v k : ℕ) → v < l.table.values → k < l.table.parts → l.below.initial (l.table.first v k) ≡ part (part_place l.below.size k) l.below.size (layer_initial l.table l.below v)
  first_part v k lt lk =
      let size : (j : ℕ) → j < l.table.parts → HasSize l.below.size (l.below.initial (l.table.first v j)) = λ j lj. l.lawful.size_holds _ (l.lawful.initial_holds (l.table.first v j) (first_fits_below v j lt lj)) in
      let cells : (j : ℕ) → j < l.table.parts → length (l.below.initial (l.table.first v j)).cells ≡ l.below.size.cell = λ j lj. (size j lj).cells in
      let words : (j : ℕ) → j < l.table.parts → length (l.below.initial (l.table.first v j)).words ≡ l.below.size.word = λ j lj. (size j lj).words in
      let w = length-gathered (λ j. (l.below.initial (l.table.first v j)).words) l.below.size.word l.table.parts words in
      sym (same_memory (part (part_place l.below.size k) l.below.size (layer_initial l.table l.below v)) (l.below.initial (l.table.first v k))
      (window-gathered (λ j. (l.below.initial (l.table.first v j)).cells) l.below.size.cell l.table.parts k cells lk)
      (window-append (k * l.below.size.word) l.below.size.word (gathered (λ j. (l.below.initial (l.table.first v j)).words) l.table.parts) (gathered (λ i. l.table.first_word v i ∷ []) l.table.words)
      (let r = row_fits k l.table.parts l.below.size.word lk in omega arith)
      ∙ window-gathered (λ j. (l.below.initial (l.table.first v j)).words) l.below.size.word l.table.parts k words lk))

  first_word : (v i : ℕ) → v < l.table.values → i < l.table.words → word_at (own_words_start l.table l.below.size + i) (layer_initial l.table l.below v) ≡ l.table.first_word v i
  first_word v i lt li =
      let size : (j : ℕ) → j < l.table.parts → HasSize l.below.size (l.below.initial (l.table.first v j)) = λ j lj. l.lawful.size_holds _ (l.lawful.initial_holds (l.table.first v j) (first_fits_below v j lt lj)) in
      let words : (j : ℕ) → j < l.table.parts → length (l.below.initial (l.table.first v j)).words ≡ l.below.size.word = λ j lj. (size j lj).words in
      let w = length-gathered (λ j. (l.below.initial (l.table.first v j)).words) l.below.size.word l.table.parts words in
      ap (λ n. get_or (gathered (λ j. (l.below.initial (l.table.first v j)).words) l.table.parts ++ gathered (λ k. l.table.first_word v k ∷ []) l.table.words) (n + i) 0) (sym w)
      ∙ get_or-append-add (gathered (λ j. (l.below.initial (l.table.first v j)).words) l.table.parts) (gathered (λ k. l.table.first_word v k ∷ []) l.table.words) i 0
      ∙ get_or-gathered (l.table.first_word v) l.table.words i li

  -- at first the view and the parts agree with the configuration
  first_joint : {U : Type 0} (w : Watch Task U) (rule : Admission) (first : ℕ → U) (Up : U → StepEvents → U → Type 0) → IsKeptUnder rule l.table l.MayBeAt w first Up
      → (v : ℕ) → v < l.table.values → Joint l user (l.table.first v) w (first_configuration (layered l.table l.below) v) (first v)
  first_joint w rule first Up K v lt =
      let value : ℕ → ℕ = l.table.first v in
      let c : LoneConfiguration (Nested Task P) = first_configuration (layered l.table l.below) v in
      let idle : (p : ℕ) → task_in_progress (running_at p c) ≡ None = λ p. ap task_in_progress (none_pending_at l.table.processes p) in
      let j : View Task = record { words = λ i. word_at (own_words_start l.table l.below.size + i) c.memory; tasks = λ p. task_in_progress (running_at p c); parts = λ k. opening (value k) } in
      record {
        well = first_is_configuration (layered l.table l.below) (LayerHolds l.table l.below l.Holds) (LayerReaches l.table l.MayBeAt l.Reaches) (layer_lawful l) v lt;
        j = j;
        inv = K.initial v lt j (λ i li. first_word v i lt li) idle (λ k lk. refl);
        words = λ i li. refl;
        tasks = λ q. refl;
        links = λ k lk. record {
          c = first_configuration l.below (value k);
          well = first_is_configuration l.below l.Holds l.Reaches l.lawful (value k) (first_fits_below v k lt lk);
          reached = replayed_at_first l.below (value k);
          memory = first_part v k lt lk;
          stopped = λ q lq. none_stopped_at l.below.processes q ∙ sym (none_stopped_at l.table.processes (user k q));
          running = λ q lq. none_pending_at l.below.processes q ∙ sym (ap (pending_in_part l.table k q) (none_pending_at l.table.processes (user k q)));
        };
      }

  -- the law of layers over parts that may refuse an operation as it is invoked
  pub layer_law_under : {U : Type 0} (w : Watch Task U) (rule : Admission) (first : ℕ → U) (Up : U → StepEvents → U → Type 0) → AlwaysAdmits w.Good rule l.below → IsKeptUnder rule l.table l.MayBeAt w first Up
      → (v : ℕ) (steps : List Step) → v < l.table.values → AllFit (layered l.table l.below) steps
      → Allowed Up (first v) (history (layered l.table l.below) (first_configuration (layered l.table l.below) v) steps)
  layer_law_under w rule first Up all K v steps lt f =
      steps_joint l user is_user (l.table.first v) w rule first Up K all (λ k lk. first_fits_below v k lt lk) steps (first_configuration (layered l.table l.below) v) (first v) f
      (first_joint w rule first Up K v lt)

  -- the invariant holds after any fitting steps, and `Up` allows one more fitting step
  pub layer_next_under : {U : Type 0} (w : Watch Task U) (rule : Admission) (first : ℕ → U) (Up : U → StepEvents → U → Type 0) → AlwaysAdmits w.Good rule l.below → IsKeptUnder rule l.table l.MayBeAt w first Up
      → (v : ℕ) (steps : List Step) (s : Step) → v < l.table.values → AllFit (layered l.table l.below) steps → fits_step (layered l.table l.below) s ≡ true
      → NextStep l w Up (replayed (layered l.table l.below) (first_configuration (layered l.table l.below) v) steps) s
  layer_next_under w rule first Up all K v steps s lt f fs =
      let vals : (k : ℕ) → k < l.table.parts → l.table.first v k < l.below.values = λ k lk. first_fits_below v k lt lk in
      let r = replayed_joint l user is_user (l.table.first v) w rule first Up K all vals steps (first_configuration (layered l.table l.below) v) (first v) f (first_joint w rule first Up K v lt) in
      let z = step_joint l user is_user (l.table.first v) w rule first Up K all vals s (replayed (layered l.table l.below) (first_configuration (layered l.table l.below) v) steps) r.0 fs r.1 in
      record { u = r.0; j = r.1.j; inv = r.1.inv; tasks = r.1.tasks; z = z.0; up = z.1.0 }

  -- the law of layers over parts that refuse nothing
  pub layer_law : {U : Type 0} (w : Watch Task U) (first : ℕ → U) (Up : U → StepEvents → U → Type 0) → Always w.Good l.below → IsKept l.table l.MayBeAt w first Up
      → (v : ℕ) (steps : List Step) → v < l.table.values → AllFit (layered l.table l.below) steps
      → Allowed Up (first v) (history (layered l.table l.below) (first_configuration (layered l.table l.below) v) steps)
  layer_law w first Up all K v steps lt f =
      layer_law_under w takes_all first Up (always_admits w.Good takes_all l.below (λ o s. tt) all) (kept_under l.table l.MayBeAt w first Up K) v steps lt f

  -- the law of layers for a claim about reads
  pub layer_always : (Good : Returned → Type 0) (w : Watch Task Seen) → Always w.Good l.below → IsKept l.table l.MayBeAt w opening (IsGoodStep Good) → Always Good (layered l.table l.below)
  layer_always Good w all K v steps lt f =
      let allowed = layer_law w opening (IsGoodStep Good) all K v steps lt f in
      (good_refuses_none Good (opening v) _ allowed, good_reads Good (opening v) _ allowed)

  -- the law in terms of `Known`: what a layer of one writer promises of its reads, if its parts
  -- keep their own promises
  pub layer_promises : {Below Says : Known → ℕ → ℕ → Type 0} (Good : Returned → Type 0) (w : Watch Task Seen) → Alike Below w.Good → Alike Says Good → HasOneWriter (layered l.table l.below)
      → AlwaysReads l.below Below → IsKept l.table l.MayBeAt w opening (IsGoodStep Good) → AlwaysReads (layered l.table l.below) Says
  layer_promises {Below} {Says} Good w below here one promised K =
      always_known Says Good here (layered l.table l.below) one (LayerHolds l.table l.below l.Holds) (LayerReaches l.table l.MayBeAt l.Reaches) (layer_lawful l)
      (layer_always Good w (always_seen Below w.Good below l.below promised.one_writer l.Holds l.Reaches l.lawful promised) K)
