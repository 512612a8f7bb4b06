-- A new chart has its invariant.
use Rattle.std.proofs.Common.{◌≡◌, ◌<◌, Bool, [], None, refl, sym, ap, subst, ℕ}
use Rattle.frames.specs.Behaviour.{Behaviour}
use Rattle.frames.specs.Configuration.{Configuration, initial_configuration}
use Rattle.schedule_trie.specs.Trie.{TrieOf, segment_at, forest, IsBlank, IsCut}
use Rattle.cutoff.specs.Fitting.{StoredRun}
use Rattle.cutoff.specs.Charts.{IsCharted, StepsFit}
use Rattle.cutoff.proofs.Links.{stored_in-unnoted}

pub charted_new : {R P : Type 0} (E : R → R → Bool) (is : R → Behaviour P) (register : R) (value : ℕ) (trie : TrieOf (StoredRun R P)) (start : Configuration R P)
    → value < (is register).values → StepsFit (is register) (forest trie) → IsCut trie → IsBlank trie → start ≡ initial_configuration (is register) register value
    → IsCharted E is 0 None None (record { trie = trie; start = start; value = value })
charted_new {R} {P} E is register value trie start within fits whole blank e =
    let r : register ≡ start.register = sym (ap (λ c. c.register) e) in
    record {
      within = subst (λ x. value < (is x).values) r within;
      begins = subst (λ x. start ≡ initial_configuration (is x) x value) r e;
      fits = subst (λ x. StepsFit (is x) (forest trie)) r fits;
      cut = whole;
      linked = record { exits = []; as_many = refl; each = λ k. stored_in-unnoted E start.register [] (segment_at trie.segments k) (blank k); reached_exit = tt };
      marked = tt;
      fresh_marked = tt;
    }
