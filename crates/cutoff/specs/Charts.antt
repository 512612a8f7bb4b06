-- The invariant of a chart, and the results of looks and settles.
use Rattle.std.specs.Prelude.{ℕ, ◌≡◌, ◌<◌, Bool, nat_lt, List, [], Option, None, Some, Result, Ok, Err, length, map, if◌then◌else◌}
use Rattle.std.specs.List.{All}
use Rattle.frames.specs.Behaviour.{Behaviour}
use Rattle.frames.specs.Configuration.{Configuration, initial_configuration}
use Rattle.frames.specs.Recorded.{AllFit, without_register}
use Rattle.schedule_trie.specs.declared.limb.Limb.{Limb}
use Rattle.schedule_trie.specs.declared.refusal.Refusal.{Refusal}
use Rattle.schedule_trie.specs.declared.refusal.Refusal.TheVariants.{NoPlace}
use Rattle.schedule_trie.specs.Forest.{Forest, slots_in, step_of, index_of, on_branch}
use Rattle.schedule_trie.specs.declared.limits.Limits.{Limits}
use Rattle.schedule_trie.specs.Limbs.{AreLawfulLimbs}
use Rattle.schedule_trie.specs.Trie.{TrieOf, KeyedBranch, AreLimits, IsBlank, IsCut, forest, keys_in}
use Rattle.cutoff.specs.Fitting.{StoredRun, reached}
use Rattle.cutoff.specs.Links.{IsLinked}
use Rattle.cutoff.specs.Prefixes.{RunsToOnAll, AreFresh}

-- a chart: a forest cut into segments with their stored runs, the initial configuration, and the
-- initial value
pub record Charted (R P : Type 0) : Type 0 where
  pub trie : TrieOf (StoredRun R P)
  pub start : Configuration R P
  pub value : ℕ

-- each step of each branch fits the register with the behaviour b
abbrev pub StepsFit : {P : Type 0} → Behaviour P → Forest → Type 0
StepsFit b f = (i : ℕ) → AllFit b (map step_of (slots_in f.branches i))

-- the invariant of a chart: the initial value is one of the register's values, the branches begin
-- from the initial configuration, their steps fit the register, they are cut into segments, the
-- numbers below `next` are those given to runs, and stored runs fit down to the marked segment and
-- to each one whose run was last found to fit with the number `fresh` or a greater one
pub record IsCharted {R P : Type 0} (E : R → R → Bool) (is : R → Behaviour P) (next : ℕ) (fresh mark : Option ℕ) (c : Charted R P) : Type 0 where
  pub within : c.value < (is c.start.register).values
  pub begins : c.start ≡ initial_configuration (is c.start.register) c.start.register c.value
  pub fits : StepsFit (is c.start.register) (forest c.trie)
  pub cut : IsCut c.trie
  pub linked : IsLinked E c.start.register next None (without_register c.start) c.trie
  pub marked : RunsToOnAll E is c.trie c.start mark
  pub fresh_marked : AreFresh E is c.trie c.start fresh

-- each limb's own steps fit the register with the behaviour b
abbrev pub LimbsFit : {P : Type 0} → Behaviour P → List Limb → Type 0
LimbsFit b limbs = All (λ l. AllFit b l.steps) limbs

-- what a chart, a book and a desk need of the initial value and the limits that they are made with:
-- the value is one of the register's, and the limits are in their ranges
pub record CanBegin {P : Type 0} (b : Behaviour P) (value : ℕ) (limits : Limits) : Type 0 where
  pub within : value < b.values
  pub in_range : AreLimits limits

-- what they need of limbs that they are made from: there is at least one, the limbs are lawful, and
-- their steps fit the register
pub record CanLoad {P : Type 0} (b : Behaviour P) (limbs : List Limb) : Type 0 where
  pub some : 0 < length limbs
  pub lawful : AreLawfulLimbs limbs
  pub fit : LimbsFit b limbs

-- a chart as it is made for a register with the behaviour b: it begins from the initial
-- configuration with this value, its branches are cut into segments, and no run is stored
pub record IsNewChart {R P : Type 0} (b : Behaviour P) (register : R) (initial : ℕ) (c : Charted R P) : Type 0 where
  pub start : c.start ≡ initial_configuration b register initial
  pub value : c.value ≡ initial
  pub cut : IsCut c.trie
  pub blank : IsBlank c.trie

-- the keys of the segments of the branch at an index; none if the index is `None`
abbrev pub keys_at : Option ℕ → List KeyedBranch → List ℕ
keys_at None branches = []
keys_at (Some i) branches = keys_in branches i

-- the keys of the segments of the named branch; none if there is no such branch
abbrev pub keys_named : {R P : Type 0} → TrieOf (StoredRun R P) → List ℕ → List ℕ
keys_named trie name = keys_at (index_of (forest trie).branches name) trie.branches

-- the result of a look at a place of the branch i: the same branches, or NoPlace if the branch has
-- fewer than `place` cells
abbrev pub looked_at : Forest → ℕ → ℕ → Result Forest Refusal
looked_at f place i = if nat_lt (length (slots_in f.branches i)) place then Err NoPlace else Ok f

-- the result of a look at a place of the named branch: the same branches, or NoBranch or NoPlace if
-- there is no such branch or place
abbrev pub look : Forest → List ℕ → ℕ → Result Forest Refusal
look f name place = on_branch f name (looked_at f place)

-- the keys of the segments that have at least one of the first `place` cells of the named branch
abbrev pub reached_by : {R P : Type 0} → TrieOf (StoredRun R P) → List ℕ → ℕ → List ℕ
reached_by trie name place = reached trie place (keys_named trie name)
