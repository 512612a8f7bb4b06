-- Definitions that claim that something exists: an example of each, and a near miss.
use Rattle.std.specs.Prelude.{⊤}
use Rattle.std.proofs.Common.{ℕ, ◌≡◌, ◌++◌, List, [], ◌∷◌, None, Err, length, codes, replicate, ap, refl, sym, ◌∙◌, subst, inr, arith}
use Rattle.frames.specs.declared.safe.SafePoint.{SafePoint}
use Rattle.frames.specs.Behaviour.{Behaviour}
use Rattle.frames.specs.SafeBit.{safe_behaviour}
use Rattle.frames.specs.Configuration.{initial_configuration}
use Rattle.schedule_trie.specs.declared.limits.Limits.{Limits}
use Rattle.schedule_trie.specs.declared.refusal.Refusal.TheVariants.{Memory, LogFull, NoBranch}
use Rattle.schedule_trie.specs.Trie.{TrieOf, keyed_branch}
use Rattle.cutoff.specs.Fitting.{StoredRun}
use Rattle.cutoff.specs.Charts.{Charted}
use Rattle.turn.specs.declared.view.View.{View}
use Rattle.turn.specs.Histories.{first_view}
use Rattle.sessions.specs.declared.command.Command.TheVariants as command
use Rattle.sessions.specs.declared.reply.Reply.TheVariants.{Joined, No}
use Rattle.sessions.specs.declared.log.Entry.{Entry}
use Rattle.sessions.specs.Books.{BookOf, StoredWorld, opening_of}
use Rattle.sessions.specs.Logs.{entry, world_after}
use Rattle.sessions.specs.World.{World}
use Rattle.desk.specs.declared.item.Item.{Item}
use Rattle.desk.specs.declared.report.Report.{Report}
use Rattle.desk.specs.Works.{NeedsBranch}
use Rattle.desk.specs.Items.{items}
use Rattle.desk.specs.Chairs.{Finds, KeepsSeen, Received, Reads, Filled}

-- each register is a safe bit
abbrev is : ⊤ → Behaviour SafePoint
is register = safe_behaviour

abbrev limits : Limits
limits = record { cells = 9; branches = 9; log = 9 }

-- a trie with one branch, `main`, which has no steps
abbrev trie : TrieOf (StoredRun ⊤ SafePoint)
trie = record { branches = keyed_branch (codes "main") [] ∷ []; segments = []; made = 0; limits = limits }

abbrev chart : Charted ⊤ SafePoint
chart = record { trie = trie; start = initial_configuration safe_behaviour tt 0; value = 0 }

abbrev stored : StoredWorld ⊤ SafePoint
stored = record {
  chart = chart;
  limits = limits;
  cursors = replicate 16 None;
  breaks = replicate 16 [];
  edits = 0;
  logged = 0;
}

abbrev first : BookOf ⊤ SafePoint
first = record { first = chart; now = stored; log = []; room = 0 }

-- a chair with every share that has seen these calls
abbrev having : List Entry → View (Item ⊤ SafePoint)
having calls = first_view (items first calls)

abbrev join : Entry
join = entry 0 3 None command.Join Joined

nil_not_append : (front back : List Entry) (e : Entry) → [] ≡ front ++ e ∷ back → ⊥
nil_not_append [] back e is = cc
nil_not_append (x ∷ front) back e is = cc

found_nothing : Finds (having []) []
found_nothing = record { begins = ([], refl); whole = λ all. refl; reported = omega arith }

-- memory ran out for a join: it isn't logged, and the chair has seen no call
Received-holds : Received is first 3 None command.Join (having []) (having []) (record { at = 0; reply = No Memory })
Received-holds = record {
  found = [];
  finds = found_nothing;
  legal = tt;
  sees = refl;
  owns = refl;
  replies = inr refl;
  at = refl;
  full = λ is. absurd (memory_full is);
  room = λ is. omega arith;
  shares = refl;
  reported = refl;
}
  where
    memory_full : No Memory ≡ No LogFull → ⊥
    memory_full e = cc

-- the reply to a join is Joined, but the chair has seen no call
Received-fails : Received is first 3 None command.Join (having []) (having []) (record { at = 0; reply = Joined }) → ⊥
Received-fails h = nil_not_append h.found [] _ h.sees

-- a reading that finds no call
reads_nothing : (says : ℕ → World SafePoint → Type 0) → says 0 (opening_of is first) → Reads is first says (having []) (having [])
reads_nothing says answer = record { found = []; finds = found_nothing; legal = tt; answers = answer; sees = refl; calls = refl; shares = refl; reported = refl }

-- a reading found a history of length 0, as its answer says
Reads-holds : Reads is first (λ n world. n ≡ 0) (having []) (having [])
Reads-holds = reads_nothing (λ n world. n ≡ 0) refl

-- a reading found a history of one call, but its answer says that the length is 0
Reads-fails : Reads is first (λ n world. n ≡ 0) (having []) (having (join ∷ [])) → ⊥
Reads-fails h = let one : 1 ≡ length h.found = ap length h.sees in omega (arith, one, h.answers)

stays : KeepsSeen (having []) (having [])
stays = record { begins = ([], refl); whole = λ all. refl; calls = refl; shares = refl; reported = refl }

-- a fill is refused as NoBranch, since there is no branch `a`
Filled-holds : Filled is first (codes "a") (having []) (having []) (Err NoBranch)
Filled-holds = (having [], reads_nothing (λ n world. NeedsBranch {A = Report} (codes "a") world (Err NoBranch)) refl, stays)

-- a fill is refused as NoBranch, though its branch, `main`, is there
Filled-fails : Filled is first (codes "main") (having []) (having []) (Err NoBranch) → ⊥
Filled-fails h = there (subst (λ found. NeedsBranch {A = Report} (codes "main") (world_after (opening_of is first) found) (Err NoBranch)) found h.1.answers)
  where
    empty : (front back : List Entry) → front ++ back ≡ [] → front ≡ []
    empty [] back e = refl
    empty (x ∷ front) back e = cc

    found : h.1.found ≡ []
    found = sym h.1.sees ∙ empty _ _ h.2.begins.1

    there : Memory ≡ NoBranch → ⊥
    there e = cc
