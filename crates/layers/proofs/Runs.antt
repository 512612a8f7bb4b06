-- A layer running on a flat stack, from one part to the next.
use Rattle.std.proofs.Common.{◌≡◌, ℕ, Bool, ◌+◌, ◌≤◌, List, ◌∷◌, ◌++◌, arith, Option, Some, None, refl, sym, ap, subst, ◌∙◌, append-nil, length-take}
use Rattle.std.specs.Prelude.{⊤, ◌<◌, [], length, drop, take, IfSome}
use Rattle.std.proofs.lemmas.List.{drop-take}
use Rattle.safe_bit.specs.declared.Place.{Place}
use Rattle.safe_bit.specs.Memory.{Memory}
use Rattle.safe_bit.specs.Parts.{with_part}
use Rattle.safe_bit.specs.laws.Parts.{with_part-own}
use Rattle.frames.specs.declared.types.Op.{Op}
use Rattle.frames.specs.declared.types.Outcome.{Outcome}
use Rattle.frames.specs.declared.types.Outcome.TheVariants.{Value, Written, Spent}
use Rattle.frames.specs.declared.types.Next.{Next}
use Rattle.frames.specs.declared.types.Next.TheVariants.{Pending, Done}
use Rattle.frames.specs.declared.types.Frame.{Frame}
use Rattle.layers.specs.declared.nested.Nested.{Nested}
use Rattle.layers.specs.declared.nested.Continuation.{Continuation}
use Rattle.layers.specs.declared.nested.Continuation.TheVariants as continuation
use Rattle.frames.specs.Placed.{placed_bit}
use Rattle.frames.specs.Behaviour.{Behaviour, Begun, Moved, Answers, ReachedOrAnswered}
use Rattle.frames.specs.Flat.{Lands, HasFramesFrom, outcome_of, left_frames}
use Rattle.layers.specs.Nested.{Program, Table, layer_size, own_words_start, asked, part_goes, advance, resume, layered}
use Rattle.layers.specs.Sound.{IsSound, IsNotSpent, IsSpent, LayerHolds, LayerReaches}
use Rattle.layers.specs.Settled.{settled, ContinuationIsSound, run_on, follow_on}
use Rattle.layers.specs.InPlace.{own, LayerLies}
use Rattle.layers.specs.Flat.{task_frames, cut_if_ended}
use Rattle.layers.specs.laws.Flat.{same_item_and_rest, index_inside}
use Rattle.layers.specs.laws.InPlace.{own_with}
use Rattle.layers.specs.laws.Settled.{settled_is_reached, settled_holds, settled_in_place, advance_settled}
use Rattle.layers.specs.laws.Nested.{rest_sound}
use Rattle.layers.specs.laws.Running.{task_goes_holds, task_goes_reached, follow_on_well, task_asked_holds, task_asked_reached, run_on_well, with_part_twice, lies_after}
use Rattle.layers.specs.laws.Over.{LayerOver}

-- no program goes on after this outcome, or after none: the part's operation is spent, or waits
abbrev pub WaitsOrIsSpent : Option Outcome → Type 0
WaitsOrIsSpent None = ⊤
WaitsOrIsSpent (Some outcome) = IsSpent outcome

-- the layer has reached the continuation c and the memory m; run on from there, it reaches `aim`
pub record RunsOnTo {Task P : Type 0} (t : Table Task) (b : Behaviour P) (Holds : Memory → Type 0) (MayBeAt : ℕ → Op → Task → Type 0) (at : Place) (aim : Begun (Nested Task P)) (before : Memory)
    (c : Continuation Task) (m : Memory) : Type 0 where
  pub who : ℕ
  pub op : Op
  pub may_be_at : ContinuationIsSound (MayBeAt who op) (Answers t.values op) c
  pub lies : LayerLies t b Holds at m
  pub aims : run_on t b c (own t b at m) ≡ aim
  pub puts : (late : Memory) → LayerHolds t b Holds late → with_part at late m ≡ with_part at late before

-- an operation that gives an outcome has ended with it
pub done_of : {P : Type 0} (next : Next P) (outcome : Outcome) → outcome_of next ≡ Some outcome → next ≡ Done outcome
done_of (Pending p) outcome e = cc
done_of (Done o) outcome e = let same : o ≡ outcome = cc in ap Done same

-- a part's operation that has ended leaves the frames that were below its own
pub ended_leaves : {P : Type 0} (frames : P → List Frame) (next : Next P) (given : Option Outcome) (outcome : Outcome) (front left : List Frame) → given ≡ outcome_of next → given ≡ Some outcome
    → left ≡ front ++ left_frames frames next → left ≡ front
ended_leaves frames next given outcome front left answer e leaves = leaves ∙ ap (λ n. front ++ left_frames frames n) (done_of next outcome (sym answer ∙ e)) ∙ append-nil front

module _ {Task P : Type 0} (l : LayerOver Task P) where
  -- the task found from a frame is the one that the process is in
  pub found_task : (who first : ℕ) (stack : List Frame) (frame : Frame) → drop first stack ≡ frame ∷ drop (first + 1) stack
      → (o : Op) (n : Nested Task P) → HasFramesFrom (layered l.table l.below).frames (LayerReaches l.table l.MayBeAt l.Reaches) who first stack o n → l.table.find who frame ≡ n.task
  found_task who first stack frame found o n on =
      ap (l.table.find who) (same_item_and_rest first stack (l.below.frames n.below) (l.table.frame n.task) frame on.there found).0 ∙ (l.sound.frame_gives who o n.task on.reached.may_be_at).0

module _ {Task P : Type 0} (l : LayerOver Task P) (at : Place) where
  -- an operation waits if its part does, and is refused if its part is spent
  waiting_lands : (task : Task) (next : Next P) (inner : Memory) (given : Option Outcome) (front left : List Frame) (before after : Memory)
      → Lands (task_frames l.table l.below task) at next inner front before given left after → WaitsOrIsSpent given
      → Lands (layered l.table l.below).frames at (follow_on l.table l.below task next inner).next (follow_on l.table l.below task next inner).memory front before given left after
  waiting_lands task (Pending p) inner given front left before after lands h = record { answer = lands.answer; stack = lands.stack; memory = lands.memory }
  waiting_lands task (Done (Spent layer)) inner given front left before after lands h = record { answer = lands.answer; stack = lands.stack; memory = lands.memory }
  waiting_lands task (Done Written) inner given front left before after lands h = absurd (subst WaitsOrIsSpent lands.answer h)
  waiting_lands task (Done (Value v)) inner given front left before after lands h = absurd (subst WaitsOrIsSpent lands.answer h)

  -- the layer's operation reaches its aim if the part waits or is spent
  pub waiting_reaches_aim : (task : Task) (next : Next P) (inner : Memory) (given : Option Outcome) (front left : List Frame) (before after : Memory)
      → Lands (task_frames l.table l.below task) at next inner front before given left after → WaitsOrIsSpent given → (aim : Begun (Nested Task P)) → follow_on l.table l.below task next inner ≡ aim
      → Lands (layered l.table l.below).frames at aim.next aim.memory front before given left after
  waiting_reaches_aim task next inner given front left before after lands h aim e =
      subst (λ a. Lands (layered l.table l.below).frames at a.next a.memory front before given left after) e (waiting_lands task next inner given front left before after lands h)

  -- work that replaces the layer's memory has the same effect, whether or not that memory was
  -- replaced before
  pub lands_from_earlier : (m : Memory) → LayerLies l.table l.below l.Holds at m → (mid m1 : Memory) → m1 ≡ with_part at mid m → LayerHolds l.table l.below l.Holds mid
      → (r aim : Begun (Nested Task P)) → r ≡ aim → LayerHolds l.table l.below l.Holds r.memory → (front : List Frame) (given : Option Outcome) (left : List Frame) (m2 : Memory)
      → Lands (layered l.table l.below).frames at r.next r.memory front m1 given left m2 → Lands (layered l.table l.below).frames at aim.next aim.memory front m given left m2
  lands_from_earlier m lies mid m1 e well r aim same late front given left m2 lands =
      subst (λ a. Lands (layered l.table l.below).frames at a.next a.memory front m given left m2) same
      (record {
        answer = lands.answer;
        stack = lands.stack;
        memory = lands.memory ∙ ap (with_part at r.memory) e ∙ with_part_twice l at m lies mid r.memory well late;
      })

  -- settling a program in a store, in which the layer's own words begin at word `base`, is the same
  -- as settling it in the layer's memory there
  pub settled_in_store : (who : ℕ) (o : Op) (p : Program Task) (m : Memory) → LayerLies l.table l.below l.Holds at m
      → IsSound l.table (l.MayBeAt who o) (Answers l.table.values o) p
      → (base : ℕ) → base ≡ at.word + own_words_start l.table l.below.size → (c1 : Continuation Task) (m1 : Memory)
      → c1 ≡ (settled base p m).continuation → m1 ≡ (settled base p m).memory
      → (c1 ≡ (settled (own_words_start l.table l.below.size) p (own l.table l.below at m)).continuation)
      × (m1 ≡ with_part at (settled (own_words_start l.table l.below.size) p (own l.table l.below at m)).memory m)
  settled_in_store who o p m lies sound base is c1 m1 ec em =
      let there = settled_in_place l.table (l.MayBeAt who o) (Answers l.table.values o) at (layer_size l.table l.below.size) (own_words_start l.table l.below.size) p m sound lies.inside (omega arith) lies.holds.words in (
        ec ∙ ap (λ b. (settled b p m).continuation) is ∙ there.0,
        em ∙ ap (λ b. (settled b p m).memory) is ∙ there.1,
      )

  module _ (who : ℕ) (o : Op) (p : Program Task) (m : Memory) (lies : LayerLies l.table l.below l.Holds at m)
      (sound : IsSound l.table (l.MayBeAt who o) (Answers l.table.values o) p) (c1 : Continuation Task) (m1 : Memory)
      (ec : c1 ≡ (settled (own_words_start l.table l.below.size) p (own l.table l.below at m)).continuation)
      (em : m1 ≡ with_part at (settled (own_words_start l.table l.below.size) p (own l.table l.below at m)).memory m) where
    words_inside : own_words_start l.table l.below.size + l.table.words ≤ length (own l.table l.below at m).words
    words_inside = let w = lies.holds.size.words in omega arith

    pub settled_well : LayerHolds l.table l.below l.Holds (settled (own_words_start l.table l.below.size) p (own l.table l.below at m)).memory
    settled_well = settled_holds l (l.MayBeAt who o) (Answers l.table.values o) p (own l.table l.below at m) sound lies.holds

    -- a settled program is at a task or an end that suits; the layer lies at its place; and running
    -- on from there is the same as running the program
    pub settled_sound : ContinuationIsSound (l.MayBeAt who o) (Answers l.table.values o) c1
    settled_sound =
        subst (ContinuationIsSound (l.MayBeAt who o) (Answers l.table.values o)) (sym ec)
        (settled_is_reached l.table (l.MayBeAt who o) (Answers l.table.values o) (own_words_start l.table l.below.size) p (own l.table l.below at m) sound words_inside lies.holds.words)

    pub settled_lies : LayerLies l.table l.below l.Holds at m1
    settled_lies = lies_after l at m lies _ m1 em settled_well

    pub settled_runs_on : run_on l.table l.below c1 (own l.table l.below at m1) ≡ advance l.table l.below p (own l.table l.below at m)
    settled_runs_on =
        let here = own l.table l.below at m in
        let own_1 : own l.table l.below at m1 ≡ (settled (own_words_start l.table l.below.size) p here).memory = ap (own l.table l.below at) em ∙ own_with l at m lies _ settled_well in
        (λ i. run_on l.table l.below (ec i) (own_1 i))
        ∙ sym (advance_settled l.table (l.MayBeAt who o) (Answers l.table.values o) l.below p here sound words_inside lies.holds.words)

    pub settled_lands : (aim : Begun (Nested Task P)) → advance l.table l.below p (own l.table l.below at m) ≡ aim → (stack : List Frame) (given : Option Outcome) (left : List Frame) (m2 : Memory)
        → Lands (layered l.table l.below).frames at (run_on l.table l.below c1 (own l.table l.below at m1)).next (run_on l.table l.below c1 (own l.table l.below at m1)).memory stack m1 given left m2
        → Lands (layered l.table l.below).frames at aim.next aim.memory stack m given left m2
    settled_lands aim aims stack given left m2 lands =
        let mid = (settled (own_words_start l.table l.below.size) p (own l.table l.below at m)).memory in
        lands_from_earlier m lies mid m1 em settled_well (run_on l.table l.below c1 (own l.table l.below at m1)) aim (settled_runs_on ∙ aims)
        (run_on_well l who o c1 (own l.table l.below at m1) settled_sound settled_lies.holds).holds stack given left m2 lands

  -- after a part's operation that has ended and isn't spent, the program runs on
  pub advance_follows : (task : Task) (outcome : Outcome) (m : Memory) → IsNotSpent outcome → advance l.table l.below (l.table.rest task outcome) m ≡ follow_on l.table l.below task (Done outcome) m
  advance_follows task (Spent layer) m goes_on = absurd goes_on
  advance_follows task Written m goes_on = refl
  advance_follows task (Value v) m goes_on = refl

  module _ (aim : Begun (Nested Task P)) (before : Memory) (c : Continuation Task) (m : Memory) (come : RunsOnTo l.table l.below l.Holds l.MayBeAt at aim before c m) where
    -- a program that ends gives its outcome
    pub end_lands : (outcome : Outcome) (stack : List Frame) → c ≡ continuation.Ends outcome → Lands (layered l.table l.below).frames at aim.next aim.memory stack before (Some outcome) stack m
    end_lands outcome stack is =
        let here = own l.table l.below at m in
        let e = ap (λ d. run_on l.table l.below d here) (sym is) ∙ come.aims in
        subst (λ a. Lands (layered l.table l.below).frames at a.next a.memory stack before (Some outcome) stack m) e
        (record {
          answer = refl;
          stack = sym (append-nil stack);
          memory = sym (with_part-own at (layer_size l.table l.below.size) m come.lies.inside) ∙ come.puts here come.lies.holds;
        })

    module _ (task : Task) (is : c ≡ continuation.Asks task) (given : Option Outcome) (stack left : List Frame) (m1 : Memory)
        (lands : Lands (task_frames l.table l.below task) at (asked l.below (l.table.asks task) (own l.table l.below at m)).next (asked l.below (l.table.asks task) (own l.table l.below at m)).memory stack m given left m1) where
      task_may_be_at : l.MayBeAt come.who come.op task
      task_may_be_at = subst (ContinuationIsSound (l.MayBeAt come.who come.op) (Answers l.table.values come.op)) is come.may_be_at

      asked_well : LayerHolds l.table l.below l.Holds (asked l.below (l.table.asks task) (own l.table l.below at m)).memory
      asked_well = task_asked_holds l come.who come.op task (own l.table l.below at m) come.lies.holds task_may_be_at

      asked_aims : follow_on l.table l.below task (asked l.below (l.table.asks task) (own l.table l.below at m)).next (asked l.below (l.table.asks task) (own l.table l.below at m)).memory ≡ aim
      asked_aims = ap (λ d. run_on l.table l.below d (own l.table l.below at m)) (sym is) ∙ come.aims

      asked_puts : m1 ≡ with_part at (asked l.below (l.table.asks task) (own l.table l.below at m)).memory before
      asked_puts = lands.memory ∙ come.puts _ asked_well

      -- the layer's operation reaches its aim if the part that is asked waits or is spent
      pub asked_waiting_reaches_aim : WaitsOrIsSpent given → Lands (layered l.table l.below).frames at aim.next aim.memory stack before given left m1
      asked_waiting_reaches_aim h =
          waiting_reaches_aim task _ _ given stack left before m1 (record { answer = lands.answer; stack = lands.stack; memory = asked_puts }) h aim asked_aims

      -- the layer still lies at its place
      pub asked_lies : LayerLies l.table l.below l.Holds at m1
      asked_lies = lies_after l at m come.lies _ m1 lands.memory asked_well

      -- the outcome of a part's operation that has ended suits the operation
      pub asked_answers : (outcome : Outcome) → given ≡ Some outcome → Answers l.below.values (l.table.asks task).op outcome
      asked_answers outcome e =
          subst (ReachedOrAnswered (l.Reaches (l.table.asks task).who (l.table.asks task).op) (Answers l.below.values (l.table.asks task).op)) (done_of _ outcome (sym lands.answer ∙ e))
          (task_asked_reached l come.who come.op task (own l.table l.below at m) come.lies.holds task_may_be_at)

      -- a part's operation that has ended leaves the frames that were below its own
      pub asked_leaves : (outcome : Outcome) → given ≡ Some outcome → left ≡ stack
      asked_leaves outcome e =
          ended_leaves (task_frames l.table l.below task) (asked l.below (l.table.asks task) (own l.table l.below at m)).next given outcome stack left lands.answer e lands.stack

      -- the program goes on after a part's operation that has ended
      pub goes_on_after : (outcome : Outcome) → given ≡ Some outcome → IsNotSpent outcome → (c2 : Continuation Task) (m2 : Memory)
          → c2 ≡ (settled (own_words_start l.table l.below.size) (l.table.rest task outcome) (own l.table l.below at m1)).continuation
          → m2 ≡ with_part at (settled (own_words_start l.table l.below.size) (l.table.rest task outcome) (own l.table l.below at m1)).memory m1
          → RunsOnTo l.table l.below l.Holds l.MayBeAt at aim before c2 m2
      goes_on_after outcome e goes_on c2 m2 ec em =
          let here = own l.table l.below at m1 in
          let asked_memory = (asked l.below (l.table.asks task) (own l.table l.below at m)).memory in
          let sound = rest_sound l come.who come.op task outcome task_may_be_at (asked_answers outcome e) goes_on in
          let rest = l.table.rest task outcome in
          let own_1 : here ≡ asked_memory = ap (own l.table l.below at) lands.memory ∙ own_with l at m come.lies asked_memory asked_well in
          let done : Done outcome ≡ (asked l.below (l.table.asks task) (own l.table l.below at m)).next = sym (done_of _ outcome (sym lands.answer ∙ e)) in
          record {
            who = come.who;
            op = come.op;
            may_be_at = settled_sound come.who come.op rest m1 asked_lies sound c2 m2 ec em;
            lies = settled_lies come.who come.op rest m1 asked_lies sound c2 m2 ec em;
            aims = settled_runs_on come.who come.op rest m1 asked_lies sound c2 m2 ec em ∙ advance_follows task outcome here goes_on
                ∙ (λ i. follow_on l.table l.below task (done i) (own_1 i)) ∙ asked_aims;
            puts = λ late h. ap (with_part at late) em ∙ with_part_twice l at m1 asked_lies _ late (settled_well come.who come.op rest m1 asked_lies sound c2 m2 ec em) h
                ∙ ap (with_part at late) lands.memory ∙ with_part_twice l at m come.lies asked_memory late asked_well h ∙ come.puts late h;
          }

  -- a part's operation that is spent ends the layer's operation
  pub follows_spent : (task : Task) (outcome : Outcome) (stack : List Frame) (m : Memory) → LayerLies l.table l.below l.Holds at m → IsSpent outcome
      → Lands (layered l.table l.below).frames at (follow_on l.table l.below task (Done outcome) (own l.table l.below at m)).next (follow_on l.table l.below task (Done outcome) (own l.table l.below at m)).memory stack m (Some outcome) stack m
  follows_spent task (Spent layer) stack m lies h =
      record { answer = refl; stack = sym (append-nil stack); memory = sym (with_part-own at (layer_size l.table l.below.size) m lies.inside) }
  follows_spent task Written stack m lies h = absurd h
  follows_spent task (Value v) stack m lies h = absurd h

-- a layer's operation makes a bit action: its frame gives its task, and its part makes the action
module _ {Task P : Type 0} (l : LayerOver Task P) {at : Place} {m : Memory} (lies : LayerLies l.table l.below l.Holds at m) (who first : ℕ) (stack : List Frame) (choice : Bool)
    {frame : Frame} (found : drop first stack ≡ frame ∷ drop (first + 1) stack) {task : Task} (finds : task ≡ l.table.find who frame) where
  -- the effect of the part's action
  abbrev moved : P → Moved P
  moved p = part_goes l.below (l.table.asks task).part p choice (own l.table l.below at m)

  abbrev HasFramesOf : Op → Nested Task P → Type 0
  HasFramesOf o n = HasFramesFrom (layered l.table l.below).frames (LayerReaches l.table l.MayBeAt l.Reaches) who first stack o n

  in_task : (o : Op) (n : Nested Task P) → HasFramesOf o n → task ≡ n.task
  in_task o n on = finds ∙ found_task l who first stack frame found o n on

  -- if the part's operation has ended, the layer's own frame is still there, and gives the same
  -- task
  module _ (left : List Frame) {end : Option Outcome} {outcome : Outcome} (is : end ≡ Some outcome) (still : IfSome end (λ _. left ≡ take (first + 1) stack)) where
    left_is : left ≡ take (first + 1) stack
    left_is = subst (λ e. IfSome e (λ _. left ≡ take (first + 1) stack)) is still

    pub frame_still_there : first < length left
    frame_still_there =
        let there = index_inside first stack (drop (first + 1) stack) frame found in
        let long = ap length left_is in
        omega (arith, there, long, length-take (first + 1) stack)

    pub found_again : {last : Frame} → drop first left ≡ last ∷ drop (first + 1) left → {again : Task} → again ≡ l.table.find who last → again ≡ task
    found_again {last} there e =
        let own : drop first left ≡ frame ∷ [] = ap (drop first) left_is ∙ drop-take first 1 stack ∙ ap (take 1) found in
        e ∙ ap (l.table.find who) (same_item_and_rest first left [] frame last own there).0 ∙ sym finds

  pub at_found_task : (o : Op) (n : Nested Task P) → HasFramesOf o n → HasFramesOf o (record { task = task; below = n.below })
  at_found_task o n on = subst (λ x. HasFramesOf o (record { task = x; below = n.below })) (sym (in_task o n on)) on

  pub chooses : (chosen : Option (ℕ × Bool)) → ((o : Op) (p : P) → HasFramesOf o (record { task = task; below = p }) → chosen ≡ placed_bit at (moved p).chosen)
      → (o : Op) (n : Nested Task P) → HasFramesOf o n → chosen ≡ placed_bit at (resume l.table l.below n choice (own l.table l.below at m)).chosen
  chooses chosen e o n on =
      e o n.below (at_found_task o n on) ∙ ap (λ x. placed_bit at (part_goes l.below (l.table.asks x).part n.below choice (own l.table l.below at m)).chosen) (in_task o n on)

  module _ {end : Option Outcome} (still : List Frame) {m1 : Memory}
      (pushes : (o : Op) (p : P) → HasFramesOf o (record { task = task; below = p })
      → Lands (task_frames l.table l.below task) at (moved p).next (moved p).memory (take first stack) m end (cut_if_ended first end still) m1)
      {o : Op} {n : Nested Task P} (on : HasFramesOf o n) where
    -- the stack, without the layer's own frame if the part's operation has ended
    abbrev left : List Frame
    left = cut_if_ended first end still

    lands : Lands (task_frames l.table l.below task) at (moved n.below).next (moved n.below).memory (take first stack) m end left m1
    lands = pushes o n.below (at_found_task o n on)

    -- the effect for the task found is that for the task that the process is in
    for_task : (front : List Frame) (given : Option Outcome) (after : List Frame) (m2 : Memory)
        → Lands (layered l.table l.below).frames at (follow_on l.table l.below task (moved n.below).next (moved n.below).memory).next (follow_on l.table l.below task (moved n.below).next (moved n.below).memory).memory front m given after m2
        → Lands (layered l.table l.below).frames at (resume l.table l.below n choice (own l.table l.below at m)).next (resume l.table l.below n choice (own l.table l.below at m)).memory front m given after m2
    for_task front given after m2 it =
        subst (λ x. Lands (layered l.table l.below).frames at (resume l.table l.below (record { task = x; below = n.below }) choice (own l.table l.below at m)).next
        (resume l.table l.below (record { task = x; below = n.below }) choice (own l.table l.below at m)).memory front m given after m2) (in_task o n on) it

    -- the layer waits if the part waits
    pub waits : end ≡ None → Lands (layered l.table l.below).frames at (resume l.table l.below n choice (own l.table l.below at m)).next (resume l.table l.below n choice (own l.table l.below at m)).memory
        (take first stack) m end still m1
    waits none =
        for_task (take first stack) end still m1
        (subst (λ s. Lands (layered l.table l.below).frames at (follow_on l.table l.below task (moved n.below).next (moved n.below).memory).next
        (follow_on l.table l.below task (moved n.below).next (moved n.below).memory).memory (take first stack) m end s m1) (ap (λ e. cut_if_ended first e still) none)
        (waiting_reaches_aim l at task (moved n.below).next (moved n.below).memory end (take first stack) left m m1 lands (subst WaitsOrIsSpent (sym none) tt)
        (follow_on l.table l.below task (moved n.below).next (moved n.below).memory) refl))

    module _ {outcome : Outcome} (is : end ≡ Some outcome) where
      part_goes_well : LayerHolds l.table l.below l.Holds (moved n.below).memory
      part_goes_well = let there = at_found_task o n on in task_goes_holds l who o task n.below choice (own l.table l.below at m) lies.holds there.reached.may_be_at there.reached.below

      moved_done : (moved n.below).next ≡ Done outcome
      moved_done = done_of (moved n.below).next outcome (sym lands.answer ∙ is)

      -- if the part's operation has ended, the layer lies at its place, the outcome suits, and the
      -- stack is cut
      pub ended_lies : LayerLies l.table l.below l.Holds at m1
      ended_lies = lies_after l at m lies (moved n.below).memory m1 lands.memory part_goes_well

      ended_suits : l.MayBeAt who o task × Answers l.below.values (l.table.asks task).op outcome
      ended_suits =
          let there = at_found_task o n on in (
            there.reached.may_be_at,
            subst (ReachedOrAnswered (l.Reaches (l.table.asks task).who (l.table.asks task).op) (Answers l.below.values (l.table.asks task).op)) moved_done
                (task_goes_reached l who o task n.below choice (own l.table l.below at m) lies.holds there.reached.may_be_at there.reached.below),
          )

      ended_left : take first still ≡ take first stack
      ended_left =
          sym (ap (λ e. cut_if_ended first e still) is)
          ∙ ended_leaves (task_frames l.table l.below task) (moved n.below).next end outcome (take first stack) left lands.answer is lands.stack

      -- the outcome also suits the task that is found again, since it is the same
      pub again_suits : (back : Task) → back ≡ task → l.MayBeAt who o back × Answers l.below.values (l.table.asks back).op outcome
      again_suits back same = subst (λ t. l.MayBeAt who o t × Answers l.below.values (l.table.asks t).op outcome) (sym same) ended_suits

      -- the program runs on after the part's operation has ended
      pub ended_goes_on : (back : Task) → back ≡ task → (front : List Frame) → front ≡ take first still → (given : Option Outcome) (after : List Frame) (m2 : Memory)
          → Lands (layered l.table l.below).frames at (follow_on l.table l.below back (Done outcome) (own l.table l.below at m1)).next (follow_on l.table l.below back (Done outcome) (own l.table l.below at m1)).memory front m1 given after m2
          → Lands (layered l.table l.below).frames at (resume l.table l.below n choice (own l.table l.below at m)).next (resume l.table l.below n choice (own l.table l.below at m)).memory (take first stack) m given after m2
      ended_goes_on back same front cut given after m2 it =
          let it_there = subst (λ t. Lands (layered l.table l.below).frames at (follow_on l.table l.below t (Done outcome) (own l.table l.below at m1)).next
          (follow_on l.table l.below t (Done outcome) (own l.table l.below at m1)).memory front m1 given after m2) same it in
          let here : own l.table l.below at m1 ≡ (moved n.below).memory = ap (own l.table l.below at) lands.memory ∙ own_with l at m lies (moved n.below).memory part_goes_well in
          let late = (follow_on_well l who o task (Done outcome) (own l.table l.below at m1) ended_lies.holds ended_suits.0 ended_suits.1).holds in
          for_task (take first stack) given after m2
          (lands_from_earlier l at m lies (moved n.below).memory m1 lands.memory part_goes_well (follow_on l.table l.below task (Done outcome) (own l.table l.below at m1))
          (follow_on l.table l.below task (moved n.below).next (moved n.below).memory) (λ i. follow_on l.table l.below task (sym moved_done i) (here i)) late (take first stack) given after m2
          (subst (λ s. Lands (layered l.table l.below).frames at (follow_on l.table l.below task (Done outcome) (own l.table l.below at m1)).next
          (follow_on l.table l.below task (Done outcome) (own l.table l.below at m1)).memory s m1 given after m2) (cut ∙ ended_left) it_there))
