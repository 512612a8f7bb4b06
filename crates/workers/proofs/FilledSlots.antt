-- Outcomes that thieves list, and that are put into slots.
use Rattle.std.proofs.Common.{◌≡◌, ◌≢◌, ℕ, zero, suc, ◌+◌, ◌-◌, ◌<◌, ◌≤◌, All, List, [], ◌∷◌, ◌++◌, length, map, replicate, set, get_or, sym, refl, ap, ◌∙◌, subst, append_assoc, append-nil, length-append, true≢false, arith}
use Rattle.std.specs.Prelude.{Option, Some, None, IsSome}
use Rattle.std.proofs.lemmas.List.{map-append, length-map}
use Rattle.std.proofs.lemmas.Option.{slice_get_within}
use Rattle.std.proofs.lemmas.List.Elements.{All-cons, All-head, All-push, All-same, All-tail}
use Rattle.workers.specs.declared.hand.Hand.{Hand}
use Rattle.workers.specs.declared.hand.Numbered.{Numbered}
use Rattle.workers.specs.declared.job.Done.{Done}
use Rattle.workers.specs.declared.thief.Taken.{Taken}
use Rattle.workers.specs.Hands.{weigh, one_at, hand, IsJobAt, HasTaken, HasAllJobs}
use Rattle.workers.specs.Outcomes.{IsDoneOf, OneForEach}
use Rattle.workers.specs.Slots.{IsOutcomeAt, IsSlot, AreSlots, AreFull, IsAtWork, HasRunItsJobs, with_all}
use Rattle.workers.proofs.DequeRule.{weigh-append, one_elsewhere, one_below}

module _ {J : Type 0} where
  -- the job that was taken is the one with its number
  pub took_at : (jobs : List J) (v w : Hand J) (x : Numbered J) → v.jobs ≡ jobs → HasTaken v (x ∷ []) w → IsJobAt jobs x.index x.job
  took_at jobs v w x known took = subst (λ (js : List J). IsJobAt js x.index x.job) known (took.each 0 x (omega arith))

  -- once a hand has taken one more job, fewer are left for it to take
  pub fewer_left : (v w : Hand J) (x : Numbered J) → HasTaken v (x ∷ []) w → length w.jobs - length w.taken < length v.jobs - length v.taken
  fewer_left v w x took =
      let jobs : length w.jobs ≡ length v.jobs = ap (λ (u : Hand J). length u.jobs) took.hand_is in
      let len : length w.taken ≡ length (v.taken ++ x.index ∷ []) = ap (λ (u : Hand J). length u.taken) took.hand_is in
      let within = took.within in
      omega (arith, length-append v.taken (x.index ∷ []))

module _ {D : Type 0} where
  -- the next of a thief's outcomes is of a job below n, if all are
  pub ran_within : (n : ℕ) (ran rest : List (Taken D)) (t : Taken D) → ran ≡ t ∷ rest → All (λ x. x.index < n) ran → t.index < n
  ran_within n ran rest t is all = let now : All (λ (x : Taken D). x.index < n) (t ∷ rest) = subst (All (λ (x : Taken D). x.index < n)) is all in now 0 t (omega arith)

  -- the outcomes after the next one are of jobs below m, if all are of jobs below n, which is m
  pub ran_later : (n m : ℕ) (ran rest : List (Taken D)) (t : Taken D) → ran ≡ t ∷ rest → m ≡ n → All (λ x. x.index < n) ran → All (λ x. x.index < m) rest
  ran_later n m ran rest t is same all =
      let now : All (λ (x : Taken D). x.index < n) (t ∷ rest) = subst (All (λ (x : Taken D). x.index < n)) is all in
      let rest_now : All (λ (x : Taken D). x.index < n) rest = All-tail (λ (x : Taken D). x.index < n) t rest now in
      subst (λ (k : ℕ). All (λ (x : Taken D). x.index < k) rest) (sym same) rest_now

  -- the next slot isn't empty
  pub not_empty : (slot : Option D) (items rest : List (Option D)) → items ≡ slot ∷ rest → All IsSome items → slot ≡ None → ⊥
  not_empty slot items rest split full none = true≢false (sym (subst IsSome none (All-head IsSome slot rest (All-same IsSome (slot ∷ rest) items (sym split) full))))

  -- the outcomes so far, with the slots that are left, are all slots; so they are with one more
  pub outcomes_more : (slots items rest : List (Option D)) (slot : Option D) (all more : List D) (done : D) → items ≡ slot ∷ rest → slot ≡ Some done → more ≡ all ++ done ∷ [] → slots ≡ map Some all ++ items → slots ≡ map Some more ++ rest
  outcomes_more slots items rest slot all more done split is added whole =
      whole ∙ ap (λ (l : List (Option D)). map Some all ++ l) (split ∙ ap (λ (s : Option D). s ∷ rest) is) ∙ sym (append_assoc (map Some all) (Some done ∷ []) rest)
      ∙ ap (λ (l : List (Option D)). l ++ rest) (sym (map-append Some all (done ∷ [])) ∙ ap (map Some) (sym added))

module _ {J D : Type 0} (ends : J → D → Type 0) where
  -- empty slots are right while no job is taken
  pub vacant_slots : (n : ℕ) (jobs : List J) → AreSlots ends n [] jobs (replicate (length jobs) None)
  vacant_slots n [] = tt
  vacant_slots n (job ∷ jobs) = (refl, vacant_slots (suc n) jobs)

  pub slots_length : (n : ℕ) (taken : List ℕ) (jobs : List J) (slots : List (Option D)) → AreSlots ends n taken jobs slots → length slots ≡ length jobs
  slots_length n taken [] [] s = refl
  slots_length n taken (job ∷ jobs) (slot ∷ slots) s = ap suc (slots_length (suc n) taken jobs slots s.1)
  slots_length n taken [] (slot ∷ slots) s = absurd s
  slots_length n taken (job ∷ jobs) [] s = absurd s

  -- an outcome of the job with the number i is an outcome at i
  pub outcome_at : (jobs : List J) (i : ℕ) (job : J) (o : D) → IsJobAt jobs i job → ends job o → IsOutcomeAt ends jobs i o
  outcome_at [] i job o at of = absurd (cc at)
  outcome_at (first ∷ jobs) zero job o at of = let is : first ≡ job = cc at in subst (λ (x : J). ends x o) (sym is) of
  outcome_at (first ∷ jobs) (suc i) job o at of = outcome_at jobs i job o at of

  pub outcome_below : (jobs : List J) (i : ℕ) (o : D) → IsOutcomeAt ends jobs i o → i < length jobs
  outcome_below [] i o at = absurd at
  outcome_below (j ∷ jobs) zero o at = omega arith
  outcome_below (j ∷ jobs) (suc i) o at = omega (arith, outcome_below jobs i o at)

  -- one more job is taken, which isn't the job of this slot
  slot_more : (n : ℕ) (taken : List ℕ) (job : J) (slot : Option D) (k : ℕ) → k ≢ n → IsSlot ends n taken job slot → IsSlot ends n (taken ++ k ∷ []) job slot
  slot_more n taken job None k other is = omega (arith, weigh-append (one_at n) taken (k ∷ []), one_elsewhere n k other)
  slot_more n taken job (Some o) k other is = is

  -- slots stay right if a job before them is taken
  slots_more : (n : ℕ) (taken : List ℕ) (jobs : List J) (slots : List (Option D)) (k : ℕ) → k < n → AreSlots ends n taken jobs slots → AreSlots ends n (taken ++ k ∷ []) jobs slots
  slots_more n taken [] [] k before s = tt
  slots_more n taken (job ∷ jobs) (slot ∷ slots) k before s = (slot_more n taken job slot k (omega arith) s.0, slots_more (suc n) taken jobs slots k (omega arith) s.1)
  slots_more n taken [] (slot ∷ slots) k before s = absurd s
  slots_more n taken (job ∷ jobs) [] k before s = absurd s

  -- slots stay right if job k is taken, and its outcome put into the slot i of those from n on
  slots_put_from : (n : ℕ) (taken : List ℕ) (jobs : List J) (slots : List (Option D)) (i k : ℕ) (o : D) → k ≡ n + i → AreSlots ends n taken jobs slots → IsOutcomeAt ends jobs i o
      → AreSlots ends n (taken ++ k ∷ []) jobs (set slots i (Some o))
  slots_put_from n taken [] slots i k o is s at = absurd at
  slots_put_from n taken (job ∷ jobs) [] i k o is s at = absurd s
  slots_put_from n taken (job ∷ jobs) (slot ∷ slots) zero k o is s at = (at, slots_more (suc n) taken jobs slots k (omega arith) s.1)
  slots_put_from n taken (job ∷ jobs) (slot ∷ slots) (suc i) k o is s at = (slot_more n taken job slot k (omega arith) s.0, slots_put_from (suc n) taken jobs slots i k o (omega arith) s.1 at)

  -- the same for the slots of all jobs
  pub slots_put : (taken : List ℕ) (jobs : List J) (slots : List (Option D)) (i : ℕ) (o : D) → AreSlots ends 0 taken jobs slots → IsOutcomeAt ends jobs i o
      → AreSlots ends 0 (taken ++ i ∷ []) jobs (set slots i (Some o))
  slots_put taken jobs slots i o s at = slots_put_from 0 taken jobs slots i i o (omega arith) s at

  -- slots stay right if a thief's jobs are taken, and each of its outcomes is put into its slot
  pub slots_put_all : (taken : List ℕ) (jobs : List J) (slots : List (Option D)) (ran : List (Taken D)) → AreSlots ends 0 taken jobs slots → All (λ t. IsOutcomeAt ends jobs t.index t.done) ran
      → AreSlots ends 0 (taken ++ map (λ t. t.index) ran) jobs (with_all slots ran)
  slots_put_all taken jobs slots [] s at = subst (λ (xs : List ℕ). AreSlots ends 0 xs jobs slots) (sym (append-nil taken)) s
  slots_put_all taken jobs slots (t ∷ ts) s at =
      let first = slots_put taken jobs slots t.index t.done s (at 0 t (omega arith)) in
      let rest = slots_put_all (taken ++ t.index ∷ []) jobs (set slots t.index (Some t.done)) ts first (All-tail (λ (x : Taken D). IsOutcomeAt ends jobs x.index x.done) t ts at) in
      subst (λ (xs : List ℕ). AreSlots ends 0 xs jobs (with_all (set slots t.index (Some t.done)) ts)) (append_assoc taken (t.index ∷ []) (map (λ (x : Taken D). x.index) ts)) rest

  -- the slots of the jobs from n on are full if each of these jobs was taken once
  slots_full_from : (n : ℕ) (taken : List ℕ) (jobs : List J) (slots : List (Option D)) → AreSlots ends n taken jobs slots → ((i : ℕ) → n ≤ i → i < n + length jobs → weigh (one_at i) taken ≡ 1) → AreFull ends jobs slots
  slots_full_from n taken [] [] s all = tt
  slots_full_from n taken [] (slot ∷ slots) s all = absurd s
  slots_full_from n taken (job ∷ jobs) [] s all = absurd s
  slots_full_from n taken (job ∷ jobs) (None ∷ slots) s all = absurd (let p = all n (omega arith) (omega arith) in let q = s.0 in omega arith)
  slots_full_from n taken (job ∷ jobs) (Some o ∷ slots) s all = (s.0, slots_full_from (suc n) taken jobs slots s.1 (λ i from to. all i (omega arith) (omega arith)))

  -- with every job taken once, each slot is full
  pub slots_full : (jobs : List J) (v : Hand J) (slots : List (Option D)) → IsAtWork ends jobs v slots → v.parts ≡ 8 → HasAllJobs v → AreFull ends jobs slots
  slots_full jobs v slots h whole all =
      let count : length v.jobs ≡ length jobs = ap length h.known in
      slots_full_from 0 v.taken jobs slots h.slotted (λ i from to. all whole (one_at i) ∙ one_below i (length v.jobs) (omega arith))

  -- a full slot isn't empty
  pub full_is_some : (jobs : List J) (slots : List (Option D)) → AreFull ends jobs slots → All IsSome slots
  full_is_some [] [] full = λ k d none. absurd (omega arith)
  full_is_some [] (slot ∷ slots) full = absurd full
  full_is_some (job ∷ jobs) [] full = absurd full
  full_is_some (job ∷ jobs) (None ∷ slots) full = absurd full
  full_is_some (job ∷ jobs) (Some o ∷ slots) full = All-cons IsSome (Some o) slots refl (full_is_some jobs slots full.1)

  -- the jobs were dealt, and none was taken
  pub at_start : (jobs : List J) (v : Hand J) (slots : List (Option D)) → v ≡ hand 8 jobs [] → slots ≡ replicate (length jobs) None → IsAtWork ends v.jobs v slots
  at_start jobs v slots dealt vacant =
      let P : Hand J → Type 0 = λ u. IsAtWork ends u.jobs u slots in
      subst P (sym dealt) (record { part = omega arith; known = refl; slotted = subst (AreSlots ends 0 [] jobs) (sym vacant) (vacant_slots 0 jobs) })

  -- the caller takes one more job, and puts its outcome into its slot
  pub at_work_after_job : (jobs : List J) (v w : Hand J) (slots : List (Option D)) (x : Numbered J) (o : D) → IsAtWork ends jobs v slots → HasTaken v (x ∷ []) w → ends x.job o → IsAtWork ends jobs w (set slots x.index (Some o))
  at_work_after_job jobs v w slots x o h took of =
      let P : Hand J → Type 0 = λ u. IsAtWork ends jobs u (set slots x.index (Some o)) in
      let at = outcome_at jobs x.index x.job o (took_at jobs v w x h.known took) of in
      subst P (sym took.hand_is) (record { part = h.part; known = h.known; slotted = slots_put v.taken jobs slots x.index o h.slotted at })

  -- the job that the caller takes has a slot
  pub taken_within_slots : (jobs : List J) (v w : Hand J) (slots : List (Option D)) (x : Numbered J) → IsAtWork ends jobs v slots → HasTaken v (x ∷ []) w → x.index < length slots
  taken_within_slots jobs v w slots x h took = omega (arith, slice_get_within jobs x.index x.job (took_at jobs v w x h.known took), slots_length 0 v.taken jobs slots h.slotted)

  -- a thief takes one more job, and adds its outcome to its list
  pub has_run_after_job : (jobs : List J) (v w : Hand J) (ran : List (Taken D)) (x : Numbered J) (o : D) → HasRunItsJobs ends jobs v ran → HasTaken v (x ∷ []) w → ends x.job o
      → HasRunItsJobs ends jobs w (ran ++ record { index = x.index; done = o } ∷ [])
  has_run_after_job jobs v w ran x o h took of =
      let t : Taken D = record { index = x.index; done = o } in
      let P : Hand J → Type 0 = λ u. HasRunItsJobs ends jobs u (ran ++ t ∷ []) in
      subst P (sym took.hand_is) (record {
        part = h.part;
        known = h.known;
        taken = map-append (λ (y : Taken D). y.index) ran (t ∷ []) ∙ ap (λ (ys : List ℕ). ys ++ x.index ∷ []) h.taken;
        outcomes = All-push (λ (y : Taken D). IsOutcomeAt ends jobs y.index y.done) ran t h.outcomes (outcome_at jobs x.index x.job o (took_at jobs v w x h.known took) of);
      })

  -- a hand that takes one more job had taken fewer than there are
  pub ran_room : (jobs : List J) (v w : Hand J) (ran : List (Taken D)) (x : Numbered J) → HasRunItsJobs ends jobs v ran → HasTaken v (x ∷ []) w → length ran < length jobs
  ran_room jobs v w ran x h took =
      let count : length v.jobs ≡ length jobs = ap length h.known in
      let len : length ran ≡ length v.taken = sym (length-map ran (λ (t : Taken D). t.index)) ∙ ap length h.taken in
      let more : length w.taken ≡ length (v.taken ++ x.index ∷ []) = ap (λ (u : Hand J). length u.taken) took.hand_is in
      let within = took.within in
      omega (arith, length-append v.taken (x.index ∷ []))

  -- a new thief has run none of the jobs
  pub has_run_none : (v u : Hand J) (ran : List (Taken D)) → u ≡ hand 1 v.jobs [] → ran ≡ [] → HasRunItsJobs ends u.jobs u ran
  has_run_none v u ran is none =
      let P : Hand J → Type 0 = λ x. HasRunItsJobs ends x.jobs x ran in
      let Q : List (Taken D) → Type 0 = λ ts. HasRunItsJobs ends v.jobs (hand 1 v.jobs []) ts in
      subst P (sym is) (subst Q (sym none) (record { part = refl; known = refl; taken = refl; outcomes = λ k d within. absurd (omega arith) }))

  -- each of a thief's outcomes has its slot
  pub ran_slots : (jobs mine his : List J) (v u : Hand J) (slots : List (Option D)) (ran : List (Taken D)) → mine ≡ jobs → his ≡ jobs → IsAtWork ends mine v slots → HasRunItsJobs ends his u ran → All (λ t. t.index < length slots) ran
  ran_slots jobs mine his v u slots ran same same' h t k d within =
      let len : length slots ≡ length mine = slots_length 0 v.taken mine slots h.slotted in
      let below : (get_or ran k d).index < length his = outcome_below his (get_or ran k d).index (get_or ran k d).done (t.outcomes k d within) in
      let count : length mine ≡ length his = ap length (same ∙ sym same') in
      omega arith

  -- the caller takes over the jobs of a thief, and their outcomes go into their slots
  pub takes_over : (jobs mine his : List J) (v u w : Hand J) (slots : List (Option D)) (ran : List (Taken D)) → mine ≡ jobs → his ≡ jobs → IsAtWork ends mine v slots → HasRunItsJobs ends his u ran → w ≡ hand (v.parts + u.parts) v.jobs (v.taken ++ u.taken)
      → IsAtWork ends jobs w (with_all slots ran)
  takes_over jobs mine his v u w slots ran same same' h t is =
      let P : Hand J → Type 0 = λ x. IsAtWork ends jobs x (with_all slots ran) in
      let slotted : AreSlots ends 0 v.taken jobs slots = subst (λ (js : List J). AreSlots ends 0 v.taken js slots) same h.slotted in
      let outcomes : All (λ (x : Taken D). IsOutcomeAt ends jobs x.index x.done) ran = subst (λ (js : List J). All (λ (x : Taken D). IsOutcomeAt ends js x.index x.done) ran) same' t.outcomes in
      subst P (sym is) (record {
        part = let p = h.part in omega arith;
        known = h.known ∙ same;
        slotted = subst (λ (xs : List ℕ). AreSlots ends 0 (v.taken ++ xs) jobs (with_all slots ran)) t.taken (slots_put_all v.taken jobs slots ran slotted outcomes);
      })

  -- the jobs were dealt, shared, and worked on until the deque was empty
  pub full_at_end : (jobs : List J) (u v w : Hand J) (shared slots : List (Option D)) → u ≡ hand 8 jobs [] → IsAtWork ends u.jobs v shared → v.parts ≡ u.parts → IsAtWork ends v.jobs w slots → w.parts ≡ v.parts → HasAllJobs w → AreFull ends jobs slots
  full_at_end jobs u v w shared slots dealt was kept h kept' all =
      let same : v.jobs ≡ jobs = was.known ∙ ap (λ (x : Hand J). x.jobs) dealt in
      let whole : w.parts ≡ 8 = kept' ∙ kept ∙ ap (λ (x : Hand J). x.parts) dealt in
      subst (λ (js : List J). AreFull ends js slots) same (slots_full v.jobs w slots h whole all)

  pub full_length : (jobs : List J) (slots : List (Option D)) → AreFull ends jobs slots → length slots ≡ length jobs
  full_length [] [] full = refl
  full_length [] (slot ∷ slots) full = absurd full
  full_length (job ∷ jobs) [] full = absurd full
  full_length (job ∷ jobs) (None ∷ slots) full = absurd full
  full_length (job ∷ jobs) (Some o ∷ slots) full = ap suc (full_length jobs slots full.1)

module _ {J K R : Type 0} (named : J → K) (gives : J → R → Type 0) where
  -- full slots have an outcome for each job
  pub full_outcomes : (jobs : List J) (all : List (Done K R)) → AreFull (IsDoneOf named gives) jobs (map Some all) → OneForEach named gives jobs all
  full_outcomes [] [] full = tt
  full_outcomes [] (done ∷ all) full = absurd full
  full_outcomes (job ∷ jobs) [] full = absurd full
  full_outcomes (job ∷ jobs) (done ∷ all) full = (full.0, full_outcomes jobs all full.1)
