-- Each call on the deque keeps the deque's invariant (`IsDealt`).
use Rattle.std.proofs.Common.{◌≡◌, ◌≢◌, ℕ, zero, suc, ◌+◌, ◌-◌, ◌<◌, ◌≤◌, ◌⊎◌, ◌∙◌, All, List, [], ◌∷◌, ◌++◌, length, set, sym, refl, ap, subst, ⊎_elim, arith, rules, add-one, length-append}
use Rattle.std.proofs.lemmas.Bool.Decides.{nat_tests}
use Rattle.std.proofs.lemmas.List.{map-append}
use Rattle.std.proofs.lemmas.List.Elements.{All-cons, All-push, All-tail}
use mathlib.Core.Option.{some, some-ne-none}
use lib.ListN.{get_elem?}
use Rattle.crossbeam_deque.specs.Tasks.{Pushes, Takes, Finds, Forks, Merges}
use Rattle.crossbeam_deque.proofs.Lists.{at_set, at_snoc}
use Rattle.workers.specs.declared.hand.Hand.{Hand}
use Rattle.workers.specs.declared.hand.Numbered.{Numbered}
use Rattle.workers.specs.Hands.{weigh, weigh_below, one_at, hand, total, numbers, IsJobAt, KnowsJobs, IsDealt, HasTaken, HasAllJobs}

pub weigh-append : (h : ℕ → ℕ) (xs ys : List ℕ) → weigh h (xs ++ ys) ≡ weigh h xs + weigh h ys
weigh-append h [] ys = omega arith
weigh-append h (x ∷ xs) ys = omega (arith, weigh-append h xs ys)

pub below_more : (h : ℕ → ℕ) (n : ℕ) → weigh_below h (n + 1) ≡ weigh_below h n + h n
below_more h n = rw add-one

-- a number below n + 1 is n, or is below n
last_or_before : (x n : ℕ) → x < suc n → (n ≡ x) ⊎ (x < n)
last_or_before x n below = search rules

pub one_elsewhere : (x y : ℕ) → y ≢ x → one_at x y ≡ 0
one_elsewhere x y other = grind (arith, nat_tests)

pub one_here : (x : ℕ) → one_at x x ≡ 1
one_here x = grind (arith, nat_tests)

-- a number x that isn't below n isn't among the numbers below n
pub one_at_above : (x n : ℕ) → n ≤ x → weigh_below (one_at x) n ≡ 0
one_at_above x zero above = refl
one_at_above x (suc n) above = let rest : weigh_below (one_at x) n ≡ 0 = one_at_above x n (omega arith) in let other : one_at x n ≡ 0 = one_elsewhere x n (omega arith) in omega arith

-- a number x below n is among the numbers below n once
pub one_below : (x n : ℕ) → x < n → weigh_below (one_at x) n ≡ 1
one_below x zero below = absurd (omega arith)
one_below x (suc n) below =
    ⊎_elim (λ (last : n ≡ x). let here : one_at x n ≡ 1 = subst (λ (y : ℕ). one_at x y ≡ 1) (sym last) (one_here x) in omega (arith, one_at_above x n (omega arith)))
    (λ (before : x < n). let other : one_at x n ≡ 0 = one_elsewhere x n (omega arith) in omega (arith, one_below x n before)) (last_or_before x n below)

-- with the weight 1 for each, the sum is how many there are
weigh_each : (xs : List ℕ) → weigh (λ _. 1) xs ≡ length xs
weigh_each [] = refl
weigh_each (x ∷ xs) = omega (arith, weigh_each xs)

below_each : (n : ℕ) → weigh_below (λ _. 1) n ≡ n
below_each zero = refl
below_each (suc n) = omega (arith, below_each n)

module _ {J : Type 0} where
  -- the sum over all hands after one hand, v, is replaced by w
  total_set : (f : Hand J → ℕ) (views : List (Hand J)) (port : ℕ) (v w : Hand J) → get_elem? views port ≡ some v → total f (set views port w) + f v ≡ total f views + f w
  total_set f [] port v w at = absurd (some-ne-none v (sym at))
  total_set f (x ∷ xs) zero v w at = let same : x ≡ v = cc in let also : f x ≡ f v = ap f same in omega arith
  total_set f (x ∷ xs) (suc port) v w at = omega (arith, total_set f xs port v w at)

  total_snoc : (f : Hand J → ℕ) (views : List (Hand J)) (v : Hand J) → total f (views ++ v ∷ []) ≡ total f views + f v
  total_snoc f [] v = omega arith
  total_snoc f (x ∷ xs) v = omega (arith, total_snoc f xs v)

  -- one hand has no more than all have
  le_total : (f : Hand J → ℕ) (views : List (Hand J)) (port : ℕ) (v : Hand J) → get_elem? views port ≡ some v → f v ≤ total f views
  le_total f [] port v at = absurd (some-ne-none v (sym at))
  le_total f (x ∷ xs) zero v at = let same : x ≡ v = cc in let also : f x ≡ f v = ap f same in omega arith
  le_total f (x ∷ xs) (suc port) v at = omega (arith, le_total f xs port v at)

  -- two hands have no more than all have
  two_within_total : (f : Hand J → ℕ) (views : List (Hand J)) (i j : ℕ) (v u : Hand J) → i ≢ j → get_elem? views i ≡ some v → get_elem? views j ≡ some u → f v + f u ≤ total f views
  two_within_total f [] i j v u apart at at' = absurd (some-ne-none v (sym at))
  two_within_total f (x ∷ xs) zero zero v u apart at at' = absurd (apart refl)
  two_within_total f (x ∷ xs) zero (suc j) v u apart at at' = let same : x ≡ v = cc in let also : f x ≡ f v = ap f same in omega (arith, le_total f xs j u at')
  two_within_total f (x ∷ xs) (suc i) zero v u apart at at' = let same : x ≡ u = cc in let also : f x ≡ f u = ap f same in omega (arith, le_total f xs i v at)
  two_within_total f (x ∷ xs) (suc i) (suc j) v u apart at at' = omega (arith, two_within_total f xs i j v u (λ e. apart (ap suc e)) at at')

  -- if each hand has nothing, all have nothing
  total_none : (f : Hand J → ℕ) (views : List (Hand J)) → ((j : ℕ) (u : Hand J) → get_elem? views j ≡ some u → f u ≡ 0) → total f views ≡ 0
  total_none f [] none = refl
  total_none f (x ∷ xs) none = let here : f x ≡ 0 = none 0 x refl in omega (arith, total_none f xs (λ j u e. none (suc j) u e))

  -- if all others have nothing, one has what all have
  total_of_only : (f : Hand J → ℕ) (views : List (Hand J)) (port : ℕ) (v : Hand J) → get_elem? views port ≡ some v → ((j : ℕ) (u : Hand J) → j ≢ port → get_elem? views j ≡ some u → f u ≡ 0) → total f views ≡ f v
  total_of_only f [] port v at others = absurd (some-ne-none v (sym at))
  total_of_only f (x ∷ xs) zero v at others = let same : x ≡ v = cc in let also : f x ≡ f v = ap f same in omega (arith, total_none f xs (λ j u e. others (suc j) u (omega arith) e))
  total_of_only f (x ∷ xs) (suc port) v at others = let here : f x ≡ 0 = others 0 x (omega arith) refl in omega (arith, total_of_only f xs port v at (λ j u other e. others (suc j) u (λ same. other (omega arith)) e))

  -- each hand knows the jobs after one is replaced by w, if w and the others do
  knows_set : (jobs : List J) (views : List (Hand J)) (port : ℕ) (w : Hand J) → KnowsJobs jobs w → ((j : ℕ) (u : Hand J) → j ≢ port → get_elem? views j ≡ some u → KnowsJobs jobs u)
      → (j : ℕ) (u : Hand J) → get_elem? (set views port w) j ≡ some u → KnowsJobs jobs u
  knows_set jobs views port w mine others j u e = ⊎_elim (λ (x : (j ≡ port) × (w ≡ u)). subst (KnowsJobs jobs) x.1 mine)
      (λ (x : (j ≢ port) × (get_elem? views j ≡ some u)). others j u x.0 x.1) (at_set views port j w u e)

  -- a hand with every part is the only one with a part
  others_have_none : (items : List (Numbered J)) (views : List (Hand J)) (port : ℕ) (v : Hand J) → IsDealt items views → v.parts ≡ 8 → get_elem? views port ≡ some v
      → (j : ℕ) (u : Hand J) → j ≢ port → get_elem? views j ≡ some u → u.parts ≡ 0
  others_have_none items views port v h all at j u other e = let p = two_within_total (λ x. x.parts) views port j v u (λ same. other (sym same)) at e in let q = h.whole in omega arith

  -- at first the one hand knows that no job was dealt
  starts_knowing : (j : ℕ) (u : Hand J) → get_elem? (hand 8 [] [] ∷ []) j ≡ some u → KnowsJobs [] u
  starts_knowing zero u e = let is : hand 8 [] [] ≡ u = cc in subst (KnowsJobs []) is (record { dealt = λ _. refl; idle = λ _. refl })
  starts_knowing (suc j) u e = absurd (some-ne-none u (sym e))

  -- at first no job is dealt, the deque is empty, and one hand has every part
  pub starts : IsDealt {J = J} [] (hand 8 [] [] ∷ [])
  starts = record {
    jobs = [];
    whole = refl;
    once = λ g. refl;
    each = λ k d none. absurd (omega arith);
    knows = starts_knowing;
  }

  -- a job keeps its number if more are dealt
  job_at_more : (jobs more : List J) (i : ℕ) (job : J) → IsJobAt jobs i job → IsJobAt (jobs ++ more) i job
  job_at_more [] more i job at = absurd (cc at)
  job_at_more (first ∷ jobs) more zero job at = at
  job_at_more (first ∷ jobs) more (suc i) job at = job_at_more jobs more i job at

  -- the job that is dealt last has the next number
  job_at_end : (jobs : List J) (job : J) → IsJobAt (jobs ++ job ∷ []) (length jobs) job
  job_at_end [] job = refl
  job_at_end (first ∷ jobs) job = job_at_end jobs job

  -- each of the items is the job with its number
  abbrev AreAt : List J → List (Numbered J) → Type 0
  AreAt jobs items = All (λ item. IsJobAt jobs item.index item.job) items

  -- items are the jobs with their numbers also if more jobs are dealt
  each_more : (jobs more : List J) (items : List (Numbered J)) → AreAt jobs items → AreAt (jobs ++ more) items
  each_more jobs more items each k d within = job_at_more jobs more _ _ (each k d within)

  -- if all items are the jobs with their numbers, so are the first ones, and those after them
  each_of : (jobs : List J) (xs ys : List (Numbered J)) → AreAt jobs (xs ++ ys) → AreAt jobs xs × AreAt jobs ys
  each_of jobs [] ys each = (λ k d none. absurd (omega arith), each)
  each_of jobs (x ∷ xs) ys each =
      let P : Numbered J → Type 0 = λ item. IsJobAt jobs item.index item.job in
      let rest = each_of jobs xs ys (All-tail P x (xs ++ ys) each) in (All-cons P x xs (each 0 x (omega arith)) rest.0, rest.1)

  -- a hand with every part deals a job: puts it into the deque
  pub deals : (port : ℕ) (v : Hand J) (item : Numbered J) → v.parts ≡ 8 → item.index ≡ length v.jobs → Pushes IsDealt port v (item ∷ []) (λ w. w ≡ hand v.parts (v.jobs ++ item.job ∷ []) v.taken)
  deals port v item all next items views h at =
      let jobs : List J = v.jobs ++ item.job ∷ [] in
      let w : Hand J = hand v.parts jobs v.taken in
      let same : v.jobs ≡ h.jobs = (h.knows port v at).dealt (omega arith) in (
        w,
        record {
          jobs = jobs;
          whole = let p = total_set (λ u. u.parts) views port v w at in let q = h.whole in omega arith;
          once = λ g.
              let p = total_set (λ u. weigh g u.taken) views port v w at in
              let q = h.once g in
              let r : weigh_below g (length v.jobs) ≡ weigh_below g (length h.jobs) = ap (λ (js : List J). weigh_below g (length js)) same in
              let n : weigh g (numbers (items ++ item ∷ [])) ≡ weigh g (numbers items ++ item.index ∷ []) = ap (weigh g) (map-append (λ (i : Numbered J). i.index) items (item ∷ [])) in
              let o : g item.index ≡ g (length v.jobs) = ap g next in
              let m : weigh_below g (length jobs) ≡ weigh_below g (length v.jobs + 1) = ap (weigh_below g) (length-append v.jobs (item.job ∷ [])) in
              omega (arith, weigh-append g (numbers items) (item.index ∷ []), below_more g (length v.jobs));
          each = All-push (λ (i : Numbered J). IsJobAt jobs i.index i.job) items item (each_more v.jobs (item.job ∷ []) items (subst (λ (js : List J). AreAt js items) (sym same) h.each))
              (subst (λ (n : ℕ). IsJobAt jobs n item.job) (sym next) (job_at_end v.jobs item.job));
          knows = knows_set jobs views port w (record { dealt = λ _. refl; idle = λ none. absurd (omega arith) })
              (λ j u other e. let none = others_have_none items views port v h all at j u other e in record { dealt = λ some_part. absurd (omega arith); idle = (h.knows j u e).idle });
        },
        refl,
      )

  -- the next job is dealt by a hand with every part
  pub deals_next : (port : ℕ) (v : Hand J) (jobs : List J) (item : Numbered J) → v ≡ hand 8 jobs [] → item.index ≡ length jobs → Pushes IsDealt port v (item ∷ []) (λ w. w ≡ hand v.parts (v.jobs ++ item.job ∷ []) v.taken)
  deals_next port v jobs item is next = deals port v item (ap (λ (u : Hand J). u.parts) is) (next ∙ sym (ap (λ (u : Hand J). length u.jobs) is))

  -- a hand with at least one part takes a job
  pub takes : (port : ℕ) (v : Hand J) → 0 < v.parts → Takes IsDealt port v 1 (HasTaken v)
  takes port v part xs items views _ _ h at =
      let w : Hand J = hand v.parts v.jobs (v.taken ++ numbers xs) in
      let same : v.jobs ≡ h.jobs = (h.knows port v at).dealt part in
      let once : (g : ℕ → ℕ) → total (λ u. weigh g u.taken) (set views port w) + weigh g (numbers items) ≡ weigh_below g (length h.jobs) = λ g.
      let p = total_set (λ u. weigh g u.taken) views port v w at in
      let q = h.once g in
      let n : weigh g (numbers (xs ++ items)) ≡ weigh g (numbers xs ++ numbers items) = ap (weigh g) (map-append (λ (i : Numbered J). i.index) xs items) in
      omega (arith, weigh-append g v.taken (numbers xs), weigh-append g (numbers xs) (numbers items)) in
      let has : (g : ℕ → ℕ) → weigh g (v.taken ++ numbers xs) ≤ weigh_below g (length v.jobs) = λ g.
      let p = total_set (λ u. weigh g u.taken) views port v w at in
      let q = once g in
      let r = le_total (λ u. weigh g u.taken) views port v at in
      let s : weigh_below g (length v.jobs) ≡ weigh_below g (length h.jobs) = ap (λ (js : List J). weigh_below g (length js)) same in
      omega arith in (
        w,
        record {
          jobs = h.jobs;
          whole = let p = total_set (λ u. u.parts) views port v w at in let q = h.whole in omega arith;
          once = once;
          each = (each_of h.jobs xs items h.each).1;
          knows = knows_set h.jobs views port w (record { dealt = λ _. same; idle = λ none. absurd (omega arith) }) (λ j u other e. h.knows j u e);
        },
        record {
          hand_is = refl;
          each = subst (λ (js : List J). AreAt js xs) (sym same) (each_of h.jobs xs items h.each).0;
          within = let p = has (λ _. 1) in omega (arith, weigh_each (v.taken ++ numbers xs), below_each (length v.jobs));
        },
      )

  -- a hand with every part that finds the deque empty has taken each job
  pub finds : (port : ℕ) (v : Hand J) → Finds IsDealt port v (HasAllJobs v)
  finds port v views h at all g =
      let same : v.jobs ≡ h.jobs = (h.knows port v at).dealt (omega arith) in
      let mine = total_of_only (λ u. weigh g u.taken) views port v at (λ j u other e. ap (weigh g) ((h.knows j u e).idle (others_have_none [] views port v h all at j u other e))) in
      let p = h.once g in
      let q : weigh_below g (length v.jobs) ≡ weigh_below g (length h.jobs) = ap (λ (js : List J). weigh_below g (length js)) same in
      omega arith

  -- a hand gives one of its parts to a new hand
  pub hires : (port : ℕ) (v : Hand J) → 1 < v.parts → Forks IsDealt port v (hand (v.parts - 1) v.jobs v.taken) (hand 1 v.jobs [])
  hires port v part items views h at =
      let l : Hand J = hand (v.parts - 1) v.jobs v.taken in
      let r : Hand J = hand 1 v.jobs [] in
      let same : v.jobs ≡ h.jobs = (h.knows port v at).dealt (omega arith) in
      let vs : List (Hand J) = set views port l in record {
        jobs = h.jobs;
        whole = let p = total_set (λ u. u.parts) views port v l at in let q = h.whole in omega (arith, total_snoc (λ u. u.parts) vs r);
        once = λ g. let p = total_set (λ u. weigh g u.taken) views port v l at in let q = h.once g in omega (arith, total_snoc (λ u. weigh g u.taken) vs r);
        each = h.each;
        knows = λ j u e. ⊎_elim (λ x. knows_set h.jobs views port l (record { dealt = λ _. same; idle = λ none. absurd (omega arith) }) (λ j' u' other e'. h.knows j' u' e') j u x)
            (λ (is : r ≡ u). subst (KnowsJobs h.jobs) is (record { dealt = λ _. same; idle = λ _. refl })) (at_snoc vs r u j e);
      }

  -- a hand gets the parts of another hand, and its taken jobs
  pub comes_back : (port : ℕ) (v : Hand J) (other : ℕ) (u : Hand J) → 0 < v.parts → Merges IsDealt port v other u (hand (v.parts + u.parts) v.jobs (v.taken ++ u.taken)) (hand 0 [] [])
  comes_back port v other u part items views h at apart at' =
      let both : Hand J = hand (v.parts + u.parts) v.jobs (v.taken ++ u.taken) in
      let spent : Hand J = hand 0 [] [] in
      let same : v.jobs ≡ h.jobs = (h.knows port v at).dealt part in
      let vs : List (Hand J) = set views port both in record {
        jobs = h.jobs;
        whole = let p = total_set (λ x. x.parts) views port v both at in let q = total_set (λ x. x.parts) vs other u spent at' in let r = h.whole in omega arith;
        once = λ g.
            let p = total_set (λ x. weigh g x.taken) views port v both at in
            let q = total_set (λ x. weigh g x.taken) vs other u spent at' in
            let r = h.once g in
            omega (arith, weigh-append g v.taken u.taken);
        each = h.each;
        knows = knows_set h.jobs vs other spent (record { dealt = λ some_part. absurd (omega arith); idle = λ _. refl })
            (λ j x _ e. knows_set h.jobs views port both (record { dealt = λ _. same; idle = λ none. absurd (omega arith) }) (λ j' x' _ e'. h.knows j' x' e') j x e);
      }
