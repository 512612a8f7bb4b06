-- Definitions that claim that something exists: an example of each, and a near miss.
use Rattle.std.proofs.Common.{◌≡◌, ℕ, zero, suc, ◌<◌, ◌≤◌, List, [], ◌∷◌, Option, Some, None, true, false, true≢false, nat_eq, length, map, slice_get, refl, sym, ap, ◌∙◌, arith}
use Rattle.std.specs.List.{IsDistinct}
use Rattle.std.proofs.lemmas.Bool.Decides.{Decides-eqb}
use Rattle.std.proofs.lemmas.Cmp.{nat_eq_equiv}
use Rattle.std.proofs.lemmas.Option.{none-some, same_Some}
use Rattle.breadth_first.specs.declared.mark.Mark.{Mark}
use Rattle.breadth_first.specs.Paths.{mark_of_start, depth_at, Moves, Reaches, IsMade, IsTrail, LeadsBy, IsFound, IsExpanding, AreTooMany}
use Rattle.breadth_first.specs.Searches.{IsWholeSearch}
use Rattle.breadth_first.specs.Graph.{GraphOf}
use Rattle.breadth_first.proofs.Reachable.{all_reached}
use Rattle.breadth_first.proofs.Started.{expanding_first}

-- a graph whose one label leads from 0 to 1, and nowhere from any other node
abbrev move : ℕ → ℕ → Option ℕ
move zero l = Some 1
move (suc n) l = None

-- the nodes that its search from 0 finds, and their marks
abbrev two_nodes : List ℕ
two_nodes = 0 ∷ 1 ∷ []

abbrev two_marks : List Mark
two_marks = mark_of_start ∷ record { parent = 0; label = 0; depth = 1 } ∷ []

-- label 0 leads from 0 to 1
Moves-holds : Moves 1 move 0 1
Moves-holds = (0, (omega arith, refl))

-- no label leads from 1 to 2
Moves-fails : Moves 1 move 1 2 → ⊥
Moves-fails h = none-some 2 h.1.1

-- one move leads from 0 to 1
Reaches-holds : Reaches 1 move 0 1 1
Reaches-holds = (0, (refl, (0, (omega arith, refl))))

-- two moves don't lead from 0 to 1
Reaches-fails : Reaches 1 move 0 2 1 → ⊥
Reaches-fails h = from h.0 h.1.0 h.1.1.1.1
  where
    from : (x : ℕ) → Reaches 1 move 0 1 x → move x h.1.1.0 ≡ Some 1 → ⊥
    from zero r e = let one : 1 ≡ 0 = same_Some 1 0 (ap (λ n. move n r.1.1.0) (sym r.1.0) ∙ r.1.1.1.1) in absurd (omega (arith, one))
    from (suc x) r e = none-some 1 e

two_made : (i k : ℕ) → 0 < i → slice_get two_nodes i ≡ Some k → IsMade 1 move two_nodes two_marks i k
two_made zero k lt s = absurd (omega (arith, lt))
two_made (suc zero) k lt s = record { parent = 0; earlier = omega arith; stored = refl; labelled = omega arith; made = s; deeper = refl }
two_made (suc (suc i)) k lt s = absurd (none-some k s)

-- these are the marks of the nodes 0 and 1
path_to-holds : (nodes : List ℕ) × IsTrail 1 move nodes two_marks
path_to-holds = (two_nodes, record { marked = refl; first = refl; made = two_made })

-- a mark of depth 1 can't be the first on a trail of any nodes
path_to-fails : ((nodes : List ℕ) × IsTrail 1 move nodes (record { parent = 0; label = 0; depth = 1 } ∷ [])) → ⊥
path_to-fails h = let deep : 1 ≡ 0 = h.1.first in absurd (omega (arith, deep))

-- the mark of node 1 leads from 0 to 1
LeadsBy-holds : LeadsBy 1 move two_nodes 0 (record { parent = 0; label = 0; depth = 1 } ∷ []) 1
LeadsBy-holds = (1, ((refl, (omega arith, refl)), refl))

-- a mark whose parent is node 1 doesn't lead from 0
LeadsBy-fails : LeadsBy 1 move two_nodes 0 (record { parent = 1; label = 0; depth = 1 } ∷ []) 1 → ⊥
LeadsBy-fails h = let other : 1 ≡ 0 = same_Some 1 0 h.1.0.0 in absurd (omega (arith, other))

-- node 1 is found one move from 0
IsFound-holds : IsFound 1 move nat_eq two_nodes two_marks 1 1
IsFound-holds = record { index = 1; node = 1; stored = refl; same = refl; within = omega arith }

not_at_once : (i k : ℕ) → slice_get two_nodes i ≡ Some k → nat_eq 1 k ≡ true → depth_at two_marks i ≤ 0 → ⊥
not_at_once zero k s e w = true≢false (sym e ∙ ap (nat_eq 1) (sym (same_Some 0 k s)))
not_at_once (suc zero) k s e w = absurd (omega (arith, w))
not_at_once (suc (suc i)) k s e w = none-some k s

-- node 1 isn't found without a move
IsFound-fails : IsFound 1 move nat_eq two_nodes two_marks 1 0 → ⊥
IsFound-fails h = not_at_once h.index h.node h.stored h.same h.within

two_reached : (i k : ℕ) → slice_get two_nodes i ≡ Some k → (n : ℕ) × Reaches 1 move 0 n k
two_reached zero k s = (0, sym (same_Some 0 k s))
two_reached (suc zero) k s = (1, (0, (refl, (0, (omega arith, s)))))
two_reached (suc (suc i)) k s = absurd (none-some k s)

two_distinct : IsDistinct nat_eq two_nodes
unfolding IsDistinct
two_distinct = ((refl, tt), (tt, tt))

-- two nodes are reachable from 0, more than the one that is allowed
AreTooMany-holds : AreTooMany 1 move nat_eq 0 1
AreTooMany-holds = record { nodes = two_nodes; distinct = two_distinct; reached = two_reached; many = omega arith }

only_start : (n y : ℕ) → Reaches 0 move 0 n y → y ≡ 0
only_start zero y h = h
only_start (suc n) y h = absurd (omega (arith, h.1.1.1.0))

one_start : (nodes : List ℕ) → IsDistinct nat_eq nodes → ((i k : ℕ) → slice_get nodes i ≡ Some k → (n : ℕ) × Reaches 0 move 0 n k) → 1 < length nodes → ⊥
unfolding IsDistinct
one_start [] d r m = absurd (omega (arith, m))
one_start (x ∷ []) d r m = absurd (omega (arith, m))
one_start (x ∷ y ∷ nodes) d r m =
    let a = r 0 x refl in
    let b = r 1 y refl in
    let first : x ≡ 0 = only_start a.0 x a.1 in
    let second : y ≡ 0 = only_start b.0 y b.1 in
    true≢false (sym (ap (λ n. nat_eq n y) first ∙ ap (nat_eq 0) second) ∙ d.0.0)

-- without labels one node is reachable, which is allowed
AreTooMany-fails : AreTooMany 0 move nat_eq 0 1 → ⊥
AreTooMany-fails h = one_start h.nodes h.distinct h.reached h.many

-- a graph without labels, whose keys are its nodes
abbrev no_labels : GraphOf ℕ ℕ
no_labels = record { labels = 0; move = move; origin = 0; key = λ n. n; is_goal = λ n. false }

same_moves : (x y : ℕ) → nat_eq x y ≡ true → (l z : ℕ) → move x l ≡ Some z → (w : ℕ) × ((move y l ≡ Some w) × (nat_eq z w ≡ true))
same_moves x y e l z m = (z, (ap (λ n. move n l) (sym ((Decides-eqb x y).0 e)) ∙ m, nat_eq_equiv.refl z))

start_expanded : IsExpanding 0 move nat_eq (0 ∷ []) (mark_of_start ∷ []) 1
start_expanded =
    let s = expanding_first 0 move nat_eq nat_eq_equiv same_moves 0 in
    record {
      trail = s.trail;
      distinct = s.distinct;
      sorted = s.sorted;
      near = λ j next lt. absurd (omega (arith, next));
      expanded = λ i k lt h y mv. absurd (omega (arith, mv.1.0));
    }

-- its search finds the start alone
IsWholeSearch-holds : IsWholeSearch no_labels nat_eq (λ n. Unit {0}) (0 ∷ []) (false ∷ []) (mark_of_start ∷ [])
IsWholeSearch-holds = record {
  nodes = 0 ∷ [];
  kept = record { by_key = refl; by_goal = refl; hold = λ i x h. tt };
  all = all_reached 0 move nat_eq nat_eq_equiv same_moves 0 (0 ∷ []) (mark_of_start ∷ []) 1 start_expanded (omega arith) refl;
}

none_starts : (nodes : List ℕ) → [] ≡ map (λ n. n) nodes → slice_get nodes 0 ≡ Some 0 → ⊥
none_starts [] e s = none-some 0 s
none_starts (x ∷ nodes) e s = let long : 0 ≡ length (map (λ n. n) (x ∷ nodes)) = ap length e in absurd (omega (arith, long))

-- a search without keys has missed the start
IsWholeSearch-fails : IsWholeSearch no_labels nat_eq (λ n. Unit {0}) [] [] [] → ⊥
IsWholeSearch-fails h = none_starts h.nodes h.kept.by_key h.all.starts
