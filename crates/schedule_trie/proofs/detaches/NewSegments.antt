-- New segments that are added to the existing ones.
use Rattle.std.proofs.Common.{◌≡◌, ℕ, zero, suc, ◌+◌, ◌<◌, ◌≤◌, Bool, true, false, nat_eq, cond, List, [], ◌∷◌, length, Option, Some, None, IsSome, refl, sym, ap, subst, ◌∙◌, true≢false, arith, eq-eqb}
use Rattle.std.specs.Option.{IfSome}
use Rattle.std.proofs.lemmas.Bool.{eqb-true, eqb-false}
use Rattle.branch_terms.specs.Forest.{branch, renumbered, only_in}
use Rattle.schedule_trie.specs.Trie.{SegmentOf, KeyedBranch, slots_of, note_of, line, branches_on, keys_in, set_keys, has, has_cell, Once, Linked, IsSegment, IsSoundTrie, before_key}
use Rattle.schedule_trie.proofs.lists.NoRepeats.{has_not_from, has-head, has-tail}
use Rattle.schedule_trie.proofs.branches.Lines.{given_at, IsSegment-weaker}
use Rattle.schedule_trie.proofs.detaches.Released.{IsSoundWithUnused, line_alike, branches_alike}
use Rattle.schedule_trie.proofs.detaches.Renumbered.{AreCopied, IsCopied, each_copied, apart_copied, line_copied}
use Rattle.schedule_trie.proofs.branches.KeyedBranches.{keys_in-set_other, keys_in-set_same}

linked_alike : (f g : ℕ → Option ℕ) (up : Option ℕ) (ks : List ℕ) → Linked f up ks → ((k : ℕ) → has k ks ≡ true → g k ≡ f k) → Linked g up ks
linked_alike f g up [] l same = tt
linked_alike f g up (k ∷ ks) l same = (same k (has-head k ks) ∙ l.0, linked_alike f g (Some k) ks l.1 (λ j h. same j (has-tail j k ks h)))

-- a path with no key twice is linked
linked_once : (up : Option ℕ) (ks : List ℕ) → Once ks → Linked (λ k. before_key k up ks) up ks
linked_once up [] once = tt
linked_once up (k ∷ ks) once = (
  ap (λ b. cond b up (before_key k (Some k) ks)) (eq-eqb k k refl),
  linked_alike (λ j. before_key j (Some k) ks) (λ j. before_key j up (k ∷ ks)) (Some k) ks (linked_once (Some k) ks once.1) (λ j h. below j h (nat_eq j k) refl),
)
  where
    below : (j : ℕ) → has j ks ≡ true → (b : Bool) → nat_eq j k ≡ b → before_key j up (k ∷ ks) ≡ before_key j (Some k) ks
    below j h true e = absurd (true≢false (sym (subst (λ z. has z ks ≡ true) (eqb-true j k e) h) ∙ once.0))
    below j h false e = ap (λ b. cond b up (before_key j (Some k) ks)) e

-- the branch at `index` gets new keys with its cells renumbered; no other branch changes
only_changed : {T : Type 0} (at new : ℕ → Option (SegmentOf T)) (made : ℕ) (branches : List KeyedBranch) (index : ℕ) (keys : List ℕ) → index < length branches
    → ((i k : ℕ) → has k (keys_in branches i) ≡ true → new k ≡ at k) → line new keys ≡ renumbered made (line at (keys_in branches index))
    → branches_on new (set_keys branches index keys) ≡ only_in index (renumbered made) (branches_on at branches)
only_changed at new made [] index keys h same e = absurd (omega arith)
only_changed at new made (s ∷ ss) zero keys h same e = λ i. branch s.name (e i) ∷ branches_alike at new ss (λ j. same (suc j)) i
only_changed at new made (s ∷ ss) (suc n) keys h same e =
    λ i. branch s.name (line_alike at new s.keys (same 0) i) ∷ only_changed at new made ss n keys (omega arith) (λ j. same (suc j)) e i

-- new segments are added to the existing ones
module _ {T : Type 0} (at new : ℕ → Option (SegmentOf T)) (branches : List KeyedBranch) (made more index : ℕ) (keys : List ℕ) (sound : IsSoundTrie at branches made)
    (inside : index < length branches) (copied : AreCopied at new made (keys_in branches index) keys) (most : made + length (line at (keys_in branches index)) ≡ more)
    (vacant : (k : ℕ) → has k keys ≡ true → at k ≡ None) (once : Once keys) (others : (k : ℕ) → has k keys ≡ false → new k ≡ at k) where
  size_of : (o : Option (SegmentOf T)) → IsSome o → IfSome o (IsSegment made) → (0 < length (slots_of o)) × (length (slots_of o) ≤ 128)
  size_of None h s = absurd (true≢false (sym h))
  size_of (Some p) h s = (s.some, s.few)

  sizes : (k : ℕ) → has k (keys_in branches index) ≡ true → (0 < length (slots_of (at k))) × (length (slots_of (at k)) ≤ 128)
  sizes k h = size_of (at k) (sound.held index k h) (sound.segments k)

  copy_at : (k : ℕ) → has k keys ≡ true → IsCopied made more (new k)
  copy_at k h = each_copied at new made more (keys_in branches index) keys k copied sizes (omega arith) h

  not_new : (k : ℕ) → IsSome (at k) → has k keys ≡ false
  not_new k h = has_not_from k keys (λ g. true≢false (sym (subst IsSome (vacant k g) h)))

  pub old_kept : (k : ℕ) → IsSome (at k) → new k ≡ at k
  old_kept k h = others k (not_new k h)

  held_kept : (i k : ℕ) → has k (keys_in branches i) ≡ true → new k ≡ at k
  held_kept i k h = old_kept k (sound.held i k h)

  pub new_notes : (k : ℕ) → at k ≡ None → note_of (new k) ≡ None
  new_notes k h = by (has k keys) refl
    where
      by : (b : Bool) → has k keys ≡ b → note_of (new k) ≡ None
      by true e = (copy_at k e).note
      by false e = ap note_of (others k e ∙ h)

  segments : (k : ℕ) → IfSome (new k) (IsSegment more)
  segments k = by (has k keys) refl
    where
      by : (b : Bool) → has k keys ≡ b → IfSome (new k) (IsSegment more)
      by true e = (copy_at k e).segment
      by false e = subst (λ o. IfSome o (IsSegment more)) (sym (others k e)) (IsSegment-weaker made more (omega arith) (at k) (sound.segments k))

  was_in : (k x : ℕ) → has k keys ≡ false → has_cell x (slots_of (new k)) ≡ true → has_cell x (slots_of (at k)) ≡ true
  was_in k x e h = subst (λ o. has_cell x (slots_of o) ≡ true) (others k e) h

  never_both : (j k x : ℕ) → has j keys ≡ true → has k keys ≡ false → has_cell x (slots_of (new j)) ≡ true → has_cell x (slots_of (new k)) ≡ true → ⊥
  never_both j k x e f a b =
      let above = ((copy_at j e).cells x a).0 in
      let below : x < made = given_at at made sound.segments sound.apart k x (was_in k x f b) in
      omega arith

  pub new_apart : (j k x : ℕ) → has_cell x (slots_of (new j)) ≡ true → has_cell x (slots_of (new k)) ≡ true → j ≡ k
  new_apart j k x a b = by (has j keys) (has k keys) refl refl
    where
      by : (p q : Bool) → has j keys ≡ p → has k keys ≡ q → j ≡ k
      by true true e f = apart_copied at new made (keys_in branches index) keys j k x copied sizes e f a b
      by true false e f = absurd (never_both j k x e f a b)
      by false true e f = absurd (never_both k j x f e b a)
      by false false e f = sound.apart j k x (was_in j x e a) (was_in k x f b)

  -- the key above a key: for the new keys, in their path; for all others, as before
  abbrev above_now : ℕ → Option ℕ
  above_now k = cond (has k keys) (before_key k None keys) (sound.shares.above k)

  linked_old : (i : ℕ) → Linked above_now None (keys_in branches i)
  linked_old i =
      linked_alike sound.shares.above above_now None (keys_in branches i) (sound.shares.linked i)
      (λ k h. ap (λ b. cond b (before_key k None keys) (sound.shares.above k)) (not_new k (sound.held i k h)))

  linked_new : Linked above_now None keys
  linked_new =
      linked_alike (λ k. before_key k None keys) above_now None keys (linked_once None keys once)
      (λ k h. ap (λ b. cond b (before_key k None keys) (sound.shares.above k)) h)

  linked_now : (i : ℕ) → Linked above_now None (keys_in (set_keys branches index keys) i)
  linked_now i = by (nat_eq i index) refl
    where
      by : (b : Bool) → nat_eq i index ≡ b → Linked above_now None (keys_in (set_keys branches index keys) i)
      by true e = subst (Linked above_now None) (sym (ap (keys_in (set_keys branches index keys)) (eqb-true i index e) ∙ keys_in-set_same branches index keys inside)) linked_new
      by false e = subst (Linked above_now None) (sym (keys_in-set_other branches index i keys (eqb-false i index e))) (linked_old i)

  held_now : (i k : ℕ) → has k (keys_in (set_keys branches index keys) i) ≡ true → IsSome (new k)
  held_now i k h = by (nat_eq i index) refl
    where
      by : (b : Bool) → nat_eq i index ≡ b → IsSome (new k)
      by true e =
          (copy_at k (subst (λ l. has k l ≡ true) (ap (keys_in (set_keys branches index keys)) (eqb-true i index e) ∙ keys_in-set_same branches index keys inside) h)).there
      by false e =
          let was : has k (keys_in branches i) ≡ true = subst (λ l. has k l ≡ true) (keys_in-set_other branches index i keys (eqb-false i index e)) h in
          subst IsSome (sym (held_kept i k was)) (sound.held i k was)

  pub sound_with_new : IsSoundWithUnused new (set_keys branches index keys) more
  sound_with_new = record {
    held = held_now;
    segments = segments;
    apart = new_apart;
    shares = record { above = above_now; linked = linked_now };
  }

  pub only_renumbered : branches_on new (set_keys branches index keys) ≡ only_in index (renumbered made) (branches_on at branches)
  only_renumbered = only_changed at new made branches index keys inside held_kept (line_copied at new made (keys_in branches index) keys copied)
