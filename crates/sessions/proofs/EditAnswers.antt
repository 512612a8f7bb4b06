-- How a command that edits is answered.
use Rattle.std.proofs.Common.{◌≡◌, ℕ, ◌+◌, Bool, true, false, cond, ◌&&◌, ◌⊎◌, nat_lt, nat_le, List, [], ◌∷◌, length, Option, None, Some, IsSome, Result, Ok, Err, IsOk, is_some, inl, inr, refl, sym, ap, subst, ◌∙◌, arith}
use Rattle.std.specs.Option.{option_map}
use Rattle.std.specs.List.{remove}
use Rattle.std.specs.Result.{IsErrAnd}
use Rattle.std.proofs.lemmas.Bool.Decides.{nat_tests}
use Rattle.frames.specs.Behaviour.{Behaviour}
use Rattle.schedule_trie.specs.declared.limits.Limits.{Limits}
use Rattle.schedule_trie.specs.declared.refusal.Refusal.{Refusal}
use Rattle.schedule_trie.specs.declared.refusal.Refusal.TheVariants.{Occupied, Memory, LastBranch}
use Rattle.schedule_trie.specs.Forest as forests
use Rattle.schedule_trie.specs.Forest.{Forest, IsRefused, index_of, slots_in}
use Rattle.schedule_trie.specs.Trie.{forest}
use Rattle.schedule_trie.specs.Edits.{Edit, Insert, Remove, Replace, Fork, Detach, Drop, edited, WhyRefused}
use Rattle.cutoff.specs.Charts.{Charted}
use Rattle.cutoff.specs.Edits.{Edits}
use Rattle.sessions.specs.declared.cursor.Cursor.{Cursor}
use Rattle.sessions.specs.declared.command.Command.{Command}
use Rattle.sessions.specs.declared.command.Command.TheVariants as command
use Rattle.sessions.specs.declared.reply.Reply.{Reply}
use Rattle.sessions.specs.declared.reply.Reply.TheVariants.{Edited}
use Rattle.sessions.specs.World.{World}
use Rattle.sessions.specs.Cursors.{is_occupied}
use Rattle.sessions.specs.Edits.{edit_of, moved_by, drops_occupied, is_held_up}
use Rattle.sessions.specs.Acts.{late_refusals_by, first_refusal, refusal_in, refusal_if, accepted_world_by, reply_to, edited_world, forest_or, with_one_logged}
use Rattle.sessions.specs.Books.{IsResult, IsCarriedOut, IsLateRefusal, stored, world_of}
use Rattle.sessions.specs.declared.workspace.Workspace.{Workspace}

over_one : (n : ℕ) → nat_le n 1 ≡ false → nat_lt 1 n ≡ true
over_one n e = grind (arith, nat_tests)

not_at_most_one : (n : ℕ) → nat_lt 1 n ≡ true → nat_le n 1 ≡ false
not_at_most_one n e = grind (arith, nat_tests)

-- if the branches allow a drop, and no cursor holds it up, no cursor is on the dropped branch
unoccupied_if_dropped : (f g : Forest) (name : List ℕ) (o : Option ℕ) (occupied : Bool) → forests.on_found o (forests.drop_at f) ≡ Ok g
    → (is_some (option_map (λ i. length (slots_in f.branches i)) o) && (nat_lt 1 (length f.branches) && occupied)) ≡ false → occupied ≡ false
unoccupied_if_dropped f g name None occupied e h = absurd (cc)
unoccupied_if_dropped f g name (Some i) occupied e h = by (nat_le (length f.branches) 1) refl e
  where
    by : (b : Bool) → nat_le (length f.branches) 1 ≡ b → cond b (Err LastBranch) (Ok (record { branches = remove f.branches i; made = f.made })) ≡ Ok g → occupied ≡ false
    by true t d = absurd (cc)
    by false t d = sym (ap (λ b. b && occupied) (over_one (length f.branches) t)) ∙ h

-- an edit that the branches and the limits allow, and that no cursor holds up, drops no branch with
-- a cursor on it
drops_no_occupied : (limits : Limits) (f g : Forest) (edit : Edit) (cursors : List (Option Cursor)) → edited limits f edit ≡ Ok g → is_held_up edit f cursors ≡ false → drops_occupied edit cursors ≡ false
drops_no_occupied limits f g (Insert name place step) cursors e h = refl
drops_no_occupied limits f g (Remove name place) cursors e h = refl
drops_no_occupied limits f g (Replace name place step) cursors e h = refl
drops_no_occupied limits f g (Fork name place new) cursors e h = refl
drops_no_occupied limits f g (Detach name) cursors e h = refl
drops_no_occupied limits f g (Drop name) cursors e h = unoccupied_if_dropped f g name (index_of f.branches name) (is_occupied name cursors) e h

-- the branches allow a drop that a cursor holds up, and a cursor is on the branch to be dropped
held_up_drop : (f : Forest) (o : Option ℕ) (occupied : Bool) → (is_some (option_map (λ i. length (slots_in f.branches i)) o) && (nat_lt 1 (length f.branches) && occupied)) ≡ true
    → (refusal_in (forests.on_found o (forests.drop_at f)) ≡ None) × (occupied ≡ true)
held_up_drop f None occupied h = absurd (cc)
held_up_drop f (Some i) occupied h = by (nat_lt 1 (length f.branches)) refl h
  where
    by : (b : Bool) → nat_lt 1 (length f.branches) ≡ b → (b && occupied) ≡ true → (refusal_in (forests.on_found (Some i) (forests.drop_at f)) ≡ None) × (occupied ≡ true)
    by true t d = (ap (λ b. refusal_in (cond b (Err LastBranch) (Ok (record { branches = remove f.branches i; made = f.made })))) (not_at_most_one (length f.branches) t), d)
    by false t d = absurd (cc)

module _ {P : Type 0} (who : ℕ) (c : Command) (w : World P) where
  refused_as_occupied : (edit : Edit) → is_held_up edit w.forest w.cursors ≡ true → first_refusal (late_refusals_by (Some edit) who c w) ≡ Some Occupied
  refused_as_occupied (Insert name place step) h = absurd (cc)
  refused_as_occupied (Remove name place) h = absurd (cc)
  refused_as_occupied (Replace name place step) h = absurd (cc)
  refused_as_occupied (Fork name place new) h = absurd (cc)
  refused_as_occupied (Detach name) h = absurd (cc)
  refused_as_occupied (Drop name) h =
      let p = held_up_drop w.forest (index_of w.forest.branches name) (is_occupied name w.cursors) h in
      ap (λ o. first_refusal (o ∷ refusal_if (is_occupied name w.cursors) Occupied ∷ [])) p.0 ∙ ap (λ b. first_refusal (refusal_if b Occupied ∷ [])) p.1

  -- if the branches or the limits don't allow an edit, their reason is its first late refusal
  edit_refused : (edit : Edit) (r : Refusal) → edited w.limits w.forest edit ≡ Err r → first_refusal (late_refusals_by (Some edit) who c w) ≡ Some r
  edit_refused edit r e = ap (λ b. first_refusal (refusal_in b ∷ refusal_if (drops_occupied edit w.cursors) Occupied ∷ [])) e

  no_refusal_in_ok : (model : Result Forest Refusal) → IsOk model → first_refusal (refusal_in model ∷ None ∷ []) ≡ None
  no_refusal_in_ok (Ok f) h = refl
  no_refusal_in_ok (Err e) h = cc

  late_or_memory : (edit : Edit) (r : Refusal) → drops_occupied edit w.cursors ≡ false → IsRefused (edited w.limits w.forest edit) r
      → (first_refusal (late_refusals_by (Some edit) who c w) ≡ Some r) ⊎ ((r ≡ Memory) × (first_refusal (late_refusals_by (Some edit) who c w) ≡ None))
  late_or_memory edit r stays (inl e) = inl (edit_refused edit r e)
  late_or_memory edit r stays (inr m) =
      inr (m.0, ap (λ b. first_refusal (refusal_in (edited w.limits w.forest edit) ∷ refusal_if b Occupied ∷ [])) stays ∙ no_refusal_in_ok (edited w.limits w.forest edit) m.1)

  late_refusal_by_edit : (edit : Edit) (r : Refusal) → WhyRefused edit (edited w.limits w.forest edit) r
      → (first_refusal (late_refusals_by (Some edit) who c w) ≡ Some r) ⊎ ((r ≡ Memory) × (first_refusal (late_refusals_by (Some edit) who c w) ≡ None))
  late_refusal_by_edit (Insert name place step) r h = late_or_memory (Insert name place step) r refl h
  late_refusal_by_edit (Remove name place) r h = inl (edit_refused (Remove name place) r h)
  late_refusal_by_edit (Replace name place step) r h = inl (edit_refused (Replace name place step) r h)
  late_refusal_by_edit (Fork name place new) r h = late_or_memory (Fork name place new) r refl h
  late_refusal_by_edit (Detach name) r h = late_or_memory (Detach name) r refl h
  late_refusal_by_edit (Drop name) r h = inl (edit_refused (Drop name) r h)

  -- an edit that the branches and the limits allow has no late refusal, if it drops no branch with
  -- a cursor on it
  edit_not_refused : (edit : Edit) (g : Forest) → edited w.limits w.forest edit ≡ Ok g → drops_occupied edit w.cursors ≡ false → first_refusal (late_refusals_by (Some edit) who c w) ≡ None
  edit_not_refused edit g e stays =
      ap (λ b. first_refusal (refusal_in b ∷ refusal_if (drops_occupied edit w.cursors) Occupied ∷ [])) e ∙ ap (λ b. first_refusal (refusal_if b Occupied ∷ [])) stays

  -- the reply to an accepted edit is the number of edits, this one included
  edit_reply : IsSome (edit_of c) → reply_to who c w ≡ Edited (w.edits + 1)
  edit_reply = by c
    where
      by : (d : Command) → IsSome (edit_of d) → reply_to who d w ≡ Edited (w.edits + 1)
      by command.Join h = absurd (cc)
      by command.Leave h = absurd (cc)
      by (command.Insert name place step) h = refl
      by (command.Remove name place) h = refl
      by (command.Replace name place step) h = refl
      by (command.Fork name place new) h = refl
      by (command.Detach name) h = refl
      by (command.Drop name) h = refl
      by (command.Go name place) h = absurd (cc)
      by command.Seek h = absurd (cc)
      by command.Back h = absurd (cc)
      by (command.Break break) h = absurd (cc)
      by (command.Clear break) h = absurd (cc)

pub not_held_up : (b : Bool) (done : Unit {0}) → (b ≡ true → Ok done ≡ Err Occupied) → b ≡ false
not_held_up true done h = let clash = h refl in absurd (cc)
not_held_up false done h = refl

-- the workspace `old` after an accepted edit, which leaves this chart and these cursors
abbrev pub after_edit : {R P : Type 0} → Workspace R P → Charted R P → List (Option Cursor) → Workspace R P
after_edit old chart cursors = record old { chart = chart; cursors = cursors; edits = old.edits + 1 }

module _ {R P : Type 0} (is : R → Behaviour P) (n : ℕ) (old : Workspace R P) (chart : Charted R P) (cursors : List (Option Cursor)) (edit : Edit) where
  module _ (who : ℕ) (c : Command) (is_edit : edit_of c ≡ Some edit) where
    pub done_edit : (done : Unit {0}) → is_held_up edit (forest old.chart.trie) old.cursors ≡ false → Edits old.chart chart edit (Ok done)
        → cursors ≡ moved_by edit (forest old.chart.trie) old.cursors → IsCarriedOut is who c (stored old n) (stored (after_edit old chart cursors) n) (Edited (old.edits + 1))
    done_edit done h e m =
        let limits = old.chart.trie.limits in
        let w = world_of is (stored old n) in
        let stays = drops_no_occupied limits (forest old.chart.trie) (forest chart.trie) edit old.cursors e.0.forest h in
        let forests_same : forest_or (edited limits (forest old.chart.trie) edit) (forest old.chart.trie) ≡ forest chart.trie = ap (λ x. forest_or x (forest old.chart.trie)) e.0.forest in
        let register : is old.chart.start.register ≡ is chart.start.register = sym (ap (λ s. is s.register) e.1.0) in
        let value : old.chart.value ≡ chart.value = sym e.1.1 in
        let same_limits : limits ≡ chart.trie.limits = sym e.0.limits in
        let leaves : edited_world edit w ≡ with_one_logged (world_of is (stored (after_edit old chart cursors) n)) =
        λ i. record {
          tower = register i;
          value = value i;
          limits = same_limits i;
          forest = forests_same i;
          cursors = sym m i;
          breaks = old.breaks.items;
          edits = old.edits + 1;
          logged = n + 1;
        } in
        record {
          not_refused = ap (λ o. first_refusal (late_refusals_by o who c w)) is_edit ∙ edit_not_refused who c w edit (forest chart.trie) e.0.forest stays;
          leaves = ap (λ o. accepted_world_by o who c w) is_edit ∙ leaves;
          replies = edit_reply who c w (subst IsSome (sym is_edit) refl);
        }

    late_refusal_of_edit : (e : Refusal) → (is_held_up edit (forest old.chart.trie) old.cursors ≡ true → ◌≡◌ {A = Result (Unit {0}) Refusal} (Err e) (Err Occupied)) → (is_held_up edit (forest old.chart.trie) old.cursors ≡ false → Edits old.chart chart edit (Err e)) → IsLateRefusal who c (world_of is (stored old n)) e
    late_refusal_of_edit e up h = by (is_held_up edit (forest old.chart.trie) old.cursors) refl
      where
        by : (b : Bool) → is_held_up edit (forest old.chart.trie) old.cursors ≡ b → IsLateRefusal who c (world_of is (stored old n)) e
        by true held_up =
            let occupied : e ≡ Occupied = (let failed = up held_up in cc) in
            subst (IsLateRefusal who c (world_of is (stored old n))) (sym occupied) (inl (ap (λ o. first_refusal (late_refusals_by o who c (world_of is (stored old n)))) is_edit ∙ refused_as_occupied who c (world_of is (stored old n)) edit held_up))
        by false free =
            rw is_edit (late_refusal_by_edit who c (world_of is (stored old n)) edit e (h free).0)

    -- a failed edit, which changed neither chart nor cursors, is answered as `IsResult` says
    pub undone_edit : (r : Result Reply Refusal) (e : Refusal) (Is : Refusal → Type 0) → IsErrAnd r Is → ((x : Refusal) → Is x → x ≡ e) → (is_held_up edit (forest old.chart.trie) old.cursors ≡ true → ◌≡◌ {A = Result (Unit {0}) Refusal} (Err e) (Err Occupied))
        → (is_held_up edit (forest old.chart.trie) old.cursors ≡ false → Edits old.chart chart edit (Err e)) → (chart ≡ old.chart) × (cursors ≡ old.cursors)
        → IsResult is who c (stored old n) (stored (record old { chart = chart; cursors = cursors }) n) r
    undone_edit (Ok reply) e Is is_error one up h kept = absurd is_error
    undone_edit (Err x) e Is is_error one up h kept =
        record {
          why = subst (IsLateRefusal who c (world_of is (stored old n))) (sym (one x is_error)) (late_refusal_of_edit e up h);
          same = λ i. world_of is (stored (record old { chart = kept.0 i; cursors = kept.1 i }) n);
        }
