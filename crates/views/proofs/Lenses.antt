-- The configurations in a lens always match their keys, so one that is found is like the one asked
-- for.
use Rattle.std.proofs.Common.{◌≡◌, ℕ, ◌≤◌, Bool, true, ◌++◌, take, drop, Some, refl, sym, ap, subst, ◌∙◌, inl, inr}
use Rattle.std.specs.Prelude.{Result, Ok, Err, OnOk, OnErr}
use Rattle.std.specs.Bool.{Decides}
use Rattle.std.specs.Map.{lookup}
use Rattle.std.proofs.lemmas.List.{take-append-drop, take-take}
use Rattle.frames.specs.Behaviour.{Behaviour}
use Rattle.frames.specs.Configuration.{Configuration, replayed}
use Rattle.frames.specs.Recorded.{without_register}
use Rattle.frames.specs.laws.WithoutRegister.{register_kept, replayed_alone, without_register_same}
use Rattle.cutoff.specs.Fitting.{RunPart}
use Rattle.checkpoints.specs.Runs.{SegmentRun}
use Rattle.lru.specs.LruCache.{LruCache, lru_cache, promoted, put_entries}
use Rattle.lru.proofs.CallerLemmas.{Contains-lookup, Contains-promoted, Contains-put_entries}
use Rattle.pages.specs.declared.query.ConfigKind.{ConfigKind}
use Rattle.pages.specs.declared.page.head.Head.{Head}
use Rattle.views.specs.declared.lens.TheConstants.{PLACES}
use Rattle.views.specs.Lenses.{MatchTheirKeys, IsLens}
use Rattle.pages.specs.Pages.{config_page}
use Rattle.views.specs.Spots.{IsAlike, part_end}
use Rattle.views.specs.laws.PlaceLaws.{SamePlace, same_place, place_decides}
use Rattle.views.proofs.PageAlone.{page_alone}
use Rattle.views.proofs.Replays.{replayed-append}

module _ {R P : Type 0} (is : R → Behaviour P) where
  abbrev behaviour_of : RunPart R P → Behaviour P
  behaviour_of part = is part.run.entry.register

  -- the configuration that a part reaches, without its register
  end_alone : (part : RunPart R P) → without_register (part_end is part) ≡ replayed (behaviour_of part) (without_register part.run.entry) (take part.count part.run.steps)
  end_alone part = replayed_alone (behaviour_of part) part.run.entry (take part.count part.run.steps)

  pub end_behaviour : (part : RunPart R P) → is (part_end is part).register ≡ behaviour_of part
  end_behaviour part = ap is (register_kept (behaviour_of part) part.run.entry (take part.count part.run.steps))

  alike_symm : (c d : Configuration R P) → IsAlike is c d → IsAlike is d c
  alike_symm c d e = record { behaves_alike = sym e.behaves_alike; all_else = sym e.all_else }

  alike_trans : (c d e : Configuration R P) → IsAlike is c d → IsAlike is d e → IsAlike is c e
  alike_trans c d e f g = record { behaves_alike = f.behaves_alike ∙ g.behaves_alike; all_else = f.all_else ∙ g.all_else }

  -- from a configuration like the one at place `made` of a run, replay of the run's next steps
  -- reaches one like that at place `count`
  pub advanced_alike : (run : SegmentRun R P) (made count : ℕ) (c d : Configuration R P) → made ≤ count → IsAlike is c (part_end is (record { run = run; count = made }))
      → d ≡ replayed (is c.register) c (drop made (take count run.steps)) → IsAlike is d (part_end is (record { run = run; count = count }))
  advanced_alike run made count c d less like went =
      let b = is run.entry.register in
      let rest = drop made (take count run.steps) in
      let home : is c.register ≡ b = like.behaves_alike ∙ end_behaviour (record { run = run; count = made }) in
      let before : take made run.steps ++ rest ≡ take count run.steps =
      ap (λ first. first ++ rest) (sym (take-take made count run.steps less)) ∙ take-append-drop made (take count run.steps) in
      record {
        behaves_alike = ap (λ x. is x.register) went ∙ ap is (register_kept (is c.register) c rest) ∙ home ∙ sym (end_behaviour (record { run = run; count = count }));
        all_else = ap without_register went ∙ replayed_alone (is c.register) c rest ∙ ap (λ x. replayed x (without_register c) rest) home ∙ ap (λ x. replayed b x rest) like.all_else
            ∙ sym (replayed_alone b (part_end is (record { run = run; count = made })) rest)
            ∙ ap without_register (sym (replayed-append b run.entry (take made run.steps) rest)) ∙ ap (λ steps. without_register (replayed b run.entry steps)) before;
      }

  module _ (E : R → R → Bool) (F : P → P → Bool) (alike : (x y : R) → E x y ≡ true → is x ≡ is y) (d : (x y : P) → Decides (F x y) (x ≡ y)) where
    -- equal places reach configurations that are alike
    ends_alike : (a b : RunPart R P) → SamePlace E a b → IsAlike is (part_end is a) (part_end is b)
    ends_alike a b same =
        let behave : behaviour_of a ≡ behaviour_of b = alike a.run.entry.register b.run.entry.register same.entry.register in
        record {
          behaves_alike = end_behaviour a ∙ behave ∙ sym (end_behaviour b);
          all_else = end_alone a ∙ ap (λ x. replayed x (without_register a.run.entry) (take a.count a.run.steps)) behave
              ∙ ap (λ x. replayed (behaviour_of b) x (take a.count a.run.steps)) (without_register_same E a.run.entry b.run.entry same.entry)
              ∙ ap (λ n. replayed (behaviour_of b) (without_register b.run.entry) (take n a.run.steps)) same.count
              ∙ ap (λ steps. replayed (behaviour_of b) (without_register b.run.entry) (take b.count steps)) same.steps ∙ sym (end_alone b);
        }

    module _ (places : LruCache (RunPart R P) (Configuration R P)) (all : MatchTheirKeys is places) where
      pub found_alike : (place : RunPart R P) (c : Configuration R P) → lookup (same_place E F place) places.entries ≡ Some c → IsAlike is c (part_end is place)
      found_alike place c kept =
          let at = Contains-lookup (same_place E F place) places.entries c kept in
          alike_trans c (part_end is at.0) (part_end is place) (all (at.0, c) at.1) (alike_symm (part_end is place) (part_end is at.0) (ends_alike place at.0 ((place_decides E F d place at.0).0 at.2)))

      keys_still_match : (test : RunPart R P → Bool) → MatchTheirKeys is (lru_cache (promoted test places.entries) places.cap)
      keys_still_match test e among = all e (Contains-promoted test places.entries e among)

      -- after a look-up, a lens's cache is still one (`IsLens`)
      pub is_lens_after_find : (test : RunPart R P → Bool) → places.cap ≡ PLACES → IsLens is (lru_cache (promoted test places.entries) places.cap)
      is_lens_after_find test most = (keys_still_match test, most)

      keys_match_after_put : (place : RunPart R P) (c : Configuration R P) → IsAlike is c (part_end is place) → MatchTheirKeys is (lru_cache (put_entries (same_place E F) places place c) places.cap)
      keys_match_after_put place c like e among = elim (Contains-put_entries (same_place E F) places place c e among) [
        | inl old ↦ all e old
        | inr new ↦ elim new.1 [
          | inl here ↦ subst (λ x. IsAlike is x (part_end is e.0)) (sym new.0) (subst (λ x. IsAlike is c (part_end is x)) (sym here) like)
          | inr there ↦
              subst (λ x. IsAlike is x (part_end is e.0)) (sym new.0)
              (alike_trans c (part_end is place) (part_end is e.0) like (ends_alike place e.0 ((place_decides E F d place e.0).0 there.2)))
        ]
      ]

      -- after a configuration like the one at a place is put in for that place, a lens's cache is
      -- still one (`IsLens`), also if the put fails
      pub is_lens_after_put : {X Y : Type 0} (place : RunPart R P) (c : Configuration R P) (new : LruCache (RunPart R P) (Configuration R P)) (result : Result X Y) → places.cap ≡ PLACES → IsAlike is c (part_end is place)
          → OnOk result (new ≡ lru_cache (put_entries (same_place E F) places place c) places.cap) → OnErr result (new ≡ places) → IsLens is new
      is_lens_after_put place c new (Ok x) most like ok err = subst (IsLens is) (sym ok) (keys_match_after_put place c like, most)
      is_lens_after_put place c new (Err x) most like ok err = subst (IsLens is) (sym err) (all, most)

  -- configurations that are alike have the same pages
  pub same_page_if_alike : (kind : ConfigKind) (head : Head) (c d : Configuration R P) → IsAlike is c d → config_page (is c.register) kind head c ≡ config_page (is d.register) kind head d
  same_page_if_alike kind head c d like =
      page_alone (is c.register) (is d.register) kind head c (without_register d) like.behaves_alike like.all_else
      ∙ sym (page_alone (is d.register) (is d.register) kind head d (without_register d) refl refl)
