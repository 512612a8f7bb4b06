-- Each step on a turn's table keeps its invariant, `TurnInvariant`, which is called Rule here.
use Rattle.std.proofs.Common.{◌≡◌, ◌≢◌, ◌⊎◌, ℕ, ◌<◌, ◌≤◌, zero, suc, eqb, Bool, true, false, cond, not, List, [], ◌∷◌, ◌++◌, length, get_or, set, refl, sym, ap, ◌∙◌, subst, ne_eqb, ltb-true, ltb-false, lt-ltb, lt_of_not-le, ⊎_elim, inl, inr, arith, append_assoc, append-nil, length-append, Option, Some}
use Rattle.std.proofs.lemmas.List.{set-get_or}
use Rattle.std.proofs.lemmas.List.Elements.{All-nil, All-append, All-cons, All-head, All-tail}
use Rattle.std.proofs.lemmas.Bool.{false_from_ne_true}
use Rattle.std.specs.Prelude.{All, nat_lt}
use mathlib.Core.Logic.{dite}
use mathlib.Core.Option.{none, some, some-injective, some-ne-none}
use native.Mathlib.Decide.{ℕ_discrete, dec_le}
use lib.ListN.{get_elem?}
use prog.Atomic.{either}
use Rattle.atomic_table.specs.Table.{State, Me, step, Act, keeps, takes, gives, stepped, put_back, rest, Allows, Splits, Joins, opening}
use Rattle.atomic_table.proofs.Lists.{at_set, set_else, set_again, at_longer, exchanged}
use Rattle.turn.specs.declared.view.View.{View}
use Rattle.turn.specs.Shares.{has_share}
use Rattle.turn.specs.laws.ShareLaws.{below_every, none_held, has_without, not_without, has_together, not_together}
use Rattle.turn.specs.Entries.{AtMostOne}
use Rattle.turn.specs.Histories.{StartsWith, first_view, spent_view, grabbed, published, released, with_news, longer, joined, HoldsSome, under, OwnsItsCalls, kept, handed}
use Rattle.turn.specs.Rule.{ByChairs, Knows, TurnInvariant, grab_reports, publish_reports, release_reports, news_reports}
use Rattle.turn.proofs.Prefixes.{shorter_is_prefix, starts_more, under_append, nothing_new, still_all, under_kept, under_dropped, added_elsewhere}

module _ {A : Type 0} where
  -- an element that is set at an index of the list is then at that index
  get_after_set : (l : List A) (i : ℕ) (a b : A) → get_elem? l i ≡ some a → get_elem? (set l i b) i ≡ some b
  get_after_set [] i a b e = absurd (some-ne-none a (sym e))
  get_after_set (x ∷ xs) zero a b e = refl
  get_after_set (x ∷ xs) (suc i) a b e = get_after_set xs i a b e

module _ {T E : Type 0} (by : E → ℕ) (entries : T → List E) where
  -- a chair's view, the table's state, and what a chair has at the table
  abbrev V : Type 0
  V = View E

  abbrev St : Type 0
  St = State (Option T) V

  abbrev M : Type 0
  M = Me (Option T) V

  abbrev Rule : St → Type 0
  Rule = TurnInvariant by entries

  -- K holds of each chair's view after the view of one, `me`, is replaced by w, if it holds of w
  views_stay : (K : ℕ → V → Type 0) (vs : List V) (me : ℕ) (w : V) → K me w → ((j : ℕ) (d : V) → j ≢ me → get_elem? vs j ≡ some d → K j d)
      → (j : ℕ) (d : V) → get_elem? (set vs me w) j ≡ some d → K j d
  views_stay K vs me w mine others j d e = ⊎_elim (λ (t : (j ≡ me) × (w ≡ d)). subst (λ (x : ℕ × V). K x.0 x.1) (λ i. (sym t.0 i, t.1 i)) mine)
      (λ (t : (j ≢ me) × (get_elem? vs j ≡ some d)). others j d t.0 t.1) (at_set vs me j w d e)

  word_0 : (s : St) (r : Rule s) → get_or s.words 0 0 ≡ r.flag
  word_0 s r = ap (λ (ws : List ℕ). get_or ws 0 0) r.words

  word_1 : (s : St) (r : Rule s) → get_or s.words 1 0 ≡ length r.list
  word_1 s r = ap (λ (ws : List ℕ). get_or ws 1 0) r.words

  -- a step that changes neither word i nor the chair's view keeps the invariant
  unmoved : (s : St) (i me : ℕ) (v : V) → Rule s → get_elem? s.views me ≡ some v → Rule record { words = set s.words i (get_or s.words i 0); homes = s.homes; views = set s.views me v }
  unmoved s i me v r at = subst (λ (z : List ℕ × List V). Rule record { words = z.0; homes = s.homes; views = z.1 })
      (λ k. (sym (set-get_or s.words i 0) k, sym (set_again s.views me v at) k)) r

  -- what a view says stays true if the list is unchanged, and the length that was read, the turn
  -- and the shares' owners change as the premises allow
  same_list : (list : List E) (f f' h h' : ℕ) (owner owner' : ℕ → ℕ) (chair : ℕ) (v : V) (reported_length : ℕ) (holds : Bool) → Knows by list f h owner chair v
      → ((share : ℕ) → has_share v.shares share ≡ true → owner' share ≡ chair) → reported_length ≤ length list → (holds ≡ true → (f' ≡ 1) × (chair ≡ h') × (v.seen ≡ list) × HoldsSome v)
      → Knows by list f' h' owner' chair (record v { reported = reported_length; holds = holds })
  same_list list f f' h h' owner owner' chair v reported_length holds k owns within turn =
      record { below = k.below; seen = k.seen; owns = owns; calls = k.calls; seen_under = k.seen_under; others = k.others; reported = within; holding = turn; met = k.met }

  -- what a view without the turn says stays true when another chair takes or frees the turn
  others_know : (list : List E) (f f' h h' : ℕ) (owner : ℕ → ℕ) (chair : ℕ) (v : V) → (v.holds ≡ true → ⊥) → Knows by list f h owner chair v → Knows by list f' h' owner chair v
  others_know list f f' h h' owner chair v idle k = same_list list f f' h h' owner owner chair v v.reported v.holds k k.owns k.reported (λ t. absurd (idle t))

  -- what a view says stays true if shares get other owners, but the chair still owns its own
  new_owners : (list : List E) (f h : ℕ) (owner owner' : ℕ → ℕ) (chair : ℕ) (v : V) → Knows by list f h owner chair v → ((share : ℕ) → has_share v.shares share ≡ true → owner' share ≡ chair)
      → Knows by list f h owner' chair v
  new_owners list f h owner owner' chair v k owns = same_list list f f h h owner owner' chair v v.reported v.holds k owns k.reported k.holding

  -- if what a view says of the list is true, its chair owns its calls
  owns_calls : (list : List E) (f h : ℕ) (owner : ℕ → ℕ) (chair : ℕ) (v : V) → Knows by list f h owner chair v → OwnsItsCalls by v
  owns_calls list f h owner chair v k share held = k.seen_under share held ∙ sym (k.calls share held)

  -- a chair still has the turn after the view v, its own or another's, is replaced by a view that
  -- has the turn exactly if v had it
  away_stays : (s : St) (r : Rule s) (id : ℕ) (v w : V) → get_elem? s.views id ≡ some v → w.holds ≡ v.holds → r.flag ≢ 0
      → (x : V) × (s.homes ≡ none ∷ []) × (get_elem? (set s.views id w) r.holder ≡ some x) × (x.holds ≡ true)
  away_stays s r id v w at same busy = let a = r.away busy in dite (ℕ_discrete r.holder id)
      (λ is. let me : a.0 ≡ v = some-injective a.0 v (sym a.2 ∙ (ap (get_elem? s.views) is ∙ at)) in
      (w, a.1, ap (get_elem? (set s.views id w)) is ∙ get_after_set s.views id v w at, same ∙ (ap (λ z. z.holds) (sym me) ∙ a.3)))
      (λ other. (a.0, a.1, set_else s.views id r.holder w other ∙ a.2, a.3))

  -- the invariant holds of other views and other owners of shares, if what it says of them is true,
  -- and the list, the turn and the words stay
  rule_of_other_views : (s : St) (r : Rule s) (views : List V) (owner : ℕ → ℕ)
      → (r.flag ≢ 0 → (x : V) × (s.homes ≡ none ∷ []) × (get_elem? views r.holder ≡ some x) × (x.holds ≡ true))
      → ((chair : ℕ) (v : V) → get_elem? views chair ≡ some v → Knows by r.list r.flag r.holder owner chair v)
      → Rule record { words = s.words; homes = s.homes; views = views }
  rule_of_other_views s r views owner away each = record {
    list = r.list;
    flag = r.flag;
    holder = r.holder;
    owner = owner;
    words = r.words;
    home = r.home;
    away = away;
    each = each;
  }

  -- of entries that no chair made, none was made under a share
  pub none_under : (share : ℕ) (xs : List E) → share < 16 → All (λ e. 16 ≤ by e) xs → under by share xs ≡ []
  none_under share [] inside outside = refl
  none_under share (x ∷ xs) inside outside = let far = All-head (λ e. 16 ≤ by e) x xs outside in
      ap (λ t. cond t (x ∷ under by share xs) (under by share xs)) (ne_eqb (by x) share (λ e. omega arith)) ∙ none_under share xs inside (All-tail (λ e. 16 ≤ by e) x xs outside)

  pub starts : (value : T) → All (λ e. 16 ≤ by e) (entries value) → (n : ℕ) → n ≡ length (entries value) → Rule (opening (0 ∷ n ∷ []) (Some value ∷ []) (first_view (entries value)))
  starts value outside n long = let v : V = first_view (entries value) in record {
    list = entries value;
    flag = 0;
    holder = 0;
    owner = λ _. 0;
    words = ap (λ (k : ℕ). 0 ∷ k ∷ []) long;
    home = λ _. (value, refl, refl);
    away = λ busy. absurd (busy refl);
    each = λ j d e. ⊎_elim (λ (t : (j ≡ 0) × (v ≡ d)). subst (λ (x : ℕ × V). Knows by (entries value) 0 0 (λ _. 0) x.0 x.1) (λ i. (sym t.0 i, t.1 i)) record {
      below = below_every;
      seen = ([], append-nil (entries value), λ _. All-nil (λ e. by e < 16));
      owns = λ _ _. refl;
      calls = λ share held. sym (none_under share (entries value) (below_every share held) outside);
      seen_under = λ _ _. refl;
      others = λ _ _. refl;
      reported = omega arith;
      holding = λ t. absurd (cc);
      met = ((entries value, refl), (entries value, refl));
    }) (λ (t : (j ≢ 0) × (get_elem? (v ∷ []) j ≡ some d)). absurd (beyond j d t.0 t.1)) (at_set (v ∷ []) 0 j v d e);
  }
    where
      beyond : (j : ℕ) (d : V) → j ≢ 0 → get_elem? (first_view (entries value) ∷ []) j ≡ some d → ⊥
      beyond zero d other e = other refl
      beyond (suc j) d other e = some-ne-none d (sym e)

  pub grabs : (slots id : ℕ) (me : M) → HoldsSome me.0 → Allows Rule slots id me 0 (λ n. either (eqb n 0) 1 n) (grab_reports by entries (step slots 0 0 1 none) me)
  grabs slots id me some_share s r _ at _ =
      exchanged (get_or s.words 0 0) 0 1 (λ k. (w : V) × (a : Act (Option T)) × Rattle.atomic_table.specs.Table.Valid s.homes me.1 a × Rule (stepped s 0 k id me.1 w a) × grab_reports by entries (step slots 0 0 1 none) me (get_or s.words 0 0) (w, Rattle.atomic_table.specs.Table.carried_after me.1 a))
      (λ free. let f : r.flag ≡ 0 = sym (word_0 s r) ∙ free in let h = r.home f in let x : T = h.0 in let v : V = me.0 in let w : V = grabbed v (entries x) in let k = r.each id v at in (
        w,
        takes 0 (Some x),
        ap (λ hs. get_elem? hs 0) h.1,
        record {
          list = r.list;
          flag = 1;
          holder = id;
          owner = r.owner;
          words = ap (λ ws. set ws 0 1) r.words;
          home = λ z. absurd (omega arith);
          away = λ _. (w, ap (λ hs. set hs 0 none) h.1, get_after_set s.views id v w at, refl);
          each = views_stay (Knows by r.list 1 id r.owner) s.views id w record {
            below = k.below;
            seen = ([], append-nil (entries x) ∙ h.2, λ _. All-nil (λ e. by e < 16));
            owns = k.owns;
            calls = k.calls;
            seen_under = λ share held. ap (under by share) h.2;
            others = k.others;
            reported = k.reported;
            holding = λ _. (refl, refl, h.2, some_share);
            met = k.met;
          } (λ j d other there'. others_know r.list r.flag 1 r.holder id r.owner j d (λ t. let z = (r.each j d there').holding t in omega arith) (r.each j d there'));
        },
        (
          λ _. (
            x,
            refl,
            (k.seen.0, k.seen.1 ∙ sym h.2),
            subst (λ l. v.reported ≤ length l) (sym h.2) k.reported,
            (λ share held. ap (under by share) h.2 ∙ sym (k.calls share held)),
            λ all. let nil = nothing_new by r.list v.seen k.seen.0 k.seen.1 (k.seen.2 some_share) (λ share inside. k.seen_under share (all share inside)) in
                h.2 ∙ (sym k.seen.1 ∙ (ap (λ l. v.seen ++ l) nil ∙ append-nil v.seen)),
          ),
          λ taken. absurd (taken free),
        ),
      ))
      (λ taken. (me.0, keeps, tt, unmoved s 0 id me.0 r at, ((λ free. absurd (taken free)), λ _. refl)))

  -- an entry that is added under a chair's number is by a chair
  added_by_chairs : (n : ℕ) (added : List E) → n < 16 → AtMostOne by n added → ByChairs by added
  added_by_chairs n added inside one = ⊎_elim (λ (e : added ≡ []). subst (ByChairs by) (sym e) (All-nil (λ x. by x < 16)))
      (λ (t : (x : E) × (added ≡ x ∷ []) × (by x ≡ n)). subst (ByChairs by) (sym t.1) (All-cons (λ x. by x < 16) t.0 [] (let e = t.2 in omega arith) (All-nil (λ x. by x < 16)))) one

  -- two lists with the same entries under a share still have these after the same are added to both
  under_more : (share : ℕ) (xs ys added : List E) → under by share xs ≡ under by share ys → under by share (xs ++ added) ≡ under by share (ys ++ added)
  under_more share xs ys added e = under_append by share xs added ∙ (ap (λ l. l ++ under by share added) e ∙ sym (under_append by share ys added))

  -- no entry is added under a share other than n, the number of the chair that adds
  under_unchanged : (n share : ℕ) (list added : List E) → AtMostOne by n added → n ≢ share → under by share list ≡ under by share (list ++ added)
  under_unchanged n share list added one other = sym (append-nil (under by share list)) ∙ (ap (λ l. under by share list ++ l) (sym (added_elsewhere by n share added one other)) ∙ sym (under_append by share list added))

  pub publishes : (slots id new : ℕ) (me : M) (added : List E) (n : ℕ) → me.0.holds ≡ true → has_share me.0.shares n ≡ true → AtMostOne by n added → new ≡ length (me.0.seen ++ added)
      → Allows Rule slots id me 1 (λ _. new) (λ _. publish_reports by entries added (step slots 1 new 0 none) me new)
  publishes slots id new me added n holds mine one long s r _ at _ =
      let v : V = me.0 in let w : V = published v added in let k = r.each id v at in let hold = k.holding holds in let list' : List E = r.list ++ added in
      let chairs : ByChairs by added = added_by_chairs n added (k.below n mine) one in (
        w,
        keeps,
        tt,
        record {
          list = list';
          flag = r.flag;
          holder = r.holder;
          owner = r.owner;
          words = ap (λ ws. set ws 1 new) r.words ∙ ap (λ (z : ℕ). r.flag ∷ z ∷ []) (long ∙ ap (λ (l : List E). length (l ++ added)) hold.2);
          home = λ z. absurd (let f = hold.0 in omega arith);
          away = away_stays s r id v w at refl;
          each = views_stay (Knows by list' r.flag r.holder r.owner) s.views id w record {
            below = k.below;
            seen = ([], append-nil (v.seen ++ added) ∙ ap (λ (l : List E). l ++ added) hold.2, λ _. All-nil (λ e. by e < 16));
            owns = k.owns;
            calls = λ share held. under_more share v.calls r.list added (k.calls share held);
            seen_under = λ share held. ap (λ (l : List E). under by share (l ++ added)) hold.2;
            others = λ share gone. under_append by share v.calls added ∙ (ap (λ l. l ++ under by share added) (k.others share gone) ∙ added_elsewhere by n share added one (λ e. let here : has_share v.shares share ≡ true = ap (has_share v.shares) (sym e) ∙ mine in cc));
            reported = let more = length-append r.list added in let t = k.reported in omega arith;
            holding = λ _. (hold.0, hold.1, ap (λ (l : List E). l ++ added) hold.2, hold.3);
            met = (starts_more r.list v.met.0 added k.met.0, starts_more r.list v.met.1 added k.met.1);
          } (λ j d other at'. let kj = r.each j d at' in let apart : (share : ℕ) → has_share d.shares share ≡ true → n ≢ share = λ share held e. other (sym (kj.owns share held) ∙ (ap r.owner (sym e) ∙ k.owns n mine)) in record {
            below = kj.below;
            seen = (kj.seen.0 ++ added, sym (append_assoc d.seen kj.seen.0 added) ∙ ap (λ (l : List E). l ++ added) kj.seen.1, λ some_share. All-append (λ e. by e < 16) kj.seen.0 added (kj.seen.2 some_share) chairs);
            owns = kj.owns;
            calls = λ share held. kj.calls share held ∙ under_unchanged n share r.list added one (apart share held);
            seen_under = λ share held. kj.seen_under share held ∙ under_unchanged n share r.list added one (apart share held);
            others = kj.others;
            reported = let more = length-append r.list added in let t = kj.reported in omega arith;
            holding = λ t. absurd (other ((kj.holding t).1 ∙ sym hold.1));
            met = (starts_more r.list d.met.0 added kj.met.0, starts_more r.list d.met.1 added kj.met.1);
          });
        },
        refl,
      )

  pub releases : (slots id : ℕ) (me : M) (x : T) → me.0.holds ≡ true → me.1 ≡ (0, Some x) ∷ [] → entries x ≡ me.0.seen
      → Allows Rule slots id me 0 (λ _. 0) (λ _. release_reports by entries (step slots 0 0 0 none) me 0)
  releases slots id me x holds carried is s r _ at _ =
      let v : V = me.0 in let w : V = released v in let k = r.each id v at in let hold = k.holding holds in let a = r.away (λ z. let f = hold.0 in omega arith) in (
        w,
        gives,
        tt,
        record {
          list = r.list;
          flag = 0;
          holder = r.holder;
          owner = r.owner;
          words = ap (λ ws. set ws 0 0) r.words;
          home = λ _. (x, ap (put_back s.homes) carried ∙ ap (λ hs. set hs 0 (some (Some x))) a.1, is ∙ hold.2);
          away = λ busy. absurd (busy refl);
          each = views_stay (Knows by r.list 0 r.holder r.owner) s.views id w (same_list r.list r.flag 0 r.holder r.holder r.owner r.owner id v v.reported false k k.owns k.reported (λ t. absurd (cc)))
              (λ j d other at'. let kj = r.each j d at' in others_know r.list r.flag 0 r.holder r.holder r.owner j d (λ t. other ((kj.holding t).1 ∙ sym hold.1)) kj);
        },
        λ i. (w, rest (carried i)),
      )

  pub reads_news : (slots id : ℕ) (me : M) → Allows Rule slots id me 1 (λ n. n) (news_reports by entries (step slots 1 0 0 none) me)
  reads_news slots id me s r _ at _ =
      let v : V = me.0 in let n : ℕ = get_or s.words 1 0 in let w : V = with_news v n in let k = r.each id v at in let now : n ≡ length r.list = word_1 s r in
      let seen : StartsWith r.list v.seen = (k.seen.0, k.seen.1) in (
        w,
        keeps,
        tt,
        record {
          list = r.list;
          flag = r.flag;
          holder = r.holder;
          owner = r.owner;
          words = set-get_or s.words 1 0 ∙ r.words;
          home = r.home;
          away = away_stays s r id v w at refl;
          each = views_stay (Knows by r.list r.flag r.holder r.owner) s.views id w (same_list r.list r.flag r.flag r.holder r.holder r.owner r.owner id v n v.holds k k.owns (omega arith) k.holding) (λ j d _. r.each j d);
        },
        (
          refl,
          (let t = k.reported in omega arith),
          (let t = ap length k.seen.1 in let more = length-append v.seen k.seen.0 in omega arith),
          owns_calls r.list r.flag r.holder r.owner id v k,
          (λ le. shorter_is_prefix r.list v.met.0 v.seen k.met.0 seen le),
          (λ le. shorter_is_prefix r.list v.met.1 v.seen k.met.1 seen le),
        ),
      )

  -- an element of `l ++ a ∷ []` is an element of l at the same index, or is a, at the last index
  at_or_last : (l : List V) (a b : V) (j : ℕ) → get_elem? (l ++ a ∷ []) j ≡ some b → (get_elem? l j ≡ some b) ⊎ ((j ≡ length l) × (a ≡ b))
  at_or_last [] a b zero e = inr (refl, some-injective a b e)
  at_or_last [] a b (suc j) e = absurd (some-ne-none b (sym e))
  at_or_last (x ∷ xs) a b zero e = inl e
  at_or_last (x ∷ xs) a b (suc j) e = ⊎_elim inl (λ (t : (j ≡ length xs) × (a ≡ b)). inr (ap suc t.0, t.1)) (at_or_last xs a b j e)

  -- two cases of a test
  both_cases : {P : Type 0} (b : Bool) → (b ≡ true → P) → (b ≡ false → P) → P
  both_cases true t f = t refl
  both_cases false t f = f refl

  pub splits : (id : ℕ) (v : V) (given : List Bool) → v.holds ≡ false → ((share : ℕ) → has_share given share ≡ true → has_share v.shares share ≡ true)
      → Splits Rule id v (kept by given v) (handed by given v)
  splits id v given idle inside s r at =
      let k = r.each id v at in let l : V = kept by given v in let g : V = handed by given v in let end : ℕ = length (set s.views id l) in
      let owner' : ℕ → ℕ = λ share. cond (has_share given share) end (r.owner share) in let K = Knows by r.list r.flag r.holder owner' in
      let kept_owner : (share j : ℕ) → has_share given share ≡ false → r.owner share ≡ j → owner' share ≡ j = λ share j gone e. ap (λ b. cond b end (r.owner share)) gone ∙ e in
      let left : K id l = record {
        below = λ share held. k.below share (has_without v.shares given share held).0;
        seen = (k.seen.0, k.seen.1, λ some_share. k.seen.2 (some_share.0, (has_without v.shares given some_share.0 some_share.1).0));
        owns = λ share held. let h = has_without v.shares given share held in kept_owner share id h.1 (k.owns share h.0);
        calls = λ share held. let h = has_without v.shares given share held in under_kept by (λ i. not (has_share given i)) share v.calls (ap not h.1) ∙ k.calls share h.0;
        seen_under = λ share held. k.seen_under share (has_without v.shares given share held).0;
        others = λ share gone. both_cases (has_share given share) (λ t. under_dropped by (λ i. not (has_share given i)) share v.calls (ap not t))
            (λ f. under_kept by (λ i. not (has_share given i)) share v.calls (ap not f) ∙ k.others share (both_cases (has_share v.shares share)
            (λ held. not_without v.shares given share (k.below share held) gone f) (λ none_there. none_there)));
        reported = k.reported;
        holding = λ t. absurd (cc);
        met = k.met;
      } in
      let right : K end g = record {
        below = λ share held. k.below share (inside share held);
        seen = (k.seen.0, k.seen.1, λ some_share. k.seen.2 (some_share.0, inside some_share.0 some_share.1));
        owns = λ share held. ap (λ b. cond b end (r.owner share)) held;
        calls = λ share held. under_kept by (has_share given) share v.calls held ∙ k.calls share (inside share held);
        seen_under = λ share held. k.seen_under share (inside share held);
        others = λ share gone. under_dropped by (has_share given) share v.calls gone;
        reported = k.reported;
        holding = λ t. absurd (cc);
        met = k.met;
      } in
      let third : (j : ℕ) (d : V) → j ≢ id → get_elem? s.views j ≡ some d → K j d = λ j d other at'. let kj = r.each j d at' in new_owners r.list r.flag r.holder r.owner owner' j d kj (λ share held. kept_owner share j (both_cases (has_share given share) (λ t. absurd (other (sym (kj.owns share held) ∙ k.owns share (inside share t)))) (λ f. f)) (kj.owns share held)) in rule_of_other_views s r (set s.views id l ++ g ∷ []) owner'
      (λ busy. let a = away_stays s r id v l at refl busy in (a.0, a.1, at_longer (set s.views id l) (g ∷ []) r.holder a.0 a.2, a.3))
      (λ j d e. ⊎_elim (views_stay K s.views id l left third j d) (λ (t : (j ≡ end) × (g ≡ d)). subst (λ (x : ℕ × V). K x.0 x.1) (λ i. (sym t.0 i, t.1 i)) right)
      (at_or_last (set s.views id l) g d j e))

  pub longer_cases : (xs ys : List E) → ((longer xs ys ≡ ys) × (length xs ≤ length ys)) ⊎ ((longer xs ys ≡ xs) × (length ys ≤ length xs))
  longer_cases xs ys = dite (dec_le (suc (length xs)) (length ys)) (λ l. inl (ap (λ b. cond b ys xs) (lt-ltb (length xs) (length ys) l), omega arith))
      (λ past. inr (ap (λ b. cond b ys xs) (false_from_ne_true _ (λ t. past (ltb-true (length xs) (length ys) t))), (let q = lt_of_not-le past in omega arith)))

  pub joins : (id : ℕ) (v : V) (other : ℕ) (w : V) → v.holds ≡ false → w.holds ≡ false → HoldsSome v → HoldsSome w → Joins Rule id v other w (joined v w) spent_view
  joins id v other w idle idle' some_share some_share' s r at apart at' =
      let k = r.each id v at in let b : V = joined v w in let other_at : get_elem? s.views other ≡ some w = sym (set_else s.views id other b apart) ∙ at' in let k' = r.each other w other_at in
      let owner' : ℕ → ℕ = λ share. cond (has_share w.shares share) id (r.owner share) in let K = Knows by r.list r.flag r.holder owner' in
      let kept_owner : (share j : ℕ) → has_share w.shares share ≡ false → r.owner share ≡ j → owner' share ≡ j = λ share j gone e. ap (λ t. cond t id (r.owner share)) gone ∙ e in
      let not_both : (share : ℕ) → has_share v.shares share ≡ true → has_share w.shares share ≡ false = λ share held. both_cases (has_share w.shares share) (λ t. absurd (apart (sym (k'.owns share t) ∙ k.owns share held))) (λ f. f) in
      let not_both' : (share : ℕ) → has_share w.shares share ≡ true → has_share v.shares share ≡ false = λ share held. both_cases (has_share v.shares share) (λ t. absurd (apart (sym (k'.owns share held) ∙ k.owns share t))) (λ f. f) in
      let front : StartsWith r.list v.seen = (k.seen.0, k.seen.1) in let back : StartsWith r.list w.seen = (k'.seen.0, k'.seen.1) in
      let below : (share : ℕ) → has_share b.shares share ≡ true → share < 16 = λ share held. ⊎_elim (k.below share) (k'.below share) (has_together v.shares w.shares share held) in
      let under_both : (share : ℕ) → under by share b.calls ≡ under by share v.calls ++ under by share w.calls = λ share. under_append by share v.calls w.calls in
      let mine : K id b = record {
        below = below;
        seen = ⊎_elim (λ (t : (longer v.seen w.seen ≡ w.seen) × (length v.seen ≤ length w.seen)). (k'.seen.0, ap (λ (l : List E). l ++ k'.seen.0) t.0 ∙ k'.seen.1, λ _. k'.seen.2 some_share'))
            (λ (t : (longer v.seen w.seen ≡ v.seen) × (length w.seen ≤ length v.seen)). (k.seen.0, ap (λ (l : List E). l ++ k.seen.0) t.0 ∙ k.seen.1, λ _. k.seen.2 some_share)) (longer_cases v.seen w.seen);
        owns = λ share held. ⊎_elim (λ t. kept_owner share id (not_both share t) (k.owns share t)) (λ t. ap (λ z. cond z id (r.owner share)) t) (has_together v.shares w.shares share held);
        calls = λ share held. under_both share ∙ ⊎_elim (λ t. ap (λ l. under by share v.calls ++ l) (k'.others share (not_both share t)) ∙ (append-nil (under by share v.calls) ∙ k.calls share t))
            (λ t. ap (λ l. l ++ under by share w.calls) (k.others share (not_both' share t)) ∙ k'.calls share t) (has_together v.shares w.shares share held);
        seen_under = λ share held. ⊎_elim
            (λ t. ⊎_elim (λ (c : (longer v.seen w.seen ≡ w.seen) × (length v.seen ≤ length w.seen)). ap (under by share) c.0 ∙ still_all by share r.list v.seen w.seen front back c.1 (k.seen_under share t))
            (λ (c : (longer v.seen w.seen ≡ v.seen) × (length w.seen ≤ length v.seen)). ap (under by share) c.0 ∙ k.seen_under share t) (longer_cases v.seen w.seen))
            (λ t. ⊎_elim (λ (c : (longer v.seen w.seen ≡ w.seen) × (length v.seen ≤ length w.seen)). ap (under by share) c.0 ∙ k'.seen_under share t)
            (λ (c : (longer v.seen w.seen ≡ v.seen) × (length w.seen ≤ length v.seen)). ap (under by share) c.0 ∙ still_all by share r.list w.seen v.seen back front c.1 (k'.seen_under share t)) (longer_cases v.seen w.seen))
            (has_together v.shares w.shares share held);
        others = λ share gone. under_both share ∙ both_cases (nat_lt share 16)
            (λ t. let n = not_together v.shares w.shares share (ltb-true share 16 t) gone in ap (λ l. l ++ under by share w.calls) (k.others share n.0) ∙ k'.others share n.1)
            (λ f. let past : 16 ≤ share = ltb-false share 16 f in
            ap (λ l. l ++ under by share w.calls) (k.others share (both_cases (has_share v.shares share) (λ t. absurd (let q = k.below share t in omega arith)) (λ n. n)))
            ∙ k'.others share (both_cases (has_share w.shares share) (λ t. absurd (let q = k'.below share t in omega arith)) (λ n. n)));
        reported = let p = k.reported in let q = k'.reported in omega arith;
        holding = λ t. absurd (cc);
        met = (front, back);
      } in
      let spent : K other spent_view = record {
        below = λ share held. absurd (none_held share held);
        seen = (r.list, refl, λ some_one. absurd (none_held some_one.0 some_one.1));
        owns = λ share held. absurd (none_held share held);
        calls = λ share held. absurd (none_held share held);
        seen_under = λ share held. absurd (none_held share held);
        others = λ share gone. refl;
        reported = omega arith;
        holding = λ t. absurd (cc);
        met = ((r.list, refl), (r.list, refl));
      } in
      let third : (j : ℕ) (d : V) → j ≢ id → j ≢ other → get_elem? s.views j ≡ some d → K j d = λ j d not_id not_other at_j. let kj = r.each j d at_j in new_owners r.list r.flag r.holder r.owner owner' j d kj (λ share held. kept_owner share j (both_cases (has_share w.shares share) (λ t. absurd (not_other (sym (kj.owns share held) ∙ k'.owns share t))) (λ f. f)) (kj.owns share held)) in
      let not_idle : (v' : V) (x : V) (id' : ℕ) → v'.holds ≡ false → get_elem? s.views id' ≡ some v' → get_elem? s.views r.holder ≡ some x → x.holds ≡ true → r.holder ≢ id'
      = λ v' x id' still at_p at_h holds e. let same : x ≡ v' = some-injective x v' (sym at_h ∙ (ap (get_elem? s.views) e ∙ at_p)) in let t = ap (λ z. z.holds) same in absurd (cc) in rule_of_other_views s r (set (set s.views id b) other spent_view) owner'
      (λ busy. let a = r.away busy in
      (a.0, a.1, set_else (set s.views id b) other r.holder spent_view (not_idle w a.0 other idle' other_at a.2 a.3) ∙ (set_else s.views id r.holder b (not_idle v a.0 id idle at a.2 a.3) ∙ a.2), a.3))
      (views_stay K (set s.views id b) other spent_view spent
      (λ j d not_other e. views_stay (λ j d. j ≢ other → K j d) s.views id b (λ _. mine) (λ j d not_id at_j not_other'. third j d not_id not_other' at_j) j d e not_other))
