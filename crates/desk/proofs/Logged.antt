-- Logs with one more call, if the call is logged, and their prefixes.
use Rattle.std.proofs.Common.{◌≡◌, ℕ, Bool, true, false, cond, List, [], ◌∷◌, ◌++◌, refl, sym, ap, ◌∙◌, ⊎_elim, append-nil}
use Rattle.std.proofs.lemmas.List.{append_cancel_left}
use Rattle.turn.specs.Entries.{AtMostOne}
use Rattle.sessions.specs.declared.log.Entry.{Entry}
use Rattle.sessions.specs.Books.{BookOf}
use Rattle.sessions.specs.World.{World}
use Rattle.sessions.specs.Logs.{IsLegal, acted_by, is_logged, logged}
use Rattle.desk.specs.declared.item.Item.{Item}
use Rattle.desk.specs.declared.item.Item.TheVariants.{Call}
use Rattle.desk.specs.Items.{made_under, as_items, items}
use Rattle.desk.proofs.Lists.{items_more}

-- the first entries of a legal log are a legal log
pub legal_front : {P : Type 0} (w : World P) (xs ys : List Entry) → IsLegal w (xs ++ ys) → IsLegal w xs
legal_front w [] ys h = tt
legal_front w (e ∷ xs) ys h = (h.0, h.1, legal_front (acted_by e w).world xs ys h.2)

-- the log with the entry e added at its end if t is true, or else the log alone
abbrev pub logged_if : Bool → Entry → List Entry → List Entry
logged_if t e log = cond t (log ++ e ∷ []) log

-- a log is legal if it is with one more entry, or with none
legal_before : {P : Type 0} (t : Bool) (w : World P) (e : Entry) (log : List Entry) → IsLegal w (logged_if t e log) → IsLegal w log
legal_before true w e log h = legal_front w log (e ∷ []) h
legal_before false w e log h = h

-- a log that is legal with a call is legal without it
pub legal_found : {P : Type 0} (w : World P) (e : Entry) (log : List Entry) → IsLegal w (logged e log) → IsLegal w log
legal_found w e log = legal_before (is_logged e.reply) w e log

logged_if_last : (t : Bool) (e : Entry) (log : List Entry) → logged_if t e log ≡ log ++ logged_if t e []
logged_if_last true e log = refl
logged_if_last false e log = sym (append-nil log)

-- what a call adds to a log is the same for each log
pub logged_last : (e : Entry) (log : List Entry) → logged e log ≡ log ++ logged e []
logged_last e log = logged_if_last (is_logged e.reply) e log

module _ {R P : Type 0} where
  -- what is added under the number `n` by a call of some chair: nothing, or the call with `n` as
  -- its chair
  pub logged_under : (t : Bool) (first : BookOf R P) (found : List Entry) (call : ℕ → Entry) (chair n : ℕ) (added : List (Item R P)) → ((k : ℕ) → (call k).chair ≡ k)
      → items first found ++ added ≡ items first (logged_if t (call chair) found) → AtMostOne made_under n added
      → (added ≡ as_items (logged_if t (call n) [])) × (logged_if t (call chair) found ≡ logged_if t (call n) found)
  logged_under true first found call chair n added by is one =
      let new : added ≡ Call (call chair) ∷ [] = append_cancel_left (items first found) added (Call (call chair) ∷ []) (is ∙ items_more first found (call chair ∷ [])) in
      ⊎_elim (λ (none : added ≡ []). absurd (let same : [] ≡ Call (call chair) ∷ [] = sym none ∙ new in cc))
      (λ (some : (x : Item R P) × (added ≡ x ∷ []) × (made_under x ≡ n)).
      let head : some.0 ≡ Call (call chair) = (let same : some.0 ∷ [] ≡ Call (call chair) ∷ [] = sym some.1 ∙ new in cc) in
      let number : chair ≡ n = sym (by chair) ∙ (ap made_under (sym head) ∙ some.2) in
      (new ∙ ap (λ k. Call (call k) ∷ []) number, ap (λ k. found ++ call k ∷ []) number)) one
  logged_under false first found call chair n added by is one = (append_cancel_left (items first found) added [] (is ∙ sym (append-nil (items first found))), refl)
