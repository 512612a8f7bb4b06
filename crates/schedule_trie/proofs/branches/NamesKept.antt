-- Names of branches keep their form.
use Rattle.std.proofs.Common.{◌≡◌, ℕ, zero, suc, true, nat_eq, List, [], ◌∷◌, ◌++◌, position, Option, None, refl, sym, ap, subst, ◌∙◌}
use Rattle.std.specs.Cmp.Lexicographic.{pointwise}
use Rattle.std.specs.List.{remove, list_all}
use Rattle.std.specs.Map.{keys_of}
use Rattle.std.proofs.lemmas.Bool.{and_parts, and_from}
use Rattle.std.proofs.lemmas.List.{map-append}
use Rattle.indexmap.specs.IndexMap.{insert_entry}
use Rattle.indexmap.proofs.MapLemmas.{Missing-position, insert_entry-absent}
use Rattle.schedule_trie.specs.declared.trie.Trie.TheInside.{Inside}
use Rattle.branch_terms.specs.Forest.{index_of}
use Rattle.schedule_trie.specs.Trie.{forest, segment_at}
use Rattle.branch_terms.specs.Limbs.{is_name, HaveNames}
use Rattle.schedule_trie.specs.TrieFields.{names_of, trie_of, AreNames}
use Rattle.schedule_trie.proofs.branches.Lines.{index_is}
use Rattle.schedule_trie.proofs.branches.KeyedBranches.{names_on}

-- names keep their form when a branch is removed
pub names_left : (es : List (List ℕ × Option ℕ)) (index : ℕ) → AreNames (keys_of es) → AreNames (keys_of (remove es index))
names_left [] zero h = refl
names_left [] (suc index) h = refl
names_left (e ∷ es) zero h = (and_parts (is_name e.0) (list_all is_name (keys_of es)) h).1
names_left (e ∷ es) (suc index) h =
    let p = and_parts (is_name e.0) (list_all is_name (keys_of es)) h in
    and_from (is_name e.0) (list_all is_name (keys_of (remove es index))) p.0 (names_left es index p.1)

-- names keep their form when a branch is added last
pub names_more : (names : List (List ℕ)) (name : List ℕ) → AreNames names → is_name name ≡ true → AreNames (names ++ name ∷ [])
names_more [] name h g = and_from (is_name name) true g refl
names_more (n ∷ ns) name h g =
    let p = and_parts (is_name n) (list_all is_name ns) h in
    and_from (is_name n) (list_all is_name (ns ++ name ∷ [])) p.0 (names_more ns name p.1 g)

pub forked_names : {T : Type 0} (t : Inside T) (entries : List (List ℕ × Option ℕ)) (name : List ℕ) → AreNames (names_of t) → is_name name ≡ true
    → index_of (forest (trie_of t)).branches name ≡ None → entries ≡ insert_entry (pointwise nat_eq) t.branches.entries name None → AreNames (keys_of entries)
forked_names t entries name named formed free is =
    let absent : position (pointwise nat_eq name) (names_of t) ≡ None = sym (index_is t name) ∙ free in
    let all : entries ≡ t.branches.entries ++ (name, None) ∷ [] =
    is ∙ insert_entry-absent (pointwise nat_eq) name None t.branches.entries (Missing-position (pointwise nat_eq name) t.branches.entries absent).absent in
    subst AreNames (sym (ap keys_of all ∙ map-append (λ e. e.0) t.branches.entries ((name, None) ∷ []))) (names_more (names_of t) name named formed)

-- the names in the fields are the forest's names
pub have_names : {T : Type 0} (t : Inside T) → AreNames (names_of t) → HaveNames (forest (trie_of t)).branches
have_names t named = subst AreNames (sym (names_on (segment_at (trie_of t).segments) (names_of t) t.segments.paths)) named
