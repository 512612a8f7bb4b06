-- What a parse of the program's command line gives: the number of each option, and the outcome that
-- suits the words, also if there are none.
use Rattle.std.proofs.Common.{◌≡◌, ◌∙◌, ◌<◌, ◌≤◌, ap, subst, refl, sym, arith, inl, inr, ℕ, Bool, true, false, not, zero, suc, List, [], ◌∷◌, length, map, is_some, Option, Some, None, codes, eqb-true}
use Rattle.std.specs.Prelude.{find, pos, position, unwrap_or, option_map, slice_get, Result}
use Rattle.std.specs.List.{All, slice_index_or}
use Rattle.std.specs.Str.{bytes_eq}
use Rattle.std.specs.Borrow.{Bor}
use Rattle.std.proofs.lemmas.List.{get_or-map, length-map}
use Rattle.std.proofs.lemmas.List.Elements.{All-get_or}
use Rattle.std.proofs.lemmas.Slice.Eq.{bytes_eq-Decides}
use Rattle.std.specs.Str.Parse.{ExplainsUnsignedError, HasUnsignedDigitsIfOk, ParsesUnsigned, digits_value, without_leading_plus}
use Rattle.std.specs.declared.num.ParseIntError.{ParseIntError}
use Rattle.clap.specs.Words.{HasKind, IsAmong, Kinds, HasMatchesOf, ReadsOne, fault_of, first_of, first_value, is_simple, is_simple_and_free, kind_of, matches_of, one_of, rows_of, App, Accepts, IsParsedFrom, Rule, Text, app_of, args_of, found_of, groups_of, items_of, matched_of, one_text, rule_of, without_minus, reading_of}
use Rattle.clap.specs.declared.error.Error.{Error}
use Rattle.clap.specs.declared.error.kind.ErrorKind.TheVariants.{DisplayHelp, OutOfMemory}
use Rattle.clap.proofs.CallerReads.{signed_reads}
use Rattle.clap.proofs.WalkLemmas.{first_value-rows, one_text-rows, both}
use Rattle.clap.proofs.OnLiterals.{clap_on_literals}
use Rattle.branch_terms.specs.declared.limits.TheConstants.{MOST_CELLS_MADE}
use Rattle.command_line.specs.declared.options.Options.{Options}
use Rattle.command_line.specs.declared.invocation.Invocation.{Invocation}
use Rattle.command_line.specs.declared.invocation.Invocation.TheVariants.{Run, Help, Refused, Memory}
use Rattle.clap.specs.Facts.{Entry, EntryPasses, HasReading, PassesArg, WantsDefault, least_values, parser_of, parser_of_value, unwrap_or_range, HasId}
use Rattle.clap.specs.Values.{IsSignedIn}
use Rattle.clap.specs.Walk.{is_empty, texts}
use Rattle.clap.specs.Built.{IsAuto, NamesNoGroup}
use Rattle.clap.specs.declared.builder.action.ArgAction.TheVariants.{Count, Set}
use Rattle.clap.specs.declared.builder.arg.Arg.{Arg}
use Rattle.clap.specs.declared.builder.command.Command.{Command}
use Rattle.clap.specs.declared.builder.command.Command.TheViews.{out-Command}
use Rattle.clap.specs.declared.builder.value_parser.Reading.{Reading}
use Rattle.clap.specs.declared.builder.value_parser.ValueParser.{ValueParser}
use Rattle.clap.specs.declared.builder.value_parser.ValueParser.TheVariants as value_parser
use Rattle.clap.specs.declared.parser.matches.ArgMatches.{ArgMatches}
use Rattle.clap.specs.declared.parser.matches.Found.{Found}
use Rattle.clap.specs.declared.parser.matches.MatchedArg.{MatchedArg}
use Rattle.clap.proofs.CallerLemmas.{default_present, entry_by_id, same_rules_by_id}
use Rattle.command_line.specs.CommandLine.{IsAskedBy, IsRunOrMemory, Says, Explains, option_number, number_rule, workers_rule, cells_rule, branches_rule, default_options, faults_of, file_word, file_rule, options_of, save_path, program, save_rule}

-- the parser of a number from `least` to `most`
abbrev number_parser : ℕ → ℕ → ValueParser
number_parser least most = value_parser.Signed (pos least) (pos most)

-- the option with this id has a text: a number from `least` to `most`, without a minus sign
abbrev ReadsNumber : Text → ℕ → ℕ → Found → Type 0
ReadsNumber id least most f = (t : Text) × (one_text f id ≡ Some (without_minus t)) × IsSignedIn (pos least) (pos most) t

-- the first of some values that all pass P is read, and passes P
first_read : (P : Bor Text → Type 0) (vs : List (Bor Text)) → All P vs → 0 < length vs
    → (v : Bor Text) × (option_map (λ s. without_minus s.now) (slice_get vs 0) ≡ Some (without_minus v.now)) × P v
first_read P [] all some = absurd (omega arith)
first_read P (v ∷ vs) all some = (v, refl, All-get_or P (v ∷ vs) 0 v (omega arith) all)

-- an option that takes a number
module _ (id : Text) (least most : ℕ) (named : 0 < length id) where
  -- what a parse keeps of the option's rule: each argument with its id takes a number in its range
  abbrev KeepsNumber : Command → Type 0
  KeepsNumber c = (j : ℕ) (x : Arg) → j < length (args_of c) → slice_index_or (args_of c) j x ≡ x
      → bytes_eq x.id.now id ≡ true
      → (x.action ≡ Some Set) × (x.value_parser ≡ Some (number_parser least most)) × (1 ≤ least_values x) × (x.val_delim ≡ None)

  -- a text that passes as the option's value is a number in the range
  passing_in_range : (c : Command) (t : Text) → KeepsNumber c → PassesArg c id t → IsSignedIn (pos least) (pos most) t
  passing_in_range c t keeps p =
      let is : parser_of p.1 ≡ number_parser least most = ap parser_of_value (keeps p.0 p.1 p.2 p.3 p.4.0).1 in
      subst (λ (q : ValueParser). Accepts p.1.ignore_case q t) is p.4.1

  -- the option's reading is that of a number in the range
  reading_of_number : (c : Command) (r : Reading) → KeepsNumber c → HasReading c id r → r ≡ reading_of (number_parser least most)
  reading_of_number c r keeps p =
      let is : parser_of p.1 ≡ number_parser least most = ap parser_of_value (keeps p.0 p.1 p.2 p.3 p.4.0).1 in
      sym p.4.1 ∙ ap reading_of is

  -- the option's text is the first value of its entry
  text_of_entry : (f : Found) (x : MatchedArg) (t : Text) → matched_of f id ≡ Some x → x.reading ≡ reading_of (number_parser least most)
      → option_map (λ s. without_minus s.now) (slice_get x.vals.items 0) ≡ Some t → one_text f id ≡ Some t
  text_of_entry f x t found is v = rw (found, is) v

  -- an entry with the option's id that passes reads a number
  entry_reads : (c : Command) (f : Found) (e : Entry) → KeepsNumber c → groups_of c ≡ [] → e.0.now ≡ id
      → matched_of f id ≡ Some e.1 → EntryPasses c e → ReadsNumber id least most f
  entry_reads c f e keeps no_groups key found pass =
      let no_group : e.1.is_group ≡ true → ⊥ = λ g. elim (pass.3 g) [
        | inl empty ↦
            let bad : id ≡ [] = sym key ∙ empty in
            absurd (omega (arith, named, ap length bad))
        | inr lots ↦
            let bad : 0 < 0 = rw no_groups at lots in
            absurd (omega arith)
      ] in
      let all : All (λ v. PassesArg c id v.now) e.1.vals.items = elim pass.0 [
        | inl g ↦ absurd (no_group g)
        | inr vals ↦ subst (λ (w : Text). All (λ v. PassesArg c w v.now) e.1.vals.items) key vals
      ] in
      let is : e.1.reading ≡ reading_of (number_parser least most) = elim pass.4 [
        | inl g ↦ absurd (no_group g)
        | inr h ↦ reading_of_number c e.1.reading keeps (subst (λ (w : Text). HasReading c w e.1.reading) key h)
      ] in
      let some : 0 < length e.1.vals.items = elim pass.1 [
        | inl h ↦ absurd (no_group h.0)
        | inr (inl v) ↦ v
        | inr (inr (inl h)) ↦
            let any = h.1 in
            let is_set = (keeps any.0 any.1 any.2 any.3 (rw key at any.4.0)).0 in
            let bad : Set ≡ Count = rw is_set at any.4.1 in
            cc
        | inr (inr (inr h)) ↦
            let rule = keeps h.0 h.1 h.2 h.3 (rw key at h.4.0) in
            elim h.4.1 [
              | inl none ↦ absurd (omega (arith, rule.2))
              | inr has ↦
                  let bad : false ≡ true = rw rule.3 at has in
                  cc
            ]
      ] in
      let first = first_read (λ v. PassesArg c id v.now) e.1.vals.items all some in
      (first.0.now, text_of_entry f e.1 (without_minus first.0.now) found is first.1, passing_in_range c first.0.now keeps first.2)

-- an id that has an entry is found
has_entry : (xs : List Entry) (id : Text) (i : ℕ) → i < length xs → ((d : Entry) → bytes_eq (slice_index_or xs i d).0.now id ≡ true)
    → (x : MatchedArg) × (option_map (λ e. e.1) (find (λ e. bytes_eq e.0.now id) xs) ≡ Some x)
has_entry [] id i lt at = absurd (omega arith)
has_entry (e ∷ es) id i lt at = go (bytes_eq e.0.now id) refl i lt at (has_entry es id)
  where
    go : (b : Bool) → bytes_eq e.0.now id ≡ b → (i : ℕ) → i < length (e ∷ es)
        → ((d : Entry) → bytes_eq (slice_index_or (e ∷ es) i d).0.now id ≡ true)
        → ((j : ℕ) → j < length es → ((d : Entry) → bytes_eq (slice_index_or es j d).0.now id ≡ true)
        → (x : MatchedArg) × (option_map (λ e. e.1) (find (λ e. bytes_eq e.0.now id) es) ≡ Some x))
        → (x : MatchedArg) × (option_map (λ e. e.1) (find (λ e. bytes_eq e.0.now id) (e ∷ es)) ≡ Some x)
    go true is i lt at rec = (e.1, rw is refl)
    go false is zero lt at rec =
        let bad : false ≡ true = rw is at (at e) in
        cc
    go false is (suc j) lt at rec =
        let got = rec j (omega (arith, lt)) at in
        (got.0, rw is got.1)

-- ---- lists, options, and what a simple rule lacks

nil_if_empty : {X : Type 0} (xs : List X) → is_empty xs ≡ true → xs ≡ []
nil_if_empty [] e = refl
nil_if_empty (x ∷ xs) e = absurd (omega (arith, eqb-true _ _ e))

false_if_not : (b : Bool) → not b ≡ true → b ≡ false
false_if_not true e = cc
false_if_not false e = refl

none_if_not_some : {X : Type 0} (o : Option X) → not (is_some o) ≡ true → o ≡ None
none_if_not_some None e = refl
none_if_not_some (Some x) e = cc

some_text : (xs : List (Bor Text)) (t : Text) → texts xs ≡ t ∷ [] → 0 < length xs
some_text [] t e = absurd (omega (arith, ap length e))
some_text (x ∷ xs) t e = omega arith

no_arg_groups : (x : Arg) → (rule_of x).is_simple ≡ true → x.groups.items ≡ []
no_arg_groups x e = nil_if_empty x.groups.items (both _ _ (both _ _ (both _ _ e).1).1).0

no_delimiter : (y : Arg) → (rule_of y).is_simple ≡ true → y.val_delim ≡ None
no_delimiter y e =
    let overrides = both (is_empty y.overrides.items) _ e in
    let conditions = both (is_empty y.default_vals_ifs.items) _ overrides.1 in
    let groups = both (is_empty y.groups.items) _ conditions.1 in
    none_if_not_some y.val_delim (both (not (is_some y.val_delim)) _ groups.1).0

-- the first item of a list that isn't empty
first_item : {X : Type 0} (xs : List X) → 0 < length xs → X
first_item [] lt = absurd (omega (arith, lt))
first_item (x ∷ xs) lt = x

-- ---- the options, each by its index among the arguments

abbrev all_rules : List Rule
all_rules = file_rule ∷ workers_rule ∷ cells_rule ∷ branches_rule ∷ save_rule ∷ []

-- the rule at an index
abbrev rule_at : ℕ → Rule
rule_at k = slice_index_or all_rules k file_rule

-- the first index with an id
abbrev first_with : Text → Option ℕ
first_with id = position (λ (r : Rule). bytes_eq r.id id) all_rules

-- the rule at each place is simple, and is the first with its id
each_rule : (k : ℕ) → k < length all_rules → ((rule_at k).is_simple ≡ true) × (first_with (rule_at k).id ≡ Some k)
each_rule zero lt = (refl, refl)
each_rule (suc zero) lt = (refl, refl)
each_rule (suc (suc zero)) lt = (refl, refl)
each_rule (suc (suc (suc zero))) lt = (refl, refl)
each_rule (suc (suc (suc (suc zero)))) lt = (refl, refl)
each_rule (suc (suc (suc (suc (suc k))))) lt = absurd (omega (arith, lt))

-- the option with this id, which takes a number from `least` to `most`, below 2^32: its index among
-- the rules and its default. Its id isn't empty, and isn't that of the help or the version.
pub record IsOption (id : Text) (least most : ℕ) : Type 0 where
  pub place : ℕ
  pub default : Text
  pub within : place < length all_rules
  pub rule : rule_at place ≡ number_rule id least most default
  pub named : 0 < length id
  pub no_help : bytes_eq id (codes "help") ≡ false
  pub no_version : bytes_eq id (codes "version") ≡ false
  pub fits : most < 4294967296

-- the options that take a number
pub workers : IsOption (codes "workers") 0 4
workers = record { place = 1; default = codes "0"; within = omega arith; rule = refl; named = omega arith; no_help = refl; no_version = refl; fits = omega arith }

pub cells : IsOption (codes "cells") 1 MOST_CELLS_MADE
cells = record { place = 2; default = codes "65536"; within = omega arith; rule = refl; named = omega arith; no_help = refl; no_version = refl; fits = omega arith }

pub branches : IsOption (codes "branches") 1 1024
branches = record { place = 3; default = codes "64"; within = omega arith; rule = refl; named = omega arith; no_help = refl; no_version = refl; fits = omega arith }

-- ---- the command

is_simple_program : is_simple program ≡ true
unfolding clap_on_literals
is_simple_program = refl

is_simple_and_free_program : is_simple_and_free program ≡ true
unfolding clap_on_literals
is_simple_and_free_program = refl

-- a command of this program's shape is simple and free
pub simple_and_free : (c : Command) → app_of c ≡ program → is_simple_and_free (app_of c) ≡ true
simple_and_free c shape = ap is_simple_and_free shape ∙ is_simple_and_free_program

-- `r` is what `t` is read as, as an unsigned number of 32 bits
abbrev pub ReadsU32 : Text → Result ℕ ParseIntError → Type 0
ReadsU32 t r = ParsesUnsigned 32 10 t r × ExplainsUnsignedError 10 t r × HasUnsignedDigitsIfOk t r

module _ (c : Command) (m : ArgMatches) (shape : app_of c ≡ program) (p : IsParsedFrom c m) where
  plain_top : (app_of c).top.is_plain ≡ true
  plain_top = ap (λ (a : App). a.top.is_plain) shape

  no_globals : (out-Command c).has_globals ≡ false
  no_globals = false_if_not _ (both _ _ (both _ _ (both _ _ plain_top).1).1).0

  no_groups : groups_of c ≡ []
  no_groups = nil_if_empty _ (both _ _ plain_top).0

  -- the rules of the arguments, in order, are `all_rules`
  rules_are : map rule_of (args_of c) ≡ all_rules
  rules_are = ap (λ (a : App). a.top.rules) shape

  as_many_args : length (args_of c) ≡ length all_rules
  as_many_args = sym (length-map (args_of c) rule_of) ∙ ap length rules_are

  an_arg : Arg
  an_arg = first_item (args_of c) (omega (arith, as_many_args))

  has_rule : (k : ℕ) (d : Arg) → k < length all_rules → rule_of (slice_index_or (args_of c) k d) ≡ rule_at k
  has_rule k d lt =
      sym (get_or-map rule_of (args_of c) k d file_rule (rw as_many_args lt)) ∙ ap (λ (rs : List Rule). slice_index_or rs k file_rule) rules_are

  names_none : NamesNoGroup c
  names_none k d lt =
      let low : k < length all_rules = rw as_many_args at lt in
      no_arg_groups (slice_index_or (args_of c) k d) (ap (λ (r : Rule). r.is_simple) (has_rule k d low) ∙ (each_rule k low).0)

  -- if the matches have a text for the option with this id, r is what this text is read as
  abbrev pub Gives : Text → Option ℕ → Type 0
  Gives id r = (t : Text) → one_text (found_of m) id ≡ Some t → ReadsOne ReadsU32 t r

  rows_are_matches : (words : List Text) → HasMatchesOf (app_of c) words m → rows_of (found_of m) ≡ matches_of program words
  rows_are_matches words has = (has (ap is_simple shape ∙ is_simple_program)).0 ∙ ap (λ (a : App). matches_of a words) shape

  -- the argument of an option, whose id no other argument has
  module _ {id : Text} {least most : ℕ} (o : IsOption id least most) where
    abbrev arg : Arg
    arg = slice_index_or (args_of c) o.place an_arg

    place_within : o.place < length (args_of c)
    place_within = rw as_many_args o.within

    rule_is : rule_of arg ≡ number_rule id least most o.default
    rule_is = has_rule o.place an_arg o.within ∙ o.rule

    is_simple_rule : (rule_of arg).is_simple ≡ true
    is_simple_rule = ap (λ (r : Rule). r.is_simple) rule_is

    id_is : arg.id.now ≡ id
    id_is = ap (λ (r : Rule). r.id) rule_is

    first_is_place : first_with id ≡ Some o.place
    first_is_place = ap (λ (r : Rule). first_with r.id) (sym o.rule) ∙ (each_rule o.place o.within).1

    -- no other argument has the option's id
    only_at_place : (j : ℕ) (e : Arg) → j < length (args_of c) → bytes_eq (slice_index_or (args_of c) j e).id.now arg.id.now ≡ true → j ≡ o.place
    only_at_place j e lt same =
        let low : j < length all_rules = rw as_many_args at lt in
        let is : (rule_at j).id ≡ id =
        ap (λ (r : Rule). r.id) (sym (has_rule j e low)) ∙ (bytes_eq-Decides _ _).0 same ∙ id_is in
        ap (λ o. unwrap_or o 0) (sym (each_rule j low).1 ∙ ap first_with is ∙ first_is_place)

    -- the argument isn't that of the help or the version
    not_auto : IsAuto arg → ⊥
    not_auto auto = elim auto [
      | inl h ↦
          let bad : true ≡ false = sym ((bytes_eq-Decides _ _).1 (sym id_is ∙ h)) ∙ o.no_help in
          cc
      | inr h ↦
          let bad : true ≡ false = sym ((bytes_eq-Decides _ _).1 (sym id_is ∙ h)) ∙ o.no_version in
          cc
    ]

    keeps_number : KeepsNumber id least most o.named p.built
    keeps_number j z lt at key =
        let same : bytes_eq z.id.now arg.id.now ≡ true = rw id_is key in
        let kept = same_rules_by_id c m p o.place an_arg place_within only_at_place not_auto j z lt at same in
        let is_set : arg.action ≡ Some Set = ap (λ (r : Rule). r.action) rule_is in
        let is_number : arg.value_parser ≡ Some (number_parser least most) = ap (λ (r : Rule). r.parser) rule_is in
        let one : least_values arg ≡ 1 = ap (λ (r : Rule). (unwrap_or_range r.range).start_inclusive) rule_is in
        (kept.action Set is_set, kept.parser (number_parser least most) is_number, kept.least is_set (omega (arith, one)), kept.val_delim ∙ no_delimiter arg is_simple_rule)

    has_default : WantsDefault arg
    has_default = (nil_if_empty arg.default_vals_ifs.items (both _ _ (both _ _ is_simple_rule).1).0, some_text (items_of arg.default_vals) o.default (ap (λ (r : Rule). r.defaults) rule_is))

    has_id : HasId (found_of m) id
    has_id =
        let has = default_present c m p no_globals o.place an_arg place_within has_default in
        rw id_is at has

    reads_number : ReadsNumber id least most (found_of m)
    reads_number =
        let entry = has_entry (found_of m).entries.items id has_id.0 has_id.1 has_id.2 in
        let parsed = p.parsed (p.from.globals ∙ no_globals) in
        let e = entry_by_id (EntryPasses p.built) (found_of m).entries.items id entry.0 parsed.values entry.1 in
        let key : e.0.0.now ≡ id = (bytes_eq-Decides _ _).0 e.2 in
        let groups : groups_of p.built ≡ [] = (p.from.same_groups names_none).1 ∙ no_groups in
        entry_reads id least most o.named p.built (found_of m) e.0 keeps_number groups key (entry.1 ∙ ap Some (sym e.1)) e.3

    -- a number is always read, in the option's range
    in_range : (r : Option ℕ) → Gives id r → (n : ℕ) × (r ≡ Some n) × (least ≤ n) × (n ≤ most)
    in_range r gives =
        signed_reads ParseIntError ReadsU32 32 least most reads_number.0 r (gives (without_minus reads_number.0) reads_number.1) (λ u x g. g.0) (omega (arith, o.fits)) reads_number.2

    -- the matches always give a number for the option
    pub number_always_given : Gives id None → ⊥
    number_always_given gives =
        let bad : None ≡ Some (in_range None gives).0 = (in_range None gives).1 in
        cc

    -- the number that the matches give is the one that the words give, and is in the option's range
    number_given : (words : List Text) (n : ℕ) → HasMatchesOf (app_of c) words m → Gives id (Some n)
        → (n ≡ option_number id words) × (least ≤ n) × (n ≤ most)
    number_given words n has gives =
        let got = in_range (Some n) gives in
        let same : n ≡ got.0 = ap (λ o. unwrap_or o 0) got.1 in
        let digits = without_minus reads_number.0 in
        let number_is : n ≡ digits_value 10 (without_leading_plus digits) = (gives digits reads_number.1).0.1 in
        let at : one_of id (matches_of program words) ≡ Some digits =
        ap (one_of id) (sym (rows_are_matches words has)) ∙ sym (one_text-rows (found_of m) id) ∙ reads_number.1 in
        let is : n ≡ option_number id words = rw at number_is in
        (is, omega (arith, same, got.2), omega (arith, same, got.3))

  -- words without a fault say what the matches give: FILE, the options and PATH
  pub says : (words : List Text) (file save : Option Text) (n k l : ℕ) → HasMatchesOf (app_of c) words m → fault_of (app_of c) words ≡ []
      → file ≡ first_value (found_of m) (codes "FILE") → save ≡ first_value (found_of m) (codes "save")
      → Gives (codes "workers") (Some n) → Gives (codes "cells") (Some k) → Gives (codes "branches") (Some l)
      → Says words file (record { workers = n; cells = k; branches = l }) save
  says words file save n k l has taken file_is save_is gives_workers gives_cells gives_branches =
      let workers_are = number_given workers words n has gives_workers in
      let cells_are = number_given cells words k has gives_cells in
      let branches_are = number_given branches words l has gives_branches in
      record {
        taken = ap (λ (a : App). fault_of a words) (sym shape) ∙ taken;
        file_is = file_is ∙ first_value-rows (found_of m) (codes "FILE") ∙ ap (first_of (codes "FILE")) (rows_are_matches words has);
        options_are = λ i. record { workers = workers_are.0 i; cells = cells_are.0 i; branches = branches_are.0 i };
        save_is = save_is ∙ first_value-rows (found_of m) (codes "save") ∙ ap (first_of (codes "save")) (rows_are_matches words has);
        limits = record {
          few_workers = workers_are.2;
          some_cells = cells_are.1;
          few_cells = omega (arith, cells_are.2);
          some_branches = branches_are.1;
          few_branches = branches_are.2;
        };
      }

-- ---- what is answered

-- an outcome that suits an error's kind suits the words that gave the error
invocation_explained : (words : List Text) (kinds : Kinds) (e : Error) (r : Invocation) → kinds ≡ faults_of words → HasKind kinds e → Explains (kind_of e) r → IsAskedBy words r
invocation_explained words kinds e (Run file options save) same has h = absurd h
invocation_explained words kinds e (Help text) same (inl lack) h =
    let bad : OutOfMemory ≡ DisplayHelp = sym lack ∙ h in
    cc
invocation_explained words kinds e (Help text) same (inr among) h =
    subst (λ k. IsAmong k (faults_of words)) h (subst (λ ks. IsAmong (kind_of e) ks) same among)
invocation_explained words kinds e (Refused text) same (inl lack) h = absurd (h.1 lack)
invocation_explained words kinds e (Refused text) same (inr among) h = (kind_of e, subst (λ ks. IsAmong (kind_of e) ks) same among, h.0)
invocation_explained words kinds e Memory same has h = tt

-- the same, if the error's kind is one that a parse by the program's command gives
pub fault_explained : (c : Command) (words : List Text) (e : Error) (r : Invocation) → app_of c ≡ program → HasKind (fault_of (app_of c) words) e
    → Explains (kind_of e) r → IsAskedBy words r
fault_explained c words e r shape has h = invocation_explained words (fault_of (app_of c) words) e r (ap (λ (a : App). fault_of a words) shape) has h

-- ---- no words

-- the words are accepted, and ask for this FILE, these options and this PATH
record Asks (words : List Text) (file : Option Text) (options : Options) (save : Option Text) : Type 0 where
  pub taken : faults_of words ≡ []
  pub file_is : file_word words ≡ file
  pub options_are : options_of words ≡ options
  pub save_is : save_path words ≡ save

-- no words ask for a run with the defaults
asks_bare : Asks [] None default_options None
unfolding clap_on_literals
asks_bare = record { taken = refl; file_is = refl; options_are = refl; save_is = refl }

-- an outcome that suits words which ask for a run is that run, or Memory
runs_of : (words : List Text) (file : Option Text) (options : Options) (save : Option Text) (r : Invocation) → Asks words file options save → IsAskedBy words r
    → IsRunOrMemory file options save r
runs_of words file options save (Run f o s) asks h = (h.file_is ∙ asks.file_is, h.options_are ∙ asks.options_are, h.save_is ∙ asks.save_is)
runs_of words file options save (Help text) asks h = subst (λ ks. IsAmong DisplayHelp ks) asks.taken h
runs_of words file options save (Refused text) asks h = subst (λ ks. IsAmong h.0 ks) asks.taken h.1
runs_of words file options save Memory asks h = tt

-- without words, the outcome is a run with the default options, or Memory
pub runs_without_words : (words : List Text) (r : Invocation) → words ≡ [] → IsAskedBy words r → IsRunOrMemory None default_options None r
runs_without_words words r empty h = runs_of [] None default_options None r asks_bare (subst (λ ws. IsAskedBy ws r) empty h)
