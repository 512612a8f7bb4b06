-- How the program ends, given how its parts end.
use Rattle.std.proofs.Common.{◌≡◌, ◌⊎◌, Bor, Bool, true, List, ℕ, Option, Some, None, Result, Ok, Err, OnOk, inl, inr, refl, sym, subst}
use Rattle.std.specs.Prelude.{⊤, IfErr, option_map}
use Rattle.std.specs.Option.{is_some}
use Rattle.clap.specs.Words.{Text}
use Rattle.schedule_trie.specs.declared.limits.Limits.{Limits}
use Rattle.command_line.specs.declared.options.Options.{Options}
use Rattle.command_line.specs.Ranges.{limits_of}
use Rattle.towerbench.specs.declared.fault.ProgramFault.{ProgramFault}
use Rattle.towerbench.specs.declared.fault.ProgramFault.TheVariants.{Source, Run, Help, Memory}
use Rattle.towerbench.specs.declared.ending.Ending.{Ending}
use Rattle.towerbench.specs.declared.ending.Ending.TheVariants.{Done, Refused, Faulted}
use Rattle.conversation.specs.Streams.{Streams}
use Rattle.command_line.specs.CommandLine.{Says, AsksHelp}
use Rattle.tower_file.specs.Benches.{Bench}
use Rattle.towerbench.specs.declared.fault.Fault.{Fault}
use Rattle.towerbench.specs.declared.fault.Fault.TheVariants as fault
use Rattle.towerbench.specs.BenchSources.{opened_bench}
use Rattle.towerbench.specs.RunEndings.{IsDone}
use Rattle.towerbench.specs.Endings.{ending_of, FailsBy, IsFaultBeforeBench, WorksOut, RunsBy, IsPrinted, ProgramEndsBy}

-- there is a text of a path exactly if there is a path
is_named : (o : Option (Bor Text)) → is_some (option_map (λ p. p.now) o) ≡ is_some o
is_named None = refl
is_named (Some p) = refl

module _ (before after : Streams) where
  module _ (saves : Bool) (bytes : Option (List ℕ)) (limits : Limits) (b : Bench) (is : opened_bench bytes ≡ Ok b) where
    module _ (named : Bool) (read : is_some bytes ≡ named) where
      -- after a run with this result, the program ends as `WorksOut` says
      pub ends_after_run : (r : Result ⊤ Fault) (ending : Ending) → ending ≡ ending_of r → OnOk r (IsDone limits b before after)
          → IfErr r (FailsBy saves bytes limits before after) → WorksOut named limits saves before after ending
      ends_after_run (Ok done) ending e h f = subst (WorksOut named limits saves before after) (sym e) (bytes, read, (b, (is, h)))
      ends_after_run (Err x) ending e h f = subst (WorksOut named limits saves before after) (sym e) (bytes, read, f)

      -- the same after a run that ended well, and a save with this result
      pub ends_after_save : (r : Result ⊤ Fault) (ending : Ending) → ending ≡ ending_of r → saves ≡ true → IsDone limits b before after
          → IfErr r (λ x. (x ≡ fault.Save) ⊎ (x ≡ fault.Memory)) → WorksOut named limits saves before after ending
      ends_after_save (Ok done) ending e s h f = subst (WorksOut named limits saves before after) (sym e) (bytes, read, (b, (is, h)))
      ends_after_save (Err x) ending e s h (inl f) =
          subst (WorksOut named limits saves before after) (sym e)
          (bytes, read, inr (f, s, (b, (is, h))))
      ends_after_save (Err x) ending e s h (inr f) =
          subst (WorksOut named limits saves before after) (sym e)
          (bytes, read, inl (inr (b, (is, inr (inr (f, s, h))))))

  module _ (words : List Text) where
    -- how the program ends if the words ask for a run, which ended in this way
    runs_by_words : (ending : Ending) (file : Option (Bor Text)) (options : Options) (save : Option (Bor Text)) → Says words (option_map (λ p. p.now) file) options (option_map (λ p. p.now) save)
        → WorksOut (is_some file) (limits_of options) (is_some save) before after ending → RunsBy words before after ending
    runs_by_words ending file options save says h = (
      option_map (λ p. p.now) file,
      (
        options,
        (
          option_map (λ p. p.now) save,
          (
            says,
            subst (λ (b : Bool). WorksOut b (limits_of options) (is_some (option_map (λ p. p.now) save)) before after ending) (sym (is_named file))
                (subst (λ (b : Bool). WorksOut (is_some file) (limits_of options) b before after ending) (sym (is_named save)) h),
          ),
        ),
      ),
    )

    -- the same of the program, of which only some endings are those of a run
    pub ends_by_words : (ending : Ending) (file : Option (Bor Text)) (options : Options) (save : Option (Bor Text)) → Says words (option_map (λ p. p.now) file) options (option_map (λ p. p.now) save)
        → WorksOut (is_some file) (limits_of options) (is_some save) before after ending → ProgramEndsBy words before after ending
    ends_by_words Done file options save says h = inr (runs_by_words Done file options save says h)
    ends_by_words (Refused text) file options save says h = absurd h
    ends_by_words (Faulted (Source x)) file options save says h = runs_by_words (Faulted (Source x)) file options save says h
    ends_by_words (Faulted (Run x)) file options save says h = runs_by_words (Faulted (Run x)) file options save says h
    ends_by_words (Faulted Help) file options save says h = absurd h
    ends_by_words (Faulted Memory) file options save says h = absurd h

    -- how the program ends if the words ask for the help, whose printing ended in this way
    pub ends_after_help : (ending : Ending) → AsksHelp words → after.unread ≡ before.unread → IsPrinted before.written after.written ending → ProgramEndsBy words before after ending
    ends_after_help Done asks e h = inl (asks, e, h)
    ends_after_help (Refused text) asks e h = absurd h
    ends_after_help (Faulted (Source x)) asks e h = absurd h
    ends_after_help (Faulted (Run x)) asks e h = absurd h
    ends_after_help (Faulted Help) asks e h = (asks, e, h)
    ends_after_help (Faulted Memory) asks e h = absurd h

-- how the program ends if there are no branches to work on
pub ends_before_bench : (named saves : Bool) (limits : Limits) (before : Streams) (x : ProgramFault) → IsFaultBeforeBench named x
    → WorksOut named limits saves before before (Faulted x)
ends_before_bench named saves limits before (Source e) h = (h, refl)
ends_before_bench named saves limits before (Run e) h = (h.0, h.1, inl (inl (h.2, refl)))
ends_before_bench named saves limits before Help h = absurd h
ends_before_bench named saves limits before Memory h = absurd h
