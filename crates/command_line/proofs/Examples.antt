-- Definitions that claim that something exists: an example of each, and a near miss.
use Rattle.std.proofs.Common.{◌≡◌, [], ◌∷◌, codes, refl, inl, ⊎_elim}
use Rattle.clap.specs.Faults.{walk_fault}
use Rattle.clap.specs.declared.error.kind.ErrorKind.TheVariants.{DisplayHelp, UnknownArgument}
use Rattle.command_line.specs.CommandLine.{IsWrong}

-- there is no option of this name
IsWrong-holds : IsWrong (codes "--colour" ∷ [])
unfolding walk_fault
IsWrong-holds = (UnknownArgument, inl refl, no_help)
  where
    no_help : UnknownArgument ≡ DisplayHelp → ⊥
    no_help e = cc

-- the help is asked for
IsWrong-fails : IsWrong (codes "--help" ∷ []) → ⊥
unfolding walk_fault
IsWrong-fails h = ⊎_elim (λ help. h.2 help) (λ none. none) h.1
