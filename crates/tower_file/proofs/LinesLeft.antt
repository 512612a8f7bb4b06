-- How many lines are left after one is read.
use Rattle.std.proofs.Common.{◌≡◌, ℕ, ◌<◌, true, false, List, [], ◌∷◌, length, Some, Ok, true≢false, arith, ◌≤◌}
use Rattle.tower_file.specs.declared.tower.TowerSpec.{TowerSpec}
use Rattle.tower_file.specs.Reading.{next_step}
use Rattle.words.specs.Words.{after_next, is_end}
use Rattle.frames.specs.declared.types.Step.{Step}
use Rattle.tower_file.specs.declared.version.Version.{Version}

-- after a line is read, at most as many lines are left as before
pub no_more_after_line : (ls : List (List ℕ)) → length (after_next ls) ≤ length ls
no_more_after_line [] = omega arith
no_more_after_line (x ∷ xs) = omega arith

-- after a line that has its line end, and so isn't the last, fewer are left
pub fewer_after_line : (ls : List (List ℕ)) → is_end (after_next ls) ≡ false → length (after_next ls) < length ls
fewer_after_line [] h = absurd (true≢false h)
fewer_after_line (x ∷ xs) h = omega arith

-- if the next line has a step, fewer lines are left after it
pub fewer_after_step : (v : Version) (t : TowerSpec) (n : ℕ) (ls : List (List ℕ)) (s : Step) → next_step v t n ls ≡ Ok (Some s) → length (after_next ls) < length ls
fewer_after_step v t n [] s e = absurd cc
fewer_after_step v t n (l ∷ ls) s e = omega arith
