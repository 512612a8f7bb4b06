-- Reading operations one after another, as a loop does.
use Rattle.std.proofs.Common.{◌≡◌, ℕ, ◌<◌, Bool, true, false, cond, List, [], ◌∷◌, ◌++◌, length, Option, Some, None, refl, ap, codes, arith}
use Rattle.std.specs.Option.{option_map}
use Rattle.std.specs.Str.{bytes_eq}
use Rattle.frames.specs.declared.types.Op.{Op}
use Rattle.frames.specs.declared.types.Op.TheVariants.{Write, Read}
use Rattle.words.specs.Words.{is_end}
use Rattle.words.specs.Options.{◌>>=◌}
use Rattle.words.specs.Numbers.{number}
use Rattle.question_file.specs.Lines.{next_operation, after_operation, operations_from}

-- the operations after one that is `r` (`is_read`), or `w` (`is_write`) and the value `v`, given
-- the words `others` after its first word and `left` after its second
abbrev rest_of : List Op → List (List ℕ) → List (List ℕ) → Bool → Bool → Option ℕ → Option (List Op)
rest_of front others left is_read is_write v =
    cond is_read (operations_from (front ++ Read ∷ []) others) (cond is_write (v >>= λ n. operations_from (front ++ Write n ∷ []) left) None)

-- the first operation, which `rest_of` adds
abbrev op_of : Bool → Bool → Option ℕ → Option Op
op_of is_read is_write v = cond is_read (Some Read) (cond is_write (option_map (λ n. Write n) v) None)

module _ (front : List Op) (others left : List (List ℕ)) where
  -- `rest_of` goes on after the first operation, if `op_of` gives one
  rest_with_op : (r w : Bool) (v : Option ℕ) (o : Op) → op_of r w v ≡ Some o → rest_of front others left r w v ≡ operations_from (front ++ o ∷ []) (cond r others left)
  rest_with_op true w v o e = let same : Read ≡ o = cc in ap (λ (x : Op). operations_from (front ++ x ∷ []) others) same
  rest_with_op false true (Some n) o e = let same : Write n ≡ o = cc in ap (λ (x : Op). operations_from (front ++ x ∷ []) left) same
  rest_with_op false true None o e = absurd cc
  rest_with_op false false v o e = absurd cc

  -- `rest_of` fails if `op_of` gives no operation
  rest_without_op : (r w : Bool) (v : Option ℕ) → op_of r w v ≡ None → rest_of front others left r w v ≡ None
  rest_without_op true w v e = absurd cc
  rest_without_op false true (Some n) e = absurd cc
  rest_without_op false true None e = refl
  rest_without_op false false v e = refl

-- if the words begin with operation o, they spell o and then what the words after it spell
pub operation_read : (front : List Op) (ws : List (List ℕ)) (o : Op) → is_end ws ≡ false → next_operation ws ≡ Some o
    → operations_from front ws ≡ operations_from (front ++ o ∷ []) (after_operation ws)
unfolding operations_from
operation_read front [] o some e = absurd cc
operation_read front (w ∷ []) o some e = by (bytes_eq w (codes "r")) (bytes_eq w (codes "w")) e
  where
    by : (r x : Bool) → cond r (Some Read) (cond x None None) ≡ Some o → cond r (Some (front ++ Read ∷ [])) None ≡ operations_from (front ++ o ∷ []) (cond r [] [])
    by true x e = let same : Read ≡ o = cc in ap (λ (x : Op). Some (front ++ x ∷ [])) same
    by false true e = absurd cc
    by false false e = absurd cc
operation_read front (w ∷ v ∷ ws) o some e = rest_with_op front (v ∷ ws) ws (bytes_eq w (codes "r")) (bytes_eq w (codes "w")) (number v) o e

-- words that begin with no operation spell none
pub no_operation_read : (front : List Op) (ws : List (List ℕ)) → is_end ws ≡ false → next_operation ws ≡ None → operations_from front ws ≡ None
unfolding operations_from
no_operation_read front [] some e = absurd cc
no_operation_read front (w ∷ []) some e = by (bytes_eq w (codes "r")) (bytes_eq w (codes "w")) e
  where
    by : (r x : Bool) → cond r (Some Read) (cond x None None) ≡ None → cond r (Some (front ++ Read ∷ [])) None ≡ None
    by true x e = absurd cc
    by false x e = refl
no_operation_read front (w ∷ v ∷ ws) some e = rest_without_op front (v ∷ ws) ws (bytes_eq w (codes "r")) (bytes_eq w (codes "w")) (number v) e

-- if no words are left, no operations follow those at the front
pub no_words_left : (front : List Op) (ws : List (List ℕ)) → is_end ws ≡ true → operations_from front ws ≡ Some front
unfolding operations_from
no_words_left front [] e = refl
no_words_left front (w ∷ ws) e = absurd cc

-- of two lists that are shorter than n, either one is
either_shorter : (r : Bool) (xs ys : List (List ℕ)) (n : ℕ) → length xs < n → length ys < n → length (cond r xs ys) < n
either_shorter true xs ys n x y = x
either_shorter false xs ys n x y = y

-- an operation takes at least one word
pub fewer_words : (ws : List (List ℕ)) → is_end ws ≡ false → length (after_operation ws) < length ws
fewer_words [] some = absurd cc
fewer_words (w ∷ []) some = either_shorter (bytes_eq w (codes "r")) [] [] 1 (omega arith) (omega arith)
fewer_words (w ∷ v ∷ ws) some = either_shorter (bytes_eq w (codes "r")) (v ∷ ws) ws (length (w ∷ v ∷ ws)) (omega arith) (omega arith)
