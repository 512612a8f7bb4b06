-- A property holds of all items of two joined lists exactly if it holds of all items of each.
use Rattle.std.proofs.Common.{List, [], ◌∷◌, ◌++◌}
use Rattle.std.specs.List.{AllByRecursion}

pub all_left : {A : Type 0} (G : A → Type 0) (xs ys : List A) → AllByRecursion G (xs ++ ys) → AllByRecursion G xs
all_left G [] ys h = tt
all_left G (x ∷ xs) ys h = (h.0, all_left G xs ys h.1)

pub all_right : {A : Type 0} (G : A → Type 0) (xs ys : List A) → AllByRecursion G (xs ++ ys) → AllByRecursion G ys
all_right G [] ys h = h
all_right G (x ∷ xs) ys h = all_right G xs ys h.1

pub all_both : {A : Type 0} (G : A → Type 0) (xs ys : List A) → AllByRecursion G xs → AllByRecursion G ys → AllByRecursion G (xs ++ ys)
all_both G [] ys h k = k
all_both G (x ∷ xs) ys h k = (h.0, all_both G xs ys h.1 k)
