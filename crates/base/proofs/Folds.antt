-- A fold over two lists, one after the other,
-- is the fold over both as one list.
use mathlib.Core.Path.{◌≡◌, refl}
use mathlib.Core.List.{List, [], ◌∷◌, ◌++◌}
use Rattle.base.specs.Fold.{fold}

pub fold_append : {S A : Type 0} (f : S → A → S) (s : S) (a b : List A) → fold f s (a ++ b) ≡ fold f (fold f s a) b
unfolding fold
fold_append f s [] b = refl
fold_append f s (x ∷ xs) b = fold_append f (f s x) xs b
