-- Document 01, Added by design: the order of bytes,
-- and reference order by it (the sort in `render_refs_list`).
use Rattle.std.specs.Prelude.{ℕ, zero, suc, ◌+◌, List, [], ◌∷◌, Bool, true, false, eqb, ltb}
use Rattle.std.proofs.Math.Option.{Option, get_or}
use Rattle.base.specs.Pick.{pick}
use Rattle.base.specs.Lists.{up_from}
use Rattle.definition.specs.Defs.{Def, def_author}

-- bytes in their order: the first that differs decides, and a front comes before what is longer
unfoldable pub less : List ℕ → List ℕ → Bool
less [] [] = false
less [] (y ∷ ys) = true
less (x ∷ xs) [] = false
less (x ∷ xs) (y ∷ ys) = pick (ltb x y) true (pick (eqb x y) (less xs ys) false)

-- "by author bytes, or by key where no author is given": the rank of a source, by its definition and its key
abbrev pub author_or : Option Def → List ℕ → List ℕ
author_or d key = get_or (def_author d) key

-- In what follows `rank` gives the rank of the source that has a number.

-- one more number, into those in order: before the first with a greater rank. In reference order it is the highest so far, so that "equal
-- ones" come "by number".
unfoldable pub insert_by : (ℕ → List ℕ) → List ℕ → ℕ → List ℕ
insert_by rank [] k = k ∷ []
insert_by rank (q ∷ qs) k = pick (less (rank k) (rank q)) (k ∷ q ∷ qs) (q ∷ insert_by rank qs k)

-- the `count` numbers from `k` on, one after the other, into those in order
unfoldable pub inserted_from : (ℕ → List ℕ) → ℕ → List ℕ → ℕ → List ℕ
inserted_from rank zero l k = l
inserted_from rank (suc count) l k = inserted_from rank count (insert_by rank l k) (k + 1)

-- "Reference order": the numbers of `count` sources, "mode 0 by number; mode 1 by" rank, "equal ones by number"
unfoldable pub reference_order : ℕ → (ℕ → List ℕ) → ℕ → List ℕ
reference_order mode rank count = pick (eqb mode 0) (up_from 1 count) (inserted_from rank count [] 1)
