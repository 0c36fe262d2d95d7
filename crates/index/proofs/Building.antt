-- A build: what is known holds at the start and after every turn,
-- so that a turn can be taken and the areas are right at the end.
use Prim.Native.Nat.{ℕ, zero, suc, ◌+◌, ◌-◌, ◌≤◌, ◌<◌}
use native.Mathlib.Omega.{arith}
use mathlib.Core.Path.{◌≡◌, refl, sym, ◌∙◌, ap, ap₂, subst}
use mathlib.Core.List.{List, ◌++◌}
use mathlib.Core.Logic.{inl, inr, ⊎_elim}
use mathlib.Core.Bool.{true, ◌&&◌, not}
use lib.ListN.{length, get_or, take, drop, replicate, length-set, length-replicate, get_or-replicate, get_or-append}
use lib.Seq.{length-take-le, get_or-set_same, get_or-set_other, get_or-append-add, get_or-drop, ext_get_or}
use lib.Dec.{eqb, ltb}
use borrow.Author.Tests.{eqb-true, eqb-false, ltb-true, ltb-false}
use Rattle.base.specs.Lists.{byte_at, written}
use Rattle.base.proofs.Bools.{and_right, split}
use Rattle.base.proofs.Areas.{written_length}
use Rattle.close.proofs.Laws.{ended}
use Rattle.index.specs.declared.Bracket.{Bracket}
use Rattle.index.specs.declared.Scan.{Scan}
use Rattle.index.specs.Entries.{index_at, index_of}
use Rattle.index.specs.Built.{blank, built_index, built_records}
use Rattle.index.specs.Building.{Both, built}
use Rattle.index.specs.Scan.{first_reads, start, closes, scan_plan, step_index, step_records}
use Rattle.index.specs.Passing.{is_ordinary, ordinary_end, passing, skipped, turn_of, turn_at, unread, Fine, filled}
use Rattle.index.proofs.Laws.{plan_cases, plan_at, plan_slot}
use Rattle.index.proofs.Reading.{reads_at}
use Rattle.index.proofs.Marks.{bad_at, bad_by}
use Rattle.index.proofs.Stack.{Stack, stack_end}
use Rattle.index.proofs.Turns.{Area, Settled, KnownAt, byte_on, pass_on, entry_open}
use Rattle.index.proofs.Passing.{ordinary_from, ordinary_by, ordinary_before}
use Rattle.index.proofs.Built.{length_index, at_index}

-- areas -----------------------------------------------------------------------------------------------------------------------------

module _ {A : Type 0} (x d : A) where
  pub length_filled : (n : ℕ) (area : List A) → length (filled x n area) ≡ length area
  unfolding filled
  length_filled zero area = refl
  length_filled (suc n) area = length-set (filled x n area) n x ∙ length_filled n area

  filled_in : (n : ℕ) (area : List A) (p : ℕ) → p < n → n ≤ length area → get_or (filled x n area) p d ≡ x
  unfolding filled
  filled_in zero area p h l = absurd (omega arith)
  filled_in (suc n) area p h l =
      let e = length_filled n area in
      ⊎_elim (λ q. rw (eqb-true p n q) (get_or-set_same (filled x n area) n x d (omega arith)))
      (λ q. let ne = eqb-false p n q in get_or-set_other (filled x n area) n p x d ne ∙ filled_in n area p (omega arith) (omega arith))
      (split (eqb p n))

  filled_out : (n : ℕ) (area : List A) (p : ℕ) → n ≤ p → get_or (filled x n area) p d ≡ get_or area p d
  unfolding filled
  filled_out zero area p h = refl
  filled_out (suc n) area p h = get_or-set_other (filled x n area) n p x d (omega arith) ∙ filled_out n area p (omega arith)

written_is : {A : Type 0} (d : A) (out area new : List A) → length out ≤ length area → Area A (length out) d area new
    → ((p : ℕ) → p < length out → get_or new p d ≡ get_or out p d) → new ≡ written out area
unfolding written
written_is d out area new f a g =
    ext_get_or d new (out ++ drop (length out) area) (a.long ∙ sym sum) (λ p l. ⊎_elim (λ q. front p (ltb-true p (length out) q)) (λ q. behind p (ltb-false p (length out) q)) (split (ltb p (length out))))
  where
    sum : length (out ++ drop (length out) area) ≡ length area
    sum = written_length out area f

    front : (p : ℕ) → p < length out → get_or new p d ≡ get_or (out ++ drop (length out) area) p d
    front p l = g p l ∙ sym (get_or-append out (drop (length out) area) d p l)

    behind : (p : ℕ) → length out ≤ p → get_or new p d ≡ get_or (out ++ drop (length out) area) p d
    behind p l =
        let q = p - length out in
        let e : length out + q ≡ p = omega arith in
        a.beyond p l
        ∙ sym (subst (λ (n : ℕ). get_or (out ++ drop (length out) area) n d ≡ get_or area n d) e
        (get_or-append-add out (drop (length out) area) q d ∙ get_or-drop (length out) area q d))

-- as `fill` leaves an area whose first `n` places were lent to it
module _ {A : Type 0} (x : A) where
  filled_written : (n : ℕ) (area : List A) → n ≤ length area → filled x n area ≡ written (replicate n x) area
  filled_written n area h =
      let lr = length-replicate n x in
      let f = length_filled x x n area in
      written_is x (replicate n x) area (filled x n area) (omega (arith, lr)) (rw lr (record { long = f; beyond = λ v l. filled_out x x n area v l }))
      (λ p l. let k : p < n = omega (arith, lr) in filled_in x x n area p k h ∙ sym (get_or-replicate n p x x k))

  pub fill_front : (n : ℕ) (area : List A) {front : List A} → n ≤ length area → front ≡ replicate (length (take n area)) x → front ++ drop n area ≡ filled x n area
  unfolding written
  fill_front n area h e = sym (filled_written n area h ∙ rw (e, length-take-le n area h, length-replicate n x) refl)

-- places ----------------------------------------------------------------------------------------------------------------------------

passing_at : (n : ℕ) (s : List ℕ) (c : Scan) → (passing n s c).at ≡ c.at + n
unfolding passing
passing_at zero s c = omega arith
passing_at (suc n) s c = ap (λ (k : ℕ). k + 1) (passing_at n s c) ∙ (let e : c.at + n + 1 ≡ c.at + suc n = omega arith in e)

-- a turn goes on
pub turn_far : (s : List ℕ) (c : Scan) (records : List Bracket) → c.at < (turn_at s c records).next.at
unfolding turn_at turn_of skipped
turn_far s c records =
    let outer = get_or records (c.depth - 1) blank in
    let n = (scan_plan s c outer).next in
    omega (arith, plan_at s c outer, passing_at (ordinary_end s n.at - n.at) s n)

-- turns -----------------------------------------------------------------------------------------------------------------------------

module _ (s index₀ : List ℕ) (records₀ : List Bracket) (fi : length s ≤ length index₀) (fr : length s ≤ length records₀) where
  pub build_start : KnownAt s index₀ records₀ fi fr start (filled 0 (length s) index₀) records₀
  unfolding start first_reads reads_at bad_at
  build_start = record {
    within = omega arith;
    deep = omega arith;
    reads = refl;
    count = refl;
    stack = tt;
    settled = λ p l. absurd (omega arith);
    clear = λ p l k. filled_in 0 0 (length s) index₀ p k fi;
    indexed = record { long = length_filled 0 0 (length s) index₀; beyond = λ v l. filled_out 0 0 (length s) index₀ v l };
    recorded = record { long = refl; beyond = λ v l. refl };
  }

  module _ (c : Scan) (index : List ℕ) (records : List Bracket) (w : KnownAt s index₀ records₀ fi fr c index records) where
    passes : (n : ℕ) → c.at + n ≤ length s → ((v : ℕ) → c.at ≤ v → v < c.at + n → is_ordinary (byte_at s v) ≡ true)
        → KnownAt s index₀ records₀ fi fr (passing n s c) index records
    unfolding passing
    passes zero h p = w
    passes (suc n) h p =
        let e = passing_at n s c in
        pass_on s index₀ records₀ fi fr (passing n s c) index records (omega arith) (p (passing n s c).at (omega arith) (omega arith))
        (passes n (omega arith) (λ v l k. p v l (omega arith)))

    skips : KnownAt s index₀ records₀ fi fr (skipped s c) index records
    unfolding skipped
    skips =
        let f = ordinary_from s c.at in
        let b = ordinary_by s c.at w.within in
        passes (ordinary_end s c.at - c.at) (omega arith) (λ v l k. ordinary_before s c.at v l (omega arith))

  module _ (c : Scan) (index : List ℕ) (records : List Bracket) (w : KnownAt s index₀ records₀ fi fr c index records) where
    pub build_turn : c.at < length s
        → KnownAt s index₀ records₀ fi fr (turn_at s c records).next (step_index (turn_at s c records) index) (step_records (turn_at s c records) records)
    unfolding turn_at turn_of step_index step_records
    build_turn h = skips _ _ _ (byte_on s index₀ records₀ fi fr c index records h w)

    -- what a turn asks for, and the places that it touches
    pub fine : unread s c ≡ true → length s ≤ 65535 → Fine s c
    fine m l = record { short = l; goes = m; deep = w.deep; few = omega (arith, w.count, bad_by s c.at) }

    pub read_in : c.at < length s → c.depth - 1 < length records
    read_in h = let l = w.recorded.long in let d = w.deep in omega arith

    pub slot_in : c.at < length s → (turn_at s c records).slot < length records
    unfolding turn_at turn_of
    slot_in h =
        let l = w.recorded.long in
        let d = w.deep in
        omega (arith, plan_slot s c (get_or records (c.depth - 1) blank))

    pub place_in : c.at < length s → (turn_at s c records).place < length s
    unfolding turn_at turn_of closes
    place_in h = plan_cases s c (get_or records (c.depth - 1) blank) (λ p. p.place < length s) (λ o. h) (λ o x. closed x) (λ o x t. h) (λ o x t. h)
      where
        inner : (d : ℕ) → 0 < d → Stack s c.at d records c.inner → c.inner.place < length s
        inner zero l t = absurd (omega arith)
        inner (suc d) l t = let b = t.0.before in omega arith

        closed : closes s c ≡ true → c.inner.place < length s
        closed q = inner c.depth (ltb-true 0 c.depth (and_right (eqb (byte_at s c.at) 93 && not c.reads.esc) _ q)) w.stack

    -- at the text's end a bracket that is still open has no close
    pub build_end : length s ≤ c.at → ◌≡◌ {A = Both} (index, filled blank (length s) records) (built s index₀ records₀)
    unfolding built_index built_records
    build_end h = ap₂ (λ (x : List ℕ) (y : List Bracket). (x, y)) first second
      where
        right : (p : ℕ) → Settled s c.depth records c.inner index p → get_or index p 0 ≡ index_at s p
        right p (inl x) = x
        right p (inr x) =
            x.1 ∙ sym (entry_open s p (stack_end s c.at c.depth records c.inner (ended s c.at (length s) _ h) w.stack p x.0))

        lr : length (replicate (length s) blank) ≡ length s
        lr = length-replicate (length s) blank

        first : index ≡ written (index_of s) index₀
        first =
            let li = length_index s in
            written_is 0 (index_of s) index₀ index (omega arith) (rw li w.indexed)
            (λ p l. let k : p < length s = omega arith in right p (w.settled p (omega arith)) ∙ sym (at_index s p k))

        second : filled blank (length s) records ≡ written (replicate (length s) blank) records₀
        second =
            let a = w.recorded in
            let f = length_filled blank blank (length s) records in
            written_is blank (replicate (length s) blank) records₀ (filled blank (length s) records) (omega (arith, lr))
            (rw lr (record { long = f ∙ a.long; beyond = λ v l. filled_out blank blank (length s) records v l ∙ a.beyond v l }))
            (λ p l. let k : p < length s = omega (arith, lr) in let e = a.long in
            filled_in blank blank (length s) records p k (omega arith) ∙ sym (get_or-replicate (length s) p blank blank k))
