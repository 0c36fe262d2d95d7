-- The walk over the pieces of a group: one piece of it,
-- and the judgement that it makes.
use Prim.Native.Nat.{ℕ, zero, suc, ◌+◌, ◌-◌, ◌≤◌, ◌<◌}
use native.Mathlib.Omega.{arith}
use mathlib.Core.Path.{◌≡◌, sym, ◌∙◌, ap}
use mathlib.Core.List.{List, [], ◌∷◌}
use mathlib.Core.Bool.{Bool, true, false}
use lib.ListN.{length}
use Rattle.std.specs.Prelude.{Option, Some, None, Ok, Err}
use Rattle.base.specs.Pick.{pick}
use Rattle.base.specs.First.{first}
use Rattle.base.specs.Sorted.{Each}
use Rattle.item.specs.Items.{item_of, is_good}
use Rattle.item.specs.Pieces.{Stretch, stretch, semicolon_at, ends_piece, pieces_in, pieces, pieces_of, items_start, parsed}
use Rattle.item.specs.Judge.{judged_in, judged_of, bad_item_at}
use Rattle.item.specs.Walk.{pieces_after}
use Rattle.item.proofs.Pieces.{pieces_more, pieces_last, starts_by, starts_past}
use Rattle.item.proofs.Judge.{past, in_good, in_bad, past_next, past_none, past_all}

-- the piece from `a` to `q` is read off the front
module _ (s : List ℕ) (e : ℕ) {n m : Option ℕ} {a q : ℕ} (b : n ≡ Some a) (p : q ≡ first (semicolon_at s) (e - a) a) where
  pub walk_more : q < e → m ≡ Some (q + 1) → pieces_after s n e ≡ stretch a q ∷ pieces_after s m e
  walk_more h z = rw (b, z) (pieces_more s a e p h)

  pub walk_last : e ≤ q → m ≡ None → pieces_after s n e ≡ stretch a q ∷ pieces_after s m e
  walk_last h z = rw (b, z) (pieces_last s a e p h)

-- the pieces of a group end in the text, and are no more than its bytes
module _ (s : List ℕ) (hi : ℕ) where
  abbrev pub EndsBy : Stretch → Type 0
  EndsBy q = q.to ≤ hi

  ends_in : (n a i : ℕ) → i + n ≤ hi → Each EndsBy (pieces_in n s a i)
  unfolding pieces_in
  ends_in zero a i k = (omega arith, tt)
  ends_in (suc n) a i k = go (semicolon_at s i) (ends_in n (i + 1) (i + 1) (omega arith)) (ends_in n a (i + 1) (omega arith))
    where
      go : (t : Bool) → Each EndsBy (pieces_in n s (i + 1) (i + 1)) → Each EndsBy (pieces_in n s a (i + 1))
          → Each EndsBy (ends_piece t (stretch a i) (pieces_in n s (pick t (i + 1) a) (i + 1)))
      go true x y = (omega arith, x)
      go false x y = y

count_in : (s : List ℕ) (n a i : ℕ) → length (pieces_in n s a i) ≤ n + 1
unfolding pieces_in
count_in s zero a i = omega arith
count_in s (suc n) a i = go (semicolon_at s i) (count_in s n (i + 1) (i + 1)) (count_in s n a (i + 1))
  where
    go : (t : Bool) → length (pieces_in n s (i + 1) (i + 1)) ≤ n + 1 → length (pieces_in n s a (i + 1)) ≤ n + 1
        → length (ends_piece t (stretch a i) (pieces_in n s (pick t (i + 1) a) (i + 1))) ≤ suc n + 1
    go true x y = omega arith
    go false x y = omega arith

pub pieces_end : (s : List ℕ) (p c : ℕ) → p < c → c < length s → Each (EndsBy s (length s)) (pieces_of s p c)
unfolding pieces_of pieces
pieces_end s p c h k =
    let a = items_start s p in
    let b : a ≤ p + 2 = starts_by s p in
    ends_in s (length s) (c - a) a a (omega arith)

-- what the loop of the judgement keeps: `left` are the pieces that are left, after `n` good ones
pub record Judging (s : List ℕ) (p c n : ℕ) (left : List Stretch) : Type 0 where
  pub ends : Each (EndsBy s (length s)) left
  pub few : n + length left ≤ length s
  pub judges : judged_of s p c ≡ past n (judged_in s left)

pub judging_start : (s : List ℕ) (p c : ℕ) {left : List Stretch} → p < c → c < length s → left ≡ pieces_of s p c → Judging s p c 0 left
unfolding judged_of pieces_of pieces
judging_start s p c h k e =
    let a = items_start s p in
    let b : a ≤ p + 2 = starts_by s p in
    let d : 0 < a = starts_past s p in
    rw e
    record {
      ends = pieces_end s p c h k;
      few = omega (arith, count_in s (c - a) a a);
      judges = past_none _;
    }

module _ {s : List ℕ} {p c n : ℕ} {x : Stretch} {left rest : List Stretch} (j : Judging s p c n left) (e : left ≡ x ∷ rest) where
  pub judging_more : is_good (item_of s x.from x.to) ≡ true → Judging s p c (n + 1) rest
  unfolding parsed
  judging_more g = record {
    ends = (rw e at j.ends).1;
    few = (let z = rw e at j.few in omega arith);
    judges = (rw e at j.judges) ∙ rw (in_good s x rest g) (past_next n _);
  }

  pub judging_bad : is_good (item_of s x.from x.to) ≡ false → Err (bad_item_at n) ≡ judged_of s p c
  unfolding parsed past
  judging_bad g = sym ((rw e at j.judges) ∙ rw (in_bad s x rest g) (ap (λ (i : ℕ). Err (bad_item_at i)) (omega arith)))

pub judging_done : (s : List ℕ) (p c n : ℕ) (left : List Stretch) → Judging s p c n left → left ≡ [] → Ok n ≡ judged_of s p c
judging_done s p c n left j e = sym ((rw e at j.judges) ∙ past_all s n)
