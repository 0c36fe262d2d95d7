-- THEOREM `BracketTrue`: what an index and a note "as earlier calls on that text left them" give at a bracket
-- is what the unlimited scan gives there.
use Prim.Native.Nat.{ℕ, ◌-◌, ◌<◌}
use native.Mathlib.Nat.{zero-add}
use mathlib.Core.Path.{◌≡◌, refl, sym, ◌∙◌, ap}
use mathlib.Core.List.{List}
use mathlib.Core.Bool.{Bool, true, false, not}
use lib.ListN.{length, get_or, take}
use lib.Dec.{eqb, leb, ltb, leb-suc-zero}
use lib.Seq.{get_or-take}
use borrow.Author.Tests.{lt-ltb, eq-eqb, ltb-true, leb-true, eqb-true}
use Rattle.std.specs.Prelude.{Option, Some, None}
use Rattle.base.specs.Pick.{pick}
use Rattle.base.specs.Lists.{byte_at, is_at}
use Rattle.base.proofs.Bools.{and_left}
use Rattle.base.proofs.Ups.{up_at}
use Rattle.text.specs.Escape.{escaped_at}
use Rattle.close.specs.Scan.{close_of}
use Rattle.close.proofs.Laws.{close_after_lem, close_inside, close_byte, close_64, close_all}
use Rattle.index.specs.Entries.{opens_at, entry_for, index_at, index_of}
use Rattle.item.specs.Group.{good_items}
use Rattle.index.specs.Built.{built_index}
use Rattle.resolve.specs.Groups.{NoGroup, judge, group_at}
use Rattle.resolve.specs.declared.Look.TheVariants.{Known, Build}
use Rattle.resolve.specs.Resolve.{as_close, stored_close, short_look, shortened, look_of, close_after, close_as_run, group_as_run}
use Rattle.index.proofs.Built.{take_built}
use Rattle.resolve.specs.Facts.{BracketTrue}
use Rattle.resolve.proofs.Judges.{judge_nothing, judge_bad}

-- an unescaped `[` is in the text
pub opens_in : (s : List ℕ) (p : ℕ) → opens_at s p ≡ true → p < length s
unfolding opens_at
opens_in s p o = ltb-true p (length s) (and_left (ltb p (length s)) (eqb (byte_at s p) 91) (and_left (is_at s p 91) (not (escaped_at s p)) o))

-- the close that the unlimited scan finds is believed where an index has it: it lies after its bracket, in the text, at a `]`
believed : (s : List ℕ) (p c : ℕ) → close_of s p ≡ Some c → as_close s p c ≡ Some c
unfolding as_close
believed s p c e = rw (lt-ltb p c (close_after_lem s p c e), lt-ltb c (length s) (close_inside s p c e), eq-eqb (byte_at s c) 93 (close_byte s p c e))

-- 0 is no place after a bracket
zero_none : (s : List ℕ) (p : ℕ) → judge s p (as_close s p 0) ≡ NoGroup
unfolding as_close
zero_none s p = rw (leb-suc-zero p) (judge_nothing s p)

-- what the index of the text has for a bracket gives what the unlimited scan gives
by_entry : (s : List ℕ) (p : ℕ) (c : Option ℕ) → close_of s p ≡ c → judge s p (as_close s p (entry_for s p c)) ≡ judge s p c
unfolding entry_for
by_entry s p (Some c) e = go (good_items s p c) refl
  where
    go : (g : Bool) → good_items s p c ≡ g → judge s p (as_close s p (pick g c 0)) ≡ judge s p (Some c)
    go true q = ap (judge s p) (believed s p c e)
    go false q = zero_none s p ∙ sym (judge_bad s p c q)
by_entry s p None e = zero_none s p ∙ sym (judge_nothing s p)

by_index : (s : List ℕ) (p : ℕ) → opens_at s p ≡ true → judge s p (as_close s p (index_at s p)) ≡ judge s p (close_of s p)
unfolding index_at
by_index s p o = rw o (by_entry s p (close_of s p) refl)

entry_of : (s index : List ℕ) (p : ℕ) → take (length s) index ≡ index_of s → p < length s → get_or index p 0 ≡ index_at s p
unfolding index_of
entry_of s index p e h =
    sym (get_or-take (length s) index p 0 h) ∙ ap (λ (l : List ℕ). get_or l p 0) e ∙ up_at (index_at s) 0 (length s) p h
    ∙ ap (index_at s) (zero-add p)

-- with the index of the text, whatever comes after it
by_stored : (s index : List ℕ) (p : ℕ) → opens_at s p ≡ true → p < length s → take (length s) index ≡ index_of s
    → judge s p (stored_close s p index) ≡ judge s p (close_of s p)
unfolding stored_close
by_stored s index p o h e = ap (λ (v : ℕ). judge s p (as_close s p v)) (entry_of s index p e h) ∙ by_index s p o

-- a close that the short look sees is that of the unlimited scan; where it sees none, the whole text was seen, or the index is built
pub bracket_true : BracketTrue
unfolding group_as_run group_at close_as_run look_of shortened short_look close_after
bracket_true s p note index left len o = go (eqb note 1) refl
  where
    built : List ℕ
    built = built_index s index

    few : (b : Bool) → leb (length s - p) 64 ≡ b → short_look s p ≡ None
        → judge s p (close_after s p built (pick b (Known None) Build)) ≡ judge s p (close_of s p)
    few true q e = ap (judge s p) (sym e ∙ close_all s p 64 (leb-true (length s - p) 64 q))
    few false q e = by_stored s built p o (opens_in s p o) (take_built s index)

    short : (c : Option ℕ) → short_look s p ≡ c → judge s p (close_after s p built (shortened s p c)) ≡ judge s p (close_of s p)
    short (Some c) e = ap (judge s p) (sym (close_64 s p c e))
    short None e = few (leb (length s - p) 64) refl e

    go : (b : Bool) → eqb note 1 ≡ b
        → judge s p (close_after s p built (pick b (Known (stored_close s p index)) (shortened s p (short_look s p)))) ≡ judge s p (close_of s p)
    go true q = by_stored s index p o (opens_in s p o) (left (eqb-true note 1 q) len)
    go false q = short (short_look s p) refl
