-- The areas that `list` makes, and its two answers,
-- in the form of the goals.
use Prim.Native.Nat.{ℕ, ◌+◌, ◌-◌, ◌*◌, ◌≤◌, ◌<◌}
use native.Mathlib.Omega.{arith}
use mathlib.Core.Path.{◌≡◌, refl, sym, ◌∙◌, ap}
use mathlib.Core.List.{List, [], ◌∷◌}
use lib.ListN.{length, take, replicate, length-append, length-replicate, replicate-append-replicate}
use lib.Seq.{take_at, length-take-le}
use borrow.Author.Tests.{lt-ltb}
use Rattle.base.specs.Lists.{written}
use Rattle.base.specs.Areas.{Wrote}
use Rattle.base.specs.Ascii.{ascii}
use Rattle.decimal.specs.Decimal.{decimal}
use Rattle.decimal.proofs.Laws.{decimal_short}
use Rattle.base.proofs.Areas.{written_length}
use Rattle.line_writers.specs.Lines.{refused_line}
use Rattle.listing_lines.specs.Listing.{listing_of, Counts}
use Rattle.listing_lines.specs.Ready.{Ready}
use Rattle.listing_lines.proofs.Bound.{listing_short}
use Rattle.records.specs.Widths.{item_width, group_width}

-- what `list` promises of an answer
pub said : (text before : List ℕ) {after : List ℕ} {r : ℕ} → 150000 ≤ length before → Wrote (listing_of text) before after r
    → (r ≡ length (listing_of text)) × (after ≡ written (listing_of text) before) × Counts r after
said text before {after} {r} h l =
    let e = l.count in
    let s = listing_short text in
    let w : length after ≡ length before = ap length l.area ∙ written_length (listing_of text) before (omega arith) in
    let f : r ≤ length after = omega arith in
    (l.count, l.area, (f, sym (length-take-le r after f)))

-- the first of some zeros
zeros_take : (n m : ℕ) → take {A = ℕ} n (replicate (n + m) 0) ≡ replicate n 0
zeros_take n m =
    ap (take n) (sym (replicate-append-replicate n m 0)) ∙ take_at (replicate n 0) (replicate m 0) n (length-replicate n 0)

zeros_cut : (n m : ℕ) (a : List ℕ) → a ≡ replicate m 0 → n ≤ m → take n a ≡ replicate n 0
zeros_cut n m a e h = let p : n + (m - n) ≡ m = omega arith in rw (e, ← p) (zeros_take n (m - n))

-- a text above 4,096 bytes
pub long_room : (out : List ℕ) → 150000 ≤ length out → length (refused_line 1) ≤ length out
unfolding refused_line ascii
long_room out h = let d = decimal_short 1 in let e = length-append (decimal 1) (10 ∷ []) in simp length-append (omega arith)

pub long_is : (text : List ℕ) → 4096 < length text → listing_of text ≡ refused_line 1
unfolding listing_of
long_is text h = rw (lt-ltb 4096 (length text) h) refl

-- any other text
pub all_ready : (text index items groups references labels out : List ℕ) → length text ≤ 4096 → index ≡ replicate 4096 0 → items ≡ replicate (item_width * 4096) 0
    → groups ≡ replicate (group_width * 4096) 0 → references ≡ replicate 4096 0 → labels ≡ replicate (5 * 4096) 0 → 150000 ≤ length out
    → Ready text (take (length text) index) (take (item_width * length text) items) (take (group_width * length text) groups) (take (length text) references)
    (take (5 * length text) labels) out
all_ready text index items groups references labels out h a b c d e r = record {
  short = h;
  index_area = zeros_cut (length text) 4096 index a h;
  item_area = zeros_cut (item_width * length text) (item_width * 4096) items b (omega arith);
  group_area = zeros_cut (group_width * length text) (group_width * 4096) groups c (omega arith);
  reference_area = zeros_cut (length text) 4096 references d h;
  label_area = zeros_cut (5 * length text) (5 * 4096) labels e (omega arith);
  room = let l = listing_short text in omega arith;
}
