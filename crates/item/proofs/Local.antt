-- THEOREMS `ItemLocal` and `PiecesLocal`:
-- what an item is, it is by its own bytes.
use Prim.Native.Nat.{ℕ, zero, suc, ◌+◌, ◌-◌, ◌≤◌, ◌<◌}
use native.Mathlib.Omega.{arith}
use mathlib.Core.Path.{◌≡◌, refl, sym, ◌∙◌, ap}
use mathlib.Core.List.{List}
use mathlib.Core.Bool.{Bool, true, false, ◌&&◌, ◌||◌, not, true≢false}
use lib.ListN.{length}
use lib.Dec.{eqb, leb, ltb}
use borrow.Author.Tests.{eqb-true, eqb-false, ne_eqb, ltb-true, ltb-false, leb-true, leb-false}
use Rattle.std.specs.Prelude.{Some, None}
use Rattle.base.specs.Pick.{pick}
use Rattle.base.specs.Lists.{byte_at, part}
use Rattle.base.specs.First.{first}
use Rattle.base.specs.Sorted.{Each}
use Rattle.base.proofs.Bools.{both}
use Rattle.base.proofs.Parts.{byte_past, part_length, part_byte}
use Rattle.base.proofs.Lasts.{last_end_shift}
use Rattle.base.proofs.Searches.{first_from, first_by, first_near, first_far}
use Rattle.white.specs.White.{white_one, space_width, is_white}
use Rattle.white.proofs.Whites.{width_by, width_is, width_second, width_third, width_low, second_by}
use Rattle.white.proofs.Points.{width_by_lem, byte_white, white_at}
use Rattle.text.specs.Escape.{slashes, escaped_at}
use Rattle.text.specs.Trim.{trim_start, trim_end}
use Rattle.text.proofs.Trims.{start_by, end_by, end_shift}
use Rattle.key.specs.Keys.{is_first, is_mark, is_key, run_end, without_marks, key_end}
use Rattle.key.proofs.Laws.{key_out, key_not, key_yes, run_from, run_by}
use Rattle.item.specs.Items.{at_sign, key_serves, wins, winner, suppresses, prefix_end, locator_start, item_at, item_in, item_of}
use Rattle.item.specs.Moved.{moved_item, moved_parsed}
use Rattle.item.specs.Pieces.{stretch, semicolon_at, ends_piece, pieces_in, pieces, plus_at, items_start, pieces_of, parsed}
use Rattle.item.specs.Facts.{Before, Local, ItemLocal, PiecesLocal}
use Rattle.item.proofs.Groups.{start_in}
use Rattle.locator.proofs.Moved.{ltb_move, eqb_move, span_move, first_move, locator_move}

-- no backslash stands before `a`
no_slash : (s : List ℕ) (a : ℕ) → (0 < a → byte_at s (a - 1) ≡ 92 → ⊥) → slashes s a ≡ 0
unfolding slashes
no_slash s zero h = refl
no_slash s (suc b) h = let z : suc b - 1 ≡ b = omega arith in rw (ne_eqb (byte_at s b) 92 (λ q. h (omega arith) (rw z q))) refl

-- a white character that begins below 128 has one byte
low_by : (s : List ℕ) (i : ℕ) → byte_at s i < 128 → space_width s i ≤ 1
unfolding space_width
low_by s i h = go (white_one (byte_at s i)) refl
  where
    go : (t : Bool) → white_one (byte_at s i) ≡ t → space_width s i ≤ 1
    go true q = rw q (omega arith)
    go false q = omega (arith, width_low s i (omega arith) q)

module _ (s : List ℕ) (a e : ℕ) (l : a ≤ e) (h : e ≤ length s)
    (before : Before s a) (low : byte_at s e < 128) (stop : is_key (byte_at s e) ≡ false) where
  abbrev t : List ℕ
  t = part s a e

  abbrev n : ℕ
  n = e - a

  same : (j : ℕ) → j < n → byte_at t j ≡ byte_at s (j + a)
  same j q = let z : a + j ≡ j + a = omega arith in part_byte s a e l h j (omega arith) ∙ ap (byte_at s) z

  past : (j : ℕ) → n ≤ j → byte_at t j ≡ 0
  past j q = let k = part_length s a e l h in sym (byte_past t j (omega arith))

  -- the byte at the end, in the text and in the part
  at_end : (j : ℕ) → j ≡ e → byte_at s j < 128
  at_end j q = rw q low

  -- white space
  width_same : (j : ℕ) → j < n → space_width t j ≡ space_width s (j + a)
  width_same j q = rw (width_is t j, width_is s (j + a), same j q) (go (ltb (j + 1) n) (ltb (j + 2) n) refl refl)
    where
      z1 : j + a + 1 ≡ j + 1 + a
      z1 = omega arith

      z2 : j + a + 2 ≡ j + 2 + a
      z2 = omega arith

      go : (x y : Bool) → ltb (j + 1) n ≡ x → ltb (j + 2) n ≡ y
          → width_by (byte_at s (j + a)) (byte_at t (j + 1)) (byte_at t (j + 2)) ≡ width_by (byte_at s (j + a)) (byte_at s (j + a + 1)) (byte_at s (j + a + 2))
      go true true p r = rw (z1, z2, same (j + 1) (ltb-true (j + 1) n p), same (j + 2) (ltb-true (j + 2) n r)) refl
      go true false p r =
          let g = ltb-true (j + 1) n p in
          let f = ltb-false (j + 2) n r in
          let c = past (j + 2) f in
          let d = at_end (j + a + 2) (omega arith) in
          rw (z1, same (j + 1) g)
          (width_third (byte_at s (j + a)) (byte_at s (j + 1 + a)) (byte_at t (j + 2)) (omega arith)
          ∙ sym (width_third (byte_at s (j + a)) (byte_at s (j + 1 + a)) (byte_at s (j + a + 2)) d))
      go false y p r =
          let f = ltb-false (j + 1) n p in
          let c = past (j + 1) f in
          let d = at_end (j + a + 1) (omega arith) in
          width_second (byte_at s (j + a)) (byte_at t (j + 1)) (byte_at t (j + 2)) (omega arith)
          ∙ sym (width_second (byte_at s (j + a)) (byte_at s (j + a + 1)) (byte_at s (j + a + 2)) d)

  -- none that begins before the part goes into it
  apart : (i : ℕ) → i < a → i + space_width s i ≤ a
  apart i q = go (eqb (i + 1) a) (eqb (i + 2) a) refl refl
    where
      b : byte_at s (a - 1) < 128
      b = (before (omega arith)).0

      go : (x y : Bool) → eqb (i + 1) a ≡ x → eqb (i + 2) a ≡ y → i + space_width s i ≤ a
      go true y p r =
          let f = eqb-true (i + 1) a p in
          let z : a - 1 ≡ i = omega arith in
          omega (arith, low_by s i (rw z at b))
      go false true p r =
          let f = eqb-true (i + 2) a r in
          let z : a - 1 ≡ i + 1 = omega arith in
          omega (arith, second_by s i (rw z at b))
      go false false p r =
          let f = eqb-false (i + 1) a p in
          let g = eqb-false (i + 2) a r in
          omega (arith, width_by_lem s i)

  white_same : (j : ℕ) → j < n → is_white t j ≡ is_white s (j + a)
  white_same j q = both (is_white t j) (is_white s (j + a)) there back
    where
      there : is_white t j ≡ true → is_white s (j + a) ≡ true
      there w =
          let r = white_at t j w in
          let k = r.1 in
          let m = r.2 in
          let v = width_same r.0 (omega arith) in
          byte_white s (j + a) (r.0 + a) (omega arith) (omega arith)

      back : is_white s (j + a) ≡ true → is_white t j ≡ true
      back w = go (leb a (white_at s (j + a) w).0) refl
        where
          i : ℕ
          i = (white_at s (j + a) w).0

          go : (x : Bool) → leb a i ≡ x → is_white t j ≡ true
          go true p =
              let g = leb-true a i p in
              let k = (white_at s (j + a) w).1 in
              let m = (white_at s (j + a) w).2 in
              let z : i - a + a ≡ i = omega arith in
              let v : space_width t (i - a) ≡ space_width s i = width_same (i - a) (omega arith) ∙ ap (space_width s) z in
              byte_white t j (i - a) (omega arith) (omega arith)
          go false p =
              let g = leb-false a i p in
              let m = (white_at s (j + a) w).2 in
              absurd (omega (arith, apart i g))

  -- escapes
  slash_same : (j : ℕ) → j ≤ n → slashes s (j + a) ≡ slashes t j
  unfolding slashes
  slash_same zero q = let z : 0 + a ≡ a = omega arith in rw z (no_slash s a (λ p. (before p).1))
  slash_same (suc j) q =
      let z : suc j + a ≡ suc (j + a) = omega arith in
      rw (z, slash_same j (omega arith), same j (omega arith)) refl

  escaped_same : (j : ℕ) → j ≤ n → escaped_at s (j + a) ≡ escaped_at t j
  unfolding escaped_at
  escaped_same j q = rw (slash_same j q) refl

  -- keys: the laws to prove anew where the rule of keys changes
  run_stop : (m : ℕ) → first (λ j. not (is_key (byte_at s j))) m e ≡ e
  unfolding first
  run_stop zero = refl
  run_stop (suc m) = rw stop refl

  run_same : (x : ℕ) → x ≤ n → run_end s (x + a) ≡ run_end t x + a
  unfolding run_end
  run_same x q =
      let k = part_length s a e l h in
      let z : length s - (x + a) ≡ e - (x + a) + (length s - e) = omega arith in
      let y : n + a ≡ e = omega arith in
      rw (z, k) (go (ltb (first g (e - (x + a)) (x + a)) e) refl ∙ rw y at (first_move a f g n x n (omega arith) (λ j m. ap (λ b. not (is_key b)) (same j m))))
    where
      f : ℕ → Bool
      f = λ j. not (is_key (byte_at t j))

      g : ℕ → Bool
      g = λ j. not (is_key (byte_at s j))

      go : (b : Bool) → ltb (first g (e - (x + a)) (x + a)) e ≡ b → first g (e - (x + a) + (length s - e)) (x + a) ≡ first g (e - (x + a)) (x + a)
      go true p = let m = ltb-true (first g (e - (x + a)) (x + a)) e p in first_near g (e - (x + a)) (length s - e) (x + a) (omega arith)
      go false p =
          let m = ltb-false (first g (e - (x + a)) (x + a)) e p in
          let u = first_by g (e - (x + a)) (x + a) in
          let v : x + a + (e - (x + a)) ≡ e = omega arith in
          let w : first g (e - (x + a)) (x + a) ≡ e = omega arith in
          first_far g (e - (x + a)) (length s - e) (x + a) (omega arith) ∙ ap (first g (length s - e)) v ∙ run_stop (length s - e) ∙ sym w

  no_first : is_first (byte_at s e) ≡ false
  unfolding is_key
  no_first = go (is_first (byte_at s e)) (is_mark (byte_at s e)) stop
    where
      go : (x y : Bool) → x || y ≡ false → x ≡ false
      go true y p = p
      go false y p = refl

  without_same : (x y : ℕ) → x ≤ y → y ≤ n → without_marks s (x + a) (y + a) ≡ without_marks t x y + a
  unfolding without_marks
  without_same x y q r =
      let z : y + a - (x + a) ≡ y - x = omega arith in
      rw z (sym (last_end_shift (λ j. is_first (byte_at t j)) (λ j. is_first (byte_at s j)) a (y - x) x x (λ j m. ap is_first (same j (omega arith)))))

  key_same : (x : ℕ) → x ≤ n → key_end s (x + a) ≡ key_end t x + a
  key_same x q = go (ltb x n) refl
    where
      k : length t ≡ n
      k = part_length s a e l h

      in_part : x < n → (b : Bool) → is_first (byte_at t x) ≡ b → key_end s (x + a) ≡ key_end t x + a
      in_part p true r =
          let z : x + a + 1 ≡ x + 1 + a = omega arith in
          let from = run_from t x in
          let by = run_by t x (omega (arith, k)) in
          key_yes s (x + a) (omega arith) (sym (ap is_first (same x p)) ∙ r)
          ∙ ap (λ (m : ℕ). without_marks s (x + a) (run_end s m)) z
          ∙ ap (without_marks s (x + a)) (run_same (x + 1) (omega arith))
          ∙ without_same x (run_end t (x + 1)) (omega arith) (omega (arith, k))
          ∙ ap (λ (m : ℕ). m + a) (sym (key_yes t x (omega (arith, k)) r))
      in_part p false r =
          key_not s (x + a) (omega arith) (sym (ap is_first (same x p)) ∙ r)
          ∙ ap (λ (m : ℕ). m + a) (sym (key_not t x (omega (arith, k)) r))

      at_stop : (b : Bool) → ltb e (length s) ≡ b → key_end s e ≡ e
      at_stop true p = key_not s e (ltb-true e (length s) p) no_first
      at_stop false p = key_out s e (ltb-false e (length s) p)

      go : (b : Bool) → ltb x n ≡ b → key_end s (x + a) ≡ key_end t x + a
      go true p = in_part (ltb-true x n p) (is_first (byte_at t x)) refl
      go false p =
          let m = ltb-false x n p in
          let z : x + a ≡ e = omega arith in
          rw z (at_stop (ltb e (length s)) refl) ∙ sym z ∙ ap (λ (m : ℕ). m + a) (sym (key_out t x (omega (arith, k))))

  -- the item
  start_same : (x y : ℕ) → y ≤ n → trim_start s (x + a) (y + a) ≡ trim_start t x y + a
  unfolding trim_start
  start_same x y q = first_move a (λ i. not (is_white t i)) (λ i. not (is_white s i)) n x y q (λ z m. ap not (white_same z m))

  end_same : (x y : ℕ) → x ≤ y → y ≤ n → trim_end s (x + a) (y + a) ≡ trim_end t x y + a
  end_same x y q r = sym (end_shift s t a x y q (λ j m. white_same j (omega arith)))

  sign_same : (i : ℕ) → i < n → at_sign s (i + a) ≡ at_sign t i
  unfolding at_sign
  sign_same i q = rw (same i q, escaped_same i (omega arith)) refl

  serves_same : (y k m : ℕ) → y ≤ n → key_serves s (y + a) (k + a) (m + a) ≡ key_serves t y k m
  unfolding key_serves
  serves_same y k m q = rw (ltb_move a k m, eqb_move a m y, ltb_move a m y) (go (ltb m y) refl)
    where
      go : (b : Bool) → ltb m y ≡ b
          → ltb k m && (eqb m y || b && eqb (byte_at s (m + a)) 44) ≡ ltb k m && (eqb m y || b && eqb (byte_at t m) 44)
      go true p = let g = ltb-true m y p in rw (same m (omega arith)) refl
      go false p = refl

  wins_same : (y i : ℕ) → y ≤ n → i < n → wins t y i ≡ wins s (y + a) (i + a)
  unfolding wins
  wins_same y i q r =
      let z : i + a + 1 ≡ i + 1 + a = omega arith in
      rw (z, key_same (i + 1) (omega arith), serves_same y (i + 1) (key_end t (i + 1)) q, sign_same i r) refl

  winner_same : (x y : ℕ) → y ≤ n → winner s (x + a) (y + a) ≡ winner t x y + a
  unfolding winner
  winner_same x y q = first_move a (wins t y) (wins s (y + a)) n x y q (λ z m. wins_same y z q m)

  suppress_same : (x i : ℕ) → i ≤ n → suppresses s (x + a) (i + a) ≡ suppresses t x i
  unfolding suppresses
  suppress_same x i q = rw (ltb_move a x i) (go (ltb x i) refl)
    where
      go : (b : Bool) → ltb x i ≡ b
          → b && eqb (byte_at s (i + a - 1)) 45 && not (escaped_at s (i + a - 1)) ≡ b && eqb (byte_at t (i - 1)) 45 && not (escaped_at t (i - 1))
      go true p =
          let g = ltb-true x i p in
          let z : i + a - 1 ≡ i - 1 + a = omega arith in
          rw (z, same (i - 1) (omega arith), escaped_same (i - 1) (omega arith)) refl
      go false p = refl

  suppress_past : (x i : ℕ) → suppresses t x i ≡ true → x < i
  unfolding suppresses
  suppress_past x i p = go (ltb x i) refl p
    where
      go : (b : Bool) → ltb x i ≡ b → b && eqb (byte_at t (i - 1)) 45 && not (escaped_at t (i - 1)) ≡ true → x < i
      go true q r = ltb-true x i q
      go false q r = absurd (true≢false (sym r))

  prefix_same : (x i : ℕ) → x ≤ i → i ≤ n → prefix_end s (x + a) (i + a) ≡ prefix_end t x i + a
  unfolding prefix_end
  prefix_same x i q r = rw (suppress_same x i r) (go (suppresses t x i) refl)
    where
      go : (b : Bool) → suppresses t x i ≡ b → trim_end s (x + a) (pick b (i + a - 1) (i + a)) ≡ trim_end t x (pick b (i - 1) i) + a
      go true p =
          let g = suppress_past x i p in
          let z : i + a - 1 ≡ i - 1 + a = omega arith in
          rw z (end_same x (i - 1) (omega arith) (omega arith))
      go false p = end_same x i q r

  at_same : (x y i m : ℕ) → x ≤ i → i ≤ n → y ≤ n → item_at s (x + a) (y + a) (i + a) (m + a) ≡ moved_item a (item_at t x y i m)
  unfolding item_at locator_start
  at_same x y i m q r k =
      let z : m + a + 1 ≡ m + 1 + a = omega arith in
      let w : i + a + 1 ≡ i + 1 + a = omega arith in
      rw (
        z,
        w,
        prefix_same x i q r,
        suppress_same x i r,
        start_same (m + 1) y k,
        span_move a x (prefix_end t x i),
        span_move a (i + 1) m,
        span_move a (trim_start t (m + 1) y) y,
        locator_move s t a n same (trim_start t (m + 1) y) y k,
      ) refl

  winner_from : (x y : ℕ) → x ≤ winner t x y
  unfolding winner
  winner_from x y = first_from (wins t y) (y - x) x

  in_same : (x y : ℕ) → y ≤ n → item_in s (x + a) (y + a) ≡ moved_parsed a (item_in t x y)
  unfolding item_in
  in_same x y q = rw (winner_same x y q, ltb_move a (winner t x y) y) (go (ltb (winner t x y) y) refl)
    where
      go : (b : Bool) → ltb (winner t x y) y ≡ b
          → pick b (Some (item_at s (x + a) (y + a) (winner t x y + a) (key_end s (winner t x y + a + 1)))) None
          ≡ moved_parsed a (pick b (Some (item_at t x y (winner t x y) (key_end t (winner t x y + 1)))) None)
      go true p =
          let g = ltb-true (winner t x y) y p in
          let f = winner_from x y in
          let z : winner t x y + a + 1 ≡ winner t x y + 1 + a = omega arith in
          rw (z, key_same (winner t x y + 1) (omega arith), at_same x y (winner t x y) (key_end t (winner t x y + 1)) f (omega arith) q) refl
      go false p = refl

  local : item_of s a e ≡ moved_parsed a (item_of t 0 n)
  unfolding item_of
  local =
      let x = trim_start t 0 n in
      let u = start_by t 0 n in
      let v = end_by t x n in
      let z : a ≡ 0 + a = omega arith in
      let y : e ≡ n + a = omega arith in
      let p : trim_start s a e ≡ x + a = ap (λ (k : ℕ). trim_start s k e) z ∙ ap (λ (k : ℕ). trim_start s (0 + a) k) y ∙ start_same 0 n (omega arith) in
      let r : trim_end s (x + a) e ≡ trim_end t x n + a = ap (λ (k : ℕ). trim_end s (x + a) k) y ∙ end_same x n (omega arith) (omega arith) in
      rw (p, r) (in_same x (trim_end t x n) (omega arith))

pub item_local : ItemLocal
item_local s a e l h b low stop = local s a e l h b low stop

-- the pieces of a group
module _ (s : List ℕ) (c : ℕ) (close : byte_at s c ≡ 93) (inside : c < length s) where
  -- after a bracket, a `+` or a `;`
  after : (i : ℕ) → (byte_at s i < 92) → Before s (i + 1)
  after i q p = let z : i + 1 - 1 ≡ i = omega arith in rw z (omega arith, λ e. omega arith)

  piece_local : (a i b : ℕ) → a ≤ i → i ≤ c → Before s a → byte_at s i ≡ b → b < 128 → is_key b ≡ false → Local s (stretch a i)
  unfolding parsed
  piece_local a i b l m before q low stop =
      item_local s a i l (omega arith) before (omega arith) (ap is_key q ∙ stop)

  pieces_local_in : (n a i : ℕ) → a ≤ i → i + n ≡ c → Before s a → Each (Local s) (pieces_in n s a i)
  unfolding pieces_in semicolon_at is_key is_first is_mark
  pieces_local_in zero a i l m b =
      let z : i ≡ c = omega arith in
      (piece_local a i 93 l (omega arith) b (ap (byte_at s) z ∙ close) (omega arith) refl, tt)
  pieces_local_in (suc n) a i l m b =
      go (eqb (byte_at s i) 59) refl (λ k. pieces_local_in n (i + 1) (i + 1) (omega arith) (omega arith) k)
      (pieces_local_in n a (i + 1) (omega arith) (omega arith) b)
    where
      go : (t : Bool) → eqb (byte_at s i) 59 ≡ t → (Before s (i + 1) → Each (Local s) (pieces_in n s (i + 1) (i + 1))) → Each (Local s) (pieces_in n s a (i + 1))
          → Each (Local s) (ends_piece t (stretch a i) (pieces_in n s (pick t (i + 1) a) (i + 1)))
      go true q next on =
          let e = eqb-true (byte_at s i) 59 q in
          (piece_local a i 59 l (omega arith) b e (omega arith) refl, next (after i (omega arith)))
      go false q next on = on

  -- the items of a bracket begin after it or after a `+`
  start_before : (p : ℕ) → byte_at s p ≡ 91 → Before s (items_start s p)
  unfolding items_start plus_at
  start_before p bracket = go (eqb (byte_at s (p + 1)) 43) refl
    where
      go : (t : Bool) → eqb (byte_at s (p + 1)) 43 ≡ t → Before s (pick t (p + 2) (p + 1))
      go true q =
          let e = eqb-true (byte_at s (p + 1)) 43 q in
          let z : p + 1 + 1 ≡ p + 2 = omega arith in
          rw z at (after (p + 1) (omega arith))
      go false q = after p (omega arith)

pub pieces_local : PiecesLocal
unfolding pieces_of pieces
pieces_local s p c h m bracket close =
    let a = items_start s p in
    let k = start_in s p c h close in
    pieces_local_in s c close m (c - a) a a (omega arith) (omega (arith, k.1)) (start_before s c close m p bracket)
