-- Laws on the turn at one byte: what is known after it, and which of the four turns it is,
-- in the form of the goals.
use Prim.Native.Nat.{ℕ, suc, ◌+◌, ◌-◌, ◌≤◌, ◌<◌}
use native.Mathlib.Omega.{arith}
use mathlib.Core.Path.{◌≡◌, refl, ◌∙◌}
use mathlib.Core.List.{List}
use lib.ListN.{length}
use mathlib.Core.Bool.{Bool, true, false, ◌&&◌, not, and-false}
use lib.Dec.{eqb}
use borrow.Author.Tests.{ne_eqb, lt-ltb, le-ltb, eqb-true}
use Rattle.base.specs.Pick.{pick}
use Rattle.base.specs.Last.{last_end}
use Rattle.base.proofs.Picks.{pick_not}
use Rattle.base.specs.Lists.{byte_at}
use Rattle.white.specs.White.{is_white}
use Rattle.white.proofs.Whites.{white_ascii}
use Rattle.key.specs.Keys.{key_end}
use Rattle.key.proofs.Laws.{key_by_lem}
use Rattle.index.specs.Passing.{content_in}
use Rattle.index.specs.declared.Bracket.{Bracket}
use Rattle.index.specs.declared.Reads.{Reads}
use Rattle.index.specs.declared.Scan.{Scan}
use Rattle.index.specs.declared.Plan.{Plan}
use Rattle.index.specs.Scan.{key_here, latest, read_on, opens, closes, parts, scan_plan, open_plan, close_plan, part_plan, pass_plan}

-- what is known after a byte
pub end_fits : (s : List ℕ) (i : ℕ) {e : ℕ} → e ≡ key_end s (i + 1) → i < length s → length s ≤ 65535 → e < 65536
end_fits s i p h l = omega (arith, key_by_lem s (i + 1) (omega arith))

-- the content after one byte
content_one : (s : List ℕ) (i c : ℕ) {k : ℕ} → k ≡ content_in s i (i + 1 - i) c → k ≡ pick (is_white s i) c (i + 1)
unfolding last_end
content_one s i c q =
    let z : i + 1 - i ≡ 1 = omega arith in
    let y : i + 0 ≡ i = omega arith in
    let x : suc i ≡ i + 1 = omega arith in
    q ∙ rw (z, y, x, pick_not (is_white s i))

module _ (s : List ℕ) (i : ℕ) (r : Reads) where
  pub read_parts : byte_at s i ≡ 59 → record { esc = false; comma = 0; key = 0; end = 0; content = i + 1 } ≡ read_on s i r
  unfolding read_on latest
  read_parts h = rw (white_ascii s i (omega arith), h)

  -- a bracket is no white space
  pub read_open : byte_at s i ≡ 91 → record { esc = false; comma = r.comma; key = r.key; end = r.end; content = i + 1 } ≡ read_on s i r
  unfolding read_on latest key_here
  read_open h = rw (white_ascii s i (omega arith), h)

  pub read_close : byte_at s i ≡ 93 → record { esc = false; comma = r.comma; key = r.key; end = r.end; content = i + 1 } ≡ read_on s i r
  unfolding read_on latest key_here
  read_close h = rw (white_ascii s i (omega arith), h)

  pub read_no_key : byte_at s i ≡ 64 → r.esc ≡ false → key_end s (i + 1) ≡ i + 1
      → record { esc = false; comma = r.comma; key = r.key; end = r.end; content = i + 1 } ≡ read_on s i r
  unfolding read_on latest key_here
  read_no_key h f p = rw (white_ascii s i (omega arith), h, f, p, le-ltb (i + 1) (i + 1) (omega arith))

  pub read_key : {e k : ℕ} → byte_at s i ≡ 64 → r.esc ≡ false → e ≡ key_end s (i + 1) → i + 1 < e
      → k ≡ pick (eqb (byte_at s e) 44) (i + 1) r.comma
      → record { esc = false; comma = k; key = i + 1; end = e; content = i + 1 } ≡ read_on s i r
  unfolding read_on latest key_here
  read_key h f p l q = rw (white_ascii s i (omega arith), h, f, ← p, lt-ltb _ _ l, q)

  pub read_escape : byte_at s i ≡ 92 → r.esc ≡ false
      → record { esc = true; comma = r.comma; key = r.key; end = r.end; content = i + 1 } ≡ read_on s i r
  unfolding read_on latest key_here
  read_escape h f = rw (white_ascii s i (omega arith), h, f) refl

  pub read_other : {k : ℕ} → (byte_at s i ≡ 59 → ⊥) → (byte_at s i ≡ 64 → r.esc ≡ true) → (byte_at s i ≡ 92 → r.esc ≡ true)
      → k ≡ content_in s i (i + 1 - i) r.content
      → record { esc = false; comma = r.comma; key = r.key; end = r.end; content = k } ≡ read_on s i r
  unfolding read_on latest key_here
  read_other h f g q = rw (ne_eqb _ _ h, never 64 f, never 92 g, content_one s i r.content q)
    where
      never : (b : ℕ) → (byte_at s i ≡ b → r.esc ≡ true) → eqb (byte_at s i) b && not r.esc ≡ false
      never b h = go (eqb (byte_at s i) b) refl
        where
          go : (t : Bool) → eqb (byte_at s i) b ≡ t → t && not r.esc ≡ false
          go true e = rw (h (eqb-true _ _ e)) refl
          go false e = refl

-- what holds of each of them, in its case, holds of the turn
module _ (s : List ℕ) (c : Scan) (outer : Bracket) where
  module _ (P : Plan → Type 0) where
    abbrev w : Reads
    w = read_on s c.at c.reads

    pub plan_cases : (opens s c ≡ true → P (open_plan c w)) → (opens s c ≡ false → closes s c ≡ true → P (close_plan c outer w))
        → (opens s c ≡ false → closes s c ≡ false → parts s c ≡ true → P (part_plan c w))
        → (opens s c ≡ false → closes s c ≡ false → parts s c ≡ false → P (pass_plan c w)) → P (scan_plan s c outer)
    unfolding scan_plan
    plan_cases f g h k = go (opens s c) (closes s c) (parts s c) refl refl refl
      where
        go : (o x t : Bool) → opens s c ≡ o → closes s c ≡ x → parts s c ≡ t
            → P (pick o (open_plan c w) (pick x (close_plan c outer w) (pick t (part_plan c w) (pass_plan c w))))
        go true x t p q r = f p
        go false true t p q r = g p q
        go false false true p q r = h p q r
        go false false false p q r = k p q r

  pub plan_at : (scan_plan s c outer).next.at ≡ c.at + 1
  plan_at = plan_cases (λ p. p.next.at ≡ c.at + 1) (λ o. refl) (λ o x. refl) (λ o x t. refl) (λ o x t. refl)

  pub plan_slot : (scan_plan s c outer).slot ≡ c.depth
  plan_slot = plan_cases (λ p. p.slot ≡ c.depth) (λ o. refl) (λ o x. refl) (λ o x t. refl) (λ o x t. refl)

-- which of them it is
module _ (s : List ℕ) (c : Scan) (outer : Bracket) {w : Reads} {p : Plan} (e : w ≡ read_on s c.at c.reads) where
  pub plan_at_part : byte_at s c.at ≡ 59 → p ≡ part_plan c w → p ≡ scan_plan s c outer
  unfolding scan_plan opens closes parts
  plan_at_part h q = q ∙ rw (e, h)

  pub plan_at_escaped : (byte_at s c.at ≡ 59 → ⊥) → c.reads.esc ≡ true → p ≡ pass_plan c w → p ≡ scan_plan s c outer
  unfolding scan_plan opens closes parts
  plan_at_escaped h f q = q ∙ rw (e, ne_eqb _ _ h, f, and-false (eqb (byte_at s c.at) 91), and-false (eqb (byte_at s c.at) 93))

  pub plan_at_open : c.reads.esc ≡ false → byte_at s c.at ≡ 91 → p ≡ open_plan c w → p ≡ scan_plan s c outer
  unfolding scan_plan opens closes parts
  plan_at_open f h q = q ∙ rw (e, h, f)

  pub plan_at_close : c.reads.esc ≡ false → byte_at s c.at ≡ 93 → 0 < c.depth → p ≡ close_plan c outer w → p ≡ scan_plan s c outer
  unfolding scan_plan opens closes parts
  plan_at_close f h d q = q ∙ rw (e, h, f, lt-ltb _ _ d)

  pub plan_at_lone : c.reads.esc ≡ false → byte_at s c.at ≡ 93 → c.depth ≤ 0 → p ≡ pass_plan c w → p ≡ scan_plan s c outer
  unfolding scan_plan opens closes parts
  plan_at_lone f h d q = q ∙ rw (e, h, f, le-ltb _ _ d)

  pub plan_at_other : (byte_at s c.at ≡ 59 → ⊥) → (byte_at s c.at ≡ 91 → ⊥) → (byte_at s c.at ≡ 93 → ⊥) → p ≡ pass_plan c w
      → p ≡ scan_plan s c outer
  unfolding scan_plan opens closes parts
  plan_at_other h k l q = q ∙ rw (e, ne_eqb _ _ h, ne_eqb _ _ k, ne_eqb _ _ l)

pub ruleset sign_laws = (end_fits, read_no_key, read_key)

pub ruleset read_laws = (read_escape, read_other)

pub ruleset plan_laws = (read_parts, read_open, read_close, plan_at_part, plan_at_escaped, plan_at_open, plan_at_close, plan_at_lone, plan_at_other)
