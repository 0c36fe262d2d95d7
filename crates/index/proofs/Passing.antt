-- Laws on the ordinary bytes that a turn goes on over,
-- in the form of the goals.
use Prim.Native.Nat.{ℕ, zero, suc, ◌+◌, ◌-◌, ◌≤◌, ◌<◌}
use native.Mathlib.Omega.{arith}
use mathlib.Core.Path.{◌≡◌, refl, sym, ◌∙◌, ap}
use mathlib.Core.List.{List}
use mathlib.Core.Bool.{Bool, true, false, not, true≢false}
use lib.ListN.{length}
use lib.Dec.{eqb}
use borrow.Author.Tests.{ne_eqb, ltb-true, not-false}
use Rattle.base.specs.Pick.{pick}
use Rattle.base.specs.Last.{last_end}
use Rattle.base.specs.Lists.{byte_at}
use Rattle.base.proofs.Picks.{pick_not}
use Rattle.base.proofs.Lasts.{last_end_stop, last_end_some, last_end_none}
use Rattle.base.proofs.Searches.{first_from, first_by, first_fails}
use Rattle.white.specs.White.{is_white}
use Rattle.white.specs.Bytes.{is_ascii_graphic}
use Rattle.text.specs.Trim.{trim_end}
use Rattle.text.proofs.Trims.{end_by}
use Rattle.white.proofs.Whites.{graphic_plain}
use Rattle.index.specs.declared.Bracket.{Bracket}
use Rattle.index.specs.declared.Reads.{Reads}
use Rattle.index.specs.declared.Scan.{Scan}
use Rattle.index.specs.declared.Plan.{Plan}
use Rattle.index.specs.Scan.{key_here, latest, read_on, scan_plan}
use Rattle.index.proofs.Laws.{plan_at}
use Rattle.index.specs.Passing.{is_ordinary, ordinary_end, content_in, passing, skipped, turn_of, unread, Fine}

-- bytes -----------------------------------------------------------------------------------------------------------------------------

pub ordinary_ne : {b : ℕ} (k : ℕ) → is_ordinary k ≡ false → is_ordinary b ≡ true → b ≡ k → ⊥
ordinary_ne k f h e = true≢false (sym h ∙ ap is_ordinary e ∙ f)

-- what is known after an ordinary byte
pub read_past : (s : List ℕ) (i : ℕ) (r : Reads) → is_ordinary (byte_at s i) ≡ true
    → read_on s i r ≡ record { esc = false; comma = r.comma; key = r.key; end = r.end; content = pick (is_white s i) r.content (i + 1) }
unfolding read_on latest key_here
read_past s i r h = rw (ne_eqb _ 59 (ordinary_ne 59 refl h), ne_eqb _ 64 (ordinary_ne 64 refl h), ne_eqb _ 92 (ordinary_ne 92 refl h))

-- content ---------------------------------------------------------------------------------------------------------------------------

pub end_fits : (s : List ℕ) (a e : ℕ) {x : ℕ} → x ≡ trim_end s a e → a < e → e ≤ length s → length s ≤ 65535 → x < 65536
end_fits s a e p h l m = omega (arith, end_by s a e)

module _ (s : List ℕ) (a e : ℕ) (k : ℕ) where
  pub content_graphic : {b : Bool} → a < e → b ≡ is_ascii_graphic (byte_at s (e - 1)) → b ≡ true → e ≡ content_in s a (e - a) k
  content_graphic h p t = last_end_stop (λ i. not (is_white s i)) a e k refl h (ap not (graphic_plain s (e - 1) (sym p ∙ t)))

  pub content_some : {x : ℕ} → x ≡ trim_end s a e → a < x → x ≡ content_in s a (e - a) k
  unfolding trim_end
  content_some p h = p ∙ sym (last_end_some (λ i. not (is_white s i)) (e - a) a k (rw p at h))

  pub content_none : {x : ℕ} → x ≡ trim_end s a e → x ≤ a → k ≡ content_in s a (e - a) k
  unfolding trim_end
  content_none p h = sym (last_end_none (λ i. not (is_white s i)) (e - a) a k (rw p at h))

-- the search ------------------------------------------------------------------------------------------------------------------------

pub ordinary_from : (s : List ℕ) (i : ℕ) → i ≤ ordinary_end s i
unfolding ordinary_end
ordinary_from s i = first_from (λ j. not (is_ordinary (byte_at s j))) (length s - i) i

pub ordinary_by : (s : List ℕ) (i : ℕ) → i ≤ length s → ordinary_end s i ≤ length s
unfolding ordinary_end
ordinary_by s i h = let l = first_by (λ j. not (is_ordinary (byte_at s j))) (length s - i) i in omega arith

-- all bytes before it are ordinary
pub ordinary_before : (s : List ℕ) (i v : ℕ) → i ≤ v → v < ordinary_end s i → is_ordinary (byte_at s v) ≡ true
unfolding ordinary_end
ordinary_before s i v l h = not-false _ (first_fails (λ j. not (is_ordinary (byte_at s j))) (length s - i) i v l h)

-- the state after them --------------------------------------------------------------------------------------------------------------

module _ (s : List ℕ) (c : Scan) where
  abbrev esc_in : ℕ → Bool
  esc_in n = pick (eqb n 0) c.reads.esc false

  abbrev carried : ℕ → Scan
  carried n = record {
    at = c.at + n;
    depth = c.depth;
    inner = c.inner;
    bad = c.bad;
    reads = record { esc = esc_in n; comma = c.reads.comma; key = c.reads.key; end = c.reads.end; content = content_in s c.at n c.reads.content };
  }

  passing_is : (n : ℕ) → ((v : ℕ) → c.at ≤ v → v < c.at + n → is_ordinary (byte_at s v) ≡ true) → passing n s c ≡ carried n
  unfolding passing last_end
  passing_is zero h = let z : c.at + 0 ≡ c.at = omega arith in rw z
  passing_is (suc n) h =
      let e : c.at + n + 1 ≡ suc (c.at + n) = omega arith in
      let f : c.at + suc n ≡ suc (c.at + n) = omega arith in
      rw (passing_is n (λ v l k. h v l (omega arith)), read_past s (c.at + n) (carried n).reads (h (c.at + n) (omega arith) (omega arith)), ne_eqb (suc n) 0 (omega arith), e, f, pick_not (is_white s (c.at + n)))

  pub skip_none : {e : ℕ} → e ≡ ordinary_end s c.at → e ≤ c.at → c ≡ skipped s c
  unfolding skipped passing
  skip_none p h = let z : ordinary_end s c.at - c.at ≡ 0 = omega arith in rw z

  pub skip_some : {e k : ℕ} → e ≡ ordinary_end s c.at → c.at < e → k ≡ content_in s c.at (e - c.at) c.reads.content
      → record {
        at = e;
        depth = c.depth;
        inner = c.inner;
        bad = c.bad;
        reads = record { esc = false; comma = c.reads.comma; key = c.reads.key; end = c.reads.end; content = k };
      }
      ≡ skipped s c
  unfolding skipped
  skip_some {e} p h q =
      let n = e - c.at in
      let z : c.at + n ≡ e = omega arith in
      sym (rw (← p) (passing_is n (λ v l k. ordinary_before s c.at v l (omega arith)) ∙ rw (z, ne_eqb n 0 (omega arith), q)))

-- a turn ----------------------------------------------------------------------------------------------------------------------------

pub turn_here : (s : List ℕ) (c : Scan) → Fine s c → c.at < length s
unfolding unread
turn_here s c f = ltb-true _ _ f.goes

pub turn_by : (s : List ℕ) (c : Scan) (outer : Bracket) {p : Plan} → p ≡ scan_plan s c outer → c.at < length s → p.next.at ≤ length s
turn_by s c outer e h = rw e (omega (arith, plan_at s c outer))

pub turn_is : (s : List ℕ) (c : Scan) (outer : Bracket) {p : Plan} {n : Scan} → p ≡ scan_plan s c outer → n ≡ skipped s p.next
    → record { next = n; slot = p.slot; top = p.top; place = p.place; mark = p.mark } ≡ turn_of s c outer
unfolding turn_of
turn_is s c outer e q = rw (q, e)

pub ruleset content_laws = (end_fits, content_graphic, content_some, content_none)

pub ruleset skip_laws = (ordinary_by, skip_none, skip_some)

pub ruleset turn_laws = (turn_here, turn_by, turn_is)
