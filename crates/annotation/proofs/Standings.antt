-- THEOREM `StandingsStated`: the standing of each group is what the paper says,
-- for groups that stand apart from left to right.
use Prim.Native.Nat.{ℕ, ◌-◌, ◌≤◌, ◌<◌}
use native.Mathlib.Omega.{arith}
use native.Mathlib.Decide.{dec_le}
use mathlib.Core.Path.{◌≡◌, refl, sym, ◌∙◌}
use mathlib.Core.List.{List, [], ◌∷◌}
use mathlib.Core.Logic.{inl, inr}
use mathlib.Core.Bool.{Bool, true, false, ◌&&◌, ◌||◌, not, and-false, true≢false}
use lib.Dec.{eqb}
use borrow.Author.Tests.{eq-eqb, eqb-true, ltb-true, ltb-false}
use Rattle.base.specs.First.{first_of}
use Rattle.base.specs.Lists.{byte_at}
use Rattle.base.specs.Sorted.{Each, Sorted}
use Rattle.base.proofs.Alls.{each_map}
use Rattle.base.proofs.Bools.{and_left, and_right}
use Rattle.base.proofs.Searches.{first_from, first_holds, first_before}
use Rattle.item.specs.declared.Item.{Item}
use Rattle.item.specs.Group.{Group}
use Rattle.definition_line.specs.Lines.{break_at, broken, defines, in_line, group_end, key_of}
use Rattle.definition.specs.Defs.{def_of, is_defined}
use Rattle.standing.specs.GroupRecords.{placed, placed_by}
use Rattle.annotation.specs.Content.{all_defined, standing_of, placed_of}
use Rattle.annotation.specs.Standings.{Some, InGroup, Unbroken, StandsInLine, KeyDefined, KeyUndefined, StandsAs, StandingsFrom}
use Rattle.annotation.specs.Facts.{StandingsStated}

some_map : {A : Type 0} (P Q : A → Type 0) (l : List A) → ((x : A) → P x → Q x) → Some P l → Some Q l
some_map P Q [] f h = h
some_map P Q (x ∷ xs) f (inl h) = inl (f x h)
some_map P Q (x ∷ xs) f (inr h) = inr (some_map P Q xs f h)

-- LFs ------------------------------------------------------------------------------------------------------------------------------

module _ (text : List ℕ) (a e : ℕ) where
  -- a stretch that is not broken has none
  none_there : broken text a e ≡ false → (x : ℕ) → a ≤ x → x < e → byte_at text x ≡ 10 → ⊥
  unfolding break_at
  none_there q x l u b =
      let k = ltb-false (first_of 10 text a e) e q in
      let m = first_before (λ i. eqb (byte_at text i) 10) (e - a) a x l (eq-eqb (byte_at text x) 10 b) in
      omega arith

  -- one that is broken has one
  abbrev lf : ℕ
  lf = first_of 10 text a e

  lf_from : a ≤ lf
  lf_from = first_from (λ i. eqb (byte_at text i) 10) (e - a) a

  module _ (q : broken text a e ≡ true) where
    lf_before : lf < e
    unfolding break_at
    lf_before = ltb-true lf e q

    lf_is : byte_at text lf ≡ 10
    lf_is = eqb-true (byte_at text lf) 10 (first_holds (λ i. eqb (byte_at text i) 10) (e - a) a (omega (arith, lf_from, lf_before)))

-- definitions of keys --------------------------------------------------------------------------------------------------------------

module _ (text : List ℕ) (all : List Group) (pool : List ℕ) where
  each_defined : (is : List Item) → all_defined text all pool is ≡ true → Each (KeyDefined text all pool) is
  unfolding all_defined
  each_defined [] q = tt
  each_defined (i ∷ is) q = (and_left _ _ q, each_defined is (and_right (is_defined (def_of text all pool (key_of text i))) _ q))

  some_undefined : (is : List Item) → all_defined text all pool is ≡ false → Some (KeyUndefined text all pool) is
  unfolding all_defined
  some_undefined [] q = true≢false q
  some_undefined (i ∷ is) q = go (is_defined (def_of text all pool (key_of text i))) refl q (some_undefined is)
    where
      go : (b : Bool) → is_defined (def_of text all pool (key_of text i)) ≡ b → (b && all_defined text all pool is) ≡ false
          → (all_defined text all pool is ≡ false → Some (KeyUndefined text all pool) is) → Some (KeyUndefined text all pool) (i ∷ is)
      go true e h rest = inr (rest h)
      go false e h rest = inl e

  all_defined_lem : (is : List Item) → Each (KeyDefined text all pool) is → all_defined text all pool is ≡ true
  unfolding all_defined
  all_defined_lem [] h = refl
  all_defined_lem (i ∷ is) h = rw h.0 (all_defined_lem is h.1)

  not_all : (is : List Item) → Some (KeyUndefined text all pool) is → all_defined text all pool is ≡ false
  unfolding all_defined
  not_all [] h = absurd h
  not_all (i ∷ is) (inl h) = rw h refl
  not_all (i ∷ is) (inr h) = rw (not_all is h) (and-false (is_defined (def_of text all pool (key_of text i))))

  -- the standing by both tests -------------------------------------------------------------------------------------------------------

  stands_as : (up_to : List Group) (g : Group) (b d : Bool) → (b ≡ true → StandsInLine text all up_to g)
      → (b ≡ false → StandsInLine text all up_to g → ⊥) → all_defined text all pool g.items ≡ d
      → StandsAs text all pool up_to (placed g (standing_of b d))
  unfolding standing_of
  stands_as up_to g true d t f e = record {
    in_line_zero = λ w. refl;
    in_line_only = λ h. t refl;
    undefined = λ n w. absurd (n (t refl));
    undefined_only = λ h. absurd (omega (arith, h));
    numbered = λ n w. absurd (n (t refl));
    numbered_only = λ h. absurd (omega (arith, h));
  }
  stands_as up_to g false true t f e = record {
    in_line_zero = λ w. absurd (f refl w);
    in_line_only = λ h. absurd (omega (arith, h));
    undefined = λ n w. absurd (true≢false (sym e ∙ not_all g.items w));
    undefined_only = λ h. absurd (omega (arith, h));
    numbered = λ n w. refl;
    numbered_only = λ h. each_defined g.items e;
  }
  stands_as up_to g false false t f e = record {
    in_line_zero = λ w. absurd (f refl w);
    in_line_only = λ h. absurd (omega (arith, h));
    undefined = λ n w. refl;
    undefined_only = λ h. some_undefined g.items e;
    numbered = λ n w. absurd (true≢false (sym (all_defined_lem g.items w) ∙ e));
    numbered_only = λ h. absurd (omega (arith, h));
  }

  -- a group starts a line that is not broken before `e`
  abbrev Reaches : ℕ → Group → Type 0
  Reaches e f = (defines text f ≡ true) × Unbroken text all (group_end f) e

  shorter : (l : List Group) (e e' : ℕ) → e ≤ e' → Some (Reaches e') l → Some (Reaches e) l
  shorter l e e' h = some_map (Reaches e') (Reaches e) l (λ f w. (w.0, λ x u k b. w.1 x u (omega (arith, h, k)) b))

  -- one group ------------------------------------------------------------------------------------------------------------------------

  -- `g` comes after `prev`, the last of which ended at `from`, and before `gs`
  module _ (g : Group) (gs prev : List Group) (before : Bool) (from : ℕ) (begins : from ≤ g.at) (closes : g.at ≤ g.close)
      (apart : Each (λ (h : Group). group_end g ≤ h.at) gs) (after : (x : ℕ) → from ≤ x → InGroup all x → InGroup (g ∷ gs) x)
      (ended : Each (λ (h : Group). group_end h ≤ from) prev) (stood : before ≡ true → Some (Reaches from) prev)
      (stood-not : before ≡ false → Some (Reaches from) prev → ⊥) where
    later_on : (x : ℕ) → x < g.at → (l : List Group) → Each (λ (h : Group). group_end g ≤ h.at) l → InGroup l x → ⊥
    later_on x u [] s k = k
    later_on x u (y ∷ ys) s (inl k) = omega (arith, u, closes, s.0, k.0)
    later_on x u (y ∷ ys) s (inr k) = later_on x u ys s.1 k

    outside : (x : ℕ) → from ≤ x → x < g.at → InGroup all x → ⊥
    outside x l u i = go (after x l i)
      where
        go : InGroup (g ∷ gs) x → ⊥
        go (inl k) = omega (arith, u, k.0)
        go (inr k) = later_on x u gs apart k

    further : (r : broken text from g.at ≡ false) → Some (Reaches from) prev → Some (Reaches g.at) prev
    further r = some_map (Reaches from) (Reaches g.at) prev (λ f w. (w.0, λ x l u b. go f w x l u b (dec_le from x)))
      where
        go : (f : Group) → Reaches from f → (x : ℕ) → group_end f ≤ x → x < g.at → byte_at text x ≡ 10 → Dec (from ≤ x) → InGroup all x
        go f w x l u b (yes k) = absurd (none_there text from g.at r x k u b)
        go f w x l u b (no k) = w.1 x l (omega arith) b

    broken_off : (q : broken text from g.at ≡ true) (l : List Group) → Each (λ (h : Group). group_end h ≤ from) l → Some (Reaches g.at) l → ⊥
    broken_off q [] s w = w
    broken_off q (y ∷ ys) s (inl w) =
        let a = lf_from text from g.at in
        let e = lf_before text from g.at q in
        outside (lf text from g.at) a e (w.1 (lf text from g.at) (omega (arith, s.0, a)) e (lf_is text from g.at q))
    broken_off q (y ∷ ys) s (inr w) = broken_off q ys s.1 w

    holds : (d b n : Bool) → defines text g ≡ d → before ≡ b → broken text from g.at ≡ n → (d || b && not n) ≡ true
        → Some (Reaches g.at) (g ∷ prev)
    holds true b n p q r t = inl (p, λ x l u k. absurd (omega (arith, l, u, closes)))
    holds false true true p q r t = absurd (true≢false (sym t))
    holds false true false p q r t = inr (further r (stood q))
    holds false false n p q r t = absurd (true≢false (sym t))

    fails : (d b n : Bool) → defines text g ≡ d → before ≡ b → broken text from g.at ≡ n → (d || b && not n) ≡ false
        → Some (Reaches g.at) (g ∷ prev) → ⊥
    fails true b n p q r t w = true≢false t
    fails false b n p q r t (inl w) = true≢false (sym w.0 ∙ p)
    fails false true true p q r t (inr w) = broken_off r prev ended w
    fails false true false p q r t (inr w) = true≢false t
    fails false false n p q r t (inr w) = stood-not q (shorter prev from g.at begins w)

    in_line_zero : in_line text before from g ≡ true → StandsInLine text all (g ∷ prev) g
    unfolding in_line
    in_line_zero t = holds (defines text g) before (broken text from g.at) refl refl refl t

    in_line_not : in_line text before from g ≡ false → StandsInLine text all (g ∷ prev) g → ⊥
    unfolding in_line
    in_line_not t w = fails (defines text g) before (broken text from g.at) refl refl refl t w

  -- all groups -----------------------------------------------------------------------------------------------------------------------

  abbrev standing : Bool → Group → ℕ
  standing inside g = standing_of inside (all_defined text all pool g.items)

  stand : (gs prev : List Group) (before : Bool) (from : ℕ) → Each (λ (h : Group). from ≤ h.at) gs
      → Each (λ (h : Group). h.at ≤ h.close) gs → Sorted (λ (g h : Group). group_end g ≤ h.at) gs
      → ((x : ℕ) → from ≤ x → InGroup all x → InGroup gs x) → ((x : ℕ) → InGroup gs x → InGroup all x)
      → Each (λ (h : Group). group_end h ≤ from) prev → (before ≡ true → Some (Reaches from) prev)
      → (before ≡ false → Some (Reaches from) prev → ⊥) → StandingsFrom text all pool prev (placed_by standing text before from gs)
  unfolding placed_by
  stand [] prev before from f c s after among e t n = tt
  stand (g ∷ gs) prev before from f c s after among e t n = (
    stands_as (g ∷ prev) g inside (all_defined text all pool g.items) yes_line no_line refl,
    stand gs (g ∷ prev) inside (group_end g) s.0 c.1 s.1 after' (λ x i. among x (inr i))
        (omega arith, each_map (λ (h : Group). group_end h ≤ from) (λ (h : Group). group_end h ≤ group_end g) prev (λ h k. omega (arith, k, f.0, c.0)) e)
        (λ w. some_map (Reaches g.at) (Reaches (group_end g)) (g ∷ prev) (λ h v. (v.0, λ x l u b. go h v x l u b (dec_le g.at x))) (yes_line w))
        (λ w v. no_line w (shorter (g ∷ prev) g.at (group_end g) (omega (arith, c.0)) v)),
  )
    where
      inside : Bool
      inside = in_line text before from g

      yes_line : inside ≡ true → StandsInLine text all (g ∷ prev) g
      yes_line = in_line_zero g gs prev before from f.0 c.0 s.0 after e t n

      no_line : inside ≡ false → StandsInLine text all (g ∷ prev) g → ⊥
      no_line = in_line_not g gs prev before from f.0 c.0 s.0 after e t n

      after' : (x : ℕ) → group_end g ≤ x → InGroup all x → InGroup gs x
      after' x l i = pass (after x (omega (arith, l, f.0, c.0)) i)
        where
          pass : InGroup (g ∷ gs) x → InGroup gs x
          pass (inl k) = absurd (omega (arith, l, k.1))
          pass (inr k) = k

      go : (h : Group) → Reaches g.at h → (x : ℕ) → group_end h ≤ x → x < group_end g → byte_at text x ≡ 10 → Dec (g.at ≤ x) → InGroup all x
      go h v x l u b (yes k) = among x (inl (k, u))
      go h v x l u b (no k) = v.1 x l (omega arith) b

each_zero : (l : List Group) → Each (λ (h : Group). 0 ≤ h.at) l
each_zero [] = tt
each_zero (g ∷ gs) = (omega arith, each_zero gs)

pub standings_stated : StandingsStated
unfolding placed_of
standings_stated text all pool closes apart =
    stand text all pool all [] false 0 (each_zero all) closes apart (λ x l i. i) (λ x i. i) tt (λ t. absurd (true≢false (sym t))) (λ t w. w)
