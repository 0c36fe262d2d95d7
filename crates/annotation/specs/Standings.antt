-- Document 01, Layouts: the standing of a group, by the definition line
-- that it stands in and by the definitions of its keys.
use Rattle.std.specs.Prelude.{ℕ, ◌≤◌, ◌<◌, ◌≡◌, List, [], ◌∷◌, ◌⊎◌, true, false}
use Rattle.base.specs.Lists.{byte_at}
use Rattle.base.specs.Sorted.{Each}
use Rattle.item.specs.declared.Item.{Item}
use Rattle.item.specs.Group.{Group}
use Rattle.definition_line.specs.Lines.{defines, group_end, key_of}
use Rattle.standing.specs.GroupRecords.{Placed}
use Rattle.definition.specs.Defs.{def_of, is_defined}

-- one or more of a list
abbrev pub Some : {A : Type 0} → (A → Type 0) → List A → Type 0
Some P [] = ⊥
Some P (x ∷ xs) = P x ⊎ Some P xs

-- In what follows `all` are the groups of the whole sweep.

-- the place `x` lies in one of the groups
abbrev pub InGroup : List Group → ℕ → Type 0
InGroup all x = Some (λ (g : Group). (g.at ≤ x) × (x < group_end g)) all

-- no LF outside groups stands from `a` up to `e`
abbrev pub Unbroken : List ℕ → List Group → ℕ → ℕ → Type 0
Unbroken text all a e = (x : ℕ) → a ≤ x → x < e → byte_at text x ≡ 10 → InGroup all x

-- A group stands in a definition line: one of the groups up to it starts the line, which "runs to the next LF outside groups", and none
-- stands between the two.
abbrev pub StandsInLine : List ℕ → List Group → List Group → Group → Type 0
StandsInLine text all up_to g = Some (λ (first : Group). (defines text first ≡ true) × Unbroken text all (group_end first) g.at) up_to

-- the key of an item is defined
abbrev pub KeyDefined : List ℕ → List Group → List ℕ → Item → Type 0
KeyDefined text all pool i = is_defined (def_of text all pool (key_of text i)) ≡ true

-- the key of an item is not defined
abbrev pub KeyUndefined : List ℕ → List Group → List ℕ → Item → Type 0
KeyUndefined text all pool i = is_defined (def_of text all pool (key_of text i)) ≡ false

-- "standing (0 in a definition line, 1 a key undefined, 2 numbered)": that of a group, `up_to` being the groups up to it and with it
pub record StandsAs (text : List ℕ) (all : List Group) (pool : List ℕ) (up_to : List Group) (p : Placed) : Type 0 where
  pub in_line_zero : StandsInLine text all up_to p.group → p.standing ≡ 0
  pub in_line_only : p.standing ≡ 0 → StandsInLine text all up_to p.group
  pub undefined : (StandsInLine text all up_to p.group → ⊥) → Some (KeyUndefined text all pool) p.group.items → p.standing ≡ 1
  pub undefined_only : p.standing ≡ 1 → Some (KeyUndefined text all pool) p.group.items
  pub numbered : (StandsInLine text all up_to p.group → ⊥) → Each (KeyDefined text all pool) p.group.items → p.standing ≡ 2
  pub numbered_only : p.standing ≡ 2 → Each (KeyDefined text all pool) p.group.items

-- the standing of each of some groups, `before` being the groups before them, the last of these first
abbrev pub StandingsFrom : List ℕ → List Group → List ℕ → List Group → List Placed → Type 0
StandingsFrom text all pool before [] = Unit {0}
StandingsFrom text all pool before (p ∷ ps) =
    StandsAs text all pool (p.group ∷ before) p × StandingsFrom text all pool (p.group ∷ before) ps
