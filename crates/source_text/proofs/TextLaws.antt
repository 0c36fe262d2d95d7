-- The text of an entry, a part after the other,
-- and what of it the area holds.
use Prim.Native.Nat.{ℕ, ◌≤◌}
use native.Mathlib.Omega.{arith}
use mathlib.Core.Path.{◌≡◌, refl, sym, ◌∙◌}
use mathlib.Core.List.{List, [], ◌∷◌, ◌++◌}
use mathlib.Core.Option.{Option, get_or}
use lib.ListN.{length}
use Rattle.base.specs.Pick.{pick}
use Rattle.base.specs.Fold.{fold}
use Rattle.base.specs.Lists.{written}
use Rattle.base.proofs.Areas.{written_none}
use Rattle.pool.specs.Fields.{Field}
use Rattle.pool.specs.Entries.{Name, Entry, field_with, entry_of}
use Rattle.source.specs.Entry.{is_empty, year_of}
use Rattle.source_parts.specs.declared.Text.{Text}
use Rattle.source_parts.specs.Joined.{beside}
use Rattle.source_parts.specs.Names.{name_of}
use Rattle.source_parts.specs.Parens.{in_parens}
use Rattle.source_parts.specs.Parts.{Holds, Edits}
use Rattle.source_text.specs.Text.{add_name, names_of, head_of, ended, body_of, source_text_of}

-- the year beside the names
module _ (e : Entry) where
  pub head_year : {t : List ℕ} {y : Option (List ℕ)} → y ≡ year_of e → t ≡ in_parens y → beside (32 ∷ []) (fold add_name [] e.names) t ≡ head_of e
  unfolding head_of names_of
  head_year y p = rw (p, y) refl

  -- and the stop
  pub text_none : {before : List ℕ} {t : Text} → Holds (body_of e) before t → t.len ≡ 0 → Holds (source_text_of e) before t
  unfolding source_text_of ended
  text_none {before} {t} h z = go (body_of e) refl h
    where
      go : (b : List ℕ) → body_of e ≡ b → Holds b before t → Holds (pick (is_empty (body_of e)) [] (body_of e ++ (46 ∷ []))) before t
      go [] q w = rw q w
      go (x ∷ xs) q w = let c = w.count in absurd (omega arith)

  pub text_stop : {before : List ℕ} {t : Text} → Holds (body_of e) before t → (t.len ≡ 0 → ⊥) → body_of e ++ (46 ∷ []) ≡ source_text_of e
  unfolding source_text_of ended
  text_stop {before} {t} h n = go (body_of e) refl h
    where
      go : (b : List ℕ) → body_of e ≡ b → Holds b before t → body_of e ++ (46 ∷ []) ≡ pick (is_empty (body_of e)) [] (body_of e ++ (46 ∷ []))
      go [] q w = absurd (n w.count)
      go (x ∷ xs) q w = rw q refl

-- the names, one after the other
pub nothing_held : (t : Text) → t.len ≡ 0 → Holds [] t.area.now t
nothing_held t z = record { count = z; size = refl; area = λ h. written_none t.area.now }

pub names_step : {ns others : List Name} {n : Name} {t : List ℕ} {a b last : Text} → ns ≡ n ∷ others → t ≡ name_of n
    → Edits (λ text. beside (59 ∷ 32 ∷ []) text t) a b → Edits (λ text. fold add_name text others) b last → Edits (λ text. fold add_name text ns) a last
unfolding fold add_name
names_step e p q r = rw e record {
  held = λ text area h. r.held _ area (rw p at q.held text area h);
  same_area = r.same_area ∙ q.same_area;
}

pub names_end : {ns : List Name} (t : Text) → ns ≡ [] → Edits (λ text. fold add_name text ns) t t
unfolding fold
names_end t e = rw e record { held = λ text area h. h; same_area = refl }

-- the title beside the head
pub body_title : (fs : List Field) {x : List ℕ} → x ≡ get_or (field_with 8 fs) [] → beside (46 ∷ 32 ∷ []) (head_of (entry_of fs)) x ≡ body_of (entry_of fs)
unfolding body_of entry_of
body_title fs p = rw p refl

-- what the area holds at last, where the text has room in it
pub held_area : (out before : List ℕ) (u : Text) {name : ℕ} {last : List ℕ} → Holds out before u → u.area.ghost_name ≡ name
    → (name ≡ u.area.ghost_name → last ≡ u.area.now) → length out ≤ length before → last ≡ written out before
held_area out before u h n e r = e (sym n) ∙ h.area r
