-- Theorems: what the papers claim of an item's parts, and of a key before a mark,
-- proved in proofs/.
use Rattle.std.specs.Prelude.{ℕ, ◌+◌, ◌-◌, ◌≤◌, ◌<◌, ◌≡◌, List, [], ◌∷◌, false, length, Some}
use Rattle.base.specs.Lists.{byte_at, part}
use Rattle.base.specs.Sorted.{Each}
use Rattle.base.specs.declared.Span.{Span}
use Rattle.base.specs.InOrder.{present_of, InOrder}
use Rattle.locator.specs.Answers.{value_of, suffix_of}
use Rattle.item.specs.declared.Item.{Item}
use Rattle.key.specs.Keys.{is_key, run_end, key_end}
use Rattle.item.specs.Items.{item_of, key_serves}
use Rattle.item.specs.Moved.{moved_parsed}
use Rattle.item.specs.Pieces.{Stretch, pieces, pieces_of, parsed, items_of}

-- "pairs for prefix, key (without `@`), locator, value, suffix"
unfoldable pub parts_of : Item → List Span
parts_of it = it.prefix ∷ it.key ∷ it.locator ∷ value_of it.parts ∷ suffix_of it.parts ∷ []

-- "the offsets of those present never falling": those parts of a good item that are there lie in its stretch, from `a` to `e`, in this
-- order
abbrev pub ItemInOrder : Type 0
ItemInOrder = (s : List ℕ) (a e : ℕ) (it : Item) → item_of s a e ≡ Some it → InOrder a e (present_of (parts_of it))

-- the parts of each item of a group lie between its bracket at `p` and its close at `c`
abbrev pub ItemsInOrder : Type 0
ItemsInOrder =
    (s : List ℕ) (p c : ℕ) → p < c → byte_at s c ≡ 93 → Each (λ (it : Item). InOrder (p + 1) c (present_of (parts_of it))) (items_of s p c)

-- an ASCII byte that is no backslash stands before place `a`, or nothing
abbrev pub Before : List ℕ → ℕ → Type 0
Before s a = 0 < a → (byte_at s (a - 1) < 128) × (byte_at s (a - 1) ≡ 92 → ⊥)

-- an item is so by its own bytes, and its key and escapes are bounded by it: where such a byte stands before the stretch from `a` to `e`, and
-- after it an ASCII byte that goes on no key, or nothing (`byte_at` is 0 there), it is parsed as its bytes are alone, moved by `a`
abbrev pub ItemLocal : Type 0
ItemLocal =
    (s : List ℕ) (a e : ℕ) → a ≤ e → e ≤ length s → Before s a → byte_at s e < 128 → is_key (byte_at s e) ≡ false
    → item_of s a e ≡ moved_parsed a (item_of (part s a e) 0 (e - a))

-- a piece is parsed as its bytes are alone
abbrev pub Local : List ℕ → Stretch → Type 0
Local s q = parsed s q ≡ moved_parsed q.from (item_of (part s q.from q.to) 0 (q.to - q.from))

-- every piece of a group, from its bracket at `p` to its close at `c`, is parsed as its bytes are alone
abbrev pub PiecesLocal : Type 0
PiecesLocal = (s : List ℕ) (p c : ℕ) → p < c → c < length s → byte_at s p ≡ 91 → byte_at s c ≡ 93 → Each (Local s) (pieces_of s p c)

-- document 02, W10: a `+` right after the bracket at `p` is passed over, once, and belongs to no piece; any other byte there begins the first
abbrev pub PlusPassed : Type 0
PlusPassed =
    (s : List ℕ) (p c : ℕ) → p + 1 < c
    → (byte_at s (p + 1) ≡ 43 → pieces_of s p c ≡ pieces s (p + 2) c) × ((byte_at s (p + 1) ≡ 43 → ⊥) → pieces_of s p c ≡ pieces s (p + 1) c)

-- "In `[@ant., p. 3]` a stop now stands before the comma, and no group is found": a key from which a mark was left off neither ends the
-- item nor meets `,`, wherever the item ends, its run lying in it
abbrev pub MarkServesNot : Type 0
MarkServesNot = (s : List ℕ) (i x : ℕ) → key_end s i < run_end s (i + 1) → run_end s (i + 1) ≤ x → key_serves s x i (key_end s i) ≡ false
