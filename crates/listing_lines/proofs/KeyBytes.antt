-- The keys of a sweep take no more bytes than the text has: each stands in an item of its own, with its `@` and a `;` or the bracket before
-- it. (The weights of crate sweep's Sizes: an item weighs as much as its key, and two.)
use Prim.Native.Nat.{ℕ, ◌+◌, ◌-◌, ◌≤◌, ◌<◌}
use native.Mathlib.Omega.{arith}
use mathlib.Core.Path.{◌≡◌, refl}
use mathlib.Core.List.{List}
use lib.ListN.{length}
use borrow.Author.Tests.{lt-ltb}
use Rattle.base.specs.Spans.{span_of}
use Rattle.key.specs.Keys.{key_end}
use Rattle.item.specs.declared.Item.{Item}
use Rattle.item.specs.Items.{item_at}
use Rattle.item.proofs.Parts.{wins_by}
use Rattle.standing.proofs.ItemSizes.{Light}
use Rattle.sweep.specs.Sweep.{sweep_of}
use Rattle.sweep.proofs.Sizes.{weights, sweep_weight}

-- the bytes of an item's key, and two more
abbrev pub key_weight : Item → ℕ
key_weight i = i.key.len + 2

span_length : (a e : ℕ) → a < e → (span_of a e).len ≡ e - a
unfolding span_of
span_length a e h = rw (lt-ltb a e h) refl

-- the key of an `@` that wins is shorter than its item
key_light : (s : List ℕ) → Light s key_weight
unfolding item_at
key_light s a e i l h =
    let k = wins_by s e i h in
    let z = span_length (i + 1) (key_end s (i + 1)) k.0 in
    omega (arith, k.0, k.1)

pub sweep_keys : (text : List ℕ) → weights key_weight (sweep_of text) ≤ length text
sweep_keys text = sweep_weight text key_weight (key_light text)
