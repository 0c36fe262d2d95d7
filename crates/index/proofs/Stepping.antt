-- Plain facts of the loop of `bracket_pairs`:
-- what holds at its head, at the start, after a turn, and where the loop is left.
use Rattle.std.proofs.Common.{ℕ, ◌-◌, ◌<◌, ◌≤◌, ◌≡◌, refl, ◌∙◌, ap, List, ◌++◌, false, length, get_or, take, drop, replicate, arith, rules}
use borrow.Author.Tests.{lt-ltb}
use Rattle.index.specs.declared.Bracket.{Bracket}
use Rattle.index.specs.declared.Plan.{Plan}
use Rattle.index.specs.declared.Scan.{Scan}
use Rattle.index.specs.Built.{blank}
use Rattle.index.specs.Building.{Both, built, Enough}
use Rattle.index.specs.Passing.{skipped, turn_of, turn_at, unread}
use Rattle.index.specs.Scan.{first_reads, start, scan_plan, step_index, step_records}
use Rattle.index.specs.Turn.{Ready}
use Rattle.index.proofs.Turns.{KnownAt}
use Rattle.index.proofs.Passing.{turn_is}
use Rattle.index.proofs.Building.{length_filled, fill_front, turn_far, build_start, build_turn, build_end, fine, read_in, slot_in, place_in}

-- the turn over the records as they were read
pub turned : (s : List ℕ) (c : Scan) (records : List Bracket) {k : ℕ} {outer : Bracket} {p : Plan} {n : Scan} → p ≡ scan_plan s c outer
    → n ≡ skipped s p.next → outer ≡ get_or records k blank → k ≡ c.depth - 1
    → record { next = n; slot = p.slot; top = p.top; place = p.place; mark = p.mark } ≡ turn_at s c records
unfolding turn_at
turned s c records {outer = outer} e q o k = turn_is s c outer e q ∙ ap (turn_of s c) (o ∙ ap (λ (n : ℕ). get_or records n blank) k)

-- the state before the first byte, and the record of zeros, as the defaults of their types
abbrev Zero : Bracket → Type 0
Zero b = (b.place ≡ 0) × ((b.seen ≡ 0) × ((b.good ≡ 0) × (b.bad ≡ 0)))

abbrev Start : Scan → Type 0
Start c =
    (c.at ≡ 0)
    × ((c.depth ≡ 0)
    × (Zero c.inner
    × ((c.bad ≡ 0) × ((c.reads.esc ≡ false) × ((c.reads.comma ≡ 0) × ((c.reads.key ≡ 0) × ((c.reads.end ≡ 0) × (c.reads.content ≡ 0))))))))

pub blank_is : (b : Bracket) → Zero b → b ≡ blank
blank_is b e = search (e, rules)

start_is : (c : Scan) → Start c → c ≡ start
unfolding start first_reads
start_is c e = search (e, rules)

-- what holds at the loop's head
pub record Stepped (s index₀ : List ℕ) (records₀ : List Bracket) (c : Scan) (index : List ℕ) (records : List Bracket) : Type 0 where
  pub enough : Enough s (length index₀) (length records₀)
  pub known : KnownAt s index₀ records₀ enough.wide enough.long c index records
  pub same_index : length index ≡ length index₀
  pub same_records : length records ≡ length records₀

-- at the start: the index's front is zeros
pub step_start : (s index₀ : List ℕ) (records₀ : List Bracket) → Enough s (length index₀) (length records₀) → (c : Scan) → Start c → {front : List ℕ}
    → front ≡ replicate (length (take (length s) index₀)) 0 → Stepped s index₀ records₀ c (front ++ drop (length s) index₀) records₀
step_start s index₀ records₀ n c e f =
    let i = fill_front 0 (length s) index₀ n.wide f in
    record {
      enough = n;
      known = rw (start_is c e, i) (build_start s index₀ records₀ n.wide n.long);
      same_index = rw i (length_filled 0 0 (length s) index₀);
      same_records = refl;
    }

module _ (s index₀ : List ℕ) (records₀ : List Bracket) (c : Scan) (index : List ℕ) (records : List Bracket) (f : Stepped s index₀ records₀ c index records) where
  -- a turn can be taken
  pub step_ready : c.at < length s → Ready s c index records
  unfolding unread
  step_ready h =
      let n = f.enough in
      let place = place_in s index₀ records₀ n.wide n.long c index records f.known h in
      record {
        fine = fine s index₀ records₀ n.wide n.long c index records f.known (lt-ltb c.at (length s) h) n.short;
        read = read_in s index₀ records₀ n.wide n.long c index records f.known h;
        slot = slot_in s index₀ records₀ n.wide n.long c index records f.known h;
        place = let e = f.same_index in let l = n.wide in omega arith;
      }

  -- it leaves less of the text
  pub step_less : {c' : Scan} → c.at < length s → c' ≡ (turn_at s c records).next → length s - c'.at < length s - c.at
  step_less h e = let far = turn_far s c records in rw e (omega arith)

  -- after it
  pub step_next : {c' : Scan} {index' : List ℕ} {records' : List Bracket} → c.at < length s → c' ≡ (turn_at s c records).next
      → index' ≡ step_index (turn_at s c records) index → records' ≡ step_records (turn_at s c records) records
      → length index' ≡ length index → length records' ≡ length records → Stepped s index₀ records₀ c' index' records'
  step_next h e i r li lr = record {
    enough = f.enough;
    known = rw (e, i, r) (build_turn s index₀ records₀ f.enough.wide f.enough.long c index records f.known h);
    same_index = li ∙ f.same_index;
    same_records = lr ∙ f.same_records;
  }

  -- where the loop is left
  pub step_end : length s ≤ c.at → (b : Bracket) → Zero b → {front : List Bracket} → front ≡ replicate (length (take (length s) records)) b
      → ◌≡◌ {A = Both} (index, front ++ drop (length s) records) (built s index₀ records₀)
  step_end h b z e =
      let l = f.same_records in
      let n = f.enough.long in
      rw (fill_front blank (length s) records (omega arith) (rw (blank_is b z) at e)) (build_end s index₀ records₀ f.enough.wide n c index records f.known h)
