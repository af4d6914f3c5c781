-- Reading then writing: the graph of an accepted record is well formed, and its record is the bytes that were read.
use Prim.Native.Nat.{ℕ, ◌+◌, ◌-◌, ◌*◌, ◌/◌, ◌%◌, ◌^◌, ◌≤◌, ◌<◌}
use mathlib.Core.Path.{◌≡◌, refl, sym, ap, ◌∙◌}
use mathlib.Core.List.{List, ◌++◌}
use native.Mathlib.Omega.{arith}
use borrow.Author.Tests.{eqb-false}
use lib.ListN.{length, get_or, take, drop, take-append-drop}
use lib.Seq.{ext_get_or, get_or-take, length-take-le}
use Rattle.laws.specs.Compared.{by_below}
use Rattle.laws.specs.Bit.{bit}
use Rattle.laws.specs.Num.{num, num_below, num_same, num_bit, num_own, zeros_of_num}
use Rattle.laws.specs.First.{first_none}
use Rattle.laws.specs.UpToLaws.{word_bit, word_past}
use Rattle.graph.specs.Graph.{drawn}
use Rattle.graph.specs.Answers.{no_graph}
use Rattle.graph.specs.WellFormed.{WellFormed}
use Rattle.pairs.specs.Pairs.{Pair, pair_count, number, pair_of, Between}
use Rattle.graph.specs.Counts.{entry_at}
use Rattle.pairs.proofs.PairLaws.{number_low, number_high, number_pair_of, pair_of_between}
use Rattle.rows.proofs.Mirrored.{mirrored_above}
use Rattle.graph.proofs.Drawn.{drawn_entry, drawn_formed}
use Rattle.refusal.specs.Numbers.{refusal_told, value_told}
use Rattle.record.specs.Layout.{start_place, entry_place, bit_count, byte_count}
use Rattle.fields.specs.Bits.{bit_of}
use Rattle.record.specs.Reading.{order_in, start_in, starts_in, numbered_in, entry_in, is_refused, refused_in, pad_in, graph_in, Bytes}
use Rattle.record.specs.Writing.{entry_bit, record_bit, record_of}
use Rattle.record.specs.Answers.{read_answer, taken_from, rest_of}
use Rattle.fields.proofs.BitLaws.{bit_small}
use Rattle.record.proofs.StartLaws.{start_first, start_later, start_at_most}
use Rattle.record.proofs.WriteLaws.{bit_of_order, bit_of_start, bit_of_entry, bit_of_pad}
use Rattle.record.proofs.SizeLaws.{bytes_low, bytes_high}
use Rattle.record.proofs.Accepted.{Accepted, accepted_at, read_accepted}
use Rattle.record.proofs.RecordBits.{record_length, byte_held}

-- bits that hold an accepted record
module _ (f : ℕ → ℕ) (small : (k : ℕ) → f k < 2) (given : ℕ) (a : Accepted f (order_in f) given) where
  -- no entry that is read is 11
  numbered_small : (m : ℕ) → 1 ≤ m → m ≤ pair_count (order_in f) → numbered_in f (order_in f) m ≤ 2
  unfolding refused_in is_refused numbered_in
  numbered_small m l h =
      let least : num f (entry_place (order_in f) m) 2 < 2 ^ 2 = num_below f small (entry_place (order_in f) m) 2 in
      let never = eqb-false (numbered_in f (order_in f) m) 3 (first_none (is_refused f (order_in f)) (pair_count (order_in f)) a.none_refused m l h) in
      omega arith

  -- nor by its pair
  entries_small : (i j : ℕ) → 1 ≤ i → i < j → j ≤ order_in f → entry_in f (order_in f) i j ≤ 2
  unfolding entry_in
  entries_small i j l m h =
      numbered_small (number (order_in f) i j) (number_low (order_in f) i j m) (number_high (order_in f) i j l m h)

  -- the graph that is read is well formed
  graph_formed : WellFormed (graph_in f)
  unfolding graph_in starts_in
  graph_formed =
      drawn_formed (order_in f) (starts_in f (order_in f)) (entry_in f (order_in f)) a.low a.high
      (word_bit (start_in f) (order_in f) 1 (λ k l h. start_at_most f small k) (omega arith) a.low ∙ sym (start_first f 1 refl))
      (λ v h. word_past (start_in f) (order_in f) v (λ k l m. start_at_most f small k) h)
      entries_small

  -- ---- its record has the bits that were read

  -- the bits of the order
  order_same : (k : ℕ) → k < 6 → record_bit (graph_in f) k ≡ f k
  unfolding graph_in drawn order_in
  order_same k h =
      let e : 0 + k ≡ k = omega arith in
      sym (bit_of_order (graph_in f) k h) ∙ num_bit f small 0 6 k h ∙ ap f e

  -- the bits of the block starts
  start_same : (k : ℕ) → 6 ≤ k → k < entry_place (order_in f) 1 → record_bit (graph_in f) k ≡ f k
  unfolding graph_in drawn starts_in
  start_same k l h =
      let v : ℕ = k - 4 in
      let back : k - 5 ≡ v - 1 = omega arith in
      let place : 6 + (v - 2) ≡ k = omega arith in
      sym (bit_of_start (graph_in f) k l (entry_place (order_in f) 1) refl h) ∙ ap (λ (x : ℕ). bit (starts_in f (order_in f)) x) back
      ∙ word_bit (start_in f) (order_in f) v (λ x y z. start_at_most f small x) (omega arith) (omega arith)
      ∙ sym (start_later f v (f (start_place v)) (λ (q : v ≡ 1). omega arith) refl) ∙ ap f place

  -- the entry of the graph at the pair with number m
  numbered_same : (m : ℕ) → 1 ≤ m → m ≤ pair_count (order_in f) → entry_at (graph_in f) (pair_of (order_in f) m) ≡ numbered_in f (order_in f) m
  unfolding graph_in entry_in
  numbered_same m l h = at (pair_of (order_in f) m) (pair_of_between (order_in f) m l h) (number_pair_of (order_in f) m l h)
    where
      at : (k : Pair) → Between 1 (order_in f) k → number (order_in f) k.row k.column ≡ m → entry_at (graph_in f) k ≡ numbered_in f (order_in f) m
      at k b e =
          drawn_entry (order_in f) (starts_in f (order_in f)) (entry_in f (order_in f)) (λ i j x y z. omega (arith, entries_small i j x y z)) k.row
          k.column b.from_low (omega arith) (omega arith) b.to_high
          ∙ mirrored_above (entry_in f (order_in f)) k.row k.column b.rising ∙ ap (numbered_in f (order_in f)) e

  -- the bits of the entries
  entry_same : (k : ℕ) → 6 ≤ k → entry_place (order_in f) 1 ≤ k → k < bit_count (order_in f) → record_bit (graph_in f) k ≡ f k
  unfolding graph_in drawn entry_bit numbered_in bit_count
  entry_same k past l h =
      let t : ℕ = k - entry_place (order_in f) 1 in
      let m : ℕ = t / 2 + 1 in
      let place : entry_place (order_in f) m + t % 2 ≡ k = omega arith in
      sym (bit_of_entry (graph_in f) k past (entry_place (order_in f) 1) refl l (bit_count (order_in f)) refl (entry_bit (graph_in f) t) h refl)
      ∙ ap (λ (x : ℕ). bit x (1 - t % 2)) (numbered_same m (omega arith) (omega arith))
      ∙ num_bit f small (entry_place (order_in f) m) 2 (t % 2) (omega arith) ∙ ap f place

  -- the padding
  pad_same : (k : ℕ) → bit_count (order_in f) ≤ k → k < 8 * byte_count (order_in f) → record_bit (graph_in f) k ≡ f k
  unfolding graph_in drawn pad_in bit_count
  pad_same k l h =
      let e : bit_count (order_in f) + (k - bit_count (order_in f)) ≡ k = omega arith in
      sym (bit_of_pad (graph_in f) k (omega arith) (entry_place (order_in f) 1) refl (omega arith) (bit_count (order_in f)) refl l)
      ∙ sym (zeros_of_num f (bit_count (order_in f)) (8 * byte_count (order_in f) - bit_count (order_in f)) a.pad_clear (k - bit_count (order_in f)) (omega arith))
      ∙ ap f e

  -- each bit
  bit_same : (k : ℕ) → k < 8 * byte_count (order_in f) → record_bit (graph_in f) k ≡ f k
  bit_same k h =
      by_below k 6 (order_same k)
      (λ (past : 6 ≤ k).
      by_below k (entry_place (order_in f) 1) (start_same k past)
      (λ (later : entry_place (order_in f) 1 ≤ k).
      by_below k (bit_count (order_in f)) (entry_same k past later) (λ (l : bit_count (order_in f) ≤ k). pad_same k l h)))

-- ---- the theorems

-- a byte is made of its bits
byte_bits : (s : List ℕ) → Bytes s → (k : ℕ) → num (bit_of s) (8 * k) 8 ≡ get_or s k 0
unfolding bit_of
byte_bits s b k =
    num_own (bit_of s) (8 * k) 8 (get_or s k 0) (b.small k)
    (λ t h.
    let q : (8 * k + t) / 8 ≡ k = omega arith in
    let r : (8 * k + t) % 8 ≡ t = omega arith in
    rw (q, r))

module _ (s : List ℕ) (fine : refusal_told (read_answer s) ≡ 0) where
  -- the record was accepted
  found : Accepted (bit_of s) (order_in (bit_of s)) (length s)
  found = read_accepted s fine

  -- its graph is the one in its bits
  graph_is : value_told no_graph (read_answer s) ≡ graph_in (bit_of s)
  unfolding read_answer
  graph_is = rw (accepted_at s found)

  -- what follows it starts after its bytes
  rest_is : rest_of s ≡ drop (byte_count (order_in (bit_of s))) s
  unfolding rest_of
  rest_is = rw (accepted_at s found)

  -- its bytes are the record of its graph
  record_is : Bytes s → record_of (graph_in (bit_of s)) ≡ take (byte_count (order_in (bit_of s))) s
  unfolding graph_in drawn
  record_is b =
      let long : length (record_of (graph_in (bit_of s))) ≡ byte_count (order_in (bit_of s)) = record_length (graph_in (bit_of s)) in
      ext_get_or 0 (record_of (graph_in (bit_of s))) (take (byte_count (order_in (bit_of s))) s)
      (long ∙ sym (length-take-le (byte_count (order_in (bit_of s))) s found.room))
      (λ i h.
      byte_held (graph_in (bit_of s)) i (omega arith)
      ∙ num_same (record_bit (graph_in (bit_of s))) (bit_of s) (8 * i) (8 * i) 8
      (λ t l. bit_same (bit_of s) (bit_small s) (length s) found (8 * i + t) (omega arith))
      ∙ byte_bits s b i ∙ sym (get_or-take (byte_count (order_in (bit_of s))) s i 0 (omega arith)))

  -- an accepted graph is well formed
  pub read_formed : WellFormed (value_told no_graph (read_answer s))
  read_formed = rw graph_is (graph_formed (bit_of s) (bit_small s) (length s) found)

  -- an accepted record is what writing its graph gives, up to what follows
  pub read_written : Bytes s → record_of (value_told no_graph (read_answer s)) ++ rest_of s ≡ s
  read_written b = rw (graph_is, rest_is, record_is b) (take-append-drop (byte_count (order_in (bit_of s))) s)

  -- an accepted record takes from 1 to 129 bytes
  pub read_takes : (1 ≤ taken_from s) × (taken_from s ≤ 129)
  read_takes = rw (accepted_at s found) (bytes_low (order_in (bit_of s)), bytes_high (order_in (bit_of s)) found.high)
