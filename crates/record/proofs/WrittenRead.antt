-- Writing then reading: what was written reads as the graph again, whatever stands after it, and what stood after it is handed back.
use Prim.Native.Nat.{ℕ, ◌+◌, ◌-◌, ◌*◌, ◌≤◌, ◌<◌}
use mathlib.Core.Path.{◌≡◌, refl, sym, ap, ◌∙◌}
use mathlib.Core.Logic.{⊎_elim}
use mathlib.Core.Bool.{Bool, true, false}
use mathlib.Core.List.{List, ◌++◌}
use native.Mathlib.Nat.{eq-or-lt_of_le}
use native.Mathlib.Omega.{arith}
use borrow.Author.Tests.{ne_eqb}
use lib.Dec.{leb}
use lib.ListN.{length, drop, length-append}
use lib.Seq.{drop_at}
use Rattle.std.specs.Prelude.{Ok, Err}
use Rattle.laws.specs.Test.{unless}
use Rattle.refusal.specs.declared.Refusal.TheVariants.{OutputRoom, Malformed}
use Rattle.refusal.specs.Numbers.{refusal_told}
use Rattle.laws.specs.Num.{num, num_same, num_of_zeros}
use Rattle.laws.specs.First.{none_first}
use Rattle.laws.specs.Bit.{bit}
use Rattle.laws.specs.UpToLaws.{word_of_bits}
use Rattle.graph.specs.declared.Graph.{Graph}
use Rattle.graph.specs.Graph.{entry, drawn}
use Rattle.rows.specs.Rows.{start_at}
use Rattle.graph.specs.WellFormed.{WellFormed, well_formed}
use Rattle.pairs.specs.Pairs.{pair_count, number, pair_of}
use Rattle.graph.specs.Counts.{entry_at}
use Rattle.pairs.proofs.PairLaws.{pair_of_number, number_low, number_high}
use Rattle.graph.proofs.Rows.{starts_below}
use Rattle.graph.proofs.Formed.{formed}
use Rattle.graph.proofs.Drawn.{drawn_same, drawn_itself}
use Rattle.record.specs.Layout.{start_place, entry_place, bit_count, byte_count}
use Rattle.fields.specs.Bits.{bit_of}
use Rattle.record.specs.Reading.{order_in, start_in, starts_in, numbered_in, entry_in, is_refused, refused_in, pad_in, graph_in}
use Rattle.record.specs.Writing.{record_bit, record_of}
use Rattle.record.specs.Answers.{record_at, read_answer, rest_of, write_answer, buffer_after}
use Rattle.record.proofs.StartLaws.{start_first, start_later}
use Rattle.record.proofs.Accepted.{Accepted, accepted_at}
use Rattle.record.proofs.RecordBits.{bits_in_bytes, order_held, start_held, entry_held, pad_held, record_length, bits_held}

-- bits that are those of the record of a well-formed graph, as far as its bytes go
module _ (g : Graph) (w : WellFormed g) (f : ℕ → ℕ) (held : (k : ℕ) → k < 8 * byte_count g.order → f k ≡ record_bit g k) where
  -- a number in these bits is one in the record
  same_number : (a n : ℕ) → a + n ≤ 8 * byte_count g.order → num f a n ≡ num (record_bit g) a n
  same_number a n h = num_same f (record_bit g) a a n (λ t l. held (a + t) (omega arith))

  -- the order
  order_read : order_in f ≡ g.order
  unfolding order_in bit_count
  order_read =
      same_number 0 6 (omega (arith, bits_in_bytes g.order))
      ∙ order_held g (omega (arith, w.order_high))

  -- the block start of a vertex
  start_read : (v : ℕ) → 1 ≤ v → v ≤ g.order → start_in f v ≡ bit g.starts (v - 1)
  unfolding bit_count
  start_read v l h =
      ⊎_elim
      (λ (e : 1 ≡ v). sym (start_first f v (sym e)) ∙ sym w.first_starts ∙ ap (start_at g.starts) e)
      (λ (m : 1 < v).
      sym (start_later f v (f (start_place v)) (λ (e : v ≡ 1). omega arith) refl)
      ∙ held (start_place v) (omega (arith, bits_in_bytes g.order)) ∙ start_held g v m h)
      (eq-or-lt_of_le l)

  -- all block starts
  starts_read : starts_in f g.order ≡ g.starts
  unfolding starts_in
  starts_read = word_of_bits (start_in f) g.order g.starts (starts_below g w) start_read

  -- the entry of a pair by its number
  numbered_read : (m : ℕ) → 1 ≤ m → m ≤ pair_count g.order → numbered_in f g.order m ≡ entry_at g (pair_of g.order m)
  unfolding numbered_in bit_count
  numbered_read m l h =
      same_number (entry_place g.order m) 2 (omega (arith, bits_in_bytes g.order))
      ∙ entry_held g m w.order_low l h

  -- and by the pair
  entry_read : (i j : ℕ) → 1 ≤ i → i < j → j ≤ g.order → entry_in f g.order i j ≡ entry g i j
  unfolding entry_in
  entry_read i j l m h =
      numbered_read (number g.order i j) (number_low g.order i j m) (number_high g.order i j l m h)
      ∙ ap (entry_at g) (pair_of_number g.order i j l m h)

  -- no entry is 11
  none_refused : refused_in f g.order ≡ 0
  unfolding refused_in is_refused
  none_refused =
      none_first (is_refused f g.order) (pair_count g.order)
      (λ m l h. ne_eqb (numbered_in f g.order m) 3
      (λ e. omega (arith, numbered_read m l h, w.not_both (pair_of g.order m).row (pair_of g.order m).column)))

  -- the padding is clear
  pad_read : pad_in f g.order ≡ 0
  unfolding pad_in
  pad_read =
      num_of_zeros f (bit_count g.order) (8 * byte_count g.order - bit_count g.order)
      (λ t h. held (bit_count g.order + t) (omega arith) ∙ pad_held g (bit_count g.order + t) w.order_low (omega arith))

  -- so the graph is the same
  graph_read : graph_in f ≡ g
  unfolding graph_in
  graph_read =
      ap (λ (n : ℕ). drawn n (starts_in f n) (entry_in f n)) order_read
      ∙ ap (λ (x : ℕ). drawn g.order x (entry_in f g.order)) starts_read
      ∙ drawn_same g.order g.starts (entry_in f g.order) (entry g) entry_read ∙ drawn_itself g w

-- ---- the theorems

module _ (g : Graph) (w : WellFormed g) (after : List ℕ) where
  -- the order of the record that was written
  order_found : order_in (bit_of (record_of g ++ after)) ≡ g.order
  order_found = order_read g w (bit_of (record_of g ++ after)) (bits_held g after)

  -- the record passes every check
  written_accepted : Accepted (bit_of (record_of g ++ after)) g.order (length (record_of g ++ after))
  unfolding byte_count bit_count
  written_accepted =
      let long : length (record_of g ++ after) ≡ byte_count g.order + length after =
      length-append (record_of g) after ∙ ap (λ (n : ℕ). n + length after) (record_length g) in
      record {
        some = omega arith;
        low = w.order_low;
        high = w.order_high;
        room = omega arith;
        none_refused = none_refused g w (bit_of (record_of g ++ after)) (bits_held g after);
        pad_clear = pad_read g w (bit_of (record_of g ++ after)) (bits_held g after);
      }

  -- the record that was written is accepted, and takes its own bytes
  pub written_at : record_at (record_of g ++ after) ≡ Ok (byte_count g.order)
  written_at =
      accepted_at (record_of g ++ after) (rw order_found written_accepted)
      ∙ ap (λ (n : ℕ). Ok (byte_count n)) order_found

  -- it reads as the graph again
  pub written_read : read_answer (record_of g ++ after) ≡ Ok g
  unfolding read_answer
  written_read = rw written_at (ap (λ (x : Graph). Ok x) (graph_read g w (bit_of (record_of g ++ after)) (bits_held g after)))

  -- and what stood after it is handed back
  pub written_rest : rest_of (record_of g ++ after) ≡ after
  unfolding rest_of
  written_rest = rw written_at (drop_at (record_of g) after (byte_count g.order) (record_length g))

-- ---- the same of a buffer that was written to

-- where both checks pass
passes : (t u : Bool) (size : ℕ) → refusal_told (unless t (Err Malformed) (unless u (Err OutputRoom) (Ok size))) ≡ 0 → (t ≡ true) × (u ≡ true)
unfolding unless
passes true true size e = (refl, refl)
passes true false size e = absurd (omega arith)
passes false u size e = absurd (omega arith)

module _ (g : Graph) (out : List ℕ) (fine : refusal_told (write_answer g out) ≡ 0) where
  -- the graph is well formed and the buffer has room
  tests : (well_formed g ≡ true) × (leb (byte_count g.order) (length out) ≡ true)
  unfolding write_answer
  tests = passes (well_formed g) (leb (byte_count g.order) (length out)) (byte_count g.order) fine

  -- where writing does not refuse, the record stands at the buffer's start and nothing after it has changed
  pub buffer_is : buffer_after g out ≡ record_of g ++ drop (byte_count g.order) out
  unfolding buffer_after unless
  buffer_is = rw (tests.0, tests.1)

  -- reading the buffer gives the graph again
  pub buffer_read : read_answer (buffer_after g out) ≡ Ok g
  buffer_read = rw buffer_is (written_read g (formed g tests.0) (drop (byte_count g.order) out))

  -- and hands back what stood in it after the record
  pub buffer_rest : rest_of (buffer_after g out) ≡ drop (byte_count g.order) out
  buffer_rest = rw buffer_is (written_rest g (formed g tests.0) (drop (byte_count g.order) out))
