-- What a refusal says, and what it leaves.
use Prim.Native.Nat.{ℕ, suc, ◌+◌, ◌-◌, ◌*◌, ◌≤◌, ◌<◌}
use mathlib.Core.Path.{◌≡◌, refl, ap, ◌∙◌}
use mathlib.Core.Bool.{Bool, true, false}
use mathlib.Core.List.{List, ◌++◌}
use native.Mathlib.Omega.{arith}
use borrow.Author.Tests.{eqb-true, eqb-false}
use lib.ListN.{length, drop}
use lib.Dec.{leb}
use Rattle.std.specs.Prelude.{Result, Ok, Err}
use Rattle.std.specs.Result.{result_and, ResultUnwrapsOrElse}
use Rattle.laws.specs.Test.{unless}
use Rattle.refusal.specs.declared.Refusal.{Refusal}
use Rattle.refusal.specs.declared.Refusal.TheVariants.{OutputRoom, Malformed}
use Rattle.refusal.specs.Numbers.{refusal_told, value_told}
use Rattle.refusal.proofs.NumberLaws.{default_told}
use Rattle.laws.specs.Num.{zeros_of_num, num_of_zeros}
use Rattle.laws.specs.First.{first_is}
use Rattle.graph.specs.declared.Graph.{Graph}
use Rattle.graph.specs.Answers.{no_graph}
use Rattle.graph.specs.WellFormed.{well_formed}
use Rattle.pairs.specs.Pairs.{pair_count}
use Rattle.record.specs.Layout.{bit_count, byte_count}
use Rattle.fields.specs.Bits.{bit_of}
use Rattle.record.specs.Reading.{numbered_in, is_refused, refused_in, pad_in, graph_in, FirstRefused}
use Rattle.record.specs.Writing.{record_of}
use Rattle.record.specs.Answers.{record_at, read_answer, rest_of, write_answer, buffer_after}

-- ---- reading

-- a record that is refused takes no bytes, and gives no graph
refused_takes : (r : Result ℕ Refusal) (g : Graph) → (refusal_told (result_and r (Ok g)) ≡ 0 → ⊥) → value_told 0 r ≡ 0
refused_takes (Ok n) g refused = absurd (refused refl)
refused_takes (Err e) g refused = refl

refused_gives : {A : Type 0} (none : A) (r : Result A Refusal) → (refusal_told r ≡ 0 → ⊥) → value_told none r ≡ none
refused_gives none (Ok x) refused = absurd (refused refl)
refused_gives none (Err e) refused = refl

module _ (s : List ℕ) (refused : refusal_told (read_answer s) ≡ 0 → ⊥) where
  -- a refused reading hands back all the bytes
  pub refused_rest : rest_of s ≡ s
  unfolding rest_of read_answer
  refused_rest = ap (λ (n : ℕ). drop n s) (refused_takes (record_at s) (graph_in (bit_of s)) refused)

  -- and gives the graph of order 0, all zeros
  pub refused_graph : value_told no_graph (read_answer s) ≡ no_graph
  refused_graph = refused_gives no_graph (read_answer s) refused

  -- which is what a caller has by the library's `unwrap_or_default`
  pub refused_read : (g : Graph) → ResultUnwrapsOrElse (read_answer s) (λ h. h ≡ no_graph) g → g ≡ no_graph
  refused_read g is_given = default_told no_graph (read_answer s) g is_given ∙ refused_graph

-- what reading finds is the first
pub first_refused : (f : ℕ → ℕ) (n k : ℕ) → refused_in f n ≡ suc k → FirstRefused f n (suc k)
unfolding refused_in is_refused
first_refused f n k e =
    let i = first_is (is_refused f n) (pair_count n) k e in
    record {
      low = i.low;
      high = i.high;
      entry_refused = eqb-true (numbered_in f n (suc k)) 3 i.holds;
      none_before = λ j l h. eqb-false (numbered_in f n j) 3 (i.none_before j l h);
    }

-- the padding passes exactly where each of its bits is 0
pub pad_zeros : (f : ℕ → ℕ) (n : ℕ) → pad_in f n ≡ 0 → (k : ℕ) → bit_count n ≤ k → k < 8 * byte_count n → f k ≡ 0
unfolding pad_in
pad_zeros f n e k l h =
    let place : bit_count n + (k - bit_count n) ≡ k = omega arith in
    rw place at (zeros_of_num f (bit_count n) (8 * byte_count n - bit_count n) e (k - bit_count n) (omega arith))

-- the other way
pub zeros_pad : (f : ℕ → ℕ) (n : ℕ) → ((k : ℕ) → bit_count n ≤ k → k < 8 * byte_count n → f k ≡ 0) → pad_in f n ≡ 0
unfolding pad_in
zeros_pad f n zeros =
    num_of_zeros f (bit_count n) (8 * byte_count n - bit_count n) (λ t h. zeros (bit_count n + t) (omega arith) (omega arith))

-- ---- writing

-- the buffer by the checks one after the other
stays : (t u : Bool) (size : ℕ) (out after : List ℕ) → (refusal_told (unless t (Err Malformed) (unless u (Err OutputRoom) (Ok size))) ≡ 0 → ⊥)
    → unless t out (unless u out after) ≡ out
unfolding unless
stays true true size out after refused = absurd (refused refl)
stays true false size out after refused = refl
stays false u size out after refused = refl

-- a refused writing leaves every byte
pub refused_buffer : (g : Graph) (out : List ℕ) → (refusal_told (write_answer g out) ≡ 0 → ⊥) → buffer_after g out ≡ out
unfolding write_answer buffer_after
refused_buffer g out refused =
    stays (well_formed g) (leb (byte_count g.order) (length out)) (byte_count g.order) out (record_of g ++ drop (byte_count g.order) out) refused
