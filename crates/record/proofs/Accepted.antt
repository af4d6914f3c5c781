-- What an accepted record is, and the answers of reading by it.
use Prim.Native.Nat.{ℕ, ◌≤◌}
use mathlib.Core.Path.{◌≡◌, refl, sym, ap, ◌∙◌}
use mathlib.Core.Bool.{Bool, true, false}
use mathlib.Core.List.{List}
use native.Mathlib.Omega.{arith}
use borrow.Author.Tests.{le-leb, leb-true, eq-eqb, eqb-true}
use lib.ListN.{length}
use lib.Dec.{leb, eqb}
use Rattle.std.specs.Prelude.{Result, Ok, Err, is_ok}
use Rattle.std.specs.Result.{result_and}
use Rattle.std.proofs.lemmas.Bool.{false≢true}
use Rattle.laws.specs.Test.{unless}
use Rattle.refusal.specs.declared.Refusal.{Refusal}
use Rattle.refusal.specs.declared.Refusal.TheVariants.{PastTheBytes, Order, Entry, Pad}
use Rattle.refusal.specs.Numbers.{refusal_told}
use Rattle.refusal.proofs.NumberLaws.{number_range}
use Rattle.graph.specs.declared.Graph.{Graph}
use Rattle.pairs.specs.Vertices.{order_fits}
use Rattle.pairs.proofs.VertexLaws.{order_in_range, order_tested}
use Rattle.record.specs.Layout.{byte_count}
use Rattle.fields.specs.Bits.{bit_of}
use Rattle.record.specs.Reading.{order_in, refused_in, pad_in, graph_in}
use Rattle.record.specs.Answers.{record_in, record_at, read_answer}

-- a record of order n, whose bits f gives, that passes every check where so many bytes are given
pub record Accepted (f : ℕ → ℕ) (n given : ℕ) : Type 0 where
  pub some : 1 ≤ given
  pub low : 1 ≤ n
  pub high : n ≤ 32
  pub room : byte_count n ≤ given
  pub none_refused : refused_in f n ≡ 0
  pub pad_clear : pad_in f n ≡ 0

-- a check that does not refuse holds
passes : (t : Bool) (e : Refusal) (rest : Result ℕ Refusal) → is_ok (unless t (Err e) rest) ≡ true → (t ≡ true) × (is_ok rest ≡ true)
unfolding unless
passes true e rest h = (refl, h)
passes false e rest h = absurd (false≢true h)

-- what is not refused is accepted
pub is_accepted : (f : ℕ → ℕ) (n given : ℕ) → is_ok (record_in f n given) ≡ true → Accepted f n given
unfolding record_in
is_accepted f n given e =
    let a = passes (leb 1 given) (PastTheBytes given) _ e in
    let b = passes (order_fits n) (Order n) _ a.1 in
    let c = passes (leb (byte_count n) given) (PastTheBytes given) _ b.1 in
    let d = passes (eqb (refused_in f n) 0) (Entry (refused_in f n)) _ c.1 in
    let p = passes (eqb (pad_in f n) 0) Pad _ d.1 in
    record {
      some = leb-true 1 given a.0;
      low = (order_in_range n b.0).0;
      high = (order_in_range n b.0).1;
      room = leb-true (byte_count n) given c.0;
      none_refused = eqb-true (refused_in f n) 0 d.0;
      pad_clear = eqb-true (pad_in f n) 0 p.0;
    }

-- and what is accepted takes the bytes of its order
pub accepted_at : (s : List ℕ) → Accepted (bit_of s) (order_in (bit_of s)) (length s) → record_at s ≡ Ok (byte_count (order_in (bit_of s)))
unfolding record_at record_in unless
accepted_at s a =
    rw (
      le-leb 1 (length s) a.some,
      order_tested (order_in (bit_of s)) a.low a.high,
      le-leb (byte_count (order_in (bit_of s))) (length s) a.room,
      eq-eqb (refused_in (bit_of s) (order_in (bit_of s))) 0 a.none_refused,
      eq-eqb (pad_in (bit_of s) (order_in (bit_of s))) 0 a.pad_clear,
    )

-- ---- the answer of reading

-- a record that is not refused
module _ (s : List ℕ) (r : Result ℕ Refusal) (n : ℕ) (is_r : r ≡ record_at s) (e : r ≡ Ok n) where
  accepted : Accepted (bit_of s) (order_in (bit_of s)) (length s)
  unfolding record_at
  accepted = is_accepted (bit_of s) (order_in (bit_of s)) (length s) (ap is_ok (sym is_r ∙ e))

  -- has an order in range
  pub found_low : 1 ≤ order_in (bit_of s)
  found_low = accepted.low

  pub found_high : order_in (bit_of s) ≤ 32
  found_high = accepted.high

-- reading that tells no refusal found a record
pub read_accepted : (s : List ℕ) → refusal_told (read_answer s) ≡ 0 → Accepted (bit_of s) (order_in (bit_of s)) (length s)
unfolding read_answer record_at
read_accepted s h = is_accepted (bit_of s) (order_in (bit_of s)) (length s) (given (record_at s) (graph_in (bit_of s)) h)
  where
    given : (r : Result ℕ Refusal) (g : Graph) → refusal_told (result_and r (Ok g)) ≡ 0 → is_ok r ≡ true
    given (Ok n) g h = refl
    given (Err e) g h = absurd (omega (arith, number_range e))
