-- What is told of records fits the places that it has in an answer.
use Prim.Native.Nat.{ℕ, zero, suc, ◌≤◌, ◌<◌}
use native.Mathlib.Omega.{arith}
use mathlib.Core.Path.{◌≡◌, refl}
use mathlib.Core.Bool.{Bool, true, false}
use mathlib.Core.List.{List}
use borrow.Author.Tests.{leb-false}
use lib.ListN.{length}
use lib.Dec.{eqb, leb}
use Rattle.std.specs.Prelude.{Result, Ok, Err}
use Rattle.std.specs.Result.{result_and}
use Rattle.laws.specs.Test.{unless}
use Rattle.refusal.specs.declared.Refusal.{Refusal}
use Rattle.refusal.specs.declared.Refusal.TheVariants.{PastTheBytes, Order, Entry, Pad, OutputRoom, Malformed}
use Rattle.refusal.specs.Numbers.{refusal_told, place_told, value_told}
use Rattle.laws.specs.Num.{num_below}
use Rattle.graph.specs.declared.Graph.{Graph}
use Rattle.graph.specs.WellFormed.{well_formed}
use Rattle.pairs.specs.Vertices.{order_fits}
use Rattle.pairs.specs.Pairs.{pair_count}
use Rattle.graph.proofs.Formed.{formed}
use Rattle.pairs.proofs.VertexLaws.{order_in_range}
use Rattle.pairs.proofs.PairLaws.{pair_count_mono}
use Rattle.record.specs.Layout.{byte_count}
use Rattle.fields.specs.Bits.{bit_of}
use Rattle.record.specs.Reading.{order_in, refused_in, pad_in, graph_in}
use Rattle.record.specs.Answers.{record_in, record_at, read_answer, write_answer}
use Rattle.fields.proofs.BitLaws.{bit_small}
use Rattle.record.proofs.Refused.{first_refused}
use Rattle.record.proofs.SizeLaws.{bytes_high}
use Rattle.judging.specs.Answer.{told, without}
use Rattle.packing.proofs.Bounds.{Bounded, judged_bounded}
use Rattle.cafruzek.specs.Answers.{judge_read, judge_record}

-- ---- records

-- what holds of the refusal where a check fails, and of the rest where it passes, holds after it
check : {A : Type 0} (P : A → Type 0) (t : Bool) (refusal rest : A) → (t ≡ false → P refusal) → (t ≡ true → P rest) → P (unless t refusal rest)
unfolding unless
check P true refusal rest p q = q refl
check P false refusal rest p q = p refl

-- the pair with an entry 11 has a number up to 496
refused_small : (f : ℕ → ℕ) (n : ℕ) → n ≤ 32 → refused_in f n ≤ 496
refused_small f n within = go (refused_in f n) refl
  where
    go : (m : ℕ) → refused_in f n ≡ m → m ≤ 496
    go zero e = omega arith
    go (suc k) e =
        let high = (first_refused f n k e).high in
        let most : pair_count n ≤ 496 = pair_count_mono n 32 within in
        omega arith

-- reading refuses by a number up to 4, with a place up to 496, and a record takes at most 129 bytes
abbrev SmallExtent : Result ℕ Refusal → Type 0
SmallExtent r = (refusal_told r ≤ 4) × (place_told r ≤ 496) × (value_told 0 r ≤ 129)

-- by the checks one after the other
in_small : (f : ℕ → ℕ) (n given : ℕ) → n < 64 → SmallExtent (record_in f n given)
unfolding record_in
in_small f n given h =
    check SmallExtent (leb 1 given) (Err (PastTheBytes given)) _ (λ e. omega (arith, leb-false 1 given e)) (λ e.
    check SmallExtent (order_fits n) (Err (Order n)) _ (λ e. omega arith) (λ e.
    let within : n ≤ 32 = (order_in_range n e).1 in
    check SmallExtent (leb (byte_count n) given) (Err (PastTheBytes given)) _ (λ e. omega (arith, leb-false (byte_count n) given e, bytes_high n within)) (λ e.
    check SmallExtent (eqb (refused_in f n) 0) (Err (Entry (refused_in f n))) _ (λ e. omega (arith, refused_small f n within)) (λ e.
    check SmallExtent (eqb (pad_in f n) 0) (Err Pad) (Ok (byte_count n)) (λ e. omega arith) (λ e.
    omega (arith, bytes_high n within))))))

-- of the record at the start of some bytes
pub extent_small : (s : List ℕ) → (refusal_told (record_at s) ≤ 4) × (place_told (record_at s) ≤ 496) × (value_told 0 (record_at s) ≤ 129)
unfolding record_at order_in
extent_small s = in_small (bit_of s) (order_in (bit_of s)) (length s) (num_below (bit_of s) (bit_small s) 0 6)

-- and so does reading its graph
pub read_small : (s : List ℕ) → (refusal_told (read_answer s) ≤ 4) × (place_told (read_answer s) ≤ 496)
unfolding read_answer
read_small s = alike (record_at s) (graph_in (bit_of s)) (extent_small s)
  where
    alike : (r : Result ℕ Refusal) (g : Graph) → SmallExtent r → (refusal_told (result_and r (Ok g)) ≤ 4) × (place_told (result_and r (Ok g)) ≤ 496)
    alike (Ok n) g small = omega arith
    alike (Err e) g small = (small.0, small.1)

-- writing refuses by a number up to 8, with place 0, and writes at most 129 bytes
abbrev SmallWritten : Result ℕ Refusal → Type 0
SmallWritten r = (refusal_told r ≤ 8) × (place_told r ≡ 0) × (value_told 0 r ≤ 129)

-- by the checks one after the other
pub written_small : (g : Graph) (out : List ℕ) → (refusal_told (write_answer g out) ≤ 8) × (place_told (write_answer g out) ≡ 0) × (value_told 0 (write_answer g out) ≤ 129)
unfolding write_answer
written_small g out =
    check SmallWritten (well_formed g) (Err Malformed) _ (λ e. omega arith) (λ well.
    check SmallWritten (leb (byte_count g.order) (length out)) (Err OutputRoom) (Ok (byte_count g.order)) (λ e. omega arith) (λ e.
    omega (arith, bytes_high g.order (formed g well).order_high)))

-- ---- judgements

-- judging a record stays within the bounds of judging
pub record_bounded : (mode : ℕ) (s : List ℕ) (budget room : ℕ) → Bounded budget (judge_record mode s budget room)
unfolding judge_read told without
record_bounded mode s budget room = go (read_answer s) (read_small s)
  where
    go : (r : Result Graph Refusal) → (refusal_told r ≤ 4) × (place_told r ≤ 496) → Bounded budget (judge_read mode r budget room)
    go (Ok g) small = judged_bounded mode g budget room
    go (Err e) small = omega arith
