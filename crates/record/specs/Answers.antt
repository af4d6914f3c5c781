-- The full answer of each public function, with its refusals in the order of their checks.
use Rattle.std.specs.Prelude.{ℕ, ◌+◌, List, ◌++◌, length, drop, leb, eqb, Result, Ok, Err}
use Rattle.std.specs.Result.{result_and}
use Rattle.std.specs.Borrow.{Bor}
use Rattle.laws.specs.Test.{unless}
use Rattle.refusal.specs.declared.Refusal.{Refusal}
use Rattle.refusal.specs.declared.Refusal.TheVariants.{PastTheBytes, Order, Entry, Pad, OutputRoom, Malformed}
use Rattle.refusal.specs.Numbers.{value_told}
use Rattle.graph.specs.declared.Graph.{Graph}
use Rattle.graph.specs.WellFormed.{well_formed}
use Rattle.pairs.specs.Vertices.{order_fits}
use Rattle.record.specs.Layout.{byte_count}
use Rattle.fields.specs.Bits.{bit_of}
use Rattle.record.specs.Reading.{order_in, refused_in, pad_in, graph_in}
use Rattle.record.specs.Writing.{record_of}

-- ---- how many bytes a record takes

unfoldable pub size_answer : ℕ → Result ℕ Refusal
size_answer n = unless (order_fits n) (Err (Order n)) (Ok (byte_count n))

-- ---- reading

-- how many bytes a record of order n takes whose bits f gives, or why it is refused, where so many bytes are given
unfoldable pub record_in : (ℕ → ℕ) → ℕ → ℕ → Result ℕ Refusal
record_in f n given =
    unless (leb 1 given) (Err (PastTheBytes given))
    (unless (order_fits n) (Err (Order n))
    (unless (leb (byte_count n) given) (Err (PastTheBytes given))
    (unless (eqb (refused_in f n) 0) (Err (Entry (refused_in f n)))
    (unless (eqb (pad_in f n) 0) (Err Pad)
    (Ok (byte_count n))))))

-- the same of the record at the start of the bytes s
unfoldable pub record_at : List ℕ → Result ℕ Refusal
record_at s = record_in (bit_of s) (order_in (bit_of s)) (length s)

-- its graph, refused as the record is
unfoldable pub read_answer : List ℕ → Result Graph Refusal
read_answer s = result_and (record_at s) (Ok (graph_in (bit_of s)))

-- how many bytes reading takes from s, none where it refuses
abbrev pub taken_from : List ℕ → ℕ
taken_from s = value_told 0 (record_at s)

-- what follows the record, all of s where reading refuses
unfoldable pub rest_of : List ℕ → List ℕ
rest_of s = drop (taken_from s) s

-- where in memory that part begins: so many bytes after the caller's own begin
abbrev pub rest_place : Bor (List ℕ) → ℕ × ℕ
rest_place bytes = (bytes.ref_ptr.0, bytes.ref_ptr.1 + taken_from bytes.now)

-- ---- writing

unfoldable pub write_answer : Graph → List ℕ → Result ℕ Refusal
write_answer g out =
    unless (well_formed g) (Err Malformed)
    (unless (leb (byte_count g.order) (length out)) (Err OutputRoom)
    (Ok (byte_count g.order)))

-- the buffer afterwards
unfoldable pub buffer_after : Graph → List ℕ → List ℕ
buffer_after g out =
    unless (well_formed g) out
    (unless (leb (byte_count g.order) (length out)) out
    (record_of g ++ drop (byte_count g.order) out))
