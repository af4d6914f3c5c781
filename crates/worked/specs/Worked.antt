-- The worked graphs that are proved, as one table under one claim.
use Rattle.std.specs.Prelude.{ℕ, ◌-◌, ◌≡◌, refl, ℤ, pos, negsuc, length, get_or, drop, replicate, Result, Ok}
use mathlib.Core.List.{List, [], ◌∷◌, ◌++◌, map, flat_map}
use Rattle.laws.specs.Test.{both, either, pick, unless}
use Rattle.laws.specs.UpTo.{all_up_to, sum_up_to, word_up_to, list_up_to}
use Rattle.laws.specs.Chosen.{chosen_up_to}
use Rattle.laws.specs.Num.{num}
use Rattle.laws.specs.First.{first_up_to, or_else}
use Rattle.walk.specs.Walk.{move, ending, put, driven, walk}
use Rattle.walk.specs.Meeting.{meeting, met, listed, only, literal_at, literals_of}
use Rattle.walk.specs.Clause.{same_literal, among, numbered, clause_after, clause}
use Rattle.beginnings.specs.Beginning.{absent, may_follow, children}
use Rattle.beginnings.specs.Search.{where_open, subtree, subtrees, reached, on_won, try_all, searched}
use Rattle.beginnings.specs.Certificate.{with_first, completed}
use Rattle.needed.specs.Kept.{kept}
use Rattle.needed.specs.Enough.{is_won, enough, literals, needed}
use Rattle.schemes.specs.Judging.{walk_of, needed_by, written_by, judgement_of, judging, judged, found}
use Rattle.plain.specs.Plain.{same_pair, pair_of_two, judged_on, compared_in, judged_in}
use Rattle.pairs.specs.Vertices.{order_fits}
use Rattle.pairs.specs.Pairs.{along_row, from_row, pairs, pair_count, number}
use Rattle.pairs.specs.Columns.{down_column, columns}
use Rattle.rows.specs.Rows.{mirrored}
use Rattle.words.specs.Placed.{placed}
use Rattle.rows.specs.Fits.{pair_fits, row_fits, starts_fit}
use Rattle.graph.specs.declared.Graph.{Graph}
use Rattle.graph.specs.Graph.{drawn}
use Rattle.graph.specs.WellFormed.{well_formed}
use Rattle.fields.specs.Bits.{bit_of}
use Rattle.refusal.specs.declared.Refusal.{Refusal}
use Rattle.record.specs.Layout.{bit_count, byte_count}
use Rattle.record.specs.Reading.{order_in, start_in, starts_in, numbered_in, entry_in, is_refused, refused_in, pad_in, graph_in}
use Rattle.record.specs.Writing.{entry_bit, record_bit, record_byte, record_of}
use Rattle.record.specs.Answers.{record_in, record_at, read_answer, buffer_after}
use Rattle.judging.specs.declared.Verdict.{Verdict}
use Rattle.judging.specs.declared.Verdict.TheVariants.{Smaller, Nothing, Cut}
use Rattle.judging.specs.declared.Judged.{Judged}
use Rattle.judging.specs.Judging.{padded, certificate_of}
use Rattle.judging.specs.Answer.{without, winning_pair, smaller, answer_for, is_mode, judge_answer, at_start, judge_buffer}

-- a graph by its entries in row order with its record, a mode, a budget, and what judging it must give
record Case : Type 0 where
  order : ℕ
  starts : ℕ
  entries : List ℕ
  bytes : List ℕ
  mode : ℕ
  budget : ℕ
  verdict : Verdict
  arrangement : List ℕ
  literals : List ℤ

abbrev u : ℕ
u = 2

abbrev cases : List Case
cases =
    record { order = 1; starts = 1; entries = []; bytes = 0x04 ∷ []; mode = 1; budget = 1000; verdict = Nothing 1; arrangement = []; literals = [] }
    ∷ record { order = 2; starts = 1; entries = u ∷ []; bytes = 0x09 ∷ 0x00 ∷ []; mode = 1; budget = 1000; verdict = Nothing 4; arrangement = []; literals = [] }
    ∷ record { order = 2; starts = 1; entries = 1 ∷ []; bytes = 0x08 ∷ 0x80 ∷ []; mode = 1; budget = 1000; verdict = Nothing 4; arrangement = []; literals = [] }
    ∷ record { order = 3; starts = 1; entries = 1 ∷ 0 ∷ 0 ∷ []; bytes = 0x0c ∷ 0x40 ∷ []; mode = 1; budget = 1000; verdict = Smaller 1 2 4; arrangement = 1 ∷ 3 ∷ 2 ∷ []; literals = negsuc 0 ∷ pos 2 ∷ [] }
    ∷ record { order = 3; starts = 1; entries = 1 ∷ 0 ∷ 0 ∷ []; bytes = 0x0c ∷ 0x40 ∷ []; mode = 1; budget = 3; verdict = Cut 3; arrangement = []; literals = [] }
    ∷ record { order = 3; starts = 1; entries = 0 ∷ 0 ∷ 1 ∷ []; bytes = 0x0c ∷ 0x04 ∷ []; mode = 1; budget = 1000; verdict = Nothing 13; arrangement = []; literals = [] }
    ∷ record { order = 3; starts = 1; entries = 0 ∷ 1 ∷ 1 ∷ []; bytes = 0x0c ∷ 0x14 ∷ []; mode = 1; budget = 1000; verdict = Nothing 11; arrangement = []; literals = [] }
    ∷ record { order = 3; starts = 1; entries = 1 ∷ 1 ∷ 1 ∷ []; bytes = 0x0c ∷ 0x54 ∷ []; mode = 1; budget = 1000; verdict = Nothing 15; arrangement = []; literals = [] }
    ∷ record { order = 3; starts = 1; entries = 0 ∷ 1 ∷ 0 ∷ []; bytes = 0x0c ∷ 0x10 ∷ []; mode = 1; budget = 1000; verdict = Smaller 1 3 7; arrangement = 2 ∷ 1 ∷ 3 ∷ []; literals = negsuc 1 ∷ pos 3 ∷ [] }
    ∷ record { order = 3; starts = 1; entries = 1 ∷ 1 ∷ 0 ∷ []; bytes = 0x0c ∷ 0x50 ∷ []; mode = 1; budget = 1000; verdict = Smaller 1 3 8; arrangement = 2 ∷ 1 ∷ 3 ∷ []; literals = negsuc 1 ∷ pos 3 ∷ [] }
    ∷ record { order = 3; starts = 7; entries = 1 ∷ 0 ∷ 0 ∷ []; bytes = 0x0f ∷ 0x40 ∷ []; mode = 1; budget = 1000; verdict = Nothing 3; arrangement = []; literals = [] }
    ∷ record { order = 3; starts = 5; entries = 0 ∷ 1 ∷ 0 ∷ []; bytes = 0x0d ∷ 0x10 ∷ []; mode = 1; budget = 1000; verdict = Smaller 1 3 6; arrangement = 2 ∷ 1 ∷ 3 ∷ []; literals = negsuc 1 ∷ pos 3 ∷ [] }
    ∷ record { order = 3; starts = 1; entries = u ∷ u ∷ u ∷ []; bytes = 0x0c ∷ 0xa8 ∷ []; mode = 1; budget = 1000; verdict = Nothing 11; arrangement = []; literals = [] }
    ∷ record { order = 3; starts = 1; entries = 0 ∷ 1 ∷ u ∷ []; bytes = 0x0c ∷ 0x18 ∷ []; mode = 1; budget = 1000; verdict = Nothing 11; arrangement = []; literals = [] }
    ∷ record { order = 3; starts = 1; entries = 1 ∷ u ∷ 0 ∷ []; bytes = 0x0c ∷ 0x60 ∷ []; mode = 1; budget = 1000; verdict = Smaller 1 2 9; arrangement = 2 ∷ 3 ∷ 1 ∷ []; literals = negsuc 0 ∷ pos 3 ∷ [] }
    ∷ record { order = 4; starts = 1; entries = u ∷ 1 ∷ u ∷ u ∷ 0 ∷ 0 ∷ []; bytes = 0x10 ∷ 0x4d ∷ 0x00 ∷ []; mode = 1; budget = 1000; verdict = Smaller 1 3 13; arrangement = 2 ∷ 1 ∷ 4 ∷ 3 ∷ []; literals = negsuc 1 ∷ pos 5 ∷ [] }
    ∷ record { order = 4; starts = 1; entries = 0 ∷ u ∷ 0 ∷ 1 ∷ 0 ∷ 1 ∷ []; bytes = 0x10 ∷ 0x10 ∷ 0x88 ∷ []; mode = 1; budget = 1000; verdict = Smaller 2 3 6; arrangement = 1 ∷ 2 ∷ 4 ∷ 3 ∷ []; literals = pos 3 ∷ negsuc 3 ∷ pos 5 ∷ [] }
    ∷ record { order = 4; starts = 1; entries = u ∷ u ∷ 0 ∷ 1 ∷ 1 ∷ 0 ∷ []; bytes = 0x10 ∷ 0x50 ∷ 0xa0 ∷ []; mode = 1; budget = 1000; verdict = Smaller 2 4 10; arrangement = 1 ∷ 4 ∷ 2 ∷ 3 ∷ []; literals = pos 3 ∷ negsuc 3 ∷ pos 6 ∷ [] }
    ∷ record { order = 5; starts = 1; entries = u ∷ u ∷ 1 ∷ 1 ∷ u ∷ 1 ∷ u ∷ u ∷ 0 ∷ 0 ∷ []; bytes = 0x14 ∷ 0x29 ∷ 0x66 ∷ 0x80 ∷ []; mode = 1; budget = 1000; verdict = Smaller 2 5 28; arrangement = 3 ∷ 5 ∷ 1 ∷ 2 ∷ 4 ∷ []; literals = negsuc 2 ∷ negsuc 3 ∷ negsuc 5 ∷ pos 9 ∷ [] }
    ∷ record { order = 3; starts = 1; entries = 1 ∷ 0 ∷ 0 ∷ []; bytes = 0x0c ∷ 0x40 ∷ []; mode = 2; budget = 1000; verdict = Smaller 1 2 4; arrangement = 1 ∷ 3 ∷ 2 ∷ []; literals = negsuc 0 ∷ pos 2 ∷ [] }
    ∷ record { order = 3; starts = 1; entries = 1 ∷ 0 ∷ 0 ∷ []; bytes = 0x0c ∷ 0x40 ∷ []; mode = 2; budget = 3; verdict = Cut 3; arrangement = []; literals = [] }
    ∷ record { order = 3; starts = 1; entries = 0 ∷ 0 ∷ 1 ∷ []; bytes = 0x0c ∷ 0x04 ∷ []; mode = 2; budget = 1000; verdict = Nothing 13; arrangement = []; literals = [] }
    ∷ record { order = 4; starts = 1; entries = 0 ∷ u ∷ 0 ∷ 1 ∷ 0 ∷ 1 ∷ []; bytes = 0x10 ∷ 0x10 ∷ 0x88 ∷ []; mode = 2; budget = 1000; verdict = Smaller 2 3 5; arrangement = 1 ∷ 2 ∷ 4 ∷ 3 ∷ []; literals = pos 3 ∷ negsuc 3 ∷ pos 5 ∷ [] }
    ∷ record { order = 4; starts = 1; entries = 1 ∷ u ∷ u ∷ u ∷ 0 ∷ 0 ∷ []; bytes = 0x10 ∷ 0x35 ∷ 0x00 ∷ []; mode = 1; budget = 1000; verdict = Smaller 1 2 24; arrangement = 2 ∷ 4 ∷ 1 ∷ 3 ∷ []; literals = negsuc 0 ∷ pos 5 ∷ [] }
    ∷ record { order = 4; starts = 1; entries = 1 ∷ u ∷ u ∷ u ∷ 0 ∷ 0 ∷ []; bytes = 0x10 ∷ 0x35 ∷ 0x00 ∷ []; mode = 2; budget = 1000; verdict = Smaller 2 3 21; arrangement = 2 ∷ 3 ∷ 4 ∷ 1 ∷ []; literals = negsuc 0 ∷ pos 5 ∷ pos 6 ∷ [] }
    ∷ record { order = 5; starts = 9; entries = 1 ∷ u ∷ u ∷ u ∷ u ∷ 1 ∷ 0 ∷ 1 ∷ 0 ∷ u ∷ []; bytes = 0x14 ∷ 0x9a ∷ 0xa4 ∷ 0x48 ∷ []; mode = 2; budget = 1000; verdict = Smaller 3 4 21; arrangement = 3 ∷ 1 ∷ 2 ∷ 5 ∷ 4 ∷ []; literals = negsuc 0 ∷ negsuc 5 ∷ pos 7 ∷ pos 9 ∷ [] }
    ∷ record { order = 5; starts = 1; entries = u ∷ 1 ∷ 1 ∷ 1 ∷ u ∷ u ∷ 1 ∷ 0 ∷ u ∷ 0 ∷ []; bytes = 0x14 ∷ 0x25 ∷ 0x69 ∷ 0x20 ∷ []; mode = 2; budget = 1000; verdict = Smaller 2 5 30; arrangement = 3 ∷ 4 ∷ 2 ∷ 1 ∷ 5 ∷ []; literals = negsuc 1 ∷ negsuc 2 ∷ negsuc 3 ∷ pos 8 ∷ pos 10 ∷ [] }
    ∷ record { order = 6; starts = 45; entries = 0 ∷ 0 ∷ 0 ∷ 1 ∷ 0 ∷ 0 ∷ 1 ∷ 0 ∷ 1 ∷ 1 ∷ 0 ∷ 0 ∷ 0 ∷ 0 ∷ 0 ∷ []; bytes = 0x19 ∷ 0xa0 ∷ 0x20 ∷ 0x8a ∷ 0x00 ∷ 0x00 ∷ []; mode = 1; budget = 1000; verdict = Nothing 14; arrangement = []; literals = [] }
    ∷ record { order = 6; starts = 45; entries = 0 ∷ 0 ∷ 0 ∷ 1 ∷ 0 ∷ 0 ∷ 1 ∷ 0 ∷ 1 ∷ 1 ∷ 0 ∷ 0 ∷ 0 ∷ 0 ∷ 0 ∷ []; bytes = 0x19 ∷ 0xa0 ∷ 0x20 ∷ 0x8a ∷ 0x00 ∷ 0x00 ∷ []; mode = 2; budget = 1000; verdict = Smaller 3 4 12; arrangement = 2 ∷ 1 ∷ 3 ∷ 5 ∷ 4 ∷ 6 ∷ []; literals = pos 6 ∷ negsuc 6 ∷ pos 8 ∷ negsuc 9 ∷ pos 11 ∷ [] }
    ∷ record { order = 6; starts = 45; entries = 0 ∷ 0 ∷ 0 ∷ 1 ∷ 1 ∷ 0 ∷ 1 ∷ 0 ∷ 0 ∷ 0 ∷ 1 ∷ 0 ∷ 0 ∷ 0 ∷ 0 ∷ []; bytes = 0x19 ∷ 0xa0 ∷ 0x28 ∷ 0x80 ∷ 0x80 ∷ 0x00 ∷ []; mode = 1; budget = 1000; verdict = Smaller 1 6 14; arrangement = 2 ∷ 1 ∷ 3 ∷ 5 ∷ 4 ∷ 6 ∷ []; literals = negsuc 3 ∷ negsuc 4 ∷ pos 6 ∷ pos 8 ∷ pos 9 ∷ [] }
    ∷ record { order = 6; starts = 45; entries = 0 ∷ 0 ∷ 0 ∷ 1 ∷ 1 ∷ 0 ∷ 1 ∷ 0 ∷ 0 ∷ 0 ∷ 1 ∷ 0 ∷ 0 ∷ 0 ∷ 0 ∷ []; bytes = 0x19 ∷ 0xa0 ∷ 0x28 ∷ 0x80 ∷ 0x80 ∷ 0x00 ∷ []; mode = 2; budget = 1000; verdict = Nothing 12; arrangement = []; literals = [] }
    ∷ record { order = 6; starts = 1; entries = u ∷ u ∷ 1 ∷ 1 ∷ u ∷ 0 ∷ u ∷ u ∷ u ∷ u ∷ 1 ∷ 0 ∷ 1 ∷ 0 ∷ u ∷ []; bytes = 0x18 ∷ 0x14 ∷ 0xb1 ∷ 0x54 ∷ 0x89 ∷ 0x00 ∷ []; mode = 2; budget = 1000; verdict = Smaller 4 5 34; arrangement = 2 ∷ 3 ∷ 1 ∷ 4 ∷ 6 ∷ 5 ∷ []; literals = negsuc 2 ∷ negsuc 3 ∷ pos 6 ∷ negsuc 10 ∷ pos 12 ∷ negsuc 12 ∷ [] }
    ∷ []

abbrev graph_of : Case → Graph
graph_of c = drawn c.order c.starts (λ i j. get_or c.entries (number c.order i j - 1) 0)

-- a buffer just long enough
abbrev room : Case → List ℤ
room c = replicate (pair_count c.order) (pos 0)

-- an answer and the buffer afterwards, the record that is written over bytes of ones, and what reading it gives
record Outcome : Type 0 where
  answer : Judged
  buffer : List ℤ
  written : List ℕ
  read : Result Graph Refusal

abbrev given : Case → Outcome
given c =
    let g = graph_of c in
    record {
      answer = judge_answer c.mode g c.budget (length (room c));
      buffer = judge_buffer c.mode g c.budget (room c);
      written = buffer_after g (replicate (length c.bytes) 0xff);
      read = read_answer c.bytes;
    }

abbrev expected : Case → Outcome
expected c =
    record {
      answer = record { verdict = c.verdict; arrangement = c.arrangement ++ replicate (32 - length c.arrangement) 0; literals = length c.literals };
      buffer = c.literals ++ drop (length c.literals) (room c);
      written = c.bytes;
      read = Ok (graph_of c);
    }

-- the claim: each case gives what is expected of it
worked : map given cases ≡ map expected cases
unfolding both either pick unless all_up_to sum_up_to word_up_to list_up_to chosen_up_to move ending put driven walk meeting met listed only literal_at literals_of is_won enough kept literals needed same_literal among numbered clause_after clause absent may_follow children where_open subtree subtrees reached on_won try_all searched with_first completed placed mirrored drawn pair_fits row_fits starts_fit order_fits well_formed along_row from_row pairs down_column columns same_pair pair_of_two walk_of needed_by written_by judged_on compared_in judged_in judgement_of judging judged found padded certificate_of without winning_pair smaller answer_for is_mode judge_answer at_start judge_buffer flat_map num first_up_to or_else bit_count byte_count bit_of order_in start_in starts_in numbered_in entry_in is_refused refused_in pad_in graph_in entry_bit record_bit record_byte record_of record_in record_at read_answer buffer_after
worked = refl
