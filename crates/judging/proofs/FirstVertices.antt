-- In column order the first vertices of a smallest graph of one block are themselves a smallest graph; so judging answers "none" of them
-- where it answers "none" of the whole.
use Prim.Native.Nat.{ℕ, ◌-◌, ◌≤◌, ◌<◌}
use native.Mathlib.Omega.{arith}
use mathlib.Core.Path.{◌≡◌, refl, sym, ap, ◌∙◌}
use mathlib.Core.List.{List}
use lib.Dec.{ltb}
use lib.ListN.{length}
use borrow.Author.Tests.{lt-ltb}
use Rattle.laws.specs.BitLaws.{bit_of_power_other}
use Rattle.laws.specs.Test.{pick}
use Rattle.laws.specs.TestLaws.{pick_true}
use Rattle.walk.proofs.Order.{earlier_alike}
use Rattle.schemes.specs.Judging.{Arranges, Comes, copy_by}
use Rattle.schemes.specs.Judging
use Rattle.schemes.proofs.Images.{image_alike, image_listed}
use Rattle.schemes.proofs.Arranging.{arranges_beginning}
use Rattle.schemes.proofs.FirstVertices.{widened, widened_length, earlier_widened}
use Rattle.pairs.specs.Pairs.{Pair, Between}
use Rattle.pairs.specs.Columns.{columns}
use Rattle.pairs.proofs.ColumnLaws.{columns_given, columns_first}
use Rattle.plain.specs.Plain.{compared_in, by_columns}
use Rattle.plain.proofs.Columns.{columns_lawful}
use Rattle.graph.specs.declared.Graph.{Graph}
use Rattle.graph.specs.Graph.{entry, drawn}
use Rattle.rows.specs.Rows.{block_of, mirrored}
use Rattle.graph.specs.WellFormed.{WellFormed}
use Rattle.graph.specs.Counts.{entry_at}
use Rattle.graph.proofs.Drawn.{drawn_entry, drawn_formed}
use Rattle.judging.specs.Order.{FullyDrawn}
use Rattle.judging.specs.Judging.{steps_for, padded}
use Rattle.judging.specs.Answer.{told, judge_answer}
use Rattle.judging.specs.Certificates.{FullGraph}
use Rattle.judging.specs.InWords.{Taken}
use Rattle.judging.specs.Drawings.{EarlierCopy, Smallest}
use Rattle.judging.specs.FirstVertices.{first_vertices}
use Rattle.judging.proofs.FullyDrawn.{fully_drawn_by}
use Rattle.judging.proofs.Arrangements.{padded_at, padded_permitted, permitted_arranges}
use Rattle.judging.proofs.Meaning.{copy_earlier}
use Rattle.judging.proofs.Smallest.{none_tells, none_smallest}

module _ (g : Graph) (w : WellFormed g) (d : FullyDrawn g) (m : ℕ) (low : 1 ≤ m) (high : m ≤ g.order) where
  abbrev n : ℕ
  n = g.order

  abbrev few : Graph
  few = first_vertices m g

  -- ---- which graph they are

  first_entry : (i j : ℕ) → 1 ≤ i → i < j → j ≤ m → entry (first_vertices m g) i j ≡ entry g i j
  unfolding first_vertices mirrored
  first_entry i j li l hj =
      drawn_entry m 1 (entry g) (λ a b la c hb. omega (arith, d.known a b)) i j li (omega arith) (omega arith) hj ∙ pick_true (ltb i j) _ _ (lt-ltb i j l)

  pub first_formed : WellFormed (first_vertices m g)
  unfolding first_vertices
  first_formed = drawn_formed m 1 (entry g) low (omega (arith, w.order_high)) refl (λ v h. bit_of_power_other 0 (v - 1) (omega arith)) (λ i j li l hj. omega (arith, d.known i j))

  first_order : (first_vertices m g).order ≡ m
  unfolding first_vertices drawn
  first_order = refl

  first_starts : (first_vertices m g).starts ≡ 1
  unfolding first_vertices drawn
  first_starts = refl

  first_drawn : FullyDrawn (first_vertices m g)
  first_drawn = fully_drawn_by few first_formed (λ i j li l hj. omega (arith, first_entry i j li l (rw first_order at hj), d.known i j))

  -- of order m, in one block, fully drawn, with the entries of g
  pub first_full : FullGraph m 1 (first_vertices m g)
  first_full = record { formed = first_formed; full = first_drawn; order_is = first_order; starts_are = first_starts }

  pub first_entries : (k : Pair) → Between 1 m k → entry_at (first_vertices m g) k ≡ entry_at g k
  first_entries k b = first_entry k.row k.column b.from_low b.rising b.to_high

  -- ---- smallest

  module _ (one_block : g.starts ≡ 1) where
    -- a permitted earlier copy of the first vertices, as one of the theory
    copied : (p : List ℕ) → EarlierCopy 2 (first_vertices m g) p → Judging.EarlierCopy m (by_columns m) (block_of 1) (entry_at g) p
    unfolding compared_in pick
    copied p c =
        let a : Arranges m (block_of 1) p = permitted_arranges m 1 p (rw (first_order, first_starts) at c.permitted) in
        let e : Comes (by_columns m) (copy_by (by_columns m) p (entry_at few)) (entry_at few) = rw first_order at ((copy_earlier 2 few first_formed p).1 c.earlier) in
        record {
          permitted = a;
          earlier = earlier_alike (columns m) (copy_by (by_columns m) p (entry_at few)) (entry_at few) (copy_by (by_columns m) p (entry_at g)) (entry_at g)
              (λ k i. sym (first_entries _ (columns_given m _ (image_listed (columns_lawful m) p a.reorders k i)))) (λ k i. sym (first_entries k (columns_given m k i))) e;
        }

    -- and one of the theory of all vertices, as a copy of g
    widened_copy : (p : List ℕ) → Judging.EarlierCopy n (by_columns n) (block_of 1) (entry_at g) p → length p ≡ n → EarlierCopy 2 g (padded p)
    unfolding compared_in pick
    widened_copy p c long =
        record {
          permitted = rw one_block (padded_permitted n 1 w.order_high p (arranges_beginning n (block_of 1) w.order_low p c.permitted long) long);
          earlier = (copy_earlier 2 g w (padded p)).0
              (earlier_alike (columns n) (copy_by (by_columns n) p (entry_at g)) (entry_at g) (copy_by (by_columns n) (padded p) (entry_at g)) (entry_at g)
              (λ k i. ap (entry_at g) (image_alike (columns_lawful n) (padded p) p (λ x l h. padded_at p x) k i)) (λ k i. refl) c.earlier);
        }

    pub first_smallest : Smallest 2 g → Smallest 2 (first_vertices m g)
    first_smallest least p c =
        let r = columns_first m n high in
        least (padded (widened m n p)) (widened_copy (widened m n p) (earlier_widened (columns_lawful m) high (λ q k i. refl) r.0 r.1 (block_of 1) (entry_at g) p (copied p c)) (widened_length m n high p))

    -- ---- and what judging answers

    -- where g is told "none", so are its first vertices, past the checks and with budget enough
    pub first_none : (budget room : ℕ) → (told (judge_answer 2 g budget room).verdict).kind ≡ 0
        → (less small : ℕ) → Taken 2 (first_vertices m g) small → steps_for 2 (first_vertices m g) ≤ less → (told (judge_answer 2 (first_vertices m g) less small).verdict).kind ≡ 0
    first_none budget room e less small taken reach = (none_smallest 2 few first_formed first_drawn less small taken reach).1 (first_smallest (none_tells 2 g w d budget room e))
