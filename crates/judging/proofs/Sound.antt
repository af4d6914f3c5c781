-- Sound: every fully drawn graph of the same order and blocks that breaks the clause of a certificate has a permitted copy strictly earlier.
use Prim.Native.Nat.{ℕ}
use native.Mathlib.Omega.{arith}
use mathlib.Core.Path.{◌≡◌, ap₂, ◌∙◌, subst}
use mathlib.Core.Logic.{◌↔◌}
use mathlib.Core.List.{List}
use lib.IntN.{ℤ}
use lib.ListN.{length, take, drop}
use lib.Seq.{take-append_seam}
use Rattle.walk.specs.Clause.{BreaksClause}
use Rattle.walk.specs.Earlier.{LexLess}
use Rattle.schemes.proofs.Meaning.{sound_needed, written_breaks}
use Rattle.plain.proofs.Modes.{mode_lawful, mode_numbered}
use Rattle.rows.specs.Rows.{block_of}
use Rattle.graph.specs.declared.Graph.{Graph}
use Rattle.graph.specs.WellFormed.{WellFormed}
use Rattle.graph.specs.Graph.{relabelled}
use Rattle.pairs.specs.Pairs.{pairs}
use Rattle.graph.specs.Counts.{entry_at}
use Rattle.judging.specs.Order.{EarlierGraph, word_in, FullyDrawn}
use Rattle.graph.proofs.Relabelling.{relabelled_order, relabelled_formed}
use Rattle.judging.proofs.FullyDrawn.{relabelled_drawn}
use Rattle.judging.proofs.OrderLaws.{same_order}
use Rattle.judging.specs.declared.Judged.{Judged}
use Rattle.judging.specs.Judging.{clause_of}
use Rattle.judging.specs.Answer.{told, without, judge_answer}
use Rattle.judging.specs.Certificates.{FullGraph, Certified}
use Rattle.judging.specs.InWords.{InWords, unknown_mode, malformed, cramped, cut_off, none_smaller, found_smaller}
use Rattle.judging.specs.Drawings.{EarlierCopy, BrokenBy, SaysSmaller, written}
use Rattle.judging.proofs.Meaning.{copy_earlier}
use Rattle.judging.proofs.Certificates.{certified_certifies}
use Rattle.judging.proofs.Exact.{judged_in_words}
use Rattle.judging.proofs.Buffer.{literals_counted, buffer_written}

-- for fully drawn graphs, in the published order of the mode too
pub copy_published : (mode : ℕ) (h : Graph) → WellFormed h → FullyDrawn h → (p : List ℕ) → LexLess (word_in mode (relabelled h p)) (word_in mode h) ↔ EarlierGraph mode (relabelled h p) h
copy_published mode h w d p =
    same_order mode (relabelled h p) h (relabelled_formed h p w) w (relabelled_drawn h p w d) d (relabelled_order h p w)

-- ---- sound

module _ (mode : ℕ) (g : Graph) (w : WellFormed g) (p : List ℕ) (c : Certified mode g p) where
  -- what breaks the clause of the certificate p has by p a permitted copy strictly earlier
  pub sound : (h : Graph) → FullGraph g.order g.starts h → BrokenBy mode g p h → EarlierCopy mode h p
  sound h f b =
      let d = certified_certifies mode g w p c in
      let lits = (written_breaks (mode_lawful mode g.order) (pairs g.order) (mode_numbered mode g.order) (entry_at g) p d.permitted.reorders (entry_at h)).1 b in
      let e = sound_needed (mode_lawful mode g.order) (pairs g.order) (mode_numbered mode g.order) (block_of g.starts) (entry_at g) p d (entry_at h) (λ j m. f.full.known j.row j.column) lits in
      record {
        permitted = rw (f.order_is, f.starts_are) c.permitted;
        earlier = (copy_earlier mode h f.formed p).0 (rw f.order_is e.earlier);
      }

  -- and in the published order
  pub sound_published : (h : Graph) → FullGraph g.order g.starts h → BrokenBy mode g p h → LexLess (word_in mode (relabelled h p)) (word_in mode h)
  sound_published h f b = (copy_published mode h f.formed f.full p).1 (sound h f b).earlier

-- ---- what judging writes

-- the arrangement that goes with "smaller" is a certificate of a well-formed graph
pub smaller_certified : (mode : ℕ) (g : Graph) (budget room : ℕ) → (told (judge_answer mode g budget room).verdict).kind ≡ 1 → WellFormed g × Certified mode g (judge_answer mode g budget room).arrangement
unfolding told without
smaller_certified mode g budget room = at (judged_in_words mode g budget room)
  where
    at : {a : Judged} → InWords mode g budget room a → (told a.verdict).kind ≡ 1 → WellFormed g × Certified mode g a.arrangement
    at (unknown_mode no_mode) e = absurd (omega arith)
    at (malformed m no_graph_lem) e = absurd (omega arith)
    at (cramped m w h) e = absurd (omega arith)
    at (cut_off t l) e = absurd (omega arith)
    at (none_smaller t l nowhere) e = absurd (omega arith)
    at (found_smaller t l f) e = (t.formed, f.certified)

module _ (mode : ℕ) (g : Graph) (budget : ℕ) (buffer : List ℤ) (says : SaysSmaller mode g budget buffer) where
  -- and the literals are its clause
  pub written_is : written mode g budget buffer ≡ clause_of mode g (judge_answer mode g budget (length buffer)).arrangement
  written_is =
      let lits : List ℤ = clause_of mode g (judge_answer mode g budget (length buffer)).arrangement in
      ap₂ take (literals_counted mode g budget (length buffer) says) (buffer_written mode g budget buffer says) ∙ take-append_seam lits (drop (length lits) buffer)

  -- so every fully drawn graph of its order and blocks that breaks what judging writes has by the arrangement given a permitted copy strictly earlier
  pub written_sound : (h : Graph) → FullGraph g.order g.starts h → BreaksClause (pairs g.order) (written mode g budget buffer) (entry_at h)
      → EarlierCopy mode h (judge_answer mode g budget (length buffer)).arrangement
  written_sound h f b =
      let c = smaller_certified mode g budget (length buffer) says in
      sound mode g c.0 (judge_answer mode g budget (length buffer)).arrangement c.1 h f
      (subst (λ (lits : List ℤ). BreaksClause (pairs g.order) lits (entry_at h)) written_is b)

  -- and in the published order
  pub written_published : (h : Graph) → FullGraph g.order g.starts h → BreaksClause (pairs g.order) (written mode g budget buffer) (entry_at h)
      → LexLess (word_in mode (relabelled h (judge_answer mode g budget (length buffer)).arrangement)) (word_in mode h)
  written_published h f b = (copy_published mode h f.formed f.full (judge_answer mode g budget (length buffer)).arrangement).1 (written_sound h f b).earlier
