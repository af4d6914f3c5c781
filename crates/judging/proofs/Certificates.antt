-- Certificates of a graph are those of the theory, with zeros after place n or without: so are the first of them.
use Prim.Native.Nat.{ℕ}
use mathlib.Core.Path.{◌≡◌, sym, ap, subst, ◌∙◌}
use mathlib.Core.Logic.{◌⊎◌, inl, inr}
use mathlib.Core.List.{List}
use lib.ListN.{length, take}
use Rattle.walk.specs.Walk.{won}
use Rattle.beginnings.specs.Beginning.{Beginning}
use Rattle.beginnings.specs.Order.{Before}
use Rattle.beginnings.proofs.Completed.{completed_whole}
use Rattle.schemes.specs.Judging.{judging, extended}
use Rattle.schemes.specs.Judging
use Rattle.schemes.proofs.Arranging.{beginning_arranges, arranges_beginning}
use Rattle.schemes.proofs.Judgements.{won_extends}
use Rattle.plain.specs.Plain.{by_mode}
use Rattle.plain.proofs.Modes.{mode_lawful}
use Rattle.graph.specs.declared.Graph.{Graph}
use Rattle.rows.specs.Rows.{block_of}
use Rattle.graph.specs.WellFormed.{WellFormed}
use Rattle.arrangements.specs.Arrangement.{Permitted}
use Rattle.pairs.specs.Pairs.{Pair}
use Rattle.graph.specs.Counts.{entry_at}
use Rattle.judging.specs.Judging.{walk_all, padded, certificate_of}
use Rattle.judging.specs.Certificates.{Certified, FirstCertified}
use Rattle.judging.proofs.Arrangements.{take_padded, permitted_length, permitted_beginning, permitted_padded, permitted_arranges, padded_permitted, before_padded, padded_walk}
use Rattle.judging.proofs.Meaning.{certified_won}

module _ (mode : ℕ) (g : Graph) (formed : WellFormed g) where
  abbrev n : ℕ
  n = g.order

  abbrev block : ℕ → ℕ
  block = block_of g.starts

  -- those of the theory
  abbrev pub Certifies : List ℕ → Type 0
  Certifies p = Judging.Certified g.order (by_mode mode g.order) (block_of g.starts) (entry_at g) p

  abbrev pub FirstCertifies : List ℕ → Type 0
  FirstCertifies p = Judging.FirstCertified g.order (by_mode mode g.order) (block_of g.starts) (entry_at g) p

  -- ---- one certificate

  pub certified_certifies : (p : List ℕ) → Certified mode g p → Certifies p
  certified_certifies p c =
      let k = (certified_won mode g formed p c.permitted).0 c in
      record { permitted = permitted_arranges n g.starts p c.permitted; pair = k.0; wins = k.1 }

  -- the first n places of a permitted arrangement have its walk
  start_walk : (p : List ℕ) → Permitted g.order g.starts p → walk_all mode g (take g.order p) ≡ walk_all mode g p
  start_walk p a = sym (padded_walk mode g (take n p)) ∙ ap (walk_all mode g) (sym (permitted_padded n g.starts formed.order_high p a))

  start_certifies : (p : List ℕ) → Certified mode g p → Certifies (take g.order p)
  start_certifies p c =
      let k = (certified_won mode g formed p c.permitted).0 c in
      record {
        permitted = beginning_arranges n block (take n p) (permitted_beginning n g.starts formed.order_high p c.permitted formed.order_low) (permitted_length n g.starts formed.order_high p c.permitted);
        pair = k.0;
        wins = start_walk p c.permitted ∙ k.1;
      }

  pub padded_certified : (p : List ℕ) → Certifies p → length p ≡ g.order → Certified mode g (padded p)
  padded_certified p c e =
      let a : Permitted n g.starts (padded p) = padded_permitted n g.starts formed.order_high p (arranges_beginning n block formed.order_low p c.permitted e) e in
      (certified_won mode g formed (padded p) a).1 (c.pair, padded_walk mode g p ∙ c.wins)

  -- ---- the first

  pub padded_first : (p : List ℕ) (k : Pair) → FirstCertifies p → walk_all mode g p ≡ won k → FirstCertified mode g (padded p) k
  padded_first p k f e =
      record { certified = own; wins = padded_walk mode g p ∙ e; earliest = λ q c. later q c (f.earliest (take n q) (start_certifies q c) (permitted_length n g.starts formed.order_high q c.permitted)) }
    where
      own : Certified mode g (padded p)
      own = padded_certified p f.certified f.long

      later : (q : List ℕ) → Certified mode g q → (take g.order q ≡ p) ⊎ Before p (take g.order q) → (q ≡ padded p) ⊎ Before (padded p) q
      later q c (inl s) = inl (permitted_padded n g.starts formed.order_high q c.permitted ∙ ap padded s)
      later q c (inr h) =
          inr ((before_padded n g.starts formed.order_high (padded p) q own.permitted c.permitted).1
          (subst (λ (x : List ℕ). Before x (take n q)) (sym (take_padded p n f.long)) h))

  pub start_first : (p : List ℕ) (k : Pair) → FirstCertified mode g p k → FirstCertifies (take g.order p) × (walk_all mode g (take g.order p) ≡ won k)
  start_first p k f = (
    record { certified = start_certifies p f.certified; long = permitted_length n g.starts formed.order_high p f.certified.permitted; earliest = λ q c e. earlier q c e (f.earliest (padded q) (padded_certified q c e)) },
    start_walk p f.certified.permitted ∙ f.wins,
  )
    where
      earlier : (q : List ℕ) → Certifies q → length q ≡ g.order → (padded q ≡ p) ⊎ Before p (padded q) → (q ≡ take g.order p) ⊎ Before (take g.order p) q
      earlier q c e (inl s) = inl (sym (take_padded q n e) ∙ ap (take n) s)
      earlier q c e (inr h) =
          inr (subst (λ (x : List ℕ). Before (take n p) x) (take_padded q n e)
          ((before_padded n g.starts formed.order_high p (padded q) f.certified.permitted (padded_certified q c e).permitted).0 h))

  -- ---- the certificate of a won beginning

  -- it wins at the pair at which the beginning is won
  pub certificate_walk : (b : List ℕ) (k : Pair) → Beginning g.order (block_of g.starts) b → judging (by_mode mode g.order) (entry_at g) b ≡ won k → walk_all mode g (certificate_of g b) ≡ won k
  unfolding certificate_of
  certificate_walk b k s w =
      let c = completed_whole n block b s in
      padded_walk mode g (extended n (by_mode mode n) block b) ∙ ap (walk_all mode g) c.extends
      ∙ won_extends (mode_lawful mode n) (entry_at g) block b c.part k s.begun (sym (ap length c.extends) ∙ c.whole) w
