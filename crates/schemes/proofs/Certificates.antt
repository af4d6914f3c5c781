-- What the search finds is the first certificate in dictionary order, and where it finds none there is none.
use Prim.Native.Nat.{ℕ, ◌≤◌}
use mathlib.Core.Path.{◌≡◌, sym, ap, ◌∙◌}
use mathlib.Core.Logic.{◌⊎◌, inl, inr}
use mathlib.Core.List.{List}
use lib.ListN.{length}
use Rattle.laws.specs.UpToLaws.{list_at, list_length}
use Rattle.walk.specs.Walk.{won}
use Rattle.beginnings.specs.Beginning.{at}
use Rattle.beginnings.specs.Order.{Before}
use Rattle.beginnings.specs.Search.{none, first}
use Rattle.beginnings.specs.Certificate.{Certificate}
use Rattle.beginnings.proofs.Order.{before_irrefl, before_trans}
use Rattle.beginnings.proofs.FirstCertificate.{none_certified, first_certificate, first_of_certificates, certificate_found, none_found, found_reached}
use Rattle.beginnings.proofs.Completed.{completed_whole}
use Rattle.schemes.specs.Scheme.{Scheme, Lawful}
use Rattle.schemes.specs.Judging.{first_of, walk_of, judging, judged, found, steps_for, extended, Certified, FirstCertified}
use Rattle.schemes.proofs.Arranging.{beginning_arranges, arranges_beginning, first_arranges}
use Rattle.schemes.proofs.Judgements.{of_won, walk_alike, whole_won, won_extends, won_stays, lost_stays}

module _ {P : Type 0} {n : ℕ} {s : Scheme P} (lawful : Lawful n s) (block : ℕ → ℕ) (v : P → ℕ) where
  -- ---- certificates as won beginnings of length n

  pub certificate_certified : (p : List ℕ) → Certificate n block (judged s v) p → Certified n s block v p
  certificate_certified p c =
      let w = (whole_won lawful v p c.whole).0 c.wins in
      record { permitted = beginning_arranges n block p c.beginning c.whole; pair = w.0; wins = w.1 }

  -- the first n places of a certificate are one, and it wins at the same pair
  pub certified_first : (p : List ℕ) → Certified n s block v p → Certified n s block v (first_of n p)
  certified_first p c =
      record {
        permitted = first_arranges n block p c.permitted;
        pair = c.pair;
        wins = walk_alike lawful v (first_of n p) p (λ i l h. list_at (λ i. at p i) n i 0 l h) ∙ c.wins;
      }

  pub certified_certificate : 1 ≤ n → (p : List ℕ) → Certified n s block v p → length p ≡ n → Certificate n block (judged s v) p
  certified_certificate low p c e =
      record { beginning = arranges_beginning n block low p c.permitted e; whole = e; wins = (whole_won lawful v p e).1 (c.pair, c.wins) }

  -- ---- one at most is the first

  pub one_first : (p q : List ℕ) → FirstCertified n s block v p → FirstCertified n s block v q → p ≡ q
  one_first p q f g = go (f.earliest q g.certified g.long) (g.earliest p f.certified f.long)
    where
      go : (q ≡ p) ⊎ Before p q → (p ≡ q) ⊎ Before q p → p ≡ q
      go (inl e) y = sym e
      go (inr h) (inl e) = e
      go (inr h) (inr i) = absurd (before_irrefl p (before_trans p q p h i))

  module _ (low : 1 ≤ n) where
    -- ---- what the search finds

    -- where it finds none there is none
    pub none_at : (budget m : ℕ) → found n s block v budget ≡ none m → (p : List ℕ) → ¬ Certified n s block v p
    unfolding found
    none_at budget m e p c =
        none_certified n block (judged s v) (won_stays lawful v block) (lost_stays lawful v block) budget m e (first_of n p)
        (certified_certificate low (first_of n p) (certified_first p c) (list_length (λ i. at p i) n))

    -- where there is none and the budget reaches, it finds none
    pub finds_none : (budget : ℕ) → ((p : List ℕ) → ¬ Certified n s block v p) → steps_for n s block v ≤ budget → found n s block v budget ≡ none (steps_for n s block v)
    unfolding found
    finds_none budget h l =
        none_found n block (judged s v) (won_stays lawful v block) (lost_stays lawful v block) budget (λ b c. h b (certificate_certified b c)) l

    -- where there is one and the budget reaches, it finds a won beginning
    pub finds_first : (budget : ℕ) (p : List ℕ) → Certified n s block v p → steps_for n s block v ≤ budget
        → (b : List ℕ) × (found n s block v budget ≡ first b (steps_for n s block v))
    unfolding found
    finds_first budget p c l =
        certificate_found n block (judged s v) (won_stays lawful v block) (lost_stays lawful v block) budget (first_of n p)
        (certified_certificate low (first_of n p) (certified_first p c) (list_length (λ i. at p i) n)) l

    -- and that, extended, is the first certificate
    pub first_at : (budget : ℕ) (b : List ℕ) (m : ℕ) → found n s block v budget ≡ first b m → FirstCertified n s block v (extended n s block b)
    unfolding found
    first_at budget b m e =
        let c = first_certificate n block (judged s v) (won_stays lawful v block) (lost_stays lawful v block) budget b m e in
        record {
          certified = certificate_certified (extended n s block b) c;
          long = c.whole;
          earliest = λ q d x. first_of_certificates n block (judged s v) (won_stays lawful v block) (lost_stays lawful v block) budget b m e q (certified_certificate low q d x);
        }

    -- it wins at the pair at which the beginning was won
    pub first_pair_lem : (budget : ℕ) (b : List ℕ) (m : ℕ) → found n s block v budget ≡ first b m
        → (k : P) × (judging s v b ≡ won k) × (walk_of s v (extended n s block b) ≡ won k)
    unfolding found judged
    first_pair_lem budget b m e =
        let r = found_reached n block (judged s v) budget b m e in
        let o = of_won (judging s v b) r.1 in
        let c = completed_whole n block b r.0.beginning in
        (o.0, o.1, ap (walk_of s v) c.extends ∙ won_extends lawful v block b c.part o.0 r.0.beginning.begun (sym (ap length c.extends) ∙ c.whole) o.1)
