-- What the code makes for the stops of row 1, one law for each answer and each turn of its loop.
use Prim.Native.Nat.{ℕ, ◌+◌, ◌-◌, ◌%◌, ◌^◌, ◌≤◌, ◌<◌}
use native.Mathlib.Omega.{arith}
use mathlib.Core.Path.{◌≡◌, refl, sym, ap, ◌∙◌}
use mathlib.Core.List.{List}
use lib.Bits.{bit_and, bit_or}
use lib.ListN.{length, get_or, set, length-set}
use lib.Seq.{get_or-set_same, get_or-set_other}
use borrow.Author.Tests.{eq-eqb, ne_eqb, lt-ltb, le-ltb}
use Rattle.laws.specs.Test.{pick}
use Rattle.laws.specs.Bit.{bit}
use Rattle.laws.specs.BitLaws.{bit_small, bit_lowest}
use Rattle.laws.specs.Compared.{by_same}
use Rattle.words.specs.Placed.{row}
use Rattle.turns.specs.Turns.{all_marks, count_by}
use Rattle.stops.specs.Stops.{own_mask, passed_mask, marks_at, source_bit, one_at, stops_by, stops_at, Made, Stopped}

-- ---- one place

module _ (u k : ℕ) where
  pub own_first : (r : ℕ) → r ≡ 2 ^ (k - 1) → u ≡ 1 → r ≡ own_mask u k
  unfolding own_mask pick
  own_first r e h = rw (eq-eqb u 1 h) e

  pub passed_first : (w : ℕ) → w ≡ 2 ^ (k - 1) → u ≡ 1 → w - 1 ≡ passed_mask u k
  unfolding passed_mask pick
  passed_first w e h = rw (eq-eqb u 1 h, e)

  module _ (d : u ≡ 1 → ⊥) where
    pub own_later : u ≡ k → 1 ≡ own_mask u k
    unfolding own_mask pick
    own_later h = rw (ne_eqb u 1 d, eq-eqb u k h)

    pub own_none : (u ≡ k → ⊥) → 0 ≡ own_mask u k
    unfolding own_mask pick
    own_none h = rw (ne_eqb u 1 d, ne_eqb u k h)

    pub passed_later : u < k → 1 ≡ passed_mask u k
    unfolding passed_mask pick
    passed_later h = rw (ne_eqb u 1 d, lt-ltb u k h)

    pub passed_none : k ≤ u → 0 ≡ passed_mask u k
    unfolding passed_mask pick
    passed_none h = rw (ne_eqb u 1 d, le-ltb u k h)

  pub marks_are : (marks hidden p x : ℕ) → p ≡ passed_mask u k → x ≡ hidden - bit_and hidden p → bit_or marks x ≡ marks_at marks hidden u k
  unfolding marks_at
  marks_are marks hidden p x e h = rw (h, e)

  module _ (ones doubts used : ℕ) where
    pub one_known : bit doubts (k - 1) ≡ 0 → bit ones (k - 1) ≡ one_at ones doubts used u k
    unfolding one_at count_by pick
    one_known h = rw h

    module _ (h : bit doubts (k - 1) ≡ 0 → ⊥) where
      -- it is unknown
      by_source : (x : ℕ) → x ≤ 1 → x ≡ source_bit used u k → x ≡ one_at ones doubts used u k
      unfolding one_at count_by pick
      by_source x l e =
          rw (eq-eqb (bit doubts (k - 1)) 1 (omega (arith, bit_small doubts (k - 1))), sym e)
          (by_same x 1 (λ (q : x ≡ 1). rw q) (λ (q : x ≡ 1 → ⊥). rw (ne_eqb x 1 q) (omega arith)))

      pub one_first : u ≡ 1 → bit used (k - 1) ≡ one_at ones doubts used u k
      unfolding source_bit pick
      one_first e = by_source (bit used (k - 1)) (omega (arith, bit_small used (k - 1))) (rw (eq-eqb u 1 e))

      module _ (d : u ≡ 1 → ⊥) where
        pub one_later : u ≡ k → used % 2 ≡ one_at ones doubts used u k
        unfolding source_bit pick
        one_later e = sym (bit_lowest used) ∙ by_source (bit used 0) (omega (arith, bit_small used 0)) (rw (ne_eqb u 1 d, eq-eqb u k e))

        pub one_none : (u ≡ k → ⊥) → 0 ≡ one_at ones doubts used u k
        unfolding source_bit pick
        one_none e = by_source 0 (omega arith) (rw (ne_eqb u 1 d, ne_eqb u k e))

  module _ (one marks r : ℕ) where
    pub stops_edge : one ≡ 1 → r ≡ all_marks - bit_and all_marks marks → r ≡ stops_by one marks u k
    unfolding stops_by pick
    stops_edge h e = rw (eq-eqb one 1 h) e

    pub stops_gap : (o : ℕ) → (one ≡ 1 → ⊥) → o ≡ own_mask u k → r ≡ marks - bit_and marks o → r ≡ stops_by one marks u k
    unfolding stops_by pick
    stops_gap o h p e = rw (ne_eqb one 1 h) (e ∙ rw p)

  module _ (ones doubts first hidden used r : ℕ) where
    pub stops_of_words : (one marks : ℕ) → one ≡ one_at ones doubts used u k → marks ≡ marks_at first hidden u k → r ≡ stops_by one marks u k → r ≡ stops_by (one_at ones doubts used u k) (marks_at first hidden u k) u k
    stops_of_words one marks p q h = h ∙ rw (p, q)

    stops_are : (e w : List ℕ) → ones ≡ row e 1 → doubts ≡ row w 1 → first ≡ row e u → hidden ≡ row w u → r ≡ stops_by (one_at ones doubts used u k) (marks_at first hidden u k) u k → r ≡ stops_at e w used u k
    unfolding stops_at
    stops_are e w po pd pf ph h = h ∙ rw (po, pd, pf, ph)

-- ---- all places

module _ (edges unknowns : List ℕ) (used u : ℕ) where
  pub made_begin : (stops : List ℕ) → length stops ≡ 32 → get_or stops 0 0 ≡ 0 → Made edges unknowns used u 1 stops
  made_begin stops l z = record { long = l; none_first = z; later = λ k a b. absurd (omega arith) }

  pub made_more : (i n : ℕ) (stops : List ℕ) (ones doubts first hidden r : ℕ) → Made edges unknowns used u i stops → 1 ≤ i → i < n → n ≤ 32
      → ones ≡ row edges 1 → doubts ≡ row unknowns 1 → first ≡ row edges u → hidden ≡ row unknowns u → r ≡ stops_by (one_at ones doubts used u (i + 1)) (marks_at first hidden u (i + 1)) u (i + 1)
      → Made edges unknowns used u (i + 1) (set stops i r)
  made_more i n stops ones doubts first hidden r s l h b po pd pf ph q =
      let e = stops_are u (i + 1) ones doubts first hidden used r edges unknowns po pd pf ph q in
      record {
        long = length-set stops i r ∙ s.long;
        none_first = get_or-set_other stops i 0 r 0 (omega arith) ∙ s.none_first;
        later = λ k low high. by_same k (i + 1) (at_end e k) (λ d. get_or-set_other stops i (k - 1) r 0 (omega arith) ∙ s.later k low (omega arith));
      }
    where
      at_end : r ≡ stops_at edges unknowns used u (i + 1) → (k : ℕ) → k ≡ i + 1 → row (set stops i r) k ≡ stops_at edges unknowns used u k
      at_end e k q =
          let place : k - 1 ≡ i = omega arith in
          rw place (get_or-set_same stops i r 0 (omega (arith, s.long)) ∙ e ∙ rw q)

  pub made_all : (i n : ℕ) (stops : List ℕ) → Made edges unknowns used u i stops → n ≤ i → Made edges unknowns used u n stops
  made_all i n stops s h = record { long = s.long; none_first = s.none_first; later = λ k low high. s.later k low (omega arith) }

  module _ (n depth : ℕ) (before : List ℕ) where
    pub stopped_first : (after : List ℕ) → depth ≡ 0 → Made edges unknowns used u n after → Stopped edges unknowns n depth used u before after
    stopped_first after z m = record { none_first = m.none_first; chosen = λ e. m.later; doubtful = λ d. absurd (d z); kept = λ d. absurd (d z) }

    module _ (d : depth ≡ 0 → ⊥) (z : get_or before 0 0 ≡ 0) (doubts : ℕ) (p : doubts ≡ row unknowns 1) where
      place : depth + 2 - 1 ≡ depth + 1
      place = omega arith

      pub stopped_doubtful : bit doubts (depth + 1) ≡ 1 → (ones first hidden r : ℕ) → ones ≡ row edges 1 → first ≡ row edges u → hidden ≡ row unknowns u
          → r ≡ stops_by (one_at ones doubts used u (depth + 1 + 1)) (marks_at first hidden u (depth + 1 + 1)) u (depth + 1 + 1) → Stopped edges unknowns n depth used u before (set before (depth + 1) r)
      stopped_doubtful y ones first hidden r po pf ph t =
          let e = stops_are u (depth + 1 + 1) ones doubts first hidden used r edges unknowns po p pf ph t in
          let next : depth + 1 + 1 ≡ depth + 2 = omega arith in
          record {
            none_first = get_or-set_other before (depth + 1) 0 r 0 (omega arith) ∙ z;
            chosen = λ q. absurd (d q);
            doubtful = λ q s. ap (set before (depth + 1)) (e ∙ rw next);
            kept = λ q s. let none : bit doubts (depth + 1) ≡ 0 = rw (p, sym place) s in absurd (omega arith);
          }

      pub stopped_kept : (bit doubts (depth + 1) ≡ 1 → ⊥) → Stopped edges unknowns n depth used u before before
      stopped_kept y =
          let none : bit (row unknowns 1) (depth + 2 - 1) ≡ 0 = rw (place, sym p) (omega (arith, bit_small doubts (depth + 1))) in
          record { none_first = z; chosen = λ q. absurd (d q); doubtful = λ q s. absurd (s none); kept = λ q s. refl }
