-- In row order of plain pairs, what the pair (1, k) reads when v is put at place k after b: whether its source, and whether its image,
-- comes before it.
use Prim.Native.Nat.{ℕ, suc, ◌-◌, ◌≤◌, ◌<◌}
use native.Mathlib.Omega.{arith}
use mathlib.Core.Path.{◌≡◌, refl, sym, ap, subst, ◌∙◌}
use mathlib.Core.Logic.{◌⊎◌, inl, inr, ◌↔◌}
use mathlib.Core.Bool.{true}
use mathlib.Core.List.{List, [], ◌∷◌, ◌++◌, Memᴰ}
use lib.Dec.{ltb}
use lib.ListN.{length, get_or, get_or-append}
use lib.Seq.{get_or_at}
use borrow.Author.Tests.{ltb-true}
use Rattle.laws.specs.Compared.{by_order, by_below}
use Rattle.laws.specs.TestLaws.{both_first, both_second}
use Rattle.beginnings.specs.Beginning.{at, Beginning}
use Rattle.beginnings.proofs.Follows.{length_more, index_of, mem_at}
use Rattle.schemes.specs.Free.{place_of, source}
use Rattle.schemes.proofs.Inverse.{place_high, place_holds, place_last}
use Rattle.pairs.specs.Pairs.{pair}
use Rattle.plain.specs.Plain.{pair_of_two, by_rows}
use Rattle.plain.specs.Before.{is_whole, row_before}
use Rattle.plain.proofs.Plain.{two_rising, two_falling}
use Rattle.plain.proofs.Before.{earlier_told, row_along}

-- a pair comes before (1, k) exactly where it is one of row 1 with a smaller column
pub before_row_one : (x y k : ℕ) → (row_before (pair x y) (pair 1 k) ≡ true) ↔ ((x ≡ 1) × (1 ≤ y) × (y < k))
unfolding row_before is_whole
before_row_one x y k = (
  λ t.
      let w = both_first (is_whole (pair x y)) _ t in
      let lx = ltb-true 0 x (both_first (ltb 0 x) (ltb 0 y) w) in
      let ly = ltb-true 0 y (both_second (ltb 0 x) (ltb 0 y) w) in
      go lx ly (earlier_told x y 1 k (both_second (is_whole (pair x y)) _ t)),
  λ h. row_along (pair x y) (pair 1 k) (omega (arith, h.0)) h.1 h.0 h.2,
)
  where
    go : 1 ≤ x → 1 ≤ y → (x < 1) ⊎ ((x ≡ 1) × (y < k)) → (x ≡ 1) × (1 ≤ y) × (y < k)
    go lx ly (inl l) = absurd (omega arith)
    go lx ly (inr h) = (h.0, ly, h.1)

-- the pair of x and y, two numbers, does where one is 1 and the other a smaller column
pub two_before : (x y k : ℕ) → 1 ≤ k → (row_before (pair_of_two x y) (pair 1 k) ≡ true) ↔ (((x ≡ 1) × (1 ≤ y) × (y < k)) ⊎ ((y ≡ 1) × (1 ≤ x) × (x < k)))
two_before x y k lk = (to, from)
  where
    to : row_before (pair_of_two x y) (pair 1 k) ≡ true → ((x ≡ 1) × (1 ≤ y) × (y < k)) ⊎ ((y ≡ 1) × (1 ≤ x) × (x < k))
    to t =
        by_below x y (λ (l : x < y). inl ((before_row_one x y k).0 (rw (two_rising x y l) at t)))
        (λ (l : y ≤ x). inr ((before_row_one y x k).0 (rw (two_falling x y l) at t)))

    from : ((x ≡ 1) × (1 ≤ y) × (y < k)) ⊎ ((y ≡ 1) × (1 ≤ x) × (x < k)) → row_before (pair_of_two x y) (pair 1 k) ≡ true
    from (inl h) =
        by_below x y (λ (l : x < y). rw (two_rising x y l) ((before_row_one x y k).1 h))
        (λ (l : y ≤ x). rw (two_falling x y l) ((before_row_one y x k).1 (omega (arith, h.0, h.1), omega (arith, h.0), omega (arith, h.0, h.1, h.2))))
    from (inr h) =
        by_below x y (λ (l : x < y). absurd (omega (arith, h.0, h.1))) (λ (l : y ≤ x). rw (two_falling x y l) ((before_row_one y x k).1 h))

-- a place of a beginning is that of its vertex
pub place_of_at : (n : ℕ) (block : ℕ → ℕ) (b : List ℕ) → Beginning n block b → (i : ℕ) → 1 ≤ i → i ≤ length b → place_of (at b) (length b) (at b i) ≡ i
place_of_at n block b h i l g =
    let x : ℕ = place_of (at b) (length b) (at b i) in
    let low : i ≤ x = place_last (at b) (length b) (at b i) i l g refl in
    let high : x ≤ length b = place_high (at b) (length b) (at b i) in
    by_order x i (λ (d : x < i). absurd (omega arith)) (λ (e : x ≡ i). e)
    (λ (d : i < x). absurd (h.once x i l d high (place_holds (at b) (length b) (at b i) (omega arith))))

module _ (n : ℕ) (block : ℕ → ℕ) (b : List ℕ) (v : ℕ) (begun : 1 ≤ length b) (h : Beginning n block (b ++ v ∷ [])) where
  abbrev long : List ℕ
  long = b ++ v ∷ []

  abbrev k : ℕ
  k = suc (length b)

  same_length : length (b ++ v ∷ []) ≡ suc (length b)
  same_length = length_more b v

  -- b's places, and v at the last one
  kept : (i : ℕ) → 1 ≤ i → i ≤ length b → at (b ++ v ∷ []) i ≡ at b i
  kept i l g = get_or-append b (v ∷ []) 0 (i - 1) (omega arith)

  last : at (b ++ v ∷ []) (suc (length b)) ≡ v
  last = let place : suc (length b) - 1 ≡ length b = omega arith in rw place (get_or_at b v [] 0 (length b) refl)

  -- a vertex of b has a place among b's, and no other vertex has
  place_in : (u : ℕ) → Memᴰ u b → (1 ≤ place_of (at (b ++ v ∷ [])) (length (b ++ v ∷ [])) u) × (place_of (at (b ++ v ∷ [])) (length (b ++ v ∷ [])) u < suc (length b))
  place_in u m =
      let i = index_of m in
      let j : ℕ = suc i.0 in
      let place : suc i.0 - 1 ≡ i.0 = omega arith in
      let e : at (b ++ v ∷ []) (suc i.0) ≡ u = kept j (omega arith) (omega (arith, i.1)) ∙ ap (λ (x : ℕ). get_or b x 0) place ∙ i.2 in
      let q : place_of (at (b ++ v ∷ [])) (length (b ++ v ∷ [])) u ≡ suc i.0 =
      ap (place_of (at (b ++ v ∷ [])) (length (b ++ v ∷ []))) (sym e) ∙ place_of_at n block (b ++ v ∷ []) h (suc i.0) (omega arith) (omega (arith, i.1, same_length)) in
      (omega (arith, q), omega (arith, q, i.1))

  in_place : (u : ℕ) → 1 ≤ place_of (at (b ++ v ∷ [])) (length (b ++ v ∷ [])) u → place_of (at (b ++ v ∷ [])) (length (b ++ v ∷ [])) u < suc (length b) → Memᴰ u b
  in_place u l g =
      let x : ℕ = place_of (at (b ++ v ∷ [])) (length (b ++ v ∷ [])) u in
      let e : at b x ≡ u = sym (kept x l (omega arith)) ∙ place_holds (at (b ++ v ∷ [])) (length (b ++ v ∷ [])) u l in
      subst (λ (y : ℕ). Memᴰ y b) e (mem_at b (x - 1) (omega arith))

  place_one : (u : ℕ) → (place_of (at (b ++ v ∷ [])) (length (b ++ v ∷ [])) u ≡ 1) ↔ (at b 1 ≡ u)
  place_one u = (
    λ e. sym (kept 1 (omega arith) begun) ∙ ap (at (b ++ v ∷ [])) (sym e) ∙ place_holds (at (b ++ v ∷ [])) (length (b ++ v ∷ [])) u (omega (arith, e)),
    λ e.
        ap (place_of (at (b ++ v ∷ [])) (length (b ++ v ∷ []))) (sym e ∙ sym (kept 1 (omega arith) begun))
        ∙ place_of_at n block (b ++ v ∷ []) h 1 (omega arith) (omega (arith, same_length)),
  )

  -- the source: the first vertex is 1 and b has k, or it is k and b has 1
  pub source_before : (row_before (source (by_rows n) (b ++ v ∷ []) (pair 1 (suc (length b)))) (pair 1 (suc (length b))) ≡ true)
      ↔ (((at b 1 ≡ 1) × Memᴰ (suc (length b)) b) ⊎ ((at b 1 ≡ suc (length b)) × Memᴰ 1 b))
  source_before = (λ t. to (told.0 t), λ z. told.1 (from z))
    where
      x : ℕ
      x = place_of (at (b ++ v ∷ [])) (length (b ++ v ∷ [])) 1

      y : ℕ
      y = place_of (at (b ++ v ∷ [])) (length (b ++ v ∷ [])) (suc (length b))

      told : (row_before (pair_of_two x y) (pair 1 (suc (length b))) ≡ true) ↔ (((x ≡ 1) × (1 ≤ y) × (y < suc (length b))) ⊎ ((y ≡ 1) × (1 ≤ x) × (x < suc (length b))))
      told = two_before x y (suc (length b)) (omega arith)

      to : ((x ≡ 1) × (1 ≤ y) × (y < suc (length b))) ⊎ ((y ≡ 1) × (1 ≤ x) × (x < suc (length b)))
          → ((at b 1 ≡ 1) × Memᴰ (suc (length b)) b) ⊎ ((at b 1 ≡ suc (length b)) × Memᴰ 1 b)
      to (inl z) = inl ((place_one 1).0 z.0, in_place (suc (length b)) z.1 z.2)
      to (inr z) = inr ((place_one (suc (length b))).0 z.0, in_place 1 z.1 z.2)

      from : ((at b 1 ≡ 1) × Memᴰ (suc (length b)) b) ⊎ ((at b 1 ≡ suc (length b)) × Memᴰ 1 b)
          → ((x ≡ 1) × (1 ≤ y) × (y < suc (length b))) ⊎ ((y ≡ 1) × (1 ≤ x) × (x < suc (length b)))
      from (inl z) = inl ((place_one 1).1 z.0, (place_in (suc (length b)) z.1).0, (place_in (suc (length b)) z.1).1)
      from (inr z) = inr ((place_one (suc (length b))).1 z.0, (place_in 1 z.1).0, (place_in 1 z.1).1)
