-- The walk without memory, over a scheme: a beginning is judged by it, reading its own vertices alone, and one vertex more is judged
-- by the pairs that come with it.
use Prim.Native.Nat.{ℕ, ◌+◌, ◌-◌, ◌≤◌, ◌<◌}
use native.Mathlib.Omega.{arith}
use mathlib.Core.Path.{◌≡◌, refl, sym, ap, ap₂, subst, ◌∙◌}
use mathlib.Core.Logic.{◌⊎◌, inl, inr}
use mathlib.Core.Bool.{Bool, true}
use mathlib.Core.List.{List, [], ◌∷◌, ◌++◌, append-nil, append_assoc, Memᴰ}
use lib.ListN.{length, length-append, get_or-append}
use Rattle.laws.specs.Compared.{by_below}
use Rattle.laws.specs.Each.{Each, each_first, each_rest}
use Rattle.laws.specs.ListLaws.{NoRepeats, mem_split}
use Rattle.laws.specs.TestLaws.{fails}
use Rattle.laws.specs.Pigeonhole.{Injects}
use Rattle.laws.specs.UpToLaws.{list_at}
use Rattle.walk.specs.Walk.{Outcome, still_open, and_then, Move, skips, wins, goes_on, drives_zero, drives_one, loses, ending, walk}
use Rattle.walk.specs.Free.{free_move, Precedes, edge_by, gap_by, free}
use Rattle.walk.proofs.Free.{free_walk}
use Rattle.beginnings.specs.Beginning.{at, Beginning}
use Rattle.beginnings.proofs.Completed.{completed_whole}
use Rattle.schemes.specs.Scheme.{Scheme, image, Listed, Two, Named, as_given, turned, Starts, Lawful}
use Rattle.schemes.specs.Judging.{identity, composed, judging}
use Rattle.schemes.specs.Free.{place_of, source, Ordered, freely}
use Rattle.schemes.proofs.Images.{one_place, two_kept, image_alike, image_listed, image_identity, image_composed, image_extended}
use Rattle.schemes.proofs.Arranging.{beginning_arranges}
use Rattle.schemes.proofs.Inverse.{inverse, inverse_before, inverse_after, inverse_reorders, place_high, place_holds, place_last}
use Rattle.walk.proofs.Prefix.{images_alike}

-- ---- the walk without memory

module _ {P : Type 0} (same before : P → P → Bool) (v : P → ℕ) where
  -- along two lists joined
  pub free_prefix : (img src : P → P) (xs ys : List P) → free same before img src v (xs ++ ys) ≡ and_then (free same before img src v xs) (free same before img src v ys)
  unfolding free ending and_then
  free_prefix img src [] ys = refl
  free_prefix img src (k ∷ xs) ys = go (free_move (same (img k) k) (edge_by same before img src v k) (gap_by same before img src v k)) (free_prefix img src xs ys)
    where
      go : (m : Move) → free same before img src v (xs ++ ys) ≡ and_then (free same before img src v xs) (free same before img src v ys)
          → ending m k (free same before img src v (xs ++ ys)) ≡ and_then (ending m k (free same before img src v xs)) (free same before img src v ys)
      go skips e = e
      go wins e = refl
      go goes_on e = e
      go drives_zero e = e
      go drives_one e = e
      go loses e = refl

  -- it depends on the images, and on which sources come before
  pub free_alike : (img jmg src trc : P → P) (ks : List P) → Each (λ k. img k ≡ jmg k) ks → Each (λ k. before (src k) k ≡ before (trc k) k) ks
      → free same before img src v ks ≡ free same before jmg trc v ks
  unfolding free
  free_alike img jmg src trc [] h g = refl
  free_alike img jmg src trc (k ∷ ks) h g =
      let e : img k ≡ jmg k = each_first (λ k. img k ≡ jmg k) h in
      let d : before (src k) k ≡ before (trc k) k = each_first (λ k. before (src k) k ≡ before (trc k) k) g in
      rw (e, d, free_alike img jmg src trc ks (each_rest (λ k. img k ≡ jmg k) h) (each_rest (λ k. before (src k) k ≡ before (trc k) k) g))

-- the first of a list without repeats has none
no_repeats_first : {A : Type 0} (xs ys : List A) → NoRepeats (xs ++ ys) → NoRepeats xs
unfolding NoRepeats
no_repeats_first [] ys h = tt
no_repeats_first (x ∷ xs) ys h = (λ m. h.0 (mathlib.Core.List.Memᴰ.append_left ys m), no_repeats_first xs ys h.1)

-- what tells along a list tells along its first part
precedes_first : {P : Type 0} (L : P → Type 0) (xs ys : List P) (before : P → P → Bool) → Precedes L (xs ++ ys) before → Precedes L xs before
precedes_first {P} L xs ys before h zs k ws e = h zs k (ws ++ ys) (ap (λ (l : List P). l ++ ys) e ∙ append_assoc zs (k ∷ ws) ys)

module _ {P : Type 0} {n : ℕ} {s : Scheme P} (lawful : Lawful n s) where
  -- the images under an arrangement and under its inverse undo each other
  module _ (p : List ℕ) (r : Injects n n (at p)) where
    abbrev q : List ℕ
    q = inverse n p

    rq : Injects n n (at q)
    rq = inverse_reorders n p r

    undone : (x y : List ℕ) → Injects n n (at y) → ((i : ℕ) → 1 ≤ i → i ≤ n → at x (at y i) ≡ i) → Each (λ k. image s x (image s y k) ≡ k) s.pairs
    undone x y ry e k m =
        sym (image_composed lawful x y ry k m)
        ∙ image_alike lawful (composed n x y) (identity n) (λ i l h. list_at (λ i. at x (at y i)) n i 0 l h ∙ e i l h ∙ sym (list_at (λ i. i) n i 0 l h)) k m
        ∙ image_identity lawful k m

    pub image_source : Each (λ k. image s p (image s (inverse n p) k) ≡ k) s.pairs
    image_source = undone p q rq (λ i l h. inverse_before n p r i l h)

    pub source_image : Each (λ k. image s (inverse n p) (image s p k) ≡ k) s.pairs
    source_image = undone q p r (λ i l h. inverse_after n p r i l h)

    -- along first pairs, the walk of an arrangement and the one without memory end alike
    pub free_first : {before : P → P → Bool} → Ordered s before → (v : P → ℕ) (js rest : List P) → s.pairs ≡ js ++ rest
        → walk s.same (image s p) js v ≡ free s.same before (image s p) (image s (inverse n p)) v js
    free_first {before} o v js rest e =
        free_walk lawful.tells before (Listed s) (image s p) (image s q) v (image_listed lawful p r) (image_listed lawful q rq) image_source source_image js
        (no_repeats_first js rest (subst NoRepeats e lawful.once)) (precedes_first (Listed s) js rest before (subst (λ (ks : List P). Precedes (Listed s) ks before) e o.precedes))
        (λ k m. rw e (mathlib.Core.List.Memᴰ.append_left rest m))

  -- ---- beginnings

  module _ {before : P → P → Bool} (o : Ordered s before) (block : ℕ → ℕ) (b c : List ℕ) (begun : Beginning n block b) (whole : Beginning n block (b ++ c)) (long : length (b ++ c) ≡ n) where
    abbrev p : List ℕ
    p = b ++ c

    r : Injects n n (at p)
    r = (beginning_arranges n block p whole long).reorders

    -- b's places hold the same in p
    kept : (i : ℕ) → 1 ≤ i → i ≤ length b → at p i ≡ at b i
    kept i l h = get_or-append b c 0 (i - 1) (omega arith)

    -- a vertex that b has stands at the same place in p
    placed : (u : ℕ) → 1 ≤ u → u ≤ n → 1 ≤ place_of (at b) (length b) u → at (inverse n p) u ≡ place_of (at b) (length b) u
    placed u l h some =
        let i : ℕ = place_of (at b) (length b) u in
        let hi : i ≤ length b = place_high (at b) (length b) u in
        let x : at p i ≡ u = kept i some hi ∙ place_holds (at b) (length b) u some in
        let inv = inverse_reorders n p r in
        one_place n (at p) r (at (inverse n p) u) i (inv.low u l h) (inv.high u l h) some (omega (arith, begun.fits)) (inverse_before n p r u l h ∙ sym x)

    -- and one that stands at one of the places of b is in b
    has : (u : ℕ) → 1 ≤ u → u ≤ n → at (inverse n p) u ≤ length b → 1 ≤ place_of (at b) (length b) u
    has u l h w =
        let i : ℕ = at (inverse n p) u in
        let li : 1 ≤ i = (inverse_reorders n p r).low u l h in
        omega (arith, place_last (at b) (length b) u i li w (sym (kept i li w) ∙ inverse_before n p r u l h))

    -- first pairs that name only the places of b
    module _ (js rest : List P) (split : s.pairs ≡ js ++ rest) (narrow : Each (λ j. (s.first j ≤ length b) × (s.second j ≤ length b)) js) where
      two : (k : P) → Memᴰ k js → Two n (s.first k) (s.second k)
      two k m = lawful.places k (rw split (mathlib.Core.List.Memᴰ.append_left rest m))

      -- where the source in p comes before k, b has both vertices of k
      both_there : (k : P) → Memᴰ k js → before (image s (inverse n p) k) k ≡ true
          → (1 ≤ place_of (at b) (length b) (s.first k)) × (1 ≤ place_of (at b) (length b) (s.second k))
      both_there k m t = go (lawful.named (at (inverse n p) (s.first k)) (at (inverse n p) (s.second k)) (two_kept n (at (inverse n p)) (inverse_reorders n p r) (two k m)))
        where
          j : P
          j = image s (inverse n p) k

          there : Memᴰ j js
          there =
              let x = mem_split k js m in
              let e : s.pairs ≡ x.0 ++ k ∷ (x.1 ++ rest) = split ∙ ap (λ (l : List P). l ++ rest) x.2 ∙ append_assoc x.0 (k ∷ x.1) rest in
              let i : Memᴰ j x.0 = (o.precedes x.0 k (x.1 ++ rest) e j (image_listed lawful (inverse n p) (inverse_reorders n p r) k (rw split (mathlib.Core.List.Memᴰ.append_left rest m)))).0 t in
              rw x.2 (mathlib.Core.List.Memᴰ.append_left (k ∷ x.1) i)

          go : Named s (at (inverse n p) (s.first k)) (at (inverse n p) (s.second k))
              → (1 ≤ place_of (at b) (length b) (s.first k)) × (1 ≤ place_of (at b) (length b) (s.second k))
          go (as_given x y) = (
            has (s.first k) (two k m).low (two k m).high (omega (arith, x, (narrow j there).0)),
            has (s.second k) (two k m).low' (two k m).high' (omega (arith, y, (narrow j there).1)),
          )
          go (turned x y flip) = (
            has (s.first k) (two k m).low (two k m).high (omega (arith, y, (narrow j there).1)),
            has (s.second k) (two k m).low' (two k m).high' (omega (arith, x, (narrow j there).0)),
          )

      -- so the source read from b alone comes before k exactly where the source in p does
      sources_alike : Each (λ k. before (image s (inverse n p) k) k ≡ before (source s b k) k) js
      sources_alike k m =
          by_below 0 (place_of (at b) (length b) (s.first k))
          (λ (x : 0 < place_of (at b) (length b) (s.first k)).
          by_below 0 (place_of (at b) (length b) (s.second k))
          (λ (y : 0 < place_of (at b) (length b) (s.second k)).
          ap (λ j. before j k) (ap₂ s.of_two (placed (s.first k) (two k m).low (two k m).high x) (placed (s.second k) (two k m).low' (two k m).high' y)))
          (λ (y : place_of (at b) (length b) (s.second k) ≤ 0). lacks (inr (omega arith)) (λ t. omega (arith, (both_there k m t).1))))
          (λ (x : place_of (at b) (length b) (s.first k) ≤ 0). lacks (inl (omega arith)) (λ t. omega (arith, (both_there k m t).0)))
        where
          lacks : (place_of (at b) (length b) (s.first k) ≡ 0) ⊎ (place_of (at b) (length b) (s.second k) ≡ 0)
              → (before (image s (inverse n p) k) k ≡ true → ⊥) → before (image s (inverse n p) k) k ≡ before (source s b k) k
          lacks z never = fails (before (image s (inverse n p) k) k) never ∙ sym (o.blank _ _ z k (rw split (mathlib.Core.List.Memᴰ.append_left rest m)))

      images_kept : Each (λ k. image s b k ≡ image s p k) js
      images_kept k m =
          ap₂ s.of_two (sym (kept (s.first k) (two k m).low (narrow k m).0)) (sym (kept (s.second k) (two k m).low' (narrow k m).1))

      along : (v : P → ℕ) → walk s.same (image s b) js v ≡ freely s before v b js
      along v =
          images_alike s.same (image s b) (image s p) js images_kept v ∙ free_first p r o v js rest split
          ∙ free_alike s.same before v (image s p) (image s b) (image s (inverse n p)) (source s b) js (λ k m. sym (images_kept k m)) sources_alike

  -- every length up to n
  pub starts_all : (k : ℕ) → 1 ≤ k → k ≤ n → Starts s k (s.judged_on k) s.pairs
  starts_all k l h =
      by_below k n (λ (d : k < n). lawful.starts k l d)
      (λ (d : n ≤ k).
      let e : k ≡ n = omega arith in
      let on : s.judged_on k ≡ s.pairs = ap s.judged_on e ∙ lawful.whole in
      record {
        rest = [];
        split = sym on ∙ sym (append-nil (s.judged_on k));
        first_within = λ j m. let t = lawful.places j (rw on at m) in omega (arith, t.high);
        second_within = λ j m. let t = lawful.places j (rw on at m) in omega (arith, t.high');
      })

  module _ {before : P → P → Bool} (o : Ordered s before) (block : ℕ → ℕ) (v : P → ℕ) where
    -- along first pairs that name only its places, a beginning's walk is the one without memory that reads its own vertices alone
    pub free_along : (b : List ℕ) → Beginning n block b → (js rest : List P) → s.pairs ≡ js ++ rest → Each (λ j. (s.first j ≤ length b) × (s.second j ≤ length b)) js
        → walk s.same (image s b) js v ≡ freely s before v b js
    free_along b h js rest e narrow =
        let c = completed_whole n block b h in
        along o block b c.part h (rw c.extends at c.beginning) (sym (ap length c.extends) ∙ c.whole) js rest e narrow v

    -- so it is judged by that walk
    pub free_judging : (b : List ℕ) → Beginning n block b → judging s v b ≡ freely s before v b (s.judged_on (length b))
    unfolding judging
    free_judging b h =
        let w = starts_all (length b) h.begun h.fits in
        free_along b h (s.judged_on (length b)) w.rest w.split (λ j m. (w.first_within j m, w.second_within j m))

    -- and where it is open, one vertex more is judged by the pairs that come with it
    pub free_next : (b : List ℕ) (u : ℕ) (more : List P) → Beginning n block b → Beginning n block (b ++ u ∷ [])
        → s.judged_on (length (b ++ u ∷ [])) ≡ s.judged_on (length b) ++ more → judging s v b ≡ still_open
        → judging s v (b ++ u ∷ []) ≡ freely s before v (b ++ u ∷ []) more
    unfolding and_then judging
    free_next b u more h g e opened =
        let w = starts_all (length b) h.begun h.fits in
        let js : List P = s.judged_on (length b) in
        let longer : length (b ++ u ∷ []) ≡ length b + 1 = length-append b (u ∷ []) in
        let short : length b < n = omega (arith, g.fits) in
        let so_far : freely s before v (b ++ u ∷ []) js ≡ still_open =
        sym (free_along (b ++ u ∷ []) g js w.rest w.split (λ j m. (omega (arith, w.first_within j m, longer), omega (arith, w.second_within j m, longer))))
        ∙ images_alike s.same (image s (b ++ u ∷ [])) (image s b) js (image_extended lawful b (u ∷ []) h.begun short) v ∙ opened in
        free_judging (b ++ u ∷ []) g ∙ ap (freely s before v (b ++ u ∷ [])) e
        ∙ free_prefix s.same before v (image s (b ++ u ∷ [])) (source s (b ++ u ∷ [])) js more
        ∙ ap (λ (x : Outcome P). and_then x (freely s before v (b ++ u ∷ []) more)) so_far
