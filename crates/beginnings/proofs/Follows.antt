-- A beginning as a walk: each vertex is a child of what stands before it.
use Prim.Native.Nat.{ℕ, zero, suc, ◌-◌, ◌≤◌, ◌<◌}
use native.Mathlib.Omega.{arith}
use native.Mathlib.Nat.{eq-or-lt_of_le}
use mathlib.Core.Path.{◌≡◌, refl, sym, ◌∙◌}
use mathlib.Core.Logic.{◌≢◌, ⊎_elim}
use mathlib.Core.List.{List, [], ◌∷◌, ◌++◌, append-nil, Memᴰ}
use lib.ListN.{length, get_or, length-append, get_or-append}
use lib.Seq.{append_snoc, get_or_at}
use Rattle.beginnings.specs.Beginning.{Beginning}
use Rattle.beginnings.proofs.Children.{Child}

-- the vertices of c, one after the other, are children of p and of those of c before them
abbrev pub Follows : ℕ → (ℕ → ℕ) → List ℕ → List ℕ → Type 0
Follows n block p [] = Unit {0}
Follows n block p (v ∷ c) = Child n block p v × Follows n block (p ++ (v ∷ [])) c

-- one vertex more
pub length_more : (p : List ℕ) (v : ℕ) → length (p ++ (v ∷ [])) ≡ suc (length p)
length_more p v = omega (arith, length-append p (v ∷ []))

-- a member stands at some index
pub index_of : {v : ℕ} {p : List ℕ} → Memᴰ v p → (i : ℕ) × (i < length p) × (get_or p i 0 ≡ v)
index_of (Memᴰ.head e) = (0, omega arith, sym e)
index_of (Memᴰ.tail m) = let r = index_of m in (suc r.0, omega (arith, r.1), r.2)

-- what stands at an index is a member
pub mem_at : (p : List ℕ) (i : ℕ) → i < length p → Memᴰ (get_or p i 0) p
mem_at [] i h = absurd (omega arith)
mem_at (v ∷ p) zero h = Memᴰ.head refl
mem_at (v ∷ p) (suc i) h = Memᴰ.tail (mem_at p i (omega arith))

module _ (n : ℕ) (block : ℕ → ℕ) where
  -- a walk goes on from where it stands
  pub follows_append : (p c d : List ℕ) → Follows n block p c → Follows n block (p ++ c) d → Follows n block p (c ++ d)
  follows_append p [] d f g = rw append-nil at g
  follows_append p (v ∷ c) d f g = (f.0, follows_append (p ++ (v ∷ [])) c d f.1 (rw (append_snoc p v c) g))

  -- the start of a walk is one
  pub follows_start : (p c d : List ℕ) → Follows n block p (c ++ d) → Follows n block p c
  follows_start p [] d f = tt
  follows_start p (v ∷ c) d f = (f.0, follows_start (p ++ (v ∷ [])) c d f.1)

  -- and so is the rest, from there
  pub follows_rest : (p c d : List ℕ) → Follows n block p (c ++ d) → Follows n block (p ++ c) d
  follows_rest p [] d f = rw append-nil f
  follows_rest p (v ∷ c) d f = rw (append_snoc p v c) at (follows_rest (p ++ (v ∷ [])) c d f.1)

  -- the facts of a beginning but its length, by index
  record Placed (b : List ℕ) : Type 0 where
    low : (i : ℕ) → i < length b → 1 ≤ get_or b i 0
    high : (i : ℕ) → i < length b → get_or b i 0 ≤ n
    once : (i j : ℕ) → j < i → i < length b → get_or b i 0 ≢ get_or b j 0
    in_block : (i : ℕ) → i < length b → block (get_or b i 0) ≡ block (suc i)

  placed_of : (b : List ℕ) → Beginning n block b → Placed b
  placed_of b h =
      record {
        low = λ i l. let e : suc i - 1 ≡ i = omega arith in rw e at (h.low (suc i) (omega arith) (omega arith));
        high = λ i l. let e : suc i - 1 ≡ i = omega arith in rw e at (h.high (suc i) (omega arith) (omega arith));
        once = λ i j s l. let e : suc i - 1 ≡ i = omega arith in let f : suc j - 1 ≡ j = omega arith in rw (e, f) at (h.once (suc i) (suc j) (omega arith) (omega arith) (omega arith));
        in_block = λ i l. let e : suc i - 1 ≡ i = omega arith in rw e at (h.in_block (suc i) (omega arith) (omega arith));
      }

  beginning_of_placed : (b : List ℕ) → 1 ≤ length b → length b ≤ n → Placed b → Beginning n block b
  beginning_of_placed b begun fits h =
      record {
        begun = begun;
        fits = fits;
        low = λ i l u. h.low (i - 1) (omega arith);
        high = λ i l u. h.high (i - 1) (omega arith);
        once = λ i j l s u. h.once (i - 1) (j - 1) (omega arith) (omega arith);
        in_block = λ i l u. let e : i ≡ suc (i - 1) = omega arith in h.in_block (i - 1) (omega arith) ∙ rw (← e) refl;
      }

  -- the vertex after p is a child of it
  child_at : (p : List ℕ) (v : ℕ) (c : List ℕ) → Placed (p ++ (v ∷ c)) → Child n block p v
  child_at p v c h =
      let here : get_or (p ++ (v ∷ c)) (length p) 0 ≡ v = get_or_at p v c 0 (length p) refl in
      let room : length p < length (p ++ (v ∷ c)) = omega (arith, length-append p (v ∷ c)) in
      record {
        low = rw here at (h.low (length p) room);
        high = rw here at (h.high (length p) room);
        new = λ m. let r = index_of m in h.once (length p) r.0 r.1 room (here ∙ sym (get_or-append p (v ∷ c) 0 r.0 r.1 ∙ r.2));
        in_block = rw here at (h.in_block (length p) room);
      }

  placed_follows : (p c : List ℕ) → Placed (p ++ c) → Follows n block p c
  placed_follows p [] h = tt
  placed_follows p (v ∷ c) h = (child_at p v c h, placed_follows (p ++ (v ∷ [])) c (rw (append_snoc p v c) h))

  -- a child after p keeps the facts
  placed_more : (p : List ℕ) (v : ℕ) → Placed p → Child n block p v → Placed (p ++ (v ∷ []))
  placed_more p v h c =
      record {
        low = λ i l. at_or i l (λ x. 1 ≤ x) (λ s. h.low i s) (λ e. c.low);
        high = λ i l. at_or i l (λ x. x ≤ n) (λ s. h.high i s) (λ e. c.high);
        once = λ i j s l. at_or i l (λ x. x ≢ get_or (p ++ (v ∷ [])) j 0) (λ u. rw (get_or-append p (v ∷ []) 0 j (omega arith)) (h.once i j s u)) (λ e. let u : j < length p = omega arith in rw (get_or-append p (v ∷ []) 0 j u) (λ q. c.new (rw (sym q) at (mem_at p j u))));
        in_block = λ i l. at_or i l (λ x. block x ≡ block (suc i)) (λ s. h.in_block i s) (λ e. rw e c.in_block);
      }
    where
      at_or : (i : ℕ) → i < length (p ++ (v ∷ [])) → (P : ℕ → Type 0) → (i < length p → P (get_or p i 0)) → (i ≡ length p → P v) → P (get_or (p ++ (v ∷ [])) i 0)
      at_or i l P f g =
          ⊎_elim (λ (e : i ≡ length p). rw (get_or_at p v [] 0 i (sym e)) (g e))
          (λ (s : i < length p). rw (get_or-append p (v ∷ []) 0 i s) (f s))
          (eq-or-lt_of_le (omega (arith, length_more p v)))

  follows_placed : (p c : List ℕ) → Placed p → Follows n block p c → Placed (p ++ c)
  follows_placed p [] h f = rw append-nil h
  follows_placed p (v ∷ c) h f = rw (append_snoc p v c) at (follows_placed (p ++ (v ∷ [])) c (placed_more p v h f.0) f.1)

  none_placed : Placed []
  none_placed = record { low = λ i l. absurd (omega arith); high = λ i l. absurd (omega arith); once = λ i j s l. absurd (omega arith); in_block = λ i l. absurd (omega arith) }

  -- a beginning is a walk from nothing
  pub beginning_follows : (b : List ℕ) → Beginning n block b → Follows n block [] b
  beginning_follows b h = placed_follows [] b (placed_of b h)

  -- a walk from nothing, of 1 to n vertices, is a beginning
  pub beginning_of : (b : List ℕ) → 1 ≤ length b → length b ≤ n → Follows n block [] b → Beginning n block b
  beginning_of b begun fits f = beginning_of_placed b begun fits (follows_placed [] b none_placed f)

  -- each place of such a walk holds a vertex of its block
  pub follows_in_block : (b : List ℕ) → Follows n block [] b → (i : ℕ) → i < length b → block (get_or b i 0) ≡ block (suc i)
  follows_in_block b f = (follows_placed [] b none_placed f).in_block
