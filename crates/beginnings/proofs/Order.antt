-- Dictionary order: it is a strict total order, what it says of extensions, and a rising list is determined by its members.
use Prim.Native.Nat.{ℕ, ◌<◌}
use native.Mathlib.Decide.{dec_lt}
use native.Mathlib.Omega.{arith}
use mathlib.Core.Path.{◌≡◌, refl, sym, ◌∙◌, ap₂}
use mathlib.Core.Logic.{◌⊎◌, inl, inr, ◌↔◌, ⊎_elim}
use mathlib.Core.List.Memᴰ
use mathlib.Core.List.{List, [], ◌∷◌, ◌++◌, Memᴰ}
use Rattle.beginnings.specs.Order.{Before, Rising}

-- ---- a strict total order

-- no list comes before itself
pub before_irrefl : (b : List ℕ) → Before b b → ⊥
before_irrefl [] h = h
before_irrefl (v ∷ b) (inl h) = omega arith
before_irrefl (v ∷ b) (inr h) = before_irrefl b h.1

-- before the before is before
pub before_trans : (a b c : List ℕ) → Before a b → Before b c → Before a c
before_trans [] [] c p q = absurd p
before_trans [] (w ∷ b) [] p q = absurd q
before_trans [] (w ∷ b) (x ∷ c) p q = tt
before_trans (v ∷ a) [] c p q = absurd p
before_trans (v ∷ a) (w ∷ b) [] p q = absurd q
before_trans (v ∷ a) (w ∷ b) (x ∷ c) (inl p) (inl q) = inl (omega arith)
before_trans (v ∷ a) (w ∷ b) (x ∷ c) (inl p) (inr q) = inl (omega arith)
before_trans (v ∷ a) (w ∷ b) (x ∷ c) (inr p) (inl q) = inl (omega arith)
before_trans (v ∷ a) (w ∷ b) (x ∷ c) (inr p) (inr q) = inr (p.0 ∙ q.0, before_trans a b c p.1 q.1)

-- of two vertices one is smaller, or they are one
trichotomy : (v w : ℕ) → (v < w) ⊎ ((v ≡ w) ⊎ (w < v))
trichotomy v w = go (dec_lt v w) (dec_lt w v)
  where
    go : Dec (v < w) → Dec (w < v) → (v < w) ⊎ ((v ≡ w) ⊎ (w < v))
    go (yes p) d = inl p
    go (no p) (yes q) = inr (inr q)
    go (no p) (no q) = inr (inl (omega arith))

-- of two lists one comes before the other, or they are one
pub before_total : (b c : List ℕ) → Before b c ⊎ ((b ≡ c) ⊎ Before c b)
before_total [] [] = inr (inl refl)
before_total [] (w ∷ c) = inl tt
before_total (v ∷ b) [] = inr (inr tt)
before_total (v ∷ b) (w ∷ c) = go (trichotomy v w) (before_total b c)
  where
    go : (v < w) ⊎ ((v ≡ w) ⊎ (w < v)) → Before b c ⊎ ((b ≡ c) ⊎ Before c b) → Before (v ∷ b) (w ∷ c) ⊎ ((v ∷ b ≡ w ∷ c) ⊎ Before (w ∷ c) (v ∷ b))
    go (inl p) r = inl (inl p)
    go (inr (inl e)) (inl r) = inl (inr (e, r))
    go (inr (inl e)) (inr (inl r)) = inr (inl (ap₂ ◌∷◌ e r))
    go (inr (inl e)) (inr (inr r)) = inr (inr (inr (sym e, r)))
    go (inr (inr q)) r = inr (inr (inl q))

-- ---- extensions

-- a list comes before those that properly extend it
pub before_extension : (b : List ℕ) (v : ℕ) (c : List ℕ) → Before b (b ++ (v ∷ c))
before_extension [] v c = tt
before_extension (w ∷ b) v c = inr (refl, before_extension b v c)

-- what comes before after the same start comes before
pub before_append : (a b c : List ℕ) → Before b c → Before (a ++ b) (a ++ c)
before_append [] b c h = h
before_append (v ∷ a) b c h = inr (refl, before_append a b c h)

-- before is by extension, or by a place where the two differ, and then whatever follows them
pub before_how : (b c : List ℕ) → Before b c → ((v : ℕ) × (d : List ℕ) × (c ≡ b ++ (v ∷ d))) ⊎ ((x y : List ℕ) → Before (b ++ x) (c ++ y))
before_how [] [] h = absurd h
before_how [] (w ∷ c) h = inl (w, c, refl)
before_how (v ∷ b) [] h = absurd h
before_how (v ∷ b) (w ∷ c) (inl h) = inr (λ x y. inl h)
before_how (v ∷ b) (w ∷ c) (inr h) = go (before_how b c h.1)
  where
    go : ((u : ℕ) × (d : List ℕ) × (c ≡ b ++ (u ∷ d))) ⊎ ((x y : List ℕ) → Before (b ++ x) (c ++ y)) → ((u : ℕ) × (d : List ℕ) × (w ∷ c ≡ (v ∷ b) ++ (u ∷ d))) ⊎ ((x y : List ℕ) → Before ((v ∷ b) ++ x) ((w ∷ c) ++ y))
    go (inl e) = inl (e.0, e.1, ap₂ ◌∷◌ (sym h.0) e.2)
    go (inr f) = inr (λ x y. inr (h.0, f x y))

-- ---- rising lists

-- two rising lists, each of the first before each of the second, joined
pub rising_append : (bs cs : List (List ℕ)) → Rising bs → Rising cs → ((b c : List ℕ) → Memᴰ b bs → Memᴰ c cs → Before b c) → Rising (bs ++ cs)
rising_append [] cs rb rc across = rc
rising_append (b ∷ bs) cs rb rc across = (λ c m. ⊎_elim (λ (l : Memᴰ c bs). rb.0 c l) (λ (r : Memᴰ c cs). across b c (Memᴰ.head refl) r) (Memᴰ.append_cases bs m), rising_append bs cs rb.1 rc (λ x c l r. across x c (Memᴰ.tail l) r))

-- the end of a rising list is rising
pub rising_end : (bs cs : List (List ℕ)) → Rising (bs ++ cs) → Rising cs
rising_end [] cs r = r
rising_end (b ∷ bs) cs r = rising_end bs cs r.1

-- a rising list has no repeats
pub rising_once : (b : List ℕ) (bs : List (List ℕ)) → Rising (b ∷ bs) → Memᴰ b bs → ⊥
rising_once b bs r m = before_irrefl b (r.0 b m)

-- the heads of two rising lists with the same members are one
heads : (b c : List ℕ) (bs cs : List (List ℕ)) → Rising (b ∷ bs) → Rising (c ∷ cs) → (b ≡ c) ⊎ Memᴰ b cs → (c ≡ b) ⊎ Memᴰ c bs → b ≡ c
heads b c bs cs rb rc (inl e) q = e
heads b c bs cs rb rc (inr m) (inl e) = sym e
heads b c bs cs rb rc (inr m) (inr k) = absurd (before_irrefl b (before_trans b c b (rb.0 c k) (rc.0 b m)))

-- the members of the tail, where the heads are one
tails : (b c : List ℕ) (bs cs : List (List ℕ)) → b ≡ c → Rising (b ∷ bs) → ((x : List ℕ) → Memᴰ x (b ∷ bs) → Memᴰ x (c ∷ cs)) → (x : List ℕ) → Memᴰ x bs → Memᴰ x cs
tails b c bs cs e r incl x m = go (Memᴰ.cases_cons (incl x (Memᴰ.tail m)))
  where
    go : (x ≡ c) ⊎ Memᴰ x cs → Memᴰ x cs
    go (inl q) = absurd (rising_once b bs r (Memᴰ.cast (e ∙ sym q) m))
    go (inr k) = k

-- two rising lists with the same members are one
pub rising_unique : (bs cs : List (List ℕ)) → Rising bs → Rising cs → ((b : List ℕ) → Memᴰ b bs ↔ Memᴰ b cs) → bs ≡ cs
rising_unique [] [] rb rc same = refl
rising_unique [] (c ∷ cs) rb rc same = absurd (Memᴰ.not-nil ((same c).1 (Memᴰ.head refl)))
rising_unique (b ∷ bs) [] rb rc same = absurd (Memᴰ.not-nil ((same b).0 (Memᴰ.head refl)))
rising_unique (b ∷ bs) (c ∷ cs) rb rc same =
    let e : b ≡ c = heads b c bs cs rb rc (Memᴰ.cases_cons ((same b).0 (Memᴰ.head refl))) (Memᴰ.cases_cons ((same c).1 (Memᴰ.head refl))) in
    ap₂ ◌∷◌ e (rising_unique bs cs rb.1 rc.1 (λ x. (tails b c bs cs e rb (λ y. (same y).0) x, tails c b cs bs (sym e) rc (λ y. (same y).1) x)))
