-- The walk with no memory ends as the walk with driven values does.
use Prim.Native.Nat.{ℕ, ◌≤◌}
use native.Mathlib.Omega.{arith}
use native.Mathlib.Decide.{dec_le, ℕ_discrete}
use mathlib.Core.Path.{◌≡◌, refl, sym, ◌∙◌, ap, subst}
use mathlib.Core.Logic.{◌⊎◌, inl, inr, ◌≢◌}
use mathlib.Core.Bool.{Bool, true, false}
use mathlib.Core.List.Memᴰ
use mathlib.Core.List.{List, [], ◌∷◌, ◌++◌, append_assoc, Memᴰ}
use lib.Dec.{eqb, ltb}
use borrow.Author.Tests.{eq-eqb, ne_eqb, lt-ltb, le-ltb}
use Rattle.laws.specs.Test.{both, either, pick}
use Rattle.laws.specs.TestLaws.{fails, not_both_ways}
use Rattle.laws.specs.Each.{Each}
use Rattle.laws.specs.ListLaws.{NoRepeats}
use Rattle.walk.specs.Walk.{Tells, Move, ending, put, driven, walk}
use Rattle.walk.specs.Meaning.{Extends}
use Rattle.walk.specs.Free.{free_move, Precedes, edge_by, gap_by, free}
use Rattle.walk.proofs.Put.{put_here, put_there}
use Rattle.walk.proofs.Step.{Stepped, by_itself, winning, alike, zero_driven, one_driven, losing, stepped}

-- the element at which a list without repeats splits does not stand before
pub not_before : {A : Type 0} (xs : List A) (k : A) (ys : List A) → NoRepeats (xs ++ k ∷ ys) → Memᴰ k xs → ⊥
unfolding NoRepeats
not_before [] k ys h m = elim m [ ]
not_before (x ∷ xs) k ys h (Memᴰ.head e) = h.0 (Memᴰ.append_right xs (Memᴰ.head (sym e)))
not_before (x ∷ xs) k ys h (Memᴰ.tail m) = not_before xs k ys h.1 m

module _ {P : Type 0} (L : P → Type 0) (img src : P → P) (v : P → ℕ) where
  -- what the entries d are, at the pairs of L, once the pairs of `done` had their turns; where a pair and its source both had theirs,
  -- nothing is said
  record Driven (done : List P) (d : P → ℕ) : Type 0 where
    known : Extends L v d
    fresh : (x : P) → L x → 2 ≤ v x → ¬ Memᴰ x done → ¬ Memᴰ (src x) done → 2 ≤ d x
    as_image : (x : P) → L x → img x ≢ x → 2 ≤ v x → ¬ Memᴰ x done → Memᴰ (src x) done → d x ≡ 1
    as_pair : (x : P) → L x → img x ≢ x → 2 ≤ v x → Memᴰ x done → ¬ Memᴰ (src x) done → d x ≡ 0

  -- what the turn of k does to the entries where the walk goes on
  record Turned (k : P) (d d' : P → ℕ) : Type 0 where
    keeps : (x : P) → d x ≤ 1 → d' x ≡ d x
    stays : (x : P) → x ≢ k → x ≢ img k → d' x ≡ d x
    image_one : img k ≢ k → 2 ≤ d (img k) → d' (img k) ≡ 1
    pair_zero : img k ≢ k → 2 ≤ d k → d' k ≡ 0

  driven_none : Driven [] v
  driven_none =
      record {
        known = λ x l h. refl;
        fresh = λ x l u n m. u;
        as_image = λ x l i u n m. elim m [ ];
        as_pair = λ x l i u m n. elim m [ ];
      }

  -- one more turn
  module _ (img_src : (x : P) → L x → img (src x) ≡ x) (src_img : (x : P) → L x → src (img x) ≡ x) where
    driven_next : (done : List P) (k : P) (d d' : P → ℕ) → L k → ¬ Memᴰ k done → Turned k d d' → Driven done d → Driven (done ++ k ∷ []) d'
    driven_next done k d d' lk new t s =
        record {
          known = λ x l h. t.keeps x (omega (arith, s.known x l h)) ∙ s.known x l h;
          fresh = λ x l u n m. omega (arith, s.fresh x l u (λ i. n (was i)) (λ i. m (was i)), t.stays x (not_it x n) (not_image x m));
          as_image = λ x l i u n m. image x l i u n (Memᴰ.append_cases done m);
          as_pair = λ x l i u m n. pair x l i u (Memᴰ.append_cases done m) n;
        }
      where
        was : {x : P} → Memᴰ x done → Memᴰ x (done ++ k ∷ [])
        was m = Memᴰ.append_left (k ∷ []) m

        now : {x : P} → x ≡ k → Memᴰ x (done ++ k ∷ [])
        now e = Memᴰ.append_right done (Memᴰ.head e)

        not_it : (x : P) → ¬ Memᴰ x (done ++ k ∷ []) → x ≢ k
        not_it x n e = n (now e)

        not_image : (x : P) → ¬ Memᴰ (src x) (done ++ k ∷ []) → x ≢ img k
        not_image x n e = n (now (ap src e ∙ src_img k lk))

        image : (x : P) → L x → img x ≢ x → 2 ≤ v x → ¬ Memᴰ x (done ++ k ∷ []) → Memᴰ (src x) done ⊎ Memᴰ (src x) (k ∷ []) → d' x ≡ 1
        image x l i u n (inl m) =
            t.stays x (not_it x n) (λ e. new (subst (λ y. Memᴰ y done) (ap src e ∙ src_img k lk) m)) ∙ s.as_image x l i u (λ j. n (was j)) m
        image x l i u n (inr m) = ap d' is ∙ t.image_one (λ e. not_it x n (is ∙ e)) unknown
          where
            source : src x ≡ k
            source = Memᴰ.eq_of_singleton m

            is : x ≡ img k
            is = sym (img_src x l) ∙ ap img source

            unknown : 2 ≤ d (img k)
            unknown = rw is at (s.fresh x l u (λ j. n (was j)) (λ j. new (subst (λ y. Memᴰ y done) source j)))

        pair : (x : P) → L x → img x ≢ x → 2 ≤ v x → Memᴰ x done ⊎ Memᴰ x (k ∷ []) → ¬ Memᴰ (src x) (done ++ k ∷ []) → d' x ≡ 0
        pair x l i u (inl m) n =
            t.stays x (λ e. new (subst (λ y. Memᴰ y done) e m)) (not_image x n) ∙ s.as_pair x l i u m (λ j. n (was j))
        pair x l i u (inr m) n = ap d' is ∙ t.pair_zero (λ e. i (ap img is ∙ e ∙ sym is)) unknown
          where
            is : x ≡ k
            is = Memᴰ.eq_of_singleton m

            unknown : 2 ≤ d k
            unknown = rw is at (s.fresh x l u (λ j. new (subst (λ y. Memᴰ y done) is j)) (λ j. n (was j)))

-- ---- what the two tests tell

-- a test for a value y that is known, or is unknown and tells by another test
reads : (x y d : ℕ) (t : Bool) → y ≤ 1 → (x ≤ 1 → d ≡ x) → (2 ≤ x → t ≡ true → d ≡ y) → (2 ≤ x → t ≡ false → 2 ≤ d)
    → either (eqb x y) (both (ltb 1 x) t) ≡ eqb d y
unfolding both either
reads x y d t h k o n = at (dec_le x 1) t refl
  where
    at : Dec (x ≤ 1) → (s : Bool) → t ≡ s → either (eqb x y) (both (ltb 1 x) s) ≡ eqb d y
    at (yes a) s e = rw (le-ltb 1 x a, k a) (same_either (eqb x y))
      where
        same_either : (b : Bool) → either b false ≡ b
        same_either true = refl
        same_either false = refl
    at (no a) true e =
        rw (ne_eqb x y (λ q. a (omega arith)), lt-ltb 1 x (omega arith), eq-eqb d y (o (omega arith) e))
    at (no a) false e =
        rw (ne_eqb x y (λ q. a (omega arith)), lt-ltb 1 x (omega arith), ne_eqb d y (λ q. omega (arith, n (omega arith) e)))

-- ---- the walks

module _ {P : Type 0} {same : P → P → Bool} (tells : Tells same) (before : P → P → Bool) (L : P → Type 0) (img src : P → P) (v : P → ℕ)
    (image_in : (x : P) → L x → L (img x)) (source_in : (x : P) → L x → L (src x))
    (img_src : (x : P) → L x → img (src x) ≡ x) (src_img : (x : P) → L x → src (img x) ≡ x) where
  -- putting an entry in at an unknown place keeps what is known
  put_keeps : (k : P) (y : ℕ) (d : P → ℕ) → 2 ≤ d k → (x : P) → d x ≤ 1 → put same k y d x ≡ d x
  put_keeps k y d u x h = put_there tells k y d x (λ e. omega (arith, ap d e))

  free_after : (all : List P) → NoRepeats all → Precedes L all before → Each L all
      → (ks done : List P) → all ≡ done ++ ks → (d : P → ℕ) → Driven L img src v done d
      → walk same img ks d ≡ free same before img src v ks
  unfolding walk free ending driven free_move pick
  free_after all once order ls [] done e d s = refl
  free_after all once order ls (k ∷ ks) done e d s =
      at (stepped tells d img k) (λ d' t. free_after all once order ls ks (done ++ k ∷ []) more d' (driven_next L img src v img_src src_img done k d d' lk new t s))
    where
      more : all ≡ (done ++ k ∷ []) ++ ks
      more = rw append_assoc e

      lk : L k
      lk = ls k (rw e (Memᴰ.append_right done (Memᴰ.head refl)))

      new : ¬ Memᴰ k done
      new = not_before done k ks (rw e at once)

      lx : L (img k)
      lx = image_in k lk

      ly : L (src k)
      ly = source_in k lk

      edge : img k ≢ k → edge_by same before img src v k ≡ eqb (d k) 1
      edge i =
          reads (v k) 1 (d k) (before (src k) k) (omega arith) (s.known k lk)
          (λ u t. s.as_image k lk i u new ((order done k ks e (src k) ly).0 t))
          (λ u t. s.fresh k lk u new (λ m. not_both_ways (before (src k) k) ((order done k ks e (src k) ly).1 m) t))

      -- the image's source, k, had no turn, and the image isn't its own
      new_source : ¬ Memᴰ (src (img k)) done
      new_source m = new (subst (λ y. Memᴰ y done) (src_img k lk) m)

      moved : img k ≢ k → img (img k) ≢ img k
      moved i p = i (sym (src_img (img k) lx) ∙ ap src p ∙ src_img k lk)

      gap : img k ≢ k → gap_by same before img src v k ≡ eqb (d (img k)) 0
      gap i =
          reads (v (img k)) 0 (d (img k)) (before (img k) k) (omega arith) (s.known (img k) lx)
          (λ u t. s.as_pair (img k) lx (moved i) u ((order done k ks e (img k) lx).0 t) new_source)
          (λ u t. s.fresh (img k) lx u (λ m. not_both_ways (before (img k) k) ((order done k ks e (img k) lx).1 m) t) new_source)

      -- the move of the walk without memory
      freely : Move
      freely = free_move (same (img k) k) (edge_by same before img src v k) (gap_by same before img src v k)

      freely_is : (a b : Bool) → img k ≢ k → eqb (d k) 1 ≡ a → eqb (d (img k)) 0 ≡ b → freely ≡ free_move false a b
      freely_is a b n p q = cc (fails (same (img k) k) (λ t. n (tells.equal (img k) k t)), edge n, gap n)

      at : {m : Move} → Stepped d img k m → ((d' : P → ℕ) → Turned L img src v k d d' → walk same img ks d' ≡ free same before img src v ks)
          → ending m k (walk same img ks (driven same m k (img k) d)) ≡ ending freely k (free same before img src v ks)
      at (by_itself p) go =
          let own : same (img k) k ≡ true = rw p (tells.itself k) in
          rw own (go d record { keeps = λ x h. refl; stays = λ x n m. refl; image_one = λ n u. absurd (n p); pair_zero = λ n u. absurd (n p) })
      at (winning n a b) go = rw (freely_is true true n (eq-eqb (d k) 1 a) (eq-eqb (d (img k)) 0 b))
      at (alike n u b) go = on (ℕ_discrete (d k) 1)
        where
          rest : walk same img ks d ≡ free same before img src v ks
          rest = go d record { keeps = λ x h. refl; stays = λ x m o. refl; image_one = λ m o. absurd (omega arith); pair_zero = λ m o. absurd (omega arith) }

          on : Dec (d k ≡ 1) → walk same img ks d ≡ ending freely k (free same before img src v ks)
          on (yes a) = rw (freely_is true false n (eq-eqb (d k) 1 a) (ne_eqb (d (img k)) 0 (λ q. omega arith))) rest
          on (no a) = rw (freely_is false true n (ne_eqb (d k) 1 a) (eq-eqb (d (img k)) 0 (omega arith))) rest
      at (zero_driven n u b) go =
          rw (freely_is false true n (ne_eqb (d k) 1 (λ q. omega arith)) (eq-eqb (d (img k)) 0 b))
          (
          go (put same k 0 d)
          record {
            keeps = put_keeps k 0 d u;
            stays = λ x m o. put_there tells k 0 d x m;
            image_one = λ m o. absurd (omega arith);
            pair_zero = λ m o. put_here tells k 0 d;
          }
          )
      at (one_driven n a u) go =
          rw (freely_is true false n (eq-eqb (d k) 1 a) (ne_eqb (d (img k)) 0 (λ q. omega arith)))
          (
          go (put same (img k) 1 d)
          record {
            keeps = put_keeps (img k) 1 d u;
            stays = λ x m o. put_there tells (img k) 1 d x o;
            image_one = λ m o. put_here tells (img k) 1 d;
            pair_zero = λ m o. absurd (omega arith);
          }
          )
      at (losing n a b) go = rw (freely_is false false n (ne_eqb (d k) 1 a) (ne_eqb (d (img k)) 0 b))

  -- along a list without repeats, whose pairs are in L, the two walks end alike
  pub free_walk : (ks : List P) → NoRepeats ks → Precedes L ks before → Each L ks → walk same img ks v ≡ free same before img src v ks
  free_walk ks once order ls = free_after ks once order ls ks [] refl v (driven_none L img src v)
