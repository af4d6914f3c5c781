-- What holds at each turn of the completion of a path, and where it ends.
use Prim.Native.Nat.{ℕ, suc, ◌+◌, ◌-◌, ◌^◌, ◌≤◌, ◌<◌}
use native.Mathlib.Nat.{lt_of_lt_of_le}
use native.Mathlib.Omega.{arith}
use mathlib.Core.Path.{◌≡◌, refl, sym, ap, ap₂, subst, ◌∙◌}
use mathlib.Core.Logic.{◌≢◌}
use mathlib.Core.List.{List, [], ◌∷◌, ◌++◌, Memᴰ, nil≢cons}
use lib.Bits.{bit_and}
use lib.Count.{count_trailing_zeros}
use lib.ListN.{length, get_or, set, take, drop, replicate, length-set, take-append-drop}
use lib.Pow.{pow_mono}
use lib.Seq.{take-suc-set, drop-set-lt, length-take-le}
use Rattle.laws.specs.Masks.{members, no_members, not_empty, lowest_below, lowest_first}
use Rattle.beginnings.specs.Beginning.{Beginning, children}
use Rattle.beginnings.specs.Certificate.{completed}
use Rattle.beginnings.proofs.Children.{Child, child_of_mem}
use Rattle.beginnings.proofs.Follows.{Follows, length_more, follows_append, beginning_follows, beginning_of}
use Rattle.beginnings.proofs.Completed.{completed_none, completed_more, first_child, child_exists}
use Rattle.words.specs.Placed.{placed}
use Rattle.rows.specs.Rows.{block_of}
use Rattle.words.proofs.Placed.{placed_at}
use Rattle.judging.specs.Judging.{padded}
use Rattle.stops.specs.Used.{used_mask}
use Rattle.exploring.specs.Masks.{block_mask}
use Rattle.stops.proofs.UsedLaws.{used_down, used_below}
use Rattle.exploring.proofs.MaskLaws.{mask_children, mask_fits}

-- the path is completed up to d places
pub record Completing (n starts depth : ℕ) (blocks path₀ path : List ℕ) (used d : ℕ) : Type 0 where
  pub high : n ≤ 32
  pub blocks_are : blocks ≡ placed (block_mask (block_of starts) n) n
  pub long : length path ≡ 32
  pub within : d ≤ n
  pub begun : Beginning n (block_of starts) (take d path)
  pub in_use : used ≡ used_mask (take d path)
  pub kept : drop n path ≡ replicate (32 - n) 0
  pub whole : completed n (block_of starts) (n - d) (take d path) ≡ completed n (block_of starts) (n - depth) (take depth path₀)

pub completing_starts : (n starts depth : ℕ) (blocks path : List ℕ) (used : ℕ) → n ≤ 32 → blocks ≡ placed (block_mask (block_of starts) n) n → length path ≡ 32
    → Beginning n (block_of starts) (take depth path) → length (take depth path) ≡ depth → used ≡ used_mask (take depth path) → drop n path ≡ replicate (32 - n) 0
    → Completing n starts depth blocks path path used depth
completing_starts n starts depth blocks path used h e l b k u z =
    record { high = h; blocks_are = e; long = l; within = omega (arith, b.fits); begun = b; in_use = u; kept = z; whole = refl }

module _ (n starts depth : ℕ) (blocks path₀ path : List ℕ) (used d : ℕ) (s : Completing n starts depth blocks path₀ path used d) where
  abbrev block : ℕ → ℕ
  block = block_of starts

  path_length : length (take d path) ≡ d
  path_length = length-take-le d path (omega (arith, s.within, s.high, s.long))

  -- all places are filled
  pub completing_ends : n ≤ d → path ≡ padded (completed n (block_of starts) (n - depth) (take depth path₀))
  unfolding padded
  completing_ends h =
      let e : d ≡ n = omega (arith, s.within) in
      let none : n - d ≡ 0 = omega arith in
      let done : take d path ≡ completed n block (n - depth) (take depth path₀) = sym (ap (λ (m : ℕ). completed n block m (take d path)) none ∙ completed_none n block (take d path)) ∙ s.whole in
      sym (take-append-drop n path) ∙ ap (λ (r : List ℕ). take n path ++ r) s.kept
      ∙ ap₂ (λ (p : List ℕ) (m : ℕ). p ++ replicate (32 - m) 0) (ap (λ (m : ℕ). take m path) (sym e) ∙ done) (sym e ∙ sym path_length ∙ ap length done)

  module _ (l : d < n) (m t : ℕ) (k : m ≡ get_or blocks d 0 - bit_and (get_or blocks d 0) used) (q : t ≡ count_trailing_zeros 32 m) where
    its_block : get_or blocks d 0 ≡ block_mask block n (suc (length (take d path)))
    its_block =
        let a : suc d - 1 ≡ d = omega arith in
        rw s.blocks_are (rw a at (placed_at (block_mask block n) n (suc d) (omega arith) l)) ∙ ap (λ (i : ℕ). block_mask block n (suc i)) (sym path_length)

    follows : Follows n block [] (take d path)
    follows = beginning_follows n block (take d path) s.begun

    its_children : members m n ≡ children n block (take d path)
    its_children = mask_children n block (take d path) follows m (get_or blocks d 0) used its_block s.in_use k

    below : m < 2 ^ n
    below = mask_fits block n (suc (length (take d path))) m (get_or blocks d 0) used its_block k

    some : m ≢ 0
    some z =
        let c = child_exists n block (take d path) s.begun (omega (arith, path_length)) in
        nil≢cons (sym (no_members n) ∙ ap (λ (x : ℕ). members x n) (sym z) ∙ its_children ∙ c.2)

    pub place_below : t < 32
    place_below = omega (arith, lowest_below m n t q below s.high (not_empty m some), s.high)

    first : children n block (take d path) ≡ suc t ∷ members (m - 2 ^ t) n
    first = sym its_children ∙ lowest_first m n t (m - 2 ^ t) q refl below s.high (not_empty m some)

    child : Child n block (take d path) (suc t)
    child = child_of_mem n block (take d path) (suc t) (subst (λ (x : List ℕ). Memᴰ (suc t) x) (sym first) (Memᴰ.head refl))

    longer : Follows n block [] (take d path ++ (suc t ∷ []))
    longer = follows_append n block [] (take d path) (suc t ∷ []) follows (child, tt)

    module _ (w : ℕ) (e : w ≡ 2 ^ t) where
      more_used : used + w ≡ used_mask (take d path ++ (suc t ∷ []))
      more_used = used_down (take d path) (suc t) t used (used + w) refl s.in_use (ap (λ (x : ℕ). used + x) e)

      pub used_fits : used + w < 2 ^ 32
      used_fits = rw more_used (lt_of_lt_of_le (used_below n block (take d path ++ (suc t ∷ [])) longer) (pow_mono {j = 32} s.high))

      pub completing_turns : (v : ℕ) → v ≡ t + 1 → Completing n starts depth blocks path₀ (set path d v) (used + w) (d + 1)
      completing_turns v p =
          record {
            high = s.high;
            blocks_are = s.blocks_are;
            long = length-set path d v ∙ s.long;
            within = omega arith;
            begun = rw next (beginning_of n block (take d path ++ (suc t ∷ [])) (omega (arith, length_more (take d path) (suc t))) (omega (arith, length_more (take d path) (suc t), path_length)) longer);
            in_use = more_used ∙ ap used_mask (sym next);
            kept = drop-set-lt n path d v l ∙ s.kept;
            whole = rw next (ap (completed n block (n - (d + 1))) (sym (first_child n block (take d path) (suc t) (members (m - 2 ^ t) n) first)) ∙ sym (completed_more n block (n - (d + 1)) (take d path)) ∙ ap (λ (x : ℕ). completed n block x (take d path)) (omega arith) ∙ s.whole);
          }
        where
          next : take (d + 1) (set path d v) ≡ take d path ++ (suc t ∷ [])
          next =
              let a : d + 1 ≡ suc d = omega arith in
              let c : v ≡ suc t = omega arith in
              ap₂ (λ (x y : ℕ). take x (set path d y)) a c ∙ take-suc-set path d (suc t) (omega (arith, s.long, s.high))
