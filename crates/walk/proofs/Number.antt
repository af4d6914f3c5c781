-- The numbers of pairs in a list.
use Prim.Native.Nat.{ℕ, suc, ◌≤◌}
use native.Mathlib.Omega.{arith}
use mathlib.Core.Path.{◌≡◌, refl, sym, ◌∙◌, ap}
use mathlib.Core.List.{List, [], ◌∷◌, ◌++◌, Memᴰ}
use lib.ListN.{length, length-append}
use Rattle.walk.specs.Clause.{Numbered}

same_place : {P : Type 0} (before : List P) (k : P) (after before' : List P) (k' : P) (after' : List P)
    → before ++ k ∷ after ≡ before' ++ k' ∷ after' → length before ≡ length before' → k ≡ k'
same_place [] k after [] k' after' e l = cc
same_place [] k after (j ∷ before') k' after' e l = absurd (omega arith)
same_place (j ∷ before) k after [] k' after' e l = absurd (omega arith)
same_place (j ∷ before) k after (j' ∷ before') k' after' e l =
    let rest : before ++ k ∷ after ≡ before' ++ k' ∷ after' = cc in
    same_place before k after before' k' after' rest (omega arith)

-- a number is that of one pair
pub one_pair : {P : Type 0} {ks : List P} {k k' : P} {m : ℕ} → Numbered ks k m → Numbered ks k' m → k ≡ k'
one_pair {k} {k'} a b =
    same_place a.before k a.after b.before k' b.after (sym a.split ∙ b.split) (omega (arith, a.count, b.count))

-- each pair of ks has a number
pub has_number : {P : Type 0} {k : P} {ks : List P} → Memᴰ k ks → (m : ℕ) × Numbered ks k m
has_number {k = k} (Memᴰ.head {x = j} {xs = ks} e) =
    (1, record { before = []; after = ks; split = ap (λ i. i ∷ ks) (sym e); count = refl })
has_number {k = k} (Memᴰ.tail {x = j} {xs = ks} m) =
    let (n, at) = has_number m in (
      suc n,
      record { before = j ∷ at.before; after = at.after; split = ap (λ l. j ∷ l) at.split; count = ap suc at.count },
    )

-- the numbers go from 1 to the length of ks
pub number_low : {P : Type 0} {ks : List P} {k : P} {m : ℕ} → Numbered ks k m → 1 ≤ m
number_low a = omega (arith, a.count)

pub number_high : {P : Type 0} {ks : List P} {k : P} {m : ℕ} → Numbered ks k m → m ≤ length ks
number_high {k} a = rw (a.split, length-append) (omega (arith, a.count))
