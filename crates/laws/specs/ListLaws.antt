-- Lists: joined, without repeats, and of numbers that follow one another.
use Rattle.std.specs.Prelude.{ℕ, zero, suc, ◌+◌, ◌≤◌, ◌<◌, ◌≡◌, refl, length, get_or}
use Rattle.std.proofs.Common.{arith, sym, ap, ◌∙◌, ⊎_elim}
use mathlib.Core.List.{List, [], ◌∷◌, ◌++◌, map, Memᴰ}
use Rattle.laws.specs.UpTo.{list_up_to}

-- what f makes of two lists joined is what it makes of each, joined
pub map_append : {A B : Type 0} (f : A → B) (s t : List A) → map f (s ++ t) ≡ map f s ++ map f t
map_append f [] t = refl
map_append {B} f (x ∷ s) t = ap {B = List B} (λ r. f x ∷ r) (map_append f s t)

-- what stands at an index below the length stands in the list
pub get_d_mem : {A : Type 0} (l : List A) (i : ℕ) (d : A) → i < length l → Memᴰ (get_or l i d) l
get_d_mem [] i d h = absurd (omega arith)
get_d_mem (x ∷ l) zero d h = mathlib.Core.List.Memᴰ.head refl
get_d_mem (x ∷ l) (suc i) d h = mathlib.Core.List.Memᴰ.tail (get_d_mem l i d (omega arith))

-- a list splits at each element that stands in it
pub mem_split : {A : Type 0} (a : A) (l : List A) → Memᴰ a l → (xs : List A) × (ys : List A) × (l ≡ xs ++ a ∷ ys)
mem_split a [] h = absurd (mathlib.Core.List.Memᴰ.not-nil h)
mem_split {A} a (x ∷ l) h =
    ⊎_elim (λ (e : a ≡ x). ([], l, ap {B = List A} (λ c. c ∷ l) (sym e)))
    (λ (m : Memᴰ a l). let s = mem_split a l m in (x ∷ s.0, s.1, ap {B = List A} (λ r. x ∷ r) s.2))
    (mathlib.Core.List.Memᴰ.cases_cons h)

-- ---- no repeats

-- no element stands twice
unfoldable pub NoRepeats : {A : Type 0} → List A → Type 0
NoRepeats [] = Unit
NoRepeats (x ∷ xs) = (Memᴰ x xs → ⊥) × NoRepeats xs

-- a list whose images don't repeat doesn't repeat
pub no_repeats_of_map : {A B : Type 0} (f : A → B) (l : List A) → NoRepeats (map f l) → NoRepeats l
unfolding NoRepeats
no_repeats_of_map f [] h = tt
no_repeats_of_map f (x ∷ l) h = (λ m. h.0 (mathlib.Core.List.Memᴰ.map f m), no_repeats_of_map f l h.1)

pub no_repeats_one : {A : Type 0} (x : A) → NoRepeats (x ∷ [])
unfolding NoRepeats
no_repeats_one x = (λ m. mathlib.Core.List.Memᴰ.not-nil m, tt)

-- nor do two lists joined that have no element in common
pub no_repeats_append : {A : Type 0} (xs ys : List A) → NoRepeats xs → NoRepeats ys → ((x : A) → Memᴰ x xs → Memᴰ x ys → ⊥) → NoRepeats (xs ++ ys)
unfolding NoRepeats
no_repeats_append [] ys a b apart = b
no_repeats_append {A} (x ∷ xs) ys a b apart = (
  λ m. ⊎_elim (λ (l : Memᴰ x xs). a.0 l) (λ (r : Memᴰ x ys). apart x (mathlib.Core.List.Memᴰ.head refl) r) (mathlib.Core.List.Memᴰ.append_cases xs m),
  no_repeats_append xs ys a.1 b (λ y l r. apart y (mathlib.Core.List.Memᴰ.tail l) r),
)

-- ---- numbers that follow one another

-- a, a + 1, ..: m numbers
unfoldable pub count_up : ℕ → ℕ → List ℕ
count_up a zero = []
count_up a (suc m) = a ∷ count_up (suc a) m

-- m + k numbers are m numbers and the k that follow
pub count_up_append : (a m k : ℕ) → count_up a (m + k) ≡ count_up a m ++ count_up (a + m) k
unfolding count_up
count_up_append a zero k =
    let x : 0 + k ≡ k = omega arith in
    let y : a + 0 ≡ a = omega arith in
    rw (x, y)
count_up_append a (suc m) k =
    let x : suc m + k ≡ suc (m + k) = omega arith in
    let y : a + suc m ≡ suc a + m = omega arith in
    rw (x, y) (ap {B = List ℕ} (λ r. a ∷ r) (count_up_append (suc a) m k))

-- the number at index i is a + i
pub count_up_get_d : (a m i d : ℕ) → i < m → get_or (count_up a m) i d ≡ a + i
unfolding count_up
count_up_get_d a zero i d h = absurd (omega arith)
count_up_get_d a (suc m) zero d h = omega arith
count_up_get_d a (suc m) (suc i) d h = count_up_get_d (suc a) m i d (omega arith) ∙ omega arith

-- 1, 2, .., m
pub count_up_up_to : (m : ℕ) → count_up 1 m ≡ list_up_to (λ i. i) m
unfolding count_up list_up_to
count_up_up_to zero = refl
count_up_up_to (suc m) =
    let x : suc m ≡ m + 1 = omega arith in
    let y : 1 + m ≡ suc m = omega arith in
    ap (count_up 1) x ∙ count_up_append 1 m 1 ∙ rw (y, count_up_up_to m)

-- a number that stands among them is at least a
pub count_up_low : (a m x : ℕ) → Memᴰ x (count_up a m) → a ≤ x
unfolding count_up
count_up_low a zero x h = absurd (mathlib.Core.List.Memᴰ.not-nil h)
count_up_low a (suc m) x h =
    ⊎_elim (λ (e : x ≡ a). omega arith) (λ (k : Memᴰ x (count_up (suc a) m)). omega (arith, count_up_low (suc a) m x k)) (mathlib.Core.List.Memᴰ.cases_cons h)

-- and none of them stands twice
pub count_up_no_repeats : (a m : ℕ) → NoRepeats (count_up a m)
unfolding count_up NoRepeats
count_up_no_repeats a zero = tt
count_up_no_repeats a (suc m) = (λ h. omega (arith, count_up_low (suc a) m a h), count_up_no_repeats (suc a) m)
