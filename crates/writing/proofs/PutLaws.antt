-- What each call of the pen brings, and what it needs.
use Prim.Native.Nat.{ℕ, zero, suc, ◌+◌, ◌-◌, ◌*◌, ◌/◌, ◌%◌, ◌^◌, ◌≤◌, ◌<◌}
use native.Mathlib.Omega.{arith}
use native.Mathlib.Nat.{add-zero, mul_assoc, mul_comm, lt_of_le_of_lt}
use native.Mathlib.Numerals.{add-one}
use mathlib.Core.Path.{◌≡◌, refl, sym, ap, ap₂, ◌∙◌, subst}
use mathlib.Core.List.{List, ◌++◌}
use lib.ListN.{length, drop, get_or}
use lib.Dec.{lit<}
use lib.Pow.{pow-add, pow_mono, shl_exact}
use mir.Syntax.{w64}
use mir.Val.{Fits}
use Rattle.laws.specs.UpTo.{list_up_to}
use Rattle.laws.specs.Bit.{bit}
use Rattle.laws.specs.Num.{num, num_append, num_below, num_of_zeros, num_same}
use Rattle.graph.specs.declared.Graph.{Graph}
use Rattle.rows.specs.Rows.{start_at}
use Rattle.pairs.specs.Pairs.{pair_count, number}
use Rattle.graph.specs.Counts.{entry_at}
use Rattle.pairs.proofs.PairLaws.{number_first, number_next_row, number_low, number_high, pair_of_number}
use Rattle.record.specs.Layout.{entry_place, bit_count, byte_count, cell}
use Rattle.record.specs.Reading.{order_in, numbered_in}
use Rattle.record.specs.Writing.{record_bit, record_byte, record_of}
use Rattle.record.proofs.RecordBits.{order_held, start_held, entry_held, pad_held, bits_in_bytes}
use Rattle.record.proofs.WriteLaws.{record_bit_small}
use Rattle.pen.specs.declared.Pen.{Pen}
use Rattle.pen.specs.Stored.{stored}
use Rattle.pen.specs.Pushed.{IsPushed}
use Rattle.writing.specs.Along.{along}
use Rattle.writing.specs.Reached.{Reached}
use Rattle.writing.proofs.Buffer.{filled_starts}
use Rattle.writing.proofs.Reached.{kept_small, stored_filled, pushes, from_here, joined}

-- ---- places

-- the number after the last pair's
last_number : (n : ℕ) → 1 ≤ n → number n n (n + 1) ≡ pair_count n + 1
last_number n l =
    let a : 2 * n - n ≡ n = omega arith in
    let b : n + 1 - n ≡ 1 = omega arith in
    rw (a, b) (ap (λ (x : ℕ). x / 2 + 1) (mul_comm (n - 1) n))

-- so its place is the end of the entries
cell_end : (n i : ℕ) → 1 ≤ n → i ≤ n → n ≤ i → cell n i (i + 1) ≡ bit_count n
unfolding cell bit_count
cell_end n i l a b =
    let e : i ≡ n = omega arith in
    rw e (omega (arith, last_number n l))

-- the place of a later entry of the row
cell_later : (n i t : ℕ) → cell n i (i + t + 1) ≡ cell n i (i + 1) + 2 * t
unfolding cell
cell_later n i t = along_row_lem ((i - 1) * (2 * n - i) / 2)
  where
    along_row_lem : (k : ℕ) → entry_place n (k + (i + t + 1 - i)) ≡ entry_place n (k + (i + 1 - i)) + 2 * t
    along_row_lem k = omega arith

-- the next row starts where this one ends
cell_next : (n i : ℕ) → 1 ≤ i → i < n → cell n i (i + 1) + 2 * (n - i) ≡ cell n (i + 1) (i + 1 + 1)
unfolding cell
cell_next n i l h = places (number n (i + 1) (i + 1 + 1)) ((i - 1) * (2 * n - i) / 2) (rw (add-one (i + 1), add-one i) (number_next_row n i l h))
  where
    places : (z k : ℕ) → z ≡ suc (k + (n - i)) → entry_place n (k + (i + 1 - i)) + 2 * (n - i) ≡ entry_place n z
    places z k e = omega arith

-- the rows lie before the end
cell_within : (n i : ℕ) → 1 ≤ i → i < n → cell n (i + 1) (i + 1 + 1) ≤ bit_count n
unfolding cell bit_count
cell_within n i l h =
    places (number n (i + 1) (i + 1 + 1)) (number n i n) (pair_count n) (rw (add-one (i + 1), add-one i) (number_next_row n i l h)) (number_high n i n l h (omega arith))
  where
    places : (x y c : ℕ) → x ≡ suc y → y ≤ c → 6 + (n - 1) + 2 * (x - 1) ≤ 6 + (n - 1) + 2 * c
    places x y c e q = omega arith

all_room : (g : Graph) (d : List ℕ) → byte_count g.order ≤ length d → bit_count g.order ≤ 8 * length d
all_room g d room = omega (arith, bits_in_bytes g.order, room)

-- ---- the starts as one number

pub starts_small : (starts n v : ℕ) → v ≡ num (start_at starts) 2 (n - 1) → v < 2 ^ (n - 1)
starts_small starts n v e = rw e (num_below (start_at starts) (λ k. omega arith) 2 (n - 1))

pub start_fits : (starts a t n made b : ℕ) → made ≡ num (start_at starts) a t → b < 2 → t < n - 1 → n ≤ 32
    → Fits w64 (2 * made + b)
start_fits starts a t n made b e s l h =
    record { fits = omega (arith, e, num_below (start_at starts) (λ k. omega arith) a t, pow_mono {i = t} {j = 32} (omega arith)) }

pub twice_fits : (starts a t n made : ℕ) → made ≡ num (start_at starts) a t → t < n - 1 → n ≤ 32 → Fits w64 (2 * made)
twice_fits starts a t n made e l h =
    record { fits = omega (arith, e, num_below (start_at starts) (λ k. omega arith) a t, pow_mono {i = t} {j = 32} (omega arith)) }

-- ---- the entries of a row as one number

pub along_starts : (e u i : ℕ) → 0 ≡ along e u i 0
unfolding along
along_starts e u i = refl

pub along_more : (e u i t made x : ℕ) → made ≡ along e u i t → x ≡ bit e (i + t + 1 - 1) + 2 * bit u (i + t + 1 - 1)
    → 4 * made + x ≡ along e u i (t + 1)
unfolding along
along_more e u i t made x is_made is_x =
    let k : i + t + 1 - 1 ≡ i + t = omega arith in
    rw (add-one t, is_made) (ap (λ (y : ℕ). 4 * along e u i t + y) (is_x ∙ rw k))

pub along_done : (e u i t count made : ℕ) → made ≡ along e u i t → t ≤ count → count ≤ t → made ≡ along e u i count
along_done e u i t count made h a b = let q : t ≡ count = omega arith in h ∙ ap (along e u i) q

along_small : (e u i t : ℕ) → along e u i t < 2 ^ (2 * t)
unfolding along
along_small e u i zero = omega arith
along_small e u i (suc t) =
    let k : 2 * suc t ≡ 2 * t + 2 = omega arith in
    rw (k, pow-add 2 (2 * t) 2) (omega (arith, along_small e u i t))

pub row_small : (e u i n v : ℕ) → v ≡ along e u i (n - i) → v < 2 ^ (2 * (n - i))
row_small e u i n v h = rw h (along_small e u i (n - i))

pub entry_fits : (e u i t count made x : ℕ) → made ≡ along e u i t → x ≤ 3 → t < count → count ≤ 31 → Fits w64 (4 * made + x)
entry_fits e u i t count made x h s l few =
    record { fits = omega (arith, h, along_small e u i t, pow_mono {i = 2 * t} {j = 60} (omega arith)) }

pub fourfold_fits : (e u i t count made : ℕ) → made ≡ along e u i t → t < count → count ≤ 31 → Fits w64 (4 * made)
fourfold_fits e u i t count made h l few =
    record { fits = omega (arith, h, along_small e u i t, pow_mono {i = 2 * t} {j = 60} (omega arith)) }

-- the record has an entry where it stands
entry_is : (g : Graph) (i t : ℕ) → 1 ≤ i → i + t < g.order
    → bit (get_or g.edges (i - 1) 0) (i + t) + 2 * bit (get_or g.unknowns (i - 1) 0) (i + t) ≡ num (record_bit g) (cell g.order i (i + 1) + 2 * t) 2
unfolding numbered_in cell
entry_is g i t li hi =
    let k : i + t ≡ i + t + 1 - 1 = omega arith in
    rw k
    (ap (entry_at g) (sym (pair_of_number g.order i (i + t + 1) li (omega arith) (omega arith)))
    ∙ sym (entry_held g (number g.order i (i + t + 1)) (omega arith) (number_low g.order i (i + t + 1) (omega arith)) (number_high g.order i (i + t + 1) li (omega arith) (omega arith)))
    ∙ ap (λ (a : ℕ). num (record_bit g) a 2) (cell_later g.order i t))

-- and the entries of a row
one_more : (f : ℕ → ℕ) (a e u i t : ℕ) → along e u i t ≡ num f a (2 * t)
    → bit e (i + t) + 2 * bit u (i + t) ≡ num f (a + 2 * t) 2 → along e u i (suc t) ≡ num f a (2 * suc t)
unfolding along
one_more f a e u i t before entry =
    let k : 2 * suc t ≡ 2 * t + 2 = omega arith in
    ap₂ (λ (x y : ℕ). 4 * x + y) before entry
    ∙ ap (λ (x : ℕ). x + num f (a + 2 * t) 2) (mul_comm 4 (num f a (2 * t)))
    ∙ sym (ap (num f a) k ∙ num_append f a (2 * t) 2)

along_held : (g : Graph) (i t : ℕ) → 1 ≤ i → i + t ≤ g.order
    → along (get_or g.edges (i - 1) 0) (get_or g.unknowns (i - 1) 0) i t ≡ num (record_bit g) (cell g.order i (i + 1)) (2 * t)
along_held g i zero li hi = unfold along num in refl
along_held g i (suc t) li hi =
    one_more (record_bit g) (cell g.order i (i + 1)) (get_or g.edges (i - 1) 0) (get_or g.unknowns (i - 1) 0) i t (along_held g i t li (omega arith)) (entry_is g i t li (omega arith))

-- ---- the rows

module _ (g : Graph) (d o : List ℕ) (p : Pen) (i : ℕ) (h : Reached g d o p (cell g.order i (i + 1))) (li : 1 ≤ i) (hi : i < g.order) where
  within : cell g.order i (i + 1) + 2 * (g.order - i) ≤ 8 * length d
  within = rw (cell_next g.order i li hi) (omega (arith, cell_within g.order i li hi, all_room g d h.room))

  pub row_room : 8 * p.stored + p.have + 2 * (g.order - i) ≤ 8 * length o
  row_room = omega (arith, within, h.at, h.long)

  pub row_pushed : (o' : List ℕ) (r : Pen) (v : ℕ) → g.order ≤ 32
      → v ≡ along (get_or g.edges (i - 1) 0) (get_or g.unknowns (i - 1) 0) i (g.order - i)
      → IsPushed o p v (2 * (g.order - i)) o' r → Reached g d o' r (cell g.order (i + 1) (i + 1 + 1))
  row_pushed o' r v short is_v u =
      subst (Reached g d o' r) (cell_next g.order i li hi)
      (pushes g d o o' p r v (2 * (g.order - i)) (cell g.order i (i + 1)) h u (is_v ∙ along_held g i (g.order - i) li (omega arith)) (omega arith) within)

pub rows_done : (g : Graph) (d o : List ℕ) (p : Pen) (i : ℕ) → Reached g d o p (cell g.order i (i + 1))
    → 1 ≤ g.order → i ≤ g.order → g.order ≤ i → Reached g d o p (bit_count g.order)
rows_done g d o p i h l a b = subst (Reached g d o p) (cell_end g.order i l a b) h

-- ---- the last bytes

-- the bits that wait, with zeros after them
module _ (g : Graph) (d o : List ℕ) (p : Pen) (low : 1 ≤ g.order) (h : Reached g d o p (bit_count g.order)) where
  moved : p.kept * 2 ^ (63 - p.have) % 2 ^ 64 ≡ p.kept * 2 ^ (63 - p.have)
  moved = shl_exact p.have (63 - p.have) 64 (kept_small g d o p (bit_count g.order) h) (omega (arith, h.few))

  pub last_word : p.kept * 2 ^ (63 - p.have) % 2 ^ 64 * 2 ≡ num (record_bit g) (8 * p.stored) 64
  last_word =
      let e : p.have + (64 - p.have) ≡ 64 = omega (arith, h.few) in
      let k : 64 - p.have ≡ 63 - p.have + 1 = omega (arith, h.few) in
      let zeros : num (record_bit g) (8 * p.stored + p.have) (64 - p.have) ≡ 0 =
      num_of_zeros (record_bit g) (8 * p.stored + p.have) (64 - p.have) (λ t l. pad_held g (8 * p.stored + p.have + t) low (omega (arith, h.at))) in
      ap (λ (x : ℕ). x * 2) moved
      ∙ doubled p.kept (2 ^ (63 - p.have)) (2 ^ (64 - p.have)) (rw k (pow-add 2 (63 - p.have) 1))
      ∙ sym (ap (num (record_bit g) (8 * p.stored)) (sym e) ∙ num_append (record_bit g) (8 * p.stored) p.have (64 - p.have)
      ∙ ap₂ (λ (x y : ℕ). x * 2 ^ (64 - p.have) + y) (sym h.bits) zeros ∙ add-zero (p.kept * 2 ^ (64 - p.have)))
    where
      doubled : (a x y : ℕ) → y ≡ x * 2 → a * x * 2 ≡ a * y
      doubled a x y q = mul_assoc a x 2 ∙ ap (λ (z : ℕ). a * z) (sym q)

  pub last_fits : Fits w64 (p.kept * 2 ^ (63 - p.have) % 2 ^ 64 * 2)
  last_fits = record { fits = rw last_word (num_below (record_bit g) (record_bit_small g) (8 * p.stored) 64) }

pub last_room : (g : Graph) (d o : List ℕ) (p : Pen) → Reached g d o p (bit_count g.order)
    → p.stored + (p.have + 7) / 8 ≤ length o
unfolding byte_count
last_room g d o p h = omega (arith, h.at, h.room, h.long)

-- ---- the whole

pub starts_room : (n : ℕ) (d : List ℕ) → byte_count n ≤ length d → 6 + (n - 1) ≤ 8 * length d
unfolding bit_count
starts_room n d room = omega (arith, bits_in_bytes n, room)

module _ (g : Graph) (d : List ℕ) (low : 1 ≤ g.order) (high : g.order ≤ 32) (room : byte_count g.order ≤ length d) where
  module _ (p : Pen) (stored_none : p.stored ≡ 0) (have_six : p.have ≡ 6) (kept_order : p.kept ≡ g.order) where
    ordered : Reached g d d p 6
    unfolding order_in
    ordered =
        record { at = omega arith; few = omega arith; bits = rw (stored_none, have_six) (kept_order ∙ sym (order_held g (lt_of_le_of_lt high (lit< tt)))); bytes = rw stored_none (filled_starts (record_byte g) d); long = refl; room = room }

    started : (o : List ℕ) (r : Pen) (v : ℕ) → v ≡ num (start_at g.starts) 2 (g.order - 1)
        → IsPushed d p v (g.order - 1) o r → Reached g d o r (cell g.order 1 2)
    unfolding bit_count cell
    started o r v is_v u =
        let e : 6 + (g.order - 1) ≡ entry_place g.order (number g.order 1 2) = omega (arith, number_first g.order) in
        subst (Reached g d o r) e
        (pushes g d d o p r v (g.order - 1) 6 ordered u
        (is_v ∙ num_same (start_at g.starts) (record_bit g) 2 6 (g.order - 1)
        (λ t l. let k : 6 + (2 + t - 2) ≡ 6 + t = omega arith in sym (start_held g (2 + t) (omega arith) (omega arith)) ∙ ap (record_bit g) k))
        (omega arith) (omega (arith, all_room g d room)))

    pub rows_begin : (o : List ℕ) (r : Pen) (v : ℕ) → v ≡ num (start_at g.starts) 2 (g.order - 1)
        → IsPushed d p v (g.order - 1) o r → Reached g o o r (cell g.order 1 2)
    rows_begin o r v is_v u = from_here g d o r (cell g.order 1 2) (started o r v is_v u)

    pub all_stored : (o₁ o₂ o₃ : List ℕ) (p₁ p₂ : Pen) (v : ℕ) → v ≡ num (start_at g.starts) 2 (g.order - 1)
        → IsPushed d p v (g.order - 1) o₁ p₁
        → Reached g o₁ o₂ p₂ (bit_count g.order) → p₁.stored ≤ p₂.stored
        → o₃ ≡ stored o₂ p₂.stored (p₂.kept * 2 ^ (63 - p₂.have) % 2 ^ 64 * 2) ((p₂.have + 7) / 8)
        → o₃ ≡ record_of g ++ drop (byte_count g.order) d
    unfolding record_of byte_count
    all_stored o₁ o₂ o₃ p₁ p₂ v is_v u b later is_o =
        let h = joined g d o₁ o₂ p₁ p₂ (cell g.order 1 2) (bit_count g.order) (started o₁ p₁ v is_v u) b later in
        let k : p₂.stored + (p₂.have + 7) / 8 ≡ byte_count g.order = omega (arith, h.at) in
        is_o
        ∙ stored_filled g d o₂ p₂.stored (p₂.kept * 2 ^ (63 - p₂.have) % 2 ^ 64 * 2) ((p₂.have + 7) / 8) h.bytes (last_word g d o₂ p₂ low h)
        (omega (arith, h.few)) (omega (arith, k, room))
        ∙ ap (λ (y : ℕ). list_up_to (record_byte g) y ++ drop y d) k
