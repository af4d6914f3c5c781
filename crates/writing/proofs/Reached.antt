-- Laws of how far the writing of a record has come.
use Prim.Native.Nat.{ℕ, zero, suc, ◌+◌, ◌-◌, ◌*◌, ◌/◌, ◌%◌, ◌^◌, ◌≤◌, ◌<◌}
use native.Mathlib.Omega.{arith}
use mathlib.Core.Path.{◌≡◌, refl, sym, ap, ap₂, ◌∙◌}
use mathlib.Core.Bool.{false}
use mathlib.Core.List.{List, ◌++◌}
use lib.ListN.{length, drop}
use lib.Dec.{ltb}
use lib.Pow.{low}
use borrow.Author.Tests.{lt-ltb, le-ltb}
use Rattle.laws.specs.Compared.{by_below}
use Rattle.laws.specs.TestLaws.{pick_true, pick_false}
use Rattle.laws.specs.UpTo.{list_up_to}
use Rattle.laws.specs.UpToLaws.{list_length}
use lib.Seq.{drop-append-add, drop-drop}
use Rattle.laws.specs.Num.{num, num_append, num_below, num_top}
use Rattle.graph.specs.declared.Graph.{Graph}
use Rattle.record.specs.Writing.{record_bit, record_byte}
use Rattle.record.proofs.WriteLaws.{record_bit_small}
use Rattle.writing.proofs.Buffer.{filled_turns}
use Rattle.pen.proofs.CodePen.{stored_long}
use Rattle.pen.specs.declared.Pen.{Pen}
use Rattle.writing.specs.Reached.{Reached}
use Rattle.pen.specs.Stored.{stored}
use Rattle.pen.specs.Pushed.{IsPushed, full, among}

-- so many bits are below a power
pub kept_small : (g : Graph) (d o : List ℕ) (p : Pen) (place : ℕ) → Reached g d o p place → p.kept < 2 ^ p.have
kept_small g d o p place h = rw h.bits (num_below (record_bit g) (record_bit_small g) (8 * p.stored) p.have)

-- ---- bytes of a word

-- byte t of the 64 bits from byte s on
byte_of : (g : Graph) (s t word : ℕ) → word ≡ num (record_bit g) (8 * s) 64 → t < 8
    → word / 2 ^ (56 - 8 * t) % 256 ≡ record_byte g (s + t + 1)
unfolding record_byte
byte_of g s t word is_Is_word l =
    let e : 64 ≡ 8 * t + 8 + (56 - 8 * t) = omega arith in
    let k : 8 * s + 8 * t ≡ 8 * (s + t + 1 - 1) = omega arith in
    ap (λ (x : ℕ). x / 2 ^ (56 - 8 * t) % 256) (is_Is_word ∙ ap (num (record_bit g) (8 * s)) e)
    ∙ ap (λ (x : ℕ). x % 256) (num_top (record_bit g) (record_bit_small g) (8 * s) (8 * t + 8) (56 - 8 * t) ∙ num_append (record_bit g) (8 * s) (8 * t) 8)
    ∙ low (num (record_bit g) (8 * s) (8 * t)) 8 (num_below (record_bit g) (record_bit_small g) (8 * s + 8 * t) 8)
    ∙ ap (λ (a : ℕ). num (record_bit g) a 8) k

-- t of them stored
pub stored_filled : (g : Graph) (d o : List ℕ) (s word t : ℕ) → o ≡ list_up_to (record_byte g) s ++ drop s d
    → word ≡ num (record_bit g) (8 * s) 64 → t ≤ 8 → s + t ≤ length d
    → stored o s word t ≡ list_up_to (record_byte g) (s + t) ++ drop (s + t) d
unfolding stored
stored_filled g d o s word zero is_o is_Is_word l room = let e : s + 0 ≡ s = omega arith in rw e is_o
stored_filled g d o s word (suc t) is_o is_Is_word l room =
    let e : s + suc t ≡ s + t + 1 = omega arith in
    filled_turns (record_byte g) (s + t) (word / 2 ^ (56 - 8 * t) % 256) (length d) (length d) (stored o s word t) d
    (stored_filled g d o s word t is_o is_Is_word (omega arith) (omega arith)) (byte_of g s t word is_Is_word (omega arith)) (omega arith) refl (omega arith)
    ∙ ap (λ (x : ℕ). list_up_to (record_byte g) x ++ drop x d) (sym e)

-- ---- one more field

-- no byte is taken back
pub pushed_later : (o o' : List ℕ) (p r : Pen) (v w : ℕ) → IsPushed o p v w o' r → p.stored ≤ r.stored
pushed_later o o' p r v w u =
    by_below (among p w) 64 (λ l. rw (u.is_stored ∙ pick_true _ _ _ (lt-ltb (among p w) 64 l)) (omega arith))
    (λ l. rw (u.is_stored ∙ pick_false _ _ _ (le-ltb (among p w) 64 l)) (omega arith))

module _ (g : Graph) (d o o' : List ℕ) (p r : Pen) (v w place : ℕ) (h : Reached g d o p place) (u : IsPushed o p v w o' r)
    (is_v : v ≡ num (record_bit g) place w) (lw : w ≤ 62) (room : place + w ≤ 8 * length d) where
  waits : among p w < 64 → Reached g d o' r (place + w)
  waits l =
      let t = lt-ltb (among p w) 64 l in
      let s : r.stored ≡ p.stored = u.is_stored ∙ pick_true _ _ _ t in
      let n : r.have ≡ among p w = u.is_have ∙ pick_true _ _ _ t in
      let k : r.kept ≡ num (record_bit g) (8 * p.stored) (among p w) =
      u.is_kept ∙ pick_true _ _ _ t
      ∙ ap₂ (λ (x y : ℕ). x * 2 ^ w + y) h.bits (is_v ∙ ap (λ (x : ℕ). num (record_bit g) x w) (sym h.at))
      ∙ sym (num_append (record_bit g) (8 * p.stored) p.have w) in
      let b : o' ≡ o = u.is_out ∙ pick_true _ _ _ t in
      record {
        at = omega (arith, h.at);
        few = omega arith;
        bits = k ∙ ap₂ (λ (x y : ℕ). num (record_bit g) (8 * x) y) (sym s) (sym n);
        bytes = b ∙ h.bytes ∙ ap (λ (x : ℕ). list_up_to (record_byte g) x ++ drop x d) (sym s);
        long = ap length b ∙ h.long;
        room = h.room;
      }

  module _ (l : 64 ≤ among p w) where
    t : ltb (among p w) 64 ≡ false
    t = le-ltb (among p w) 64 l

    -- the field in two parts: what fills the eight bytes, and what is left
    parts : v ≡ num (record_bit g) place (64 - p.have) * 2 ^ (among p w - 64) + num (record_bit g) (place + (64 - p.have)) (among p w - 64)
    parts =
        let e : w ≡ 64 - p.have + (among p w - 64) = omega (arith, h.few) in
        is_v ∙ ap (num (record_bit g) place) e ∙ num_append (record_bit g) place (64 - p.have) (among p w - 64)

    top : v / 2 ^ (among p w - 64) ≡ num (record_bit g) place (64 - p.have)
    top =
        let e : w ≡ 64 - p.have + (among p w - 64) = omega (arith, h.few) in
        ap (λ (x : ℕ). x / 2 ^ (among p w - 64)) (is_v ∙ ap (num (record_bit g) place) e)
        ∙ num_top (record_bit g) (record_bit_small g) place (64 - p.have) (among p w - 64)

    full_is : full p v w ≡ num (record_bit g) (8 * p.stored) 64
    full_is =
        let e : p.have + (64 - p.have) ≡ 64 = omega (arith, h.few) in
        ap₂ (λ (x y : ℕ). x * 2 ^ (64 - p.have) + y) h.bits (top ∙ ap (λ (x : ℕ). num (record_bit g) x (64 - p.have)) (sym h.at))
        ∙ sym (num_append (record_bit g) (8 * p.stored) p.have (64 - p.have)) ∙ ap (num (record_bit g) (8 * p.stored)) e

    stores : Reached g d o' r (place + w)
    stores =
        let s : r.stored ≡ p.stored + 8 = u.is_stored ∙ pick_false _ _ _ t in
        let n : r.have ≡ among p w - 64 = u.is_have ∙ pick_false _ _ _ t in
        let k : r.kept ≡ num (record_bit g) (place + (64 - p.have)) (among p w - 64) =
        u.is_kept ∙ pick_false _ _ _ t ∙ ap (λ (x : ℕ). x % 2 ^ (among p w - 64)) parts
        ∙ low (num (record_bit g) place (64 - p.have)) (among p w - 64) (num_below (record_bit g) (record_bit_small g) (place + (64 - p.have)) (among p w - 64)) in
        let b : o' ≡ stored o p.stored (full p v w) 8 = u.is_out ∙ pick_false _ _ _ t in
        let e : place + (64 - p.have) ≡ 8 * r.stored = omega (arith, h.at, h.few) in
        record {
          at = omega (arith, h.at);
          few = omega (arith, h.few);
          bits = k ∙ ap₂ (num (record_bit g)) e (sym n);
          bytes =
              b ∙ stored_filled g d o p.stored (full p v w) 8 h.bytes full_is (omega arith) (omega (arith, h.at))
              ∙ ap (λ (x : ℕ). list_up_to (record_byte g) x ++ drop x d) (sym s);
          long = ap length b ∙ stored_long o p.stored (full p v w) 8 ∙ h.long;
          room = h.room;
        }

  pub pushes : Reached g d o' r (place + w)
  pushes = by_below (among p w) 64 waits stores

-- ---- from one call to the next

-- what is stored does not change what comes after it
after_stored : (f : ℕ → ℕ) (s t : ℕ) (o d : List ℕ) → o ≡ list_up_to f s ++ drop s d → s ≤ t → drop t o ≡ drop t d
after_stored f s t o d e l =
    let k : t ≡ length (list_up_to f s) + (t - s) = omega (arith, list_length f s) in
    let m : s + (t - s) ≡ t = omega arith in
    ap (drop t) e ∙ ap (λ (x : ℕ). drop x (list_up_to f s ++ drop s d)) k ∙ drop-append-add (list_up_to f s) (drop s d) (t - s)
    ∙ drop-drop (t - s) s d ∙ ap (λ (x : ℕ). drop x d) m

-- a later call starts from what it finds
pub from_here : (g : Graph) (d o : List ℕ) (p : Pen) (place : ℕ) → Reached g d o p place → Reached g o o p place
from_here g d o p place h =
    record {
      at = h.at;
      few = h.few;
      bits = h.bits;
      bytes = h.bytes ∙ ap (λ (x : List ℕ). list_up_to (record_byte g) p.stored ++ x) (sym (after_stored (record_byte g) p.stored p.stored o d h.bytes (omega arith)));
      long = refl;
      room = omega (arith, h.room, h.long);
    }

-- and what it reaches is reached from the first
pub joined : (g : Graph) (d o o' : List ℕ) (p p' : Pen) (a b : ℕ) → Reached g d o p a → Reached g o o' p' b
    → p.stored ≤ p'.stored → Reached g d o' p' b
joined g d o o' p p' a b h k l =
    record {
      at = k.at;
      few = k.few;
      bits = k.bits;
      bytes =
          k.bytes
          ∙ ap (λ (x : List ℕ). list_up_to (record_byte g) p'.stored ++ x)
          (after_stored (record_byte g) p.stored p'.stored o d h.bytes l);
      long = k.long ∙ h.long;
      room = h.room;
    }
