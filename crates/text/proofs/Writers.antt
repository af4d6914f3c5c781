-- What a writer puts, part after part.
use Rattle.std.proofs.Common.{ℕ, List, [], ◌∷◌, ◌++◌, refl, ◌∙◌, ◌+◌, ◌≤◌, ◌<◌, length, drop, get_or, drop-cons, add-one, drop_of_length-le}
use Rattle.text.specs.declared.writer.Writer.{Writer}
use Rattle.text.specs.Page.{written}
use Rattle.text.specs.Writer.{Puts}
use Rattle.text.proofs.Pages.{written_append}

-- nothing
pub puts_none : (w : Writer) → Puts w [] w
unfolding written
puts_none w = record { same_buffer = refl; adds = refl }

-- a text, and then another
pub puts_append : {p q r : Writer} {xs ys : List ℕ} → Puts p xs q → Puts q ys r → Puts p (xs ++ ys) r
puts_append a b = record {
  same_buffer = b.same_buffer ∙ a.same_buffer;
  adds = rw (written_append, ← a.adds) b.adds;
}

-- once the rest of a text is put, the text is
pub record Left (start : Writer) (text : List ℕ) (here : Writer) (rest : List ℕ) : Type 0 where
  pub ends : (end : Writer) → Puts here rest end → Puts start text end

-- at its start all of it is left
pub left_all : (w : Writer) (text : List ℕ) → Left w text w text
left_all w text = record { ends = λ end h. h }

-- a part more
pub left_less : (s h m : Writer) (text xs ys : List ℕ) → Left s text h (xs ++ ys) → Puts h xs m → Left s text m ys
left_less s h m text xs ys l p = record { ends = λ end e. l.ends end (puts_append p e) }

-- nothing is left
pub left_none : (s h : Writer) (text : List ℕ) → Left s text h [] → Puts s text h
left_none s h text l = l.ends h (puts_none h)

-- one more of a list
pub left_byte : (s h m : Writer) (text l : List ℕ) (i : ℕ) → Left s text h (drop i l) → i < length l → Puts h (get_or l i 0 ∷ []) m → Left s text m (drop (i + 1) l)
left_byte s h m text l i e b p = left_less s h m text (get_or l i 0 ∷ []) (drop (i + 1) l) (rw (drop-cons l i 0 b, ← add-one) at e) p

-- all of it
pub left_end : (s h : Writer) (text l : List ℕ) (i : ℕ) → Left s text h (drop i l) → length l ≤ i → Puts s text h
left_end s h text l i e b = left_none s h text (rw (drop_of_length-le l b) at e)
