-- How far the entries are known not to be refused.
use Rattle.std.specs.Prelude.{ℕ, ◌≤◌, ◌≡◌}
use Rattle.laws.specs.First.{first_up_to}
use Rattle.pairs.specs.Pairs.{pair_count}
use Rattle.record.specs.Reading.{is_refused}

-- none of the first m pairs' entries is refused
pub record NoneUpTo (f : ℕ → ℕ) (n m : ℕ) : Type 0 where
  pub within : m ≤ pair_count n
  pub none : first_up_to (is_refused f n) m ≡ 0
