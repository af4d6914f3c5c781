use borrow.Author.Rules.{rules}
use mathlib.Core.Path.{ap}
use Rattle.kinds.specs.Kind.{kind_code}
use Rattle.clause.proofs.CodeClause.{negated_fits, puts_not, puts_pair, puts_none}
use Rattle.clause.proofs.written.put.Goals as goal

pub overflow_sub-literals : goal.overflow_sub-literals
overflow_sub-literals c = search (negated_fits, rules)

pub returns-in-Nothing : goal.returns-in-Nothing
returns-in-Nothing c = puts_none _ _ _ _ (ap kind_code c.in-Nothing.is)

pub returns-in-Not : goal.returns-in-Not
returns-in-Not c = puts_not _ _ _ _ (ap kind_code c.in-Not.is) (search rules) (search rules)

pub returns-in-Pair : goal.returns-in-Pair
returns-in-Pair c = puts_pair _ _ _ _ (ap kind_code c.in-Pair.is) (search rules) (search rules)
