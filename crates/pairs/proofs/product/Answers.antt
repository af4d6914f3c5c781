use borrow.Author.Rules.{rules}
use Rattle.pairs.proofs.Products.{product_small, product_fits}
use Rattle.pairs.proofs.product.Goals as goal

pub overflow_mul-result : goal.overflow_mul-result
overflow_mul-result c = search (product_fits, rules)

pub returns : goal.returns
returns c = search (product_small, rules)
